-- What is shown has at most 16 terms. Assumes nothing.
use Rattle.std.specs.Prelude.{ℕ, ◌≤◌, ◌≡◌, refl, Bool, true, false, cond, List, [], ◌∷◌, eqb, length, get_or}
use Rattle.std.proofs.Math.Option.{Option, none, some}
use Rattle.std.proofs.Common.{arith}
use Rattle.steps.specs.State.{Constraint}
use Rattle.steps.specs.Tests.{find_constraint}
use Rattle.steps.specs.Shown.{Given, given_of, shown}
use Rattle.keeps.specs.Lists.{All}
use Rattle.keeps.specs.Tested.{reads_in}
use Rattle.layout.specs.Layout.{term_room}
use Rattle.sparse.specs.Sparse.{Sparse, read}
use Rattle.sparse_test.specs.Reads.{reads}
use Rattle.sparse_test.specs.Meaning.{reads-readable}
use Rattle.fetches.specs.shown.Shown.{without, line_of, show_of}

abbrev pub FewOf : Option Given → Type 0
FewOf none = Unit {0}
FewOf (some g) = length g.terms ≤ term_room

pub few-shown : (t : Sparse) (n : ℕ) → reads t ≡ true → FewOf (shown n (read t))
unfolding shown given_of find_constraint
few-shown t n ok = go (read t).constraints (reads_in (read t) (reads-readable t ok)).few-terms
  where
    seen : Option Constraint → Option Given
    seen o = elim o [ none ↦ none | some c ↦ some (given_of c) ]

    go : (cs : List Constraint) → All (λ (c : Constraint). length c.terms ≤ term_room) cs → FewOf (seen (find_constraint n cs))
    go [] h = tt
    go (c ∷ cs) h = test (eqb n c.number) h.0 (go cs h.1)
      where
        test : (b : Bool) → length c.terms ≤ term_room → FewOf (seen (find_constraint n cs)) → FewOf (seen (elim b [ true ↦ some c | false ↦ find_constraint n cs ]))
        test true p q = p
        test false p q = q

pub show-few : (n : ℕ) (t : Sparse) → get_or (show_of n t).words 4 0 ≤ term_room
unfolding show_of line_of
show-few n t = go (reads t) refl
  where
    known : (o : Option Given) → FewOf o → get_or (line_of o).words 4 0 ≤ term_room
    known none f = omega arith
    known (some g) f = f

    go : (b : Bool) → reads t ≡ b → get_or (cond b (line_of (shown n (read t))) (without 18)).words 4 0 ≤ term_room
    go true e = known (shown n (read t)) (few-shown t n e)
    go false e = omega arith
