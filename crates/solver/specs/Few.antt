-- How often a variable of a state that reads as one is used: once in each term, each constraint and edit counted.
-- Assumes nothing.
use Rattle.std.specs.Prelude.{ℕ, suc, ◌+◌, ◌*◌, ◌≤◌, Bool, true, false, cond, List, [], ◌∷◌, eqb, length}
use Rattle.std.proofs.Common.{arith}
use Rattle.steps.specs.Number.{one64}
use Rattle.steps.specs.State.{Term, Constraint, Edit, State}
use Rattle.steps.specs.Edit.{edit_terms}
use Rattle.steps.specs.Readable.{uses_in}
use Rattle.keeps.specs.Lists.{All, total}
use Rattle.keeps.specs.Uses.{uses_of}
use Rattle.keeps.specs.Reads.{Reads}
use Rattle.layout.specs.Layout.{term_room}

uses-few : (n : ℕ) (ts : List Term) → uses_in n ts ≤ length ts
unfolding uses_in
uses-few n [] = omega arith
uses-few n (t ∷ ts) = go (eqb n t.variable) (uses-few n ts)
  where
    go : (b : Bool) → uses_in n ts ≤ length ts → cond b 1 0 + uses_in n ts ≤ suc (length ts)
    go true h = omega arith
    go false h = omega arith

terms-few : (n : ℕ) (cs : List Constraint) → All (λ (c : Constraint). length c.terms ≤ term_room) cs → total (λ (c : Constraint). uses_in n c.terms) cs ≤ term_room * length cs
unfolding total
terms-few n [] h = omega arith
terms-few n (c ∷ cs) h = omega (arith, uses-few n c.terms, h.0, terms-few n cs h.1)

edits-few : (n : ℕ) (es : List Edit) → total (λ (e : Edit). uses_in n (edit_terms e.variable)) es ≤ length es
unfolding total edit_terms
edits-few n [] = omega arith
edits-few n (e ∷ es) = omega (arith, uses-few n (record { variable = e.variable; coefficient = one64 } ∷ []), edits-few n es)

pub uses-spare : (s : State) → Reads s → (n : ℕ) → uses_of n s.changes.variables ≤ 4_294_900_000
uses-spare s r n = omega (arith, r.uses n, terms-few n s.constraints r.few-terms, edits-few n s.edits, r.few-tags)
