-- A removal's pass in a whole run starts from a good tableau, without the symbols of what is removed. Assumes nothing.
use Prim.Native.Nat.{ℕ, ◌-◌}
use mathlib.Core.Path.{◌≡◌, refl, sym, ap, ◌∙◌, subst}
use mathlib.Core.List.{List, []}
use mathlib.Core.Option.{Option, none, some}
use mathlib.Core.Bool.{Bool, true, false}
use lib.Ieee.{Float}
use Rattle.simplex.specs.Ord.{0ℤ}
use Rattle.simplex.specs.Choose.{All}
use Rattle.steps.specs.Number.{Mark, all_whole, not_whole, not_finite}
use Rattle.steps.specs.State.{strength_of, Tag, Constraint, Edit, Term, State}
use Rattle.steps.specs.Work.{Work, Outcome, refused, going, ◌>>=◌, refuse, check_finite}
use Rattle.steps.specs.Optimise.{the_objective}
use Rattle.steps.specs.Remove.{drop_marker, purge_tag}
use Rattle.steps.specs.Edit.{edit_terms}
use Rattle.steps.specs.Tests.{find_constraint, find_edit, gone_full}
use Rattle.steps.specs.Calls.{begin}
use Rattle.steps.proofs.AfterRemove.{purge_tag-after}
use Rattle.simplex.proofs.bridge.Runs.{optimise-mark}
use Rattle.run.specs.Demand.{Key, of_constraint, of_edit, Moment, removes, removes_edit}
use Rattle.run.specs.Inv.{columns, Held, find_held, ConstraintAt, EditAt, Inv}
use Rattle.run.specs.RemoveSteps.{first, Begun, begins, inside}
use Rattle.run.specs.stall.Stall.{optimising, PassStart, outcome_by, outcome_of, objective_pass, remove_passes, passes_of, passes_unless}
use Rattle.run.proofs.stall.Pass.{Starts, Unmarred}

module _ (m : Moment) (I : Inv m) (k : Key) (h : Held) (found : find_held k I.held ≡ some h) (b : ℕ) where
  abbrev Started : Outcome Work → Type 0
  Started t = All Unmarred (objective_pass b (purge_tag h.tag) t) → All Starts (objective_pass b (purge_tag h.tag) t)

  begun : (t : Outcome Work) → drop_marker h.tag.marker (first m I k h found) ≡ t → Started t
  unfolding objective_pass outcome_of outcome_by
  begun (refused n p q) e u = tt
  begun (going v) e u = (start, tt)
    where
      B : Begun m I k h found v
      B = begins m I k h found v e ((purge_tag-after h.tag v).mark (optimise-mark (b - v.pivots) the_objective (purge_tag h.tag v) u.0))

      start : Starts (record { rule = optimising the_objective; left = b - v.pivots; work = purge_tag h.tag v })
      start = record { n = columns; kind = B.cleared.kind'; table = B.table; other = λ _. 0ℤ; good = B.cleared.read.good; reads = B.cleared.read.reads; inside = inside m I k h found v B }

  steps-start : All Unmarred (remove_passes b h.tag (strength_of h.demand.relation) (begin m.state)) → All Starts (remove_passes b h.tag (strength_of h.demand.relation) (begin m.state))
  unfolding remove_passes check_finite refuse ◌>>=◌ first objective_pass
  steps-start = go (first m I k h found).mark
    where
      go : (q : Mark) → Started ((elim q as (λ x. Outcome Work) [ all_whole ↦ going (first m I k h found) | not_whole ↦ going (first m I k h found) | not_finite ↦ refused 13 (first m I k h found).pivots (first m I k h found).mark ]) >>= drop_marker h.tag.marker)
      go all_whole = begun (drop_marker h.tag.marker (first m I k h found)) refl
      go not_whole = begun (drop_marker h.tag.marker (first m I k h found)) refl
      go not_finite = λ u. tt

-- ---- the two calls

-- the same passes, given by equal parts
passes_same : (b : ℕ) (w : Work) {t u : Tag} {x y : Float} → t ≡ u → x ≡ y → remove_passes b t x w ≡ remove_passes b u y w
passes_same b w {t} {u} {x} {y} p q = ap (λ (t : Tag). remove_passes b t x w) p ∙ ap (λ (x : Float). remove_passes b u x w) q

stored : (m : Moment) (I : Inv m) (k : Key) (h : Held) → find_held k I.held ≡ some h → (b : ℕ) (t : Tag) (x : Float) → t ≡ h.tag → x ≡ strength_of h.demand.relation
    → All Unmarred (remove_passes b t x (begin m.state)) → All Starts (remove_passes b t x (begin m.state))
stored m I k h f b t x p q u =
    let e = passes_same b (begin m.state) p q in
    subst (λ (l : List PassStart). All Starts l) (sym e) (steps-start m I k h f b (subst (λ (l : List PassStart). All Unmarred l) e u))

-- those of a removal that 25 refuses are none
unless-starts : (ts : List Term) (s : State) (ps : List PassStart) → (All Unmarred ps → All Starts ps) → All Unmarred (passes_unless ts s ps) → All Starts (passes_unless ts s ps)
unfolding passes_unless
unless-starts ts s ps f = go (gone_full ts s)
  where
    go : (t : Bool) → All Unmarred (elim t as (λ _. List PassStart) [ true ↦ [] | false ↦ ps ]) → All Starts (elim t as (λ _. List PassStart) [ true ↦ [] | false ↦ ps ])
    go true u = tt
    go false u = f u

-- a stored constraint's
pub stored-starts : (m : Moment) (I : Inv m) (n b : ℕ) (c : Constraint) → find_constraint n m.state.constraints ≡ some c → All Unmarred (remove_passes b c.tag c.strength (begin m.state)) → All Starts (remove_passes b c.tag c.strength (begin m.state))
stored-starts m I n b c e = go (find_held (of_constraint n) I.held) refl (subst (λ (o : Option Constraint). ConstraintAt o (find_held (of_constraint n) I.held)) e (I.constraints n))
  where
    go : (g : Option Held) → find_held (of_constraint n) I.held ≡ g → ConstraintAt (some c) g → All Unmarred (remove_passes b c.tag c.strength (begin m.state)) → All Starts (remove_passes b c.tag c.strength (begin m.state))
    go none f a u = absurd a
    go (some h) f a u = stored m I (of_constraint n) h f b c.tag c.strength a.tag a.strength u

pub remove-starts : (m : Moment) (I : Inv m) (n b : ℕ) → All Unmarred (passes_of (removes n b) m.state) → All Starts (passes_of (removes n b) m.state)
unfolding passes_of
remove-starts m I n b = go (find_constraint n m.state.constraints) refl
  where
    passes : Constraint → List PassStart
    passes c = remove_passes b c.tag c.strength (begin m.state)

    go : (o : Option Constraint) → find_constraint n m.state.constraints ≡ o
        → All Unmarred (elim o as (λ x. List PassStart) [ none ↦ [] | some c ↦ passes_unless c.terms m.state (passes c) ]) → All Starts (elim o as (λ x. List PassStart) [ none ↦ [] | some c ↦ passes_unless c.terms m.state (passes c) ])
    go none e u = tt
    go (some c) e u = unless-starts c.terms m.state (passes c) (stored-starts m I n b c e) u

pub remove_edit-starts : (m : Moment) (I : Inv m) (v b : ℕ) → All Unmarred (passes_of (removes_edit v b) m.state) → All Starts (passes_of (removes_edit v b) m.state)
unfolding passes_of
remove_edit-starts m I v b = go (find_edit v m.state.edits) (find_held (of_edit v) I.held) refl (I.edits v)
  where
    passes : Edit → List PassStart
    passes e = remove_passes b e.tag e.strength (begin m.state)

    go : (o : Option Edit) (g : Option Held) → find_held (of_edit v) I.held ≡ g → EditAt v o g
        → All Unmarred (elim o as (λ x. List PassStart) [ none ↦ [] | some e ↦ passes_unless (edit_terms v) m.state (passes e) ]) → All Starts (elim o as (λ x. List PassStart) [ none ↦ [] | some e ↦ passes_unless (edit_terms v) m.state (passes e) ])
    go none g f a u = tt
    go (some e) none f a u = absurd a
    go (some e) (some h) f a u = unless-starts (edit_terms v) m.state (passes e) (stored m I (of_edit v) h f b e.tag e.strength a.tag (sym (ap strength_of a.relation ∙ unfold strength_of in refl))) u
