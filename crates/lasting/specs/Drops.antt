-- "all or none": a drop that is refused leaves every table as it was, at whichever of its removals it is refused; "a refusal at the fifth leaves half a pane" no longer. Assumes nothing.
use Rattle.std.specs.Prelude.{ℕ, ◌+◌, ◌-◌, ◌≡◌, ◌≢◌, Bool, true, false, List, [], ◌∷◌, ◌++◌, eqb}
use Rattle.std.proofs.Math.Path.{refl}
use Rattle.std.proofs.Common.{sym, ap, ◌∙◌, zero-add, arith, ne_eqb}
use Rattle.std.proofs.Math.Option.{none}
use Rattle.std.proofs.Math.Nat.{sub-zero}
use Rattle.std.proofs.lemmas.Bool.{eqb-false}
use Rattle.steps.specs.State.{Constraint, State}
use Rattle.steps.specs.Tests.{first_refusal, group_of, drop_tests}
use Rattle.steps.specs.Calls.{Result, refused_by, remove_stored, onward, remove_all, all_or_none, drop_group}
use Rattle.steps.specs.Changing.{drops}
use Rattle.sparse.specs.Sparse.{Sparse, read}
use Rattle.sparse.proofs.Written.{write_read}
use Rattle.sparse_test.specs.Reads.{reads}
use Rattle.sparse_test.specs.Meaning.{reads-form}
use Rattle.lending.specs.Lending.{called, call_in, call_of}
use Rattle.solver.specs.Dropping.{drop-passed}
use Rattle.lasting.specs.Promises.{refused-leaves}

-- "A refusal changes no table", whatever the tables and the working room hold
pub drop-leaves : (g b : ℕ) (w t : Sparse) → (call_of (drop_group g b) w t).answer.number ≢ 0 → (call_of (drop_group g b) w t).tables ≡ t
drop-leaves g b w t h = refused-leaves (drops g b) w t h

-- ---- refused at one removal

-- what comes after p pivots
abbrev later : ℕ → Result → Result
later p r = record { answer = record { number = r.answer.number; pivots = p + r.answer.pivots; whole = r.answer.whole }; state = r.state }

-- the removal of d after those of ps, with what they left of the budget
abbrev pub after_those : List Constraint → Constraint → ℕ → State → Result
after_those ps d b s = let before : Result = remove_all ps b s in remove_stored d.number d (b - before.answer.pivots) before.state

onward-on : (r q : Result) → eqb r.answer.number 0 ≡ true → onward r q ≡ later r.answer.pivots q
onward-on r q e = unfold onward in rw (e, onward) refl

onward_stops : (r q : Result) → eqb r.answer.number 0 ≡ false → onward r q ≡ r
onward_stops r q e = unfold onward in rw (e, onward) refl

none-stay : (s : State) (r : Result) → eqb r.answer.number 0 ≡ false → all_or_none s r ≡ refused_by r.answer.number r.answer.pivots r.answer.whole s
unfolding all_or_none
none-stay s r e = rw (e, all_or_none) refl

-- the removals before it were accepted, and those after it are not made
stops : (ps : List Constraint) (d : Constraint) (qs : List Constraint) (b : ℕ) (s : State) → (remove_all ps b s).answer.number ≡ 0 → eqb (after_those ps d b s).answer.number 0 ≡ false
    → remove_all (ps ++ d ∷ qs) b s ≡ later (remove_all ps b s).answer.pivots (after_those ps d b s)
unfolding remove_all
stops [] d qs b s e f = onward_stops (remove_stored d.number d b s) _ (rw sub-zero at f) ∙ rw (sub-zero, zero-add) refl
stops (c ∷ ps) d qs b s e f = go (eqb one.answer.number 0) refl (λ e f. stops ps d qs (b - one.answer.pivots) one.state e f)
  where
    one : Result
    one = remove_stored c.number c b s

    rest : Result
    rest = remove_all ps (b - one.answer.pivots) one.state

    last : Result
    last = after_those ps d (b - one.answer.pivots) one.state

    go : (x : Bool) → eqb one.answer.number 0 ≡ x
        → (rest.answer.number ≡ 0 → eqb last.answer.number 0 ≡ false → remove_all (ps ++ d ∷ qs) (b - one.answer.pivots) one.state ≡ later rest.answer.pivots last)
        → onward one (remove_all (ps ++ d ∷ qs) (b - one.answer.pivots) one.state) ≡ later (onward one rest).answer.pivots (remove_stored d.number d (b - (onward one rest).answer.pivots) (onward one rest).state)
    go false q ih = absurd (eqb-false one.answer.number 0 q (ap (λ (r : Result). r.answer.number) (sym (onward_stops one rest q)) ∙ e))
    go true q ih =
        let o : onward one rest ≡ later one.answer.pivots rest = onward-on one rest q in
        let d₁ : b - (one.answer.pivots + rest.answer.pivots) ≡ b - one.answer.pivots - rest.answer.pivots = omega arith in
        let e₁ : rest.answer.number ≡ 0 = ap (λ (r : Result). r.answer.number) (sym o) ∙ e in
        let f₁ : eqb last.answer.number 0 ≡ false = rw (o, d₁) at f in
        let sum : one.answer.pivots + (rest.answer.pivots + last.answer.pivots) ≡ one.answer.pivots + rest.answer.pivots + last.answer.pivots = omega arith in
        onward-on one _ q ∙ ap (later one.answer.pivots) (ih e₁ f₁) ∙ rw (o, d₁, sum) refl

module _ (g b : ℕ) (ps : List Constraint) (d : Constraint) (qs : List Constraint) where
  -- "A refused drop answers the first removal's refusal", with all pivots made so far, and the state stays
  stopped : (s : State) → first_refusal (drop_tests g s) ≡ none → group_of g s.constraints ≡ ps ++ d ∷ qs → (remove_all ps b s).answer.number ≡ 0 → (after_those ps d b s).answer.number ≢ 0
      → drop_group g b s ≡ refused_by (after_those ps d b s).answer.number ((remove_all ps b s).answer.pivots + (after_those ps d b s).answer.pivots) (after_those ps d b s).answer.whole s
  stopped s pass group e h =
      let f : eqb (after_those ps d b s).answer.number 0 ≡ false = ne_eqb _ 0 h in
      drop-passed g b s pass ∙ ap (λ (cs : List Constraint). all_or_none s (remove_all cs b s)) group ∙ ap (all_or_none s) (stops ps d qs b s e f) ∙ none-stay s (later (remove_all ps b s).answer.pivots (after_those ps d b s)) f

  -- so a drop that is refused at d, the removals of ps being accepted, leaves every table as it was
  pub drop-stopped : (w t : Sparse) → reads t ≡ true → first_refusal (drop_tests g (read t)) ≡ none → group_of g (read t).constraints ≡ ps ++ d ∷ qs
      → (remove_all ps b (read t)).answer.number ≡ 0 → (after_those ps d b (read t)).answer.number ≢ 0
      → call_of (drop_group g b) w t
      ≡ called (record { number = (after_those ps d b (read t)).answer.number; pivots = (remove_all ps b (read t)).answer.pivots + (after_those ps d b (read t)).answer.pivots; whole = (after_those ps d b (read t)).answer.whole }) t
  unfolding call_of call_in refused_by
  drop-stopped w t ok pass group e h = rw (ok, stopped (read t) pass group e h, write_read t (reads-form t ok)) refl
