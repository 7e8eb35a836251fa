-- Suggest, Remove and Remove edit: the tests over tables are those of the steps, in their order. Where one fails the call is refused by its number; where none does what the call speaks of is live, and there is room for the gone entries that it makes.
-- Assumes nothing.
use Rattle.std.specs.Prelude.{ℕ, ◌≡◌, true, false, Float}
use Rattle.std.proofs.Math.Path.{refl, ap}
use Rattle.std.proofs.Common.{sym, ◌∙◌, arith}
use Rattle.std.proofs.Math.Bool.{not}
use mathlib.Core.List.{List, [], ◌∷◌}
use Rattle.std.proofs.Math.Option.{Option, none, some}
use Rattle.std.proofs.lemmas.Bool.{not-false}
use Rattle.steps.specs.Number.{is_finite}
use Rattle.steps.specs.State.{Term, Constraint, State}
use Rattle.steps.specs.Edit.{edit_terms}
use Rattle.steps.specs.Tests.{◌if◌, first_refusal, find_constraint, has_edit, gone_full, remove_tests, remove_edit_tests}
use Rattle.steps.specs.Calls.{refused_by, suggest, remove, remove_edit}
use Rattle.steps.specs.Changing.{Changing, removes, removes_edit, suggests, made, tests}
use Rattle.steps.proofs.Numbers.{refused-by-test}
use Rattle.sparse.specs.Places.{constraint_numbers_at}
use Rattle.sparse.specs.Sparse.{Sparse, constraint_count, read}
use Rattle.sparse_test.specs.Reads.{reads}
use Rattle.refusals.specs.declared.gone.Taken.TheVariants as taken
use Rattle.refusals.specs.Refusals.{constraints_in, live_in, edited_in, gone_full_in, suggest_refusal, remove_refusal, remove_edit_refusal}
use Rattle.refusals.specs.Goes.{terms_taken, full_is}
use Rattle.refusals.specs.Tested.{number_or0, first-if, none_left, live-constraint, live-edit}
use Rattle.refusals.specs.Passed.{some_is, passed}

-- the number of the first test that fails, if one does
pub refused-is : (c : Changing) (s : State) {k : ℕ} → number_or0 (first_refusal (tests c s)) ≡ k → (k ≡ 0 → ⊥) → made c s ≡ refused_by k 0 s.whole s
refused-is c s {k} e h = refused-by-test c s k (some_is _ (λ q. h (sym e ∙ q)) ∙ ap some e)

module _ (t : Sparse) (good : reads t ≡ true) (x : ℕ) where
  abbrev state : State
  state = read t

  -- ---- the tests

  suggest-refusal : (new : Float) → number_or0 (first_refusal (1 if not (is_finite new) ∷ 8 if not (has_edit x state) ∷ [])) ≡ suggest_refusal x new t.words t.bytes
  unfolding suggest_refusal
  suggest-refusal new = first-if 1 _ (not (is_finite new)) _ _ refl λ _. first-if 8 _ (not (edited_in t.words t.bytes x)) _ _ (ap not (live-edit t good x)) λ _. none_left

  -- "Remove: 18, 5, 25."
  pub remove-refusal : number_or0 (first_refusal (remove_tests x state)) ≡ remove_refusal x t.words t.bytes t.reals
  unfolding remove_tests remove_refusal terms_taken
  remove-refusal =
      first-if 5 _ (not (live_in t.words constraint_numbers_at (constraint_count t) x)) _ _ (ap not (live-constraint t good x)) λ _.
      first-if 25 _ (gone_full_in t.words t.bytes t.reals (taken.Constraint x)) _ _ (full_is t good (taken.Constraint x)) λ _. none_left

  -- "Remove edit: 18, 8, 25."
  remove-edit-refusal : number_or0 (first_refusal (remove_edit_tests x state)) ≡ remove_edit_refusal x t.words t.bytes t.reals
  unfolding remove_edit_tests remove_edit_refusal terms_taken
  remove-edit-refusal =
      first-if 8 _ (not (edited_in t.words t.bytes x)) _ _ (ap not (live-edit t good x)) λ _.
      first-if 25 _ (gone_full_in t.words t.bytes t.reals (taken.Edit x)) _ _ (full_is t good (taken.Edit x)) λ _. none_left

  -- ---- refused by the number

  pub suggest-refused : (new : Float) (budget : ℕ) → (suggest_refusal x new t.words t.bytes ≡ 0 → ⊥)
      → suggest x new budget state ≡ refused_by (suggest_refusal x new t.words t.bytes) 0 state.whole state
  suggest-refused new budget = refused-is (suggests x new budget) state (suggest-refusal new)

  pub remove-refused : (budget : ℕ) → (remove_refusal x t.words t.bytes t.reals ≡ 0 → ⊥) → remove x budget state ≡ refused_by (remove_refusal x t.words t.bytes t.reals) 0 state.whole state
  remove-refused budget = refused-is (removes x budget) state remove-refusal

  pub remove-edit-refused : (budget : ℕ) → (remove_edit_refusal x t.words t.bytes t.reals ≡ 0 → ⊥)
      → remove_edit x budget state ≡ refused_by (remove_edit_refusal x t.words t.bytes t.reals) 0 state.whole state
  remove-edit-refused budget = refused-is (removes_edit x budget) state remove-edit-refusal

-- ---- no refusal

pub suggest-passed : (x : ℕ) (new : Float) (w b : List ℕ) → suggest_refusal x new w b ≡ 0 → (is_finite new ≡ true) × (edited_in w b x ≡ true)
unfolding suggest_refusal
suggest-passed x new w b e =
    let a = passed (not (is_finite new)) 1 _ (omega arith) e in
    let d = passed (not (edited_in w b x)) 8 0 (omega arith) a.1 in
    (not-false _ a.0, not-false _ d.0)

-- the constraint is live, and 25 is not given
pub remove-passed : (x : ℕ) (w b : List ℕ) (r : List Float) → remove_refusal x w b r ≡ 0 → (live_in w constraint_numbers_at (constraints_in w) x ≡ true) × (gone_full_in w b r (taken.Constraint x) ≡ false)
unfolding remove_refusal
remove-passed x w b r e =
    let a = passed (not (live_in w constraint_numbers_at (constraints_in w) x)) 5 _ (omega arith) e in
    (not-false _ a.0, (passed (gone_full_in w b r (taken.Constraint x)) 25 0 (omega arith) a.1).0)

-- the variable has an edit, and 25 is not given
pub remove-edit-passed : (x : ℕ) (w b : List ℕ) (r : List Float) → remove_edit_refusal x w b r ≡ 0 → (edited_in w b x ≡ true) × (gone_full_in w b r (taken.Edit x) ≡ false)
unfolding remove_edit_refusal
remove-edit-passed x w b r e =
    let a = passed (not (edited_in w b x)) 8 _ (omega arith) e in
    (not-false _ a.0, (passed (gone_full_in w b r (taken.Edit x)) 25 0 (omega arith) a.1).0)

-- what the steps of a removal take for granted of the gone entries
module _ (t : Sparse) (good : reads t ≡ true) (x : ℕ) where
  pub remove-room : gone_full_in t.words t.bytes t.reals (taken.Constraint x) ≡ false → {c : Constraint} → find_constraint x (read t).constraints ≡ some c → gone_full c.terms (read t) ≡ false
  unfolding terms_taken
  remove-room h {c} f =
      ap (λ (o : Option Constraint). gone_full (elim o as (λ _. List Term) [ none ↦ [] | some c ↦ c.terms ]) (read t)) (sym f) ∙ full_is t good (taken.Constraint x) ∙ h

  pub remove-edit-room : gone_full_in t.words t.bytes t.reals (taken.Edit x) ≡ false → gone_full (edit_terms x) (read t) ≡ false
  unfolding terms_taken
  remove-edit-room h = full_is t good (taken.Edit x) ∙ h
