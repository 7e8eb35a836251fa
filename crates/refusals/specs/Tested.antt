-- The tests over tables are those of the steps, in their order, on the state that the tables read as.
-- Assumes nothing.
use Rattle.std.specs.Prelude.{ℕ, ◌+◌, ◌≤◌, ◌≡◌, Bool, true, false, ◌&&◌, cond, eqb}
use Rattle.std.proofs.Math.Path.{refl, sym, ap}
use Rattle.std.proofs.Common.{◌∙◌, arith, ltb-false}
use Rattle.std.proofs.Math.Bool.{not}
use mathlib.Core.List.{List, [], ◌∷◌}
use Rattle.std.proofs.Math.Option.{Option, none, some}
use Rattle.std.proofs.Math.Dec.{leb, ltb}
use Rattle.std.proofs.Math.ListN.{length}
use Rattle.std.specs.Float.Ieee.{Float, eq}
use Rattle.steps.specs.Number.{one64, below_zero, is_finite}
use Rattle.steps.specs.Strength.{required}
use Rattle.steps.specs.State as steps
use Rattle.steps.specs.Edit.{edit_terms}
use Rattle.steps.specs.Tests.{Test, ◌if◌, first_refusal, new_variables, has_constraint, has_edit, constraints_full, variables_full, ids_used, kept_terms, add_tests, add_edit_tests}
use Rattle.laws.specs.Lists.{list_of, length-tab}
use Rattle.layout.specs.Layout.{term_room}
use Rattle.sparse.specs.Places.{most_variables, most_constraints, constraint_numbers_at}
use Rattle.sparse.specs.Sparse.{Sparse, variable_count, constraint_count, edit_count, read}
use Rattle.sparse_test.specs.Reads.{reads}
use Rattle.sparse_test.specs.Meaning.{reads-form}
use Rattle.sparse_test.specs.Meant.{reads-apart}
use Rattle.sparse_test.specs.Asked.{has-constraint, has-edit}
use Rattle.changes.specs.declared.terms.Term.{Term}
use Rattle.changes.specs.declared.terms.Pack.{Pack}
use Rattle.changes.specs.terms.Terms.{pack_of, kept_of, term_of, terms_in, terms_of}
use Rattle.changes.specs.terms.Packed.{pack-finite, pack-many, pack-terms, length-terms}
use Rattle.changes.specs.terms.Kept.{kept-terms}
use Rattle.refusals.specs.Refusals.{live_in, edited_in, new_in, constraints_full_in, variables_full_in, ids_used_in, cutoff_in, room_refusal, input_refusal, add_refusal, edit_pack, add_edit_refusal}
use Rattle.refusals.specs.New.{variables_of, new_is}

-- the number of a refusal, 0 if there is none
unfoldable pub number_or0 : Option ℕ → ℕ
number_or0 none = 0
number_or0 (some n) = n

-- a test more before the others: they matter where it passes
pub first-if : (k : ℕ) (a b : Bool) (ts : List Test) (y : ℕ) → a ≡ b → (b ≡ false → number_or0 (first_refusal ts) ≡ y) → number_or0 (first_refusal (k if a ∷ ts)) ≡ cond b k y
unfolding first_refusal number_or0
first-if k a true ts y e r = rw e refl
first-if k a false ts y e r = rw e (r refl)

pub none_left : number_or0 (first_refusal []) ≡ 0
unfolding first_refusal number_or0
none_left = refl

-- the lent list had at most 16 terms, so that its pack reads as it
pub few-terms : (ts : List Term) → eqb (pack_of ts).count 17 ≡ false → length ts ≤ term_room
few-terms ts e = let k = ltb-false term_room (length (terms_in ts)) (pack-many ts ∙ e) in rw (length-terms ts) at k

one-term : (x : ℕ) → terms_in (record { variable = x; coefficient = one64 } ∷ []) ≡ record { variable = x; coefficient = one64 } ∷ []
unfolding terms_in term_of
one-term x = refl

pub edit-terms : (x : ℕ) → terms_of (edit_pack x) ≡ edit_terms x
unfolding edit_pack edit_terms
edit-terms x = pack-terms _ (omega arith) ∙ one-term x

module _ (t : Sparse) (good : reads t ≡ true) where
  pub live-constraint : (x : ℕ) → has_constraint x (read t) ≡ live_in t.words constraint_numbers_at (constraint_count t) x
  unfolding live_in
  live-constraint x = has-constraint t x

  pub live-edit : (x : ℕ) → has_edit x (read t) ≡ edited_in t.words t.bytes x
  unfolding edited_in
  live-edit x = has-edit t (reads-form t good) (reads-apart t good) x

  constraints-full : constraints_full (read t) ≡ constraints_full_in t.words
  unfolding constraints_full constraints_full_in read list_of
  constraints-full = ap (λ (k : ℕ). leb most_constraints (k + length (read t).edits)) (length-tab _ 0 (constraint_count t)) ∙ ap (λ (k : ℕ). leb most_constraints (constraint_count t + k)) (length-tab _ 0 (edit_count t))

  ids-used : ids_used (read t) ≡ ids_used_in t.words
  unfolding ids_used ids_used_in read
  ids-used = refl

  variables-count : length (variables_of t) ≡ variable_count t
  unfolding read list_of
  variables-count = length-tab _ 0 (variable_count t)

  abbrev cutoff : Float
  cutoff = cutoff_in t.reals

  cutoff-is : (read t).tableau.cutoff ≡ cutoff
  unfolding read
  cutoff-is = refl

  variables-full : (p : Pack) → variables_full (terms_of p) (read t) ≡ variables_full_in cutoff t.words p
  unfolding variables_full variables_full_in
  variables-full p =
      ap (λ (l : List steps.Term). ltb most_variables (length (variables_of t) + length (new_variables (variables_of t) [] l))) (ap (λ (u : Float). kept_terms u (terms_of p)) cutoff-is ∙ sym (kept-terms cutoff p))
      ∙ ap (λ (k : ℕ). ltb most_variables (length (variables_of t) + k)) (new_is t (kept_of cutoff p))
      ∙ ap (λ (k : ℕ). ltb most_variables (k + new_in t.words (variable_count t) (kept_of cutoff p))) variables-count

  room-refusal : (p : Pack) (ts : List steps.Term) → terms_of p ≡ ts
      → number_or0 (first_refusal (10 if constraints_full (read t) ∷ 9 if variables_full ts (read t) ∷ 11 if ids_used (read t) ∷ [])) ≡ room_refusal cutoff t.words p
  unfolding room_refusal
  room-refusal p ts e =
      first-if 10 _ (constraints_full_in t.words) _ _ constraints-full λ _.
      first-if 9 _ (variables_full_in cutoff t.words p) _ _ (ap (λ (l : List steps.Term). variables_full l (read t)) (sym e) ∙ variables-full p) λ _.
      first-if 11 _ (ids_used_in t.words) _ _ ids-used λ _. none_left

  -- "Add: 18, 26, 1, 2, 3, 4, 10, 9, 11."
  pub add-refusal : (g x : ℕ) (ts : List Term) (constant : Float) (relation : steps.Relation)
      → number_or0 (first_refusal (add_tests g x (terms_in ts) constant relation (read t))) ≡ add_refusal cutoff g x (pack_of ts) constant (steps.strength_of relation) t.words
  unfolding add_tests add_refusal input_refusal
  add-refusal g x ts constant relation =
      let s : Float = steps.strength_of relation in
      first-if 26 _ (eqb g 0) _ _ refl λ _.
      first-if 1 _ (not ((pack_of ts).finite && is_finite constant && is_finite s)) _ _ (ap (λ (b : Bool). not (b && is_finite constant && is_finite s)) (sym (pack-finite ts))) λ _.
      first-if 2 _ (below_zero s) _ _ refl λ _.
      first-if 3 _ (eqb (pack_of ts).count 17) _ _ (pack-many ts) λ few.
      first-if 4 _ (live_in t.words constraint_numbers_at (constraint_count t) x) _ _ (live-constraint x) λ _.
      room-refusal (pack_of ts) (terms_in ts) (pack-terms ts (few-terms ts few))

  -- "Add edit: 18, 6, 7, 10, 9, 11."
  pub add-edit-refusal : (x : ℕ) (strength : Float) → number_or0 (first_refusal (add_edit_tests x strength (read t))) ≡ add_edit_refusal cutoff x strength t.words t.bytes
  unfolding add_edit_tests add_edit_refusal
  add-edit-refusal x strength =
      first-if 6 _ (edited_in t.words t.bytes x) _ _ (live-edit x) λ _.
      first-if 7 _ (eq strength required) _ _ refl λ _.
      room-refusal (edit_pack x) (edit_terms x) (edit-terms x)
