-- Stored constraints and edits by their place in the tables.
-- Assumes nothing.
use Prim.Native.Nat.{ℕ, zero, suc, ◌+◌, ◌≤◌, ◌<◌}
use Rattle.std.specs.Prelude.{◌≡◌, Bool, true, false, cond, ltb, length}
use Rattle.std.proofs.Math.Path.{refl}
use Rattle.std.proofs.Common.{ap, ◌∙◌, not-suc-le-zero, le_of_suc-le-suc, zero-add, arith, eq-eqb, ne_eqb, ltb-true}
use Rattle.std.proofs.lemmas.Bool.{false≢true}
use mathlib.Core.List.{List, [], ◌∷◌, map}
use Rattle.std.proofs.Math.Option.{some}
use Rattle.std.proofs.Math.ListN.{get_or}
use Rattle.laws.specs.Lists.{list_of, get_or-tab}
use Rattle.steps.specs.State.{Constraint, Edit}
use Rattle.steps.specs.Tests.{find_constraint, find_edit}
use Rattle.keeps.specs.Lists.{Up}
use Rattle.keeps.specs.Keys.{find_by, find_constraint-is, find_edit-is}
use Rattle.keeps.specs.Reads.{Reads, con_number, edit_number}
use Rattle.rows.specs.places.Finding.{place_in, place_is, place_at}
use Rattle.sparse.specs.Places.{variable_numbers_at, constraint_numbers_at, variable_places_at, edit_variables_at}
use Rattle.sparse.specs.Lookup.{place_from}
use Rattle.sparse.specs.Sparse.{Sparse, variable_count, constraint_count, edit_count, number_at, constraint_of, edit_of, read}
use Rattle.sparse.specs.Form.{index_at, index-named}
use Rattle.sparse_test.specs.Reads.{reads}
use Rattle.sparse_test.specs.Meant.{reads-apart}
use Rattle.sparse_test.specs.Asked.{edit_in}
use Rattle.refusals.specs.Refusals.{variables_in, edits_in, live_in, edited_in}
use Rattle.solver.specs.Begin.{constraints-count, edits-count}

-- ---- found by place in a list that ascends

module _ {A : Type 0} (key : A → ℕ) (d : A) where
  up_least : (i : ℕ) (l : List A) (k : ℕ) → Up i (map key l) → k < length l → i ≤ key (get_or l k d)
  up_least i [] k u h = absurd (not-suc-le-zero h)
  up_least i (x ∷ l) zero u h = u.0
  up_least i (x ∷ l) (suc k) u h = omega (arith, u.0, up_least (suc (key x)) l k u.1 (le_of_suc-le-suc h))

  pub up-less : (i : ℕ) (l : List A) (a b : ℕ) → Up i (map key l) → a < b → b < length l → key (get_or l a d) < key (get_or l b d)
  up-less i [] a b u h k = absurd (not-suc-le-zero k)
  up-less i (x ∷ l) zero zero u h k = absurd (not-suc-le-zero h)
  up-less i (x ∷ l) (suc a) zero u h k = absurd (not-suc-le-zero h)
  up-less i (x ∷ l) zero (suc b) u h k = up_least (suc (key x)) l b u.1 (le_of_suc-le-suc k)
  up-less i (x ∷ l) (suc a) (suc b) u h k = up-less (suc (key x)) l a b u.1 (le_of_suc-le-suc h) (le_of_suc-le-suc k)

  find_at : (i : ℕ) (l : List A) (j : ℕ) → Up i (map key l) → j < length l → find_by key (key (get_or l j d)) l ≡ some (get_or l j d)
  unfolding find_by
  find_at i [] j u h = absurd (not-suc-le-zero h)
  find_at i (x ∷ l) zero u h = rw (eq-eqb (key x) (key x) refl, find_by) refl
  find_at i (x ∷ l) (suc j) u h =
      let a = up_least (suc (key x)) l j u.1 (le_of_suc-le-suc h) in
      rw (ne_eqb (key (get_or l j d)) (key x) (λ e. omega (arith, a, e)), find_by) (find_at (suc (key x)) l j u.1 (le_of_suc-le-suc h))

module _ (t : Sparse) (r : Reads (read t)) (j : ℕ) where
  constraint-at : (d : Constraint) → j < constraint_count t → get_or (read t).constraints j d ≡ constraint_of t j
  unfolding read list_of
  constraint-at d h = get_or-tab (constraint_of t) 0 (constraint_count t) j d h ∙ rw (zero-add j) refl

  pub edit-at : (d : Edit) → j < edit_count t → get_or (read t).edits j d ≡ edit_of t j
  unfolding read list_of
  edit-at d h = get_or-tab (edit_of t) 0 (edit_count t) j d h ∙ rw (zero-add j) refl

  pub constraint-found : j < constraint_count t → find_constraint (constraint_of t j).number (read t).constraints ≡ some (constraint_of t j)
  constraint-found h =
      let d : Constraint = constraint_of t j in
      find_constraint-is (constraint_of t j).number (read t).constraints ∙ (rw (constraint-at d h) at (find_at con_number d 0 (read t).constraints j r.constraints-up (omega (arith, h, constraints-count t))))

  pub edit-found : j < edit_count t → find_edit (edit_of t j).variable (read t).edits ≡ some (edit_of t j)
  edit-found h =
      let d : Edit = edit_of t j in
      find_edit-is (edit_of t j).variable (read t).edits ∙ (rw (edit-at d h) at (find_at edit_number d 0 (read t).edits j r.edits-up (omega (arith, h, edits-count t))))

-- ---- the live one of a number

pub constraint-placed : (t : Sparse) (x k : ℕ) → k ≡ place_from t.words constraint_numbers_at (constraint_count t) x → live_in t.words constraint_numbers_at (constraint_count t) x ≡ true → (k < constraint_count t) × ((constraint_of t k).number ≡ x)
unfolding live_in place_from constraint_of
constraint-placed t x k e h =
    let l = ltb-true _ (constraint_count t) h in
    rw e (l, place_is (λ j. get_or t.words (constraint_numbers_at + j) 0) (constraint_count t) x l)

-- where the edit of the variable x stands
unfoldable pub edit_place : List ℕ → List ℕ → ℕ → ℕ
edit_place w b x = place_from b edit_variables_at (edits_in w) (get_or b (variable_places_at + place_from w variable_numbers_at (variables_in w) x) 0)

both_true : (b c : Bool) → cond b c false ≡ true → (b ≡ true) × (c ≡ true)
both_true true c e = (refl, e)
both_true false c e = absurd (false≢true e)

pub variable-known : (w b : List ℕ) (x : ℕ) → edited_in w b x ≡ true → place_from w variable_numbers_at (variables_in w) x < variables_in w
unfolding edited_in edit_in
variable-known w b x h = ltb-true _ (variables_in w) (both_true (ltb (place_from w variable_numbers_at (variables_in w) x) (variables_in w)) _ h).0

index_is : (t : Sparse) (p : ℕ) → index_at t p ≡ place_in (λ j. get_or t.bytes (variable_places_at + j) 0) (variable_count t) p
unfolding index_at place_in
index_is t p = refl

-- the variable z is named by its own place
own-number : (t : Sparse) → reads t ≡ true → (z : ℕ) → z < variable_count t → number_at t (get_or t.bytes (variable_places_at + z) 0) ≡ get_or t.words (variable_numbers_at + z) 0
own-number t good z h =
    let e : index_at t (get_or t.bytes (variable_places_at + z) 0) ≡ z = index_is t _ ∙ place_at (λ j. get_or t.bytes (variable_places_at + j) 0) (variable_count t) z (reads-apart t good) h in
    (index-named t (get_or t.bytes (variable_places_at + z) 0) (rw e h)).1 ∙ ap (λ (i : ℕ). get_or t.words (variable_numbers_at + i) 0) e

module _ (t : Sparse) (good : reads t ≡ true) (x : ℕ) where
  abbrev z : ℕ
  z = place_from t.words variable_numbers_at (variable_count t) x

  abbrev q : ℕ
  q = edit_place t.words t.bytes x

  lives : edited_in t.words t.bytes x ≡ true → (ltb z (variable_count t) ≡ true) × (ltb q (edit_count t) ≡ true)
  unfolding edited_in edit_in edit_place
  lives h = both_true (ltb z (variable_count t)) _ h

  byte-is : q < edit_count t → get_or t.bytes (edit_variables_at + q) 0 ≡ get_or t.bytes (variable_places_at + z) 0
  unfolding edit_place place_from
  byte-is l = place_is (λ j. get_or t.bytes (edit_variables_at + j) 0) (edit_count t) (get_or t.bytes (variable_places_at + z) 0) l

  number_is : z < variable_count t → get_or t.words (variable_numbers_at + z) 0 ≡ x
  unfolding place_from
  number_is l = place_is (λ j. get_or t.words (variable_numbers_at + j) 0) (variable_count t) x l

  variable-is : (i : ℕ) → (edit_of t i).variable ≡ number_at t (get_or t.bytes (edit_variables_at + i) 0)
  unfolding edit_of
  variable-is i = refl

  pub edit-placed : (k : ℕ) → k ≡ edit_place t.words t.bytes x → edited_in t.words t.bytes x ≡ true → (k < edit_count t) × ((edit_of t k).variable ≡ x)
  edit-placed k e h =
      let m = lives h in
      let a = ltb-true z (variable_count t) m.0 in
      let b = ltb-true q (edit_count t) m.1 in
      rw e (b, variable-is q ∙ ap (number_at t) (byte-is b) ∙ own-number t good z a ∙ number_is a)
