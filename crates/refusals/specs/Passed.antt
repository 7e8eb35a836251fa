-- What a caller learns: the tests' number is the steps' first refusal, and where it is 0 there is room.
-- Assumes nothing.
use Rattle.std.specs.Prelude.{ℕ, ◌+◌, ◌<◌, ◌≤◌, ◌≡◌, Bool, true, false, not, ◌&&◌, cond, List, [], ◌∷◌, eqb, ltb, Float}
use Rattle.std.proofs.Math.Path.{refl}
use Rattle.std.proofs.Common.{sym, ap, ◌∙◌, arith, leb-false, ltb-true, ltb-false}
use Rattle.std.proofs.Math.Option.{Option, none, some}
use Rattle.std.specs.Float.Ieee.{eq}
use Rattle.std.proofs.lemmas.Bool.{not-false}
use Rattle.steps.specs.Number.{below_zero, is_finite}
use Rattle.steps.specs.State as steps
use Rattle.steps.specs.Strength.{required}
use Rattle.steps.specs.Tests.{Test, first_refusal, add_tests, add_edit_tests}
use Rattle.sparse.specs.Places.{most_variables, most_constraints, constraint_numbers_at}
use Rattle.sparse.specs.Sparse.{Sparse, read}
use Rattle.sparse_test.specs.Reads.{reads}
use Rattle.layout.specs.Rooms.{and_left, and_right}
use Rattle.changes.specs.declared.terms.Term.{Term}
use Rattle.changes.specs.declared.terms.Pack.{Pack}
use Rattle.changes.specs.terms.Terms.{pack_of, kept_of, terms_in}
use Rattle.refusals.specs.Refusals.{next_in, variables_in, constraints_in, edits_in, live_in, edited_in, new_in, constraints_full_in, variables_full_in, ids_used_in, cutoff_in, room_refusal, input_refusal, add_refusal, edit_pack, add_edit_refusal}
use Rattle.refusals.specs.Tested.{number_or0, add-refusal, add-edit-refusal}

-- ---- the number as the steps have it

unfoldable pub numbered : List Test → Bool
numbered [] = true
numbered (t ∷ ts) = ltb 0 t.number && numbered ts

abbrev chosen : Bool → ℕ → Option ℕ → Option ℕ
chosen b k o = elim b [ true ↦ some k | false ↦ o ]

pub first-none : (ts : List Test) → numbered ts ≡ true → number_or0 (first_refusal ts) ≡ 0 → first_refusal ts ≡ none
unfolding first_refusal numbered number_or0
first-none [] h e = refl
first-none (t ∷ ts) h e = go t.fails e (first-none ts (and_right (ltb 0 t.number) (numbered ts) h))
  where
    go : (b : Bool) → number_or0 (chosen b t.number (first_refusal ts)) ≡ 0 → (number_or0 (first_refusal ts) ≡ 0 → first_refusal ts ≡ none)
        → chosen b t.number (first_refusal ts) ≡ none
    go true q r = absurd (let l = ltb-true 0 t.number (and_left (ltb 0 t.number) (numbered ts) h) in omega (arith, q, l))
    go false q r = r q

pub some_is : (o : Option ℕ) → (number_or0 o ≡ 0 → ⊥) → o ≡ some (number_or0 o)
unfolding number_or0
some_is none h = absurd (h refl)
some_is (some n) h = refl

module _ (t : Sparse) (good : reads t ≡ true) (g x : ℕ) (ts : List Term) (constant : Float) (relation : steps.Relation) where
  abbrev refuses : ℕ
  refuses = add_refusal (cutoff_in t.reals) g x (pack_of ts) constant (steps.strength_of relation) t.words

  pub add-refused : (refuses ≡ 0 → ⊥) → first_refusal (add_tests g x (terms_in ts) constant relation (read t)) ≡ some refuses
  add-refused h = let e = add-refusal t good g x ts constant relation in some_is _ (λ q. h (sym e ∙ q)) ∙ ap some e

  pub add-passes : refuses ≡ 0 → first_refusal (add_tests g x (terms_in ts) constant relation (read t)) ≡ none
  unfolding add_tests numbered
  add-passes h = first-none (add_tests g x (terms_in ts) constant relation (read t)) refl (add-refusal t good g x ts constant relation ∙ h)

module _ (t : Sparse) (good : reads t ≡ true) (x : ℕ) (strength : Float) where
  abbrev edit-refuses : ℕ
  edit-refuses = add_edit_refusal (cutoff_in t.reals) x strength t.words t.bytes

  pub add-edit-refused : (edit-refuses ≡ 0 → ⊥) → first_refusal (add_edit_tests x strength (read t)) ≡ some edit-refuses
  add-edit-refused h = let e = add-edit-refusal t good x strength in some_is _ (λ q. h (sym e ∙ q)) ∙ ap some e

  pub add-edit-passes : edit-refuses ≡ 0 → first_refusal (add_edit_tests x strength (read t)) ≡ none
  unfolding add_edit_tests numbered
  add-edit-passes h = first-none (add_edit_tests x strength (read t)) refl (add-edit-refusal t good x strength ∙ h)

-- ---- no refusal: there is room

pub passed : (b : Bool) (k y : ℕ) → 0 < k → cond b k y ≡ 0 → (b ≡ false) × (y ≡ 0)
passed true k y h e = absurd (omega arith)
passed false k y h e = (refl, e)

-- room for a constraint, for the variables that the pack's terms bring by the cutoff u, and for ids
abbrev pub Room : Float → List ℕ → Pack → Type 0
Room u w p = (constraints_in w + edits_in w < most_constraints) × (variables_in w + new_in w (variables_in w) (kept_of u p) ≤ most_variables) × (next_in w ≤ 4_294_900_000)

room-passed : (u : Float) (w : List ℕ) (p : Pack) → room_refusal u w p ≡ 0 → Room u w p
unfolding room_refusal constraints_full_in variables_full_in ids_used_in
room-passed u w p e =
    let a = passed (constraints_full_in w) 10 _ (omega arith) e in
    let b = passed (variables_full_in u w p) 9 _ (omega arith) a.1 in
    let c = passed (ids_used_in w) 11 _ (omega arith) b.1 in
    (leb-false most_constraints (constraints_in w + edits_in w) a.0, ltb-false most_variables _ b.0, ltb-false 4_294_900_000 (next_in w) c.0)

-- an added constraint: a group above 0, finite inputs, at most 16 terms, a number that is not live, and room
pub add-passed : (u : Float) (g x : ℕ) (p : Pack) (constant strength : Float) (w : List ℕ) → add_refusal u g x p constant strength w ≡ 0
    → (eqb g 0 ≡ false) × (p.finite && is_finite constant && is_finite strength ≡ true) × (below_zero strength ≡ false) × (eqb p.count 17 ≡ false) × (live_in w constraint_numbers_at (constraints_in w) x ≡ false) × (Room u w p)
unfolding add_refusal input_refusal
add-passed u g x p constant strength w e =
    let z = passed (eqb g 0) 26 _ (omega arith) e in
    let a = passed (not (p.finite && is_finite constant && is_finite strength)) 1 _ (omega arith) z.1 in
    let b = passed (below_zero strength) 2 _ (omega arith) a.1 in
    let c = passed (eqb p.count 17) 3 _ (omega arith) b.1 in
    let d = passed (live_in w constraint_numbers_at (constraints_in w) x) 4 _ (omega arith) c.1 in
    (z.0, not-false _ a.0, b.0, c.0, d.0, room-passed u w p d.1)

-- an edit: the variable has none, its strength is not required, and room
pub add-edit-passed : (u : Float) (x : ℕ) (strength : Float) (w b : List ℕ) → add_edit_refusal u x strength w b ≡ 0
    → (edited_in w b x ≡ false) × (eq strength required ≡ false) × (Room u w (edit_pack x))
unfolding add_edit_refusal
add-edit-passed u x strength w b e =
    let a = passed (edited_in w b x) 6 _ (omega arith) e in
    let d = passed (eq strength required) 7 _ (omega arith) a.1 in
    (a.0, d.0, room-passed u w (edit_pack x) d.1)
