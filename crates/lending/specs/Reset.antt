-- Reset: ten words and the cutoff are written, the rest lies past the counts. A cutoff outside the range changes no table.
-- Assumes nothing.
use Rattle.std.specs.Prelude.{ℕ, suc, ◌+◌, ◌≡◌, Bool, true, false, ◌&&◌, cond, List, [], ◌∷◌, eqb, get_or, set, Float}
use Rattle.std.proofs.Math.Path.{refl}
use Rattle.std.proofs.Common.{sym, ap, ◌∙◌}
use Rattle.std.specs.Float.{nan}
use Rattle.layout.specs.Layout.{over, bit_of}
use Rattle.layout.specs.Laying.{laid_nil, laid_cons}
use Rattle.steps.specs.Number.{cutoff_fits}
use Rattle.steps.specs.Calls.{Answer, empty, reset, refused_by}
use Rattle.steps.specs.Readable.{concat}
use Rattle.steps.proofs.Cutoff.{reset-refused, reset-taken}
use Rattle.layout.specs.cells.Cells.{cells}
use Rattle.sparse.specs.Places.{whole_at, ids_at, variable_numbers_at, variable_uses_at, constraint_numbers_at, constraint_groups_at, gone_numbers_at, kinds_at, row_places_at, variable_places_at, changed_at, constraint_markers_at, constraint_others_at, term_counts_at, edit_variables_at, edit_markers_at, edit_others_at, terms_at, relations_at, constants_at, old_values_at, objective_at, cutoff_at, constraint_strengths_at, edit_strengths_at, suggestions_at, coefficients_at, constraint_constants_at}
use Rattle.sparse.specs.Sparse.{Sparse, read}
use Rattle.sparse.specs.Stretches.{lay}
use Rattle.sparse.specs.Laying.{rows_laid}
use Rattle.sparse.specs.Write.{laid_of, heading_of, words_of, bytes_of, reals_of, write}
use Rattle.sparse.proofs.Written.{write_read}
use Rattle.sparse_test.specs.Reads.{reads}
use Rattle.sparse_test.specs.Meaning.{reads-form}
use Rattle.sparse_test.specs.Asked.{asked}
use Rattle.lending.specs.Lending.{Called, called, call_in}

-- "24 cutoff outside the range": no pivot; the mark is the stored one if the tables read as a state, else no
unfoldable pub refused24 : Sparse → Answer
refused24 t = record { number = 24; pivots = 0; whole = asked (λ s. s.whole) false t }

-- "in that order; nothing else": on any tables, which are arrays, whose types say their lengths. Refused, it changes none.
unfoldable pub reset_of : Float → Sparse → Called
reset_of cutoff t = cond (cutoff_fits cutoff) (call_in (reset cutoff) t) (called (refused24 t) t)

unfoldable pub reset_words : List ℕ → List ℕ
reset_words w = set (set (set (set (set (set (set (set (set (set w 0 1) 1 0) 2 0) 3 0) 4 0) 5 0) 6 0) 7 0) 8 1) 9 0

-- an empty list changes nothing
over-nil : {A : Type 0} (a : ℕ) (m : List A) → over a [] m ≡ m
unfolding over
over-nil a m = laid_nil (λ x _. x) a m

reset-words : (cutoff : Float) (w : List ℕ) → lay (words_of (empty cutoff) 0) w ≡ reset_words w
unfolding lay words_of heading_of empty bit_of reset_words
reset-words cutoff w =
    let f : ℕ → ℕ → ℕ = λ x _. x in
    over-nil gone_numbers_at _ ∙ over-nil constraint_groups_at _ ∙ over-nil constraint_numbers_at _ ∙ over-nil variable_uses_at _ ∙ over-nil variable_numbers_at _ ∙ over-nil (ids_at + 1) _
    ∙ (unfold over in laid_cons f 0 1 _ w 0 ∙ laid_cons f 1 0 _ _ 0 ∙ laid_cons f 2 0 _ _ 0 ∙ laid_cons f 3 0 _ _ 0 ∙ laid_cons f 4 0 _ _ 0 ∙ laid_cons f 5 0 _ _ 0 ∙ laid_cons f 6 0 _ _ 0 ∙ laid_cons f 7 0 _ _ 0 ∙ laid_cons f 8 1 _ _ 0 ∙ laid_cons f 9 0 _ _ 0 ∙ laid_nil f 10 _)

reset-bytes : (cutoff : Float) (b : List ℕ) → lay (bytes_of (empty cutoff)) b ≡ b
unfolding lay bytes_of empty concat
reset-bytes cutoff b =
    over-nil relations_at _ ∙ over-nil terms_at _ ∙ over-nil edit_others_at _ ∙ over-nil edit_markers_at _ ∙ over-nil edit_variables_at _ ∙ over-nil term_counts_at _ ∙ over-nil constraint_others_at _ ∙ over-nil constraint_markers_at _ ∙ over-nil changed_at _ ∙ over-nil variable_places_at _
    ∙ over-nil (row_places_at + 1) _ ∙ over-nil (kinds_at + 1) b

-- one element is set
over-one : (a : ℕ) (x : Float) (m : List Float) → over a (x ∷ []) m ≡ set m a x
unfolding over
over-one a x m = laid_cons (λ x _. x) a x [] m nan ∙ laid_nil (λ x _. x) (suc a) (set m a x)

reset-reals : (cutoff : Float) (r : List Float) → lay (reals_of (empty cutoff)) r ≡ set r cutoff_at cutoff
unfolding lay reals_of empty concat
reset-reals cutoff r =
    over-nil constraint_constants_at _ ∙ over-nil coefficients_at _ ∙ over-nil suggestions_at _ ∙ over-nil edit_strengths_at _ ∙ over-nil constraint_strengths_at _ ∙ over-one cutoff_at cutoff _
    ∙ ap (λ (m : List Float). set m cutoff_at cutoff) (over-nil (objective_at + 1) _ ∙ over-nil old_values_at _ ∙ over-nil (constants_at + 1) r)

reset-cells : (cutoff : Float) (t : Sparse) → laid_of (empty cutoff).tableau t ≡ cells t.keys t.values 0
unfolding laid_of empty rows_laid
reset-cells cutoff t = refl

written : (cutoff : Float) (t : Sparse) → write (empty cutoff) t ≡ record { words = reset_words t.words; keys = t.keys; bytes = t.bytes; reals = set t.reals cutoff_at cutoff; values = t.values }
unfolding write
written cutoff t = rw (reset-cells cutoff t, reset-words cutoff t.words, reset-bytes cutoff t.bytes, reset-reals cutoff t.reals) refl

pub reset-done : (cutoff : Float) (t : Sparse) {b : Bool} {w : List ℕ} → b ≡ cutoff_fits cutoff → b ≡ true → w ≡ reset_words t.words
    → called (record { number = 0; pivots = 0; whole = true }) (record { words = w; keys = t.keys; bytes = t.bytes; reals = set t.reals cutoff_at cutoff; values = t.values }) ≡ reset_of cutoff t
unfolding reset_of call_in
reset-done cutoff t f y e = rw (← f, y, reset-taken cutoff (read t) (sym f ∙ y), e, ← written cutoff t) refl

pub refused-is : (t : Sparse) {b : Bool} → b ≡ reads t → record { number = 24; pivots = 0; whole = b && eqb (get_or t.words whole_at 0) 1 } ≡ refused24 t
unfolding refused24 asked read
refused-is t {b} e = rw (← e) (ap (λ (x : Bool). record { number = 24; pivots = 0; whole = x }) (both b (eqb (get_or t.words whole_at 0) 1)))
  where
    both : (b x : Bool) → b && x ≡ cond b x false
    both true x = refl
    both false x = refl

pub reset-not : (cutoff : Float) (t : Sparse) {b : Bool} {a : Answer} → b ≡ cutoff_fits cutoff → b ≡ false → a ≡ refused24 t → called a t ≡ reset_of cutoff t
unfolding reset_of
reset-not cutoff t f n e = rw (← f, n, e) refl

-- on tables that read as a state it is the steps' reset, refused or not
pub reset-read : (cutoff : Float) (t : Sparse) → reads t ≡ true → reset_of cutoff t ≡ call_in (reset cutoff) t
unfolding reset_of call_in refused24 asked
reset-read cutoff t e = go (cutoff_fits cutoff) refl
  where
    go : (b : Bool) → cutoff_fits cutoff ≡ b → cond b (call_in (reset cutoff) t) (called (refused24 t) t) ≡ call_in (reset cutoff) t
    go true f = refl
    go false f = unfold refused_by in rw (reset-refused cutoff (read t) f, e, write_read t (reads-form t e)) refl
