-- The five tables as one, and the pieces of the test put together: what the last functions of the code promise.
-- Assumes nothing.
use Prim.Native.Nat.{ℕ, ◌+◌, ◌≤◌}
use Rattle.std.specs.Prelude.{◌≡◌, true, false, ◌&&◌, leb, ltb, Float, get_or}
use Rattle.std.proofs.Math.Path.{refl}
use Rattle.std.proofs.Common.{sym, ◌∙◌, arith}
use Rattle.std.proofs.Math.Bool.{Bool}
use mathlib.Core.List.{List}
use Rattle.layout.specs.Rooms.{both}
use Rattle.layout.specs.Layout.{term_room}
use Rattle.layout.specs.cells.Names.{last_place, cell_room}
use Rattle.sparse.specs.Places.{most_rows, most_variables, most_constraints, most_gone, next_id_at, symbol_count_at, row_count_at, cell_count_at, variable_count_at, constraint_count_at, edit_count_at, should_clear_at, whole_at, gone_count_at, ids_at, variable_numbers_at, constraint_numbers_at, constraint_groups_at, gone_numbers_at, row_places_at, term_counts_at}
use Rattle.sparse.specs.Lookup.{Ascends}
use Rattle.sparse.specs.Sparse.{Sparse, symbol_count, row_count, variable_count, constraint_count, gone_count}
use Rattle.sparse_test.specs.Stretch.{ascend_in, between_in, up_in, most_in, above_zero_in, ascends}
use Rattle.sparse_test.specs.Reads.{greatest_u32, counts_fit, reads}
use Rattle.sparse_test.specs.Tested.{above_u32, words_fit, bytes_fit, content_fits, tested}
use Rattle.sparse_test.specs.Meaning.{Counted, counted}
use Rattle.sparse_test.specs.Meant.{tested-is}

abbrev pub tables : List ℕ → List ℕ → List ℕ → List Float → List Float → Sparse
tables w k b r v = record { words = w; keys = k; bytes = b; reals = r; values = v }

unfoldable pub room_for : ℕ → ℕ → ℕ → Bool
room_for c e r = leb c most_constraints && (leb e most_constraints && (leb (c + e) most_constraints && leb r (c + e)))

unfoldable pub counts_in : List ℕ → Bool
counts_in w =
    ltb 0 (get_or w next_id_at 0)
    && leb (get_or w next_id_at 0) greatest_u32
    && leb (get_or w symbol_count_at 0) last_place
    && leb (get_or w cell_count_at 0) cell_room
    && leb (get_or w variable_count_at 0) most_variables
    && leb (get_or w should_clear_at 0) 1
    && leb (get_or w whole_at 0) 1
    && leb (get_or w gone_count_at 0) most_gone
    && room_for (get_or w constraint_count_at 0) (get_or w edit_count_at 0) (get_or w row_count_at 0)

module _ (t : Sparse) where
  counts-are : counts_in t.words ≡ counts_fit t
  unfolding counts_in counts_fit room_for
  counts-are = refl

  pub counts-in : {x : Bool} → x ≡ counts_in t.words → x ≡ true → Counted t
  counts-in e h = counted t (sym (e ∙ counts-are) ∙ h)

  pub rows_few : Counted t → row_count t ≤ most_rows
  rows_few c = omega (arith, c.rows, c.tags)

  abbrev words-test : Bool
  words-test = words_fit t.words (symbol_count t) (variable_count t) (constraint_count t) (gone_count t)

  abbrev bytes-test : Bool
  bytes-test = bytes_fit t.bytes (symbol_count t) (row_count t) (constraint_count t)

  pub few-terms : {x : Bool} → x ≡ bytes-test → x ≡ true → most_in t.bytes term_counts_at (constraint_count t) term_room ≡ true
  unfolding bytes_fit
  few-terms e h = (both (most_in t.bytes term_counts_at (constraint_count t) term_room) (up_in t.bytes (row_places_at + 1) (row_count t) 1 (symbol_count t + 1)) (sym e ∙ h)).0

  pub gone-up : {x : Bool} → x ≡ words-test → x ≡ true → Ascends t.words gone_numbers_at (gone_count t)
  unfolding words_fit up_in
  gone-up e h =
      let w : List ℕ = t.words in
      let before : Bool = up_in w (ids_at + 1) (symbol_count t) 1 (get_or w next_id_at 0) && up_in w variable_numbers_at (variable_count t) 0 above_u32 && up_in w constraint_numbers_at (constraint_count t) 0 above_u32 && above_zero_in w constraint_groups_at (constraint_count t) in
      ascends w gone_numbers_at (gone_count t) (both (ascend_in w gone_numbers_at (gone_count t)) (between_in w gone_numbers_at (gone_count t) 0 above_u32) (both before (up_in w gone_numbers_at (gone_count t) 0 above_u32) (sym e ∙ h)).1).0

  -- ---- the early ends

  pub no-counts : {x : Bool} → x ≡ counts_in t.words → x ≡ false → false ≡ reads t
  no-counts e h = no (sym (e ∙ counts-are) ∙ h) ∙ tested-is t
    where
      no : counts_fit t ≡ false → false ≡ tested t
      no q = unfold tested in rw q refl

  module _ {x : Bool} (e : x ≡ counts_in t.words) (h : x ≡ true) where
    first : counts_fit t ≡ true
    first = sym (e ∙ counts-are) ∙ h

    pub no_words : {y : Bool} → y ≡ words-test → y ≡ false → false ≡ reads t
    no_words f i = no (sym f ∙ i) ∙ tested-is t
      where
        no : words-test ≡ false → false ≡ tested t
        no q = unfold tested in rw (first, q) refl

    module _ {y : Bool} (f : y ≡ words-test) (i : y ≡ true) where
      pub no_bytes : {z : Bool} → z ≡ bytes-test → z ≡ false → false ≡ reads t
      no_bytes g j = no (sym f ∙ i) (sym g ∙ j) ∙ tested-is t
        where
          no : words-test ≡ true → bytes-test ≡ false → false ≡ tested t
          no p q = unfold tested in rw (first, p, q) refl

      pub whole-test : {z b : Bool} → z ≡ bytes-test → z ≡ true → b ≡ content_fits t → b ≡ reads t
      whole-test g j k = k ∙ all (sym f ∙ i) (sym g ∙ j) ∙ tested-is t
        where
          all : words-test ≡ true → bytes-test ≡ true → content_fits t ≡ tested t
          all p q = unfold tested in rw (first, p, q) refl
