-- What the code writes over the lent tables where a suggestion is accepted: the room's cells, rows, flags and objective, the mark, the new suggestion.
-- Assumes nothing.
use Rattle.std.specs.Prelude.{ℕ, ◌+◌, ◌≤◌, ◌<◌, ◌≡◌, refl, List, Float, get_or, set}
use Rattle.std.proofs.Common.{sym, ◌∙◌, arith}
use Rattle.std.specs.Float.Ieee.{nan}
use Rattle.std.proofs.Math.ListN.{length-set}
use Rattle.std.proofs.Math.Seq.{get_or-set_same, get_or-set_other}
use Rattle.layout.specs.Layout.{bit_of}
use Rattle.layout.specs.cells.Names.{cell_room}
use Rattle.sparse.specs.Places.{cell_count_at, should_clear_at, whole_at, row_places_at, changed_at, constants_at, objective_at, suggestions_at}
use Rattle.sparse.specs.Sparse.{Sparse, symbol_count, row_count, cell_count, variable_count, edit_count}
use Rattle.sparse.specs.Fits.{Lengths}
use Rattle.sparse.specs.Form.{Counts}
use Rattle.sparse.specs.Copy.{put_over}
use Rattle.lending.specs.sparse_copy.Over.{tables, put_part}
use Rattle.stored.specs.Suggested.{with_real}
use Rattle.rows.specs.declared.number.Wrote.{Wrote}
use Rattle.solver.specs.Closing.{says_yes}
use Rattle.lending.specs.sparse_copy.Becomes.{Outside, part_in, part_out, part_length, put-becomes}
use Rattle.solver.specs.Back.{Back}

-- the count of cells, the flag of the changed set, the mark
unfoldable pub back_words : Wrote → List ℕ → List ℕ → List ℕ
back_words wrote w to = set (set (set to cell_count_at (get_or w cell_count_at 0)) should_clear_at (get_or w should_clear_at 0)) whole_at (bit_of (says_yes wrote))

-- r rows' symbols, v variables' flags
unfoldable pub back_bytes : List ℕ → ℕ → ℕ → List ℕ → List ℕ
back_bytes b r v to = put_part 0 b changed_at v (put_part 0 b (row_places_at + 1) r to)

-- r rows' constants, the objective along k symbols
unfoldable pub back_reals : List Float → ℕ → ℕ → List Float → List Float
back_reals f k r to = put_part nan f (objective_at + 1) k (put_part nan f (constants_at + 1) r to)

-- the room u over the lent tables t
abbrev pub back_over : Wrote → Sparse → Sparse → Sparse
back_over wrote u t =
    record {
      words = back_words wrote u.words t.words;
      keys = put_part 0 u.keys 0 (cell_count u) t.keys;
      bytes = back_bytes u.bytes (row_count t) (variable_count t) t.bytes;
      reals = back_reals u.reals (symbol_count t) (row_count t) t.reals;
      values = put_part nan u.values 0 (cell_count u) t.values;
    }

-- ---- what the code's calls leave, put together

pub words_back : (wrote : Wrote) (w to : List ℕ) {k : ℕ} → k ≡ bit_of (says_yes wrote) → set (set (set to cell_count_at (get_or w cell_count_at 0)) should_clear_at (get_or w should_clear_at 0)) whole_at k ≡ back_words wrote w to
unfolding back_words
words_back wrote w to e = rw e refl

pub bytes_back : (b : List ℕ) (r v : ℕ) (to : List ℕ) {x y : List ℕ} → x ≡ put_part 0 b (row_places_at + 1) r to → y ≡ put_part 0 b changed_at v x → y ≡ back_bytes b r v to
unfolding back_bytes
bytes_back b r v to e q = q ∙ rw e refl

pub reals-back : (f : List Float) (k r : ℕ) (to : List Float) {x y : List Float} → x ≡ put_part nan f (constants_at + 1) r to → y ≡ put_part nan f (objective_at + 1) k x → y ≡ back_reals f k r to
unfolding back_reals
reals-back f k r to e q = q ∙ rw e refl

pub tables-back : (wrote : Wrote) (u t : Sparse) (j : ℕ) (x : Float) {a b d : List ℕ} {f g : List Float}
    → a ≡ back_words wrote u.words t.words
    → b ≡ put_part 0 u.keys 0 (cell_count u) t.keys
    → g ≡ put_part nan u.values 0 (cell_count u) t.values
    → d ≡ back_bytes u.bytes (row_count t) (variable_count t) t.bytes
    → f ≡ set (back_reals u.reals (symbol_count t) (row_count t) t.reals) (suggestions_at + j) x
    → tables a b d f g ≡ with_real (back_over wrote u t) (suggestions_at + j) x
tables-back wrote u t j x e₁ e₂ e₃ e₄ e₅ = rw (e₁, e₂, e₃, e₄, e₅) refl

-- ---- place by place

module _ (wrote : Wrote) (t u : Sparse) (len : Lengths t) (c : Counts t) (few : cell_count u ≤ cell_room) where
  abbrev z : Sparse
  z = back_over wrote u t

  -- ---- words

  w₁ : List ℕ
  w₁ = set t.words cell_count_at (get_or u.words cell_count_at 0)

  w₂ : List ℕ
  w₂ = set w₁ should_clear_at (get_or u.words should_clear_at 0)

  word : (m : ℕ) → (m ≡ cell_count_at → ⊥) → (m ≡ should_clear_at → ⊥) → (m ≡ whole_at → ⊥) → get_or z.words m 0 ≡ get_or t.words m 0
  unfolding back_words w₁ w₂
  word m a b d = get_or-set_other w₂ whole_at m (bit_of (says_yes wrote)) 0 d ∙ get_or-set_other w₁ should_clear_at m (get_or u.words should_clear_at 0) 0 b ∙ get_or-set_other t.words cell_count_at m (get_or u.words cell_count_at 0) 0 a

  cells_are : get_or z.words cell_count_at 0 ≡ get_or u.words cell_count_at 0
  unfolding back_words w₁ w₂
  cells_are = get_or-set_other w₂ whole_at cell_count_at (bit_of (says_yes wrote)) 0 (omega arith) ∙ get_or-set_other w₁ should_clear_at cell_count_at (get_or u.words should_clear_at 0) 0 (omega arith) ∙ get_or-set_same t.words cell_count_at (get_or u.words cell_count_at 0) 0 (omega (arith, len.0))

  clear-is : get_or z.words should_clear_at 0 ≡ get_or u.words should_clear_at 0
  unfolding back_words w₁ w₂
  clear-is = get_or-set_other w₂ whole_at should_clear_at (bit_of (says_yes wrote)) 0 (omega arith) ∙ get_or-set_same w₁ should_clear_at (get_or u.words should_clear_at 0) 0 (omega (arith, len.0, length-set t.words cell_count_at (get_or u.words cell_count_at 0)))

  whole_is : get_or z.words whole_at 0 ≡ bit_of (says_yes wrote)
  unfolding back_words w₁ w₂
  whole_is = get_or-set_same w₂ whole_at (bit_of (says_yes wrote)) 0 (omega (arith, len.0, length-set t.words cell_count_at (get_or u.words cell_count_at 0), length-set w₁ should_clear_at (get_or u.words should_clear_at 0)))

  -- ---- bytes

  b₁ : List ℕ
  b₁ = put_part 0 u.bytes (row_places_at + 1) (row_count t) t.bytes

  byte : (m : ℕ) → Outside (row_places_at + 1) (row_count t) m → Outside changed_at (variable_count t) m → get_or z.bytes m 0 ≡ get_or t.bytes m 0
  unfolding back_bytes b₁
  byte m a b = part_out 0 u.bytes changed_at (variable_count t) b₁ m b ∙ part_out 0 u.bytes (row_places_at + 1) (row_count t) t.bytes m a

  row_is : (p : ℕ) → 1 ≤ p → p ≤ row_count t → get_or z.bytes (row_places_at + p) 0 ≡ get_or u.bytes (row_places_at + p) 0
  unfolding back_bytes b₁
  row_is p a b =
      let r = c.rows in
      part_out 0 u.bytes changed_at (variable_count t) b₁ (row_places_at + p) (λ x y. omega (arith, x, b, r))
      ∙ part_in 0 u.bytes (row_places_at + 1) (row_count t) t.bytes (row_places_at + p) (omega (arith, a)) (omega (arith, b)) (omega (arith, b, r, len.2))

  flag_is : (i : ℕ) → i < variable_count t → get_or z.bytes (changed_at + i) 0 ≡ get_or u.bytes (changed_at + i) 0
  unfolding back_bytes b₁
  flag_is i h =
      let v = c.variables in
      part_in 0 u.bytes changed_at (variable_count t) b₁ (changed_at + i) (omega arith) (omega (arith, h)) (omega (arith, h, v, len.2, part_length 0 u.bytes (row_places_at + 1) (row_count t) t.bytes))

  -- ---- reals

  r₁ : List Float
  r₁ = put_part nan u.reals (constants_at + 1) (row_count t) t.reals

  real : (m : ℕ) → Outside (constants_at + 1) (row_count t) m → Outside (objective_at + 1) (symbol_count t) m → get_or z.reals m nan ≡ get_or t.reals m nan
  unfolding back_reals r₁
  real m a b = part_out nan u.reals (objective_at + 1) (symbol_count t) r₁ m b ∙ part_out nan u.reals (constants_at + 1) (row_count t) t.reals m a

  constant-is : (p : ℕ) → 1 ≤ p → p ≤ row_count t → get_or z.reals (constants_at + p) nan ≡ get_or u.reals (constants_at + p) nan
  unfolding back_reals r₁
  constant-is p a b =
      let r = c.rows in
      part_out nan u.reals (objective_at + 1) (symbol_count t) r₁ (constants_at + p) (λ x y. omega (arith, x, b, r))
      ∙ part_in nan u.reals (constants_at + 1) (row_count t) t.reals (constants_at + p) (omega (arith, a)) (omega (arith, b)) (omega (arith, b, r, len.3))

  objective-is : (p : ℕ) → 1 ≤ p → p ≤ symbol_count t → get_or z.reals (objective_at + p) nan ≡ get_or u.reals (objective_at + p) nan
  unfolding back_reals r₁
  objective-is p a b =
      let k = c.symbols in
      part_in nan u.reals (objective_at + 1) (symbol_count t) r₁ (objective_at + p) (omega (arith, a)) (omega (arith, b)) (omega (arith, b, k, len.3, part_length nan u.reals (constants_at + 1) (row_count t) t.reals))

  -- ---- cells

  key-is : (j : ℕ) → j < cell_count u → get_or z.keys j 0 ≡ get_or u.keys j 0
  key-is j h = part_in 0 u.keys 0 (cell_count u) t.keys j (omega arith) (omega (arith, h)) (omega (arith, h, few, len.1))

  value-is : (j : ℕ) → j < cell_count u → get_or z.values j nan ≡ get_or u.values j nan
  value-is j h = part_in nan u.values 0 (cell_count u) t.values j (omega arith) (omega (arith, h)) (omega (arith, h, few, len.4))

  -- the room's words may have been others, but for the three
  pub backed : (w : List ℕ) → get_or w cell_count_at 0 ≡ cell_count u → get_or w should_clear_at 0 ≡ get_or u.words should_clear_at 0 → get_or w whole_at 0 ≡ bit_of (says_yes wrote) → Back t (record { words = w; keys = u.keys; bytes = u.bytes; reals = u.reals; values = u.values }) z
  backed w n d m =
      record {
        words = word;
        count = cells_are ∙ sym n;
        clear = clear-is ∙ sym d;
        whole = whole_is ∙ sym m;
        row_places = row_is;
        changed = flag_is;
        bytes = byte;
        constants = constant-is;
        objective = objective-is;
        reals = real;
        keys = λ j h. key-is j (rw n at h);
        values = λ j h. value-is j (rw n at h);
      }

  pub back-lengths : Lengths z
  unfolding back_words back_bytes back_reals w₁ w₂ b₁ r₁
  back-lengths = (
    length-set w₂ whole_at (bit_of (says_yes wrote)) ∙ length-set w₁ should_clear_at (get_or u.words should_clear_at 0) ∙ length-set t.words cell_count_at (get_or u.words cell_count_at 0) ∙ len.0,
    part_length 0 u.keys 0 (cell_count u) t.keys ∙ len.1,
    part_length 0 u.bytes changed_at (variable_count t) b₁ ∙ part_length 0 u.bytes (row_places_at + 1) (row_count t) t.bytes ∙ len.2,
    part_length nan u.reals (objective_at + 1) (symbol_count t) r₁ ∙ part_length nan u.reals (constants_at + 1) (row_count t) t.reals ∙ len.3,
    part_length nan u.values 0 (cell_count u) t.values ∙ len.4,
  )

  -- ---- what they differ in from t is live

  module _ (j : ℕ) (x : Float) (in-range : j < edit_count t) where
    abbrev s : Sparse
    s = with_real z (suggestions_at + j) x

    suggested-lengths : Lengths s
    suggested-lengths = let l = back-lengths in (l.0, l.1, l.2, length-set z.reals (suggestions_at + j) x ∙ l.3, l.4)

    pub back-becomes : put_over s t ≡ s
    back-becomes =
        let e : row_count z ≡ row_count t = word 2 (omega arith) (omega arith) (omega arith) in
        let k : symbol_count z ≡ symbol_count t = word 1 (omega arith) (omega arith) (omega arith) in
        let v : variable_count z ≡ variable_count t = word 4 (omega arith) (omega arith) (omega arith) in
        let g : edit_count z ≡ edit_count t = word 6 (omega arith) (omega arith) (omega arith) in
        put-becomes t s len suggested-lengths
        (λ m h. sym (word m (λ q. omega (arith, q, h)) (λ q. omega (arith, q, h)) (λ q. omega (arith, q, h))))
        (λ m h. sym (part_out 0 u.keys 0 (cell_count u) t.keys m (λ a b. omega (arith, b, h, cells_are))))
        (λ m a b. sym (byte m (rw e at a) (rw v at b)))
        (λ m a b d. sym (get_or-set_other z.reals (suggestions_at + j) m x nan (λ q. d (omega (arith, q)) (omega (arith, q, g, in-range))) ∙ real m (rw e at a) (rw k at b)))
        (λ m h. sym (part_out nan u.values 0 (cell_count u) t.values m (λ a b. omega (arith, b, h, cells_are))))
