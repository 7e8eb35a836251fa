-- The live words over others with no record counted: the counts may be written after the rest.
-- Assumes nothing.
use Prim.Native.Nat.{ℕ, ◌+◌, ◌<◌}
use Rattle.std.specs.Prelude.{◌≡◌, Bool, true, false, eqb, ltb, Float, length, get_or, set}
use Rattle.std.proofs.Math.Path.{refl, sym}
use Rattle.std.proofs.Common.{◌∙◌, arith, eqb-true, ltb-true, ltb-false}
use mathlib.Core.List.{List}
use Rattle.std.specs.Float.{nan}
use Rattle.std.proofs.Math.ListN.{length-set}
use Rattle.std.proofs.Math.Seq.{get_or-set_same, get_or-set_other}
use Rattle.std.proofs.lemmas.Bool.{eqb-false}
use Rattle.laws.specs.Lists.{tab}
use Rattle.layout.specs.Layout.{over}
use Rattle.layout.specs.Laying.{laid_nil}
use Rattle.sparse.specs.Places.{next_id_at, ids_at, variable_numbers_at, variable_uses_at, constraint_numbers_at, constraint_groups_at, gone_numbers_at, constraint_count_at, edit_count_at, gone_count_at, words_size}
use Rattle.sparse.specs.Sparse.{Sparse, symbol_count, row_count, cell_count, variable_count, gone_count}
use Rattle.sparse.specs.Copy.{heading_end, put_over}
use Rattle.lending.specs.sparse_copy.Over.{tables, put_part, words_over, names_over, records_over, reals_over, all-over}
use Rattle.lending.specs.sparse_copy.Becomes.{Outside, part_in, part_out, part_length, same-list}
use Rattle.lending.specs.Entered.{bare, bare_words, bare-constraints, bare-edits, bare-terms, bare-same, count_same, past_same}

-- a place of a part depends on that place alone
part_same : (from from' : List ℕ) (a n : ℕ) (to to' : List ℕ) (j : ℕ) → j < length to → length to' ≡ length to → get_or from j 0 ≡ get_or from' j 0 → get_or to j 0 ≡ get_or to' j 0
    → get_or (put_part 0 from a n to) j 0 ≡ get_or (put_part 0 from' a n to') j 0
part_same from from' a n to to' j l len e q = go (ltb j a) refl (ltb j (a + n)) refl
  where
    outside : Outside a n j → get_or (put_part 0 from a n to) j 0 ≡ get_or (put_part 0 from' a n to') j 0
    outside o = part_out 0 from a n to j o ∙ q ∙ sym (part_out 0 from' a n to' j o)

    go : (x : Bool) → ltb j a ≡ x → (y : Bool) → ltb j (a + n) ≡ y → get_or (put_part 0 from a n to) j 0 ≡ get_or (put_part 0 from' a n to') j 0
    go true p y r = let b = ltb-true j a p in outside (λ c d. absurd (omega (arith, b, c)))
    go false p false r = let b = ltb-false j (a + n) r in outside (λ c d. absurd (omega (arith, b, d)))
    go false p true r =
        let b = ltb-false j a p in
        let c = ltb-true j (a + n) r in
        part_in 0 from a n to j b c l ∙ e ∙ sym (part_in 0 from' a n to' j b c (omega (arith, l, len)))

module _ (w : List ℕ) (k v g : ℕ) (to : List ℕ) (long : length w ≡ words_size) (room : length to ≡ words_size) where
  words_long : (f : List ℕ) → length (words_over f k v 0 g to) ≡ length to
  unfolding words_over
  words_long f =
      part_length 0 f gone_numbers_at g _ ∙ part_length 0 f constraint_groups_at 0 _ ∙ part_length 0 f constraint_numbers_at 0 _ ∙ part_length 0 f variable_uses_at v _ ∙ part_length 0 f variable_numbers_at v _ ∙ part_length 0 f (ids_at + 1) k _ ∙ part_length 0 f next_id_at heading_end to

  -- one of the first words is the source's
  low : (f : List ℕ) (j : ℕ) → j < heading_end → get_or (words_over f k v 0 g to) j 0 ≡ get_or f j 0
  unfolding words_over
  low f j h =
      part_out 0 f gone_numbers_at g _ j (λ a b. absurd (omega (arith, h, a)))
      ∙ part_out 0 f constraint_groups_at 0 _ j (λ a b. absurd (omega (arith, h, a)))
      ∙ part_out 0 f constraint_numbers_at 0 _ j (λ a b. absurd (omega (arith, h, a)))
      ∙ part_out 0 f variable_uses_at v _ j (λ a b. absurd (omega (arith, h, a)))
      ∙ part_out 0 f variable_numbers_at v _ j (λ a b. absurd (omega (arith, h, a)))
      ∙ part_out 0 f (ids_at + 1) k _ j (λ a b. absurd (omega (arith, h, a)))
      ∙ part_in 0 f next_id_at heading_end to j (omega arith) h (omega (arith, h, room))

  -- a word that both sources have
  same_word : (f h : List ℕ) (j : ℕ) → j < length to → get_or f j 0 ≡ get_or h j 0 → get_or (words_over f k v 0 g to) j 0 ≡ get_or (words_over h k v 0 g to) j 0
  unfolding words_over
  same_word f h j l e =
      let s₁ = part_same f h next_id_at heading_end to to j l refl e refl in
      let s₂ = part_same f h (ids_at + 1) k (p f) (p h) j (omega (arith, l, n₁ f)) (n₁ h ∙ sym (n₁ f)) e s₁ in
      let s₃ = part_same f h variable_numbers_at v (p₂ f) (p₂ h) j (omega (arith, l, n₂ f)) (n₂ h ∙ sym (n₂ f)) e s₂ in
      let s₄ = part_same f h variable_uses_at v (p₃ f) (p₃ h) j (omega (arith, l, n₃ f)) (n₃ h ∙ sym (n₃ f)) e s₃ in
      let s₅ = part_same f h constraint_numbers_at 0 (p₄ f) (p₄ h) j (omega (arith, l, n₄ f)) (n₄ h ∙ sym (n₄ f)) e s₄ in
      let s₆ = part_same f h constraint_groups_at 0 (p₅ f) (p₅ h) j (omega (arith, l, n₅ f)) (n₅ h ∙ sym (n₅ f)) e s₅ in
      let s₇ = part_same f h gone_numbers_at g (p₆ f) (p₆ h) j (omega (arith, l, n₆ f)) (n₆ h ∙ sym (n₆ f)) e s₆ in
      s₇
    where
      p : List ℕ → List ℕ
      p x = put_part 0 x next_id_at heading_end to

      p₂ : List ℕ → List ℕ
      p₂ x = put_part 0 x (ids_at + 1) k (p x)

      p₃ : List ℕ → List ℕ
      p₃ x = put_part 0 x variable_numbers_at v (p₂ x)

      p₄ : List ℕ → List ℕ
      p₄ x = put_part 0 x variable_uses_at v (p₃ x)

      p₅ : List ℕ → List ℕ
      p₅ x = put_part 0 x constraint_numbers_at 0 (p₄ x)

      p₆ : List ℕ → List ℕ
      p₆ x = put_part 0 x constraint_groups_at 0 (p₅ x)

      n₁ : (x : List ℕ) → length (p x) ≡ length to
      n₁ x = part_length 0 x next_id_at heading_end to

      n₂ : (x : List ℕ) → length (p₂ x) ≡ length to
      n₂ x = part_length 0 x (ids_at + 1) k (p x) ∙ n₁ x

      n₃ : (x : List ℕ) → length (p₃ x) ≡ length to
      n₃ x = part_length 0 x variable_numbers_at v (p₂ x) ∙ n₂ x

      n₄ : (x : List ℕ) → length (p₄ x) ≡ length to
      n₄ x = part_length 0 x variable_uses_at v (p₃ x) ∙ n₃ x

      n₅ : (x : List ℕ) → length (p₅ x) ≡ length to
      n₅ x = part_length 0 x constraint_numbers_at 0 (p₄ x) ∙ n₄ x

      n₆ : (x : List ℕ) → length (p₆ x) ≡ length to
      n₆ x = part_length 0 x constraint_groups_at 0 (p₅ x) ∙ n₅ x

  edits : get_or (bare_words w) edit_count_at 0 ≡ 0
  unfolding bare_words
  edits = get_or-set_same (set w constraint_count_at 0) edit_count_at 0 0 (omega (arith, long, length-set w constraint_count_at 0))

  constraints : get_or (bare_words w) constraint_count_at 0 ≡ 0
  unfolding bare_words
  constraints = get_or-set_other (set w constraint_count_at 0) edit_count_at constraint_count_at 0 0 (omega arith) ∙ get_or-set_same w constraint_count_at 0 0 (omega (arith, long))

  other : (j : ℕ) → (j ≡ constraint_count_at → ⊥) → (j ≡ edit_count_at → ⊥) → get_or w j 0 ≡ get_or (bare_words w) j 0
  unfolding bare_words
  other j a b = sym (get_or-set_other (set w constraint_count_at 0) edit_count_at j 0 0 b ∙ get_or-set_other w constraint_count_at j 0 0 a)

  pub bare-words : set (set (words_over w k v 0 g to) constraint_count_at 0) edit_count_at 0 ≡ words_over (bare_words w) k v 0 g to
  bare-words = same-list 0 _ _ (length-set (set (words_over w k v 0 g to) constraint_count_at 0) edit_count_at 0 ∙ length-set (words_over w k v 0 g to) constraint_count_at 0 ∙ words_long w ∙ sym (words_long (bare_words w))) (λ j l. at j (omega (arith, l, words_long (bare_words w))))
    where
      all : List ℕ
      all = words_over w k v 0 g to

      at : (j : ℕ) → j < length to → get_or (set (set all constraint_count_at 0) edit_count_at 0) j 0 ≡ get_or (words_over (bare_words w) k v 0 g to) j 0
      at j l = go (eqb j edit_count_at) refl (eqb j constraint_count_at) refl
        where
          go : (x : Bool) → eqb j edit_count_at ≡ x → (y : Bool) → eqb j constraint_count_at ≡ y → get_or (set (set all constraint_count_at 0) edit_count_at 0) j 0 ≡ get_or (words_over (bare_words w) k v 0 g to) j 0
          go true p y q =
              rw (eqb-true j edit_count_at p)
              (get_or-set_same (set all constraint_count_at 0) edit_count_at 0 0 (omega (arith, room, words_long w, length-set all constraint_count_at 0)) ∙ sym (low (bare_words w) edit_count_at (omega arith) ∙ edits))
          go false p true q =
              rw (eqb-true j constraint_count_at q)
              (get_or-set_other (set all constraint_count_at 0) edit_count_at constraint_count_at 0 0 (omega arith) ∙ get_or-set_same all constraint_count_at 0 0 (omega (arith, room, words_long w)) ∙ sym (low (bare_words w) constraint_count_at (omega arith) ∙ constraints))
          go false p false q =
              get_or-set_other (set all constraint_count_at 0) edit_count_at j 0 0 (eqb-false j edit_count_at p)
              ∙ get_or-set_other all constraint_count_at j 0 0 (eqb-false j constraint_count_at q)
              ∙ same_word w (bare_words w) j l (other j (eqb-false j constraint_count_at q) (eqb-false j edit_count_at p))

-- ---- no record

put-none : {A : Type 0} (d : A) (from : List A) (a : ℕ) (to : List A) → put_part d from a 0 to ≡ to
unfolding put_part over tab
put-none {A = A} d from a to = laid_nil (λ (x _ : A). x) a to

no-records : (b : List ℕ) (to : List ℕ) → records_over b 0 0 0 to ≡ to
unfolding records_over
no-records b to = rw (put-none 0 b _ _, put-none 0 b _ _, put-none 0 b _ _, put-none 0 b _ _, put-none 0 b _ _, put-none 0 b _ _, put-none 0 b _ _, put-none 0 b _ _) refl

-- the five of them are the live part of t over w, the records left out
pub bare-over : (t w : Sparse) → length t.words ≡ words_size → {a b d : List ℕ} {f g : List Float}
    → a ≡ words_over (bare_words t.words) (symbol_count t) (variable_count t) 0 (gone_count t) w.words
    → b ≡ put_part 0 t.keys 0 (cell_count t) w.keys
    → g ≡ put_part nan t.values 0 (cell_count t) w.values
    → d ≡ names_over t.bytes (symbol_count t) (row_count t) (variable_count t) w.bytes
    → f ≡ reals_over t.reals (symbol_count t) (row_count t) (variable_count t) 0 0 0 w.reals
    → tables a b d f g ≡ put_over (bare t) w
bare-over t w len {a} {b} {d} {f} {g} e₁ e₂ e₃ e₄ e₅ =
    all-over (bare t) w {m = 0} {names = d} (sym (bare-terms t len))
    (rw (n 1 (omega arith), n 4 (omega arith), bare-constraints t len, gone) e₁)
    (rw (n 3 (omega arith)) e₂)
    (rw (n 3 (omega arith)) e₃)
    (rw (n 1 (omega arith), n 2 (omega arith), n 4 (omega arith)) e₄)
    (rw (bare-constraints t len, bare-edits t len) (sym (no-records t.bytes d)))
    (rw (n 1 (omega arith), n 2 (omega arith), n 4 (omega arith), bare-constraints t len, bare-edits t len) e₅)
  where
    n : (m : ℕ) → m < constraint_count_at → get_or (bare_words t.words) m 0 ≡ get_or t.words m 0
    n = count_same t (bare_words t.words) (bare-same t len)

    gone : gone_count (bare t) ≡ gone_count t
    gone = past_same t (bare_words t.words) (bare-same t len) gone_count_at (omega arith)
