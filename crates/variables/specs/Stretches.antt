-- A new variable over the sparse tables' places: the five stretches that it comes into, and all else as it was.
-- Assumes nothing.
use Rattle.std.specs.Prelude.{ℕ, ◌+◌, ◌≤◌, ◌<◌, ◌≡◌, List, ltb, Float, length, get_or, set}
use Rattle.std.proofs.Math.Path.{refl, sym}
use Rattle.std.proofs.Common.{◌∙◌, arith, ltb-true, ltb-false}
use Rattle.std.specs.Float.Ieee.{nan}
use Rattle.std.proofs.Math.ListN.{length-set}
use Rattle.std.proofs.Math.Seq.{get_or-set_same, get_or-set_other}
use Rattle.layout.specs.cells.Seek.{first-elim}
use Rattle.rows.specs.moves.Close.{opened}
use Rattle.rows.specs.moves.Moved.{opened-before, opened_after, length-opened}
use Rattle.sparse.specs.Places.{most_variables, variable_count_at, gone_count_at, variable_numbers_at, variable_uses_at, constraint_numbers_at, gone_numbers_at, variable_places_at, changed_at, old_values_at, words_size, bytes_size, reals_size}
use Rattle.sparse.specs.Sparse.{Sparse, variable_count, gone_of}
use Rattle.waist.specs.substituting.Gone.{gone-kept}
use Rattle.waist.specs.Working.{sparse}
use Rattle.variables.specs.Variables.{spot_in, kept_words, kept_bytes, kept_reals}
use Rattle.variables.specs.Alone.{VariablesAlone}
use Rattle.variables.specs.Came.{Came, opened-came, came-as}

-- ---- the code's calls put together

pub kept-words-is : (n : ℕ) (words : List ℕ) {v : ℕ} {w₁ w₂ : List ℕ} → v ≡ spot_in n words
    → w₁ ≡ opened (variable_numbers_at + v) (variable_numbers_at + get_or words variable_count_at 0) n words → w₂ ≡ opened (variable_uses_at + v) (variable_uses_at + get_or words variable_count_at 0) 0 w₁
    → set w₂ variable_count_at (get_or words variable_count_at 0 + 1) ≡ kept_words n words
unfolding kept_words
kept-words-is n words e p q = rw (q, p, e) refl

pub kept-bytes-is : (n p : ℕ) (words bytes : List ℕ) {v : ℕ} {b₁ b₂ : List ℕ} → v ≡ spot_in n words
    → b₁ ≡ opened (variable_places_at + v) (variable_places_at + get_or words variable_count_at 0) p bytes → b₂ ≡ opened (changed_at + v) (changed_at + get_or words variable_count_at 0) 0 b₁
    → b₂ ≡ kept_bytes n p words bytes
unfolding kept_bytes
kept-bytes-is n p words bytes e a b = rw (b, a, e) refl

pub kept-reals-is : (n : ℕ) (words : List ℕ) (reals : List Float) {v : ℕ} {r : List Float} → v ≡ spot_in n words → r ≡ opened (old_values_at + v) (old_values_at + get_or words variable_count_at 0) nan reals → r ≡ kept_reals n words reals
unfolding kept_reals
kept-reals-is n words reals e a = rw (a, e) refl

-- ---- where it stands

pub record Between (n : ℕ) (words : List ℕ) (z : ℕ) : Type 0 where
  pub low : z ≤ get_or words variable_count_at 0
  pub before : (j : ℕ) → j < z → get_or words (variable_numbers_at + j) 0 ≤ n
  pub past : z < get_or words variable_count_at 0 → n < get_or words (variable_numbers_at + z) 0

pub spot-between : (n : ℕ) (words : List ℕ) → Between n words (spot_in n words)
unfolding spot_in
spot-between n words =
    first-elim (λ v. ltb n (get_or words (variable_numbers_at + v) 0)) (λ v. v) (get_or words variable_count_at 0) (Between n words) 0 (get_or words variable_count_at 0) (omega arith)
    (λ r a b t k. record { low = omega (arith, b); before = λ j h. ltb-false n _ (k j (omega arith) h); past = λ h. ltb-true n _ t })
    λ k. record { low = omega arith; before = λ j h. ltb-false n _ (k j (omega arith) h); past = λ h. absurd (omega (arith, h)) }

-- the tables with the variable
abbrev pub kept_in : ℕ → ℕ → Sparse → Sparse
kept_in n p t = sparse (kept_words n t.words) t.keys (kept_bytes n p t.words t.bytes) (kept_reals n t.words t.reals) t.values

module _ (n p : ℕ) (t : Sparse) (long : length t.words ≡ words_size) (wide : length t.bytes ≡ bytes_size) (deep : length t.reals ≡ reals_size) (room : variable_count t < most_variables) where
  abbrev k : ℕ
  k = variable_count t

  abbrev z : ℕ
  z = spot_in n t.words

  abbrev u : Sparse
  u = kept_in n p t

  low : z ≤ k
  low = (spot-between n t.words).low

  abbrev w₁ : List ℕ
  w₁ = opened (variable_numbers_at + z) (variable_numbers_at + k) n t.words

  abbrev w₂ : List ℕ
  w₂ = opened (variable_uses_at + z) (variable_uses_at + k) 0 w₁

  abbrev b₁ : List ℕ
  b₁ = opened (variable_places_at + z) (variable_places_at + k) p t.bytes

  long₁ : length w₁ ≡ words_size
  long₁ = let l = low in length-opened (variable_numbers_at + z) (variable_numbers_at + k) n t.words (omega (arith, l)) (omega (arith, long, room)) 0 ∙ long

  long₂ : length w₂ ≡ words_size
  long₂ = let l = low in let m = long₁ in length-opened (variable_uses_at + z) (variable_uses_at + k) 0 w₁ (omega (arith, l)) (omega (arith, m, room)) 0 ∙ m

  wide₁ : length b₁ ≡ bytes_size
  wide₁ = let l = low in length-opened (variable_places_at + z) (variable_places_at + k) p t.bytes (omega (arith, l)) (omega (arith, wide, room)) 0 ∙ wide

  -- ---- the five stretches

  past_words : (q : ℕ) → (q ≡ variable_count_at → ⊥) → get_or u.words q 0 ≡ get_or w₂ q 0
  unfolding kept_words
  past_words q d = get_or-set_other w₂ variable_count_at q (k + 1) 0 d

  pub kept-count : variable_count u ≡ k + 1
  unfolding kept_words
  kept-count = let m = long₂ in get_or-set_same w₂ variable_count_at (k + 1) 0 (omega (arith, m))

  pub numbers-came : Came k z n (λ j. get_or t.words (variable_numbers_at + j) 0) (λ j. get_or u.words (variable_numbers_at + j) 0)
  numbers-came =
      let l = low in
      let m = long₁ in
      came-as l (opened-came t.words variable_numbers_at k z n 0 l (omega (arith, long, room))) _ _ (λ j h. refl)
      λ j h. past_words (variable_numbers_at + j) (λ e. omega (arith, e)) ∙ opened-before (variable_uses_at + z) (variable_uses_at + k) 0 w₁ (omega (arith, l)) (omega (arith, m, room)) 0 (variable_numbers_at + j) (omega (arith, h, room))

  pub uses-came : Came k z 0 (λ j. get_or t.words (variable_uses_at + j) 0) (λ j. get_or u.words (variable_uses_at + j) 0)
  uses-came =
      let l = low in
      let m = long₁ in
      came-as l (opened-came w₁ variable_uses_at k z 0 0 l (omega (arith, m, room))) _ _
      (λ j h. sym (opened_after (variable_numbers_at + z) (variable_numbers_at + k) n t.words (omega (arith, l)) (omega (arith, long, room)) 0 (variable_uses_at + j) (omega (arith, room))))
      λ j h. past_words (variable_uses_at + j) (λ e. omega (arith, e))

  pub places-came : Came k z p (λ j. get_or t.bytes (variable_places_at + j) 0) (λ j. get_or u.bytes (variable_places_at + j) 0)
  unfolding kept_bytes
  places-came =
      let l = low in
      let m = wide₁ in
      came-as l (opened-came t.bytes variable_places_at k z p 0 l (omega (arith, wide, room))) _ _ (λ j h. refl)
      λ j h. opened-before (changed_at + z) (changed_at + k) 0 b₁ (omega (arith, l)) (omega (arith, m, room)) 0 (variable_places_at + j) (omega (arith, h, room))

  pub changed-came : Came k z 0 (λ j. get_or t.bytes (changed_at + j) 0) (λ j. get_or u.bytes (changed_at + j) 0)
  unfolding kept_bytes
  changed-came =
      let l = low in
      let m = wide₁ in
      came-as l (opened-came b₁ changed_at k z 0 0 l (omega (arith, m, room))) _ _
      (λ j h. sym (opened_after (variable_places_at + z) (variable_places_at + k) p t.bytes (omega (arith, l)) (omega (arith, wide, room)) 0 (changed_at + j) (omega (arith, room))))
      λ j h. refl

  pub olds-came : Came k z nan (λ j. get_or t.reals (old_values_at + j) nan) (λ j. get_or u.reals (old_values_at + j) nan)
  unfolding kept_reals
  olds-came = let l = low in opened-came t.reals old_values_at k z nan nan l (omega (arith, deep, room))

  -- ---- all else

  word-before : (q : ℕ) → q < variable_numbers_at → (q ≡ variable_count_at → ⊥) → get_or u.words q 0 ≡ get_or t.words q 0
  word-before q h d =
      let l = low in
      let m = long₁ in
      past_words q d
      ∙ opened-before (variable_uses_at + z) (variable_uses_at + k) 0 w₁ (omega (arith, l)) (omega (arith, m, room)) 0 q (omega (arith, h))
      ∙ opened-before (variable_numbers_at + z) (variable_numbers_at + k) n t.words (omega (arith, l)) (omega (arith, long, room)) 0 q (omega (arith, h))

  word_after : (q : ℕ) → constraint_numbers_at ≤ q → get_or u.words q 0 ≡ get_or t.words q 0
  word_after q h =
      let l = low in
      let m = long₁ in
      past_words q (λ e. omega (arith, e, h))
      ∙ opened_after (variable_uses_at + z) (variable_uses_at + k) 0 w₁ (omega (arith, l)) (omega (arith, m, room)) 0 q (omega (arith, h, room))
      ∙ opened_after (variable_numbers_at + z) (variable_numbers_at + k) n t.words (omega (arith, l)) (omega (arith, long, room)) 0 q (omega (arith, h, room))

  pub kept-gone : gone_of u ≡ gone_of t
  kept-gone = gone-kept t u (word-before gone_count_at (omega arith) (λ e. omega (arith, e))) (λ j. word_after (gone_numbers_at + j) (omega arith))

  pub kept-alone : VariablesAlone t u
  unfolding kept_words kept_bytes kept_reals
  kept-alone =
      let l = low in
      let w = wide₁ in
      record {
        words = λ q h d _. word-before q h d;
        long = length-set w₂ variable_count_at (k + 1) ∙ long₂ ∙ sym long;
        bytes = λ q h.
            opened-before (changed_at + z) (changed_at + k) 0 b₁ (omega (arith, l)) (omega (arith, w, room)) 0 q (omega (arith, h))
            ∙ opened-before (variable_places_at + z) (variable_places_at + k) p t.bytes (omega (arith, l)) (omega (arith, wide, room)) 0 q (omega (arith, h));
        wide = length-opened (changed_at + z) (changed_at + k) 0 b₁ (omega (arith, l)) (omega (arith, w, room)) 0 ∙ w ∙ sym wide;
        low = λ q h. opened-before (old_values_at + z) (old_values_at + k) nan t.reals (omega (arith, l)) (omega (arith, deep, room)) nan q (omega (arith, h));
        high = λ q h. opened_after (old_values_at + z) (old_values_at + k) nan t.reals (omega (arith, l)) (omega (arith, deep, room)) nan q (omega (arith, h, room));
        deep = length-opened (old_values_at + z) (old_values_at + k) nan t.reals (omega (arith, l)) (omega (arith, deep, room)) nan;
        keys = refl;
        values = refl;
      }
