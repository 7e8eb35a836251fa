-- "One call a line, words split by one space."
use Rattle.std.specs.Prelude.{◌≡◌, ℕ, zero, suc, ◌+◌, ◌-◌, ◌<◌, ◌≤◌, Bool, true, false, cond, List, [], ◌∷◌, ◌++◌, length, take, drop, ◌==◌, ◌≢◌, slice_index, slice_index_or, refl}
use Rattle.std.proofs.Common.{sym, ap, ◌∙◌, append_assoc, append-nil, not-suc-le-zero, add-one, arith, eq-eqb, ne_eqb, drop_of_length-le, drop-cons, take-suc}

-- the byte goes to the first of the words
unfoldable pub joined : ℕ → List (List ℕ) → List (List ℕ)
joined b [] = (b ∷ []) ∷ []
joined b (w ∷ ws) = (b ∷ w) ∷ ws

-- every space ends a word, so two in a row have an empty one between them
unfoldable pub words_of : List ℕ → List (List ℕ)
unfolding joined
words_of [] = [] ∷ []
words_of (b ∷ s) = cond (b == 32) ([] ∷ words_of s) (joined b (words_of s))

-- the word of a number, counted from 0; empty if there is none
abbrev pub word : List (List ℕ) → ℕ → List ℕ
word ws k = slice_index_or ws k []

-- ---- laws for the loops over a line

at-space : (s : List ℕ) (i : ℕ) → i < length s → slice_index s i ≡ 32 → words_of (drop i s) ≡ [] ∷ words_of (drop (i + 1) s)
unfolding words_of
at-space s i h q = rw (add-one, drop-cons s i 0 h, eq-eqb _ _ q)

at_other : (s : List ℕ) (i : ℕ) → i < length s → (slice_index s i ≢ 32) → words_of (drop i s) ≡ joined (slice_index s i) (words_of (drop (i + 1) s))
unfolding words_of
at_other s i h q = rw (add-one, drop-cons s i 0 h, ne_eqb _ _ q)

at-end : (s : List ℕ) (i : ℕ) → length s ≤ i → words_of (drop i s) ≡ [] ∷ []
unfolding words_of
at-end s i h = rw (drop_of_length-le s h)

-- there is always a word
some_word : (s : List ℕ) → 1 ≤ length (words_of s)
unfolding words_of
some_word [] = omega arith
some_word (b ∷ s) = test (b == 32)
  where
    more : (ws : List (List ℕ)) → 1 ≤ length (joined b ws)
    more [] = omega arith
    more (w ∷ ws) = omega arith

    test : (t : Bool) → 1 ≤ length (cond t ([] ∷ words_of s) (joined b (words_of s)))
    test true = omega arith
    test false = more (words_of s)

-- ---- how many words

joined_length : (b : ℕ) (ws : List (List ℕ)) → 1 ≤ length ws → length (joined b ws) ≡ length ws
unfolding joined
joined_length b [] h = omega arith
joined_length b (w ∷ ws) h = refl

pub count-space : (s : List ℕ) (i n : ℕ) {z : ℕ} → i < length s → slice_index s i ≡ 32 → n + length (words_of (drop i s)) ≡ z → n + 1 + length (words_of (drop (i + 1) s)) ≡ z
count-space s i n h q r = let e = ap length (at-space s i h q) in omega arith

pub count-other : (s : List ℕ) (i n : ℕ) {z : ℕ} → i < length s → (slice_index s i ≢ 32) → n + length (words_of (drop i s)) ≡ z → n + length (words_of (drop (i + 1) s)) ≡ z
count-other s i n h q r =
    let e = ap length (at_other s i h q) in
    let f = joined_length (slice_index s i) (words_of (drop (i + 1) s)) (some_word (drop (i + 1) s)) in
    omega arith

pub count-last : (s : List ℕ) (i n : ℕ) {z : ℕ} → length s ≤ i → n + length (words_of (drop i s)) ≡ z → n + 1 ≡ z
count-last s i n h r = let e = ap length (at-end s i h) in omega arith

-- ---- where a word starts

joined-later : (b k : ℕ) (ws : List (List ℕ)) → 1 ≤ k → word (joined b ws) k ≡ word ws k
unfolding joined
joined-later b zero ws h = absurd (not-suc-le-zero h)
joined-later b (suc k) [] h = refl
joined-later b (suc k) (w ∷ ws) h = refl

pub skip-space : (s : List ℕ) (i k : ℕ) {z : List ℕ} → i < length s → 1 ≤ k → slice_index s i ≡ 32 → word (words_of (drop i s)) k ≡ z → word (words_of (drop (i + 1) s)) (k - 1) ≡ z
skip-space s i k h m q r = sym (step k m (words_of (drop (i + 1) s))) ∙ ap (λ (ws : List (List ℕ)). word ws k) (sym (at-space s i h q)) ∙ r
  where
    step : (k : ℕ) → 1 ≤ k → (ws : List (List ℕ)) → word ([] ∷ ws) k ≡ word ws (k - 1)
    step zero h ws = absurd (not-suc-le-zero h)
    step (suc k) h ws = let e : suc k - 1 ≡ k = omega arith in rw e

pub skip-other : (s : List ℕ) (i k : ℕ) {z : List ℕ} → i < length s → 1 ≤ k → (slice_index s i ≢ 32) → word (words_of (drop i s)) k ≡ z → word (words_of (drop (i + 1) s)) k ≡ z
skip-other s i k h m q r = sym (joined-later (slice_index s i) k (words_of (drop (i + 1) s)) m) ∙ ap (λ (ws : List (List ℕ)). word ws k) (sym (at_other s i h q)) ∙ r

-- past the end every word is empty
pub skip-last : (s : List ℕ) (i k : ℕ) {z : List ℕ} → length s ≤ i → word (words_of (drop i s)) k ≡ z → word (words_of (drop i s)) 0 ≡ z
skip-last s i k h r = ap (λ (ws : List (List ℕ)). word ws 0) (at-end s i h) ∙ sym (none k) ∙ ap (λ (ws : List (List ℕ)). word ws k) (sym (at-end s i h)) ∙ r
  where
    none : (k : ℕ) → word ([] ∷ []) k ≡ []
    none zero = refl
    none (suc k) = refl

-- ---- where a word ends: what was passed of it, and what is left

joined-first : (b : ℕ) (ws : List (List ℕ)) → word (joined b ws) 0 ≡ b ∷ word ws 0
unfolding joined
joined-first b [] = refl
joined-first b (w ∷ ws) = refl

pub word_next : (s : List ℕ) (i : ℕ) {z : List ℕ} → i < length s → (slice_index s i ≢ 32) → take i s ++ word (words_of (drop i s)) 0 ≡ z → take (i + 1) s ++ word (words_of (drop (i + 1) s)) 0 ≡ z
word_next s i h q r =
    rw (add-one, take-suc s i 0 h, append_assoc)
    (ap (λ (w : List ℕ). take i s ++ w) (sym (ap (λ (ws : List (List ℕ)). word ws 0) (at_other s i h q) ∙ joined-first (slice_index s i) (words_of (drop (i + 1) s)) ∙ ap (λ (j : ℕ). slice_index s i ∷ word (words_of (drop j s)) 0) (add-one i))) ∙ r)

pub word-stop : (s : List ℕ) (i : ℕ) {z : List ℕ} → i < length s → slice_index s i ≡ 32 → take i s ++ word (words_of (drop i s)) 0 ≡ z → take i s ≡ z
word-stop s i h q r = sym (append-nil (take i s)) ∙ ap (λ (ws : List (List ℕ)). take i s ++ word ws 0) (sym (at-space s i h q)) ∙ r

pub word-last : (s : List ℕ) (i : ℕ) {z : List ℕ} → length s ≤ i → take i s ++ word (words_of (drop i s)) 0 ≡ z → take i s ≡ z
word-last s i h r = sym (append-nil (take i s)) ∙ ap (λ (ws : List (List ℕ)). take i s ++ word ws 0) (sym (at-end s i h)) ∙ r
