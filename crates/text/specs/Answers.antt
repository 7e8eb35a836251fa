-- Answers as text, and what it is to write text into a lent buffer from a place on.
use Rattle.std.specs.Prelude.{◌≡◌, ℕ, zero, suc, ◌+◌, ◌-◌, ◌*◌, ◌/◌, ◌%◌, ◌<◌, ◌≤◌, Bool, true, false, cond, List, [], ◌∷◌, ◌++◌, length, take, ◌==◌, ◌≢◌, nat_lt, slice_index, slice_index_or, slice_set, to_bits, Float}
use Rattle.std.proofs.Math.Path.{refl}
use Rattle.std.proofs.Common.{sym, ap, ◌∙◌, append_assoc, append-nil, add-one, lt-ltb, le-ltb, length-append, length-set, take-suc-set}
use native.Mathlib.Omega.{arith}
use Rattle.std.specs.Float.{binary64, nan}
use Rattle.steps.specs.Changes.{Change}
use Rattle.laws.specs.Lists.{tab, list_of, length-tab}
use Rattle.rows.specs.choose.Walk.{tab-snoc}
use Rattle.steps.specs.Session.{Reply, answer, is, list, says, numbers}

-- a number of at most k digits in decimal, with no zeros in front
unfoldable pub decimal_text : ℕ → ℕ → List ℕ
decimal_text zero n = []
decimal_text (suc k) n = cond (nat_lt n 10) ((48 + n) ∷ []) (decimal_text k (n / 10) ++ ((48 + n % 10) ∷ []))

-- `0` to `9`, then `a` to `f`
abbrev pub glyph : ℕ → ℕ
glyph d = cond (nat_lt d 10) (48 + d) (87 + d)

-- the last k hexadecimal digits
unfoldable pub hex_text : ℕ → ℕ → List ℕ
hex_text zero n = []
hex_text (suc k) n = hex_text k (n / 16) ++ (glyph (n % 16) ∷ [])

-- a u64 in decimal
abbrev pub number_text : ℕ → List ℕ
number_text n = decimal_text 20 n

-- "16 hexadecimal digits of its bits"
abbrev pub float_text : Float → List ℕ
float_text x = hex_text 16 (to_bits binary64 x)

-- "0 or 1"
abbrev pub flag_text : Bool → List ℕ
flag_text b = cond b (49 ∷ []) (48 ∷ [])

-- "gone"
abbrev pub gone_text : List ℕ
gone_text = 103 ∷ 111 ∷ 110 ∷ 101 ∷ []

abbrev pub new_text : Float → Bool → List ℕ
new_text x g = cond g gone_text (float_text x)

-- "`V:BITS` or `V:gone`", a space before it
abbrev pub change_text : ℕ → Float → Bool → List ℕ
change_text v x g = (32 ∷ []) ++ (number_text v ++ ((58 ∷ []) ++ new_text x g))

abbrev entry_text : Change → List ℕ
entry_text c = change_text c.variable c.new c.gone

-- "changing calls and reset `REFUSAL PIVOTS MARK`"
abbrev pub answer_text : ℕ → ℕ → Bool → List ℕ
answer_text n p m = number_text n ++ ((32 ∷ []) ++ (number_text p ++ ((32 ∷ []) ++ flag_text m)))

unfoldable pub changes_text : List Change → List ℕ
changes_text [] = []
changes_text (c ∷ cs) = entry_text c ++ changes_text cs

-- "`fetch` then answers `COUNT ENTRY ...`"
unfoldable pub fetch_text : List Change → List ℕ
fetch_text cs = number_text (length cs) ++ changes_text cs

-- "answered `?`"
abbrev pub unread_text : List ℕ
unread_text = 63 ∷ []

-- the text of a reply; the numbers of a test's aid have none
unfoldable pub reply_text : Reply → List ℕ
reply_text (answer n p m) = answer_text n p m
reply_text (is x) = float_text x
reply_text (list cs) = fetch_text cs
reply_text (says b) = flag_text b
reply_text (numbers ns) = []

-- the entries that stand at the front of three lists: 1 is gone
abbrev pub listed_at : List ℕ → List Float → List ℕ → ℕ → Change
listed_at ns vs gs j = record { variable = slice_index ns j; new = slice_index_or vs j nan; gone = (slice_index gs j == 1) }

unfoldable pub listed_in : ℕ → List ℕ → List Float → List ℕ → List Change
listed_in count ns vs gs = list_of count (listed_at ns vs gs)

-- ---- text at the front of a buffer: of what stood there the first `at` bytes, then the text, up to the next place

abbrev pub Wrote : List ℕ → List ℕ → ℕ → ℕ → List ℕ → Type 0
Wrote before after at next text = (next ≡ at + length text) × (length after ≡ length before) × (take next after ≡ take at before ++ text)

pub wrote_then : (a b c : List ℕ) (i j k : ℕ) (s t : List ℕ) → Wrote a b i j s → Wrote b c j k t → Wrote a c i k (s ++ t)
wrote_then a b c i j k s t p q =
    (simp length-append (omega arith), q.1 ∙ p.1, q.2 ∙ ap (λ (l : List ℕ). l ++ t) p.2 ∙ append_assoc (take i a) s t)

pub wrote-byte : (l : List ℕ) (i b : ℕ) → i < length l → Wrote l (slice_set l i b) i (i + 1) (b ∷ [])
wrote-byte l i b h = (omega arith, length-set l i b, rw add-one (take-suc-set l i b h))

pub decimal-short : (k n : ℕ) → length (decimal_text k n) ≤ k
unfolding decimal_text
decimal-short zero n = omega arith
decimal-short (suc k) n = test (nat_lt n 10) (decimal-short k (n / 10))
  where
    test : (t : Bool) → length (decimal_text k (n / 10)) ≤ k → length (cond t ((48 + n) ∷ []) (decimal_text k (n / 10) ++ ((48 + n % 10) ∷ []))) ≤ suc k
    test true h = omega arith
    test false h = simp length-append (omega arith)

pub hex-length : (k n : ℕ) → length (hex_text k n) ≡ k
unfolding hex_text
hex-length zero n = refl
hex-length (suc k) n = let h = hex-length k (n / 16) in simp length-append (omega arith)

pub flag-length : (b : Bool) → length (flag_text b) ≡ 1
flag-length true = refl
flag-length false = refl

pub answer-short : (n p : ℕ) (m : Bool) → length (answer_text n p m) ≤ 43
answer-short n p m = simp length-append (omega (arith, decimal-short 20 n, decimal-short 20 p, flag-length m))

-- ---- digit by digit

pub wrote_as : (a b : List ℕ) (i j : ℕ) {s t : List ℕ} → t ≡ s → Wrote a b i j s → Wrote a b i j t
wrote_as a b i j e w = rw e w

pub wrote_nothing : (l : List ℕ) (i : ℕ) → Wrote l l i i []
wrote_nothing l i = (omega arith, refl, sym (append-nil (take i l)))

pub decimal-none : (k n : ℕ) → k ≡ 0 → decimal_text k n ≡ []
unfolding decimal_text
decimal-none k n h = rw h

pub decimal-one : (k n : ℕ) → (k ≢ 0) → n < 10 → decimal_text k n ≡ (48 + n) ∷ []
unfolding decimal_text
decimal-one zero n h q = absurd (h refl)
decimal-one (suc k) n h q = rw (lt-ltb n 10 q)

pub decimal-more : (k n : ℕ) → (k ≢ 0) → 10 ≤ n → decimal_text k n ≡ decimal_text (k - 1) (n / 10) ++ ((48 + n % 10) ∷ [])
unfolding decimal_text
decimal-more zero n h q = absurd (h refl)
decimal-more (suc k) n h q = let e : suc k - 1 ≡ k = omega arith in rw (le-ltb n 10 q, e)

pub hex-none : (k n : ℕ) → k ≡ 0 → hex_text k n ≡ []
unfolding hex_text
hex-none k n h = rw h

pub hex-more : (k n : ℕ) → (k ≢ 0) → hex_text k n ≡ hex_text (k - 1) (n / 16) ++ (glyph (n % 16) ∷ [])
unfolding hex_text
hex-more zero n h = absurd (h refl)
hex-more (suc k) n h = let e : suc k - 1 ≡ k = omega arith in rw e

-- ---- the entries of a fetch, one after the other

new-short : (x : Float) (g : Bool) → length (new_text x g) ≤ 16
new-short x true = omega arith
new-short x false = omega (arith, hex-length 16 (to_bits binary64 x))

pub change-short : (v : ℕ) (x : Float) (g : Bool) → length (change_text v x g) ≤ 38
change-short v x g = simp length-append (omega (arith, decimal-short 20 v, new-short x g))

changes-snoc : (cs : List Change) (c : Change) → changes_text (cs ++ (c ∷ [])) ≡ changes_text cs ++ entry_text c
unfolding changes_text
changes-snoc [] c = append-nil (entry_text c)
changes-snoc (d ∷ cs) c = ap (λ (l : List ℕ). entry_text d ++ l) (changes-snoc cs c) ∙ sym (append_assoc (entry_text d) (changes_text cs) (entry_text c))

module _ (ns : List ℕ) (vs : List Float) (gs : List ℕ) where
  pub changes-none : changes_text (listed_in 0 ns vs gs) ≡ []
  unfolding listed_in list_of tab changes_text
  changes-none = refl

  pub changes-next : (i : ℕ) → changes_text (listed_in (i + 1) ns vs gs) ≡ changes_text (listed_in i ns vs gs) ++ entry_text (listed_at ns vs gs i)
  unfolding listed_in list_of
  changes-next i =
      let e : 0 + i ≡ i = omega arith in
      rw (add-one i) (ap changes_text (tab-snoc (listed_at ns vs gs) 0 i) ∙ changes-snoc (tab (listed_at ns vs gs) 0 i) (listed_at ns vs gs (0 + i)) ∙ rw e refl)

  pub listed-length : (count : ℕ) → length (listed_in count ns vs gs) ≡ count
  unfolding listed_in list_of
  listed-length count = length-tab (listed_at ns vs gs) 0 count

pub changes-short : (cs : List Change) → length (changes_text cs) ≤ 38 * length cs
unfolding changes_text
changes-short [] = omega arith
changes-short (c ∷ cs) =
    let h = changes-short cs in
    let k = change-short c.variable c.new c.gone in
    let e = length-append (entry_text c) (changes_text cs) in
    omega (arith, h, k, e)

-- ---- the loop that writes them

module _ (a : List ℕ) (at : ℕ) (ns : List ℕ) (vs : List Float) (gs : List ℕ) where
  pub wrote-entries : Wrote a a at at (changes_text (listed_in 0 ns vs gs))
  wrote-entries = wrote_as a a at at (changes-none ns vs gs) (wrote_nothing a at)

  pub wrote-entry : (b c : List ℕ) (j k i : ℕ) → Wrote a b at j (changes_text (listed_in i ns vs gs)) → Wrote b c j k (change_text (slice_index ns i) (slice_index_or vs i nan) (slice_index gs i == 1)) → Wrote a c at k (changes_text (listed_in (i + 1) ns vs gs))
  wrote-entry b c j k i p q = wrote_as a c at k (changes-next ns vs gs i) (wrote_then a b c at j k (changes_text (listed_in i ns vs gs)) (entry_text (listed_at ns vs gs i)) p q)

  -- room for one more entry
  pub entries-room : (b : List ℕ) (j i count : ℕ) → at + 38 * count ≤ length a → i < count → Wrote a b at j (changes_text (listed_in i ns vs gs)) → j + 38 ≤ length b
  entries-room b j i count h l p = omega (arith, h, l, p.0, p.1, changes-short (listed_in i ns vs gs), listed-length ns vs gs i)

  pub fetch-room : (b : List ℕ) (j count : ℕ) → at + 20 + 38 * count ≤ length a → Wrote a b at j (number_text count) → j + 38 * count ≤ length b
  fetch-room b j count h p = omega (arith, h, p.0, p.1, decimal-short 20 count)

  pub wrote-fetch : (b c : List ℕ) (j k count : ℕ) → Wrote a b at j (number_text count) → Wrote b c j k (changes_text (listed_in count ns vs gs)) → Wrote a c at k (fetch_text (listed_in count ns vs gs))
  unfolding fetch_text
  wrote-fetch b c j k count p q =
      let e = listed-length ns vs gs count in
      wrote_then a b c at j k (number_text (length (listed_in count ns vs gs))) (changes_text (listed_in count ns vs gs)) (rw e p) q
