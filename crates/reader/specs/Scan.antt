-- What is found at a place of a line: spaces, digits, a byte by its kind; and how the grammar's reader takes them.
use Rattle.std.specs.Prelude.{ℕ, zero, suc, ◌+◌, ◌-◌, ◌*◌, ◌≤◌, ◌<◌, ◌≡◌, refl, Bool, true, false, cond, ◌&&◌, List, [], ◌∷◌, leb, length, get_or, Option, Some, None, Result, Ok, Err}
use Rattle.std.proofs.Common.{sym, not-suc-le-zero, arith, leb-true}
use Rattle.std.proofs.lemmas.Bool.{false≢true}
use Rattle.std.proofs.lemmas.Option.{none-some, cond_some}
use Rattle.grammar.specs.Bytes.{digit, is_digit, kind_of}
use Rattle.reader.specs.declared.fault.Fault.{Fault}
use Rattle.reader.specs.declared.fault.Fault.TheVariants.{Astray, TooDeep, TooLarge}

-- ---- spaces

-- r is the first place from `at` on that holds no space
pub record Skips (w : List ℕ) (at r : ℕ) : Type 0 where
  pub from : at ≤ r
  pub within : r ≤ length w
  pub spaces : (j : ℕ) → at ≤ j → j < r → get_or w j 0 ≡ 32
  pub stops : get_or w r 0 ≡ 32 → ⊥

-- a byte that is not 0 stands in the line
pub present : (w : List ℕ) (at : ℕ) → 0 < get_or w at 0 → at < length w
present [] at h = absurd (not-suc-le-zero h)
present (b ∷ w) zero h = omega arith
present (b ∷ w) (suc at) h = let k : at < length w = present w at h in omega arith

pub past : (w : List ℕ) (at : ℕ) → length w ≤ at → 0 ≡ get_or w at 0
past [] at h = refl
past (b ∷ w) zero h = absurd (not-suc-le-zero h)
past (b ∷ w) (suc at) h = past w at (omega arith)

-- ---- digits

-- `0` to `9` by its worth, no other byte
abbrev pub digit_at : ℕ → Option ℕ
digit_at b = cond (is_digit b) (Some (b - 48)) None

-- the bytes from `at` to j are digits worth k, and no number on the way is above the bound
pub data Digits (w : List ℕ) (most at : ℕ) : ℕ → ℕ → Type 0 where
  alone : {d : ℕ} → at < length w → kind_of (get_or w at 0) ≡ digit d → Digits w most at (at + 1) d
  longer : {j k d : ℕ} → Digits w most at j k → j < length w → kind_of (get_or w j 0) ≡ digit d → k * 10 + d ≤ most → Digits w most at (j + 1) (k * 10 + d)

-- a number ends in the digit that is one too many
pub record Over (w : List ℕ) (most at j : ℕ) : Type 0 where
  pub worth : ℕ
  pub last : ℕ
  pub digits : Digits w most at j worth
  pub within : j < length w
  pub next : kind_of (get_or w j 0) ≡ digit last
  pub over : most < worth * 10 + last

abbrev pub WholeIs : List ℕ → ℕ → ℕ → Result (ℕ × ℕ) Fault → Type 0
WholeIs w most at (Ok (n, j)) = (Digits w most at j n) × (at < j) × (j ≤ length w) × (n ≤ most) × (is_digit (get_or w j 0) ≡ false)
WholeIs w most at (Err (Astray j)) = (j ≡ at) × (is_digit (get_or w at 0) ≡ false)
WholeIs w most at (Err (TooDeep j)) = ⊥
WholeIs w most at (Err (TooLarge j)) = Over w most at j

-- a digit by its worth
pub digit-by : (b d : ℕ) → digit_at b ≡ Some d → (is_digit b ≡ true) × (b - 48 ≡ d)
digit-by b d h = cond_some (is_digit b) (b - 48) d h

pub digit-kind : (b d : ℕ) → digit_at b ≡ Some d → kind_of b ≡ digit d
unfolding kind_of
digit-kind b d h = let k = digit-by b d h in rw (k.0, k.1) refl

pub no_digit : (b : ℕ) → digit_at b ≡ None → is_digit b ≡ false
no_digit b h = by (is_digit b) h
  where
    by : (t : Bool) → cond t (Some (b - 48)) None ≡ None → t ≡ false
    by true h = absurd (none-some (b - 48) (sym h))
    by false h = refl

digit-range : (b : ℕ) → is_digit b ≡ true → (48 ≤ b) × (b ≤ 57)
digit-range b h = by (leb 48 b) (leb b 57) (leb-true 48 b) (leb-true b 57) h
  where
    by : (t u : Bool) → (t ≡ true → 48 ≤ b) → (u ≡ true → b ≤ 57) → t && u ≡ true → (48 ≤ b) × (b ≤ 57)
    by true true f g h = (f refl, g refl)
    by true false f g h = absurd (false≢true h)
    by false u f g h = absurd (false≢true h)

-- what the code knows of a digit at a place
pub record DigitHere (w : List ℕ) (at d : ℕ) : Type 0 where
  pub within : at < length w
  pub kind : kind_of (get_or w at 0) ≡ digit d
  pub small : d < 10

pub digit-here : (w : List ℕ) (at d : ℕ) → digit_at (get_or w at 0) ≡ Some d → DigitHere w at d
digit-here w at d e =
    let q = digit-by (get_or w at 0) d e in
    let k = digit-range (get_or w at 0) q.0 in
    record { within = present w at (omega (arith, k.0)); kind = digit-kind (get_or w at 0) d e; small = omega (arith, k.1, q.1) }
