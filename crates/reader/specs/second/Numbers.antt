-- The ending's numbers, of any length: their worth, and what the code keeps of it.
use Rattle.std.specs.Prelude.{ℕ, ◌+◌, ◌-◌, ◌*◌, ◌≤◌, ◌<◌, ◌≡◌, refl, Bool, true, false, cond, List, leb, eqb, length, get_or, Some, Result, Ok, Err}
use Rattle.std.proofs.Common.{sym, ap, ◌∙◌, arith, leb-true, leb-false, le-leb, eqb-true}
use Rattle.std.proofs.lemmas.Bool.{lt-leb}
use Rattle.grammar.specs.Bytes.{is_digit}
use Rattle.reader.specs.Scan.{digit_at, digit-by, digit-here}
use Rattle.grammar.specs.edition.Endings.{is_group}
use Rattle.grammar.specs.edition.Steps.{Mark, digit, space, comma, other, mark_at}
use Rattle.reader.specs.declared.fault.Fault.{Fault}
use Rattle.reader.specs.declared.fault.Fault.TheVariants.{Astray, TooDeep, TooLarge}

-- ---- a byte of the ending

module _ (P : Mark → Type 0) where
  pick : {x y : Mark} (t : Bool) → (t ≡ true → P x) → P y → P (cond t x y)
  pick true f g = f refl
  pick false f g = g

  pub by-mark : (b : ℕ) → (is_digit b ≡ true → P (digit (b - 48))) → (b ≡ 32 → P space) → (b ≡ 44 → P comma) → P other → P (mark_at b)
  by-mark b d s c o = pick (is_digit b) d (pick (eqb b 32) (λ e. s (eqb-true b 32 e)) (pick (eqb b 44) (λ e. c (eqb-true b 44 e)) o))

pub digit-mark : (b d : ℕ) → digit_at b ≡ Some d → mark_at b ≡ digit d
digit-mark b d h = let k = digit-by b d h in rw (k.0, k.1) refl

-- ---- digits

-- the bytes from `at` to j are digits worth k
pub data Worth (w : List ℕ) (at : ℕ) : ℕ → ℕ → Type 0 where
  alone : {d : ℕ} → at < length w → mark_at (get_or w at 0) ≡ digit d → Worth w at (at + 1) d
  longer : {j k d : ℕ} → Worth w at j k → j < length w → mark_at (get_or w j 0) ≡ digit d → Worth w at (j + 1) (k * 10 + d)

-- one too many for every number above the bound
unfoldable pub capped : ℕ → ℕ → ℕ
capped most n = cond (leb n most) n (most + 1)

abbrev pub DigitsAre : List ℕ → ℕ → ℕ → Result (ℕ × ℕ) Fault → Type 0
DigitsAre w most at (Ok (n, j)) = (k : ℕ) × Worth w at j k × (n ≡ capped most k) × (j ≤ length w) × (is_digit (get_or w j 0) ≡ false)
DigitsAre w most at (Err (Astray j)) = (j ≡ at) × (is_digit (get_or w at 0) ≡ false)
DigitsAre w most at (Err (TooDeep j)) = ⊥
DigitsAre w most at (Err (TooLarge j)) = ⊥

-- what the code knows of a digit at a place
pub record MarkHere (w : List ℕ) (at d : ℕ) : Type 0 where
  pub within : at < length w
  pub mark : mark_at (get_or w at 0) ≡ digit d
  pub small : d < 10

pub mark-here : (w : List ℕ) (at d : ℕ) → digit_at (get_or w at 0) ≡ Some d → MarkHere w at d
mark-here w at d e = let h = digit-here w at d e in record { within = h.within; mark = digit-mark (get_or w at 0) d e; small = h.small }

-- ---- what is kept of a number

pub capped-in : (most n : ℕ) → n ≤ most → capped most n ≡ n
unfolding capped
capped-in most n h = rw (le-leb n most h)

pub capped-over : (most n : ℕ) → most < n → capped most n ≡ most + 1
unfolding capped
capped-over most n h = rw (lt-leb n most h)

pub capped_small : (most n : ℕ) → capped most n ≤ most + 1
unfolding capped
capped_small most n = by (leb n most) (leb-true n most)
  where
    by : (t : Bool) → (t ≡ true → n ≤ most) → cond t n (most + 1) ≤ most + 1
    by true f = omega (arith, f refl)
    by false f = omega arith

-- one digit more
pub capped-more : (most k d : ℕ) → capped most (capped most k * 10 + d) ≡ capped most (k * 10 + d)
capped-more most k d = by (leb k most) (leb-true k most) (leb-false k most)
  where
    by : (t : Bool) → (t ≡ true → k ≤ most) → (t ≡ false → most < k) → capped most (capped most k * 10 + d) ≡ capped most (k * 10 + d)
    by true f g = rw (capped-in most k (f refl))
    by false f g =
        let h = g refl in
        rw (capped-over most k h) (capped-over most ((most + 1) * 10 + d) (omega arith) ∙ sym (capped-over most (k * 10 + d) (omega arith)))

pub capped-next : (most k d : ℕ) {n z : ℕ} → n ≡ capped most k → z ≡ capped most (n * 10 + d) → z ≡ capped most (k * 10 + d)
capped-next most k d e f = f ∙ (ap (λ (x : ℕ). capped most (x * 10 + d)) e ∙ capped-more most k d)

-- it is in range where the number is
pub capped-range : (most n : ℕ) → leb (capped most n) most ≡ leb n most
unfolding capped
capped-range most n = by (leb n most) refl
  where
    by : (t : Bool) → leb n most ≡ t → leb (cond t n (most + 1)) most ≡ t
    by true e = e
    by false e = lt-leb (most + 1) most (omega arith)

pub capped-group : (g : ℕ) → is_group (capped 65535 g) ≡ is_group g
capped-group g = by (leb g 65535) (leb-true g 65535) (leb-false g 65535)
  where
    by : (t : Bool) → (t ≡ true → g ≤ 65535) → (t ≡ false → 65535 < g) → is_group (capped 65535 g) ≡ is_group g
    by true f h = ap is_group (capped-in 65535 g (f refl))
    by false f h = rw (capped-over 65535 g (h refl), lt-leb g 65535 (h refl), le-leb 1 g (omega (arith, h refl)))
