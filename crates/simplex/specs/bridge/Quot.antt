-- Where a float stands to the quotient of two whole numbers, in units of the format's smallest value (X5); a quotient below a whole number stays below it when it is rounded. Assumes nothing.
use Rattle.std.specs.Prelude.{◌≡◌, ℕ, zero, suc, ◌+◌, ◌*◌, ◌-◌, ◌^◌, ◌≤◌, ◌<◌, Bool, true, ◌&&◌, ◌||◌, cond, ltb, eqb, ℤ, pos, nat_abs, ◌*ℤ◌, Float}
use Rattle.std.proofs.Common.{sym, ap, mul_assoc, mul-lt-mul_of_pos_right, zero-mul, lt_of_lt_of_le, arith, true≢false, ltb→lt, eqb→eq, lit<, lit≤, pow_pos}
use Rattle.std.proofs.Math.Path.{subst}
use Rattle.std.proofs.Math.Bool.{false}
use Rattle.std.proofs.Math.Dec.{T}
use Rattle.std.specs.Float.{nan, inf, fin}
use Rattle.std.specs.Float.Ieee.{binary64, prec, low, up, down, round, units, odd, lt, le, eq}
use Rattle.std.specs.Float.Ieee.Exact.{HasValue, units_val, round_exact}
use Rattle.std.specs.Float.Ieee.Back.{round_whole}
use Rattle.std.specs.Float.Ieee.Scale.{grid, overflow, finite}
use Rattle.std.specs.Float.Ieee.Order.{round_mono, transfer, kept, drop}
use Rattle.std.specs.Float.Ieee.Fits.{down_pos, round_is}
use Rattle.laws.specs.Z.{◌≺◌}
use Rattle.laws.specs.exact.Whole.{sgn}

-- ---- the unit: 2 ^ 1074 of the format's smallest values are 1
unfoldable pub D : ℕ
D = 2 ^ low binary64

pub D-pos : 0 < D
unfolding D
D-pos = pow_pos (low binary64)

-- x is z of the format's smallest values
pub record Over (x : Float) (z : ℤ) : Type 0 where
  pub sign : Bool
  pub size : ℕ
  pub has : HasValue x sign size D
  pub is : sgn sign size ≡ z

-- ---- rounding a / b, not negative
under-of-le : (q k : ℕ) (y : Float) → T (finite y) → T (le (units binary64 false q k) y) → q * 2 ^ k < overflow binary64
unfolding units le lt eq
under-of-le q k y F = go (ltb (q * 2 ^ k) (overflow binary64)) (ltb→lt (q * 2 ^ k) (overflow binary64))
  where
    top : (y : Float) → T (finite y) → T (le (inf false) y) → ⊥
    top nan f t = f
    top (inf s) f t = f
    top (fin s m e) f t = t

    go : (o : Bool) → (T o → q * 2 ^ k < overflow binary64) → T (le (cond o (odd (suc (prec binary64)) false q k (low binary64)) (inf false)) y) → q * 2 ^ k < overflow binary64
    go true f t = f tt
    go false f t = absurd (top y F t)

value-finite : (x : Float) (s : Bool) (a c : ℕ) → HasValue x s a c → T (finite x)
value-finite nan s a c h = h
value-finite (inf t) s a c h = h
value-finite (fin t m e) s a c h = tt

of_le : (a b : ℕ) → T (ltb a b || (eqb a b && true)) → a ≤ b
of_le a b = go (ltb a b) (ltb→lt a b) (eqb a b) (eqb→eq a b)
  where
    go : (x : Bool) → (T x → a < b) → (y : Bool) → (T y → a ≡ b) → T (x || (y && true)) → a ≤ b
    go true f y g t = let h = f tt in omega arith
    go false f true g t = let h = g tt in omega arith
    go false f false g t = absurd t

pub le→cross : (x y : Float) (a c b d : ℕ) → HasValue x false a c → HasValue y false b d → T (le x y) → a * d ≤ b * c
unfolding le lt eq
le→cross nan y a c b d h g t = absurd h
le→cross (inf s) y a c b d h g t = absurd h
le→cross (fin s m e) nan a c b d h g t = absurd g
le→cross (fin s m e) (inf r) a c b d h g t = absurd g
le→cross (fin false m e) (fin false k r) a c b d h g t =
    transfer a b c d (m * up e) (k * up r) (down e) (down r) (down_pos e) (down_pos r) (sym h.1) (sym g.1) (of_le (m * up e * down r) (k * up r * down e) t)
le→cross (fin false m e) (fin true k r) a c b d h g t = absurd (true≢false g.0)
le→cross (fin true m e) (fin r k d') a c b d h g t = absurd (true≢false h.0)

unfoldable pub Fits : ℕ → ℕ → Type 0
Fits a c = HasValue (round binary64 false a c) false a c

pub whole-fits : (n : ℕ) → n ≤ 2 ^ 53 → Fits n 1
unfolding Fits
whole-fits n l = round_whole binary64 false n l

pub fine-fits : (q : ℕ) → q < 2 ^ 53 → Fits q 1024
unfolding Fits
fine-fits q l = round_exact binary64 false q 1024 q 1064 (lit< tt) l (lt_of_lt_of_le (mul-lt-mul_of_pos_right l (pow_pos 1064)) (lit≤ tt)) (sym (mul_assoc q (2 ^ 1064) 1024))

-- ---- where the rounded a / b stands to n: as a / b does
pub data Tri (a b g : ℕ) (n : ℕ) : Type 0 where
  lower : a < n * b → g < n * D → Tri a b g n
  equal : a ≡ n * b → g ≡ n * D → Tri a b g n
  higher : n * b < a → n * D < g → Tri a b g n

module _ (a b : ℕ) (b-pos : 0 < b) (b-small : b ≤ 1024) (a_small : a ≤ 2 ^ 40) where
  -- at most p / q where that is a value, and at least
  up-to : (c d : ℕ) → 0 < d → a * d ≤ c * b → Fits c d → T (le (round binary64 false a b) (round binary64 false c d))
  up-to c d dp l f = round_mono binary64 a b c d b-pos dp l

  under : grid binary64 a b < overflow binary64
  unfolding Fits
  under =
      under-of-le (kept (prec binary64) (a * 2 ^ low binary64) b) (drop (prec binary64) (a * 2 ^ low binary64) b) (round binary64 false (2 ^ 40) 1)
      (value-finite (round binary64 false (2 ^ 40) 1) false (2 ^ 40) 1 (whole-fits (2 ^ 40) (lit≤ tt)))
      (subst (λ (x : Float). T (le x (round binary64 false (2 ^ 40) 1))) (round_is binary64 false a b) (up-to (2 ^ 40) 1 (lit< tt) (omega arith) (whole-fits (2 ^ 40) (lit≤ tt))))

  pub round-over : (s : Bool) → HasValue (round binary64 s a b) s (grid binary64 a b) D
  unfolding D
  round-over s =
      subst (λ (x : Float). HasValue x s (grid binary64 a b) D) (sym (round_is binary64 s a b))
      (units_val binary64 s (kept (prec binary64) (a * 2 ^ low binary64) b) (drop (prec binary64) (a * 2 ^ low binary64) b) under)

  pub at_most : (c d : ℕ) → 0 < d → a * d ≤ c * b → Fits c d → grid binary64 a b * d ≤ c * D
  unfolding Fits
  at_most c d dp l f = le→cross (round binary64 false a b) (round binary64 false c d) (grid binary64 a b) D c d (round-over false) f (up-to c d dp l f)

  pub strictly-below : (k : ℕ) → k ≤ 2 ^ 40 → a < k * b → grid binary64 a b < k * D
  strictly-below k l h = last (k * 1024 - 1) (ahead h) (k * 1024) eq (at_most (k * 1024 - 1) 1024 (lit< tt) (fits (k * 1024 - 1) eq h) (fine-fits (k * 1024 - 1) (omega arith)))
    where
      ahead : a < k * b → 0 < k
      ahead h = some k h
        where
          some : (k : ℕ) → a < k * b → 0 < k
          some zero h = absurd (omega (arith, zero-mul b))
          some (suc k) h = omega arith

      eq : k * 1024 - 1 + 1 ≡ k * 1024
      eq = let z = ahead h in omega arith

      fits : (q : ℕ) → q + 1 ≡ k * 1024 → a < k * b → a * 1024 ≤ q * b
      fits q e h = omega (arith, ap (λ (x : ℕ). x * b) e)

      last : (q : ℕ) → 0 < k → (w : ℕ) → q + 1 ≡ k * 1024 → grid binary64 a b * 1024 ≤ q * D → grid binary64 a b < k * D
      last q z w e t = omega (arith, ap (λ (x : ℕ). x * D) e, D-pos)

-- ---- with signs
pub data Stands (i k r c : ℤ) : Type 0 where
  lower : i ≺ c *ℤ k → r ≺ c *ℤ pos D → Stands i k r c
  equal : i ≡ c *ℤ k → r ≡ c *ℤ pos D → Stands i k r c
  higher : c *ℤ k ≺ i → c *ℤ pos D ≺ r → Stands i k r c

-- ---- the quotient: the float q is i / k, rounded, for k above 0
pub record Quotient (q : Float) (i k : ℤ) : Type 0 where
  pub rank : ℤ
  pub over : Over q rank
  pub stands : (c : ℤ) → nat_abs c ≤ 2 ^ 40 → Stands i k rank c
