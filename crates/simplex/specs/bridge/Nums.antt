-- The steps' tests and marks on whole floats. Assumes nothing.
use Rattle.std.specs.Prelude.{◌≡◌, refl, ℕ, zero, suc, ◌*◌, ◌^◌, ◌≤◌, ◌<◌, Bool, true, false, cond, T, ℤ, pos, negsuc, neg_ℤ, nat_abs, ◌*ℤ◌, Float}
use Rattle.std.proofs.Common.{sym, ap, ◌∙◌, subst, arith, true≢false, leb→le, ltb→lt, lt→ltb}
use Rattle.std.proofs.Math.Dec.{leb-suc-zero}
use Rattle.std.specs.Int.Signed.{lt_z}
use Rattle.std.specs.Float.{nan, inf, fin, binary64}
use Rattle.std.specs.Float.Ieee.{neg, div, lt, le, eq, of_bits}
use Rattle.laws.specs.Z.{eq_zb, eq_zb→, ≡→eq_zb}
use Rattle.laws.specs.exact.Whole.{IsZ, val, int, lit-z, neg-z, isz-to, minus-one-over}
use Rattle.laws.specs.exact.Compare.{lt-z, le-z, eq-z, bool-ext}
use Rattle.laws.specs.exact.Near.{lt-small}
use Rattle.steps.specs.Number.{zero64, one64, minus_one64, cell_bound, constant_bound, objective_bound, magnitude, near_zero, cutoff_fits, below_zero, is_finite, within, Mark, all_whole, not_whole, not_finite, worse, whole_if, says_whole, mark_write}
use Rattle.steps.specs.Symbol.{absent}
use Rattle.steps.proofs.Cutoff.{Between, cutoff-between}
use Rattle.steps.specs.Row.{stored, goes_if_near_zero, factor_mark}

-- ---- the constants
pub zero64-z : IsZ zero64 (pos 0)
unfolding zero64 of_bits int val
zero64-z = lit-z tt tt

pub one64-z : IsZ one64 (pos 1)
unfolding one64 of_bits int val
one64-z = lit-z tt tt

pub minus_one64-z : IsZ minus_one64 (negsuc 0)
unfolding minus_one64 of_bits int val
minus_one64-z = lit-z tt tt

pub cell_bound-z : IsZ cell_bound (pos 1024)
unfolding cell_bound of_bits int val
cell_bound-z = lit-z tt tt

pub constant_bound-z : IsZ constant_bound (pos (2 ^ 30))
unfolding constant_bound of_bits int val
constant_bound-z = lit-z tt tt

pub objective_bound-z : IsZ objective_bound (pos (2 ^ 40))
unfolding objective_bound of_bits int val
objective_bound-z = lit-z tt tt

-- ---- the tests
pub below_zero-z : {x : Float} {z : ℤ} → IsZ x z → below_zero x ≡ lt_z z (pos 0)
unfolding below_zero
below_zero-z h = lt-z h zero64-z

pub absent-z : {x : Float} {z : ℤ} → IsZ x z → absent x ≡ eq_zb z (pos 0)
unfolding absent
absent-z h = eq-z h zero64-z

pub is_finite-z : {x : Float} {z : ℤ} → IsZ x z → is_finite x ≡ true
unfolding is_finite
is_finite-z {x = nan} h = absurd h.has
is_finite-z {x = inf s} h = absurd h.has
is_finite-z {x = fin s m e} h = refl

pub magnitude-z : {x : Float} {z : ℤ} → IsZ x z → IsZ (magnitude x) (pos (nat_abs z))
unfolding magnitude
magnitude-z {x} {z} h = rw (lt-z h zero64-z) (go z h)
  where
    go : (z : ℤ) → IsZ x z → IsZ (cond (lt_z z (pos 0)) (neg x) x) (pos (nat_abs z))
    go (pos k) h = subst (λ (o : Bool). IsZ (cond o (neg x) x) (pos k)) (sym (leb-suc-zero k)) h
    go (negsuc k) h = neg-z h

-- whatever the cutoff that reset was given, a whole number is near zero only if it is 0
pub near_zero-z : (cut : Float) {x : Float} {z : ℤ} → cutoff_fits cut ≡ true → IsZ x z → near_zero cut x ≡ eq_zb z (pos 0)
unfolding near_zero
near_zero-z cut {x} {z} fits h = below (cutoff-between cut fits) ∙ small z
  where
    below : Between cut → lt (magnitude x) cut ≡ lt_z (pos (nat_abs z)) (pos 1)
    below b = ap (lt (magnitude x)) b.is ∙ lt-small b.m b.e b.above b.under (magnitude-z h)

    small : (z : ℤ) → lt_z (pos (nat_abs z)) (pos 1) ≡ eq_zb z (pos 0)
    small z = bool-ext (lt_z (pos (nat_abs z)) (pos 1)) (eq_zb z (pos 0)) (λ t. ≡→eq_zb (to z (ltb→lt (nat_abs z) 1 t))) (λ t. lt→ltb (nat_abs z) 1 (from (ap nat_abs (eq_zb→ z (pos 0) t))))
      where
        to : (z : ℤ) → nat_abs z < 1 → z ≡ pos 0
        to (pos zero) l = refl
        to (pos (suc k)) l = absurd (omega arith)
        to (negsuc k) l = absurd (omega arith)

        from : nat_abs z ≡ 0 → nat_abs z < 1
        from e = omega arith

-- so near zero says of whole numbers what "holds no such symbol" says
pub near_zero-absent : (cut : Float) {x : Float} {z : ℤ} → cutoff_fits cut ≡ true → IsZ x z → near_zero cut x ≡ absent x
near_zero-absent cut fits h = near_zero-z cut fits h ∙ sym (absent-z h)

-- ---- the marks
pub finite≢ : not_finite ≡ all_whole → ⊥
unfolding says_whole
finite≢ e = true≢false (sym (ap says_whole e))

whole≢ : not_whole ≡ all_whole → ⊥
unfolding says_whole
whole≢ e = true≢false (sym (ap says_whole e))

pub worse-l : (m k : Mark) → worse m k ≡ all_whole → m ≡ all_whole
unfolding worse
worse-l all_whole k e = refl
worse-l not_whole all_whole e = e
worse-l not_whole not_whole e = e
worse-l not_whole not_finite e = absurd (finite≢ e)
worse-l not_finite k e = e

pub worse-r : (m k : Mark) → worse m k ≡ all_whole → k ≡ all_whole
unfolding worse
worse-r m k e = go m (worse-l m k e) e
  where
    go : (m : Mark) → m ≡ all_whole → worse m k ≡ all_whole → k ≡ all_whole
    go m p e = ap (λ (x : Mark). worse x k) (sym p) ∙ e

pub whole-if : (b : Bool) → whole_if b ≡ all_whole → b ≡ true
unfolding whole_if
whole-if true e = refl
whole-if false e = absurd (whole≢ e)

-- a write that keeps the mark is within its bound
pub write-small : {x f : Float} {z : ℤ} {b : ℕ} → IsZ f (pos b) → IsZ x z → mark_write f x ≡ all_whole → nat_abs z ≤ b
unfolding mark_write within
write-small {x} {f} {z} {b} hf h e =
    leb→le (nat_abs z) b (subst T (sym (sym (le-z (magnitude-z h) hf) ∙ whole-if (le (magnitude x) f) (ap (λ (o : Bool). cond o (whole_if (le (magnitude x) f)) not_finite) (sym (is_finite-z h)) ∙ e))) tt)

pub stored-z : {x : Float} {z : ℤ} → IsZ x z → IsZ (stored x) z
unfolding stored
stored-z {x} {z} h = go (absent x) refl
  where
    go : (o : Bool) → absent x ≡ o → IsZ (cond (absent x) zero64 x) z
    go true e = subst (λ (o : Bool). IsZ (cond o zero64 x) z) (sym e) (isz-to zero64-z (sym (eq_zb→ z (pos 0) (subst T (sym (sym (absent-z h) ∙ e)) tt))))
    go false e = subst (λ (o : Bool). IsZ (cond o zero64 x) z) (sym e) h

pub goes-z : (cut : Float) {x : Float} {z : ℤ} → cutoff_fits cut ≡ true → IsZ x z → IsZ (goes_if_near_zero cut x) z
unfolding goes_if_near_zero
goes-z cut {x} {z} fits h = go (near_zero cut x) refl
  where
    go : (o : Bool) → near_zero cut x ≡ o → IsZ (cond (near_zero cut x) zero64 x) z
    go true e = subst (λ (o : Bool). IsZ (cond o zero64 x) z) (sym e) (isz-to zero64-z (sym (eq_zb→ z (pos 0) (subst T (sym (sym (near_zero-z cut fits h) ∙ e)) tt))))
    go false e = subst (λ (o : Bool). IsZ (cond o zero64 x) z) (sym e) h

-- what a test that passed or failed says
pub absent-yes : {x : Float} {z : ℤ} → IsZ x z → absent x ≡ true → z ≡ pos 0
absent-yes {x} {z} h e = eq_zb→ z (pos 0) (subst T (sym (sym (absent-z h) ∙ e)) tt)

pub near_zero-yes : (cut : Float) {x : Float} {z : ℤ} → cutoff_fits cut ≡ true → IsZ x z → near_zero cut x ≡ true → z ≡ pos 0
near_zero-yes cut {z = z} fits h e = eq_zb→ z (pos 0) (subst T (sym (sym (near_zero-z cut fits h) ∙ e)) tt)

-- ---- the factor: a solve that keeps the mark is on 1 or -1, and the factor is its negative
pub unit-cell : (f : Float) {x : Float} {c : ℤ} → IsZ x c → factor_mark x f ≡ all_whole → c *ℤ c ≡ pos 1
unfolding factor_mark
unit-cell f {x} {c} h e = go (is_finite f) e
  where
    unit : (c : ℤ) → nat_abs c ≡ 1 → c *ℤ c ≡ pos 1
    unit (pos k) p = ap (λ (x : ℕ). pos (x * x)) p
    unit (negsuc k) p = ap (λ (x : ℕ). pos (x * x)) p

    go : (o : Bool) → cond o (whole_if (eq (magnitude x) one64)) not_finite ≡ all_whole → c *ℤ c ≡ pos 1
    go true e = unit c (ap nat_abs (eq_zb→ (pos (nat_abs c)) (pos 1) (subst T (sym (sym (eq-z (magnitude-z h) one64-z) ∙ whole-if (eq (magnitude x) one64) e)) tt)))
    go false e = absurd (finite≢ e)

pub factor-z : {x : Float} {c : ℤ} → IsZ x c → c *ℤ c ≡ pos 1 → IsZ (div binary64 minus_one64 x) (neg_ℤ c)
factor-z h e = minus-one-over minus_one64-z h e
