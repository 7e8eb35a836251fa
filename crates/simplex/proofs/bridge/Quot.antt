-- The rounded quotient of two whole floats against whole numbers (X5). A quotient i / k with 0 < |k| ≤ 1024 and |i| ≤ 2 ^ 40 is finite; in units of the format's smallest value it is an integer, its rank.
-- Ranks order the floats as ℤ orders the ranks, and a rank stands to c * D, for every whole c of magnitude at most 2 ^ 40, as i stands to c * k: below, level or above. Assumes nothing.
use Rattle.std.specs.Prelude.{◌≡◌, refl, ℕ, zero, suc, ◌+◌, ◌*◌, ◌^◌, ◌≤◌, ◌<◌, Bool, true, not, cond, ltb, eqb, ℤ, pos, negsuc, neg_ℤ, nat_abs, Float}
use Rattle.std.proofs.Common.{sym, ap, ◌∙◌, mul-one, mul_assoc, mul_comm, mul_left_comm, mul_right_comm, mul-pos, zero-mul, arith, ltb→lt, nltb→le, eqb→eq, lit<}
use Rattle.std.proofs.Math.Path.{subst}
use Rattle.std.proofs.Math.Bool.{false}
use Rattle.std.proofs.Math.Dec.{T}
use lib.Signed.{lt_z, lt_z_yes}
use Rattle.std.specs.Float.{nan, inf, fin}
use Rattle.std.specs.Float.Ieee.{binary64, up, down, round, div, lt, le, unlike, below}
use Rattle.std.specs.Float.Ieee.Exact.{HasValue}
use Rattle.std.specs.Float.Ieee.Scale.{round_same, grid}
use Rattle.std.specs.Float.Ieee.Order.{round_mono}
use Rattle.std.specs.Float.Ieee.Fits.{down_pos}
use Rattle.std.specs.Float.Ieee.Bits.{is_true}
use Rattle.laws.specs.Z.{P, N, at, ◌⊗◌, ⊖◌, p, ◌≼◌, ◌≺◌, eq_z, lt_z↑, lt_n, lt→N, N→lt, N→le}
use Rattle.laws.specs.exact.Whole.{IsZ, sgn, abs-sgn}
use Rattle.laws.specs.exact.Compare.{below-z}
use Rattle.simplex.specs.bridge.Quot.{D, D-pos, Over, le→cross, Fits, whole-fits, fine-fits, Tri, Stands, Quotient, equal, higher, lower}
use Rattle.simplex.specs.bridge.Quot as specs

-- ---- the order of such floats is that of the integers
-- two pairs of naturals in one proportion
below-same : (s t : Bool) (a b c i j d : ℕ) → 0 < c → 0 < d → a * c ≡ i * d → b * c ≡ j * d → below s a t b ≡ lt_z (sgn s i) (sgn t j)
below-same s t a b c i j d C E p q =
    ap (λ (x : ℕ). below s x t b) (sym (mul-one a)) ∙ ap (λ (x : ℕ). below s (a * 1) t x) (sym (mul-one b)) ∙ below-z s t a b 1 (lit< tt)
    ∙ sym (below-z s t a b c C) ∙ ap (λ (x : ℕ). below s x t (b * c)) p ∙ ap (λ (x : ℕ). below s (i * d) t x) q ∙ below-z s t i j d E

pub lt-over : {x y : Float} {a b : ℤ} → Over x a → Over y b → lt x y ≡ lt_z a b
unfolding lt
lt-over {x = nan} h g = absurd h.has
lt-over {x = inf s} h g = absurd h.has
lt-over {x = fin s m e} {y = nan} h g = absurd g.has
lt-over {x = fin s m e} {y = inf t} h g = absurd g.has
lt-over {x = fin s m e} {y = fin t k d} {a} {b} h g =
    below-same s t (m * up e * down d) (k * up d * down e) D h.size g.size (down e * down d) D-pos (mul-pos (down_pos e) (down_pos d))
    (mul_right_comm (m * up e) (down d) D ∙ ap (λ (x : ℕ). x * down d) h.has.1 ∙ mul_assoc h.size (down e) (down d))
    (mul_right_comm (k * up d) (down e) D ∙ ap (λ (x : ℕ). x * down e) g.has.1 ∙ mul_assoc g.size (down d) (down e) ∙ ap (λ (x : ℕ). g.size * x) (mul_comm (down d) (down e)))
    ∙ ap (λ (z : ℤ). lt_z z (sgn t g.size)) (ap (λ (o : Bool). sgn o h.size) h.has.0 ∙ h.is)
    ∙ ap (lt_z a) (ap (λ (o : Bool). sgn o g.size) g.has.0 ∙ g.is)

module _ (a b : ℕ) (b-pos : 0 < b) (b-small : b ≤ 1024) (a_small : a ≤ 2 ^ 40) where
  abbrev round-over : (s : Bool) → HasValue (round binary64 s a b) s (grid binary64 a b) D
  round-over = specs.round-over a b b-pos b-small a_small

  abbrev at_most : (c d : ℕ) → 0 < d → a * d ≤ c * b → Fits c d → grid binary64 a b * d ≤ c * D
  at_most = specs.at_most a b b-pos b-small a_small

  abbrev strictly-below : (k : ℕ) → k ≤ 2 ^ 40 → a < k * b → grid binary64 a b < k * D
  strictly-below = specs.strictly-below a b b-pos b-small a_small

  from-below : (c d : ℕ) → 0 < d → c * b ≤ a * d → T (le (round binary64 false c d) (round binary64 false a b))
  from-below c d dp l = round_mono binary64 c d a b dp b-pos l

  at_least : (c d : ℕ) → 0 < d → c * b ≤ a * d → Fits c d → c * D ≤ grid binary64 a b * d
  unfolding Fits
  at_least c d dp l f = le→cross (round binary64 false c d) (round binary64 false a b) c d (grid binary64 a b) D f (round-over false) (from-below c d dp l)

  strictly-above : (k : ℕ) → k ≤ 2 ^ 40 → k * b < a → k * D < grid binary64 a b
  strictly-above k l h = last (at_least (k * 1024 + 1) 1024 (lit< tt) (omega arith) (fine-fits (k * 1024 + 1) (omega arith)))
    where
      last : (k * 1024 + 1) * D ≤ grid binary64 a b * 1024 → k * D < grid binary64 a b
      last t = omega (arith, D-pos)

  pub tri : (k : ℕ) → k ≤ 2 ^ 40 → Tri a b (grid binary64 a b) k
  tri k l = go (ltb a (k * b)) (ltb→lt a (k * b)) (nltb→le a (k * b)) (ltb (k * b) a) (ltb→lt (k * b) a) (nltb→le (k * b) a)
    where
      same : k * b ≤ a → a ≤ k * b → Tri a b (grid binary64 a b) k
      same h q =
          let x : k * D ≤ grid binary64 a b * 1 = at_least k 1 (lit< tt) (omega arith) (whole-fits k (omega arith)) in
          let y : grid binary64 a b * 1 ≤ k * D = at_most k 1 (lit< tt) (omega arith) (whole-fits k (omega arith)) in
          equal (omega arith) (omega arith)

      go : (o : Bool) → (T o → a < k * b) → (T (not o) → k * b ≤ a) → (r : Bool) → (T r → k * b < a) → (T (not r) → a ≤ k * b) → Tri a b (grid binary64 a b) k
      go true f n r u w = lower (f tt) (strictly-below k l (f tt))
      go false f n true u w = higher (u tt) (strictly-above k l (u tt))
      go false f n false u w = same (n tt) (w tt)

stands_of : (s : Bool) (a b g : ℕ) → 0 < b → (c : ℤ) → ((k : ℕ) → k ≤ 2 ^ 40 → Tri a b g k) → nat_abs c ≤ 2 ^ 40 → Stands (sgn s a) (pos b) (sgn s g) c
stands_of false a b g bp (pos k) f l = go (f k l)
  where
    go : Tri a b g k → Stands (pos a) (pos b) (pos g) (pos k)
    go (lower h q) = lower (N→lt (pos a) (pos (k * b)) (omega arith)) (N→lt (pos g) (pos (k * D)) (omega arith))
    go (equal h q) = equal (ap pos h) (ap pos q)
    go (higher h q) = higher (N→lt (pos (k * b)) (pos a) (omega arith)) (N→lt (pos (k * D)) (pos g) (omega arith))
stands_of false a b g bp (negsuc k) f l =
    higher (lt_z↑ (at (negsuc k) ⊗ at (pos b)) (at (pos a)) (omega (arith, mul-pos (lit k) bp))) (lt_z↑ (at (negsuc k) ⊗ at (pos D)) (at (pos g)) (omega (arith, mul-pos (lit k) D-pos)))
  where
    lit : (k : ℕ) → 0 < suc k
    lit k = omega arith
stands_of true a b g bp (pos zero) f l = go (f 0 l)
  where
    go : Tri a b g 0 → Stands (neg_ℤ (pos a)) (pos b) (neg_ℤ (pos g)) (pos 0)
    go (lower h q) = absurd (omega (arith, zero-mul b))
    go (equal h q) = equal (eq_z (⊖ at (pos a)) (at (pos 0) ⊗ at (pos b)) (omega (arith, zero-mul b))) (eq_z (⊖ at (pos g)) (at (pos 0) ⊗ at (pos D)) (omega (arith, zero-mul D)))
    go (higher h q) = lower (lt_z↑ (⊖ at (pos a)) (at (pos 0) ⊗ at (pos b)) (omega (arith, zero-mul b))) (lt_z↑ (⊖ at (pos g)) (at (pos 0) ⊗ at (pos D)) (omega (arith, zero-mul D)))
stands_of true a b g bp (pos (suc k)) f l =
    lower (lt_z↑ (⊖ at (pos a)) (at (pos (suc k)) ⊗ at (pos b)) (omega (arith, mul-pos (lit k) bp))) (lt_z↑ (⊖ at (pos g)) (at (pos (suc k)) ⊗ at (pos D)) (omega (arith, mul-pos (lit k) D-pos)))
  where
    lit : (k : ℕ) → 0 < suc k
    lit k = omega arith
stands_of true a b g bp (negsuc k) f l = go (f (suc k) l)
  where
    go : Tri a b g (suc k) → Stands (neg_ℤ (pos a)) (pos b) (neg_ℤ (pos g)) (negsuc k)
    go (lower h q) = higher (lt_z↑ (at (negsuc k) ⊗ at (pos b)) (⊖ at (pos a)) (omega arith)) (lt_z↑ (at (negsuc k) ⊗ at (pos D)) (⊖ at (pos g)) (omega arith))
    go (equal h q) = equal (eq_z (⊖ at (pos a)) (at (negsuc k) ⊗ at (pos b)) (omega arith)) (eq_z (⊖ at (pos g)) (at (negsuc k) ⊗ at (pos D)) (omega arith))
    go (higher h q) = lower (lt_z↑ (⊖ at (pos a)) (at (negsuc k) ⊗ at (pos b)) (omega arith)) (lt_z↑ (⊖ at (pos g)) (at (negsuc k) ⊗ at (pos D)) (omega arith))

rounded : (s : Bool) (a b : ℕ) → 0 < b → b ≤ 1024 → a ≤ 2 ^ 40 → Quotient (round binary64 s a b) (sgn s a) (pos b)
rounded s a b bp bs sm = record {
  rank = sgn s (grid binary64 a b);
  over = record { sign = s; size = grid binary64 a b; has = round-over a b bp bs sm s; is = refl };
  stands = λ c l. stands_of s a b (grid binary64 a b) bp c (tri a b bp bs sm) l;
}

unlike-false : (s : Bool) → unlike s false ≡ s
unlike-false false = refl
unlike-false true = refl

unlike-true : (s : Bool) (k : ℕ) → sgn (unlike s true) k ≡ neg_ℤ (sgn s k)
unlike-true false k = refl
unlike-true true k = eq_z (at (pos k)) (⊖ (⊖ at (pos k))) (omega arith)

shuffle : (i a b j : ℕ) → i * a * b * j ≡ i * (j * b * a)
shuffle i a b j = simp (mul_assoc, mul_comm, mul_left_comm)

-- the fraction of the two floats is that of their sizes
div_is : (s t : Bool) (m k : ℕ) (e d : ℤ) (i j : ℕ) → m * up e * 1 ≡ i * down e → k * up d * 1 ≡ j * down d → 0 < j
    → div binary64 (fin s m e) (fin t k d) ≡ round binary64 (unlike s t) i j
unfolding div
div_is s t m k e d i j p q jp = past (eqb k 0) (λ u. some (eqb→eq k 0 u)) ∙ round_same binary64 (unlike s t) (m * up e * down d) (k * up d * down e) i j den_pos jp cross
  where
    den-is : k * up d * down e ≡ j * down d * down e
    den-is = ap (λ (x : ℕ). x * down e) (sym (mul-one (k * up d)) ∙ q)

    den_pos : 0 < k * up d * down e
    den_pos = subst (λ (x : ℕ). 0 < x) (sym den-is) (mul-pos (mul-pos jp (down_pos d)) (down_pos e))

    some : k ≡ 0 → ⊥
    some z = omega (arith, den_pos, ap (λ (x : ℕ). x * up d * down e) z, ap (λ (x : ℕ). x * down e) (zero-mul (up d)), zero-mul (down e))

    cross : m * up e * down d * j ≡ i * (k * up d * down e)
    cross =
        ap (λ (x : ℕ). x * down d * j) (sym (mul-one (m * up e)) ∙ p) ∙ shuffle i (down e) (down d) j ∙ ap (λ (x : ℕ). i * x) (sym den-is)

    past : (o : Bool) → (T o → ⊥)
        → cond o (cond (eqb m 0) nan (inf (unlike s t))) (round binary64 (unlike s t) (m * up e * down d) (k * up d * down e)) ≡ round binary64 (unlike s t) (m * up e * down d) (k * up d * down e)
    past true f = absurd (f tt)
    past false f = refl

quotient-to : {q : Float} {i i' k k' : ℤ} → i ≡ i' → k ≡ k' → Quotient q i k → Quotient q i' k'
quotient-to {q} {i} {i'} {k} {k'} e f h = subst (λ (z : ℤ). Quotient q i' z) f (subst (λ (z : ℤ). Quotient q z k) e h)

quotient : (s t : Bool) (m k : ℕ) (e d : ℤ) (i j : ℕ) → m * up e * 1 ≡ i * down e → k * up d * 1 ≡ j * down d → 0 < j → j ≤ 1024 → i ≤ 2 ^ 40
    → Quotient (div binary64 (fin s m e) (fin t k d)) (sgn (unlike s t) i) (pos j)
quotient s t m k e d i j p q jp js is = subst (λ (x : Float). Quotient x (sgn (unlike s t) i) (pos j)) (sym (div_is s t m k e d i j p q jp)) (rounded (unlike s t) i j jp js is)

-- X5 for a divisor above 0 ..
pub div-above : {x y : Float} {i k : ℤ} → IsZ x i → IsZ y k → pos 0 ≺ k → nat_abs k ≤ 1024 → nat_abs i ≤ 2 ^ 40 → Quotient (div binary64 x y) i k
div-above {x = nan} h g kp sm is = absurd h.has
div-above {x = inf s} h g kp sm is = absurd h.has
div-above {x = fin s m e} {y = nan} h g kp sm is = absurd g.has
div-above {x = fin s m e} {y = inf t} h g kp sm is = absurd g.has
div-above {x = fin s m e} {y = fin t n d} {i} {k} h g up' sm is = go t (ap (λ (o : Bool). sgn o g.size) g.has.0 ∙ g.is)
  where
    hi : sgn s h.size ≡ i
    hi = ap (λ (o : Bool). sgn o h.size) h.has.0 ∙ h.is

    h-small : h.size ≤ 2 ^ 40
    h-small = subst (λ (x : ℕ). x ≤ 2 ^ 40) (sym (ap nat_abs hi) ∙ abs-sgn s h.size) is

    go : (t : Bool) → sgn t g.size ≡ k → Quotient (div binary64 (fin s m e) (fin t n d)) i k
    go false q =
        quotient-to (ap (λ (o : Bool). sgn o h.size) (unlike-false s) ∙ hi) q
        (quotient s false m n e d h.size g.size h.has.1 g.has.1 (omega (arith, lt→N (pos 0) (pos g.size) (subst (λ (z : ℤ). pos 0 ≺ z) (sym q) up')))
        (subst (λ (x : ℕ). x ≤ 1024) (ap nat_abs (sym q)) sm) h-small)
    go true q = absurd (omega (arith, lt_n (at (pos 0)) (⊖ at (pos g.size)) (subst (λ (z : ℤ). pos 0 ≺ z) (sym q) up')))

-- .. and below 0
pub div_below : {x y : Float} {i k : ℤ} → IsZ x i → IsZ y k → k ≺ pos 0 → nat_abs k ≤ 1024 → nat_abs i ≤ 2 ^ 40 → Quotient (div binary64 x y) (neg_ℤ i) (neg_ℤ k)
div_below {x = nan} h g kp sm is = absurd h.has
div_below {x = inf s} h g kp sm is = absurd h.has
div_below {x = fin s m e} {y = nan} h g kp sm is = absurd g.has
div_below {x = fin s m e} {y = inf t} h g kp sm is = absurd g.has
div_below {x = fin s m e} {y = fin t n d} {i} {k} h g dn sm is = go t (ap (λ (o : Bool). sgn o g.size) g.has.0 ∙ g.is)
  where
    hi : sgn s h.size ≡ i
    hi = ap (λ (o : Bool). sgn o h.size) h.has.0 ∙ h.is

    h-small : h.size ≤ 2 ^ 40
    h-small = subst (λ (x : ℕ). x ≤ 2 ^ 40) (sym (ap nat_abs hi) ∙ abs-sgn s h.size) is

    go : (t : Bool) → sgn t g.size ≡ k → Quotient (div binary64 (fin s m e) (fin t n d)) (neg_ℤ i) (neg_ℤ k)
    go true q =
        quotient-to (unlike-true s h.size ∙ ap neg_ℤ hi) (eq_z (at (pos g.size)) (⊖ (⊖ at (pos g.size))) (omega arith) ∙ ap neg_ℤ q)
        (quotient s true m n e d h.size g.size h.has.1 g.has.1 (omega (arith, lt_n (⊖ at (pos g.size)) (at (pos 0)) (subst (λ (z : ℤ). z ≺ pos 0) (sym q) dn)))
        (subst (λ (x : ℕ). x ≤ 1024) (sym (ap nat_abs q) ∙ abs-sgn true g.size) sm) h-small)
    go false q = absurd (omega (arith, lt→N (pos g.size) (pos 0) (subst (λ (z : ℤ). z ≺ pos 0) (sym q) dn)))

-- ---- X5 as comparisons: a rounded quotient against a whole float
pub yes : {a b : ℤ} → a ≺ b → lt_z a b ≡ true
yes {a} {b} h = is_true (lt_z a b) h.lt

pub no : {a b : ℤ} → b ≼ a → lt_z a b ≡ false
no {a} {b} h = go (lt_z a b) refl
  where
    go : (o : Bool) → lt_z a b ≡ o → lt_z a b ≡ false
    go false e = e
    go true e = absurd (lib.Signed.clash_ℤ {X = ⊥} (lt_z_yes (subst T (sym e) tt)) h)

pub ≡-no : {a b : ℤ} → a ≡ b → lt_z a b ≡ false
≡-no {a} {b} h = no (N→le b a (omega (arith, ap P h, ap N h)))
