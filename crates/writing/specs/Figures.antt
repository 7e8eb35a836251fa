-- The numbers of a constraint: whole, and what they are.
use Rattle.std.specs.Prelude.{◌≡◌, ℕ, zero, suc, ◌-◌, ◌*◌, ◌/◌, ◌^◌, ◌<◌, ◌≤◌, Bool, true, false, cond, not, ◌&&◌, T, ℤ, pos, negsuc, neg_ℤ, int_lt, unsigned_abs, refl, Float}
use Rattle.std.proofs.Common.{sym, ap, ◌∙◌, subst, lt_of_mul-lt-mul_right, div-add-mod', arith, le-ltb, ltb→lt, lt→ltb}
use Rattle.std.proofs.Math.Nat.{min-eq_left}
use Rattle.std.specs.Float.{nan, inf, fin}
use Rattle.std.specs.Float.Ieee.{up, down, lt, neg, to_unsigned, of_bits}
use Rattle.std.specs.Float.Ieee.Fits.{and_l, and_r}
use Rattle.steps.specs.Number.{is_whole, zero64, magnitude}
use Rattle.rows.specs.Integral.{small}
use Rattle.laws.specs.exact.Whole.{IsZ, val, int, int-z, lit-z, neg-z, abs-sgn}
use Rattle.laws.specs.exact.Compare.{lt-z}
use Rattle.grammar.specs.plain.Plain.{is_negative}
use Rattle.writing.specs.declared.figures.Figure.{Figure}

-- a whole number below 2^53 in size; from there on a number is too big for a line in any case
abbrev pub is_figure : Float → Bool
is_figure x = small x && is_whole x

unfoldable pub figure_of : Float → Figure
unfolding small val
figure_of x = cond (is_figure x) (record { whole = true; negative = is_negative (val x); size = unsigned_abs (val x) }) (record { whole = false; negative = false; size = 0 })

-- ---- below 2^53 in size

none : (s : Bool) → T (not s && s) → ⊥
none true t = t
none false t = t

size_below : (s : Bool) (m : ℕ) (e : ℤ) → T (small (fin s m e)) → m * up e < 2 ^ 53 * down e
unfolding small lt
size_below false m e t =
    let h = ltb→lt (m * up e * 1) (1 * 2 ^ 53 * down e) (and_r (lt (fin true 1 (pos 53)) (fin false m e)) (lt (fin false m e) (fin false 1 (pos 53))) t) in
    omega (arith, h)
size_below true m e t =
    let h = ltb→lt (m * up e * 1) (1 * 2 ^ 53 * down e) (and_l (lt (fin true 1 (pos 53)) (fin true m e)) (lt (fin true m e) (fin false 1 (pos 53))) t) in
    omega (arith, h)

part-below : (a d : ℕ) → a < 2 ^ 53 * d → a / d < 2 ^ 53
part-below a d h =
    let q = div-add-mod' a d in
    lt_of_mul-lt-mul_right d (omega (arith, q, h))

-- ---- below 0

is-int : (x : Float) → T (is_whole x) → T (int x)
unfolding int is_whole
is-int nan h = h
is-int (inf s) h = h
is-int (fin s m e) h = h

zero-z : IsZ zero64 (pos 0)
unfolding zero64 of_bits int val
zero-z = lit-z tt tt

lt_z-zero : (z : ℤ) → int_lt z (pos 0) ≡ is_negative z
lt_z-zero (pos n) = le-ltb n 0 (omega arith)
lt_z-zero (negsuc n) = refl

below-zero : (x : Float) → T (is_whole x) → lt x zero64 ≡ is_negative (val x)
below-zero x h = lt-z (int-z x (is-int x h)) zero-z ∙ lt_z-zero (val x)

-- ---- the whole part of the magnitude is the size

module _ (m : ℕ) (e : ℤ) (k : ℕ) (q : m * up e / down e ≡ k) (h : k < 2 ^ 53) where
  least : k ≤ 2 ^ 64 - 1
  least = omega (arith, h)

  positive : to_unsigned 64 (fin false m e) ≡ k
  unfolding to_unsigned
  positive = rw q (min-eq_left least)

sized : (x : Float) → T (small x) → (b : Bool) → b ≡ is_negative (val x) → to_unsigned 64 (cond b (neg x) x) ≡ unsigned_abs (val x)
unfolding small lt val neg to_unsigned
sized nan t b e = absurd t
sized (inf s) t b e = absurd (none s t)
sized (fin false m e) t true q = absurd (no_true q)
  where
    no_true : true ≡ false → ⊥
    no_true z = subst T z tt
sized (fin false m e) t false q = positive m e (m * up e / down e) refl (part-below (m * up e) (down e) (size_below false m e t))
sized (fin true m e) t b q = by (m * up e / down e) refl (part-below (m * up e) (down e) (size_below true m e t)) b q
  where
    by : (k : ℕ) → m * up e / down e ≡ k → k < 2 ^ 53 → (b : Bool) → b ≡ is_negative (neg_ℤ (pos k)) → to_unsigned 64 (cond b (fin false m e) (fin true m e)) ≡ unsigned_abs (neg_ℤ (pos k))
    by zero w h true z = absurd (subst T z tt)
    by zero w h false z = refl
    by (suc k) w h true z = positive m e (suc k) w h
    by (suc k) w h false z = absurd (subst T (sym z) tt)

-- ---- what the code asks and answers

-- ---- the whole part of the magnitude can be taken

size_small : (x : Float) → T (small x) → unsigned_abs (val x) < 2 ^ 53
unfolding val
size_small nan t = omega arith
size_small (inf s) t = omega arith
size_small (fin s m e) t = rw (abs-sgn s (m * up e / down e)) (part-below (m * up e) (down e) (size_below s m e t))

magnitude-z : (x : Float) → T (is_whole x) → IsZ (magnitude x) (pos (unsigned_abs (val x)))
unfolding magnitude
magnitude-z x h = rw (below-zero x h) (by (val x) (int-z x (is-int x h)))
  where
    by : (z : ℤ) → IsZ x z → IsZ (cond (is_negative z) (neg x) x) (pos (unsigned_abs z))
    by (pos n) g = g
    by (negsuc n) g = neg-z g

minus_one : IsZ (fin true 1 (pos 0)) (negsuc 0)
unfolding int val
minus_one = lit-z tt tt

top : IsZ (fin false 1 (pos 64)) (pos (2 ^ 64))
unfolding int val
top = lit-z tt tt

pub figure-asks : (x : Float) {m : Float} → T (is_figure x) → m ≡ magnitude x → T (lt (fin true 1 (pos 0)) m) × T (lt m (fin false 1 (pos 64)))
figure-asks x t q =
    let s = and_l (small x) (is_whole x) t in
    let z = magnitude-z x (and_r (small x) (is_whole x) t) in
    let n = size_small x s in
    rw q (rw (lt-z minus_one z) tt, rw (lt-z z top) (lt→ltb (unsigned_abs (val x)) (2 ^ 64) (omega (arith, n))))

-- ---- what the code answers

is_true : (t : Bool) → T t → t ≡ true
is_true true h = refl
is_true false h = absurd h

pub figure-yes : (x : Float) {m : Float} {n : ℕ} → T (is_figure x) → m ≡ magnitude x → n ≡ to_unsigned 64 m → record { whole = true; negative = lt x zero64; size = n } ≡ figure_of x
unfolding figure_of magnitude
figure-yes x t q e =
    let b = below-zero x (and_r (small x) (is_whole x) t) in
    rw (is_true (is_figure x) t, e, q, b) (ap (λ (k : ℕ). record { whole = true; negative = is_negative (val x); size = k }) (sized x (and_l (small x) (is_whole x) t) (is_negative (val x)) refl))

pub figure-no : (x : Float) → is_figure x ≡ false → record { whole = false; negative = false; size = 0 } ≡ figure_of x
unfolding figure_of
figure-no x e = rw e
