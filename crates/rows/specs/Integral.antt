-- The test that a number is whole: below 2^53 it is what its whole part is, and from there on every f64 is whole.
use Rattle.std.specs.Prelude.{◌≡◌, ℕ, zero, suc, ◌+◌, ◌-◌, ◌*◌, ◌/◌, ◌%◌, ◌^◌, ◌<◌, ◌≤◌, Bool, true, false, not, ◌&&◌, ◌||◌, T, ℤ, pos, negsuc, neg_ℤ, ◌==◌, nat_le, nat_lt, unsigned_abs, refl, Float}
use Rattle.std.proofs.Common.{sym, ap, ◌∙◌, subst, mul-one, mul_right_comm, lt_of_mul-lt-mul_right, div-add-mod', arith, ltb→lt, lt→ltb, eqb→eq}
use Rattle.std.specs.Bool.{beq}
use Rattle.std.proofs.Math.Nat.{eq_of_mul-eq-mul_right, mul-mod_left, min-eq_left, mod-one, zero-mod}
use Rattle.std.specs.Float.{nan, inf, fin, binary64}
use Rattle.std.specs.Float.Ieee.{up, down, lt, le, eq, of_int, to_signed, fits}
use Rattle.std.specs.Float.Ieee.Fits.{down_pos, and_i, and_l, and_r, eq→eqb}
use Rattle.steps.specs.Number.{is_finite, is_whole}
use Rattle.laws.specs.Z.{≡→eq_zb}
use Rattle.laws.specs.exact.Whole.{IsZ, val, int, int-z, of_int-z}
use Rattle.laws.specs.exact.Compare.{eq-z, bool-ext}

-- between -2^53 and 2^53
unfoldable pub small : Float → Bool
small x = lt (fin true 1 (pos 53)) x && lt x (fin false 1 (pos 53))

int_is : (x : Float) → int x ≡ is_whole x
unfolding int is_whole
int_is nan = refl
int_is (inf s) = refl
int_is (fin s m e) = refl

none : (s : Bool) → T (not s && s) → ⊥
none true t = t
none false t = t

size_below : (s : Bool) (m : ℕ) (e : ℤ) → T (small (fin s m e)) → m * up e < 2 ^ 53 * down e
unfolding small lt
size_below false m e t =
    let h = ltb→lt (m * up e * 1) (1 * 2 ^ 53 * down e) (and_r (lt (fin true 1 (pos 53)) (fin false m e)) (lt (fin false m e) (fin false 1 (pos 53))) t) in
    omega (arith, h)
size_below true m e t =
    let h = ltb→lt (m * up e * 1) (1 * 2 ^ 53 * down e) (and_l (lt (fin true 1 (pos 53)) (fin true m e)) (lt (fin true m e) (fin false 1 (pos 53))) t) in
    omega (arith, h)

part-below : (a d : ℕ) → a < 2 ^ 53 * d → a / d < 2 ^ 53
part-below a d h =
    let q = div-add-mod' a d in
    lt_of_mul-lt-mul_right d (omega (arith, q, h))

-- a whole number is equal to what it is equal to
eq_int : {r : Float} {z : ℤ} (x : Float) → IsZ r z → T (eq r x) → T (int x)
unfolding eq int
eq_int {r = nan} x h t = absurd h.has
eq_int {r = inf s} x h t = absurd h.has
eq_int {r = fin s k d} nan h t = absurd t
eq_int {r = fin s k d} (inf u) h t = absurd t
eq_int {r = fin s k d} (fin u m e) h t =
    let q : k * up d * down e ≡ m * up e * down d = eqb→eq (k * up d * down e) (m * up e * down d) (and_l (k * up d * down e == m * up e * down d) (beq s u || k * up d * down e == 0) t) in
    let p : h.size * down e * down d ≡ m * up e * down d = mul_right_comm h.size (down e) (down d) ∙ ap (λ (x : ℕ). x * down e) (sym h.has.1 ∙ mul-one (k * up d)) ∙ q in
    let w : h.size * down e ≡ m * up e = eq_of_mul-eq-mul_right (down d) (down_pos d) (h.size * down e) (m * up e) p in
    eq→eqb (ap (λ (x : ℕ). x % down e) (sym w) ∙ mul-mod_left h.size (down e))

-- below 2^53 the whole part is the integer that `val` has, and it is a float
part-is : (x : Float) → T (small x) → (to_signed 63 x ≡ val x) × (unsigned_abs (val x) ≤ 2 ^ 53)
unfolding small lt to_signed val
part-is nan t = absurd t
part-is (inf s) t = absurd (none s t)
part-is (fin false m e) t =
    let h : m * up e / down e < 2 ^ 53 = part-below (m * up e) (down e) (size_below false m e t) in
    let w : m * up e / down e ≤ 2 ^ 63 - 1 = omega (arith, h) in
    (ap pos (min-eq_left w), omega (arith, h))
part-is (fin true m e) t =
    let h : m * up e / down e < 2 ^ 53 = part-below (m * up e) (down e) (size_below true m e t) in
    let w : m * up e / down e ≤ 2 ^ 63 = omega (arith, h) in
    (ap (λ (k : ℕ). neg_ℤ (pos k)) (min-eq_left w), abs (m * up e / down e) (omega (arith, h)))
  where
    abs : (k : ℕ) → k ≤ 2 ^ 53 → unsigned_abs (neg_ℤ (pos k)) ≤ 2 ^ 53
    abs zero h = h
    abs (suc k) h = h

pub small-test : (x : Float) {z : ℤ} {r : Float} → small x ≡ true → z ≡ to_signed 63 x → r ≡ of_int binary64 z → eq r x ≡ is_whole x
small-test x {z} {r} q p w =
    let t : T (small x) = subst T (sym q) tt in
    let h : IsZ r (val x) = rw (w, p, (part-is x t).0) (of_int-z (val x) (part-is x t).1) in
    bool-ext (eq r x) (int x) (eq_int x h) (λ u. rw (eq-z h (int-z x u)) (≡→eq_zb {a = val x} refl)) ∙ int_is x

-- a finite number below 2^w either way
between : (w : ℕ) (s : Bool) (m : ℕ) (e : ℤ) → m * up e < 2 ^ w * down e → T (lt (fin true 1 (pos w)) (fin s m e)) × T (lt (fin s m e) (fin false 1 (pos w)))
unfolding lt
between w false m e h = (lt→ltb 0 (1 * 2 ^ w * down e + m * up e * 1) (omega (arith, h)), lt→ltb (m * up e * 1) (1 * 2 ^ w * down e) (omega (arith, h)))
between w true m e h = (lt→ltb (m * up e * 1) (1 * 2 ^ w * down e) (omega (arith, h)), lt→ltb 0 (m * up e * 1 + 1 * 2 ^ w * down e) (omega (arith, h)))

-- the whole part can be taken
pub small-asks : (x : Float) → small x ≡ true → T (le (fin true 1 (pos 63)) x) × T (lt x (fin false 1 (pos 63)))
unfolding le small lt
small-asks x q = asks x (subst T (sym q) tt)
  where
    or_l : (a b : Bool) → T a → T (a || b)
    or_l true b t = tt
    or_l false b t = absurd t

    asks : (x : Float) → T (small x) → T (lt (fin true 1 (pos 63)) x || eq (fin true 1 (pos 63)) x) × T (lt x (fin false 1 (pos 63)))
    asks nan t = absurd t
    asks (inf s) t = absurd (none s t)
    asks (fin s m e) t =
        let h = size_below s m e t in
        let d = down_pos e in
        let b = between 63 s m e (omega (arith, h, d)) in
        (or_l (lt (fin true 1 (pos 63)) (fin s m e)) (eq (fin true 1 (pos 63)) (fin s m e)) b.0, b.1)

pub large-test : (x : Float) → T (fits binary64 x) → small x ≡ false → is_finite x ≡ is_whole x
unfolding is_finite is_whole small fits
large-test nan f q = refl
large-test (inf s) f q = refl
large-test (fin s m (pos k)) f q = rw (mod-one (m * 2 ^ k))
large-test (fin s zero (negsuc k)) f q = rw (zero-mod (2 ^ suc k))
large-test (fin s (suc m) (negsuc k)) f q =
    let h : suc m < 2 ^ 53 = ltb→lt (suc m) (2 ^ 53)
    (and_r (suc m % 2 == 1) (nat_lt (suc m) (2 ^ 53))
    (and_l (suc m % 2 == 1 && nat_lt (suc m) (2 ^ 53)) (nat_le (2 ^ suc k) (2 ^ 1074))
    (and_l (suc m % 2 == 1 && nat_lt (suc m) (2 ^ 53) && nat_le (2 ^ suc k) (2 ^ 1074)) (nat_lt (suc m * 1) (2 ^ 1024 * 2 ^ suc k)) f))) in
    let d = down_pos (negsuc k) in
    let b = between 53 s (suc m) (negsuc k) (omega (arith, h, d)) in
    absurd (subst T q (and_i (lt (fin true 1 (pos 53)) (fin s (suc m) (negsuc k))) (lt (fin s (suc m) (negsuc k)) (fin false 1 (pos 53))) b.0 b.1))
