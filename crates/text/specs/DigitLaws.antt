-- A turn of the loops that read digits and compare words, and their ends.
use Rattle.std.specs.Prelude.{◌≡◌, ℕ, ◌+◌, ◌-◌, ◌*◌, ◌<◌, ◌≤◌, Bool, true, false, cond, ◌&&◌, T, ltb, List, [], ◌∷◌, length, take, drop, ◌==◌, nat_le, nat_lt, slice_index, refl, Option, Some, None, MatchOption, nat_eq}
use Rattle.std.proofs.Common.{◌∙◌, Bor, sym, ap, subst, not-suc-le-zero, mul-le-mul_left, mul-one, le_refl, arith, length-drop, drop_of_length-le, take_all}
use Rattle.std.proofs.Math.Numerals.{add-one}
use borrow.Author.Tests.{leb-true, lt-leb, le-leb, lt-ltb, le-ltb}
use Rattle.std.proofs.Math.Seq.{drop-cons}
use Rattle.std.proofs.Math.Dec.{eqb-suc-zero}
use Rattle.std.specs.Cmp.Lexicographic.{pointwise}
use Rattle.text.specs.Digits.{is_from, digit_of, digits_from, digits_of, up_to, same_bytes, starts_with}

pub from_low : (low high b : ℕ) → is_from low high b ≡ true → low ≤ b
from_low low high b h = leb-true low b (both (nat_le low b) (nat_le b high) h)
  where
    both : (p q : Bool) → p && q ≡ true → p ≡ true
    both true q h = refl
    both false q h = h

-- ---- digits

module _ (base v : ℕ) (w : List ℕ) (i : ℕ) {z : Option ℕ} (here : i < length w) (left : digits_from base v (drop i w) ≡ z) where
  pub digits-next : {d : ℕ} → d ≡ digit_of (slice_index w i) → d < base → digits_from base (v * base + d) (drop (i + 1) w) ≡ z
  unfolding digits_from
  digits-next {d} q h =
      let t : ltb (digit_of (slice_index w i)) base ≡ true = lt-ltb (digit_of (slice_index w i)) base (rw q at h) in
      rw (add-one, q) (rw (drop-cons w i 0 here, t) at left)

  pub digits-stop : {d : ℕ} → d ≡ digit_of (slice_index w i) → base ≤ d → None ≡ z
  unfolding digits_from
  digits-stop q h =
      let t : ltb (digit_of (slice_index w i)) base ≡ false = le-ltb (digit_of (slice_index w i)) base (rw q at h) in
      rw (drop-cons w i 0 here, t) at left

pub digits_last : (base v : ℕ) (w : List ℕ) (i : ℕ) {z : Option ℕ} → length w ≤ i → digits_from base v (drop i w) ≡ z → Some v ≡ z
unfolding digits_from
digits_last base v w i h q = rw (drop_of_length-le w h) at q

pub digits-start : (base : ℕ) (w : List ℕ) → (length w == 0) ≡ false → digits_from base 0 (drop 0 w) ≡ digits_of base w
unfolding digits_of
digits-start base [] h = absurd (subst T h tt)
digits-start base (b ∷ w) h = refl

pub digits-none : (base : ℕ) (w : List ℕ) → (length w == 0) ≡ true → None ≡ digits_of base w
unfolding digits_of
digits-none base [] h = refl
digits-none base (b ∷ w) h = absurd (subst T (sym h ∙ eqb-suc-zero (length w)) tt)

-- a number that is too large stays so with more digits
pub digits-big : (base most v : ℕ) (w : List ℕ) → 1 ≤ base → most < v → up_to most (digits_from base v w) ≡ None
unfolding up_to digits_from
digits-big base most v [] h q = rw (lt-leb v most q)
digits-big base most v (b ∷ w) h q =
    elim (nat_lt (digit_of b) base) as (λ (t : Bool). up_to most (cond t (digits_from base (v * base + digit_of b) w) None) ≡ None) [
      | true ↦ digits-big base most (v * base + digit_of b) w h (omega (arith, mul-le-mul_left v h, mul-one v))
      | false ↦ refl
    ]

pub up-to : (most v : ℕ) → v ≤ most → up_to most (Some v) ≡ Some v
unfolding up_to
up-to most v h = rw (le-leb v most h)

-- ---- words

pub same-pointwise : (xs ys : List ℕ) → pointwise nat_eq xs ys ≡ same_bytes xs ys
unfolding same_bytes
same-pointwise [] [] = refl
same-pointwise [] (y ∷ ys) = refl
same-pointwise (x ∷ xs) [] = refl
same-pointwise (x ∷ xs) (y ∷ ys) = ap (λ (t : Bool). x == y && t) (same-pointwise xs ys)

starts-pointwise : (ms w : List ℕ) → pointwise nat_eq (take (length ms) w) ms ≡ starts_with ms w
unfolding starts_with
starts-pointwise [] w = refl
starts-pointwise (m ∷ ms) [] = refl
starts-pointwise (m ∷ ms) (b ∷ w) = ap (λ (t : Bool). b == m && t) (starts-pointwise ms w)

pub stripped : (ms w : List ℕ) (r : Option (Bor (List ℕ)))
    → MatchOption r (pointwise nat_eq (take (length ms) w) ms ≡ false) (λ x. (pointwise nat_eq (take (length ms) w) ms ≡ true) × (x.now ≡ drop (length ms) w) × (length x.now + length ms ≡ length w))
    → MatchOption r (starts_with ms w ≡ false) (λ x. (starts_with ms w ≡ true) × (x.now ≡ drop (length ms) w))
stripped ms w None h = sym (starts-pointwise ms w) ∙ h
stripped ms w (Some x) h = (sym (starts-pointwise ms w) ∙ h.0, h.1)

-- ---- a number that was read is not too large

pub up-to-most : (most : ℕ) (o : Option ℕ) (n : ℕ) → up_to most o ≡ Some n → n ≤ most
unfolding up_to
up-to-most most None n q = never q
  where
    never : {n : ℕ} → ◌≡◌ {A = Option ℕ} None (Some n) → n ≤ most
    never {n} q = let z : ◌≡◌ {A = ℕ} 0 1 = cc in absurd (not-suc-le-zero {n = 0} (omega arith))
up-to-most most (Some m) n q = test (nat_le m most) refl q
  where
    test : (t : Bool) → nat_le m most ≡ t → cond t (Some m) None ≡ Some n → n ≤ most
    test true e q = let k : m ≡ n = cc in rw k at (leb-true m most e)
    test false e q = let z : ◌≡◌ {A = ℕ} 0 1 = cc in absurd (not-suc-le-zero {n = 0} (omega arith))

-- ---- the part of a word from a place on, as the code takes it

pub rest : {A : Type 0} (n : ℕ) (w : List A) → take (length w - n) (drop n w) ≡ drop n w
rest n w = take_all (length w - n) (drop n w) (rw length-drop (le_refl _))
