-- The reader over digits, over spaces, and over a mark with the spaces around it.
use Prim.Native.Nat.{ℕ, zero, suc, ◌+◌, ◌-◌, ◌*◌, ◌≤◌}
use Rattle.std.specs.Prelude.{◌≡◌, Bool, cond}
use Rattle.std.proofs.Math.Path.{refl, ap}
use Rattle.std.proofs.Common.{◌∙◌, leb→le}
use Rattle.std.proofs.Math.Bool.{true, false}
use mathlib.Core.List.{List, [], ◌∷◌, ◌++◌}
use Rattle.std.proofs.Math.Option.{Option, none, some}
use Rattle.std.proofs.Math.Nat.{add-zero}
use native.Mathlib.Omega.{arith}
use borrow.Author.Tests.{le-leb}
use Rattle.std.proofs.Math.Dec.{T, leb}
use Rattle.std.proofs.Math.ListN.{length}
use Rattle.grammar.specs.Bytes.{Kind, digit, letter, space, plus, minus, star, opening, closing, less, equals, more, strange, is_digit, kind_of}
use Rattle.grammar.specs.Sums.{Sums, most, most_name, Factor, multiplied, with_variable}
use Rattle.grammar.specs.Reader.{Mode, first, spaced, wanted, lettered, number, numbered, named, closed, apart, half, Around, Next, go, stop, behind, grows, step, Outcome, flushed, is_read, follow, run}
use Rattle.grammar.specs.Trees.{Digits, Fault, fault, else, passes, multiplier_fault, all_digits, are_digits, worth_from, worth, spaces}
use Rattle.grammar.specs.Pieces.{met, both, kind-digit, Joint}

pub met-else : (a b : Option Fault) (x : Outcome) → met (else a b) x ≡ met a (met b x)
met-else none b x = refl
met-else (some e) b x = refl

-- ---- digits

digit-small : (b : ℕ) → T (is_digit b) → b - 48 ≤ 9
digit-small b h = omega (arith, leb→le b 57 (both (leb 48 b) (leb b 57) h).1)

module _ (top : ℕ) (mode : ℕ → Mode) (steps : (v d : ℕ) (a : Around) (s : Sums) → step (mode v) a s (digit d) ≡ grows top mode a s (v * 10 + d)) where
  walk-digits : (bs w : List ℕ) (at v : ℕ) (a : Around) (s : Sums) → T (all_digits bs) → run (bs ++ w) at (mode v) a s ≡ met (passes top v at bs) (run w (at + length bs) (mode (worth_from v bs)) a s)
  unfolding run passes worth_from all_digits
  walk-digits [] w at v a s h = rw add-zero
  walk-digits (b ∷ bs) w at v a s h =
      let d = both (is_digit b) (all_digits bs) h in
      rw (kind-digit b d.0, steps v (b - 48) a s) (by (leb (v * 10 + (b - 48)) top) (walk-digits bs w (suc at) (v * 10 + (b - 48)) a s d.1))
    where
      by : (t : Bool)
          → run (bs ++ w) (suc at) (mode (v * 10 + (b - 48))) a s ≡ met (passes top (v * 10 + (b - 48)) (suc at) bs) (run w (suc at + length bs) (mode (worth_from (v * 10 + (b - 48)) bs)) a s)
          → follow at (mode v) s (cond t (go (mode (v * 10 + (b - 48))) a s) (stop 22)) (run (bs ++ w) (suc at)) ≡ met (cond t (passes top (v * 10 + (b - 48)) (suc at) bs) (fault 22 at)) (run w (at + suc (length bs)) (mode (worth_from (v * 10 + (b - 48)) bs)) a s)
      by true q = q ∙ ap (λ (n : ℕ). met (passes top (v * 10 + (b - 48)) (suc at) bs) (run w n (mode (worth_from (v * 10 + (b - 48)) bs)) a s)) (omega arith)
      by false q = refl

  -- from the first digit on, to which m leads
  walk_first : (m : Mode) (n : Digits) (w : List ℕ) (at : ℕ) (a : Around) (s : Sums) → ((d : ℕ) → step m a s (digit d) ≡ go (mode d) a s) → 9 ≤ top → run (n.bytes ++ w) at m a s ≡ met (passes top 0 at n.bytes) (run w (at + length n.bytes) (mode (worth n)) a s)
  unfolding run passes worth_from all_digits
  walk_first m n w at a s q low = by n.bytes n.are-digits
    where
      by : (bs : List ℕ) → T (are_digits bs) → run (bs ++ w) at m a s ≡ met (passes top 0 at bs) (run w (at + length bs) (mode (worth_from 0 bs)) a s)
      by [] h = absurd h
      by (b ∷ bs) h =
          let d = both (is_digit b) (all_digits bs) h in
          let z : 0 * 10 + (b - 48) ≡ b - 48 = omega arith in
          let t : leb (b - 48) top ≡ true = le-leb (b - 48) top (omega (arith, digit-small b d.0)) in
          rw (kind-digit b d.0, q (b - 48), z, t)
          (walk-digits bs w (suc at) (b - 48) a s d.1 ∙ ap (λ (n : ℕ). met (passes top (b - 48) (suc at) bs) (run w n (mode (worth_from (b - 48) bs)) a s)) (omega arith))

-- a number
pub walk-number : (f : Factor) (n : Digits) (w : List ℕ) (at : ℕ) (a : Around) (s : Sums) → run (n.bytes ++ w) at (wanted f) a s ≡ met (passes most 0 at n.bytes) (run w (at + length n.bytes) (number f (worth n)) a s)
walk-number f n w at a s = walk_first most (number f) (λ v d a s. refl) (wanted f) n w at a s (λ d. refl) (omega arith)

-- a variable, behind its `v`
pub walk-name : (f : Factor) (n : Digits) (w : List ℕ) (at : ℕ) (a : Around) (s : Sums) → run (n.bytes ++ w) at (lettered f) a s ≡ met (passes most_name 0 at n.bytes) (run w (at + length n.bytes) (named f (worth n)) a s)
walk-name f n w at a s = walk_first most_name (named f) (λ v d a s. refl) (lettered f) n w at a s (λ d. refl) (omega arith)

-- ---- spaces and marks

pub walk-spaces : (n : ℕ) (w : List ℕ) (at : ℕ) (f : Factor) (a : Around) (s : Sums) → run (spaces n ++ w) at (wanted f) a s ≡ run w (at + n) (wanted f) a s
unfolding run kind_of
walk-spaces zero w at f a s = rw add-zero
walk-spaces (suc n) w at f a s = walk-spaces n w (suc at) f a s ∙ ap (λ (p : ℕ). run w p (wanted f) a s) (omega arith)

-- the `*` behind a number
pub walk-star : (n : ℕ) (w : List ℕ) (at v : ℕ) (f : Factor) (a : Around) (s : Sums) → run (spaces n ++ (42 ∷ w)) at (number f v) a s ≡ met (multiplier_fault (f.times * v) (at + n)) (run w (at + n + 1) (wanted (multiplied f v)) a s)
unfolding run kind_of
walk-star zero w at v f a s = rw add-zero (by (leb (f.times * v) most))
  where
    by : (t : Bool) → follow at (number f v) s (cond t (go (wanted (multiplied f v)) a s) (stop 22)) (run w (suc at)) ≡ met (cond t none (fault 22 at)) (run w (at + 1) (wanted (multiplied f v)) a s)
    by true = ap (λ (p : ℕ). run w p (wanted (multiplied f v)) a s) (omega arith)
    by false = refl
walk-star (suc n) w at v f a s = behind-spaces n (suc at) ∙ ap (λ (p : ℕ). met (multiplier_fault (f.times * v) p) (run w (p + 1) (wanted (multiplied f v)) a s)) (omega arith)
  where
    behind-spaces : (n at : ℕ) → run (spaces n ++ (42 ∷ w)) at (numbered f v) a s ≡ met (multiplier_fault (f.times * v) (at + n)) (run w (at + n + 1) (wanted (multiplied f v)) a s)
    behind-spaces zero at = rw add-zero (by (leb (f.times * v) most))
      where
        by : (t : Bool) → follow at (numbered f v) s (cond t (go (wanted (multiplied f v)) a s) (stop 22)) (run w (suc at)) ≡ met (cond t none (fault 22 at)) (run w (at + 1) (wanted (multiplied f v)) a s)
        by true = ap (λ (p : ℕ). run w p (wanted (multiplied f v)) a s) (omega arith)
        by false = refl
    behind-spaces (suc n) at = behind-spaces n (suc at) ∙ ap (λ (p : ℕ). met (multiplier_fault (f.times * v) p) (run w (p + 1) (wanted (multiplied f v)) a s)) (omega arith)

joint-behind : (n n' : ℕ → Next) (g g' t t' : Next) (a : Around) (s : Sums) (k : Kind) → Joint k → behind n g t a s k ≡ behind n' g' t' a s k
joint-behind n n' g g' t t' a s (digit d) j = absurd j
joint-behind n n' g g' t t' a s letter j = absurd j
joint-behind n n' g g' t t' a s space j = absurd j
joint-behind n n' g g' t t' a s plus j = refl
joint-behind n n' g g' t t' a s minus j = refl
joint-behind n n' g g' t t' a s star j = absurd j
joint-behind n n' g g' t t' a s opening j = absurd j
joint-behind n n' g g' t t' a s closing j = refl
joint-behind n n' g g' t t' a s less j = refl
joint-behind n n' g g' t t' a s equals j = refl
joint-behind n n' g g' t t' a s more j = refl
joint-behind n n' g g' t t' a s strange j = absurd j

pub joint-step : (m : Mode) (a : Around) (s : Sums) (k : Kind) → T (is_read m) → Joint k → step m a s k ≡ step closed a (flushed m s) k
joint-step first a s k r j = absurd r
joint-step spaced a s k r j = absurd r
joint-step (wanted f) a s k r j = absurd r
joint-step (lettered f) a s k r j = absurd r
joint-step (number f n) a s k r j = joint-behind _ _ _ _ _ _ a _ k j
joint-step (numbered f n) a s k r j = joint-behind _ _ _ _ _ _ a _ k j
joint-step (named f v) a s k r j = joint-behind _ _ _ _ _ _ a _ k j
joint-step closed a s k r j = joint-behind _ _ _ _ _ _ a _ k j
joint-step apart a s k r j = joint-behind _ _ _ _ _ _ a _ k j
joint-step (half x) a s k r j = absurd r

-- a mark behind a part, with spaces before it
pub walk-joint : (n c : ℕ) (w : List ℕ) (at : ℕ) (m : Mode) (a : Around) (s : Sums) {m' : Mode} {a' : Around} {s' : Sums} → T (is_read m) → Joint (kind_of c) → step closed a (flushed m s) (kind_of c) ≡ go m' a' s' → run (spaces n ++ (c ∷ w)) at m a s ≡ run w (at + n + 1) m' a' s'
unfolding run kind_of
walk-joint zero c w at m a s {m'} {a'} {s'} r j q =
    rw (joint-step m a s (kind_of c) r j, q) (ap (λ (p : ℕ). run w p m' a' s') (omega arith))
walk-joint (suc n) c w at first a s {m'} {a'} {s'} r j q = absurd r
walk-joint (suc n) c w at spaced a s {m'} {a'} {s'} r j q = absurd r
walk-joint (suc n) c w at (wanted f) a s {m'} {a'} {s'} r j q = absurd r
walk-joint (suc n) c w at (lettered f) a s {m'} {a'} {s'} r j q = absurd r
walk-joint (suc n) c w at (number f v) a s {m'} {a'} {s'} r j q = walk-joint n c w (suc at) (numbered f v) a s r j q ∙ ap (λ (p : ℕ). run w p m' a' s') (omega arith)
walk-joint (suc n) c w at (numbered f v) a s {m'} {a'} {s'} r j q = walk-joint n c w (suc at) (numbered f v) a s r j q ∙ ap (λ (p : ℕ). run w p m' a' s') (omega arith)
walk-joint (suc n) c w at (named f v) a s {m'} {a'} {s'} r j q = walk-joint n c w (suc at) apart a (with_variable f v s) r j q ∙ ap (λ (p : ℕ). run w p m' a' s') (omega arith)
walk-joint (suc n) c w at closed a s {m'} {a'} {s'} r j q = walk-joint n c w (suc at) closed a s r j q ∙ ap (λ (p : ℕ). run w p m' a' s') (omega arith)
walk-joint (suc n) c w at apart a s {m'} {a'} {s'} r j q = walk-joint n c w (suc at) apart a s r j q ∙ ap (λ (p : ℕ). run w p m' a' s') (omega arith)
walk-joint (suc n) c w at (half x) a s {m'} {a'} {s'} r j q = absurd r
