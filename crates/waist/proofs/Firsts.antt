-- `find` over a range is the walk for the first place that passes.
use Prim.Native.Nat.{ℕ, zero, suc, ◌+◌, ◌-◌, ◌≤◌, ◌<◌}
use mathlib.Core.Path.{◌≡◌, refl}
use mathlib.Core.Bool.{Bool, true, false}
use native.Mathlib.Omega.{arith}
use Rattle.std.specs.Prelude.{Option, Some, None}
use Rattle.std.specs.Option.{MatchOption}
use Rattle.laws.specs.Loops.{first, first_next, first-here, first-last}

module _ (p : ℕ → Bool) (a e : ℕ) where
  abbrev walk : ℕ → Option ℕ
  walk i = first p Some None i e

  over : (n i : ℕ) → a + n ≡ i → i ≤ e → ((k : ℕ) → a ≤ k → k < i → p k ≡ false) → walk i ≡ walk a
  over zero i q h rest = let z : i ≡ a = omega (arith, q) in rw z refl
  over (suc n) i q h rest =
      let z : a + n + 1 ≡ i = omega (arith, q) in
      let r = first_next p Some None (a + n) e (omega (arith, q, h)) (rest (a + n) (omega arith) (omega (arith, q))) (over n (a + n) refl (omega (arith, q, h)) (λ k l u. rest k l (omega (arith, q, u)))) in
      rw z at r

  pub found-first : (r : Option ℕ) → a ≤ e → MatchOption r ((k : ℕ) → a ≤ k → k < e → p k ≡ false) (λ i. (a ≤ i) × (i < e) × (p i ≡ true) × ((k : ℕ) → a ≤ k → k < i → p k ≡ false)) → r ≡ walk a
  found-first None h rest = first-last p Some None e e (omega arith) (over (e - a) e (omega (arith, h)) (omega arith) rest)
  found-first (Some i) h (l, u, y, rest) = first-here p Some None i e u y (over (i - a) i (omega (arith, l)) (omega (arith, u)) rest)
