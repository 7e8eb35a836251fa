use Rattle.std.proofs.Common.{ℕ, zero, suc, ◌+◌, ◌-◌, ◌≤◌, ◌<◌, ◌≡◌, List, [], ◌∷◌, ◌++◌, Float, length, take, drop, replicate, refl, ap, arith, not-suc-le-zero, le_of_suc-le-suc}
use Rattle.std.proofs.Math.Seq.{length-take-le}
use Rattle.std.proofs.Math.Numerals.{add-one}
use Rattle.laws.specs.Loops.{map_in}
use Rattle.steps.specs.Number.{zero64}
use Rattle.layout.proofs.cells.row.zero_cells.Goals as goal

front : (v : Float) (n : ℕ) (l : List Float) → n ≤ length l → replicate n v ++ drop n l ≡ map_in (λ _. v) 0 n l
unfolding map_in
front v zero [] h = refl
front v zero (x ∷ l) h = refl
front v (suc n) [] h = absurd (not-suc-le-zero h)
front v (suc n) (x ∷ l) h = ap (λ (r : List Float). v ∷ r) (front v n l (le_of_suc-le-suc h))

filled : (v : Float) (k : ℕ) (l ys : List Float) → k < length l → ys ≡ replicate (length (take (k + 1 - 1) (drop 1 l))) v → take 1 l ++ (ys ++ drop (k + 1 - 1) (drop 1 l)) ≡ map_in (λ _. v) 1 (k + 1) l
unfolding map_in
filled v k [] ys h q = absurd (omega (arith, h))
filled v k (x ∷ l) ys h q =
    let e : k + 1 - 1 ≡ k = omega arith in
    let b : k ≤ length l = omega (arith, h) in
    let m : length (take k l) ≡ k = length-take-le k l b in
    let q₁ : ys ≡ replicate k v = (rw (e, m) at q) in
    rw (e, q₁, add-one) (ap (λ (r : List Float). x ∷ r) (front v k l b))

pub returns : goal.returns
unfolding zero64
returns c = filled _ _ _ _ (omega arith) (c.fill.ensures.after (λ y h. h))
