-- The count for a dual pass with T-11's rule, and an ascending list's members are different. Assumes nothing.
use Rattle.std.specs.Prelude.{◌≡◌, ◌≢◌, List, [], ◌∷◌, map, ℕ, ◌<◌, true, length}
use Rattle.std.proofs.Common.{arith}
use Rattle.simplex.specs.Choose.{choose, trues, All, Distinct}
use Rattle.simplex.specs.Opt.{Kind, external}
use Rattle.simplex.specs.Pass.{State}
use Rattle.simplex.specs.Bound.{Mem}
use Rattle.simplex.proofs.Bound.{bound}
use Rattle.simplex.specs.Search.{Asc}
use Rattle.simplex.specs.Dual

pub dual-bound : (n : ℕ) (kind : ℕ → Kind) (m : ℕ) (S : ℕ → State) (le en : ℕ → ℕ) → Dual.Pass n kind m S le en
    → (rs : List ℕ) → Distinct rs → ((j : ℕ) → (S 0).B j ≡ true → kind j ≢ external → Mem j rs) → ((i : ℕ) → i < m → Mem (en i) rs)
    → m < choose (length rs) (trues (map (S 0).B rs))
dual-bound n kind m S le en Q =
    bound kind m (λ i. (S i).B) le en (Dual.flips n kind m S le en Q) (λ i h. (Q.choice i h).move.l-slack) (λ i h. (Q.choice i h).move.e-slack) (Dual.no_return n kind m S le en Q)

above : (y : ℕ) (ys : List ℕ) → All (λ z. y < z) ys → All (λ z. y ≢ z) ys
above y [] h = tt
above y (z ∷ zs) h = ((λ e. omega (arith, h.0, e)), above y zs h.1)

pub asc-distinct : (ids : List ℕ) → Asc ids → Distinct ids
unfolding Asc
asc-distinct [] h = tt
asc-distinct (y ∷ ys) h = (above y ys h.0, asc-distinct ys h.1)
