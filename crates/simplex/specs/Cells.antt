-- Solve and substitute as rows in whole numbers: both are the theory's step. Assumes nothing.
use Rattle.std.specs.Prelude.{◌≡◌, [], ◌∷◌, ℕ, ℤ, neg_ℤ, ◌+ℤ◌, ◌-ℤ◌, ◌*ℤ◌}
use Rattle.std.proofs.Common.{sym, ap, ap₂, ◌∙◌}
use Rattle.laws.specs.Ring.{ring, v, k, ◌⊞◌, ◌⊠◌, ⊟◌, ◌⊟⊟◌}
use Rattle.simplex.specs.Ord.{1ℤ}
use Rattle.simplex.specs.Lin.{Vec, δ, δ-same}
use Rattle.simplex.specs.Tab.{out}

-- the pivot's row for e is e's unit row less c times the equation; the rows that held e get it times their cell
pub solved-row : (e : ℕ) (c : ℤ) (r : Vec) (j : ℕ) → r e ≡ c → c *ℤ c ≡ 1ℤ → neg_ℤ c *ℤ (r j -ℤ c *ℤ δ e j) ≡ out e c r (δ e) j
solved-row e c r j h one =
    ring (c ∷ r j ∷ δ e j ∷ []) ((⊟ v 0) ⊠ (v 1 ⊟⊟ v 0 ⊠ v 2)) ((v 0 ⊠ v 0) ⊠ v 2 ⊞ (⊟ (k 1ℤ ⊠ v 0)) ⊠ v 1) tt
    ∙ ap₂ (λ (a b : ℤ). a *ℤ δ e j +ℤ neg_ℤ (b *ℤ c) *ℤ r j) one (sym (δ-same e)) ∙ ring (δ e j ∷ (neg_ℤ (δ e e *ℤ c) *ℤ r j) ∷ []) (k 1ℤ ⊠ v 0 ⊞ v 1) (v 0 ⊞ v 1) tt

pub substituted-row : (e : ℕ) (c : ℤ) (r w : Vec) (j : ℕ) → w j -ℤ w e *ℤ δ e j +ℤ w e *ℤ out e c r (δ e) j ≡ out e c r w j
substituted-row e c r w j =
    ap (λ z. w j -ℤ w e *ℤ δ e j +ℤ w e *ℤ (δ e j +ℤ neg_ℤ (z *ℤ c) *ℤ r j)) (δ-same e)
    ∙ ring (w j ∷ w e ∷ δ e j ∷ c ∷ r j ∷ []) (v 0 ⊟⊟ v 1 ⊠ v 2 ⊞ v 1 ⊠ (v 2 ⊞ (⊟ (k 1ℤ ⊠ v 3)) ⊠ v 4)) (v 0 ⊞ (⊟ (v 1 ⊠ v 3)) ⊠ v 4) tt
