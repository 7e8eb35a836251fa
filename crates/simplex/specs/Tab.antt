-- A tableau: which columns are basic, and a row for every column. The row of a basic column is the tableau's; the row of any other column is its unit row.
-- So "σ solves it" is one equation for every column, and a pivot is one formula for every row. Column 0 is the constant's and is never basic. Assumes nothing.
use Rattle.std.specs.Prelude.{◌≡◌, ◌↔◌, [], ◌∷◌, ℕ, ◌<◌, ℤ, negsuc, neg_ℤ, ◌+ℤ◌, ◌-ℤ◌, ◌*ℤ◌}
use Rattle.std.proofs.Common.{sym, ap, ◌∙◌}
use Rattle.laws.specs.Ring.{ring, v, k, ◌⊞◌, ◌⊠◌, ⊟◌, ◌⊟⊟◌}
use Rattle.simplex.specs.Ord.{0ℤ, 1ℤ}
use Rattle.simplex.specs.Lin.{Vec, δ, δ-same, dot, plus, dot-plus, dot-cong, dot-δ}

-- σ meets every row
abbrev pub Solves : ℕ → (ℕ → Vec) → Vec → Type 0
Solves n R σ = (j : ℕ) → j < n → σ j ≡ dot n (R j) σ

-- ---- taking a column out: by the equation "r is 0" whose cell at x is c, 1 or -1, the row w loses x
abbrev pub out : ℕ → ℤ → Vec → Vec → Vec
out x c r w = plus w (neg_ℤ (w x *ℤ c)) r

-- on σ that meets the equation the row keeps its value
pub out-dot : (n x : ℕ) (c : ℤ) (r w σ : Vec) → dot n r σ ≡ 0ℤ → dot n (out x c r w) σ ≡ dot n w σ
out-dot n x c r w σ h =
    dot-plus n w (neg_ℤ (w x *ℤ c)) r σ ∙ ap (λ z. dot n w σ +ℤ neg_ℤ (w x *ℤ c) *ℤ z) h
    ∙ ring (dot n w σ ∷ w x ∷ c ∷ []) (v 0 ⊞ (⊟ (v 1 ⊠ v 2)) ⊠ k 0ℤ) (v 0) tt

cancel : (s c ρ : ℤ) → c *ℤ c ≡ 1ℤ → s ≡ s +ℤ neg_ℤ (1ℤ *ℤ c) *ℤ ρ → ρ ≡ 0ℤ
cancel s c ρ one h =
    ring (ρ ∷ []) (v 0) (k 1ℤ ⊠ v 0) tt ∙ ap (λ z. z *ℤ ρ) (sym one)
    ∙ ring (c ∷ ρ ∷ s ∷ []) (v 0 ⊠ v 0 ⊠ v 1) (v 0 ⊠ (v 2 ⊟⊟ (v 2 ⊞ (⊟ (k 1ℤ ⊠ v 0)) ⊠ v 1))) tt
    ∙ ap (λ z. c *ℤ (z -ℤ (s +ℤ neg_ℤ (1ℤ *ℤ c) *ℤ ρ))) h
    ∙ ring (c ∷ (s +ℤ neg_ℤ (1ℤ *ℤ c) *ℤ ρ) ∷ []) (v 0 ⊠ (v 1 ⊟⊟ v 1)) (k 0ℤ) tt

-- THE LAW OF ELIMINATION. Adding a row and pivoting are both this: where x is not basic, the new tableau's solutions are the old one's that meet the equation
pub out-solves : (n : ℕ) (R : ℕ → Vec) (x : ℕ) (c : ℤ) (r σ : Vec)
    → x < n → ((i : ℕ) → R x i ≡ δ x i) → c *ℤ c ≡ 1ℤ
    → Solves n (λ j. out x c r (R j)) σ ↔ (Solves n R σ × (dot n r σ ≡ 0ℤ))
out-solves n R x c r σ hx unit one = (to, from)
  where
    at_x : Solves n (λ j. out x c r (R j)) σ → dot n r σ ≡ 0ℤ
    at_x s =
        cancel (σ x) c (dot n r σ) one
        (s x hx ∙ dot-plus n (R x) (neg_ℤ (R x x *ℤ c)) r σ
        ∙ ap (λ z. z +ℤ neg_ℤ (R x x *ℤ c) *ℤ dot n r σ) (dot-cong n (R x) σ (δ x) σ (λ j _. ap (λ z. z *ℤ σ j) (unit j)) ∙ dot-δ n x σ hx)
        ∙ ap (λ z. σ x +ℤ neg_ℤ (z *ℤ c) *ℤ dot n r σ) (unit x ∙ δ-same x))

    to : Solves n (λ j. out x c r (R j)) σ → Solves n R σ × (dot n r σ ≡ 0ℤ)
    to s = (λ j h. s j h ∙ out-dot n x c r (R j) σ (at_x s), at_x s)

    from : Solves n R σ × (dot n r σ ≡ 0ℤ) → Solves n (λ j. out x c r (R j)) σ
    from t j h = t.0 j h ∙ sym (out-dot n x c r (R j) σ t.1)

-- ---- the pivot: row l's equation, "row l less its own column is 0", takes e out of every row
abbrev pub eqn : (ℕ → Vec) → ℕ → Vec
eqn R l = plus (R l) (negsuc 0) (δ l)

abbrev pub pivoted : ℕ → ℕ → (ℕ → Vec) → Vec → Vec
pivoted l e R w = out e (R l e) (eqn R l) w

abbrev pub pivot : ℕ → ℕ → (ℕ → Vec) → ℕ → Vec
pivot l e R = λ j. pivoted l e R (R j)

pub eqn-zero : (n : ℕ) (R : ℕ → Vec) (l : ℕ) (σ : Vec) → l < n → Solves n R σ → dot n (eqn R l) σ ≡ 0ℤ
eqn-zero n R l σ h s =
    dot-plus n (R l) (negsuc 0) (δ l) σ ∙ ap (λ z. dot n (R l) σ +ℤ negsuc 0 *ℤ z) (dot-δ n l σ h ∙ s l h)
    ∙ ring (dot n (R l) σ ∷ []) (v 0 ⊞ k (negsuc 0) ⊠ v 0) (k 0ℤ) tt

pub pivot-solves : (n : ℕ) (R : ℕ → Vec) (l e : ℕ) (σ : Vec)
    → l < n → e < n → ((i : ℕ) → R e i ≡ δ e i) → R l e *ℤ R l e ≡ 1ℤ
    → Solves n (pivot l e R) σ ↔ Solves n R σ
pivot-solves n R l e σ hl he unit one =
    let b = out-solves n R e (R l e) (eqn R l) σ he unit one in
    ((λ s. (b.0 s).0), (λ s. b.1 (s, eqn-zero n R l σ hl s)))

-- an objective keeps its value on every solution
pub pivot-objective : (n : ℕ) (R : ℕ → Vec) (l e : ℕ) (o σ : Vec) → l < n → Solves n R σ → dot n (pivoted l e R o) σ ≡ dot n o σ
pivot-objective n R l e o σ hl s = out-dot n e (R l e) (eqn R l) o σ (eqn-zero n R l σ hl s)
