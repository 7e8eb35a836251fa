-- Optimality, and where no assignment will do. An assignment by fractions x_j = σ_j / σ_0 has a denominator σ_0 above 0. Assumes nothing.
use Rattle.std.specs.Prelude.{◌≡◌, refl, ◌⊎◌, ◌≢◌, [], ◌∷◌, ℕ, ◌<◌, neg_ℤ, ◌+ℤ◌, ◌*ℤ◌}
use Rattle.std.proofs.Common.{sym, ap, ◌∙◌, subst, inl, inr, arith}
use Rattle.laws.specs.Z.{◌≼◌, ◌≺◌, at, ◌⊕◌, ◌⊗◌, ⊖◌, le_z↑, le_n}
use Rattle.laws.specs.Ring.{ring, v, k, ◌⊞◌, ◌⊠◌, ⊟◌}
use Rattle.simplex.specs.Ord.{0ℤ, 1ℤ, ≼-of-eq, ≼_trans, mul-nonneg, mul-pos, clash}
use Rattle.simplex.specs.Lin.{Vec, δ, Same?, same, other, same?, dot, plus, dot-plus, dot-δ, dot-nonneg}
use Rattle.simplex.specs.Tab.{Solves}

-- column 0; a variable, of any sign; a slack or an error, never below 0; a dummy, always 0
pub data Kind : Type 0 where
  const external slack dummy : Kind

IsSlack : Kind → Type 0
IsSlack const = ⊥
IsSlack external = ⊥
IsSlack slack = Unit
IsSlack dummy = ⊥

pub slack≢external : slack ≢ external
unfolding IsSlack
slack≢external p = subst IsSlack p tt

pub slack≢const : slack ≢ const
unfolding IsSlack
slack≢const p = subst IsSlack p tt

pub dummy≢slack : dummy ≢ slack
unfolding IsSlack
dummy≢slack p = subst IsSlack (sym p) tt

IsExternal : Kind → Type 0
IsExternal const = ⊥
IsExternal external = Unit
IsExternal slack = ⊥
IsExternal dummy = ⊥

pub external? : (t : Kind) → (t ≡ external) ⊎ (t ≢ external)
unfolding IsExternal
external? const = inr (λ p. subst IsExternal (sym p) tt)
external? external = inl refl
external? slack = inr (λ p. subst IsExternal (sym p) tt)
external? dummy = inr (λ p. subst IsExternal (sym p) tt)

pub slack≢dummy : slack ≢ dummy
slack≢dummy p = dummy≢slack (sym p)

pub record Feasible (n : ℕ) (kind : ℕ → Kind) (σ : Vec) : Type 0 where
  pub slacks : (j : ℕ) → j < n → kind j ≡ slack → 0ℤ ≼ σ j
  pub dummies : (j : ℕ) → j < n → kind j ≡ dummy → σ j ≡ 0ℤ

-- an objective at its optimum: no variable in it, no slack or error that would lower it
pub record Lowest (n : ℕ) (kind : ℕ → Kind) (o : Vec) : Type 0 where
  pub consts : (j : ℕ) → kind j ≡ const → j ≡ 0
  pub externals : (j : ℕ) → j < n → kind j ≡ external → o j ≡ 0ℤ
  pub slacks : (j : ℕ) → j < n → kind j ≡ slack → 0ℤ ≼ o j

module _ (n : ℕ) (kind : ℕ → Kind) (o σ : Vec) (in-n : 0 < n) (L : Lowest n kind o) (F : Feasible n kind σ) where
  term : (j : ℕ) → j < n → 0ℤ ≼ plus o (neg_ℤ (o 0)) (δ 0) j *ℤ σ j
  term j h = go (kind j) refl (same? 0 j)
    where
      go : (t : Kind) → kind j ≡ t → Same? 0 j → 0ℤ ≼ (o j +ℤ neg_ℤ (o 0) *ℤ δ 0 j) *ℤ σ j
      go t p (same q e) =
          ≼-of-eq (sym (ap (λ z. (o j +ℤ neg_ℤ (o 0) *ℤ z) *ℤ σ j) e ∙ ap (λ z. (z +ℤ neg_ℤ (o 0) *ℤ 1ℤ) *ℤ σ j) (ap o (sym q))
          ∙ ring (o 0 ∷ σ j ∷ []) ((v 0 ⊞ (⊟ v 0) ⊠ k 1ℤ) ⊠ v 1) (k 0ℤ) tt))
      go const p (other q e) = absurd (q (sym (L.consts j p)))
      go external p (other q e) =
          ≼-of-eq (sym (ap (λ z. (o j +ℤ neg_ℤ (o 0) *ℤ z) *ℤ σ j) e ∙ ap (λ z. (z +ℤ neg_ℤ (o 0) *ℤ 0ℤ) *ℤ σ j) (L.externals j h p)
          ∙ ring (o 0 ∷ σ j ∷ []) ((k 0ℤ ⊞ (⊟ v 0) ⊠ k 0ℤ) ⊠ v 1) (k 0ℤ) tt))
      go slack p (other q e) =
          ≼_trans (mul-nonneg (L.slacks j h p) (F.slacks j h p))
          (≼-of-eq (sym (ap (λ z. (o j +ℤ neg_ℤ (o 0) *ℤ z) *ℤ σ j) e ∙ ring (o 0 ∷ o j ∷ σ j ∷ []) ((v 1 ⊞ (⊟ v 0) ⊠ k 0ℤ) ⊠ v 2) (v 1 ⊠ v 2) tt)))
      go dummy p (other q e) =
          ≼-of-eq (sym (ap (λ z. (o j +ℤ neg_ℤ (o 0) *ℤ δ 0 j) *ℤ z) (F.dummies j h p) ∙ ring ((o j +ℤ neg_ℤ (o 0) *ℤ δ 0 j) ∷ []) (v 0 ⊠ k 0ℤ) (k 0ℤ) tt))

  -- no feasible assignment is below the constant
  pub at_least : o 0 *ℤ σ 0 ≼ dot n o σ
  at_least =
      let d : 0ℤ ≼ dot n o σ +ℤ neg_ℤ (o 0) *ℤ σ 0 = ≼_trans (dot-nonneg n (plus o (neg_ℤ (o 0)) (δ 0)) σ term)
      (≼-of-eq (dot-plus n o (neg_ℤ (o 0)) (δ 0) σ ∙ ap (λ z. dot n o σ +ℤ neg_ℤ (o 0) *ℤ z) (dot-δ n 0 σ in-n))) in
      le_z↑ (at (o 0) ⊗ at (σ 0)) (at (dot n o σ)) (omega (arith, le_n (at 0ℤ) (at (dot n o σ) ⊕ (⊖ at (o 0)) ⊗ at (σ 0)) d))

-- NOTHING MEETS THE CONSTRAINT. a is the artificial objective, whose value on every solution is that of the temporary slack t: at its lowest and above 0, no feasible assignment has t at 0
pub no-feasible : (n : ℕ) (kind : ℕ → Kind) (R : ℕ → Vec) (a : Vec) (t : ℕ) → 0 < n → Lowest n kind a → 0ℤ ≺ a 0
    → ((τ : Vec) → Solves n R τ → dot n a τ ≡ τ t)
    → (σ : Vec) → Solves n R σ → Feasible n kind σ → 0ℤ ≺ σ 0 → σ t ≢ 0ℤ
no-feasible n kind R a t in-n L up agree σ s F d z = clash (mul-pos up d) (≼_trans (at_least n kind a σ in-n L F) (≼-of-eq (agree σ s ∙ z)))
