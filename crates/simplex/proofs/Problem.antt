-- What a tableau's theorems say of the constraints: its values meet them, with the least weighted error. Assumes nothing.
use Rattle.std.specs.Prelude.{◌≡◌, ℕ, ◌<◌, ◌+ℤ◌}
use Rattle.std.proofs.Math.Path.{refl, ap, ap₂}
use Rattle.std.proofs.Common.{sym, ◌∙◌, arith}
use mathlib.Core.List.{List, [], ◌∷◌}
use Rattle.std.proofs.Math.IntN.{ℤ, ◌*ℤ◌, *ℤ_comm}
use Rattle.laws.specs.Z.{◌≼◌, ◌≺◌, at as num, ◌⊕◌, ⊖◌, le_z↑, le_n}
use Rattle.laws.specs.Ring.{ring, v, ◌⊞◌, ◌⊠◌, ⊟◌, ◌⊟⊟◌}
use Rattle.simplex.specs.Ord.{0ℤ, ≼_refl, ≼-of-eq, ≼_trans, ≺→≼, mul-nonneg, sub-nonneg}
use Rattle.simplex.specs.Lin.{Vec, dot}
use Rattle.simplex.specs.Basis.{Mask, at-column, basic-solves}
use Rattle.simplex.specs.Opt.{Kind, const, Feasible, Lowest, at_least}
use Rattle.simplex.specs.Choose.{All, all-zip}
use Rattle.simplex.specs.Form.{cost, fit-s, fit-t, fit-cost, viol-least, holds, add-mono}
use Rattle.simplex.specs.Problem.{Con, Meets, error, Equation, total, marker_kind, Sound, Sounds, const-plain, sounds-all, cost-other, full, full-plain, full-feasible, full-fits, full-equations, Models}
use Rattle.simplex.specs.Problem as specs

module _ (n : ℕ) (kind : ℕ → Kind) (x : Vec) where
  abbrev val : Con → ℤ
  val = specs.val n kind x

  abbrev Fits : Vec → Con → Type 0
  Fits = specs.Fits n kind x

  fits-total : (τ : Vec) (cs : List Con) → All (Fits τ) cs → total cs τ ≡ error n cs x
  unfolding specs.Fits specs.val
  fits-total τ [] F = refl
  fits-total τ (c ∷ cs) F =
      ap₂ (λ (a b : ℤ). c.weight *ℤ a +ℤ b)
      (ap (λ s. cost c.form s (τ c.other)) F.0.0 ∙ cost-other c.form (fit-s c.form (val c)) (τ c.other) (fit-t c.form (val c)) F.0.1 ∙ fit-cost c.form (val c))
      (fits-total τ cs F.1)

-- ---- a feasible solution meets the required constraints, and pays at least the error
mul_mono : {w a b : ℤ} → 0ℤ ≼ w → a ≼ b → w *ℤ a ≼ w *ℤ b
mul_mono {w} {a} {b} hw h =
    le_z↑ (num (w *ℤ a)) (num (w *ℤ b)) (omega (arith, le_n (num 0ℤ) (num (w *ℤ b) ⊕ (⊖ num (w *ℤ a))) (≼_trans (mul-nonneg hw (sub-nonneg h)) (≼-of-eq (ring (w ∷ a ∷ b ∷ []) (v 0 ⊠ (v 2 ⊞ ⊟ v 1)) (v 0 ⊠ v 2 ⊟⊟ v 0 ⊠ v 1) tt)))))

mul-mono-r : {w a b : ℤ} → 0ℤ ≼ w → a ≼ b → a *ℤ w ≼ b *ℤ w
mul-mono-r {w} {a} {b} hw h = ≼_trans (≼-of-eq (*ℤ_comm a w)) (≼_trans (mul_mono hw h) (≼-of-eq (*ℤ_comm w b)))

module _ (n : ℕ) (kind : ℕ → Kind) (σ : Vec) (F : Feasible n kind σ) where
  abbrev marker-nonneg : (c : Con) → Sound n kind c → 0ℤ ≼ σ c.marker
  marker-nonneg = specs.marker-nonneg n kind σ F

  one-met : (c : Con) → Sound n kind c → Equation n σ c → Meets n σ c
  one-met c S E = holds c.form (dot n c.expr σ) (σ c.marker) (σ c.other) (marker-nonneg c S) (λ e. F.dummies c.marker S.marker-in (S.marker-kind ∙ ap marker_kind e)) E

  pub met : (cs : List Con) → Sounds n kind cs → All (Equation n σ) cs → All (Meets n σ) cs
  met cs S E = all-zip {P = Sound n kind} one-met cs (sounds-all n kind cs S) E

  pub error-total : (cs : List Con) → Sounds n kind cs → All (Equation n σ) cs → error n cs σ ≼ total cs σ
  error-total [] S E = ≼_refl 0ℤ
  error-total (c ∷ cs) S E =
      add-mono (mul_mono S.0.weighs (viol-least c.form (dot n c.expr σ) (σ c.marker) (σ c.other) (marker-nonneg c S.0) (λ b. F.slacks c.other (S.0.other-in b) (S.0.other-kind b)) E.0))
      (error-total cs S.2 E.1)

-- ---- THE TWO THEOREMS OF DEMAND 2: the least error, and in specs/Problem.antt refusal 12
module _ (n : ℕ) (kind : ℕ → Kind) (B : Mask) (R : ℕ → Vec) (o : Vec) (cs : List Con) (in-n : 0 < n) (zero : kind 0 ≡ const) (D : Models n kind B R o cs) (F : Feasible n kind (λ j. R j 0)) where
  β : Vec
  β = λ j. R j 0

  β-equations : All (Equation n β) cs
  unfolding β
  β-equations = (D.solves (λ j. R j 0)).0 (basic-solves n B R D.shape in-n)

  -- the basic solution meets every required constraint
  pub values-meet : All (Meets n (λ j. R j 0)) cs
  unfolding β
  values-meet = met n kind (λ j. R j 0) F cs D.sounds β-equations

  -- no assignment by fractions that meets them has less weighted error
  pub least-error : Lowest n kind o → (x : Vec) → 0ℤ ≺ x 0 → All (Meets n x) cs → error n cs (λ j. R j 0) *ℤ x 0 ≼ error n cs x
  unfolding β
  least-error L x d M =
      let τ = full n kind x cs in
      let S = (D.solves τ).1 (full-equations n kind x cs D.sounds M) in
      ≼_trans (mul-mono-r (≺→≼ d) (error-total n kind (λ j. R j 0) F cs D.sounds β-equations))
      (≼_trans (≼-of-eq (ap₂ ◌*ℤ◌ (sym (D.worth (λ j. R j 0) (basic-solves n B R D.shape in-n)) ∙ at-column n B R D.shape 0 D.shape.const in-n o D.clear) (sym (full-plain n kind x cs D.sounds 0 (const-plain kind 0 zero)))))
      (≼_trans (at_least n kind o τ in-n L (full-feasible n kind x cs D.sounds M))
      (≼-of-eq (D.worth τ S ∙ fits-total n kind x τ cs (full-fits n kind x cs D.sounds)))))
