-- Refusals 15 and 16 in a whole run: an optimise pass always finds a leaving row, and a dual pass that finds no entering symbol shows that nothing is feasible. Assumes nothing.
use Rattle.std.specs.Prelude.{◌≡◌, refl, List, [], ◌∷◌, ℕ, ◌<◌, Bool, true, false, ℤ, negsuc, neg_ℤ, ◌+ℤ◌, ◌*ℤ◌}
use Rattle.std.proofs.Common.{sym, ap, ap₂, ◌∙◌, subst}
use Rattle.laws.specs.Z.{◌≼◌, ◌≺◌}
use Rattle.laws.specs.Ring.{ring, v, k, ◌⊞◌, ◌⊠◌, ⊟◌}
use Rattle.simplex.specs.Ord.{0ℤ, ≼_refl, ≼-of-eq, ≼_trans, mul-nonneg, mul-pos, add-nonneg, neg-nonneg, neg-nonpos, neg-pos, clash}
use Rattle.simplex.specs.Lin.{Vec, δ, Same?, same, other, same?, dot, plus, dot-plus}
use Rattle.simplex.specs.Tab.{Solves}
use Rattle.simplex.specs.Basis.{Mask, Shape, Clear, at-column, column-solves}
use Rattle.simplex.specs.Opt.{Kind, const, external, slack, dummy, Feasible, Lowest, at_least}
use Rattle.simplex.specs.Choose.{All}
use Rattle.simplex.specs.Form.{Form, le!, eq!, ge!, le, eq, ge, soft, cost}
use Rattle.simplex.specs.Problem.{Con, Meets, total, Sounds, Models, marker-nonneg, full, full-equations, full-feasible, full-plain, const-plain}
use Rattle.simplex.specs.Steps.{dot-nil}

-- ---- 15: an objective that is never below 0 on feasible solutions, directions among them, leaves a row for every entering column
pub always-leaving : (n : ℕ) (kind : ℕ → Kind) (B : Mask) (R : ℕ → Vec) (o : Vec) (e : ℕ) → Shape n B R → Clear B o → B e ≡ false → e < n
    → ((σ : Vec) → Solves n R σ → Feasible n kind σ → 0ℤ ≼ dot n o σ)
    → ((j : ℕ) → kind j ≡ dummy → R j e ≡ 0ℤ) → o e ≺ 0ℤ
    → ((j : ℕ) → B j ≡ true → kind j ≡ slack → 0ℤ ≼ R j e) → ⊥
always-leaving n kind B R o e S c free in-n bounded dummies below up =
    clash below (≼_trans (bounded (λ j. R j e) (column-solves n B R S e free in-n) feasible) (≼-of-eq (at-column n B R S e free in-n o c)))
  where
    unit-nonneg : (j : ℕ) → Same? j e → 0ℤ ≼ δ j e
    unit-nonneg j (same p q) = ≼_trans (record { le = tt }) (≼-of-eq (sym q))
    unit-nonneg j (other p q) = ≼-of-eq (sym q)

    by : (j : ℕ) → kind j ≡ slack → (b : Bool) → B j ≡ b → 0ℤ ≼ R j e
    by j s true r = up j r s
    by j s false r = ≼_trans (unit-nonneg j (same? j e)) (≼-of-eq (sym (S.unit j r e)))

    feasible : Feasible n kind (λ j. R j e)
    feasible = record { slacks = λ j _ s. by j s (B j) refl; dummies = λ j _ d. dummies j d }

cost-nonneg : (f : Form) (s t : ℤ) → 0ℤ ≼ s → (soft f ≡ true → 0ℤ ≼ t) → 0ℤ ≼ cost f s t
cost-nonneg le! s t hs ht = ≼_refl 0ℤ
cost-nonneg eq! s t hs ht = ≼_refl 0ℤ
cost-nonneg ge! s t hs ht = ≼_refl 0ℤ
cost-nonneg le s t hs ht = ht refl
cost-nonneg eq s t hs ht = add-nonneg hs (ht refl)
cost-nonneg ge s t hs ht = ht refl

pub total-nonneg : (n : ℕ) (kind : ℕ → Kind) (σ : Vec) → Feasible n kind σ → (cs : List Con) → Sounds n kind cs → 0ℤ ≼ total cs σ
total-nonneg n kind σ F [] S = ≼_refl 0ℤ
total-nonneg n kind σ F (c ∷ cs) S =
    add-nonneg (mul-nonneg S.0.weighs (cost-nonneg c.form (σ c.marker) (σ c.other) (marker-nonneg n kind σ F c S.0) (λ b. F.slacks c.other (S.0.other-in b) (S.0.other-kind b))))
    (total-nonneg n kind σ F cs S.2)

-- the objective of the constraints is such; so is the artificial one, whose value is a slack's
pub never-15 : (n : ℕ) (kind : ℕ → Kind) (B : Mask) (R : ℕ → Vec) (o : Vec) (cs : List Con) (e : ℕ) → Models n kind B R o cs → B e ≡ false → e < n
    → ((j : ℕ) → kind j ≡ dummy → R j e ≡ 0ℤ) → o e ≺ 0ℤ → ((j : ℕ) → B j ≡ true → kind j ≡ slack → 0ℤ ≼ R j e) → ⊥
never-15 n kind B R o cs e D free in-n =
    always-leaving n kind B R o e D.shape D.clear free in-n (λ σ s F. ≼_trans (total-nonneg n kind σ F cs D.sounds) (≼-of-eq (sym (D.worth σ s))))

-- ---- 16: a row below 0 whose slacks have no cell above 0
pub no-entering : (n : ℕ) (kind : ℕ → Kind) (R : ℕ → Vec) (l : ℕ) (σ : Vec) → 0 < n → l < n → kind l ≡ slack → ((j : ℕ) → kind j ≡ const → j ≡ 0)
    → R l 0 ≺ 0ℤ → ((i : ℕ) → kind i ≡ external → R l i ≡ 0ℤ) → ((i : ℕ) → kind i ≡ slack → R l i ≼ 0ℤ)
    → Solves n R σ → Feasible n kind σ → 0ℤ ≺ σ 0 → ⊥
no-entering n kind R l σ in-n hl sl consts low no-vars none s F d =
    clash (mul-pos (subst (λ z. 0ℤ ≺ z) (flipped 0) (neg-pos low)) d) (≼_trans (at_least n kind (plus (λ _. 0ℤ) (negsuc 0) (R l)) σ in-n L F) (≼_trans (≼-of-eq value) below))
  where
    flipped : (i : ℕ) → neg_ℤ (R l i) ≡ plus (λ _. 0ℤ) (negsuc 0) (R l) i
    flipped i = ring (R l i ∷ []) (⊟ v 0) (k 0ℤ ⊞ k (negsuc 0) ⊠ v 0) tt

    L : Lowest n kind (plus (λ _. 0ℤ) (negsuc 0) (R l))
    L = record { consts = consts; externals = λ i _ e. sym (flipped i) ∙ ap neg_ℤ (no-vars i e); slacks = λ i _ e. ≼_trans (neg-nonneg (none i e)) (≼-of-eq (flipped i)) }

    value : dot n (plus (λ _. 0ℤ) (negsuc 0) (R l)) σ ≡ neg_ℤ (σ l)
    value = dot-plus n (λ _. 0ℤ) (negsuc 0) (R l) σ ∙ ap₂ (λ (a b : ℤ). a +ℤ negsuc 0 *ℤ b) (dot-nil n σ) (sym (s l hl)) ∙ ring (σ l ∷ []) (k 0ℤ ⊞ k (negsuc 0) ⊠ v 0) (⊟ v 0) tt

    below : neg_ℤ (σ l) ≼ 0ℤ
    below = neg-nonpos (F.slacks l hl sl)

-- a drag changes no required constraint, so some assignment x, such as the last one, meets them: 16 is never given
pub never-16 : (n : ℕ) (kind : ℕ → Kind) (B : Mask) (R : ℕ → Vec) (o : Vec) (cs : List Con) (l : ℕ) (x : Vec) → 0 < n → kind 0 ≡ const → ((j : ℕ) → kind j ≡ const → j ≡ 0)
    → Models n kind B R o cs → B l ≡ true → kind l ≡ slack
    → R l 0 ≺ 0ℤ → ((i : ℕ) → kind i ≡ external → R l i ≡ 0ℤ) → ((i : ℕ) → kind i ≡ slack → R l i ≼ 0ℤ)
    → 0ℤ ≺ x 0 → All (Meets n x) cs → ⊥
never-16 n kind B R o cs l x in-n k0 consts D basic sl low no-vars none d M =
    no-entering n kind R l (full n kind x cs) in-n (D.shape.below l basic) sl consts low no-vars none
    ((D.solves (full n kind x cs)).1 (full-equations n kind x cs D.sounds M)) (full-feasible n kind x cs D.sounds M)
    (subst (λ z. 0ℤ ≺ z) (sym (full-plain n kind x cs D.sounds 0 (const-plain kind 0 k0))) d)
