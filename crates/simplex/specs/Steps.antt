-- The other steps: the temporary slack of an add without a subject, and what keeps constants and costs at 0 or above in an add, a removal and a drag. Assumes nothing.
use Rattle.std.specs.Prelude.{◌≡◌, refl, ◌⊎◌, ◌≢◌, ◌↔◌, List, [], ◌∷◌, ℕ, zero, suc, ◌<◌, true, false, ℤ, negsuc, neg_ℤ, ◌+ℤ◌, ◌-ℤ◌, ◌*ℤ◌}
use Rattle.std.proofs.Common.{sym, ap, ap₂, ◌∙◌, subst, inl, inr, true≢false}
use Rattle.laws.specs.Z.{◌≼◌, ◌≺◌}
use Rattle.laws.specs.Ring.{ring, v, k, ◌⊞◌, ◌⊠◌, ⊟◌, ◌⊟⊟◌}
use Rattle.simplex.specs.Ord.{0ℤ, 1ℤ, ≼-of-eq, ≼_trans, ≺-or-≼, mul-nonneg, add-nonneg, sub-nonneg, neg-nonneg}
use Rattle.simplex.specs.Lin.{Vec, δ, δ-other, dot, dot-cong, dot-δ}
use Rattle.simplex.specs.At.{at, At, here, there, at?, at_here, at_there}
use Rattle.simplex.specs.Tab.{Solves, pivoted}
use Rattle.simplex.specs.Basis.{Mask, Shape, Clear}
use Rattle.simplex.specs.Choose.{All}
use Rattle.simplex.specs.Opt.{Kind, dummy}
use Rattle.simplex.specs.Problem.{Con, Equation, Models}
use Rattle.simplex.specs.Run.{left, unsign, Foreign, models-kill}
use Rattle.simplex.specs.Change.{killed}

-- ---- Add's step 6: the temporary slack t, new, is basic with the row r
module _ (n : ℕ) (B : Mask) (R : ℕ → Vec) (S : Shape n B R) (t : ℕ) (r : Vec) (free : B t ≡ false) (in-n : t < n) (t≢0 : t ≢ 0) (dead : (j : ℕ) → j ≢ t → R j t ≡ 0ℤ) (clear : Clear B r) (new : r t ≡ 0ℤ) where
  pub temp-solves : (σ : Vec) → Solves n (at t r R) σ ↔ (Solves n R σ × (σ t ≡ dot n r σ))
  temp-solves σ = (λ s. ((λ j h. old s j h (at? t r R j)), s t in-n ∙ ap (λ (w : Vec). dot n w σ) (at_here t r R)), λ s j h. now s j h (at? t r R j))
    where
      old : Solves n (at t r R) σ → (j : ℕ) → j < n → At t r R j → σ j ≡ dot n (R j) σ
      old s j h (here p e) =
          ap σ p ∙ sym (dot-δ n t σ in-n) ∙ sym (dot-cong n (R t) σ (δ t) σ (λ i _. ap (λ z. z *ℤ σ i) (S.unit t free i))) ∙ ap (λ (z : ℕ). dot n (R z) σ) (sym p)
      old s j h (there p e) = s j h ∙ ap (λ (w : Vec). dot n w σ) e

      now : Solves n R σ × (σ t ≡ dot n r σ) → (j : ℕ) → j < n → At t r R j → σ j ≡ dot n (at t r R j) σ
      now s j h (here p e) = ap σ p ∙ s.1 ∙ ap (λ (w : Vec). dot n w σ) (sym e)
      now s j h (there p e) = s.0 j h ∙ ap (λ (w : Vec). dot n w σ) (sym e)

  pub temp-shape : Shape n (at t true B) (at t r R)
  temp-shape = record {
    below = λ b u. elim (at? t true B b) [ here p e ↦ subst (λ (z : ℕ). z < n) (sym p) in-n | there p e ↦ S.below b (sym e ∙ u) ];
    const = elim (at? t true B 0) [ here p e ↦ absurd (t≢0 (sym p)) | there p e ↦ e ∙ S.const ];
    unit = λ j u i. unit j u i (at? t true B j);
    gone = λ b u j. gone b u j (at? t true B b) (at? t r R j);
  }
    where
      unit : (j : ℕ) → at t true B j ≡ false → (i : ℕ) → At t true B j → at t r R j i ≡ δ j i
      unit j u i (here p e) = absurd (true≢false (sym e ∙ u))
      unit j u i (there p e) = ap (λ (w : Vec). w i) (at_there t r R j p) ∙ S.unit j (sym e ∙ u) i

      gone : (b : ℕ) → at t true B b ≡ true → (j : ℕ) → At t true B b → At t r R j → at t r R j b ≡ 0ℤ
      gone b u j (here p e) (here q f) = ap (λ (w : Vec). w b) f ∙ ap r p ∙ new
      gone b u j (here p e) (there q f) = ap (λ (w : Vec). w b) f ∙ ap (R j) p ∙ dead j q
      gone b u j (there p e) (here q f) = ap (λ (w : Vec). w b) f ∙ clear b (sym e ∙ u)
      gone b u j (there p e) (there q f) = ap (λ (w : Vec). w b) f ∙ S.gone b (sym e ∙ u) j

-- its pass done, t not basic any more: without t the tableau models one constraint more
pub models-temp : (n : ℕ) (kind : ℕ → Kind) (B : Mask) (R : ℕ → Vec) (o : Vec) (cs : List Con) (c : Con) (t : ℕ) (r : Vec) (g : ℤ) (R' : ℕ → Vec)
    → Models n kind B R o cs → t < n → g *ℤ g ≡ 1ℤ → ((σ : Vec) → Solves n R σ → dot n r σ ≡ g *ℤ left n σ c)
    → ((σ : Vec) → Solves n R' σ ↔ (Solves n R σ × (σ t ≡ dot n r σ))) → ((i : ℕ) → R' t i ≡ δ t i) → All (Foreign t) (c ∷ cs)
    → (σ : Vec) → Solves n (killed t R') σ ↔ All (Equation n σ) (c ∷ cs)
models-temp n kind B R o cs c t r g R' D in-n gg row pass own F = models-kill n R' (c ∷ cs) t in-n own F near
  where
    near : (σ : Vec) → σ t ≡ 0ℤ → Solves n R' σ ↔ All (Equation n σ) (c ∷ cs)
    near σ z = (
      (λ s. let q = (pass σ).0 s in (unsign g (left n σ c) gg (sym (row σ q.0) ∙ sym q.1 ∙ z), (D.solves σ).0 q.0)),
      (λ E. let s = (D.solves σ).1 E.1 in (pass σ).1 (s, z ∙ sym (row σ s ∙ ap (λ y. g *ℤ y) E.0 ∙ ring (g ∷ []) (v 0 ⊠ k 0ℤ) (k 0ℤ) tt))),
    )

pub dot-nil : (n : ℕ) (d : Vec) → dot n (λ _. 0ℤ) d ≡ 0ℤ
unfolding dot
dot-nil zero d = refl
dot-nil (suc m) d = ap₂ ◌+ℤ◌ (dot-nil m d) (ring (d m ∷ []) (k 0ℤ ⊠ v 0) (k 0ℤ) tt)

-- while t is basic at 0 its row holds a slack or an error: some solution in which every dummy and the constant are 0 moves it. So step 6 never refuses for want of one
pub temp-row : (n : ℕ) (kind : ℕ → Kind) (R R' : ℕ → Vec) (t : ℕ) (d : Vec) → t < n
    → ((σ : Vec) → Solves n R σ → Solves n R' σ) → Solves n R d → ((j : ℕ) → kind j ≡ dummy → d j ≡ 0ℤ) → d t ≢ 0ℤ
    → ((j : ℕ) → j < n → (kind j ≡ dummy) ⊎ (R' t j ≡ 0ℤ)) → ⊥
temp-row n kind R R' t d in-n pass s still moves only = moves (pass d s t in-n ∙ dot-cong n (R' t) d (λ _. 0ℤ) d (λ j h. go j (only j h)) ∙ dot-nil n d)
  where
    go : (j : ℕ) → (kind j ≡ dummy) ⊎ (R' t j ≡ 0ℤ) → R' t j *ℤ d j ≡ 0ℤ *ℤ d j
    go j (inl e) = ap (λ z. R' t j *ℤ z) (still j e) ∙ ring (R' t j ∷ []) (v 0 ⊠ k 0ℤ) (k 0ℤ ⊠ k 0ℤ) tt ∙ ap (λ z. 0ℤ *ℤ z) (sym (still j e))
    go j (inr e) = ap (λ z. z *ℤ d j) e

-- ---- a cell after a pivot, for any c that is 1 or -1
pub pivot-cell : (R : ℕ → Vec) (l e : ℕ) (w : Vec) (i : ℕ) → l ≢ i → pivoted l e R w i ≡ w i -ℤ w e *ℤ R l e *ℤ R l i
pivot-cell R l e w i h =
    ap (λ z. w i +ℤ neg_ℤ (w e *ℤ R l e) *ℤ (R l i +ℤ negsuc 0 *ℤ z)) (δ-other h)
    ∙ ring (w i ∷ w e ∷ R l e ∷ R l i ∷ []) (v 0 ⊞ (⊟ (v 1 ⊠ v 2)) ⊠ (v 3 ⊞ k (negsuc 0) ⊠ k 0ℤ)) (v 0 ⊟⊟ v 1 ⊠ v 2 ⊠ v 3) tt

-- a pivot on 1 with the smallest ratio y / a among the cells above 0, and no cell below 0, keeps what is at 0 or above there
pub ratio-up : (x y a : ℤ) → 0ℤ ≼ y → 0ℤ ≼ x → (0ℤ ≺ a → x *ℤ a ≼ y *ℤ 1ℤ) → (a ≺ 0ℤ) ⊎ (0ℤ ≼ a) → (a ≺ 0ℤ → ⊥) → 0ℤ ≼ y -ℤ a *ℤ 1ℤ *ℤ x
ratio-up x y a hy hx least (inl n) none = absurd (none n)
ratio-up x y a hy hx least (inr p) none = go (≺-or-≼ 0ℤ a)
  where
    go : (0ℤ ≺ a) ⊎ (a ≼ 0ℤ) → 0ℤ ≼ y -ℤ a *ℤ 1ℤ *ℤ x
    go (inl q) = ≼_trans (sub-nonneg (least q)) (≼-of-eq (ring (x ∷ y ∷ a ∷ []) (v 1 ⊠ k 1ℤ ⊞ ⊟ (v 0 ⊠ v 2)) (v 1 ⊟⊟ v 2 ⊠ k 1ℤ ⊠ v 0) tt))
    go (inr q) = ≼_trans (add-nonneg hy (mul-nonneg (neg-nonneg q) hx)) (≼-of-eq (ring (x ∷ y ∷ a ∷ []) (v 1 ⊞ (⊟ v 2) ⊠ v 0) (v 1 ⊟⊟ v 2 ⊠ k 1ℤ ⊠ v 0) tt))

-- a drag: the dual pivot on 1 keeps the objective's cells at 0 or above, where the entering cell has the smallest ratio o_e / 1 among the row's cells above 0
pub dual-keeps : (R : ℕ → Vec) (o : Vec) (l e i : ℕ) → l ≢ i → R l e ≡ 1ℤ → 0ℤ ≼ o e → 0ℤ ≼ o i → (0ℤ ≺ R l i → o e *ℤ R l i ≼ o i *ℤ R l e) → 0ℤ ≼ pivoted l e R o i
dual-keeps R o l e i h one he hi least = ≼_trans (go (≺-or-≼ 0ℤ (R l i))) (≼-of-eq (sym (pivot-cell R l e o i h ∙ ap (λ z. o i -ℤ o e *ℤ z *ℤ R l i) one)))
  where
    go : (0ℤ ≺ R l i) ⊎ (R l i ≼ 0ℤ) → 0ℤ ≼ o i -ℤ o e *ℤ 1ℤ *ℤ R l i
    go (inl q) =
        ≼_trans (sub-nonneg (least q)) (≼-of-eq (ap (λ z. o i *ℤ z +ℤ neg_ℤ (o e *ℤ R l i)) one ∙ ring (o i ∷ o e ∷ R l i ∷ []) (v 0 ⊠ k 1ℤ ⊞ ⊟ (v 1 ⊠ v 2)) (v 0 ⊟⊟ v 1 ⊠ k 1ℤ ⊠ v 2) tt))
    go (inr q) = ≼_trans (add-nonneg hi (mul-nonneg he (neg-nonneg q))) (≼-of-eq (ring (o i ∷ o e ∷ R l i ∷ []) (v 0 ⊞ v 1 ⊠ (⊟ v 2)) (v 0 ⊟⊟ v 1 ⊠ k 1ℤ ⊠ v 2) tt))
