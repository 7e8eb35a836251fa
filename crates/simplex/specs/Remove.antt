-- A removal leaves a good state: the marker's row is dropped, after a pivot where the marker is not basic, whichever rank gave the leaving row. Assumes nothing.
use Rattle.std.specs.Prelude.{◌≡◌, refl, ◌⊎◌, ◌≢◌, List, [], ◌∷◌, ℕ, ◌<◌, true, false, ℤ, negsuc, neg_ℤ, ◌+ℤ◌, ◌-ℤ◌, ◌*ℤ◌}
use Rattle.std.proofs.Common.{sym, ap, ap₂, ◌∙◌, subst, inl, inr, true≢false}
use Rattle.laws.specs.Z.{◌≼◌, ◌≺◌}
use Rattle.laws.specs.Ring.{ring, v, k, ◌⊞◌, ◌⊠◌, ⊟◌, ◌⊟⊟◌}
use Rattle.simplex.specs.Ord.{0ℤ, 1ℤ, ≼-of-eq, ≼_trans, ≺-or-≼, mul-nonneg, add-nonneg, ratio}
use Rattle.simplex.specs.Lin.{Vec, δ, δ-other, dot}
use Rattle.simplex.specs.At.{at, At, here, there, at?}
use Rattle.simplex.specs.Tab.{eqn, pivoted, pivot, Solves}
use Rattle.simplex.specs.Basis.{Shape, Clear, swap, Swapped, enters, leaves, stays, swapped, apart, pivot-clear, pivot-shape, Mask, at-column, column-solves}
use Rattle.simplex.specs.Opt.{Kind, external, slack, dummy, slack≢dummy}
use Rattle.simplex.specs.Choose.{All}
use Rattle.simplex.specs.Form.{Form, le!, eq!, ge!, le, eq, ge, soft, cost}
use Rattle.simplex.specs.Problem.{Con, total}
use Rattle.simplex.specs.Change.{dropped, drop-shape}
use Rattle.simplex.specs.Pass.{State, Good}
use Rattle.simplex.specs.Steps.{pivot-cell, ratio-up}

-- what a restricted row is after a row was dropped: its unit row at p, else as it was
by_row : (Q : ℕ → Vec → Type 0) (p : ℕ) (R : ℕ → Vec) → Q p (δ p) → ((j : ℕ) → j ≢ p → Q j (R j)) → (j : ℕ) → Q j (dropped p R j)
unfolding dropped
by_row Q p R own old j = go (at? p (δ p) R j)
  where
    go : At p (δ p) R j → Q j (at p (δ p) R j)
    go (here q e) = subst (Q j) (sym e) (subst (λ (i : ℕ). Q i (δ p)) (sym q) own)
    go (there q e) = subst (Q j) (sym e) (old j q)

-- ---- the marker is basic: its row goes
module _ (n : ℕ) (kind : ℕ → Kind) (S : State) (G : Good n kind S) (p : ℕ) (basic : S.B p ≡ true) where
  p≢0 : p ≢ 0
  p≢0 = apart S.B basic G.shape.const

  still-on : (j : ℕ) → at p false S.B j ≡ true → S.B j ≡ true
  still-on j u = go (at? p false S.B j)
    where
      go : At p false S.B j → S.B j ≡ true
      go (here q e) = absurd (true≢false (sym u ∙ e))
      go (there q e) = sym e ∙ u

  pub drop-good : Good n kind (record { B = at p false S.B; R = dropped p S.R; o = S.o })
  drop-good = record {
    zero = G.zero;
    consts = G.consts;
    shape = drop-shape n S.B S.R G.shape p basic;
    clear = λ b u. G.clear b (still-on b u);
    feasible = λ j u s. by_row (λ j w. at p false S.B j ≡ true → kind j ≡ slack → 0ℤ ≼ w 0) p S.R (λ _ _. ≼-of-eq (sym (δ-other p≢0))) (λ j _ u s. G.feasible j (still-on j u) s) j u s;
    no-var = G.no-var;
    no-vars = λ j i ne e. by_row (λ j w. kind j ≢ external → w i ≡ 0ℤ) p S.R (λ ne. δ-other (λ q. ne (ap kind q ∙ e))) (λ j _ ne. G.no-vars j i ne e) j ne;
    dummies = λ j i d s. by_row (λ j w. kind j ≡ dummy → w i ≡ 0ℤ) p S.R (λ d. δ-other (λ q. slack≢dummy (sym s ∙ ap kind (sym q) ∙ d))) (λ j _ d. G.dummies j i d s) j d;
    still-dummies = λ j d. by_row (λ j w. kind j ≡ dummy → w 0 ≡ 0ℤ) p S.R (λ _. δ-other p≢0) (λ j _ d. G.still-dummies j d) j d;
  }

-- ---- it is not: a pivot on row l, and then its row goes
pub record Rank (n : ℕ) (kind : ℕ → Kind) (S : State) (l e : ℕ) : Type 0 where
  pub basic : S.B l ≡ true
  pub free : S.B e ≡ false
  pub in-n : e < n
  pub not-0 : e ≢ 0
  pub one : S.R l e *ℤ S.R l e ≡ 1ℤ
  -- where a variable's row leaves, neither the objective nor a restricted row holds the marker
  pub side : (kind l ≢ external) ⊎ ((S.o e ≡ 0ℤ) × ((j : ℕ) → kind j ≢ external → j ≢ e → S.R j e ≡ 0ℤ))
  -- where a dummy's row holds the marker, such a row leaves
  pub first : (j : ℕ) → kind j ≡ dummy → j ≢ e → (S.R j e ≡ 0ℤ) ⊎ (kind l ≡ dummy)
  pub keeps : (j : ℕ) → S.B j ≡ true → kind j ≡ slack → j ≢ l → 0ℤ ≼ S.R j 0 -ℤ S.R j e *ℤ S.R l e *ℤ S.R l 0

module _ (n : ℕ) (kind : ℕ → Kind) (S : State) (G : Good n kind S) (l e : ℕ) (C : Rank n kind S l e) where
  l≢0 : l ≢ 0
  l≢0 = apart S.B C.basic G.shape.const

  unhurt : (w : Vec) (i : ℕ) → w e ≡ 0ℤ → pivoted l e S.R w i ≡ w i
  unhurt w i h = ap (λ z. w i +ℤ neg_ℤ (z *ℤ S.R l e) *ℤ eqn S.R l i) h ∙ ring (w i ∷ S.R l e ∷ eqn S.R l i ∷ []) (v 0 ⊞ (⊟ (k 0ℤ ⊠ v 1)) ⊠ v 2) (v 0) tt

  -- a cell that is 0 in both rows stays 0
  both-0 : (w : Vec) (i : ℕ) → l ≢ i → w i ≡ 0ℤ → S.R l i ≡ 0ℤ → pivoted l e S.R w i ≡ 0ℤ
  both-0 w i ne a b = pivot-cell S.R l e w i ne ∙ ap₂ (λ (x y : ℤ). x -ℤ w e *ℤ S.R l e *ℤ y) a b ∙ ring (w e ∷ S.R l e ∷ []) (k 0ℤ ⊟⊟ v 0 ⊠ v 1 ⊠ k 0ℤ) (k 0ℤ) tt

  on : (j : ℕ) → at e false (swap l e S.B) j ≡ true → (S.B j ≡ true) × (j ≢ l)
  on j u = go (at? e false (swap l e S.B) j) (swapped l e S.B j)
    where
      go : At e false (swap l e S.B) j → Swapped l e S.B j → (S.B j ≡ true) × (j ≢ l)
      go (here q x) s = absurd (true≢false (sym u ∙ x))
      go (there q x) (enters p t) = absurd (q p)
      go (there q x) (leaves p t) = absurd (true≢false (sym u ∙ x ∙ t))
      go (there q x) (stays p r t) = (sym t ∙ sym x ∙ u, r)

  no-var-out : (i : ℕ) → kind i ≡ external → pivoted l e S.R S.o i ≡ 0ℤ
  no-var-out i x = go C.side
    where
      go : (kind l ≢ external) ⊎ ((S.o e ≡ 0ℤ) × ((j : ℕ) → kind j ≢ external → j ≢ e → S.R j e ≡ 0ℤ)) → pivoted l e S.R S.o i ≡ 0ℤ
      go (inl ne) = both-0 S.o i (λ q. ne (ap kind q ∙ x)) (G.no-var i x) (G.no-vars l i ne x)
      go (inr h) = unhurt S.o i h.0 ∙ G.no-var i x

  no-vars-out : (j i : ℕ) → j ≢ e → kind j ≢ external → kind i ≡ external → pivot l e S.R j i ≡ 0ℤ
  no-vars-out j i je nj x = go C.side
    where
      go : (kind l ≢ external) ⊎ ((S.o e ≡ 0ℤ) × ((j : ℕ) → kind j ≢ external → j ≢ e → S.R j e ≡ 0ℤ)) → pivot l e S.R j i ≡ 0ℤ
      go (inl ne) = both-0 (S.R j) i (λ q. ne (ap kind q ∙ x)) (G.no-vars j i nj x) (G.no-vars l i ne x)
      go (inr h) = unhurt (S.R j) i (h.1 j nj je) ∙ G.no-vars j i nj x

  dummies-out : (j i : ℕ) → j ≢ e → kind j ≡ dummy → kind i ≡ slack → pivot l e S.R j i ≡ 0ℤ
  dummies-out j i je d s = go (C.first j d je)
    where
      go : (S.R j e ≡ 0ℤ) ⊎ (kind l ≡ dummy) → pivot l e S.R j i ≡ 0ℤ
      go (inl z) = unhurt (S.R j) i z ∙ G.dummies j i d s
      go (inr q) = both-0 (S.R j) i (λ x. slack≢dummy (sym s ∙ ap kind (sym x) ∙ q)) (G.dummies j i d s) (G.dummies l i q s)

  still-out : (j : ℕ) → j ≢ e → kind j ≡ dummy → pivot l e S.R j 0 ≡ 0ℤ
  still-out j je d = go (C.first j d je)
    where
      go : (S.R j e ≡ 0ℤ) ⊎ (kind l ≡ dummy) → pivot l e S.R j 0 ≡ 0ℤ
      go (inl z) = unhurt (S.R j) 0 z ∙ G.still-dummies j d
      go (inr q) = both-0 (S.R j) 0 l≢0 (G.still-dummies j d) (G.still-dummies l q)

  e-basic : swap l e S.B e ≡ true
  e-basic = go (swapped l e S.B e)
    where
      go : Swapped l e S.B e → swap l e S.B e ≡ true
      go (enters p t) = t
      go (leaves p t) = absurd (true≢false (sym C.basic ∙ ap S.B (sym p) ∙ C.free))
      go (stays p q t) = absurd (p refl)

  pub remove-good : Good n kind (record { B = at e false (swap l e S.B); R = dropped e (pivot l e S.R); o = pivoted l e S.R S.o })
  remove-good = record {
    zero = G.zero;
    consts = G.consts;
    shape = drop-shape n (swap l e S.B) (pivot l e S.R) (pivot-shape n S.B S.R G.shape l e C.basic C.free C.in-n C.one C.not-0) e e-basic;
    clear = λ b u. pivot-clear n S.B S.R G.shape l e C.basic C.free C.in-n C.one S.o G.clear b (off-e b u);
    feasible = λ j u s. by_row (λ j w. at e false (swap l e S.B) j ≡ true → kind j ≡ slack → 0ℤ ≼ w 0) e (pivot l e S.R) (λ _ _. ≼-of-eq (sym (δ-other C.not-0)))
        (λ j _ u s. ≼_trans (C.keeps j (on j u).0 s (on j u).1) (≼-of-eq (sym (pivot-cell S.R l e (S.R j) 0 l≢0)))) j u s;
    no-var = no-var-out;
    no-vars = λ j i ne x. by_row (λ j w. kind j ≢ external → w i ≡ 0ℤ) e (pivot l e S.R) (λ ne. δ-other (λ q. ne (ap kind q ∙ x))) (λ j je ne. no-vars-out j i je ne x) j ne;
    dummies = λ j i d s. by_row (λ j w. kind j ≡ dummy → w i ≡ 0ℤ) e (pivot l e S.R) (λ d. δ-other (λ q. slack≢dummy (sym s ∙ ap kind (sym q) ∙ d))) (λ j je d. dummies-out j i je d s) j d;
    still-dummies = λ j d. by_row (λ j w. kind j ≡ dummy → w 0 ≡ 0ℤ) e (pivot l e S.R) (λ _. δ-other C.not-0) (λ j je d. still-out j je d) j d;
  }
    where
      off-e : (b : ℕ) → at e false (swap l e S.B) b ≡ true → swap l e S.B b ≡ true
      off-e b u = go (at? e false (swap l e S.B) b)
        where
          go : At e false (swap l e S.B) b → swap l e S.B b ≡ true
          go (here q x) = absurd (true≢false (sym u ∙ x))
          go (there q x) = sym x ∙ u

-- ---- the ranks keep the constants (y of row j and its cell a; x of the leaving row)
pub keep-dummy : (y a c x : ℤ) → 0ℤ ≼ y → x ≡ 0ℤ → 0ℤ ≼ y -ℤ a *ℤ c *ℤ x
keep-dummy y a c x h z = ≼_trans h (≼-of-eq (ring (y ∷ a ∷ c ∷ []) (v 0) (v 0 ⊟⊟ v 1 ⊠ v 2 ⊠ k 0ℤ) tt ∙ ap (λ w. y -ℤ a *ℤ c *ℤ w) (sym z)))

pub keep-external : (y a c x : ℤ) → 0ℤ ≼ y → a ≡ 0ℤ → 0ℤ ≼ y -ℤ a *ℤ c *ℤ x
keep-external y a c x h z = ≼_trans h (≼-of-eq (ring (y ∷ c ∷ x ∷ []) (v 0) (v 0 ⊟⊟ k 0ℤ ⊠ v 1 ⊠ v 2) tt ∙ ap (λ w. y -ℤ w *ℤ c *ℤ x) (sym z)))

pub keep-negative : (y a c x : ℤ) → 0ℤ ≼ y → 0ℤ ≼ x → c ≡ negsuc 0 → (a ≺ 0ℤ → x *ℤ neg_ℤ a ≼ y *ℤ neg_ℤ c) → 0ℤ ≼ y -ℤ a *ℤ c *ℤ x
keep-negative y a c x hy hx z least = ≼_trans (go (≺-or-≼ a 0ℤ)) (≼-of-eq (ring (y ∷ a ∷ x ∷ []) (v 0 ⊞ v 1 ⊠ v 2) (v 0 ⊟⊟ v 1 ⊠ k (negsuc 0) ⊠ v 2) tt ∙ ap (λ w. y -ℤ a *ℤ w *ℤ x) (sym z)))
  where
    go : (a ≺ 0ℤ) ⊎ (0ℤ ≼ a) → 0ℤ ≼ y +ℤ a *ℤ x
    go (inl h) = ratio x y a (≼_trans (least h) (≼-of-eq (ap (λ w. y *ℤ neg_ℤ w) z)))
    go (inr h) = add-nonneg hy (mul-nonneg h hx)

pub keep-positive : (y a c x : ℤ) → 0ℤ ≼ y → 0ℤ ≼ x → c ≡ 1ℤ → (a ≺ 0ℤ → ⊥) → (0ℤ ≺ a → x *ℤ a ≼ y *ℤ c) → 0ℤ ≼ y -ℤ a *ℤ c *ℤ x
keep-positive y a c x hy hx z none least =
    ≼_trans (ratio-up x y a hy hx (λ h. ≼_trans (least h) (≼-of-eq (ap (λ w. y *ℤ w) z))) (≺-or-≼ a 0ℤ) none) (≼-of-eq (ap (λ w. y -ℤ a *ℤ w *ℤ x) (sym z)))

-- ---- rank 4: where no symbol of the other constraints moves with the marker, their objective does not hold it
cost-0 : (f : Form) (s t : ℤ) → s ≡ 0ℤ → (soft f ≡ true → t ≡ 0ℤ) → cost f s t ≡ 0ℤ
cost-0 le! s t hs ht = refl
cost-0 eq! s t hs ht = refl
cost-0 ge! s t hs ht = refl
cost-0 le s t hs ht = ht refl
cost-0 eq s t hs ht = ap₂ ◌+ℤ◌ hs (ht refl)
cost-0 ge s t hs ht = ht refl

total-0 : (d : Vec) (cs : List Con) → All (λ c. (d c.marker ≡ 0ℤ) × (soft c.form ≡ true → d c.other ≡ 0ℤ)) cs → total cs d ≡ 0ℤ
total-0 d [] h = refl
total-0 d (c ∷ cs) h =
    ap₂ (λ (a b : ℤ). c.weight *ℤ a +ℤ b) (cost-0 c.form (d c.marker) (d c.other) h.0.0 h.0.1) (total-0 d cs h.1) ∙ ring (c.weight ∷ []) (v 0 ⊠ k 0ℤ ⊞ k 0ℤ) (k 0ℤ) tt

pub free-of-marker : (n : ℕ) (B : Mask) (R : ℕ → Vec) (o : Vec) (e : ℕ) (cs : List Con) → Shape n B R → Clear B o → B e ≡ false → e < n
    → ((σ : Vec) → Solves n R σ → dot n o σ ≡ total cs σ)
    → All (λ c. (R c.marker e ≡ 0ℤ) × (soft c.form ≡ true → R c.other e ≡ 0ℤ)) cs → o e ≡ 0ℤ
free-of-marker n B R o e cs S c free in-n worth h =
    sym (at-column n B R S e free in-n o c) ∙ worth (λ j. R j e) (column-solves n B R S e free in-n) ∙ total-0 (λ j. R j e) cs h
