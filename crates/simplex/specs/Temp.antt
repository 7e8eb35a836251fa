-- Good states for the artificial pass and after it, and for a symbol that comes or goes. Assumes nothing.
use Rattle.std.specs.Prelude.{◌≡◌, refl, ◌⊎◌, ◌≢◌, [], ◌∷◌, ℕ, ◌<◌, true, false, ℤ, neg_ℤ, ◌+ℤ◌, ◌-ℤ◌, ◌*ℤ◌}
use Rattle.std.proofs.Common.{sym, ap, ap₂, ◌∙◌, inl, inr, true≢false}
use Rattle.std.proofs.Math.Path.{subst}
use Rattle.laws.specs.Z.{◌≼◌}
use Rattle.laws.specs.Ring.{ring, v, k, ◌⊞◌, ◌⊠◌, ⊟◌, ◌⊟⊟◌}
use Rattle.simplex.specs.Ord.{0ℤ, 1ℤ, ≼-of-eq, ≼_trans}
use Rattle.simplex.specs.Tab.{eqn, pivoted}
use Rattle.simplex.specs.Lin.{Vec, δ, δ-other}
use Rattle.simplex.specs.At.{at, At, here, there, at?, at_here, at_there}
use Rattle.simplex.specs.Basis.{Clear, swap, Swapped, enters, leaves, stays, swapped, pivot-clear, pivot-shape}
use Rattle.simplex.specs.Opt.{Kind, const, external, slack, dummy, slack≢dummy, slack≢external, slack≢const}
use Rattle.simplex.specs.Change.{killed}
use Rattle.simplex.specs.Steps.{temp-shape, pivot-cell}
use Rattle.simplex.specs.Pass.{State, step, Good, differ}

-- a symbol that no row and no objective holds
pub record Dead (S : State) (t : ℕ) : Type 0 where
  pub free : S.B t ≡ false
  pub not-0 : t ≢ 0
  pub rows : (j : ℕ) → j ≢ t → S.R j t ≡ 0ℤ

-- ---- Add's step 6 begins: t is basic with the row r, which is the artificial objective too
module _ (n : ℕ) (kind : ℕ → Kind) (S : State) (G : Good n kind S) (t : ℕ) (r : Vec) (D : Dead S t) (in-n : t < n) (new : kind t ≡ slack)
    (clear : Clear S.B r) (no-t : r t ≡ 0ℤ) (up : 0ℤ ≼ r 0) (plain : (i : ℕ) → kind i ≡ external → r i ≡ 0ℤ) where
  by_row : (Q : ℕ → Vec → Type 0) → Q t r → ((j : ℕ) → j ≢ t → Q j (S.R j)) → (j : ℕ) → Q j (at t r S.R j)
  by_row Q own old j = go (at? t r S.R j)
    where
      go : At t r S.R j → Q j (at t r S.R j)
      go (here p e) = subst (Q j) (sym e) (subst (λ (i : ℕ). Q i r) (sym p) own)
      go (there p e) = subst (Q j) (sym e) (old j p)

  pub temp-good : Good n kind (record { B = at t true S.B; R = at t r S.R; o = r })
  temp-good = record {
    zero = G.zero;
    consts = G.consts;
    shape = temp-shape n S.B S.R G.shape t r D.free in-n D.not-0 D.rows clear no-t;
    clear = λ b u. elim (at? t true S.B b) [ here p e ↦ ap r p ∙ no-t | there p e ↦ clear b (sym e ∙ u) ];
    feasible = λ j u s. by_row (λ j w. at t true S.B j ≡ true → kind j ≡ slack → 0ℤ ≼ w 0) (λ _ _. up) (λ j p u s. G.feasible j (sym (at_there t true S.B j p) ∙ u) s) j u s;
    no-var = plain;
    no-vars = λ j i ne e. by_row (λ j w. kind j ≢ external → (i : ℕ) → kind i ≡ external → w i ≡ 0ℤ) (λ _ i e. plain i e) (λ j _ ne i e. G.no-vars j i ne e) j ne i e;
    dummies = λ j i d s. by_row (λ j w. kind j ≡ dummy → (i : ℕ) → kind i ≡ slack → w i ≡ 0ℤ) (λ d. absurd (slack≢dummy (sym new ∙ d))) (λ j _ d i s. G.dummies j i d s) j d i s;
    still-dummies = λ j d. by_row (λ j w. kind j ≡ dummy → w 0 ≡ 0ℤ) (λ d. absurd (slack≢dummy (sym new ∙ d))) (λ j _ d. G.still-dummies j d) j d;
  }

-- ---- and ends: the cells of t, which is not basic any more, go
module _ (n : ℕ) (kind : ℕ → Kind) (S : State) (G : Good n kind S) (t : ℕ) (free : S.B t ≡ false) (t≢0 : t ≢ 0) where
  -- a cell that goes is 0, any other stays
  cell : (w : Vec) (i : ℕ) → (at t 0ℤ w i ≡ 0ℤ) ⊎ ((i ≢ t) × (at t 0ℤ w i ≡ w i))
  cell w i = go (at? t 0ℤ w i)
    where
      go : At t 0ℤ w i → (at t 0ℤ w i ≡ 0ℤ) ⊎ ((i ≢ t) × (at t 0ℤ w i ≡ w i))
      go (here p e) = inl e
      go (there p e) = inr (p, e)

  zero-stays : (w : Vec) (i : ℕ) → w i ≡ 0ℤ → at t 0ℤ w i ≡ 0ℤ
  zero-stays w i z = go (cell w i)
    where
      go : (at t 0ℤ w i ≡ 0ℤ) ⊎ ((i ≢ t) × (at t 0ℤ w i ≡ w i)) → at t 0ℤ w i ≡ 0ℤ
      go (inl e) = e
      go (inr e) = e.1 ∙ z

  by-row' : (Q : ℕ → Vec → Type 0) → Q t (δ t) → ((j : ℕ) → j ≢ t → Q j (at t 0ℤ (S.R j))) → (j : ℕ) → Q j (killed t S.R j)
  unfolding killed
  by-row' Q own old j = go (at? t (δ t) (λ j. at t 0ℤ (S.R j)) j)
    where
      go : At t (δ t) (λ j. at t 0ℤ (S.R j)) j → Q j (at t (δ t) (λ j. at t 0ℤ (S.R j)) j)
      go (here p e) = subst (Q j) (sym e) (subst (λ (i : ℕ). Q i (δ t)) (sym p) own)
      go (there p e) = subst (Q j) (sym e) (old j p)

  not_t : (b : ℕ) → S.B b ≡ true → b ≢ t
  not_t b u p = true≢false (sym u ∙ ap S.B p ∙ free)

  unit_row : (j : ℕ) → j ≢ t → S.B j ≡ false → (i : ℕ) → at t 0ℤ (S.R j) i ≡ δ j i
  unit_row j ne u i = go (at? t 0ℤ (S.R j) i)
    where
      go : At t 0ℤ (S.R j) i → at t 0ℤ (S.R j) i ≡ δ j i
      go (here p e) = e ∙ sym (δ-other (λ q. ne (q ∙ p)))
      go (there p e) = e ∙ G.shape.unit j u i

  pub kill-good : kind t ≢ dummy → Good n kind (record { B = S.B; R = killed t S.R; o = at t 0ℤ S.o })
  kill-good nd = record {
    zero = G.zero;
    consts = G.consts;
    shape = record {
      below = G.shape.below;
      const = G.shape.const;
      unit = λ j u i. by-row' (λ j w. S.B j ≡ false → (i : ℕ) → w i ≡ δ j i) (λ _ i. refl) unit_row j u i;
      gone = λ b u j. by-row' (λ j w. w b ≡ 0ℤ) (δ-other (λ p. not_t b u (sym p))) (λ j _. zero-stays (S.R j) b (G.shape.gone b u j)) j;
    };
    clear = λ b u. zero-stays S.o b (G.clear b u);
    feasible = λ j u s. by-row' (λ j w. S.B j ≡ true → kind j ≡ slack → 0ℤ ≼ w 0) (λ u. absurd (true≢false (sym u ∙ free))) (λ j _ u s. ≼_trans (G.feasible j u s) (≼-of-eq (sym (at_there t 0ℤ (S.R j) 0 (λ p. t≢0 (sym p)))))) j u s;
    no-var = λ i e. zero-stays S.o i (G.no-var i e);
    no-vars = λ j i ne e. by-row' (λ j w. kind j ≢ external → w i ≡ 0ℤ) (λ ne. δ-other (λ p. ne (ap kind p ∙ e))) (λ j _ ne. zero-stays (S.R j) i (G.no-vars j i ne e)) j ne;
    dummies = λ j i d s. by-row' (λ j w. kind j ≡ dummy → w i ≡ 0ℤ) (λ d. absurd (nd d)) (λ j _ d. zero-stays (S.R j) i (G.dummies j i d s)) j d;
    still-dummies = λ j d. by-row' (λ j w. kind j ≡ dummy → w 0 ≡ 0ℤ) (λ d. absurd (nd d)) (λ j _ d. zero-stays (S.R j) 0 (G.still-dummies j d)) j d;
  }

-- ---- a dead symbol may take any kind but the constant's: so a symbol is born, and so it goes
module _ (n : ℕ) (kind : ℕ → Kind) (S : State) (G : Good n kind S) (t : ℕ) (κ : Kind) (D : Dead S t) (cost : S.o t ≡ 0ℤ) (κ≢const : κ ≢ const) where
  old-kind : (j : ℕ) → j ≢ t → {a : Kind} → at t κ kind j ≡ a → kind j ≡ a
  old-kind j ne e = sym (at_there t κ kind j ne) ∙ e

  by_kind : (j : ℕ) {X : Type 0} → (j ≡ t → X) → (j ≢ t → X) → X
  by_kind j {X} f g = go (at? t κ kind j)
    where
      go : At t κ kind j → X
      go (here p e) = f p
      go (there p e) = g p

  own-cell : (i : ℕ) → t ≢ i → S.R t i ≡ 0ℤ
  own-cell i ne = G.shape.unit t D.free i ∙ δ-other ne

  pub rekind : Good n (at t κ kind) S
  rekind = record {
    zero = at_there t κ kind 0 (λ p. D.not-0 (sym p)) ∙ G.zero;
    consts = λ j e. by_kind j (λ p. absurd (κ≢const (sym (at_here t κ kind) ∙ ap (at t κ kind) (sym p) ∙ e))) (λ p. G.consts j (old-kind j p e));
    shape = G.shape;
    clear = G.clear;
    feasible = λ j u s. G.feasible j u (old-kind j (λ p. true≢false (sym u ∙ ap S.B p ∙ D.free)) s);
    no-var = λ i e. by_kind i (λ p. ap S.o p ∙ cost) (λ p. G.no-var i (old-kind i p e));
    no-vars = λ j i ne e. by_kind i (λ p. ap (S.R j) p ∙ D.rows j (λ q. ne (ap (at t κ kind) (q ∙ sym p) ∙ e)))
        (λ p. by_kind j (λ q. ap (λ (y : ℕ). S.R y i) q ∙ own-cell i (λ x. p (sym x))) (λ q. G.no-vars j i (λ x. ne (at_there t κ kind j q ∙ x)) (old-kind i p e)));
    dummies = λ j i d s. by_kind j (λ q. ap (λ (y : ℕ). S.R y i) q ∙ own-cell i (λ x. slack≢dummy (sym s ∙ ap (at t κ kind) (sym (q ∙ x)) ∙ d)))
        (λ q. by_kind i (λ p. ap (S.R j) p ∙ D.rows j q) (λ p. G.dummies j i (old-kind j q d) (old-kind i p s)));
    still-dummies = λ j d. by_kind j (λ q. ap (λ (y : ℕ). S.R y 0) q ∙ own-cell 0 D.not-0) (λ q. G.still-dummies j (old-kind j q d));
  }

-- ---- the temporary is still basic, at 0: a pivot on 1 or -1 in its row moves no constant
module _ (n : ℕ) (kind : ℕ → Kind) (S : State) (G : Good n kind S) (l e : ℕ) (hl : S.B l ≡ true) (he : S.B e ≡ false) (in-n : e < n) (sl : kind l ≡ slack) (se : kind e ≡ slack)
    (one : S.R l e *ℤ S.R l e ≡ 1ℤ) (flat : S.R l 0 ≡ 0ℤ) where
  stays_put : (w : Vec) → pivoted l e S.R w 0 ≡ w 0
  stays_put w =
      pivot-cell S.R l e w 0 (differ slack≢const kind l 0 sl G.zero) ∙ ap (λ z. w 0 -ℤ w e *ℤ S.R l e *ℤ z) flat
      ∙ ring (w 0 ∷ w e ∷ S.R l e ∷ []) (v 0 ⊟⊟ v 1 ⊠ v 2 ⊠ k 0ℤ) (v 0) tt

  unhurt : (w : Vec) (i : ℕ) → w e ≡ 0ℤ → pivoted l e S.R w i ≡ w i
  unhurt w i h = ap (λ z. w i +ℤ neg_ℤ (z *ℤ S.R l e) *ℤ eqn S.R l i) h ∙ ring (w i ∷ S.R l e ∷ eqn S.R l i ∷ []) (v 0 ⊞ (⊟ (k 0ℤ ⊠ v 1)) ⊠ v 2) (v 0) tt

  var-stays-out : (w : Vec) (i : ℕ) → kind i ≡ external → w i ≡ 0ℤ → pivoted l e S.R w i ≡ 0ℤ
  var-stays-out w i x z =
      pivot-cell S.R l e w i (differ slack≢external kind l i sl x) ∙ ap₂ (λ (a b : ℤ). a -ℤ w e *ℤ S.R l e *ℤ b) z (G.no-vars l i (λ q. slack≢external (sym sl ∙ q)) x)
      ∙ ring (w e ∷ S.R l e ∷ []) (k 0ℤ ⊟⊟ v 0 ⊠ v 1 ⊠ k 0ℤ) (k 0ℤ) tt

  flat-feasible : (j : ℕ) → swap l e S.B j ≡ true → kind j ≡ slack → 0ℤ ≼ pivoted l e S.R (S.R j) 0
  flat-feasible j t s = ≼_trans (go (swapped l e S.B j)) (≼-of-eq (sym (stays_put (S.R j))))
    where
      go : Swapped l e S.B j → 0ℤ ≼ S.R j 0
      go (enters p q) = ≼-of-eq (sym (G.shape.unit j (ap S.B p ∙ he) 0 ∙ δ-other (differ slack≢const kind j 0 s G.zero)))
      go (leaves p q) = absurd (true≢false (sym t ∙ q))
      go (stays p q r) = G.feasible j (sym r ∙ t) s

  pub flat_good : Good n kind (step l e S)
  flat_good = record {
    zero = G.zero;
    consts = G.consts;
    shape = pivot-shape n S.B S.R G.shape l e hl he in-n one (differ slack≢const kind e 0 se G.zero);
    clear = pivot-clear n S.B S.R G.shape l e hl he in-n one S.o G.clear;
    feasible = flat-feasible;
    no-var = λ i x. var-stays-out S.o i x (G.no-var i x);
    no-vars = λ j i ne x. var-stays-out (S.R j) i x (G.no-vars j i ne x);
    dummies = λ j i d s. unhurt (S.R j) i (G.dummies j e d se) ∙ G.dummies j i d s;
    still-dummies = λ j d. unhurt (S.R j) 0 (G.dummies j e d se) ∙ G.still-dummies j d;
  }
