-- An add with a subject leaves a good state. Assumes nothing.
use Rattle.std.specs.Prelude.{◌≡◌, ◌⊎◌, ◌≢◌, [], ◌∷◌, ℕ, ◌<◌, true, false, ℤ, neg_ℤ, ◌+ℤ◌, ◌-ℤ◌, ◌*ℤ◌}
use Rattle.std.proofs.Math.Path.{refl}
use Rattle.std.proofs.Common.{sym, ap, ap₂, ◌∙◌, inl, inr, arith}
use Rattle.laws.specs.Z.{◌≼◌}
use Rattle.laws.specs.Ring.{ring, v, k, ◌⊞◌, ◌⊠◌, ⊟◌, ◌⊟⊟◌}
use Rattle.simplex.specs.Ord.{0ℤ, 1ℤ, ≼-of-eq, ≼_trans}
use Rattle.simplex.specs.Lin.{Vec, δ, Same?, same, other, same?, δ-same, δ-other}
use Rattle.simplex.specs.At.{at, At, here, there, at?}
use Rattle.simplex.specs.Tab.{out}
use Rattle.simplex.specs.Basis.{Clear}
use Rattle.simplex.specs.Opt.{Kind, external, slack, dummy, slack≢external, slack≢dummy}
use Rattle.simplex.specs.Change.{add-clear, add-shape}
use Rattle.simplex.specs.Pass.{State, Good}

-- the row r, the subject x and its cell c: a variable that only variables' rows hold; or a new symbol, and then r holds no variable
pub record Subject (n : ℕ) (kind : ℕ → Kind) (S : State) (r : Vec) (x : ℕ) : Type 0 where
  pub free : S.B x ≡ false
  pub in-n : x < n
  pub not-0 : x ≢ 0
  pub clear : Clear S.B r
  pub one : r x *ℤ r x ≡ 1ℤ
  -- no other restricted row holds x
  pub alone : (j : ℕ) → kind j ≢ external → j ≢ x → S.R j x ≡ 0ℤ
  -- the objective holds x only if r holds no variable
  pub cheap : (i : ℕ) → kind i ≡ external → (S.o x ≡ 0ℤ) ⊎ (r i ≡ 0ℤ)
  pub plain : kind x ≢ external → (i : ℕ) → kind i ≡ external → r i ≡ 0ℤ
  -- a slack's new constant is not below 0; a dummy's row is of dummies alone, with the constant 0
  pub up : kind x ≡ slack → 0ℤ ≼ neg_ℤ (r x) *ℤ r 0
  pub flat : kind x ≡ dummy → (r 0 ≡ 0ℤ) × ((i : ℕ) → kind i ≡ slack → r i ≡ 0ℤ)

dummy≢external : {t : Kind} → t ≡ dummy → t ≢ external
dummy≢external p q = let z : ◌≡◌ {A = ℕ} 0 1 = cc in omega arith

unfoldable pub added : State → Vec → ℕ → State
added S r x = record { B = at x true S.B; R = λ j. out x (r x) r (S.R j); o = out x (r x) r S.o }

module _ (n : ℕ) (kind : ℕ → Kind) (S : State) (G : Good n kind S) (r : Vec) (x : ℕ) (C : Subject n kind S r x) where
  -- a row that does not hold x stays
  unhurt : (w : Vec) (i : ℕ) → w x ≡ 0ℤ → out x (r x) r w i ≡ w i
  unhurt w i h = ap (λ z. w i +ℤ neg_ℤ (z *ℤ r x) *ℤ r i) h ∙ ring (w i ∷ r x ∷ r i ∷ []) (v 0 ⊞ (⊟ (k 0ℤ ⊠ v 1)) ⊠ v 2) (v 0) tt

  -- x's own row
  own : (i : ℕ) → out x (r x) r (S.R x) i ≡ δ x i -ℤ r x *ℤ r i
  own i =
      ap₂ (λ (a b : ℤ). a +ℤ neg_ℤ (b *ℤ r x) *ℤ r i) (G.shape.unit x C.free i) (G.shape.unit x C.free x ∙ δ-same x)
      ∙ ring (δ x i ∷ r x ∷ r i ∷ []) (v 0 ⊞ (⊟ (k 1ℤ ⊠ v 1)) ⊠ v 2) (v 0 ⊟⊟ v 1 ⊠ v 2) tt

  own-0 : (i : ℕ) → x ≢ i → r i ≡ 0ℤ → out x (r x) r (S.R x) i ≡ 0ℤ
  own-0 i h z = own i ∙ ap₂ (λ (a b : ℤ). a -ℤ r x *ℤ b) (δ-other h) z ∙ ring (r x ∷ []) (k 0ℤ ⊟⊟ v 0 ⊠ k 0ℤ) (k 0ℤ) tt

  -- a restricted row after the add: as before, or x's
  old-or-own : (j : ℕ) → kind j ≢ external → ((i : ℕ) → out x (r x) r (S.R j) i ≡ S.R j i) ⊎ (j ≡ x)
  old-or-own j ne = go (same? j x)
    where
      go : Same? j x → ((i : ℕ) → out x (r x) r (S.R j) i ≡ S.R j i) ⊎ (j ≡ x)
      go (same p e) = inr p
      go (other p e) = inl (λ i. unhurt (S.R j) i (C.alone j ne p))

  at_x : (i j : ℕ) → j ≡ x → out x (r x) r (S.R j) i ≡ out x (r x) r (S.R x) i
  at_x i j p = ap (λ (y : ℕ). out x (r x) r (S.R y) i) p

  add-feasible : (j : ℕ) → at x true S.B j ≡ true → kind j ≡ slack → 0ℤ ≼ out x (r x) r (S.R j) 0
  add-feasible j t s = go (old-or-own j (λ e. slack≢external (sym s ∙ e))) (at? x true S.B j)
    where
      mine : j ≡ x → 0ℤ ≼ out x (r x) r (S.R j) 0
      mine p =
          ≼_trans (C.up (ap kind (sym p) ∙ s)) (≼-of-eq (sym (at_x 0 j p ∙ own 0 ∙ ap (λ z. z -ℤ r x *ℤ r 0) (δ-other C.not-0) ∙ ring (r x ∷ r 0 ∷ []) (k 0ℤ ⊟⊟ v 0 ⊠ v 1) ((⊟ v 0) ⊠ v 1) tt)))

      go : ((i : ℕ) → out x (r x) r (S.R j) i ≡ S.R j i) ⊎ (j ≡ x) → At x true S.B j → 0ℤ ≼ out x (r x) r (S.R j) 0
      go (inr p) a = mine p
      go (inl h) (here p e) = mine p
      go (inl h) (there p e) = ≼_trans (G.feasible j (sym e ∙ t) s) (≼-of-eq (sym (h 0)))

  add-no-var : (i : ℕ) → kind i ≡ external → out x (r x) r S.o i ≡ 0ℤ
  add-no-var i e = go (C.cheap i e)
    where
      go : (S.o x ≡ 0ℤ) ⊎ (r i ≡ 0ℤ) → out x (r x) r S.o i ≡ 0ℤ
      go (inl z) = unhurt S.o i z ∙ G.no-var i e
      go (inr z) = ap₂ (λ (a b : ℤ). a +ℤ neg_ℤ (S.o x *ℤ r x) *ℤ b) (G.no-var i e) z ∙ ring (S.o x ∷ r x ∷ []) (k 0ℤ ⊞ (⊟ (v 0 ⊠ v 1)) ⊠ k 0ℤ) (k 0ℤ) tt

  add-no-vars : (j i : ℕ) → kind j ≢ external → kind i ≡ external → out x (r x) r (S.R j) i ≡ 0ℤ
  add-no-vars j i ne e = go (old-or-own j ne)
    where
      go : ((i : ℕ) → out x (r x) r (S.R j) i ≡ S.R j i) ⊎ (j ≡ x) → out x (r x) r (S.R j) i ≡ 0ℤ
      go (inl h) = h i ∙ G.no-vars j i ne e
      go (inr p) = at_x i j p ∙ own-0 i (λ q. ne (ap kind (p ∙ q) ∙ e)) (C.plain (λ q. ne (ap kind p ∙ q)) i e)

  add-dummies : (j i : ℕ) → kind j ≡ dummy → kind i ≡ slack → out x (r x) r (S.R j) i ≡ 0ℤ
  add-dummies j i d s = go (old-or-own j (dummy≢external d))
    where
      go : ((i : ℕ) → out x (r x) r (S.R j) i ≡ S.R j i) ⊎ (j ≡ x) → out x (r x) r (S.R j) i ≡ 0ℤ
      go (inl h) = h i ∙ G.dummies j i d s
      go (inr p) = at_x i j p ∙ own-0 i (λ q. slack≢dummy (sym s ∙ ap kind (sym (p ∙ q)) ∙ d)) ((C.flat (ap kind (sym p) ∙ d)).1 i s)

  add-still : (j : ℕ) → kind j ≡ dummy → out x (r x) r (S.R j) 0 ≡ 0ℤ
  add-still j d = go (old-or-own j (dummy≢external d))
    where
      go : ((i : ℕ) → out x (r x) r (S.R j) i ≡ S.R j i) ⊎ (j ≡ x) → out x (r x) r (S.R j) 0 ≡ 0ℤ
      go (inl h) = h 0 ∙ G.still-dummies j d
      go (inr p) = at_x 0 j p ∙ own-0 0 C.not-0 (C.flat (ap kind (sym p) ∙ d)).0

  pub add-good : Good n kind (added S r x)
  unfolding added
  add-good = record {
    zero = G.zero;
    consts = G.consts;
    shape = add-shape n S.B S.R G.shape x (r x) r C.free C.in-n C.not-0 C.clear refl C.one;
    clear = add-clear n S.B S.R G.shape x (r x) r C.free C.in-n C.not-0 C.clear refl C.one S.o G.clear;
    feasible = add-feasible;
    no-var = add-no-var;
    no-vars = add-no-vars;
    dummies = add-dummies;
    still-dummies = add-still;
  }
