-- One pivot of an optimise pass: what entering and leaving are, what the pivot keeps, and that the objective's constant does not grow. Assumes nothing.
use Rattle.std.specs.Prelude.{◌≡◌, ◌⊎◌, ◌≢◌, [], ◌∷◌, ℕ, ◌≤◌, ◌<◌, true, false, negsuc, neg_ℤ, ◌+ℤ◌, ◌*ℤ◌}
use Rattle.std.proofs.Common.{sym, ap, ◌∙◌, inl, inr, true≢false}
use Rattle.laws.specs.Z.{◌≼◌, ◌≺◌}
use Rattle.laws.specs.Ring.{ring, v, k, ◌⊞◌, ◌⊠◌, ⊟◌}
use Rattle.simplex.specs.Ord.{0ℤ, 1ℤ, ≼-of-eq, ≼_trans, ≺-or-≼, mul-nonneg, add-nonneg, ratio, fall, still}
use Rattle.simplex.specs.Lin.{Vec, δ-same, δ-other}
use Rattle.simplex.specs.Tab.{eqn, pivoted, pivot}
use Rattle.simplex.specs.Basis.{Mask, Shape, Clear, swap, Swapped, enters, leaves, stays, swapped, apart, pivot-clear, pivot-shape}
use Rattle.simplex.specs.Opt.{Kind, const, external, slack, dummy, slack≢external, slack≢const}

pub record State : Type 0 where
  pub B : Mask
  pub R : ℕ → Vec
  pub o : Vec

abbrev pub step : ℕ → ℕ → State → State
step l e S = record { B = swap l e S.B; R = pivot l e S.R; o = pivoted l e S.R S.o }

-- what holds before and after every pivot of a pass
pub record Good (n : ℕ) (kind : ℕ → Kind) (S : State) : Type 0 where
  pub zero : kind 0 ≡ const
  pub consts : (j : ℕ) → kind j ≡ const → j ≡ 0
  pub shape : Shape n S.B S.R
  pub clear : Clear S.B S.o
  -- the basic solution is feasible
  pub feasible : (j : ℕ) → S.B j ≡ true → kind j ≡ slack → 0ℤ ≼ S.R j 0
  -- neither the objective nor a restricted row holds a variable, and a dummy's row holds no slack
  pub no-var : (i : ℕ) → kind i ≡ external → S.o i ≡ 0ℤ
  pub no-vars : (j i : ℕ) → kind j ≢ external → kind i ≡ external → S.R j i ≡ 0ℤ
  pub dummies : (j i : ℕ) → kind j ≡ dummy → kind i ≡ slack → S.R j i ≡ 0ℤ
  -- and has the constant 0
  pub still-dummies : (j : ℕ) → kind j ≡ dummy → S.R j 0 ≡ 0ℤ

-- the rule: the entering column is the lowest whose cell in the objective is below 0; of the slacks' rows with a cell below 0 there, the leaving one has the smallest -constant / cell, and the lowest column on a tie
pub record Choice (n : ℕ) (kind : ℕ → Kind) (S : State) (l e : ℕ) : Type 0 where
  pub in-n : e < n
  pub e-free : S.B e ≡ false
  pub e-slack : kind e ≡ slack
  pub e-cell : S.o e ≺ 0ℤ
  pub lowest : (j : ℕ) → j < e → kind j ≡ slack → 0ℤ ≼ S.o j
  pub l-basic : S.B l ≡ true
  pub l-slack : kind l ≡ slack
  pub l-cell : S.R l e ≡ negsuc 0
  pub least : (j : ℕ) → S.B j ≡ true → kind j ≡ slack → S.R j e ≺ 0ℤ → S.R l 0 *ℤ neg_ℤ (S.R j e) ≼ S.R j 0 *ℤ neg_ℤ (S.R l e)
  pub ties : (j : ℕ) → S.B j ≡ true → kind j ≡ slack → S.R j e ≺ 0ℤ → S.R l 0 *ℤ neg_ℤ (S.R j e) ≡ S.R j 0 *ℤ neg_ℤ (S.R l e) → l ≤ j

pub differ : {a b : Kind} → a ≢ b → (kind : ℕ → Kind) (i j : ℕ) → kind i ≡ a → kind j ≡ b → i ≢ j
differ h kind i j p q e = h (sym p ∙ ap kind e ∙ q)

module _ (n : ℕ) (kind : ℕ → Kind) (S : State) (G : Good n kind S) (l e : ℕ) (C : Choice n kind S l e) where
  -- a row after the pivot: it gains its cell at e, times the leaving row less its own column
  pub pivot-row : (w : Vec) (i : ℕ) → l ≢ i → pivoted l e S.R w i ≡ w i +ℤ w e *ℤ S.R l i
  pivot-row w i h =
      ap (λ z. w i +ℤ neg_ℤ (w e *ℤ S.R l e) *ℤ (S.R l i +ℤ negsuc 0 *ℤ z)) (δ-other h)
      ∙ ap (λ z. w i +ℤ neg_ℤ (w e *ℤ z) *ℤ (S.R l i +ℤ negsuc 0 *ℤ 0ℤ)) C.l-cell
      ∙ ring (w i ∷ w e ∷ S.R l i ∷ []) (v 0 ⊞ (⊟ (v 1 ⊠ k (negsuc 0))) ⊠ (v 2 ⊞ k (negsuc 0) ⊠ k 0ℤ)) (v 0 ⊞ v 1 ⊠ v 2) tt

  pub l≢0 : l ≢ 0
  l≢0 = apart S.B C.l-basic G.shape.const

  e≢0 : e ≢ 0
  e≢0 = differ slack≢const kind e 0 C.e-slack G.zero

  one : S.R l e *ℤ S.R l e ≡ 1ℤ
  one = ap (λ z. z *ℤ z) C.l-cell

  step-feasible : (j : ℕ) → swap l e S.B j ≡ true → kind j ≡ slack → 0ℤ ≼ pivoted l e S.R (S.R j) 0
  step-feasible j t s = ≼_trans (go (swapped l e S.B j)) (≼-of-eq (sym (pivot-row (S.R j) 0 l≢0)))
    where
      x : 0ℤ ≼ S.R l 0
      x = G.feasible l C.l-basic C.l-slack

      by_sign : S.B j ≡ true → (S.R j e ≺ 0ℤ) ⊎ (0ℤ ≼ S.R j e) → 0ℤ ≼ S.R j 0 +ℤ S.R j e *ℤ S.R l 0
      by_sign b (inl h) = ratio (S.R l 0) (S.R j 0) (S.R j e) (≼_trans (C.least j b s h) (≼-of-eq (ap (λ z. S.R j 0 *ℤ neg_ℤ z) C.l-cell)))
      by_sign b (inr h) = add-nonneg (G.feasible j b s) (mul-nonneg h x)

      go : Swapped l e S.B j → 0ℤ ≼ S.R j 0 +ℤ S.R j e *ℤ S.R l 0
      go (enters p q) =
          ≼_trans x (≼-of-eq (ring (S.R l 0 ∷ []) (v 0) (k 0ℤ ⊞ k 1ℤ ⊠ v 0) tt ∙ sym (ap (λ y. S.R y 0 +ℤ S.R y e *ℤ S.R l 0) p
          ∙ ap (λ z. z +ℤ S.R e e *ℤ S.R l 0) (G.shape.unit e C.e-free 0 ∙ δ-other e≢0) ∙ ap (λ z. 0ℤ +ℤ z *ℤ S.R l 0) (G.shape.unit e C.e-free e ∙ δ-same e))))
      go (leaves p q) = absurd (true≢false (sym t ∙ q))
      go (stays p q r) = by_sign (sym r ∙ t) (≺-or-≼ (S.R j e) 0ℤ)

  -- variables stay out of a row that holds none
  pub var-out : (w : Vec) (i : ℕ) → kind i ≡ external → w i ≡ 0ℤ → pivoted l e S.R w i ≡ 0ℤ
  var-out w i h z =
      pivot-row w i (differ slack≢external kind l i C.l-slack h) ∙ ap (λ y. y +ℤ w e *ℤ S.R l i) z
      ∙ ap (λ y. 0ℤ +ℤ w e *ℤ y) (G.no-vars l i (λ x. slack≢external (sym C.l-slack ∙ x)) h) ∙ ring (w e ∷ []) (k 0ℤ ⊞ v 0 ⊠ k 0ℤ) (k 0ℤ) tt

  -- a row whose cell at e is 0 stays
  unhurt : (w : Vec) (i : ℕ) → w e ≡ 0ℤ → pivoted l e S.R w i ≡ w i
  unhurt w i h = ap (λ z. w i +ℤ neg_ℤ (z *ℤ S.R l e) *ℤ eqn S.R l i) h ∙ ring (w i ∷ S.R l e ∷ eqn S.R l i ∷ []) (v 0 ⊞ (⊟ (k 0ℤ ⊠ v 1)) ⊠ v 2) (v 0) tt

  pub step-good : Good n kind (step l e S)
  step-good = record {
    zero = G.zero;
    consts = G.consts;
    shape = pivot-shape n S.B S.R G.shape l e C.l-basic C.e-free C.in-n one e≢0;
    clear = pivot-clear n S.B S.R G.shape l e C.l-basic C.e-free C.in-n one S.o G.clear;
    feasible = step-feasible;
    no-var = λ i h. var-out S.o i h (G.no-var i h);
    no-vars = λ j i s h. var-out (S.R j) i h (G.no-vars j i s h);
    dummies = λ j i d s. unhurt (S.R j) i (G.dummies j e d C.e-slack) ∙ G.dummies j i d s;
    still-dummies = λ j d. unhurt (S.R j) 0 (G.dummies j e d C.e-slack) ∙ G.still-dummies j d;
  }

  -- the objective's constant does not grow, and stays only if the leaving row's constant is 0
  pub falls : (step l e S).o 0 ≼ S.o 0
  falls = ≼_trans (≼-of-eq (pivot-row S.o 0 l≢0)) (fall (S.o 0) (S.o e) (S.R l 0) C.e-cell (G.feasible l C.l-basic C.l-slack))

  pub stuck : S.o 0 ≼ (step l e S).o 0 → S.R l 0 ≡ 0ℤ
  stuck h = still (S.o 0) (S.o e) (S.R l 0) C.e-cell (G.feasible l C.l-basic C.l-slack) (≼_trans h (≼-of-eq (pivot-row S.o 0 l≢0)))

  -- and then the basic solution does not move
  pub unmoved : S.R l 0 ≡ 0ℤ → (j : ℕ) → (step l e S).R j 0 ≡ S.R j 0
  unmoved h j = pivot-row (S.R j) 0 l≢0 ∙ ap (λ z. S.R j 0 +ℤ S.R j e *ℤ z) h ∙ ring (S.R j 0 ∷ S.R j e ∷ []) (v 0 ⊞ v 1 ⊠ k 0ℤ) (v 0) tt
