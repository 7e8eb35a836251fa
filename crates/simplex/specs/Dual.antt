-- The dual pass of a drag with the lowest leaving column and the lowest entering one on a tie: it never comes back to a basis either. Assumes nothing.
use Rattle.std.specs.Prelude.{◌≡◌, refl, ◌⊎◌, ◌≢◌, ◌↔◌, [], ◌∷◌, ℕ, zero, suc, ◌+◌, ◌-◌, ◌≤◌, ◌<◌, Bool, true, false, ℤ, negsuc, neg_ℤ, ◌+ℤ◌, ◌-ℤ◌, ◌*ℤ◌}
use Rattle.std.proofs.Common.{sym, ap, ap₂, ◌∙◌, subst, inl, inr, le_refl, le_of_lt, eq-or-lt_of_le, add-suc, arith, true≢false}
use Rattle.laws.specs.Z.{◌≼◌, ◌≺◌}
use Rattle.laws.specs.Ring.{ring, v, k, ◌⊞◌, ◌⊠◌, ⊟◌, ◌⊟⊟◌}
use Rattle.simplex.specs.Ord.{0ℤ, 1ℤ, ≼-of-eq, ≼_trans, ≺→≼, clash, mul-neg, ≺-irrefl, fall, still, from-neg, from-pos}
use Rattle.simplex.specs.Lin.{Vec, δ, Same?, same, other, same?, δ-same, δ-other, dot, plus, dot-plus, dot-δ, dot-neg}
use Rattle.simplex.specs.Tab.{Solves, eqn, pivot, pivoted, pivot-solves, pivot-objective}
use Rattle.simplex.specs.Basis.{Shape, Clear, pivot-clear, pivot-shape, at-column, basic-solves}
use Rattle.simplex.specs.Cycle.{greatest, le-zero, Flips, has_left, has-entered, now-free}
use Rattle.simplex.specs.Opt.{Kind, const, external, slack, dummy, slack≢const, slack≢external}
use Rattle.simplex.specs.Pass.{State, step, differ}
use Rattle.simplex.specs.Steps.{pivot-cell, dual-keeps}

pub record Good (n : ℕ) (kind : ℕ → Kind) (S : State) : Type 0 where
  pub zero : kind 0 ≡ const
  pub consts : (j : ℕ) → kind j ≡ const → j ≡ 0
  pub shape : Shape n S.B S.R
  pub clear : Clear S.B S.o
  -- the objective is at its lowest
  pub costs : (i : ℕ) → kind i ≡ slack → 0ℤ ≼ S.o i
  -- a restricted row holds no variable; a dummy's row holds no slack and has the constant 0
  pub no-vars : (j i : ℕ) → kind j ≢ external → kind i ≡ external → S.R j i ≡ 0ℤ
  pub dummies : (j i : ℕ) → kind j ≡ dummy → kind i ≡ slack → S.R j i ≡ 0ℤ
  pub still-dummies : (j : ℕ) → kind j ≡ dummy → S.R j 0 ≡ 0ℤ

-- a pivot of a dual pass, whichever row below 0 leaves
pub record Move (n : ℕ) (kind : ℕ → Kind) (S : State) (l e : ℕ) : Type 0 where
  pub l-basic : S.B l ≡ true
  pub l-slack : kind l ≡ slack
  pub l-const : S.R l 0 ≺ 0ℤ
  pub in-n : e < n
  pub e-free : S.B e ≡ false
  pub e-slack : kind e ≡ slack
  pub e-cell : S.R l e ≡ 1ℤ
  pub least : (i : ℕ) → kind i ≡ slack → 0ℤ ≺ S.R l i → S.o e *ℤ S.R l i ≼ S.o i *ℤ S.R l e

-- and where the lowest such row leaves, and the lowest column enters on a tie
pub record Choice (n : ℕ) (kind : ℕ → Kind) (S : State) (l e : ℕ) : Type 0 where
  pub move : Move n kind S l e
  pub lowest : (j : ℕ) → j < l → S.B j ≡ true → kind j ≡ slack → 0ℤ ≼ S.R j 0
  pub ties : (i : ℕ) → kind i ≡ slack → 0ℤ ≺ S.R l i → S.o e *ℤ S.R l i ≡ S.o i *ℤ S.R l e → e ≤ i

module _ (n : ℕ) (kind : ℕ → Kind) (S : State) (G : Good n kind S) (l e : ℕ) (C : Move n kind S l e) where
  l≢0 : l ≢ 0
  l≢0 = differ slack≢const kind l 0 C.l-slack G.zero

  e≢0 : e ≢ 0
  e≢0 = differ slack≢const kind e 0 C.e-slack G.zero

  one : S.R l e *ℤ S.R l e ≡ 1ℤ
  one = ap (λ z. z *ℤ z) C.e-cell

  -- a row whose cell at e is 0 stays
  unhurt : (w : Vec) (i : ℕ) → w e ≡ 0ℤ → pivoted l e S.R w i ≡ w i
  unhurt w i h = ap (λ z. w i +ℤ neg_ℤ (z *ℤ S.R l e) *ℤ eqn S.R l i) h ∙ ring (w i ∷ S.R l e ∷ eqn S.R l i ∷ []) (v 0 ⊞ (⊟ (k 0ℤ ⊠ v 1)) ⊠ v 2) (v 0) tt

  step-costs : (i : ℕ) → kind i ≡ slack → 0ℤ ≼ pivoted l e S.R S.o i
  step-costs i s = go (same? l i)
    where
      go : Same? l i → 0ℤ ≼ pivoted l e S.R S.o i
      go (same p u) =
          ≼_trans (G.costs e C.e-slack) (≼-of-eq (sym (ap (pivoted l e S.R S.o) (sym p)
          ∙ ap (λ z. S.o l +ℤ neg_ℤ (S.o e *ℤ z) *ℤ (S.R l l +ℤ negsuc 0 *ℤ δ l l)) C.e-cell
          ∙ ap₂ (λ (y z : ℤ). S.o l +ℤ neg_ℤ (S.o e *ℤ 1ℤ) *ℤ (y +ℤ negsuc 0 *ℤ z)) (G.shape.gone l C.l-basic l) (δ-same l)
          ∙ ap (λ z. z +ℤ neg_ℤ (S.o e *ℤ 1ℤ) *ℤ (0ℤ +ℤ negsuc 0 *ℤ 1ℤ)) (G.clear l C.l-basic)
          ∙ ring (S.o e ∷ []) (k 0ℤ ⊞ (⊟ (v 0 ⊠ k 1ℤ)) ⊠ (k 0ℤ ⊞ k (negsuc 0) ⊠ k 1ℤ)) (v 0) tt)))
      go (other p u) = dual-keeps S.R S.o l e i p C.e-cell (G.costs e C.e-slack) (G.costs i s) (C.least i s)

  var-out : (j i : ℕ) → kind j ≢ external → kind i ≡ external → pivot l e S.R j i ≡ 0ℤ
  var-out j i s h =
      pivot-cell S.R l e (S.R j) i (differ slack≢external kind l i C.l-slack h)
      ∙ ap₂ (λ (y z : ℤ). y -ℤ S.R j e *ℤ S.R l e *ℤ z) (G.no-vars j i s h) (G.no-vars l i (λ x. slack≢external (sym C.l-slack ∙ x)) h)
      ∙ ring (S.R j e ∷ S.R l e ∷ []) (k 0ℤ ⊟⊟ v 0 ⊠ v 1 ⊠ k 0ℤ) (k 0ℤ) tt

  pub step-good : Good n kind (step l e S)
  step-good = record {
    zero = G.zero;
    consts = G.consts;
    shape = pivot-shape n S.B S.R G.shape l e C.l-basic C.e-free C.in-n one e≢0;
    clear = pivot-clear n S.B S.R G.shape l e C.l-basic C.e-free C.in-n one S.o G.clear;
    costs = step-costs;
    no-vars = var-out;
    dummies = λ j i d s. unhurt (S.R j) i (G.dummies j e d C.e-slack) ∙ G.dummies j i d s;
    still-dummies = λ j d. unhurt (S.R j) 0 (G.dummies j e d C.e-slack) ∙ G.still-dummies j d;
  }

  -- the constant, negated, falls, and stays only if the entering cost is 0
  constant : (step l e S).o 0 ≡ S.o 0 -ℤ S.o e *ℤ 1ℤ *ℤ S.R l 0
  constant = pivot-cell S.R l e S.o 0 l≢0 ∙ ap (λ z. S.o 0 -ℤ S.o e *ℤ z *ℤ S.R l 0) C.e-cell

  pub rises : neg_ℤ ((step l e S).o 0) ≼ neg_ℤ (S.o 0)
  rises =
      ≼_trans (≼-of-eq (ap neg_ℤ constant ∙ ring (S.o 0 ∷ S.o e ∷ S.R l 0 ∷ []) (⊟ (v 0 ⊟⊟ v 1 ⊠ k 1ℤ ⊠ v 2)) ((⊟ v 0) ⊞ v 2 ⊠ v 1) tt))
      (fall (neg_ℤ (S.o 0)) (S.R l 0) (S.o e) C.l-const (G.costs e C.e-slack))

  pub stuck : neg_ℤ (S.o 0) ≼ neg_ℤ ((step l e S).o 0) → S.o e ≡ 0ℤ
  stuck h =
      still (neg_ℤ (S.o 0)) (S.R l 0) (S.o e) C.l-const (G.costs e C.e-slack)
      (≼_trans h (≼-of-eq (ap neg_ℤ constant ∙ ring (S.o 0 ∷ S.o e ∷ S.R l 0 ∷ []) (⊟ (v 0 ⊟⊟ v 1 ⊠ k 1ℤ ⊠ v 2)) ((⊟ v 0) ⊞ v 2 ⊠ v 1) tt)))

  -- and then the objective does not change
  pub unmoved : S.o e ≡ 0ℤ → (i : ℕ) → (step l e S).o i ≡ S.o i
  unmoved h i = unhurt S.o i h

pub record Pass (n : ℕ) (kind : ℕ → Kind) (m : ℕ) (S : ℕ → State) (le en : ℕ → ℕ) : Type 0 where
  pub start : Good n kind (S 0)
  pub next : (i : ℕ) → i < m → S (suc i) ≡ step (le i) (en i) (S i)
  pub choice : (i : ℕ) → i < m → Choice n kind (S i) (le i) (en i)

module _ (n : ℕ) (kind : ℕ → Kind) (m : ℕ) (S : ℕ → State) (le en : ℕ → ℕ) (Q : Pass n kind m S le en) where
  pub good : (i : ℕ) → i ≤ m → Good n kind (S i)
  good zero h = Q.start
  good (suc i) h = subst (Good n kind) (sym (Q.next i h)) (step-good n kind (S i) (good i (le_of_lt h)) (le i) (en i) (Q.choice i h).move)

  pub solutions : (i : ℕ) → i ≤ m → (σ : Vec) → Solves n (S i).R σ ↔ Solves n (S 0).R σ
  solutions zero h σ = ((λ s. s), (λ s. s))
  solutions (suc i) h σ =
      let G = good i (le_of_lt h) in
      let C = Q.choice i h in
      let p = pivot-solves n (S i).R (le i) (en i) σ (G.shape.below (le i) C.move.l-basic) C.move.in-n (G.shape.unit (en i) C.move.e-free) (ap (λ z. z *ℤ z) C.move.e-cell) in
      let r = solutions i (le_of_lt h) σ in
      ((λ s. r.0 (p.0 (subst (λ (T : State). Solves n T.R σ) (Q.next i h) s))), (λ s. subst (λ (T : State). Solves n T.R σ) (sym (Q.next i h)) (p.1 (r.1 s))))

  pub values : (i : ℕ) → i ≤ m → (σ : Vec) → Solves n (S 0).R σ → dot n (S i).o σ ≡ dot n (S 0).o σ
  values zero h σ s = refl
  values (suc i) h σ s =
      let G = good i (le_of_lt h) in
      let C = Q.choice i h in
      ap (λ (T : State). dot n T.o σ) (Q.next i h)
      ∙ pivot-objective n (S i).R (le i) (en i) (S i).o σ (G.shape.below (le i) C.move.l-basic) ((solutions i (le_of_lt h) σ).1 s)
      ∙ values i (le_of_lt h) σ s

  down : (y : ℕ) → y ≤ m → (i : ℕ) → i ≤ y → neg_ℤ ((S y).o 0) ≼ neg_ℤ ((S i).o 0)
  down zero h i l = ≼-of-eq (ap (λ x. neg_ℤ ((S x).o 0)) (sym (le-zero l)))
  down (suc y) h i l = go (eq-or-lt_of_le l) (λ a. down y (le_of_lt h) i a)
    where
      go : (i ≡ suc y) ⊎ (i < suc y) → (i ≤ y → neg_ℤ ((S y).o 0) ≼ neg_ℤ ((S i).o 0)) → neg_ℤ ((S (suc y)).o 0) ≼ neg_ℤ ((S i).o 0)
      go (inl e) ih = ≼-of-eq (ap (λ x. neg_ℤ ((S x).o 0)) (sym e))
      go (inr e) ih =
          ≼_trans (≼-of-eq (ap (λ (T : State). neg_ℤ (T.o 0)) (Q.next y h)))
          (≼_trans (rises n kind (S y) (good y (le_of_lt h)) (le y) (en y) (Q.choice y h).move) (ih (omega arith)))

  pub flips : Flips m (λ i. (S i).B) le en
  flips = record {
    next = λ i h j. ap (λ (T : State). T.B j) (Q.next i h);
    out = λ i h. (Q.choice i h).move.l-basic;
    free = λ i h. (Q.choice i h).move.e-free;
  }

  not-const : (j : ℕ) → kind j ≡ slack → j ≢ 0
  not-const j s e = slack≢const (sym s ∙ ap kind e ∙ Q.start.zero)

  module _ (some : 0 < m) (back : (j : ℕ) → (S 0).B j ≡ (S m).B j) where
    in-n : 0 < n
    in-n = omega (arith, (Q.choice 0 some).move.in-n)

    ends : (S m).o 0 ≡ (S 0).o 0
    ends =
        let G = good m (le_refl m) in
        sym (at-column n (S m).B (S m).R G.shape 0 G.shape.const in-n (S m).o G.clear)
        ∙ values m (le_refl m) (λ j. (S m).R j 0) ((solutions m (le_refl m) (λ j. (S m).R j 0)).0 (basic-solves n (S m).B (S m).R G.shape in-n))
        ∙ at-column n (S m).B (S m).R G.shape 0 G.shape.const in-n (S 0).o (λ b t. Q.start.clear b (back b ∙ t))

    level : (i : ℕ) → i < m → (S i).o (en i) ≡ 0ℤ
    level i h =
        stuck n kind (S i) (good i (le_of_lt h)) (le i) (en i) (Q.choice i h).move
        (≼_trans (down i (le_of_lt h) 0 (omega arith)) (≼_trans (≼-of-eq (ap neg_ℤ (sym ends))) (≼_trans (down m (le_refl m) (suc i) h) (≼-of-eq (ap (λ (T : State). neg_ℤ (T.o 0)) (Q.next i h))))))

    fixed : (i : ℕ) → i ≤ m → (j : ℕ) → (S i).o j ≡ (S 0).o j
    fixed zero h j = refl
    fixed (suc i) h j =
        ap (λ (T : State). T.o j) (Q.next i h) ∙ unmoved n kind (S i) (good i (le_of_lt h)) (le i) (en i) (Q.choice i h).move (level i h) j ∙ fixed i (le_of_lt h) j

    -- t is the greatest column that leaves, at p; it enters at q, where s leaves. The row of s at q, on the basic solution at p
    module _ (p q : ℕ) (hp : p < m) (hq : q < m) (top : (i : ℕ) → i < m → le i ≤ le p) (t-enters : en q ≡ le p) where
      Gp : Good n kind (S p)
      Gp = good p (le_of_lt hp)

      Gq : Good n kind (S q)
      Gq = good q (le_of_lt hq)

      Cp : Choice n kind (S p) (le p) (en p)
      Cp = Q.choice p hp

      Cq : Choice n kind (S q) (le q) (en q)
      Cq = Q.choice q hq

      abbrev β : Vec
      β = λ j. (S p).R j 0

      -- the column s less its row, without the constant
      abbrev y : Vec
      y = plus (plus (δ (le q)) (negsuc 0) ((S q).R (le q))) ((S q).R (le q) 0) (δ 0)

      along : dot n y β ≺ 0ℤ
      along =
          subst (λ z. z ≺ 0ℤ)
          (sym (dot-plus n (plus (δ (le q)) (negsuc 0) ((S q).R (le q))) ((S q).R (le q) 0) (δ 0) β
          ∙ ap₂ (λ (u w : ℤ). u +ℤ (S q).R (le q) 0 *ℤ w) (dot-plus n (δ (le q)) (negsuc 0) ((S q).R (le q)) β) (dot-δ n 0 β in-n ∙ Gp.shape.unit 0 Gp.shape.const 0 ∙ δ-same 0)
          ∙ ap (λ z. z +ℤ negsuc 0 *ℤ dot n ((S q).R (le q)) β +ℤ (S q).R (le q) 0 *ℤ 1ℤ) (dot-δ n (le q) β s-in ∙ sol (le q) s-in)
          ∙ ring (dot n ((S q).R (le q)) β ∷ (S q).R (le q) 0 ∷ []) (v 0 ⊞ k (negsuc 0) ⊠ v 0 ⊞ v 1 ⊠ k 1ℤ) (v 1) tt))
          Cq.move.l-const
        where
          s-in : le q < n
          s-in = Gq.shape.below (le q) Cq.move.l-basic

          sol : Solves n (S q).R β
          sol = (solutions q (le_of_lt hq) β).1 ((solutions p (le_of_lt hp) β).0 (basic-solves n (S p).B (S p).R Gp.shape in-n))

      cell : (j : ℕ) → 0 ≢ j → y j ≡ δ (le q) j -ℤ (S q).R (le q) j
      cell j h =
          ap (λ z. δ (le q) j +ℤ negsuc 0 *ℤ (S q).R (le q) j +ℤ (S q).R (le q) 0 *ℤ z) (δ-other h)
          ∙ ring (δ (le q) j ∷ (S q).R (le q) j ∷ (S q).R (le q) 0 ∷ []) (v 0 ⊞ k (negsuc 0) ⊠ v 1 ⊞ v 2 ⊠ k 0ℤ) (v 0 ⊟⊟ v 1) tt

      -- s itself
      own : β (le q) ≺ 0ℤ → ⊥
      own b = go (eq-or-lt_of_le (top q hq))
        where
          go : (le q ≡ le p) ⊎ (le q < le p) → ⊥
          go (inl e) = true≢false (sym Cq.move.l-basic ∙ ap (S q).B (e ∙ sym t-enters) ∙ Cq.move.e-free)
          go (inr l) = clash b (by ((S p).B (le q)) refl)
            where
              by : (b : Bool) → (S p).B (le q) ≡ b → 0ℤ ≼ (S p).R (le q) 0
              by true r = Cp.lowest (le q) l r Cq.move.l-slack
              by false r = ≼-of-eq (sym (Gp.shape.unit (le q) r 0 ∙ δ-other (not-const (le q) Cq.move.l-slack)))

      -- a slack other than s that is basic at p and stands in the row of s at q
      module _ (j : ℕ) (sj : kind j ≡ slack) (basic : (S p).B j ≡ true) where
        at-most-t : (S q).R (le q) j ≢ 0ℤ → j ≤ le p
        at-most-t nz = go ((S q).B j) refl
          where
            go : (b : Bool) → (S q).B j ≡ b → j ≤ le p
            go true r = absurd (nz (Gq.shape.gone j r (le q)))
            go false r = let h = has_left m (λ i. (S i).B) le en flips back j p q (le_of_lt hp) (le_of_lt hq) basic r in omega (arith, top h.0 h.1, h.2)

        below : 0ℤ ≺ (S q).R (le q) j → 0ℤ ≺ β j → ⊥
        below a b = clash (subst (λ (x : ℕ). (S p).R x 0 ≺ 0ℤ) (is-t (Cq.ties j sj a tie) (at-most-t (λ z. ≺-irrefl (subst (λ x. 0ℤ ≺ x) z a)))) Cp.move.l-const) (≺→≼ b)
          where
            tie : (S q).o (en q) *ℤ (S q).R (le q) j ≡ (S q).o j *ℤ (S q).R (le q) (en q)
            tie =
                ap (λ z. z *ℤ (S q).R (le q) j) (level q hq) ∙ ring ((S q).R (le q) j ∷ (S q).R (le q) (en q) ∷ []) (k 0ℤ ⊠ v 0) (k 0ℤ ⊠ v 1) tt
                ∙ ap (λ z. z *ℤ (S q).R (le q) (en q)) (sym (fixed q (le_of_lt hq) j ∙ sym (fixed p (le_of_lt hp) j) ∙ Gp.clear j basic))

            is-t : en q ≤ j → j ≤ le p → le p ≡ j
            is-t x z = omega arith

        over : (S q).R (le q) j ≺ 0ℤ → β j ≺ 0ℤ → ⊥
        over a b = go (eq-or-lt_of_le (at-most-t (λ z. ≺-irrefl (subst (λ x. x ≺ 0ℤ) z a))))
          where
            go : (j ≡ le p) ⊎ (j < le p) → ⊥
            go (inl e) = (subst (λ x. x ≺ 0ℤ) (ap ((S q).R (le q)) (e ∙ sym t-enters) ∙ Cq.move.e-cell) a).lt
            go (inr l) = clash b (Cp.lowest j l basic sj)

      none : (j : ℕ) → y j *ℤ β j ≺ 0ℤ → ⊥
      none j w = go (kind j) refl
        where
          left : y j ≡ 0ℤ → ⊥
          left z = ≺-irrefl (subst (λ x. x ≺ 0ℤ) (ap (λ x. x *ℤ β j) z ∙ ring (β j ∷ []) (k 0ℤ ⊠ v 0) (k 0ℤ) tt) w)

          right : β j ≡ 0ℤ → ⊥
          right z = ≺-irrefl (subst (λ x. x ≺ 0ℤ) (ap (λ x. y j *ℤ x) z ∙ ring (y j ∷ []) (v 0 ⊠ k 0ℤ) (k 0ℤ) tt) w)

          signs : kind j ≡ slack → (S p).B j ≡ true → y j ≡ neg_ℤ ((S q).R (le q) j) → ((y j ≺ 0ℤ) × (0ℤ ≺ β j)) ⊎ ((0ℤ ≺ y j) × (β j ≺ 0ℤ)) → ⊥
          signs sj r e (inl t) = below j sj r (from-neg (subst (λ x. x ≺ 0ℤ) e t.0)) t.1
          signs sj r e (inr t) = over j sj r (from-pos (subst (λ x. 0ℤ ≺ x) e t.0)) t.1

          by : kind j ≡ slack → (S p).B j ≡ true → Same? (le q) j → ⊥
          by sj r (same e u) = own (to-own (mul-neg (y j) (β j) w))
            where
              one-here : y j ≡ 1ℤ
              one-here = cell j (λ z. not-const j sj (sym z)) ∙ ap₂ ◌-ℤ◌ u (ap ((S q).R (le q)) (sym e) ∙ Gq.shape.gone (le q) Cq.move.l-basic (le q))

              to-own : ((y j ≺ 0ℤ) × (0ℤ ≺ β j)) ⊎ ((0ℤ ≺ y j) × (β j ≺ 0ℤ)) → β (le q) ≺ 0ℤ
              to-own (inl t) = absurd (subst (λ x. x ≺ 0ℤ) one-here t.0).lt
              to-own (inr t) = subst (λ (x : ℕ). (S p).R x 0 ≺ 0ℤ) (sym e) t.1
          by sj r (other e u) =
              signs sj r (cell j (λ z. not-const j sj (sym z)) ∙ ap (λ z. z -ℤ (S q).R (le q) j) u ∙ ring ((S q).R (le q) j ∷ []) (k 0ℤ ⊟⊟ v 0) (⊟ v 0) tt) (mul-neg (y j) (β j) w)

          basic? : kind j ≡ slack → (b : Bool) → (S p).B j ≡ b → ⊥
          basic? sj true r = by sj r (same? (le q) j)
          basic? sj false r = right (Gp.shape.unit j r 0 ∙ δ-other (not-const j sj))

          go : (t : Kind) → kind j ≡ t → ⊥
          go const e =
              left (ap y (Gq.consts j e) ∙ ap₂ (λ (u w : ℤ). u +ℤ negsuc 0 *ℤ (S q).R (le q) 0 +ℤ (S q).R (le q) 0 *ℤ w) (δ-other (not-const (le q) Cq.move.l-slack)) (δ-same 0)
              ∙ ring ((S q).R (le q) 0 ∷ []) (k 0ℤ ⊞ k (negsuc 0) ⊠ v 0 ⊞ v 0 ⊠ k 1ℤ) (k 0ℤ) tt)
          go external e =
              left (cell j (λ z. slack≢const-external z e) ∙ ap₂ ◌-ℤ◌ (δ-other (differ slack≢external kind (le q) j Cq.move.l-slack e)) (Gq.no-vars (le q) j (λ x. slack≢external (sym Cq.move.l-slack ∙ x)) e))
            where
              slack≢const-external : 0 ≡ j → kind j ≡ external → ⊥
              slack≢const-external z e = let a : kind 0 ≡ kind j = ap kind z in let b = Q.start.zero in let c : ◌≡◌ {A = ℕ} 0 1 = cc in omega arith
          go dummy e = right (Gp.still-dummies j e)
          go slack e = basic? e ((S p).B j) refl

      never : ⊥
      never = let t = dot-neg n y β along in none t.0 t.2

    pub no-cycle : ⊥
    no-cycle = go m refl
      where
        go : (x : ℕ) → m ≡ x → ⊥
        go zero e = omega arith
        go (suc x) e =
            let t = greatest x le in
            let hp : t.0 < m = omega (arith, t.1) in
            let f = has-entered m (λ i. (S i).B) le en flips back (le t.0) t.0 (suc t.0) (le_of_lt hp) hp (Q.choice t.0 hp).move.l-basic (now-free m (λ i. (S i).B) le en flips t.0 hp) in
            never t.0 f.0 hp f.1 (λ i h. t.2 i (omega arith)) f.2

-- NO BASIS COMES TWICE in a dual pass
pub no_return : (n : ℕ) (kind : ℕ → Kind) (m : ℕ) (S : ℕ → State) (le en : ℕ → ℕ) → Pass n kind m S le en
    → (a b : ℕ) → a < b → b ≤ m → ((j : ℕ) → (S a).B j ≡ (S b).B j) → ⊥
no_return n kind m S le en Q a b h hb eq = no-cycle n kind (b - a) (λ i. S (a + i)) (λ i. le (a + i)) (λ i. en (a + i)) part (omega arith) back
  where
    whole : a + (b - a) ≡ b
    whole = omega arith

    nil : a + 0 ≡ a
    nil = omega arith

    back : (j : ℕ) → (S (a + 0)).B j ≡ (S (a + (b - a))).B j
    back j = ap (λ x. (S x).B j) nil ∙ eq j ∙ ap (λ x. (S x).B j) (sym whole)

    part : Pass n kind (b - a) (λ i. S (a + i)) (λ i. le (a + i)) (λ i. en (a + i))
    part = record {
      start = good n kind m S le en Q (a + 0) (omega arith);
      next = λ i l. ap S (add-suc a i) ∙ Q.next (a + i) (omega arith);
      choice = λ i l. Q.choice (a + i) (omega arith);
    }
