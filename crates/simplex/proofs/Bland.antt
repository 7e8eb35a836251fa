-- A pass never comes back to a basis (Bland's rule). Assumes nothing.
use Rattle.std.specs.Prelude.{◌≡◌, refl, ◌⊎◌, ◌≢◌, ◌↔◌, [], ◌∷◌, ℕ, zero, suc, ◌+◌, ◌-◌, ◌≤◌, ◌<◌, Bool, true, false, neg_ℤ, ◌*ℤ◌}
use Rattle.std.proofs.Common.{sym, ap, ◌∙◌, subst, inl, inr, le_refl, le_of_lt, eq-or-lt_of_le, add-suc, arith}
use Rattle.laws.specs.Z.{◌≼◌, ◌≺◌}
use Rattle.laws.specs.Ring.{ring, v, k, ◌⊠◌, ⊟◌}
use Rattle.simplex.specs.Ord.{0ℤ, ≼-of-eq, ≼_trans, ≺→≼, clash, mul-neg, ≺-irrefl}
use Rattle.simplex.specs.Lin.{Vec, Same?, same, other, same?, δ-other, dot, dot-neg}
use Rattle.simplex.specs.Tab.{Solves, pivot-objective}
use Rattle.simplex.specs.Basis.{at-column, column-solves}
use Rattle.simplex.specs.Cycle.{greatest, le-zero, Flips, has_left, has-entered, now-basic}
use Rattle.simplex.specs.Opt.{Kind, const, external, slack, dummy, slack≢const}
use Rattle.simplex.specs.Pass.{State, Good, Choice, falls, stuck, unmoved}
use Rattle.simplex.specs.Bland.{Pass}
use Rattle.simplex.specs.Bland as specs

module _ (n : ℕ) (kind : ℕ → Kind) (m : ℕ) (S : ℕ → State) (le en : ℕ → ℕ) (Q : Pass n kind m S le en) where
  abbrev good : (i : ℕ) → i ≤ m → Good n kind (S i)
  good = specs.good n kind m S le en Q

  abbrev solutions : (i : ℕ) → i ≤ m → (σ : Vec) → Solves n (S i).R σ ↔ Solves n (S 0).R σ
  solutions = specs.solutions n kind m S le en Q

  pub values : (i : ℕ) → i ≤ m → (σ : Vec) → Solves n (S 0).R σ → dot n (S i).o σ ≡ dot n (S 0).o σ
  values zero h σ s = refl
  values (suc i) h σ s =
      let G = good i (le_of_lt h) in
      let C = Q.choice i h in
      ap (λ (T : State). dot n T.o σ) (Q.next i h)
      ∙ pivot-objective n (S i).R (le i) (en i) (S i).o σ (G.shape.below (le i) C.l-basic) ((solutions i (le_of_lt h) σ).1 s)
      ∙ values i (le_of_lt h) σ s

  -- the objective's constant never grows
  pub down : (y : ℕ) → y ≤ m → (i : ℕ) → i ≤ y → (S y).o 0 ≼ (S i).o 0
  down zero h i l = ≼-of-eq (ap (λ x. (S x).o 0) (sym (le-zero l)))
  down (suc y) h i l = go (eq-or-lt_of_le l) (λ a. down y (le_of_lt h) i a)
    where
      go : (i ≡ suc y) ⊎ (i < suc y) → (i ≤ y → (S y).o 0 ≼ (S i).o 0) → (S (suc y)).o 0 ≼ (S i).o 0
      go (inl e) ih = ≼-of-eq (ap (λ x. (S x).o 0) (sym e))
      go (inr e) ih =
          ≼_trans (≼-of-eq (ap (λ (T : State). T.o 0) (Q.next y h)))
          (≼_trans (falls n kind (S y) (good y (le_of_lt h)) (le y) (en y) (Q.choice y h)) (ih (omega arith)))

  pub flips : Flips m (λ i. (S i).B) le en
  flips = record {
    next = λ i h j. ap (λ (T : State). T.B j) (Q.next i h);
    out = λ i h. (Q.choice i h).l-basic;
    free = λ i h. (Q.choice i h).e-free;
  }

  not-const : (j : ℕ) → kind j ≡ slack → j ≢ 0
  not-const j s e = slack≢const (sym s ∙ ap kind e ∙ Q.start.zero)

  -- ---- a pass that ends with the basis it began with
  module _ (some : 0 < m) (back : (j : ℕ) → (S 0).B j ≡ (S m).B j) where
    in-n : 0 < n
    in-n = omega (arith, (Q.choice 0 some).in-n)

    -- the objective's constant is the same at both ends, so every leaving row's constant is 0, and the basic solution never moves
    ends : (S m).o 0 ≡ (S 0).o 0
    ends =
        let G = good m (le_refl m) in
        sym (at-column n (S m).B (S m).R G.shape 0 G.shape.const in-n (S m).o G.clear)
        ∙ values m (le_refl m) (λ j. (S m).R j 0) ((solutions m (le_refl m) (λ j. (S m).R j 0)).0 (column-solves n (S m).B (S m).R G.shape 0 G.shape.const in-n))
        ∙ at-column n (S m).B (S m).R G.shape 0 G.shape.const in-n (S 0).o (λ b t. Q.start.clear b (back b ∙ t))

    level : (i : ℕ) → i < m → (S i).R (le i) 0 ≡ 0ℤ
    level i h =
        stuck n kind (S i) (good i (le_of_lt h)) (le i) (en i) (Q.choice i h)
        (≼_trans (down i (le_of_lt h) 0 (omega arith)) (≼_trans (≼-of-eq (sym ends)) (≼_trans (down m (le_refl m) (suc i) h) (≼-of-eq (ap (λ (T : State). T.o 0) (Q.next i h))))))

    fixed : (i : ℕ) → i ≤ m → (j : ℕ) → (S i).R j 0 ≡ (S 0).R j 0
    fixed zero h j = refl
    fixed (suc i) h j =
        ap (λ (T : State). T.R j 0) (Q.next i h) ∙ unmoved n kind (S i) (good i (le_of_lt h)) (le i) (en i) (Q.choice i h) (level i h) j ∙ fixed i (le_of_lt h) j

    -- ---- the contradiction: t is the greatest column that enters, at p; it leaves at q, where s enters. The direction d, column s at q, is a solution, and the objective at p falls along it
    module _ (p q : ℕ) (hp : p < m) (hq : q < m) (top : (i : ℕ) → i < m → en i ≤ en p) (t-leaves : le q ≡ en p) where
      Gp : Good n kind (S p)
      Gp = good p (le_of_lt hp)

      Gq : Good n kind (S q)
      Gq = good q (le_of_lt hq)

      Cp : Choice n kind (S p) (le p) (en p)
      Cp = Q.choice p hp

      Cq : Choice n kind (S q) (le q) (en q)
      Cq = Q.choice q hq

      abbrev d : Vec
      d = λ j. (S q).R j (en q)

      along : dot n (S p).o d ≺ 0ℤ
      along =
          let c = column-solves n (S q).B (S q).R Gq.shape (en q) Cq.e-free Cq.in-n in
          let c₀ = (solutions q (le_of_lt hq) d).0 c in
          subst (λ z. z ≺ 0ℤ) (sym (values p (le_of_lt hp) d c₀ ∙ sym (values q (le_of_lt hq) d c₀) ∙ at-column n (S q).B (S q).R Gq.shape (en q) Cq.e-free Cq.in-n (S q).o Gq.clear)) Cq.e-cell

      -- a slack that is not basic at p and is in the direction's support is at most t
      module _ (j : ℕ) (sj : kind j ≡ slack) (free : (S p).B j ≡ false) where
        at-most-t : d j ≢ 0ℤ → j ≤ en p
        at-most-t nz = go ((S q).B j) refl
          where
            by : Same? j (en q) → (S q).B j ≡ false → j ≤ en p
            by (same e u) r = omega (arith, top q hq)
            by (other e u) r = absurd (nz (Gq.shape.unit j r (en q) ∙ u))

            go : (b : Bool) → (S q).B j ≡ b → j ≤ en p
            go true r = let h = has-entered m (λ i. (S i).B) le en flips back j q p (le_of_lt hq) (le_of_lt hp) r free in omega (arith, top h.0 h.1, h.2)
            go false r = by (same? j (en q)) r

        -- t's own cell is -1
        rises : (S p).o j ≺ 0ℤ → 0ℤ ≺ d j → ⊥
        rises a b = go (eq-or-lt_of_le (at-most-t (λ z. ≺-irrefl (subst (λ x. 0ℤ ≺ x) z b))))
          where
            go : (j ≡ en p) ⊎ (j < en p) → ⊥
            go (inl e) = (subst (λ x. 0ℤ ≺ x) (ap (λ x. (S q).R x (en q)) (e ∙ sym t-leaves) ∙ Cq.l-cell) b).lt
            go (inr l) = clash a (Cp.lowest j l sj)

        -- the tie at 0 would have been j's
        sinks : 0ℤ ≺ (S p).o j → d j ≺ 0ℤ → ⊥
        sinks a b = go ((S q).B j) refl
          where
            none_below : Same? j (en q) → (S q).B j ≡ false → ⊥
            none_below (same e u) r = (subst (λ x. x ≺ 0ℤ) (Gq.shape.unit j r (en q) ∙ u) b).lt
            none_below (other e u) r = ≺-irrefl (subst (λ x. x ≺ 0ℤ) (Gq.shape.unit j r (en q) ∙ u) b)

            flat : (S q).R j 0 ≡ 0ℤ
            flat = fixed q (le_of_lt hq) j ∙ sym (fixed p (le_of_lt hp) j) ∙ Gp.shape.unit j free 0 ∙ δ-other (not-const j sj)

            tie : (S q).R (le q) 0 *ℤ neg_ℤ ((S q).R j (en q)) ≡ (S q).R j 0 *ℤ neg_ℤ ((S q).R (le q) (en q))
            tie =
                ap (λ z. z *ℤ neg_ℤ ((S q).R j (en q))) (level q hq)
                ∙ ring ((S q).R j (en q) ∷ (S q).R (le q) (en q) ∷ []) (k 0ℤ ⊠ (⊟ v 0)) (k 0ℤ ⊠ (⊟ v 1)) tt ∙ ap (λ z. z *ℤ neg_ℤ ((S q).R (le q) (en q))) (sym flat)

            go : (b : Bool) → (S q).B j ≡ b → ⊥
            go false r = none_below (same? j (en q)) r
            go true r = clash a (≺→≼ (subst (λ x. (S p).o x ≺ 0ℤ) (is-t (Cq.ties j r sj b tie) (at-most-t (λ z. ≺-irrefl (subst (λ x. x ≺ 0ℤ) z b)))) Cp.e-cell))
              where
                is-t : le q ≤ j → j ≤ en p → en p ≡ j
                is-t x y = omega arith

      -- no column pulls the objective at p down along d
      none : (j : ℕ) → (S p).o j *ℤ d j ≺ 0ℤ → ⊥
      none j w = go (kind j) refl
        where
          left : (S p).o j ≡ 0ℤ → ⊥
          left z = ≺-irrefl (subst (λ x. x ≺ 0ℤ) (ap (λ x. x *ℤ d j) z ∙ ring (d j ∷ []) (k 0ℤ ⊠ v 0) (k 0ℤ) tt) w)

          right : d j ≡ 0ℤ → ⊥
          right z = ≺-irrefl (subst (λ x. x ≺ 0ℤ) (ap (λ x. (S p).o j *ℤ x) z ∙ ring ((S p).o j ∷ []) (v 0 ⊠ k 0ℤ) (k 0ℤ) tt) w)

          signs : kind j ≡ slack → (S p).B j ≡ false → (((S p).o j ≺ 0ℤ) × (0ℤ ≺ d j)) ⊎ ((0ℤ ≺ (S p).o j) × (d j ≺ 0ℤ)) → ⊥
          signs sj free (inl t) = rises j sj free t.0 t.1
          signs sj free (inr t) = sinks j sj free t.0 t.1

          basic : kind j ≡ slack → (b : Bool) → (S p).B j ≡ b → ⊥
          basic sj true r = left (Gp.clear j r)
          basic sj false r = signs sj r (mul-neg ((S p).o j) (d j) w)

          go : (t : Kind) → kind j ≡ t → ⊥
          go const e = right (ap (λ x. (S q).R x (en q)) (Gq.consts j e) ∙ Gq.shape.unit 0 Gq.shape.const (en q) ∙ δ-other (λ x. not-const (en q) Cq.e-slack (sym x)))
          go external e = left (Gp.no-var j e)
          go dummy e = right (Gq.dummies j (en q) e Cq.e-slack)
          go slack e = basic e ((S p).B j) refl

      never : ⊥
      never = let t = dot-neg n (S p).o d along in none t.0 t.2

    pub no-cycle : ⊥
    no-cycle = go m refl
      where
        go : (x : ℕ) → m ≡ x → ⊥
        go zero e = omega arith
        go (suc x) e =
            let t = greatest x en in
            let hp : t.0 < m = omega (arith, t.1) in
            let f = has_left m (λ i. (S i).B) le en flips back (en t.0) (suc t.0) t.0 hp (le_of_lt hp) (now-basic m (λ i. (S i).B) le en flips t.0 hp) (Q.choice t.0 hp).e-free in
            never t.0 f.0 hp f.1 (λ i h. t.2 i (omega arith)) f.2

-- NO BASIS COMES TWICE. From any two places of a pass the part between them would be a cycle
pub no_return : (n : ℕ) (kind : ℕ → Kind) (m : ℕ) (S : ℕ → State) (le en : ℕ → ℕ) → Pass n kind m S le en
    → (a b : ℕ) → a < b → b ≤ m → ((j : ℕ) → (S a).B j ≡ (S b).B j) → ⊥
no_return n kind m S le en Q a b h hb eq = no-cycle n kind (b - a) (λ i. S (a + i)) (λ i. le (a + i)) (λ i. en (a + i)) part (omega arith) back
  where
    whole : a + (b - a) ≡ b
    whole = omega arith

    nil : a + 0 ≡ a
    nil = omega arith

    back : (j : ℕ) → (S (a + 0)).B j ≡ (S (a + (b - a))).B j
    back j = ap (λ x. (S x).B j) nil ∙ eq j ∙ ap (λ x. (S x).B j) (sym whole)

    part : Pass n kind (b - a) (λ i. S (a + i)) (λ i. le (a + i)) (λ i. en (a + i))
    part = record {
      start = good n kind m S le en Q (a + 0) (omega arith);
      next = λ i l. ap S (add-suc a i) ∙ Q.next (a + i) (omega arith);
      choice = λ i l. Q.choice (a + i) (omega arith);
    }
