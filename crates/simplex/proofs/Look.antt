-- An optimise pass as a computed rule: what it looks for, that this is Bland's choice, and a budget that is always enough. Assumes nothing.
use Rattle.std.specs.Prelude.{◌≡◌, ◌⊎◌, ◌≢◌, List, [], ◌∷◌, map, Bool, true, false, not, ◌&&◌, length, ℤ}
use Rattle.std.proofs.Math.Path.{refl, ap₂, subst}
use Rattle.std.proofs.Common.{sym, ap, ◌∙◌, inl, inr, le_of_lt, true≢false}
use Prim.Native.Nat.{ℕ, zero, suc, ◌≤◌, ◌<◌}
use Rattle.std.proofs.Math.Dec.{T}
use Rattle.std.proofs.Math.IntN.{neg_ℤ}
use Rattle.std.specs.Int.Signed.{lt_z, lt_z_no}
use Rattle.laws.specs.Z.{◌≼◌, ◌≺◌}
use Rattle.simplex.specs.Ord.{0ℤ, ≼-of-eq, clash, ≺-irrefl}
use Rattle.simplex.specs.Opt.{Kind, const, external, slack, dummy}
use Rattle.simplex.specs.Choose.{choose, trues, All, Distinct}
use Rattle.simplex.specs.Pass.{State, step, Good, Choice, step-good}
use Rattle.simplex.specs.Bland.{Pass}
use Rattle.simplex.specs.Bound.{Mem}
use Rattle.simplex.proofs.Bound.{pass-bound}
use Rattle.simplex.specs.Search.{Found, first, First, Asc, smallest, Smallest, Beats}
use Rattle.simplex.proofs.Search.{first-is, smallest-is}
use Rattle.simplex.specs.Look.{may_enter, restricted, both, below, cheap, loose-above, Look, found-row, next, after, lv, ev, Pivots, at_rest, chosen, done, go_on, no_row, rowless}
use Rattle.simplex.specs.Look as specs

may-enter : (t : Kind) → may_enter t ≡ true → (t ≡ slack) ⊎ (t ≡ external)
unfolding may_enter
may-enter const e = absurd (true≢false (sym e))
may-enter external e = inr refl
may-enter slack e = inl refl
may-enter dummy e = absurd (true≢false (sym e))

is-restricted : (t : Kind) → restricted t ≡ true → (t ≡ slack) ⊎ (t ≡ dummy)
unfolding restricted
is-restricted const e = absurd (true≢false (sym e))
is-restricted external e = absurd (true≢false (sym e))
is-restricted slack e = inl refl
is-restricted dummy e = inr refl

at_mem : (Q : ℕ → Type 0) (l : List ℕ) → All Q l → (j : ℕ) → Mem j l → Q j
at_mem Q [] a j h = absurd h
at_mem Q (y ∷ l) a j (inl e) = subst Q (sym e) a.0
at_mem Q (y ∷ l) a j (inr h) = at_mem Q l a.1 j h

not-below : (z : ℤ) → lt_z z 0ℤ ≡ false → 0ℤ ≼ z
not-below z e = lt_z_no (subst (λ (b : Bool). T (not b)) (sym e) tt)

is_below : (z : ℤ) → z ≺ 0ℤ → lt_z z 0ℤ ≡ true
is_below z h = go (lt_z z 0ℤ) refl
  where
    go : (b : Bool) → lt_z z 0ℤ ≡ b → lt_z z 0ℤ ≡ true
    go true e = e
    go false e = absurd (clash h (not-below z e))

-- the tests of the two walks
module _ (kind : ℕ → Kind) (S : State) where
  abbrev loose : ℕ → ℕ → Bool
  loose = specs.loose kind S

  loose-yes : (e j : ℕ) → S.B j ≡ true → kind j ≡ slack → S.R j e ≺ 0ℤ → loose e j ≡ true
  unfolding specs.loose restricted
  loose-yes e j b s h = ap₂ (λ (t : Kind) (c : Bool). restricted t && (c && lt_z (S.R j e) 0ℤ)) s b ∙ is_below (S.R j e) h

module _ (kind : ℕ → Kind) (ids : List ℕ) where
  abbrev row-for : State → Found → Look
  row-for = specs.row-for kind ids

  abbrev look : State → Look
  look = specs.look kind ids

  abbrev Entering : (S : State) (e : ℕ) → Type 0
  Entering = specs.Entering kind ids

  abbrev Leaving : (S : State) (e l : ℕ) → Type 0
  Leaving = specs.Leaving kind ids

  abbrev Looked : (S : State) → Look → Type 0
  Looked = specs.Looked kind ids

  module _ (asc : Asc ids) (cover : (j : ℕ) → kind j ≡ slack → Mem j ids) (n : ℕ) (S : State) (G : Good n kind S) where
    dear : (j : ℕ) → kind j ≡ slack → cheap kind S j ≡ false → 0ℤ ≼ S.o j
    unfolding cheap may_enter
    dear j s h = not-below (S.o j) (ap (λ (t : Kind). may_enter t && lt_z (S.o j) 0ℤ) (sym s) ∙ h)

    tight : (e j : ℕ) → S.B j ≡ true → kind j ≡ slack → loose kind S e j ≡ false → 0ℤ ≼ S.R j e
    unfolding specs.loose restricted
    tight e j b s h = not-below (S.R j e) (ap₂ (λ (t : Kind) (c : Bool). restricted t && (c && lt_z (S.R j e) 0ℤ)) (sym s) (sym b) ∙ h)

    entering : (e : ℕ) → cheap kind S e ≡ true → All (λ j. j < e → cheap kind S j ≡ false) ids → Entering S e
    unfolding cheap
    entering e c A =
        let t = both (may_enter (kind e)) (lt_z (S.o e) 0ℤ) c in
        let s = no-variable (below (S.o e) t.1) (may-enter (kind e) t.0) in
        record { listed = cover e s; is-slack = s; cell = below (S.o e) t.1; lowest = λ j l sj. dear j sj (at_mem (λ j. j < e → cheap kind S j ≡ false) ids A j (cover j sj) l) }
      where
        no-variable : S.o e ≺ 0ℤ → (kind e ≡ slack) ⊎ (kind e ≡ external) → kind e ≡ slack
        no-variable h (inl p) = p
        no-variable h (inr p) = absurd (≺-irrefl (subst (λ z. z ≺ 0ℤ) (G.no-var e p) h))

    leaving : (e l : ℕ) → kind e ≡ slack → loose kind S e l ≡ true → All (λ j. loose kind S e j ≡ true → Beats (loose kind S e) (λ j. S.R j 0) (λ j. neg_ℤ (S.R j e)) (loose-above kind S e) l j) ids → Leaving S e l
    unfolding specs.loose
    leaving e l se c A =
        let t = both (restricted (kind l)) (S.B l && lt_z (S.R l e) 0ℤ) c in
        let u = both (S.B l) (lt_z (S.R l e) 0ℤ) t.1 in
        record {
          basic = u.0;
          is-slack = no-dummy (below (S.R l e) u.1) (is-restricted (kind l) t.0);
          cell = below (S.R l e) u.1;
          least = λ j b s h. (beats j b s h).least;
          ties = λ j b s h. (beats j b s h).ties;
        }
      where
        no-dummy : S.R l e ≺ 0ℤ → (kind l ≡ slack) ⊎ (kind l ≡ dummy) → kind l ≡ slack
        no-dummy h (inl p) = p
        no-dummy h (inr p) = absurd (≺-irrefl (subst (λ z. z ≺ 0ℤ) (G.dummies l e p se) h))

        beats : (j : ℕ) → S.B j ≡ true → kind j ≡ slack → S.R j e ≺ 0ℤ → Beats (loose kind S e) (λ j. S.R j 0) (λ j. neg_ℤ (S.R j e)) (loose-above kind S e) l j
        beats j b s h = at_mem (λ j. loose kind S e j ≡ true → Beats (loose kind S e) (λ j. S.R j 0) (λ j. neg_ℤ (S.R j e)) (loose-above kind S e) l j) ids A j (cover j s) (loose-yes kind S e j b s h)

    pub looked : Looked S (look S)
    unfolding specs.look specs.row-for found-row
    looked = by_first (first (cheap kind S) ids) (first-is (cheap kind S) ids asc)
      where
        by_row : (e : ℕ) → Entering S e → (f : Found) → Smallest (loose kind S e) (λ j. S.R j 0) (λ j. neg_ℤ (S.R j e)) (loose-above kind S e) ids f → Looked S (found-row e f)
        by_row e E f (Smallest.nobody A) = rowless e E (λ j b s. tight e j b s (at_mem (λ j. loose kind S e j ≡ false) ids A j (cover j s)))
        by_row e E f (Smallest.winner l c A) = chosen l e E (leaving e l E.is-slack c A)

        by_first : (f : Found) → First (cheap kind S) ids f → Looked S (row-for S f)
        by_first f (First.nobody A) = at_rest (λ j s. dear j s (at_mem (λ j. cheap kind S j ≡ false) ids A j (cover j s)))
        by_first f (First.winner e c A) = by_row e (entering e c A) (smallest (loose kind S e) (λ j. S.R j 0) (λ j. neg_ℤ (S.R j e)) (loose-above kind S e) ids) (smallest-is (loose kind S e) (λ j. S.R j 0) (λ j. neg_ℤ (S.R j e)) (loose-above kind S e) ids asc)

module _ (n : ℕ) (kind : ℕ → Kind) (ids : List ℕ) (asc : Asc ids) (cover : (j : ℕ) → kind j ≡ slack → Mem j ids) (inside : (j : ℕ) → Mem j ids → j < n) where
  is_free : (S : State) → Good n kind S → (e : ℕ) → S.o e ≺ 0ℤ → S.B e ≡ false
  is_free S G e h = go (S.B e) refl
    where
      go : (b : Bool) → S.B e ≡ b → S.B e ≡ false
      go false r = r
      go true r = absurd (clash h (≼-of-eq (sym (G.clear e r))))

  choice : (S : State) → Good n kind S → (k : Look) → Looked kind ids S k → Pivots S k → Choice n kind S (lv k) (ev k)
  unfolding lv ev
  choice S G k (at_rest h) p = absurd p
  choice S G k (rowless e E h) p = absurd p
  choice S G k (chosen l e E L) p = record {
    in-n = inside e E.listed;
    e-free = is_free S G e E.cell;
    e-slack = E.is-slack;
    e-cell = E.cell;
    lowest = E.lowest;
    l-basic = L.basic;
    l-slack = L.is-slack;
    l-cell = p;
    least = L.least;
    ties = L.ties;
  }

  stepped : (S : State) (k : Look) → Pivots S k → next kind ids S k ≡ step (lv k) (ev k) S
  unfolding next lv ev
  stepped S done p = absurd p
  stepped S (no_row e) p = absurd p
  stepped S (go_on l e) p = refl

  module _ (S : State) (m : ℕ) (G : Good n kind S) (all : (i : ℕ) → i < m → Pivots (after kind ids S i) (look kind ids (after kind ids S i))) where
    good-after : (i : ℕ) → i ≤ m → Good n kind (after kind ids S i)
    unfolding after
    good-after zero h = G
    good-after (suc i) h =
        let T = after kind ids S i in
        let k = look kind ids T in
        subst (Good n kind) (sym (stepped T k (all i h))) (step-good n kind T (good-after i (le_of_lt h)) (lv k) (ev k) (choice T (good-after i (le_of_lt h)) k (looked kind ids asc cover n T (good-after i (le_of_lt h))) (all i h)))

    pub pass : Pass n kind m (after kind ids S) (λ i. lv (look kind ids (after kind ids S i))) (λ i. ev (look kind ids (after kind ids S i)))
    unfolding after
    pass = record {
      start = G;
      next = λ i h. stepped (after kind ids S i) (look kind ids (after kind ids S i)) (all i h);
      choice = λ i h. choice (after kind ids S i) (good-after i (le_of_lt h)) (look kind ids (after kind ids S i)) (looked kind ids asc cover n (after kind ids S i) (good-after i (le_of_lt h))) (all i h);
    }

    -- A BUDGET THAT IS ENOUGH: m pivots in a row are fewer than the ways to choose r of the restricted columns rs
    pub enough : (rs : List ℕ) → Distinct rs → ((j : ℕ) → S.B j ≡ true → kind j ≢ external → Mem j rs) → ((j : ℕ) → kind j ≡ slack → Mem j rs) → m < choose (length rs) (trues (map S.B rs))
    unfolding after
    enough rs once first all-slacks =
        pass-bound n kind m (after kind ids S) (λ i. lv (look kind ids (after kind ids S i))) (λ i. ev (look kind ids (after kind ids S i))) pass rs once first
        (λ i h. all-slacks (ev (look kind ids (after kind ids S i))) (pass.choice i h).e-slack)
