-- What the steps choose in a pass is what the theory's rule looks for: the end, no row, or Bland's choice. Assumes nothing.
use Rattle.std.specs.Prelude.{◌≡◌, refl, ◌⊎◌, ◌≢◌, List, [], ◌∷◌, ℕ, zero, suc, ◌*◌, ◌≤◌, ◌<◌, Bool, true, false, not, ℤ, pos, negsuc, nat_abs, ◌*ℤ◌}
use Rattle.std.proofs.Common.{sym, ap, ap₂, ◌∙◌, subst, inl, inr, suc-mul, arith}
use Rattle.std.proofs.Math.Option.{Option, none, some}
use lib.Dec.{T, eqb, eqb→eq, ltb, ltb→lt, nltb→le}
use Rattle.laws.specs.Z.{◌≼◌, ◌≺◌}
use Rattle.simplex.specs.Ord.{0ℤ, 1ℤ, ≼-of-eq, ≼-antisym, clash}
use Rattle.simplex.specs.Lin.{Vec}
use Rattle.simplex.specs.Choose.{All, all-zip-of as all-zip}
use Rattle.simplex.specs.Basis.{Mask}
use Rattle.simplex.specs.Opt.{Kind as KindZ, const, external, slack, dummy, slack≢external, slack≢const}
use Rattle.simplex.specs.Pass.{State, Good, Choice}
use Rattle.simplex.specs.Bound.{Mem}
use Rattle.simplex.specs.Search.{Asc}
use Rattle.simplex.specs.Look.{Look, done, no_row, go_on, Looked, at_rest, rowless, chosen, look, Entering, Leaving as LeavingZ}
use Rattle.simplex.proofs.Look.{looked}
use Rattle.steps.specs.Symbol.{Symbol, is_dummy}
use Rattle.steps.specs.Work.{Work}
use Rattle.steps.specs.Optimise.{Goal, goal_cells, get_entering_symbol, get_leaving_row, choose_pivot, ended, stuck, pivot_on, Choice as Chosen}
use Rattle.simplex.specs.bridge.Rows.{Reads, NotIn, In}
use Rattle.simplex.specs.bridge.Table.{kind_of, Live, ReadsWork, in-nonzero}
use Rattle.simplex.specs.bridge.Chosen.{MemS, First, Leaves, Leaving}
use Rattle.simplex.proofs.bridge.Chosen.{not-dummy, restricted-is, slack-not-dummy, first-z, leaving-is}
use Rattle.simplex.specs.bridge.Looks.{at-end, pivots, row-less}
use Rattle.simplex.specs.bridge.Looks as specs

-- ---- small facts
pub in-or-not : (j : ℕ) (xs : List Symbol) → In j xs ⊎ NotIn j xs
in-or-not j [] = inr tt
in-or-not j (x ∷ xs) = go (eqb j x.id) refl (in-or-not j xs)
  where
    go : (b : Bool) → eqb j x.id ≡ b → In j xs ⊎ NotIn j xs → In j (x ∷ xs) ⊎ NotIn j (x ∷ xs)
    go true e r = inl (inl (eqb→eq j x.id (subst T (sym e) tt)))
    go false e (inl m) = inl (inr m)
    go false e (inr m) = inr ((λ p. subst T e (subst (λ (y : ℕ). T (eqb j y)) p (lib.Dec.eqb_refl j))), m)

-- a column that no symbol has is no slack's
pub slack-in : (kind : ℕ → KindZ) (xs : List Symbol) → kind 0 ≡ const → ((i : ℕ) → i ≢ 0 → NotIn i xs → kind i ≡ external) → (j : ℕ) → kind j ≡ slack → In j xs
slack-in kind xs z unknown j s = go (in-or-not j xs)
  where
    go : In j xs ⊎ NotIn j xs → In j xs
    go (inl m) = m
    go (inr m) = absurd (slack≢external (sym s ∙ unknown j (λ e. slack≢const (sym s ∙ ap kind e ∙ z)) m))

pub all_in_lem : (Q : ℕ → Type 0) (j : ℕ) (xs : List Symbol) → All (λ (x : Symbol). Q x.id) xs → In j xs → Q j
all_in_lem Q j [] a m = absurd m
all_in_lem Q j (x ∷ xs) a (inl e) = subst Q (sym e) a.0
all_in_lem Q j (x ∷ xs) a (inr m) = all_in_lem Q j xs a.1 m

pub is_live : (kind : ℕ → KindZ) (e : Symbol) (xs : List Symbol) → All (λ (x : Symbol). kind x.id ≡ kind_of x.kind) xs → MemS e xs → Live kind xs e
is_live kind e [] a m = absurd m
is_live kind e (x ∷ xs) a (inl p) = (inl (ap (λ (y : Symbol). y.id) p), subst (λ (y : Symbol). kind y.id ≡ kind_of y.kind) (sym p) a.0)
is_live kind e (x ∷ xs) a (inr m) = let h = is_live kind e xs a.1 m in (inr h.0, h.1)

pub minus_one : (z : ℤ) → z *ℤ z ≡ 1ℤ → z ≺ 0ℤ → z ≡ negsuc 0
minus_one (pos m) e l = absurd (clash l (Rattle.laws.specs.Z.N→le 0ℤ (pos m) (omega arith)))
minus_one (negsuc zero) e l = refl
minus_one (negsuc (suc m)) e l = absurd (big m (ap nat_abs e))
  where
    big : (m : ℕ) → suc (suc m) * suc (suc m) ≡ 1 → ⊥
    big m e = omega (arith, suc-mul (suc m) (suc (suc m)), suc-mul m (suc (suc m)))

module _ (n : ℕ) (kind : ℕ → KindZ) (w : Work) (B : Mask) (R : ℕ → Vec) (o a : Vec) (H : ReadsWork kind w B R o a)
    (q : Vec) (G : Good n kind (record { B = B; R = R; o = q })) where
  abbrev Enters : (e : Symbol) → Type 0
  Enters = specs.Enters n kind w B R o a H q G

  abbrev Choose : Chosen → Type 0
  Choose = specs.Choose n kind w B R o a H q G

  abbrev xs : List Symbol
  xs = w.tableau.symbols

  enters : (e : Symbol) → MemS e xs → not (is_dummy e) ≡ true → q e.id ≺ 0ℤ → All (λ (x : Symbol). x.id < e.id → not (is_dummy x) ≡ true → 0ℤ ≼ q x.id) xs → Enters e
  enters e m d l A = record { live = live; is-slack = by (not-dummy e d); free = free (B e.id) refl; cell = l; lowest = λ j h s. all_in_lem (λ j. j < e.id → kind j ≡ slack → 0ℤ ≼ q j) j xs lows (slack-in kind xs G.zero H.unknown j s) h s }
    where
      live : Live kind xs e
      live = is_live kind e xs H.kinds m

      by : (kind_of e.kind ≡ slack) ⊎ (kind_of e.kind ≡ external) → kind e.id ≡ slack
      by (inl k) = live.1 ∙ k
      by (inr k) = absurd (clash l (≼-of-eq (sym (G.no-var e.id (live.1 ∙ k)))))

      free : (b : Bool) → B e.id ≡ b → B e.id ≡ false
      free false p = p
      free true p = absurd (clash l (≼-of-eq (sym (G.clear e.id p))))

      lows : All (λ (x : Symbol). x.id < e.id → kind x.id ≡ slack → 0ℤ ≼ q x.id) xs
      lows =
          all-zip (λ (x : Symbol). kind x.id ≡ kind_of x.kind) (λ (x : Symbol). x.id < e.id → not (is_dummy x) ≡ true → 0ℤ ≼ q x.id)
          (λ (x : Symbol). x.id < e.id → kind x.id ≡ slack → 0ℤ ≼ q x.id) (λ x k f h s. f h (slack-not-dummy x (sym k ∙ s))) xs H.kinds A

  pub choose-is : (b : ℕ) (g : Goal) → Reads b xs (goal_cells g w) q → Choose (choose_pivot g w)
  unfolding choose_pivot get_entering_symbol get_leaving_row
  choose-is b g h = by_first (get_entering_symbol g w) (first-z b 0 q xs (goal_cells g w) H.up h)
    where
      by_row : (e : Symbol) (E : Enters e) (t : Option Symbol)
          → Leaving kind w.tableau.cutoff w.tableau.symbols w.tableau.rows w.tableau.objective w.artificial B R o a H e.id (in-nonzero e.id w.tableau.symbols H.up E.live.0) t
          → Choose (elim t [ none ↦ stuck | some l ↦ pivot_on l e ])
      by_row e E none f = row-less e E f
      by_row e E (some l) L = pivots l e E L

      by_first : (t : Option Symbol) → First q xs t → Choose (elim t [ none ↦ ended | some e ↦ elim (get_leaving_row e w) [ none ↦ stuck | some l ↦ pivot_on l e ] ])
      by_first t (First.nobody A) =
          at-end (λ j s. all_in_lem (λ j. kind j ≡ slack → 0ℤ ≼ q j) j xs
          (all-zip (λ (x : Symbol). kind x.id ≡ kind_of x.kind) (λ (x : Symbol). not (is_dummy x) ≡ true → 0ℤ ≼ q x.id) (λ (x : Symbol). kind x.id ≡ slack → 0ℤ ≼ q x.id)
          (λ x k f s. f (slack-not-dummy x (sym k ∙ s))) xs H.kinds A) (slack-in kind xs G.zero H.unknown j s) s)
      by_first t (First.winner e m d l A) =
          let E = enters e m d l A in
          by_row e E (get_leaving_row e w) (leaving-is kind w.tableau.cutoff w.tableau.symbols w.tableau.rows w.tableau.objective w.artificial B R o a H e.id (in-nonzero e.id w.tableau.symbols H.up E.live.0))

  -- on -1 it is Bland's choice
  pub choice-is : ((j : ℕ) → kind j ≡ slack → j < n) → (l e : Symbol) (E : Enters e)
      → Leaves kind w.tableau.cutoff w.tableau.symbols w.tableau.rows w.tableau.objective w.artificial B R o a H e.id (in-nonzero e.id w.tableau.symbols H.up E.live.0) l
      → R l.id e.id ≡ negsuc 0 → Choice n kind (record { B = B; R = R; o = q }) l.id e.id
  choice-is inside l e E L u = record {
    in-n = inside e.id E.is-slack;
    e-free = E.free;
    e-slack = E.is-slack;
    e-cell = E.cell;
    lowest = E.lowest;
    l-basic = L.basic;
    l-slack = by (restricted-is l L.restricted);
    l-cell = u;
    least = λ j b s h. (L.before u j b s h).least;
    ties = λ j b s h. (L.before u j b s h).ties;
  }
    where
      by : (kind_of l.kind ≡ slack) ⊎ (kind_of l.kind ≡ dummy) → kind l.id ≡ slack
      by (inl k) = L.live.1 ∙ k
      by (inr k) = absurd (clash L.cell (≼-of-eq (sym (G.dummies l.id e.id (L.live.1 ∙ k) E.is-slack))))

-- ---- and what the theory's rule looks for: the choice is determined
module _ (n : ℕ) (kind : ℕ → KindZ) (ids : List ℕ) (asc : Asc ids) (cover : (j : ℕ) → kind j ≡ slack → Mem j ids) (S : State) (G : Good n kind S) where
  one-entering : (e e' : ℕ) → kind e ≡ slack → S.o e ≺ 0ℤ → ((j : ℕ) → j < e → kind j ≡ slack → 0ℤ ≼ S.o j) → Entering kind ids S e' → e' ≡ e
  one-entering e e' s c low E = go (ltb e e') (ltb→lt e e') (nltb→le e e') (ltb e' e) (ltb→lt e' e) (nltb→le e' e)
    where
      go : (x : Bool) → (T x → e < e') → (T (not x) → e' ≤ e) → (y : Bool) → (T y → e' < e) → (T (not y) → e ≤ e') → e' ≡ e
      go true f g y h k = absurd (clash c (E.lowest e (f tt) s))
      go false f g true h k = absurd (clash E.cell (low e' (h tt) E.is-slack))
      go false f g false h k = omega (arith, g tt, k tt)

  pub look-pivot : (l e : ℕ) → Choice n kind S l e → look kind ids S ≡ go_on l e
  look-pivot l e C = go (look kind ids S) (looked kind ids asc cover n S G)
    where
      cell : S.R l e ≺ 0ℤ
      cell = subst (λ (z : ℤ). z ≺ 0ℤ) (sym C.l-cell) (record { lt = tt })

      same_row : (l' : ℕ) → LeavingZ kind ids S e l' → l' ≡ l
      same_row l' L =
          let eq = ≼-antisym (L.least l C.l-basic C.l-slack cell) (C.least l' L.basic L.is-slack L.cell) in
          omega (arith, L.ties l C.l-basic C.l-slack cell eq, C.ties l' L.basic L.is-slack L.cell (sym eq))

      go : (k : Look) → Looked kind ids S k → k ≡ go_on l e
      go k (at_rest h) = absurd (clash C.e-cell (h e C.e-slack))
      go k (rowless e' E h) =
          absurd (clash cell (subst (λ (x : ℕ). 0ℤ ≼ S.R l x) (one-entering e e' C.e-slack C.e-cell C.lowest E) (h l C.l-basic C.l-slack)))
      go k (chosen l' e' E L) =
          let p = one-entering e e' C.e-slack C.e-cell C.lowest E in
          ap₂ go_on (same_row l' (subst (λ (x : ℕ). LeavingZ kind ids S x l') p L)) p

  pub look-end : ((j : ℕ) → kind j ≡ slack → 0ℤ ≼ S.o j) → look kind ids S ≡ done
  look-end h = go (look kind ids S) (looked kind ids asc cover n S G)
    where
      go : (k : Look) → Looked kind ids S k → k ≡ done
      go k (at_rest _) = refl
      go k (rowless e' E _) = absurd (clash E.cell (h e' E.is-slack))
      go k (chosen l' e' E L) = absurd (clash E.cell (h e' E.is-slack))

  pub look-stuck : (e : ℕ) → kind e ≡ slack → S.o e ≺ 0ℤ → ((j : ℕ) → j < e → kind j ≡ slack → 0ℤ ≼ S.o j) → ((j : ℕ) → S.B j ≡ true → kind j ≡ slack → S.R j e ≺ 0ℤ → ⊥) → look kind ids S ≡ no_row e
  look-stuck e s c low f = go (look kind ids S) (looked kind ids asc cover n S G)
    where
      go : (k : Look) → Looked kind ids S k → k ≡ no_row e
      go k (at_rest h) = absurd (clash c (h e s))
      go k (rowless e' E h) = ap no_row (one-entering e e' s c low E)
      go k (chosen l' e' E L) = absurd (f l' L.basic L.is-slack (subst (λ (x : ℕ). S.R l' x ≺ 0ℤ) (one-entering e e' s c low E) L.cell))
