-- The statement's words and the theory's: an assignment of the variables meets the demands, and errs, as the same assignment of the columns does. Assumes nothing.
use Rattle.std.specs.Prelude.{◌≡◌, ◌↔◌, Bool, true, false, not, ◌&&◌, cond, ℕ, zero, suc, ◌<◌, T, ℤ, pos, negsuc, neg_ℤ, nat_abs, ◌+ℤ◌, ◌*ℤ◌, Float}
use Rattle.std.proofs.Math.Path.{refl, ap, ap₂}
use Rattle.std.proofs.Common.{sym, ◌∙◌, subst, true≢false, arith}
use mathlib.Core.List.{List, [], ◌∷◌, map}
use Rattle.std.specs.Float.Ieee.{lt}
use Rattle.laws.specs.Z.{◌≼◌, at, ◌⊕◌, eq_z}
use Rattle.laws.specs.Ring.{ring, v, k, ◌⊞◌, ◌⊠◌}
use Rattle.laws.specs.exact.Whole.{IsZ, val, int, int-z}
use Rattle.simplex.specs.Ord.{0ℤ}
use Rattle.simplex.specs.Lin.{Vec, δ, dot, dot-plus, dot-δ}
use Rattle.simplex.specs.Choose.{All}
use Rattle.simplex.specs.Form.{le!, eq!, ge!, le, eq, ge, Holds, viol, relu}
use Rattle.simplex.specs.Problem.{error}
use Rattle.simplex.specs.Steps.{dot-nil}
use Rattle.steps.specs.Number.{is_whole, cell_bound, within, cutoff_fits}
use Rattle.steps.specs.Strength.{required}
use Rattle.steps.specs.Symbol.{absent}
use Rattle.steps.specs.State.{Term, Relation, at_most, equal, at_least, strength_of}
use Rattle.steps.specs.Add.{whole_within, whole_terms}
use Rattle.steps.specs.Tests.{kept_terms}
use Rattle.simplex.specs.bridge.Nums.{absent-yes, near_zero-absent}
use Rattle.run.specs.Demand.{sum_of, excess, is_required, Related, Meets, above, error_of, weighted}
use Rattle.run.specs.Inv.{non_zero_terms, columns, Held, expr_of, form_of, con_of}

-- ---- whole floats

pub whole-z : (x : Float) → is_whole x ≡ true → IsZ x (val x)
unfolding int is_whole
whole-z x e = int-z x (subst T (sym (same x ∙ e)) tt)
  where
    same : (x : Float) → int x ≡ is_whole x
    same x = refl

pub and_left : (a b : Bool) → a && b ≡ true → a ≡ true
and_left true b e = refl
and_left false b e = absurd (true≢false (sym e))

pub and_right : (a b : Bool) → a && b ≡ true → b ≡ true
and_right true b e = e
and_right false b e = absurd (true≢false (sym e))

whole-coefficient : (t : Term) → whole_within cell_bound t.coefficient ≡ true → IsZ t.coefficient (val t.coefficient)
unfolding whole_within
whole-coefficient t w = whole-z t.coefficient (and_left (is_whole t.coefficient) (within cell_bound t.coefficient) w)

-- a coefficient that is skipped is 0
skipped : (t : Term) → whole_within cell_bound t.coefficient ≡ true → absent t.coefficient ≡ true → val t.coefficient ≡ pos 0
skipped t w n = absent-yes (whole-coefficient t w) n

-- "The whole run keeps its meaning, since the cutoff is below 1.": whole terms that count are those that are not 0
pub kept_whole : (cut : Float) → cutoff_fits cut ≡ true → (ts : List Term) → whole_terms ts ≡ true → kept_terms cut ts ≡ non_zero_terms ts
unfolding kept_terms non_zero_terms whole_terms
kept_whole cut fits [] w = refl
kept_whole cut fits (t ∷ ts) w =
    let a = near_zero-absent cut fits (whole-coefficient t (and_left (whole_within cell_bound t.coefficient) (whole_terms ts) w)) in
    let ih = kept_whole cut fits ts (and_right (whole_within cell_bound t.coefficient) (whole_terms ts) w) in
    ap₂ (λ (b : Bool) (us : List Term). elim b as (λ _. List Term) [ true ↦ us | false ↦ t ∷ us ]) a ih

-- ---- sums

pub sum-cong : (ts : List Term) (x y : ℕ → ℤ) → All (λ (t : Term). x t.variable ≡ y t.variable) ts → sum_of ts x ≡ sum_of ts y
unfolding sum_of
sum-cong [] x y a = refl
sum-cong (t ∷ ts) x y a = ap₂ (λ (p q : ℤ). val t.coefficient *ℤ p +ℤ q) a.0 (sum-cong ts x y a.1)

pub sum_kept : (ts : List Term) (x : ℕ → ℤ) → whole_terms ts ≡ true → sum_of (non_zero_terms ts) x ≡ sum_of ts x
unfolding sum_of non_zero_terms whole_terms
sum_kept [] x w = refl
sum_kept (t ∷ ts) x w = go (absent t.coefficient) refl (sum_kept ts x (and_right (whole_within cell_bound t.coefficient) (whole_terms ts) w))
  where
    go : (b : Bool) → absent t.coefficient ≡ b → sum_of (non_zero_terms ts) x ≡ sum_of ts x → sum_of (elim b [ true ↦ non_zero_terms ts | false ↦ t ∷ non_zero_terms ts ]) x ≡ val t.coefficient *ℤ x t.variable +ℤ sum_of ts x
    go true n ih =
        ih ∙ ring (x t.variable ∷ sum_of ts x ∷ []) (v 1) (k 0ℤ ⊠ v 0 ⊞ v 1) tt
        ∙ ap (λ (z : ℤ). z *ℤ x t.variable +ℤ sum_of ts x) (sym (skipped t (and_left (whole_within cell_bound t.coefficient) (whole_terms ts) w) n))
    go false n ih = ap (λ (z : ℤ). val t.coefficient *ℤ x t.variable +ℤ z) ih

pub dot-expr : (name : ℕ → ℕ) (ts : List Term) (c : ℤ) (σ : Vec) → All (λ (t : Term). name t.variable < columns) ts
    → dot columns (expr_of name ts c) σ ≡ sum_of ts (λ u. σ (name u)) +ℤ c *ℤ σ 0
unfolding expr_of sum_of
dot-expr name [] c σ a =
    dot-plus columns (λ _. 0ℤ) c (δ 0) σ ∙ ap₂ (λ (p q : ℤ). p +ℤ c *ℤ q) (dot-nil columns σ) (dot-δ columns 0 σ (omega arith))
dot-expr name (t ∷ ts) c σ a =
    dot-plus columns (expr_of name ts c) (val t.coefficient) (δ (name t.variable)) σ
    ∙ ap₂ (λ (p q : ℤ). p +ℤ val t.coefficient *ℤ q) (dot-expr name ts c σ a.1) (dot-δ columns (name t.variable) σ a.0)
    ∙ ring (sum_of ts (λ u. σ (name u)) ∷ c ∷ σ 0 ∷ val t.coefficient ∷ σ (name t.variable) ∷ []) (v 0 ⊞ v 1 ⊠ v 2 ⊞ v 3 ⊠ v 4) (v 3 ⊠ v 4 ⊞ v 0 ⊞ v 1 ⊠ v 2) tt

-- ---- the six forms

abs_is : (e : ℤ) → relu e +ℤ relu (neg_ℤ e) ≡ pos (nat_abs e)
abs_is (pos zero) = refl
abs_is (pos (suc n)) = eq_z (at (pos (suc n)) ⊕ at 0ℤ) (at (pos (suc n))) (omega arith)
abs_is (negsuc n) = eq_z (at 0ℤ ⊕ at (pos (suc n))) (at (pos (suc n))) (omega arith)

above-is : (e : ℤ) → relu e ≡ above e
unfolding above
above-is (pos n) = refl
above-is (negsuc n) = refl

-- what a required demand asks
abbrev pub Asks : Relation → ℤ → Type 0
Asks r e = is_required r ≡ true → Related r e

pub holds-is : (r : Relation) (e : ℤ) → Holds (form_of r) e ↔ Asks r e
unfolding form_of is_required Related strength_of
holds-is (at_most s) e = go (lt s required)
  where
    go : (b : Bool) → Holds (cond b le le!) e ↔ (not b ≡ true → e ≼ pos 0)
    go true = ((λ h q. absurd (true≢false (sym q))), (λ f. tt))
    go false = ((λ h q. h), (λ f. f refl))
holds-is (equal s) e = go (lt s required)
  where
    go : (b : Bool) → Holds (cond b eq eq!) e ↔ (not b ≡ true → e ≡ pos 0)
    go true = ((λ h q. absurd (true≢false (sym q))), (λ f. tt))
    go false = ((λ h q. h), (λ f. f refl))
holds-is (at_least s) e = go (lt s required)
  where
    go : (b : Bool) → Holds (cond b ge ge!) e ↔ (not b ≡ true → pos 0 ≼ e)
    go true = ((λ h q. absurd (true≢false (sym q))), (λ f. tt))
    go false = ((λ h q. h), (λ f. f refl))

none_of : (w y : ℤ) → w *ℤ 0ℤ +ℤ y ≡ y
none_of w y = ring (w ∷ y ∷ []) (v 0 ⊠ k 0ℤ ⊞ v 1) (v 1) tt

-- its part of the weighted error, beside that of the others
share : Relation → ℤ → ℤ → ℤ
share r e y = elim (is_required r) [ true ↦ y | false ↦ val (strength_of r) *ℤ error_of r e +ℤ y ]

error-is : (r : Relation) (e y : ℤ) → val (strength_of r) *ℤ viol (form_of r) e +ℤ y ≡ share r e y
unfolding form_of is_required strength_of error_of share
error-is (at_most s) e y = go (lt s required)
  where
    go : (b : Bool) → val s *ℤ viol (cond b le le!) e +ℤ y ≡ elim (not b) [ true ↦ y | false ↦ val s *ℤ above e +ℤ y ]
    go true = ap (λ (z : ℤ). val s *ℤ z +ℤ y) (above-is e)
    go false = none_of (val s) y
error-is (equal s) e y = go (lt s required)
  where
    go : (b : Bool) → val s *ℤ viol (cond b eq eq!) e +ℤ y ≡ elim (not b) [ true ↦ y | false ↦ val s *ℤ pos (nat_abs e) +ℤ y ]
    go true = ap (λ (z : ℤ). val s *ℤ z +ℤ y) (abs_is e)
    go false = none_of (val s) y
error-is (at_least s) e y = go (lt s required)
  where
    go : (b : Bool) → val s *ℤ viol (cond b ge ge!) e +ℤ y ≡ elim (not b) [ true ↦ y | false ↦ val s *ℤ above (neg_ℤ e) +ℤ y ]
    go true = ap (λ (z : ℤ). val s *ℤ z +ℤ y) (above-is (neg_ℤ e))
    go false = none_of (val s) y

-- ---- demand by demand: the columns σ hold the variables x over the denominator σ 0

module _ (column : ℕ → ℕ) (σ : Vec) (x : ℕ → ℤ) where
  abbrev pub Agrees : Held → Type 0
  Agrees h = All (λ (t : Term). (column t.variable < columns) × (σ (column t.variable) ≡ x t.variable)) (non_zero_terms h.demand.terms)

  abbrev pub WholeTerms : Held → Type 0
  WholeTerms h = whole_terms h.demand.terms ≡ true

  insides : (ts : List Term) → All (λ (t : Term). (column t.variable < columns) × (σ (column t.variable) ≡ x t.variable)) ts → All (λ (t : Term). column t.variable < columns) ts
  insides [] a = tt
  insides (t ∷ ts) a = (a.0.0, insides ts a.1)

  values_of : (ts : List Term) → All (λ (t : Term). (column t.variable < columns) × (σ (column t.variable) ≡ x t.variable)) ts → All (λ (t : Term). σ (column t.variable) ≡ x t.variable) ts
  values_of [] a = tt
  values_of (t ∷ ts) a = (a.0.1, values_of ts a.1)

  pub excess-is : (h : Held) → WholeTerms h → Agrees h → dot columns (con_of column h).expr σ ≡ excess h.demand (σ 0) x
  unfolding con_of excess
  excess-is h w a =
      dot-expr column (non_zero_terms h.demand.terms) (val h.demand.constant) σ (insides (non_zero_terms h.demand.terms) a)
      ∙ ap (λ (z : ℤ). z +ℤ val h.demand.constant *ℤ σ 0) (sum-cong (non_zero_terms h.demand.terms) (λ u. σ (column u)) x (values_of (non_zero_terms h.demand.terms) a) ∙ sum_kept h.demand.terms x w)

  pub meets-to : (hs : List Held) → All WholeTerms hs → All Agrees hs → All (Rattle.simplex.specs.Problem.Meets columns σ) (map (con_of column) hs) → Meets (map (λ (h : Held). h.demand) hs) (σ 0) x
  unfolding con_of
  meets-to [] w a m = tt
  meets-to (h ∷ hs) w a m = (subst (λ (e : ℤ). Asks h.demand.relation e) (excess-is h w.0 a.0) ((holds-is h.demand.relation (dot columns (con_of column h).expr σ)).0 m.0), meets-to hs w.1 a.1 m.1)

  pub meets-from : (hs : List Held) → All WholeTerms hs → All Agrees hs → Meets (map (λ (h : Held). h.demand) hs) (σ 0) x → All (Rattle.simplex.specs.Problem.Meets columns σ) (map (con_of column) hs)
  unfolding con_of
  meets-from [] w a m = tt
  meets-from (h ∷ hs) w a m = ((holds-is h.demand.relation (dot columns (con_of column h).expr σ)).1 (subst (λ (e : ℤ). Asks h.demand.relation e) (sym (excess-is h w.0 a.0)) m.0), meets-from hs w.1 a.1 m.1)

  pub error-to : (hs : List Held) → All WholeTerms hs → All Agrees hs → error columns (map (con_of column) hs) σ ≡ weighted (map (λ (h : Held). h.demand) hs) (σ 0) x
  unfolding con_of weighted share
  error-to [] w a = refl
  error-to (h ∷ hs) w a =
      ap₂ (λ (e y : ℤ). val (strength_of h.demand.relation) *ℤ viol (form_of h.demand.relation) e +ℤ y) (excess-is h w.0 a.0) (error-to hs w.1 a.1)
      ∙ error-is h.demand.relation (excess h.demand (σ 0) x) (weighted (map (λ (h : Held). h.demand) hs) (σ 0) x)
