-- What "inputs are whole" gives: each coefficient, the constant and the strength is a whole number within its bound. Assumes nothing.
use Rattle.std.specs.Prelude.{◌≡◌, refl, List, [], ◌∷◌, ℕ, ◌^◌, ◌≤◌, Bool, true, false, not, ◌&&◌, T, ℤ, pos, negsuc, nat_abs, Float}
use Rattle.std.proofs.Common.{sym, ◌∙◌, subst, arith, leb→le}
use Rattle.std.specs.Int.Signed.{lt_z_yes, lt_z_no}
use Rattle.std.specs.Float.{nan, inf, fin}
use Rattle.std.specs.Float.Ieee.{lt, of_bits}
use Rattle.laws.specs.Z.{◌≼◌, ◌≺◌, lt→N}
use Rattle.laws.specs.exact.Whole.{IsZ, Zb, val, int, lit-z}
use Rattle.laws.specs.exact.Compare.{le-z, lt-z}
use Rattle.simplex.specs.Ord.{0ℤ}
use Rattle.simplex.specs.Choose.{All}
use Rattle.simplex.specs.Look.{both}
use Rattle.steps.specs.Number.{cell_bound, constant_bound, is_whole, within, below_zero}
use Rattle.steps.specs.Strength.{required}
use Rattle.steps.specs.State.{Term, Relation, strength_of}
use Rattle.steps.specs.Add.{whole_within, whole_terms, whole_inputs}
use Rattle.simplex.specs.bridge.Nums.{cell_bound-z, constant_bound-z, below_zero-z, magnitude-z}
use Rattle.run.specs.Words.{whole-z}

-- ---- one input
is-int : (x : Float) → is_whole x ≡ int x
unfolding is_whole int
is-int nan = refl
is-int (inf s) = refl
is-int (fin s m e) = refl

pub z-whole : {x : Float} {z : ℤ} → IsZ x z → is_whole x ≡ true
z-whole {x} h = go (int x) (is-int x) (Rattle.laws.specs.exact.Whole.z-int h)
  where
    go : (b : Bool) → is_whole x ≡ b → T b → is_whole x ≡ true
    go true e t = e
    go false e t = absurd t

within-small : {x bound : Float} {b : ℕ} → IsZ bound (pos b) → IsZ x (val x) → within bound x ≡ true → nat_abs (val x) ≤ b
unfolding within
within-small {x} {bound} {b} B h e = leb→le (nat_abs (val x)) b (subst T (sym (sym (le-z (magnitude-z h) B) ∙ e)) tt)

pub whole-within : (bound : Float) (b : ℕ) → IsZ bound (pos b) → (x : Float) → whole_within bound x ≡ true → Zb b x (val x)
unfolding whole_within
whole-within bound b B x e =
    let t = both (is_whole x) (within bound x) e in
    let h = whole-z x t.0 in
    record { isz = h; small = within-small B h t.1 }

-- ---- the inputs of an add
pub record Inputs (ts : List Term) (constant : Float) (r : Relation) : Type 0 where
  pub terms : All (λ (t : Term). Zb 1024 t.coefficient (val t.coefficient)) ts
  pub const : Zb (2 ^ 30) constant (val constant)
  pub strength : IsZ (strength_of r) (val (strength_of r))

terms-z : (ts : List Term) → whole_terms ts ≡ true → All (λ (t : Term). Zb 1024 t.coefficient (val t.coefficient)) ts
unfolding whole_terms
terms-z [] e = tt
terms-z (t ∷ ts) e = let h = both (whole_within cell_bound t.coefficient) (whole_terms ts) e in (whole-within cell_bound 1024 cell_bound-z t.coefficient h.0, terms-z ts h.1)

pub inputs-z : (ts : List Term) (constant : Float) (r : Relation) → whole_inputs ts constant r ≡ true → Inputs ts constant r
unfolding whole_inputs
inputs-z ts constant r e =
    let h = both (whole_terms ts && whole_within constant_bound constant) (is_whole (strength_of r)) e in
    let g = both (whole_terms ts) (whole_within constant_bound constant) h.0 in
    record { terms = terms-z ts g.0; const = whole-within constant_bound (2 ^ 30) constant_bound-z constant g.1; strength = whole-z (strength_of r) h.1 }

-- ---- strengths
pub required-z : IsZ required (pos 1_001_001_000)
unfolding required of_bits int val
required-z = lit-z tt tt

pub nonneg-z : {x : Float} {z : ℤ} → IsZ x z → below_zero x ≡ false → 0ℤ ≼ z
nonneg-z {x} {z} h e = lt_z_no (subst (λ (b : Bool). T (not b)) (sym (sym (below_zero-z h) ∙ e)) tt)

pub below-z : {x : Float} {z : ℤ} → IsZ x z → below_zero x ≡ true → z ≺ 0ℤ
below-z {x} {z} h e = lt_z_yes (subst T (sym (sym (below_zero-z h) ∙ e)) tt)

-- a strength that is not required fits into the objective
pub soft-small : {s : Float} {z : ℤ} → IsZ s z → below_zero s ≡ false → lt s required ≡ true → nat_abs z ≤ 2 ^ 40
soft-small {s} {z} h b e = go z (nonneg-z h b) (lt_z_yes (subst T (sym (sym (lt-z h required-z) ∙ e)) tt))
  where
    go : (z : ℤ) → 0ℤ ≼ z → z ≺ pos 1_001_001_000 → nat_abs z ≤ 2 ^ 40
    go (pos k) l u = omega (arith, lt→N (pos k) (pos 1_001_001_000) u)
    go (negsuc k) l u = absurd l.le
