-- What is stored once a demand is gone: the other demands' entries, and no use of a variable that they do not name. Assumes nothing.
use Rattle.std.specs.Prelude.{◌≡◌, refl, ◌≢◌, List, [], ◌∷◌, map, ℕ, ◌+◌, Bool, true, false, cond, T, eqb}
use Rattle.std.proofs.Common.{sym, ◌∙◌, arith}
use Rattle.std.proofs.Math.Path.{ap, subst}
use Rattle.std.proofs.Math.Option.{Option, none, some}
use Rattle.std.proofs.Math.Dec.{eqb_refl}
use Rattle.simplex.specs.Choose.{All, all_map}
use Rattle.steps.specs.Number.{one64}
use Rattle.steps.specs.State.{Term, Constraint, Edit}
use Rattle.steps.specs.Edit.{edit_terms}
use Rattle.steps.specs.Tests.{find_constraint, drop_constraint, find_edit, drop_edit}
use Rattle.steps.specs.Readable.{uses_in}
use Rattle.keeps.specs.Lists.{Up, total}
use Rattle.keeps.specs.Keys.{find_by, drop_by, find-some, drop-total, find_constraint-is, drop_constraint-is, find_edit-is, drop_edit-is}
use Rattle.keeps.specs.Reads.{con_number, edit_number, used_by}
use Rattle.simplex.specs.bridge.Nums.{one64-z, absent-z}
use Rattle.run.specs.Demand.{Key, of_constraint, of_edit, same_key}
use Rattle.run.specs.Inv.{non_zero_terms, Held, find_held, Once, ConstraintAt, EditAt}
use Rattle.keeps.specs.Lookup.{find-drop-same, find-drop-other, eq_no}
use Rattle.run.specs.Perm.{without_held, out-same, out-other, each-found}
use Rattle.run.specs.Uses.{by_number}
use Rattle.run.specs.RemoveUses.{Unnamed}

-- ---- an edit's term counts
pub edit-terms : (u : ℕ) → non_zero_terms (edit_terms u) ≡ edit_terms u
unfolding edit_terms non_zero_terms
edit-terms u = ap (λ (b : Bool). elim b as (λ x. List Term) [ true ↦ [] | false ↦ record { variable = u; coefficient = one64 } ∷ [] ]) (absent-z one64-z)

-- ---- the uses in two parts
abbrev con_uses : ℕ → Constraint → ℕ
con_uses x c = uses_in x c.terms

abbrev edit_uses : ℕ → Edit → ℕ
edit_uses x e = uses_in x (edit_terms e.variable)

pub split-constraint : (x n : ℕ) (cs : List Constraint) (es : List Edit) (c : Constraint) → find_constraint n cs ≡ some c → used_by x cs es ≡ uses_in x c.terms + used_by x (drop_constraint n cs) es
split-constraint x n cs es c f =
    let d : total (con_uses x) cs ≡ con_uses x c + total (con_uses x) (drop_by con_number n cs) = drop-total con_number (con_uses x) n cs c (sym (find_constraint-is n cs) ∙ f) in
    let e : total (con_uses x) (drop_constraint n cs) ≡ total (con_uses x) (drop_by con_number n cs) = ap (total (con_uses x)) (drop_constraint-is n cs) in
    omega (arith, d, e)

pub split-edit : (x u : ℕ) (cs : List Constraint) (es : List Edit) (e : Edit) → find_edit u es ≡ some e → used_by x cs es ≡ uses_in x (edit_terms u) + used_by x cs (drop_edit u es)
split-edit x u cs es e f =
    let g : find_by edit_number u es ≡ some e = sym (find_edit-is u es) ∙ f in
    let d : total (edit_uses x) es ≡ edit_uses x e + total (edit_uses x) (drop_by edit_number u es) = drop-total edit_number (edit_uses x) u es e g in
    let q : total (edit_uses x) (drop_edit u es) ≡ total (edit_uses x) (drop_by edit_number u es) = ap (total (edit_uses x)) (drop_edit-is u es) in
    let r : edit_uses x e ≡ uses_in x (edit_terms u) = ap (λ (k : ℕ). uses_in x (edit_terms k)) (sym (find-some edit_number u es e g)) in
    omega (arith, d, q, r)

-- ---- a variable that nothing stored uses is named by no demand
unnamed-terms : (x : ℕ) (ts : List Term) → uses_in x ts ≡ 0 → All (λ (t : Term). t.variable ≢ x) ts
unfolding uses_in
unnamed-terms x [] e = tt
unnamed-terms x (t ∷ ts) e = (apart (eqb x t.variable) refl e, unnamed-terms x ts (omega arith))
  where
    apart : (b : Bool) → eqb x t.variable ≡ b → cond b 1 0 + uses_in x ts ≡ 0 → t.variable ≢ x
    apart true q z p = omega arith
    apart false q z p = subst T q (subst (λ (y : ℕ). T (eqb x y)) (sym p) (eqb_refl x))

pub unnamed : (cs : List Constraint) (es : List Edit) (held : List Held) → Once held → ((n : ℕ) → ConstraintAt (find_constraint n cs) (find_held (of_constraint n) held)) → ((u : ℕ) → EditAt u (find_edit u es) (find_held (of_edit u) held))
    → (x : ℕ) → used_by x cs es ≡ 0 → Unnamed x held
unnamed cs es held once con edi x z = all_map (λ (h : Held) f. one h h.demand.key f) held (each-found held once)
  where
    of-constraint : (n : ℕ) (h : Held) (o : Option Constraint) → find_constraint n cs ≡ o → ConstraintAt o (some h) → All (λ (t : Term). t.variable ≢ x) (non_zero_terms h.demand.terms)
    of-constraint n h none q a = absurd a
    of-constraint n h (some c) q a =
        subst (All (λ (t : Term). t.variable ≢ x)) a.terms (unnamed-terms x c.terms (omega (arith, split-constraint x n cs es c q)))

    of-edit : (u : ℕ) (h : Held) (o : Option Edit) → find_edit u es ≡ o → EditAt u o (some h) → All (λ (t : Term). t.variable ≢ x) (non_zero_terms h.demand.terms)
    of-edit u h none q a = absurd a
    of-edit u h (some e) q a =
        subst (All (λ (t : Term). t.variable ≢ x)) (sym (ap non_zero_terms a.terms ∙ edit-terms u)) (unnamed-terms x (edit_terms u) (omega (arith, split-edit x u cs es e q)))

    one : (h : Held) (k : Key) → find_held k held ≡ some h → All (λ (t : Term). t.variable ≢ x) (non_zero_terms h.demand.terms)
    one h (of_constraint n) f = of-constraint n h (find_constraint n cs) refl (subst (ConstraintAt (find_constraint n cs)) f (con n))
    one h (of_edit u) f = of-edit u h (find_edit u es) refl (subst (EditAt u (find_edit u es)) f (edi u))

-- ---- what is found once one is dropped
module _ (cs : List Constraint) (es : List Edit) (held : List Held) (once : Once held) (con : (n : ℕ) → ConstraintAt (find_constraint n cs) (find_held (of_constraint n) held)) (edi : (u : ℕ) → EditAt u (find_edit u es) (find_held (of_edit u) held)) where
  pub constraints-less : (n : ℕ) → Up 0 (map con_number cs) → (i : ℕ) → ConstraintAt (find_constraint i (drop_constraint n cs)) (find_held (of_constraint i) (without_held (of_constraint n) held))
  unfolding same_key
  constraints-less n up i = by_number i n
      (λ p. subst (λ (j : ℕ). ConstraintAt (find_constraint j (drop_constraint n cs)) (find_held (of_constraint j) (without_held (of_constraint n) held))) (sym p)
      (subst (ConstraintAt (find_constraint n (drop_constraint n cs))) (sym (out-same (of_constraint n) held once)) (subst (λ (o : Option Constraint). ConstraintAt o none) (sym gone) tt)))
      (λ p. subst (ConstraintAt (find_constraint i (drop_constraint n cs))) (sym (out-other (of_constraint i) (of_constraint n) held (eq_no i n p)))
      (subst (λ (o : Option Constraint). ConstraintAt o (find_held (of_constraint i) held)) (sym (stays p)) (con i)))
    where
      gone : find_constraint n (drop_constraint n cs) ≡ none
      gone = find_constraint-is n (drop_constraint n cs) ∙ ap (find_by con_number n) (drop_constraint-is n cs) ∙ find-drop-same con_number n cs up

      stays : i ≢ n → find_constraint i (drop_constraint n cs) ≡ find_constraint i cs
      stays p = find_constraint-is i (drop_constraint n cs) ∙ ap (find_by con_number i) (drop_constraint-is n cs) ∙ find-drop-other con_number i n cs p ∙ sym (find_constraint-is i cs)

  pub edits-beside : (n u : ℕ) → EditAt u (find_edit u es) (find_held (of_edit u) (without_held (of_constraint n) held))
  unfolding same_key
  edits-beside n u = subst (EditAt u (find_edit u es)) (sym (out-other (of_edit u) (of_constraint n) held refl)) (edi u)

  pub edits-less : (n : ℕ) → Up 0 (map edit_number es) → (i : ℕ) → EditAt i (find_edit i (drop_edit n es)) (find_held (of_edit i) (without_held (of_edit n) held))
  unfolding same_key
  edits-less n up i = by_number i n
      (λ p. subst (λ (j : ℕ). EditAt j (find_edit j (drop_edit n es)) (find_held (of_edit j) (without_held (of_edit n) held))) (sym p)
      (subst (EditAt n (find_edit n (drop_edit n es))) (sym (out-same (of_edit n) held once)) (subst (λ (o : Option Edit). EditAt n o none) (sym gone) tt)))
      (λ p. subst (EditAt i (find_edit i (drop_edit n es))) (sym (out-other (of_edit i) (of_edit n) held (eq_no i n p)))
      (subst (λ (o : Option Edit). EditAt i o (find_held (of_edit i) held)) (sym (stays p)) (edi i)))
    where
      gone : find_edit n (drop_edit n es) ≡ none
      gone = find_edit-is n (drop_edit n es) ∙ ap (find_by edit_number n) (drop_edit-is n es) ∙ find-drop-same edit_number n es up

      stays : i ≢ n → find_edit i (drop_edit n es) ≡ find_edit i es
      stays p = find_edit-is i (drop_edit n es) ∙ ap (find_by edit_number i) (drop_edit-is n es) ∙ find-drop-other edit_number i n es p ∙ sym (find_edit-is i es)

  pub constraints-beside : (n i : ℕ) → ConstraintAt (find_constraint i cs) (find_held (of_constraint i) (without_held (of_edit n) held))
  unfolding same_key
  constraints-beside n i = subst (ConstraintAt (find_constraint i cs)) (sym (out-other (of_constraint i) (of_edit n) held refl)) (con i)
