-- Between two calls of a whole run the values are the best: from the invariant to the statement of demand 2. Assumes nothing.
use Rattle.std.specs.Prelude.{◌≡◌, ◌≢◌, Bool, true, false, ◌&&◌, ℕ, ◌<◌, ℤ, ◌*ℤ◌}
use Rattle.std.proofs.Math.Path.{refl, sym, ap, subst}
use Rattle.std.proofs.Common.{◌∙◌, true≢false, arith}
use mathlib.Core.List.{List, map}
use Rattle.std.proofs.Math.Option.{Option, none, some}
use Rattle.std.proofs.Math.IntN.{pos}
use Rattle.laws.specs.Z.{◌≼◌, ◌≺◌}
use Rattle.laws.specs.exact.Whole.{IsZ, isz-val}
use Rattle.simplex.specs.Ord.{0ℤ, 1ℤ}
use Rattle.simplex.specs.Lin.{Vec}
use Rattle.simplex.specs.At.{at_here, at_there}
use Rattle.simplex.specs.Choose.{All, all_map}
use Rattle.simplex.specs.Opt.{const, external}
use Rattle.simplex.specs.Problem.{error}
use Rattle.steps.specs.Number.{zero64}
use Rattle.steps.specs.State.{Term, Variable}
use Rattle.steps.specs.Changes.{find_variable, value_of, value}
use Rattle.steps.specs.Add.{whole_terms, whole_inputs}
use Rattle.steps.specs.Calls.{begin}
use Rattle.simplex.specs.bridge.Nums.{zero64-z}
use Rattle.simplex.specs.bridge.Ends.{value_at}
use Rattle.simplex.proofs.bridge.Ends.{value-z}
use Rattle.run.specs.Demand.{Demand, Moment, Meets, weighted, values, Best}
use Rattle.run.specs.Inv.{non_zero_terms, columns, Held, con_of, VarAt, WholeDemand, Inv}
use Rattle.run.specs.Words.{Agrees, WholeTerms, meets-to, meets-from, error-to}
use Rattle.run.specs.Inputs.{z-whole}
use Rattle.run.specs.AtRest as specs

pub whole-terms : (h : Held) → WholeDemand h → whole_terms h.demand.terms ≡ true
unfolding whole_inputs
whole-terms h w = go (whole_terms h.demand.terms) _ _ w.0
  where
    go : (a b c : Bool) → a && b && c ≡ true → a ≡ true
    go true b c e = refl
    go false b c e = absurd (true≢false (sym e))

module _ (m : Moment) (I : Inv m) where
  abbrev Known : ℕ → Type 0
  Known = specs.Known m I

  abbrev one : I.table.R 0 0 ≡ 1ℤ
  one = specs.one m I

  abbrev best-columns : Rattle.simplex.specs.Final.Best columns (map (con_of I.sym) I.held) (λ j. I.table.R j 0)
  best-columns = specs.best-columns m I

  abbrev spread : ℤ → (ℕ → ℤ) → Vec
  spread = specs.spread m I

  -- a live variable's column is inside, and no constant's
  pub column-in : (v : ℕ) → Known v → (I.sym v < columns) × (I.sym v ≢ 0)
  column-in v k = go (find_variable v m.state.changes.variables) refl (I.vars v)
    where
      go : (o : Option Variable) → find_variable v m.state.changes.variables ≡ o → VarAt I.kind m.state.tableau.symbols o (I.sym v) → (I.sym v < columns) × (I.sym v ≢ 0)
      go none e a = absurd (k e)
      go (some r) e a = (omega (arith, I.ids (I.sym v) a.2, I.room), λ z. clash (sym a.3 ∙ ap I.kind z ∙ I.good.zero))
        where
          clash : external ≡ const → ⊥
          clash p = let z : ◌≡◌ {A = ℕ} 0 1 = cc in omega arith

  -- the value of a variable is a whole number: its column's constant
  value-is : (v : ℕ) → (z : ℤ) × IsZ (value v m.state) z × (Known v → z ≡ I.table.R (I.sym v) 0)
  unfolding value value_of value_at begin
  value-is v = go (find_variable v m.state.changes.variables) refl (I.vars v)
    where
      go : (o : Option Variable) → find_variable v m.state.changes.variables ≡ o → VarAt I.kind m.state.tableau.symbols o (I.sym v)
          → (z : ℤ) × IsZ (elim o [ none ↦ zero64 | some r ↦ value_at r.symbol.id m.state.tableau.rows ]) z × (find_variable v m.state.changes.variables ≢ none → z ≡ I.table.R (I.sym v) 0)
      go none e a = (pos 0, zero64-z, λ k. absurd (k e))
      go (some r) e a = (
        I.table.R r.symbol.id 0,
        value-z I.kind (begin m.state) I.table.B I.table.R I.table.o (λ _. 0ℤ) I.reads I.good.shape.unit r.symbol.id (λ z. (column-in v (λ q. absurd (nope (sym e ∙ q)))).1 (sym a.0 ∙ z)),
        λ k. ap (λ (j : ℕ). I.table.R j 0) a.0,
      )
        where
          nope : some r ≡ none → ⊥
          nope p = Rattle.simplex.specs.bridge.Finds.none≢some (sym p)

  -- ---- the demands, read by columns

  whole-demands : All (WholeTerms I.sym (λ j. I.table.R j 0) (values m.state)) I.held
  whole-demands = all_map whole-terms I.held I.inputs

  agree : (σ : Vec) (x : ℕ → ℤ) → ((v : ℕ) → Known v → σ (I.sym v) ≡ x v) → All (Agrees I.sym σ x) I.held
  agree σ x f = all_map (λ (h : Held). all_map (λ (t : Term) k. ((column-in t.variable k).0, f t.variable k)) (non_zero_terms h.demand.terms)) I.held I.known

  at-values : (v : ℕ) → Known v → I.table.R (I.sym v) 0 ≡ values m.state v
  unfolding values
  at-values v k = let t = value-is v in sym (isz-val t.1 ∙ t.2 k)

  spread_at : (d : ℤ) (x : ℕ → ℤ) (v : ℕ) → Known v → spread d x (I.sym v) ≡ x v
  unfolding specs.spread
  spread_at d x v k = at_there 0 d (λ j. x (I.name j)) (I.sym v) (column-in v k).1 ∙ ap x (I.names v k)

  pub meets-spread : (d : ℤ) (x : ℕ → ℤ) → Meets m.live d x → All (Rattle.simplex.specs.Problem.Meets columns (spread d x)) (map (con_of I.sym) I.held)
  unfolding specs.spread
  meets-spread d x h =
      meets-from I.sym (spread d x) x I.held (all_map whole-terms I.held I.inputs) (agree (spread d x) x (spread_at d x))
      (subst (λ (c : ℤ). Meets (map (λ (h : Held). h.demand) I.held) c x) (sym (at_here 0 d (λ j. x (I.name j)))) (subst (λ (l : List Demand). Meets l d x) I.live h))

  -- THE VALUES ARE THE BEST
  pub at_rest : Best m
  unfolding specs.spread
  at_rest = record {
    whole = λ v. z-whole (value-is v).1;
    meets = subst (λ (l : List Demand). Meets l (pos 1) (values m.state)) (sym I.live) (subst (λ (d : ℤ). Meets (map (λ (h : Held). h.demand) I.held) d (values m.state)) one
        (meets-to I.sym (λ j. I.table.R j 0) (values m.state) I.held whole-demands (agree (λ j. I.table.R j 0) (values m.state) at-values) best-columns.meets));
    least = λ d x p h.
        subst (λ (z : ℤ). z *ℤ d ≼ weighted m.live d x) (mine ∙ ap (λ (l : List Demand). weighted l (pos 1) (values m.state)) (sym I.live))
        (subst (λ (z : ℤ). error columns (map (con_of I.sym) I.held) (λ j. I.table.R j 0) *ℤ d ≼ z) (theirs d x ∙ ap (λ (l : List Demand). weighted l d x) (sym I.live))
        (subst (λ (z : ℤ). error columns (map (con_of I.sym) I.held) (λ j. I.table.R j 0) *ℤ z ≼ error columns (map (con_of I.sym) I.held) (spread d x)) (at_here 0 d (λ j. x (I.name j)))
        (best-columns.least (spread d x) (subst (λ (z : ℤ). pos 0 ≺ z) (sym (at_here 0 d (λ j. x (I.name j)))) p) (meets-spread d x h))));
  }
    where
      mine : error columns (map (con_of I.sym) I.held) (λ j. I.table.R j 0) ≡ weighted (map (λ (h : Held). h.demand) I.held) (pos 1) (values m.state)
      mine = error-to I.sym (λ j. I.table.R j 0) (values m.state) I.held whole-demands (agree (λ j. I.table.R j 0) (values m.state) at-values)
          ∙ ap (λ (d : ℤ). weighted (map (λ (h : Held). h.demand) I.held) d (values m.state)) one

      theirs : (d : ℤ) (x : ℕ → ℤ) → error columns (map (con_of I.sym) I.held) (spread d x) ≡ weighted (map (λ (h : Held). h.demand) I.held) d x
      theirs d x = error-to I.sym (spread d x) x I.held (all_map whole-terms I.held I.inputs) (agree (spread d x) x (spread_at d x))
          ∙ ap (λ (c : ℤ). weighted (map (λ (h : Held). h.demand) I.held) c x) (at_here 0 d (λ j. x (I.name j)))
