-- What is chosen over the sparse tables is what the steps choose on what they read as.
-- Assumes nothing.
use Prim.Native.Nat.{ℕ, suc, ◌+◌}
use Rattle.std.specs.Prelude.{◌≡◌, refl, Bool, true, false, ◌&&◌, cond, List, eqb, Float}
use Rattle.std.proofs.Common.{sym, ◌∙◌, eqb-true, ne_eqb}
use Rattle.std.proofs.Math.Path.{ap}
use Rattle.std.proofs.Math.Bool.{not}
use Rattle.std.proofs.Math.Option.{Option, none, some}
use native.Mathlib.Omega.{arith}
use Rattle.std.specs.Float.{nan}
use Rattle.std.proofs.Math.ListN.{get_or}
use Rattle.laws.specs.Loops.{first}
use Rattle.laws.specs.Lists.{tab}
use Rattle.steps.specs.Number.{Mark, below_zero}
use Rattle.steps.specs.Symbol.{External, Slack, Error, Dummy, Symbol, is_external, is_restricted, is_dummy, first_symbol}
use Rattle.steps.specs.State.{Basic}
use Rattle.steps.specs.Optimise.{get_dual_leaving_row, Goal, the_objective, the_artificial, goal_cells, get_entering_symbol}
use Rattle.layout.specs.Layout.{kind_of}
use Rattle.layout.specs.Laying.{tab-from}
use Rattle.rows.specs.choose.Choose.{Found}
use Rattle.std.specs.Prelude.{Some, None}
use Rattle.rows.specs.choose.Choose.{on_found}
use Rattle.rows.specs.choose.Chosen.{as-cond}
use Rattle.rows.specs.choose.Walk.{first_walk}
use Rattle.sparse.specs.Places.{symbol_count_at, row_count_at, kinds_at, row_places_at, constants_at, objective_at}
use Rattle.sparse.specs.Sparse.{Sparse, symbol_at, basic_of, symbols_of, basics_of, objective_of, read}
use Rattle.waist.specs.substituting.Notes.{is_external_kind}
use Rattle.waist.specs.Working.{work_of}

-- what a pass optimises
abbrev pub goal_of : Bool → Goal
goal_of true = the_artificial
goal_of false = the_objective

unfoldable pub is_dummy_kind : ℕ → Bool
is_dummy_kind k = is_dummy (record { id = 0; kind = kind_of k })

pub dummy-kind : (k : ℕ) → is_dummy_kind k ≡ eqb k 3
unfolding is_dummy_kind kind_of is_dummy
dummy-kind k = go (eqb k 2) refl (eqb k 1) refl
  where
    go : (a : Bool) → eqb k 2 ≡ a → (b : Bool) → eqb k 1 ≡ b → is_dummy (record { id = 0; kind = cond a Error (cond b Slack (cond (eqb k 3) Dummy External)) }) ≡ eqb k 3
    go true e b f = let o = eqb-true k 2 e in sym (ne_eqb k 3 λ z. omega (arith, z, o))
    go false e true f = let o = eqb-true k 1 f in sym (ne_eqb k 3 λ z. omega (arith, z, o))
    go false e false f = by (eqb k 3)
      where
        by : (c : Bool) → is_dummy (record { id = 0; kind = cond c Dummy External }) ≡ c
        by true = refl
        by false = refl

-- "the restricted row below 0 with the lowest id"
unfoldable pub dual_leaving_of : List ℕ → List ℕ → List Float → Found
dual_leaving_of words bytes reals = first (λ i. not (is_external_kind (get_or bytes (kinds_at + get_or bytes (row_places_at + i) 0) 0)) && below_zero (get_or reals (constants_at + i) nan)) Some None 1 (1 + get_or words row_count_at 0)

-- "entering is the first non-dummy with a cell below 0", in the objective
unfoldable pub entering_of : List ℕ → List ℕ → List Float → Found
entering_of words bytes reals = first (λ p. not (is_dummy_kind (get_or bytes (kinds_at + p) 0)) && below_zero (get_or reals (objective_at + p) nan)) Some None 1 (1 + get_or words symbol_count_at 0)

both : {R : Type 0} (a b : Bool) (x y : R) → elim a [ false ↦ y | true ↦ elim b [ false ↦ y | true ↦ x ] ] ≡ cond (a && b) x y
both true true x y = refl
both true false x y = refl
both false b x y = refl

module _ (t : Sparse) where
  abbrev rows_from : ℕ → ℕ → Option Basic
  rows_from i k = get_dual_leaving_row (tab (λ j. basic_of t (1 + j)) i k)

  leaving-walk : rows_from 0 (get_or t.words row_count_at 0) ≡ on_found (λ i. some (basic_of t i)) none (dual_leaving_of t.words t.bytes t.reals)
  unfolding dual_leaving_of tab get_dual_leaving_row basic_of symbol_at is_restricted is_external_kind is_external
  leaving-walk =
      first_walk (λ i. not (is_external_kind (get_or t.bytes (kinds_at + get_or t.bytes (row_places_at + i) 0) 0)) && below_zero (get_or t.reals (constants_at + i) nan)) (λ i. some (basic_of t i)) none rows_from
      (λ i. refl)
      (λ i k.
      let b : 1 + i ≡ suc i = omega arith in
      rw b (as-cond (is_restricted (basic_of t (suc i)).symbol && below_zero (basic_of t (suc i)).row.constant) (some (basic_of t (suc i))) (rows_from (suc i) k)))
      (get_or t.words row_count_at 0)

  pub dual-leaving-reads : (art : Bool) (a : Mark) (v : ℕ) → get_dual_leaving_row (work_of art a v t).tableau.rows ≡ on_found (λ i. some (basic_of t i)) none (dual_leaving_of t.words t.bytes t.reals)
  unfolding work_of read basics_of
  dual-leaving-reads art a v = ap get_dual_leaving_row (sym (tab-from (basic_of t) 1 0 (get_or t.words row_count_at 0))) ∙ leaving-walk

  abbrev symbols_from : ℕ → ℕ → Option Symbol
  symbols_from i k = first_symbol (λ s. not (is_dummy s)) below_zero (tab (λ j. symbol_at t (1 + j)) i k) (tab (λ j. get_or t.reals (objective_at + (1 + j)) nan) i k)

  entering-walk : symbols_from 0 (get_or t.words symbol_count_at 0) ≡ on_found (λ p. some (symbol_at t p)) none (entering_of t.words t.bytes t.reals)
  unfolding entering_of tab first_symbol symbol_at is_dummy_kind is_dummy
  entering-walk =
      first_walk (λ p. not (is_dummy_kind (get_or t.bytes (kinds_at + p) 0)) && below_zero (get_or t.reals (objective_at + p) nan)) (λ p. some (symbol_at t p)) none symbols_from
      (λ i. refl)
      (λ i k.
      let b : 1 + i ≡ suc i = omega arith in
      rw b (both (not (is_dummy (symbol_at t (suc i)))) (below_zero (get_or t.reals (objective_at + suc i) nan)) (some (symbol_at t (suc i))) (symbols_from (suc i) k)))
      (get_or t.words symbol_count_at 0)

  pub entering-reads : (art : Bool) (a : Mark) (v : ℕ) → get_entering_symbol the_objective (work_of art a v t) ≡ on_found (λ p. some (symbol_at t p)) none (entering_of t.words t.bytes t.reals)
  unfolding get_entering_symbol goal_cells work_of read symbols_of objective_of
  entering-reads art a v =
      rw (← tab-from (symbol_at t) 1 0 (get_or t.words symbol_count_at 0), ← tab-from (λ p. get_or t.reals (objective_at + p) nan) 1 0 (get_or t.words symbol_count_at 0)) entering-walk
