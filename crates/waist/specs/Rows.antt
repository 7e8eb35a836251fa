-- The row of a symbol, by its place.
-- Assumes nothing.
use Prim.Native.Nat.{ℕ, suc, ◌+◌, ◌≤◌}
use Rattle.std.proofs.Math.Path.{◌≡◌, refl, sym, ap}
use Rattle.std.proofs.Common.{◌∙◌, eqb-true, eq-eqb}
use Rattle.std.specs.Prelude.{Bool, List, eqb, get_or}
use Rattle.std.proofs.Math.Bool.{true, false}
use Rattle.std.proofs.Math.Option.{Option, none, some}
use native.Mathlib.Omega.{arith}
use Rattle.laws.specs.Loops.{first}
use Rattle.laws.specs.Lists.{tab}
use Rattle.steps.specs.Symbol.{is_symbol}
use Rattle.steps.specs.Row.{Row}
use Rattle.steps.specs.Work.{find_row}
use Rattle.layout.specs.Laying.{tab-from}
use Rattle.rows.specs.choose.Choose.{Found}
use Rattle.std.specs.Prelude.{Some, None}
use Rattle.rows.specs.choose.Choose.{on_found}
use Rattle.rows.specs.choose.Chosen.{as-cond}
use Rattle.rows.specs.choose.Walk.{first_walk}
use Rattle.layout.specs.cells.Seek.{clash, first-elim, first-moved}
use Rattle.sparse.specs.Places.{row_count_at, ids_at, row_places_at}
use Rattle.sparse.specs.Sparse.{Sparse, symbol_count, row_count, symbol_at, basic_of, basics_of}
use Rattle.waist.specs.substituting.Named.{same_place}
use Rattle.waist.specs.Working.{Sound}
use Rattle.waist.specs.Dropping.{Free}

-- the row that is for the symbol at place p
unfoldable pub row_for : ℕ → List ℕ → List ℕ → Found
row_for p words bytes = first (λ i. eqb p (get_or bytes (row_places_at + i) 0)) Some None 1 (1 + get_or words row_count_at 0)

module _ (t : Sparse) (p : ℕ) where
  abbrev by_place : ℕ → Bool
  by_place i = eqb p (get_or t.bytes (row_places_at + i) 0)

  pub row-free : row_for p t.words t.bytes ≡ None → Free p t
  unfolding row_for
  row-free e q a b f =
      clash (eq-eqb p (get_or t.bytes (row_places_at + q) 0) (sym f))
      (first-elim by_place Some None (λ (r : Found). r ≡ None → by_place q ≡ false) 1 (1 + row_count t) (omega arith) (λ r u v w x z. let o : ◌≡◌ {A = Bool} true false = cc in absurd (clash refl o)) (λ x z. x q a (omega (arith, b))) e)

  pub row_at : (i : ℕ) → row_for p t.words t.bytes ≡ Some i → get_or t.bytes (row_places_at + i) 0 ≡ p
  unfolding row_for
  row_at i e =
      sym (eqb-true p (get_or t.bytes (row_places_at + i) 0)
      (first-elim by_place Some None (λ (r : Found). r ≡ Some i → by_place i ≡ true) 1 (1 + row_count t) (omega arith) (λ r u v w x z. let o : r ≡ i = cc in rw (← o) w) (λ x z. let o : ◌≡◌ {A = Bool} true false = cc in absurd (clash refl o)) e))

module _ (art : Bool) (t : Sparse) (so : Sound art t) (p : ℕ) (low : 1 ≤ p) (high : p ≤ symbol_count t) where
  abbrev by_id : ℕ → Bool
  by_id i = eqb (get_or t.words (ids_at + p) 0) (get_or t.words (ids_at + get_or t.bytes (row_places_at + i) 0) 0)

  look-same : first by_id Some None 1 (1 + row_count t) ≡ row_for p t.words t.bytes
  unfolding row_for
  look-same =
      first-moved by_id (by_place t p) Some Some None (row_count t) 1 1
      (λ j l. let r = so.rows (1 + j) (omega arith) (omega (arith, l)) in sym (same_place t.words t.bytes so.named p (get_or t.bytes (row_places_at + (1 + j)) 0) low high r.0 r.1))
      (λ j l. refl)

  -- the row of a basic symbol
  pub row-found : find_row (symbol_at t p).id (basics_of t) ≡ on_found (λ i. some (basic_of t i).row) none (row_for p t.words t.bytes)
  unfolding basics_of tab find_row is_symbol symbol_at basic_of
  row-found =
      let look : ℕ → ℕ → Option Row = λ i k. find_row (symbol_at t p).id (tab (λ j. basic_of t (1 + j)) i k) in
      rw (← tab-from (basic_of t) 1 0 (row_count t))
      (first_walk by_id (λ i. some (basic_of t i).row) none look
      (λ i. refl)
      (λ i k.
      let b : 1 + i ≡ suc i = omega arith in
      as-cond (by_id (1 + i)) (some (basic_of t (1 + i)).row) (look (suc i) k) ∙ (rw b refl))
      (row_count t))
      ∙ ap (on_found (λ i. some (basic_of t i).row) none) look-same
