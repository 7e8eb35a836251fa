-- Which row leaves for a marker, by rank, on what the tables read as.
-- Assumes nothing.
use Prim.Native.Nat.{ℕ, suc, ◌+◌, ◌≤◌}
use Rattle.std.specs.Prelude.{◌≡◌, Bool, ◌&&◌, cond, Float}
use Rattle.std.proofs.Math.Path.{refl, ap}
use Rattle.std.proofs.Common.{sym, ◌∙◌}
use Rattle.std.proofs.Math.Bool.{true, false}
use mathlib.Core.List.{List, [], ◌∷◌, ◌++◌}
use Rattle.std.proofs.Math.Option.{Option, none, some}
use native.Mathlib.Omega.{arith}
use Rattle.laws.specs.Loops.{first}
use Rattle.laws.specs.Lists.{tab}
use Rattle.steps.specs.Symbol.{Symbol, is_external, is_dummy, holds, coefficient_for}
use Rattle.steps.specs.State.{Basic}
use Rattle.steps.specs.Optimise.{smallest_ratio, negative_ratios}
use Rattle.steps.specs.Remove.{cell_in, first_dummy_row, positive_ratios, last_external_row, get_marker_leaving_row}
use Rattle.layout.specs.Laying.{tab-from}
use Rattle.rows.specs.choose.Choose.{Found}
use Rattle.std.specs.Prelude.{Some, None}
use Rattle.rows.specs.choose.Back.{back}
use Rattle.rows.specs.choose.Choose.{Within, on_found, or_else}
use Rattle.rows.specs.choose.Chosen.{as-cond}
use Rattle.rows.specs.choose.Walk.{first_walk, last-walk, tab-snoc}
use Rattle.sparse.specs.Sparse.{Sparse, symbol_count, row_count, symbol_at, basic_of, symbols_of, basics_of, read}
use Rattle.waist.specs.substituting.Notes.{is_external_kind}
use Rattle.waist.specs.Working.{work_of, Sound}
use Rattle.waist.specs.Standing.{row_symbol, Chooses}
use Rattle.waist.specs.Choosing.{is_dummy_kind}
use Rattle.waist.specs.Ratios.{column_at, row_kind, ratio_row_of, negative-chosen, positive-chosen, column-reads}

-- "the first Dummy row holding the marker"
unfoldable pub dummy_held : ℕ → Sparse → ℕ → Bool
dummy_held p t i = is_dummy_kind (row_kind t i) && holds (column_at t p i)

unfoldable pub dummy_row_of : ℕ → Sparse → Found
dummy_row_of p t = first (dummy_held p t) Some None 1 (1 + row_count t)

-- "the last External row holding it"
unfoldable pub external_held : ℕ → Sparse → ℕ → Bool
external_held p t i = is_external_kind (row_kind t i) && holds (column_at t p i)

unfoldable pub external_row_of : ℕ → Sparse → Found
external_row_of p t = back (external_held p t) Some None (row_count t)

unfoldable pub marker_leaving_of : ℕ → Sparse → Found
marker_leaving_of p t = or_else (dummy_row_of p t) (or_else (ratio_row_of true p t) (or_else (ratio_row_of false p t) (external_row_of p t)))

-- ---- the code's branches, over variables

module _ (p : ℕ) (t : Sparse) (i : ℕ) {k : ℕ} {x : Float} {b : Bool} (e : k ≡ row_kind t i) (f : x ≡ column_at t p i) where
  pub dummy-held : b ≡ (is_dummy_kind k && holds x) → b ≡ dummy_held p t i
  unfolding dummy_held
  dummy-held q = rw (← e, ← f) q

  pub external-held : b ≡ (is_external_kind k && holds x) → b ≡ external_held p t i
  unfolding external_held
  external-held q = rw (← e, ← f) q

module _ (p : ℕ) (t : Sparse) {f : Found} (qf : f ≡ dummy_row_of p t) where
  pub rank-one : {i : ℕ} → f ≡ Some i → f ≡ marker_leaving_of p t
  unfolding marker_leaving_of
  rank-one e = rw (← qf, e)

  module _ {g : Found} (nf : f ≡ None) (qg : g ≡ ratio_row_of true p t) where
    pub rank-two : {i : ℕ} → g ≡ Some i → g ≡ marker_leaving_of p t
    unfolding marker_leaving_of
    rank-two e = rw (← qf, nf, ← qg, e)

    module _ {h : Found} (ng : g ≡ None) (qh : h ≡ ratio_row_of false p t) where
      pub rank-three : {i : ℕ} → h ≡ Some i → h ≡ marker_leaving_of p t
      unfolding marker_leaving_of
      rank-three e = rw (← qf, nf, ← qg, ng, ← qh, e)

      pub rank-four : {l : Found} → h ≡ None → l ≡ external_row_of p t → l ≡ marker_leaving_of p t
      unfolding marker_leaving_of
      rank-four nh ql = rw (← qf, nf, ← qg, ng, ← qh, nh) ql

-- ---- on what the tables read as

module _ (t : Sparse) (p : ℕ) (at : (i : ℕ) → coefficient_for (symbol_at t p).id (symbols_of t) (basic_of t i).row.cells ≡ column_at t p i) where
  abbrev s : ℕ
  s = (symbol_at t p).id

  abbrev row : ℕ → Basic
  row j = basic_of t (1 + j)

  abbrev basics : ℕ → ℕ → List Basic
  basics i k = tab row i k

  abbrev row_named : Found → Option Symbol
  row_named f = on_found (λ i. some (row_symbol t i)) none f

  dummy-chosen : first_dummy_row s (symbols_of t) (basics_of t) ≡ row_named (dummy_row_of p t)
  unfolding dummy_row_of dummy_held basics_of tab first_dummy_row cell_in is_dummy_kind is_dummy symbol_at basic_of
  dummy-chosen =
      let look : ℕ → ℕ → Option Symbol = λ i k. first_dummy_row s (symbols_of t) (basics i k) in
      rw (← tab-from (basic_of t) 1 0 (row_count t))
      (first_walk (dummy_held p t) (λ i. some (row_symbol t i)) none look
      (λ i. refl)
      (λ i k.
      let b : 1 + i ≡ suc i = omega arith in
      as-cond (is_dummy (row_symbol t (1 + i)) && holds (cell_in s (symbols_of t) (row i))) (some (row_symbol t (1 + i))) (look (suc i) k) ∙ (rw (b, at (suc i)) refl))
      (row_count t))

  -- the last so far, if one more row comes at the end
  last_snoc : (y : List Symbol) (o : Option Symbol) (l : List Basic) (b : Basic)
      → last_external_row s y o (l ++ (b ∷ [])) ≡ cond (is_external b.symbol && holds (cell_in s y b)) (some b.symbol) (last_external_row s y o l)
  unfolding last_external_row
  last_snoc y o [] b = refl
  last_snoc y o (x ∷ l) b = last_snoc y (cond (is_external x.symbol && holds (cell_in s y x)) (some x.symbol) o) l b

  external-chosen : last_external_row s (symbols_of t) none (basics_of t) ≡ row_named (external_row_of p t)
  unfolding external_row_of external_held basics_of tab last_external_row cell_in is_external_kind is_external symbol_at basic_of
  external-chosen =
      let look : ℕ → Option Symbol = λ k. last_external_row s (symbols_of t) none (basics 0 k) in
      rw (← tab-from (basic_of t) 1 0 (row_count t))
      (last-walk (external_held p t) (λ i. some (row_symbol t i)) none look
      refl
      (λ k.
      let b : 1 + (0 + k) ≡ suc k = omega arith in
      ap (λ (l : List Basic). last_external_row s (symbols_of t) none l) (tab-snoc row 0 k)
      ∙ last_snoc (symbols_of t) none (basics 0 k) (row (0 + k))
      ∙ (rw (b, at (suc k)) refl))
      (row_count t))

  abbrev ranked : Option Symbol → Option Symbol → Option Symbol → Option Symbol → Option Symbol
  ranked a b c d = elim a [ some x ↦ some x | none ↦ elim b [ some x ↦ some x | none ↦ elim c [ some x ↦ some x | none ↦ d ] ] ]

  ranks : (a b c d : Found) → ranked (row_named a) (row_named b) (row_named c) (row_named d) ≡ row_named (on_found Some (on_found Some (on_found Some d c) b) a)
  ranks (Some i) b c d = refl
  ranks None (Some i) c d = refl
  ranks None None (Some i) d = refl
  ranks None None None d = refl

  by_rank : ranked (first_dummy_row s (symbols_of t) (basics_of t)) (smallest_ratio (negative_ratios s (symbols_of t) (basics_of t))) (smallest_ratio (positive_ratios s (symbols_of t) (basics_of t))) (last_external_row s (symbols_of t) none (basics_of t)) ≡ row_named (marker_leaving_of p t)
  unfolding marker_leaving_of
  by_rank =
      let o₂ : Option Symbol = smallest_ratio (negative_ratios s (symbols_of t) (basics_of t)) in
      let o₃ : Option Symbol = smallest_ratio (positive_ratios s (symbols_of t) (basics_of t)) in
      let o₄ : Option Symbol = last_external_row s (symbols_of t) none (basics_of t) in
      ap (λ (o : Option Symbol). ranked o o₂ o₃ o₄) dummy-chosen
      ∙ ap (λ (o : Option Symbol). ranked (row_named (dummy_row_of p t)) o o₃ o₄) (negative-chosen t p at)
      ∙ ap (λ (o : Option Symbol). ranked (row_named (dummy_row_of p t)) (row_named (ratio_row_of true p t)) o o₄) (positive-chosen t p at)
      ∙ ap (λ (o : Option Symbol). ranked (row_named (dummy_row_of p t)) (row_named (ratio_row_of true p t)) (row_named (ratio_row_of false p t)) o) external-chosen
      ∙ ranks (dummy_row_of p t) (ratio_row_of true p t) (ratio_row_of false p t) (external_row_of p t)

pub marker-chooses : (t : Sparse) → Sound false t → (p : ℕ) → 1 ≤ p → p ≤ symbol_count t → {r : Found} → r ≡ marker_leaving_of p t → Within (row_count t) r → Chooses false (get_marker_leaving_row (symbol_at t p).id) (row_symbol t) (row_count t) t r
unfolding get_marker_leaving_row work_of read
marker-chooses t so p low high q within = record { is = λ a v. by_rank t p (column-reads false t so p low high) ∙ ap (on_found (λ i. some (row_symbol t i)) none) (sym q); within = within }
