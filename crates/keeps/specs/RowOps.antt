-- The row operations on rows that read: along the live symbols, no basic symbol held, finite while no write has been other. Assumes nothing.
use Rattle.std.specs.Prelude.{◌≡◌, ◌≢◌, ℕ}
use Rattle.std.proofs.Math.Path.{refl}
use mathlib.Core.List.{List, [], ◌∷◌, ◌++◌, map}
use Rattle.std.proofs.Math.Bool.{Bool, true, false}
use Rattle.std.specs.Float.Ieee.{Float, neg}
use Rattle.steps.specs.Number.{zero64, minus_one64, cell_bound, constant_bound, objective_bound, ◌+₆₄◌, ◌*₆₄◌, ◌/₆₄◌, is_finite, mark_write}
use Rattle.steps.specs.Symbol.{Symbol, absent, coefficient_for, clear_cell}
use Rattle.steps.specs.Row.{Row, Cell, kept, stored, cell_value, cell_values, cell_marks, insert_symbol, insert_cells, scale_cells, factor_mark, Written, untouched, insert_symbol_in_row, insert_row, solve_for_symbol, solve_for_symbols, reverse_sign, append_cell}
use Rattle.steps.specs.Substitute.{substitute_in_row, substitute_in_cells}
use Rattle.keeps.specs.Lists.{Up}
use Rattle.keeps.specs.Along.{Along, ids, along-map, along-append, along-zero, along-insert_cells, along-insert_symbol, along-scale, along-clear, along-at, along-values}
use Rattle.keeps.specs.Cells.{Ok, OkCell, Fine, fine-l, fine-r, write-finite, ok-zero, kept-ok, insert-ok, times-ok, scale_ok, values-ok, ok-to, neg-absent, neg-finite, stored-absent, stored-finite}

abbrev pub RowOk : (ℕ → Type 0) → Type 0 → List Symbol → Row → Type 0
RowOk B G xs r = (G → is_finite r.constant ≡ true) × Along (Ok B G) xs r.cells

pub row-to : (B C : ℕ → Type 0) (G H : Type 0) → ((i : ℕ) → C i → B i) → (H → G) → (xs : List Symbol) (r : Row) → RowOk B G xs r → RowOk C H xs r
row-to B C G H b g xs r h = ((λ p. h.0 (g p)), ok-to B C G H b g xs r.cells h.1)

-- ---- for one set of basic symbols
module _ (cut : Float) (B : ℕ → Type 0) (G H : Type 0) (g : H → G) (xs : List Symbol) where
  pub cells-inserted : (bound k : Float) (os cs : List Float) → Along (Ok B G) xs os → Along (Ok B G) xs cs → (H → Fine (cell_marks bound (insert_cells cut k os cs)))
      → Along (Ok B H) xs (cell_values (insert_cells cut k os cs))
  cells-inserted bound k os cs o h m =
      values-ok B G H bound g xs (insert_cells cut k os cs) m
      (along-insert_cells (Ok B G) (Ok B G) (OkCell B G bound) cut k (λ i o c p q. times-ok B G bound i cut k o c p q) xs os cs o h)

  pub symbol-inserted : (bound : Float) (s : ℕ) (k : Float) (cs : List Float) → (B s → ⊥) → Along (Ok B G) xs cs
      → (H → Fine (cell_marks bound (insert_symbol cut s k xs cs))) → Along (Ok B H) xs (cell_values (insert_symbol cut s k xs cs))
  symbol-inserted bound s k cs n h m =
      values-ok B G H bound g xs (insert_symbol cut s k xs cs) m
      (along-insert_symbol (Ok B G) (OkCell B G bound) cut s k (λ c q. insert-ok B G bound s cut c k n q) (λ i c d q. kept-ok B G bound i c q) xs cs h)

  pub insert_row-ok : (k : Float) (other mine : Row) → RowOk B G xs other → RowOk B G xs mine → (H → Fine (insert_row cut other k mine).mark)
      → RowOk B H xs (insert_row cut other k mine).row
  unfolding insert_row
  insert_row-ok k other mine o h m = (
    (λ p. write-finite constant_bound (mine.constant +₆₄ other.constant *₆₄ k) (fine-l _ (cell_marks cell_bound cells) (m p))),
    cells-inserted cell_bound k other.cells mine.cells o.1 h.1 (λ p. fine-r (mark_write constant_bound (mine.constant +₆₄ other.constant *₆₄ k)) _ (m p)),
  )
    where
      cells : List Cell
      cells = insert_cells cut k other.cells mine.cells

  pub insert_symbol_in_row-ok : (s : ℕ) (k : Float) (mine : Row) → (B s → ⊥) → RowOk B G xs mine → (H → Fine (insert_symbol_in_row cut s k xs mine).mark)
      → RowOk B H xs (insert_symbol_in_row cut s k xs mine).row
  unfolding insert_symbol_in_row
  insert_symbol_in_row-ok s k mine n h m = ((λ p. h.0 (g p)), symbol-inserted cell_bound s k mine.cells n h.1 m)

-- ---- s becomes basic: the basic symbols are those of C, and but for s they are of B
module _ (B C : ℕ → Type 0) (G H : Type 0) (g : H → G) (i : ℕ) (xs : List Symbol) (u : Up i (ids xs)) (s : ℕ) (old : (i : ℕ) → C i → s ≢ i → B i) where
  pub cleared-ok : (cs : List Float) → Along (Ok B G) xs cs → Along (Ok C G) xs (clear_cell s xs cs)
  cleared-ok cs h = along-clear (Ok B G) (Ok C G) s (ok-zero C G s) (λ i c n o. ((λ d. o.0 (old i d n)), o.1)) i xs cs u h

  pub solve_for_symbol-ok : (mine : Row) → RowOk B G xs mine → (H → Fine (solve_for_symbol s xs mine).mark) → RowOk C H xs (solve_for_symbol s xs mine).row
  unfolding solve_for_symbol
  solve_for_symbol-ok mine h m = (
    (λ p. write-finite constant_bound total (fine-l (mark_write constant_bound total) (cell_marks cell_bound cells) (fine-r (factor_mark cell factor) _ (m p)))),
    values-ok C G H cell_bound g xs cells (λ p. fine-r (mark_write constant_bound total) _ (fine-r (factor_mark cell factor) _ (m p)))
        (along-scale (Ok C G) (OkCell C G cell_bound) factor (λ i c o. scale_ok C G cell_bound i factor c o) xs (clear_cell s xs mine.cells)
        (cleared-ok mine.cells h.1)),
  )
    where
      cell : Float
      cell = coefficient_for s xs mine.cells

      factor : Float
      factor = minus_one64 /₆₄ cell

      total : Float
      total = mine.constant *₆₄ factor

      cells : List Cell
      cells = scale_cells factor (clear_cell s xs mine.cells)

  -- s's cell is absent already
  stays : (cs : List Float) → absent (coefficient_for s xs cs) ≡ true → Along (Ok B G) xs cs → Along (Ok C H) xs cs
  stays cs e h = ok-to C C G H (λ i c. c) g xs cs (along-at (Ok B G) (Ok C G) s (λ i c n o. ((λ d. o.0 (old i d n)), o.1)) i xs cs u h (λ q. ((λ d. e), q.1)))

  pub substitute_in_row-ok : (cut : Float) (other mine : Row) → RowOk C G xs other → RowOk B G xs mine → (H → Fine (substitute_in_row cut s xs other mine).mark)
      → RowOk C H xs (substitute_in_row cut s xs other mine).row
  unfolding substitute_in_row untouched
  substitute_in_row-ok cut other mine o h m = go (absent (coefficient_for s xs mine.cells)) refl m
    where
      written : Bool → Written
      written t =
          elim t [
            | true ↦ untouched mine
            | false ↦ insert_row cut other (coefficient_for s xs mine.cells) (record { constant = mine.constant; cells = clear_cell s xs mine.cells })
          ]

      go : (t : Bool) → absent (coefficient_for s xs mine.cells) ≡ t → (H → Fine (written t).mark) → RowOk C H xs (written t).row
      go true e m = ((λ p. h.0 (g p)), stays mine.cells e h.1)
      go false e m = insert_row-ok cut C G H g xs (coefficient_for s xs mine.cells) other _ o (h.0, cleared-ok mine.cells h.1) m

  pub substitute_in_cells-ok : (cut : Float) (other mine : List Float) → Along (Ok C G) xs other → Along (Ok B G) xs mine
      → (H → Fine (cell_marks objective_bound (substitute_in_cells cut s xs other mine))) → Along (Ok C H) xs (cell_values (substitute_in_cells cut s xs other mine))
  unfolding substitute_in_cells cell_value
  substitute_in_cells-ok cut other mine o h m = go (absent (coefficient_for s xs mine)) refl m
    where
      written : Bool → List Cell
      written t = elim t [ true ↦ map kept mine | false ↦ insert_cells cut (coefficient_for s xs mine) other (clear_cell s xs mine) ]

      go : (t : Bool) → absent (coefficient_for s xs mine) ≡ t → (H → Fine (cell_marks objective_bound (written t))) → Along (Ok C H) xs (cell_values (written t))
      go true e m =
          along-values (λ i c. Ok C H i (cell_value c)) (Ok C H) (λ i c q. q) xs (map kept mine)
          (along-map kept (Ok C H) (λ i c. Ok C H i (cell_value c)) (λ i c q. q) xs mine (stays mine e h))
      go false e m = cells-inserted cut C G H g xs objective_bound (coefficient_for s xs mine) other (clear_cell s xs mine) o (cleared-ok mine h) m

-- a pivot's row: its old symbol is no longer basic
pub solve_for_symbols-ok : (cut : Float) (B C : ℕ → Type 0) (G H : Type 0) → (H → G) → (i : ℕ) (xs : List Symbol) → Up i (ids xs) → (l e : ℕ)
    → ((i : ℕ) → C i → e ≢ i → B i × (l ≢ i)) → (mine : Row) → RowOk B G xs mine
    → (H → Fine (solve_for_symbols cut l e xs mine).mark) → RowOk C H xs (solve_for_symbols cut l e xs mine).row
unfolding solve_for_symbols
solve_for_symbols-ok cut B C G H g i xs u l e old mine h m =
    solve_for_symbol-ok D C H H (λ p. p) i xs u e old inserted.row
    (insert_symbol_in_row-ok cut D G H g xs l minus_one64 mine (λ d. d.1 refl) (row-to B D G G (λ i d. d.0) (λ p. p) xs mine h) (λ p. fine-l inserted.mark _ (m p)))
    (λ p. fine-r inserted.mark _ (m p))
  where
    D : ℕ → Type 0
    D i = B i × (l ≢ i)

    inserted : Written
    inserted = insert_symbol_in_row cut l minus_one64 xs mine

-- ---- signs, and places
pub reverse-ok : (B : ℕ → Type 0) (G : Type 0) (xs : List Symbol) (r : Row) → RowOk B G xs r → RowOk B G xs (reverse_sign r)
unfolding reverse_sign
reverse-ok B G xs r h = (
  (λ p. neg-finite r.constant (h.0 p)),
  along-map (λ (c : Float). stored (neg c)) (Ok B G) (Ok B G)
      (λ i c o. ((λ b. stored-absent (neg c) (neg-absent c (o.0 b))), λ p. stored-finite (neg c) (neg-finite c (o.1 p)))) xs r.cells h.1,
)

pub append-ok : (B : ℕ → Type 0) (G : Type 0) (xs : List Symbol) (s : Symbol) (r : Row) → RowOk B G xs r → RowOk B G (xs ++ (s ∷ [])) (append_cell r)
unfolding append_cell
append-ok B G xs s r h = (h.0, along-append (Ok B G) xs r.cells s zero64 h.1 (ok-zero B G s.id))

pub bare-ok : (B : ℕ → Type 0) (G : Type 0) (xs : List Symbol) (constant : Float) → is_finite constant ≡ true
    → RowOk B G xs (record { constant = constant; cells = map (λ _. zero64) xs })
bare-ok B G xs constant e = ((λ p. e), along-zero (Ok B G) (ok-zero B G) xs)
