-- No step writes a cell that is -0.0: "a cell that becomes 0.0 counts as absent", and is stored as +0.0. Of cells, rows and the work of a call. Assumes nothing.
use Rattle.std.specs.Prelude.{◌≡◌, refl, List, [], ◌∷◌, map, Bool, true, cond, ◌&&◌, ℕ, zero, suc, Float}
use Rattle.std.proofs.Math.Option.{Option, none, some}
use Rattle.std.proofs.Math.Bool.{false}
use Rattle.std.specs.Float.Ieee.{ne, neg}
use Rattle.steps.specs.Number.{zero64, minus_one64, near_zero, ◌+₆₄◌, ◌*₆₄◌, ◌/₆₄◌}
use Rattle.steps.specs.Symbol.{Symbol, is_symbol, is_external, absent, coefficient_for, clear_cell, delete_cell}
use Rattle.steps.specs.Row.{Row, kept, wrote, stored, cell_value, cell_values, goes_if_near_zero, insert_cell, insert_symbol, insert_times, insert_cells, scale_cell, scale_cells, Written, untouched, insert_symbol_in_row, insert_row, solve_for_symbol, solve_for_symbols, reverse_sign, append_cell}
use Rattle.steps.specs.State.{Basic}
use Rattle.steps.specs.Work.{Work, Outcome, going, ◌>>=◌, refuse, check_finite, with_tableau, with_changes, with_artificial, with_rows, with_objective, marking, count_pivot, find_row, drop_row, keep_row, append_symbol, purge}
use Rattle.steps.specs.Changes.{note}
use Rattle.steps.specs.Substitute.{substitute_in_row, substitute_in_rows, rows_of, substitute, enter_basis, pivot}
use Rattle.steps.specs.Optimise.{Goal, Choice, ended, stuck, pivot_on, choose_pivot, counted_pivot, optimise, choose_dual_pivot, dual_optimise}
use Rattle.keeps.specs.Lists.{All, all_append}
use Rattle.keeps.specs.Keys.{row_id, drop_all, drop_row-is, keep_all, keep_row-is}
use Rattle.keeps.specs.Cells.{zero-absent}
use Rattle.keeps.specs.Fits.{all_map}
use Rattle.keeps.specs.Passes.{Ends, ends-bind, check-ends}

-- ---- cells

abbrev pub Plain : Float → Type 0
Plain c = stored c ≡ c

pub stored-plain : (x : Float) → Plain (stored x)
unfolding stored
stored-plain x = go (absent x) refl
  where
    go : (b : Bool) → absent x ≡ b → cond (absent (cond b zero64 x)) zero64 (cond b zero64 x) ≡ cond b zero64 x
    go true e = rw zero-absent refl
    go false e = rw e refl

pub zero-plain : Plain zero64
unfolding stored
zero-plain = rw zero-absent refl

insert-plain : (u c k : Float) → Plain c → Plain (cell_value (insert_cell u c k))
unfolding insert_cell cell_value
insert-plain u c k h = go (absent c) (near_zero u k)
  where
    go : (a z : Bool) → Plain (cell_value (elim a [ true ↦ elim z [ true ↦ kept c | false ↦ wrote k ] | false ↦ wrote (goes_if_near_zero u (c +₆₄ k)) ]))
    go true true = h
    go true false = stored-plain k
    go false z = stored-plain (goes_if_near_zero u (c +₆₄ k))

times-plain : (u k o c : Float) → Plain c → Plain (cell_value (insert_times u k o c))
unfolding insert_times cell_value
times-plain u k o c h = go (absent o)
  where
    go : (a : Bool) → Plain (cell_value (elim a [ true ↦ kept c | false ↦ insert_cell u c (o *₆₄ k) ]))
    go true = h
    go false = insert-plain u c (o *₆₄ k) h

scale-plain : (k c : Float) → Plain c → Plain (cell_value (scale_cell k c))
unfolding scale_cell cell_value
scale-plain k c h = go (absent c)
  where
    go : (a : Bool) → Plain (cell_value (elim a [ true ↦ kept c | false ↦ wrote (c *₆₄ k) ]))
    go true = h
    go false = stored-plain (c *₆₄ k)

symbol-plain : (u : Float) (s : ℕ) (k : Float) (xs : List Symbol) (cs : List Float) → All Plain cs → All Plain (cell_values (insert_symbol u s k xs cs))
unfolding insert_symbol cell_values cell_value
symbol-plain u s k [] cs h = tt
symbol-plain u s k (x ∷ xs) [] h = tt
symbol-plain u s k (x ∷ xs) (c ∷ cs) h = (go (is_symbol s x), symbol-plain u s k xs cs h.1)
  where
    go : (b : Bool) → Plain (cell_value (elim b [ true ↦ insert_cell u c k | false ↦ kept c ]))
    go true = insert-plain u c k h.0
    go false = h.0

cells-plain : (u k : Float) (os cs : List Float) → All Plain cs → All Plain (cell_values (insert_cells u k os cs))
unfolding insert_cells cell_values
cells-plain u k [] cs h = tt
cells-plain u k (o ∷ os) [] h = tt
cells-plain u k (o ∷ os) (c ∷ cs) h = (times-plain u k o c h.0, cells-plain u k os cs h.1)

scaled-plain : (k : Float) (cs : List Float) → All Plain cs → All Plain (cell_values (scale_cells k cs))
unfolding scale_cells cell_values
scaled-plain k [] h = tt
scaled-plain k (c ∷ cs) h = (scale-plain k c h.0, scaled-plain k cs h.1)

clear-plain : (s : ℕ) (xs : List Symbol) (cs : List Float) → All Plain cs → All Plain (clear_cell s xs cs)
unfolding clear_cell
clear-plain s [] cs h = tt
clear-plain s (x ∷ xs) [] h = tt
clear-plain s (x ∷ xs) (c ∷ cs) h = go (is_symbol s x) (clear-plain s xs cs h.1)
  where
    go : (b : Bool) → All Plain (clear_cell s xs cs) → All Plain (elim b [ true ↦ zero64 ∷ cs | false ↦ c ∷ clear_cell s xs cs ])
    go true r = (zero-plain, h.1)
    go false r = (h.0, r)

delete-plain : (s : ℕ) (xs : List Symbol) (cs : List Float) → All Plain cs → All Plain (delete_cell s xs cs)
unfolding delete_cell
delete-plain s [] cs h = tt
delete-plain s (x ∷ xs) [] h = tt
delete-plain s (x ∷ xs) (c ∷ cs) h = go (is_symbol s x) (delete-plain s xs cs h.1)
  where
    go : (b : Bool) → All Plain (delete_cell s xs cs) → All Plain (elim b [ true ↦ cs | false ↦ c ∷ delete_cell s xs cs ])
    go true r = h.1
    go false r = (h.0, r)

negated-plain : (cs : List Float) → All Plain (map (λ (c : Float). stored (neg c)) cs)
negated-plain [] = tt
negated-plain (c ∷ cs) = (stored-plain (neg c), negated-plain cs)

pub zeros-plain : (xs : List Symbol) → All Plain (map (λ (_ : Symbol). zero64) xs)
zeros-plain [] = tt
zeros-plain (x ∷ xs) = (zero-plain, zeros-plain xs)

-- ---- rows

abbrev pub PlainRow : Row → Type 0
PlainRow r = All Plain r.cells

pub symbol-in-plain : (u : Float) (s : ℕ) (k : Float) (xs : List Symbol) (r : Row) → PlainRow r → PlainRow (insert_symbol_in_row u s k xs r).row
unfolding insert_symbol_in_row
symbol-in-plain u s k xs r h = symbol-plain u s k xs r.cells h

pub insert-row-plain : (u : Float) (o : Row) (k : Float) (r : Row) → PlainRow r → PlainRow (insert_row u o k r).row
unfolding insert_row
insert-row-plain u o k r h = cells-plain u k o.cells r.cells h

pub solve-plain : (s : ℕ) (xs : List Symbol) (r : Row) → PlainRow r → PlainRow (solve_for_symbol s xs r).row
unfolding solve_for_symbol
solve-plain s xs r h = scaled-plain (minus_one64 /₆₄ coefficient_for s xs r.cells) (clear_cell s xs r.cells) (clear-plain s xs r.cells h)

solve-both-plain : (u : Float) (l e : ℕ) (xs : List Symbol) (r : Row) → PlainRow r → PlainRow (solve_for_symbols u l e xs r).row
unfolding solve_for_symbols
solve-both-plain u l e xs r h = solve-plain e xs (insert_symbol_in_row u l minus_one64 xs r).row (symbol-in-plain u l minus_one64 xs r h)

substitute-in-plain : (u : Float) (s : ℕ) (xs : List Symbol) (o r : Row) → PlainRow r → PlainRow (substitute_in_row u s xs o r).row
unfolding substitute_in_row
substitute-in-plain u s xs o r h = go (absent (coefficient_for s xs r.cells))
  where
    k : Float
    k = coefficient_for s xs r.cells

    go : (b : Bool) → PlainRow (elim b as (λ _. Written) [ true ↦ untouched r | false ↦ insert_row u o k (record { constant = r.constant; cells = clear_cell s xs r.cells }) ]).row
    go true = unfold untouched in h
    go false = insert-row-plain u o k (record { constant = r.constant; cells = clear_cell s xs r.cells }) (clear-plain s xs r.cells h)

pub append-plain : (r : Row) → PlainRow r → PlainRow (append_cell r)
unfolding append_cell
append-plain r h = all_append Plain r.cells (zero64 ∷ []) h (zero-plain, tt)

pub reverse-plain : (r : Row) → PlainRow (reverse_sign r)
unfolding reverse_sign
reverse-plain r = negated-plain r.cells

-- ---- the work of a call

abbrev pub PlainRows : List Basic → Type 0
PlainRows bs = All (λ (b : Basic). PlainRow b.row) bs

abbrev pub PlainIn : Option Row → Type 0
PlainIn none = Unit
PlainIn (some r) = PlainRow r

pub record PlainWork (w : Work) : Type 0 where
  pub rows : PlainRows w.tableau.rows
  pub artificial : PlainIn w.artificial

pub found_plain : (s : ℕ) (bs : List Basic) → PlainRows bs → PlainIn (find_row s bs)
unfolding find_row
found_plain s [] h = tt
found_plain s (b ∷ bs) h = go (is_symbol s b.symbol) (found_plain s bs h.1)
  where
    go : (t : Bool) → PlainIn (find_row s bs) → PlainIn (elim t [ true ↦ some b.row | false ↦ find_row s bs ])
    go true r = h.0
    go false r = r

pub drop-plain : (s : ℕ) (bs : List Basic) → PlainRows bs → PlainRows (drop_row s bs)
drop-plain s bs h = rw drop_row-is (drop_all row_id (λ (b : Basic). PlainRow b.row) s bs h)

pub keep-plain : (r : Basic) (bs : List Basic) → PlainRow r.row → PlainRows bs → PlainRows (keep_row r bs)
keep-plain r bs p h = rw keep_row-is (keep_all row_id (λ (b : Basic). PlainRow b.row) r bs p h)

rows-plain : (u : Float) (s : ℕ) (xs : List Symbol) (o : Row) (bs : List Basic) → PlainRows bs → PlainRows (rows_of (substitute_in_rows u s xs o bs))
unfolding rows_of substitute_in_rows
rows-plain u s xs o [] h = tt
rows-plain u s xs o (b ∷ bs) h = (substitute-in-plain u s xs o b.row h.0, rows-plain u s xs o bs h.1)

substitute-plain : (s : ℕ) (o : Row) (w : Work) → PlainWork w → PlainWork (substitute s o w)
unfolding substitute marking with_artificial with_changes with_objective with_rows with_tableau
substitute-plain s o w h = record { rows = rows-plain w.tableau.cutoff s w.tableau.symbols o w.tableau.rows h.rows; artificial = go w.artificial h.artificial }
  where
    go : (a : Option Row) → PlainIn a
        → PlainIn (elim (elim a as (λ _. Option Written) [ none ↦ none | some r ↦ some (substitute_in_row w.tableau.cutoff s w.tableau.symbols o r) ]) [ none ↦ none | some a ↦ some a.row ])
    go none p = tt
    go (some r) p = substitute-in-plain w.tableau.cutoff s w.tableau.symbols o r p

pub noted-plain : (on : Bool) (s : ℕ) (w : Work) → PlainWork w → PlainWork (cond on (note s w) w)
unfolding note with_changes
noted-plain true s w h = record { rows = h.rows; artificial = h.artificial }
noted-plain false s w h = h

pub enter-plain : (s : Symbol) (r : Row) (w : Work) → PlainRow r → PlainWork w → PlainWork (enter_basis s r w)
unfolding enter_basis with_rows with_tableau
enter-plain s r w p h =
    let v : PlainWork (cond (is_external s && ne r.constant zero64) (note s.id (substitute s.id r w)) (substitute s.id r w)) = noted-plain (is_external s && ne r.constant zero64) s.id (substitute s.id r w) (substitute-plain s.id r w h) in
    record { rows = keep-plain (record { symbol = s; row = r }) _ p v.rows; artificial = v.artificial }

pub pivot-plain : (l : ℕ) (e : Symbol) (w : Work) → PlainWork w → PlainWork (pivot l e w)
unfolding pivot
pivot-plain l e w h = go (find_row l w.tableau.rows) (found_plain l w.tableau.rows h.rows)
  where
    solved : Row → Written
    solved r = solve_for_symbols w.tableau.cutoff l e.id w.tableau.symbols r

    go : (o : Option Row) → PlainIn o → PlainWork (elim o [ none ↦ w | some row ↦ enter_basis e (solved row).row (marking (solved row).mark (with_rows (drop_row l w.tableau.rows) w)) ])
    go none p = h
    go (some r) p =
        enter-plain e (solved r).row (marking (solved r).mark (with_rows (drop_row l w.tableau.rows) w)) (solve-both-plain w.tableau.cutoff l e.id w.tableau.symbols r p)
        (unfold marking with_rows with_tableau in record { rows = drop-plain l w.tableau.rows h.rows; artificial = h.artificial })

pub append-work-plain : (s : Symbol) (w : Work) → PlainWork w → PlainWork (append_symbol s w)
unfolding append_symbol with_tableau
append-work-plain s w h = record { rows = all_map _ _ w.tableau.rows (go w.tableau.rows h.rows); artificial = h.artificial }
  where
    go : (bs : List Basic) → PlainRows bs → All (λ (b : Basic). PlainRow (append_cell b.row)) bs
    go [] p = tt
    go (b ∷ bs) p = (append-plain b.row p.0, go bs p.1)

pub purge-plain : (s : ℕ) (w : Work) → PlainWork w → PlainWork (purge s w)
unfolding purge with_tableau
purge-plain s w h = record { rows = all_map _ _ (drop_row s w.tableau.rows) (go (drop_row s w.tableau.rows) (drop-plain s w.tableau.rows h.rows)); artificial = h.artificial }
  where
    go : (bs : List Basic) → PlainRows bs → All (λ (b : Basic). All Plain (delete_cell s w.tableau.symbols b.row.cells)) bs
    go [] p = tt
    go (b ∷ bs) p = (delete-plain s w.tableau.symbols b.row.cells p.0, go bs p.1)

-- ---- the passes

pub checked-plain : (w : Work) → PlainWork w → Ends PlainWork (check_finite w)
checked-plain w h = check-ends PlainWork w (λ _. h)

counted-plain : (l e : Symbol) (w : Work) → PlainWork w → Ends PlainWork (counted_pivot l e w)
unfolding counted_pivot count_pivot
counted-plain l e w h = ends-bind PlainWork PlainWork (check_finite (pivot l.id e w)) (λ v. going (count_pivot v)) (checked-plain (pivot l.id e w) (pivot-plain l.id e w h)) (λ v p. record { rows = p.rows; artificial = p.artificial })

last-plain : (n : ℕ) (w : Work) → PlainWork w → (c : Choice) → Ends PlainWork (elim c [ ended ↦ going w | stuck ↦ refuse n w | pivot_on l e ↦ refuse 14 w ])
unfolding refuse
last-plain n w h ended = h
last-plain n w h stuck = tt
last-plain n w h (pivot_on l e) = tt

turn-plain : (n : ℕ) (w : Work) (on : Work → Outcome Work) → PlainWork w → ((v : Work) → PlainWork v → Ends PlainWork (on v)) → (c : Choice) → Ends PlainWork (elim c [ ended ↦ going w | stuck ↦ refuse n w | pivot_on l e ↦ counted_pivot l e w >>= on ])
unfolding refuse
turn-plain n w on h ih ended = h
turn-plain n w on h ih stuck = tt
turn-plain n w on h ih (pivot_on l e) = ends-bind PlainWork PlainWork (counted_pivot l e w) on (counted-plain l e w h) ih

pub optimise-plain : (left : ℕ) (g : Goal) (w : Work) → PlainWork w → Ends PlainWork (optimise left g w)
unfolding optimise
optimise-plain zero g w h = last-plain 15 w h (choose_pivot g w)
optimise-plain (suc left) g w h = turn-plain 15 w (λ v. optimise left g v) h (λ v p. optimise-plain left g v p) (choose_pivot g w)

pub dual-plain : (left : ℕ) (w : Work) → PlainWork w → Ends PlainWork (dual_optimise left w)
unfolding dual_optimise
dual-plain zero w h = last-plain 16 w h (choose_dual_pivot w)
dual-plain (suc left) w h = turn-plain 16 w (λ v. dual_optimise left v) h (λ v p. dual-plain left v p) (choose_dual_pivot w)
