-- No cell of a new row is -0.0.
-- Assumes nothing.
use Rattle.std.specs.Prelude.{◌≡◌, Bool, true, cond, List, [], ◌∷◌, ◌++◌, map, ℕ, Float}
use Rattle.std.proofs.Math.Bool.{false}
use Rattle.std.proofs.Math.Option.{Option, none, some}
use Rattle.std.specs.Float.Ieee.{lt, neg}
use Rattle.laws.specs.Places.{Every}
use Rattle.steps.specs.Number.{zero64, one64, minus_one64, ◌*₆₄◌, near_zero, below_zero}
use Rattle.steps.specs.Strength.{required}
use Rattle.steps.specs.Symbol.{Symbol, Slack, Error, is_symbol, absent}
use Rattle.steps.specs.Row.{Row, kept, stored, cell_value, cell_values, insert_cell, insert_symbol, insert_times, insert_cells, insert_symbol_in_row, insert_row, reverse_sign, append_cell}
use Rattle.steps.specs.State.{Term, Variable, Relation, at_most, equal, at_least}
use Rattle.steps.specs.Work.{Work, find_row, new_symbol}
use Rattle.steps.specs.Changes.{find_variable}
use Rattle.steps.specs.CreateRow.{Building, Created, written, append_to, insert_into, add_variable, count_use, insert_variable, insert_term, insert_terms, tagged, add_symbol, add_error, inequality, soft_equality, required_equality, add_tag, create_row}
use Rattle.rows.specs.Marks.{insert_times-is}
use Rattle.layout.specs.cells.Cells.{settled}
use Rattle.layout.specs.cells.Column.{zero-absent}
use Rattle.waist.specs.merging.Substituted.{settled-absent, settled-stored, settled-insert}

abbrev pub Plain : Float → Type 0
Plain c = settled c ≡ c

abbrev PlainRow : Row → Type 0
PlainRow r = Every Plain r.cells

zero-plain : Plain zero64
zero-plain = settled-absent zero64 zero-absent

-- ---- rows

symbol-plain : (cutoff : Float) (s : ℕ) (k : Float) (xs : List Symbol) (cs : List Float) → Every Plain cs → Every Plain (cell_values (insert_symbol cutoff s k xs cs))
unfolding Every insert_symbol cell_values cell_value
symbol-plain cutoff s k [] cs h = tt
symbol-plain cutoff s k (x ∷ xs) [] h = tt
symbol-plain cutoff s k (x ∷ xs) (c ∷ cs) h = (go (is_symbol s x), symbol-plain cutoff s k xs cs h.1)
  where
    go : (b : Bool) → Plain (cell_value (elim b [ true ↦ insert_cell cutoff c k | false ↦ kept c ]))
    go true = settled-insert cutoff c k h.0
    go false = h.0

times-plain : (cutoff k o c : Float) → Plain c → Plain (cell_value (insert_times cutoff k o c))
unfolding cell_value
times-plain cutoff k o c h = rw (insert_times-is cutoff k o c) (go (absent o))
  where
    go : (b : Bool) → Plain (cell_value (cond b (kept c) (insert_cell cutoff c (o *₆₄ k))))
    go true = h
    go false = settled-insert cutoff c (o *₆₄ k) h

cells-plain : (cutoff k : Float) (os cs : List Float) → Every Plain cs → Every Plain (cell_values (insert_cells cutoff k os cs))
unfolding Every insert_cells cell_values
cells-plain cutoff k [] cs h = tt
cells-plain cutoff k (o ∷ os) [] h = tt
cells-plain cutoff k (o ∷ os) (c ∷ cs) h = (times-plain cutoff k o c h.0, cells-plain cutoff k os cs h.1)

append-plain : (cs : List Float) → Every Plain cs → Every Plain (cs ++ (zero64 ∷ []))
unfolding Every
append-plain [] h = (zero-plain, tt)
append-plain (c ∷ cs) h = (h.0, append-plain cs h.1)

reverse-plain : (cs : List Float) → Every Plain (map (λ (c : Float). stored (neg c)) cs)
unfolding Every
reverse-plain [] = tt
reverse-plain (c ∷ cs) = (settled-stored (neg c), reverse-plain cs)

bare-plain : (xs : List Symbol) → Every Plain (map (λ _. zero64) xs)
unfolding Every
bare-plain [] = tt
bare-plain (x ∷ xs) = (zero-plain, bare-plain xs)

-- ---- steps

into-plain : (s : ℕ) (k : Float) (b : Building) → PlainRow b.row → PlainRow (insert_into s k b).row
unfolding insert_into written insert_symbol_in_row
into-plain s k b h = symbol-plain b.work.tableau.cutoff s k b.work.tableau.symbols b.row.cells h

row_plain : (r : Row) (k : Float) (b : Building) → PlainRow b.row → PlainRow (written (insert_row b.work.tableau.cutoff r k b.row) b.work).row
unfolding written insert_row
row_plain r k b h = cells-plain b.work.tableau.cutoff k r.cells b.row.cells h

to-plain : (s : Symbol) (b : Building) → PlainRow b.row → PlainRow (append_to s b).row
unfolding append_to append_cell
to-plain s b h = append-plain b.row.cells h

variable-plain : (s : Symbol) (k : Float) (b : Building) → PlainRow b.row → PlainRow (insert_variable s k b).row
unfolding insert_variable
variable-plain s k b h = go (find_row s.id b.work.tableau.rows)
  where
    next : Option Row → Building
    next o = elim o [ none ↦ insert_into s.id k b | some r ↦ written (insert_row b.work.tableau.cutoff r k b.row) b.work ]

    go : (o : Option Row) → PlainRow (next o).row
    go none = into-plain s.id k b h
    go (some r) = row_plain r k b h

term-plain : (t : Term) (b : Building) → PlainRow b.row → PlainRow (insert_term t b).row
unfolding insert_term count_use add_variable
term-plain t b h = last (count_use n (known (find_variable n b.work.changes.variables))) (first (find_variable n b.work.changes.variables))
  where
    n : ℕ
    n = t.variable

    known : Option Variable → Building
    known o = elim o [ none ↦ add_variable n b | some v ↦ b ]

    first : (o : Option Variable) → PlainRow (known o).row
    first none = to-plain (new_symbol _ b.work) b h
    first (some v) = h

    after : Building → Option Variable → Building
    after x o = elim o [ none ↦ x | some v ↦ insert_variable v.symbol t.coefficient x ]

    by : (x : Building) → PlainRow x.row → (o : Option Variable) → PlainRow (after x o).row
    by x p none = p
    by x p (some v) = variable-plain v.symbol t.coefficient x p

    last : (x : Building) → PlainRow x.row → PlainRow (after x (find_variable n x.work.changes.variables)).row
    last x p = by x p (find_variable n x.work.changes.variables)

terms-plain : (cutoff : Float) (ts : List Term) (b : Building) → PlainRow b.row → PlainRow (insert_terms cutoff ts b).row
unfolding insert_terms
terms-plain cutoff [] b h = h
terms-plain cutoff (t ∷ ts) b h = terms-plain cutoff ts _ (go (near_zero cutoff t.coefficient))
  where
    next : Bool → Building
    next z = elim z [ true ↦ b | false ↦ insert_term t b ]

    go : (z : Bool) → PlainRow (next z).row
    go true = h
    go false = term-plain t b h

add-plain : (s : Symbol) (k : Float) (b : Building) → PlainRow b.row → PlainRow (add_symbol s k b).row
unfolding add_symbol
add-plain s k b h = into-plain s.id k (append_to s b) (to-plain s b h)

error-plain : (s : Symbol) (k strength : Float) (b : Building) → PlainRow b.row → PlainRow (add_error s k strength b).row
unfolding add_error
error-plain s k strength b h = add-plain s k b h

inequality-plain : (sign strength : Float) (b : Building) → PlainRow b.row → PlainRow (inequality sign strength b).row
unfolding inequality tagged
inequality-plain sign strength b h = go (lt strength required)
  where
    b₁ : Building
    b₁ = add_symbol (new_symbol Slack b.work) sign b

    made : Bool → Created
    made z = elim z [ true ↦ tagged (new_symbol Slack b.work) (some (new_symbol Error b₁.work)) (add_error (new_symbol Error b₁.work) (neg sign) strength b₁) | false ↦ tagged (new_symbol Slack b.work) none b₁ ]

    go : (z : Bool) → PlainRow (made z).row
    go true = error-plain (new_symbol Error b₁.work) (neg sign) strength b₁ (add-plain (new_symbol Slack b.work) sign b h)
    go false = add-plain (new_symbol Slack b.work) sign b h

tag-plain : (r : Relation) (b : Building) → PlainRow b.row → PlainRow (add_tag r b).row
unfolding add_tag
tag-plain (at_most s) b h = inequality-plain one64 s b h
tag-plain (at_least s) b h = inequality-plain minus_one64 s b h
tag-plain (equal s) b h = go (lt s required)
  where
    made : Bool → Created
    made z = elim z [ true ↦ soft_equality s b | false ↦ required_equality b ]

    go : (z : Bool) → PlainRow (made z).row
    go true = unfold soft_equality tagged in error-plain _ one64 s _ (error-plain _ minus_one64 s b h)
    go false = unfold required_equality tagged in add-plain _ one64 b h

pub create-plain : (terms : List Term) (constant : Float) (r : Relation) (w : Work) → PlainRow (create_row terms constant r w).row
unfolding create_row reverse_sign
create-plain terms constant r w = go (below_zero c.row.constant)
  where
    c : Created
    c = add_tag r (insert_terms w.tableau.cutoff terms (record { work = w; row = record { constant = constant; cells = map (λ _. zero64) w.tableau.symbols } }))

    made : Bool → Created
    made z = elim z [ false ↦ c | true ↦ record { work = c.work; row = reverse_sign c.row; tag = c.tag } ]

    go : (z : Bool) → PlainRow (made z).row
    go false = tag-plain r _ (terms-plain w.tableau.cutoff terms _ (bare-plain w.tableau.symbols))
    go true = reverse-plain c.row.cells
