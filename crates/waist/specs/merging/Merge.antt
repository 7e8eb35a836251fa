-- What a pivot's row merged into a run leaves, place by place.
use Rattle.std.specs.Prelude.{ℕ, ◌+◌, ◌*◌, ◌%◌, ◌≤◌, ◌<◌, cond, List, ◌∷◌, ltb, eqb, Float, get_or, set}
use Rattle.laws.specs.Loops.{run}
use Rattle.laws.specs.Lists.{tab}
use Rattle.steps.specs.Number.{zero64, Mark, all_whole}
use Rattle.rows.specs.Table.{inserted_value, inserted_mark}
use Rattle.layout.specs.cells.Names.{row_span, last_place}
use Rattle.layout.specs.cells.Cells.{Cells, lower_in, cell_in, replaced}

-- the cells of row r stand from place a up to e, by ascending place; a loose row is row 0
pub record RunOf (keys : List ℕ) (r a e : ℕ) : Type 0 where
  pub up : (s t : ℕ) → a ≤ s → s < t → t < e → get_or keys s 0 < get_or keys t 0
  pub low : (t : ℕ) → a ≤ t → t < e → r * row_span < get_or keys t 0
  pub high : (t : ℕ) → a ≤ t → t < e → get_or keys t 0 ≤ r * row_span + last_place

-- the place that cell j names, or a place past all
unfoldable pub front_of : List ℕ → ℕ → ℕ → ℕ
front_of keys j e = cond (ltb j e) (get_or keys j 0 % row_span) row_span

unfoldable pub lesser : ℕ → ℕ → ℕ
lesser p q = cond (ltb p q) p q

-- "s's cell k goes"
unfoldable pub own_value : ℕ → ℕ → Float → Float
own_value at p x = cond (eqb p at) zero64 x

-- the row's own cell at place p, and the loose row's
unfoldable pub own_cell : List ℕ → List Float → ℕ → ℕ → ℕ → ℕ → ℕ → Float
own_cell keys vals a e i at p = own_value at p (cell_in keys vals (i * row_span + p) a e)

unfoldable pub other_cell : List ℕ → List Float → ℕ → ℕ → Float
other_cell cols others m p = cell_in cols others (0 * row_span + p) 0 m

-- "then insert row times k", as a dense row; place 0 is free
unfoldable pub merged_row : Float → Float → (ℕ → Float) → (ℕ → Float) → List Float
merged_row cutoff k c o = zero64 ∷ tab (λ p. inserted_value cutoff k (c p) (o p)) 1 last_place

unfoldable pub mark_turn : Float → Float → Float → (ℕ → Float) → (ℕ → Float) → ℕ → Mark → Mark
mark_turn cutoff bound k c o p m = inserted_mark cutoff bound k m (c p) (o p)

unfoldable pub merged_mark : Float → Float → Float → (ℕ → Float) → (ℕ → Float) → Mark
merged_mark cutoff bound k c o = run (mark_turn cutoff bound k c o) 1 (last_place + 1) all_whole

-- ---- in the tables

-- every cell stands at a place of a row: place 0 is none
unfoldable pub Placed : List ℕ → ℕ → Type 0
Placed keys n = (t : ℕ) → t < n → (1 ≤ get_or keys t 0 % row_span) × (get_or keys t 0 % row_span ≤ last_place)

-- the first m elements of one list, put into the other from place a on
unfoldable pub pasted : {A : Type 0} → A → ℕ → ℕ → List A → List A → List A
pasted d a m from l = run (λ j l. set l (a + j) (get_or from j d)) 0 m l

-- row i's own cells, without that of place `at`
unfoldable pub own_in : ℕ → ℕ → ℕ → List ℕ → List Float → ℕ → Float
own_in n i at keys vals = own_cell keys vals (lower_in keys (i * row_span) 0 n) (lower_in keys (i * row_span + row_span) 0 n) i at

unfoldable pub merged_into : Float → ℕ → ℕ → ℕ → ℕ → Float → List ℕ → List Float → List ℕ → List Float → Cells
merged_into cutoff n i at m k keys vals cols others = replaced n i last_place (merged_row cutoff k (own_in n i at keys vals) (other_cell cols others m)) keys vals

unfoldable pub merged_into_mark : Float → ℕ → ℕ → ℕ → ℕ → Float → Float → List ℕ → List Float → List ℕ → List Float → Mark
merged_into_mark cutoff n i at m bound k keys vals cols others = merged_mark cutoff bound k (own_in n i at keys vals) (other_cell cols others m)
