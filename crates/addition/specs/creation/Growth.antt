-- A new symbol in the tableau and in the row that is being built: the steps' `append_to` and `add_symbol`.
-- Assumes nothing.
use Prim.Native.Nat.{ℕ, suc, ◌+◌, ◌≤◌, ◌<◌}
use Rattle.std.specs.Prelude.{◌≡◌, false, List, [], ◌∷◌, ◌++◌, Float, length, set}
use Rattle.std.proofs.Math.Path.{refl, sym, ap}
use Rattle.std.proofs.Common.{◌∙◌, length-set}
use native.Mathlib.Omega.{arith}
use Rattle.std.specs.Float.Ieee.{nan}
use Rattle.std.proofs.Math.ListN.{get_or}
use Rattle.std.proofs.Math.Seq.{get_or-set_same, get_or-set_other}
use Rattle.laws.specs.Lists.{tab, tab-ext}
use Rattle.steps.specs.Number.{zero64, cell_bound, Mark, worse}
use Rattle.steps.specs.Symbol.{Symbol}
use Rattle.steps.specs.Row.{append_cell}
use Rattle.steps.specs.Work.{new_symbol, append_symbol}
use Rattle.steps.specs.CreateRow.{Building, append_to, insert_into, add_symbol, insert_in_objective, add_error}
use Rattle.layout.specs.Layout.{kind_of, cells_of}
use Rattle.rows.specs.choose.Walk.{tab-snoc}
use Rattle.rows.specs.declared.number.Wrote.{Wrote}
use Rattle.rows.specs.Marks.{mark_of, join}
use Rattle.rows.specs.Table.{insert_symbol_at, insert_symbol_mark}
use Rattle.rows.specs.Reading as dense
use Rattle.layout.specs.cells.Names.{row_room, last_place}
use Rattle.sparse.specs.Places.{variable_count_at}
use Rattle.sparse.specs.Sparse.{Sparse, symbol_count, row_count, variable_count, symbol_at, read}
use Rattle.waist.specs.Working.{cutoff_of, sparse, work_of, dense-cells}
use Rattle.waist.specs.Dropping.{Free}
use Rattle.waist.specs.Standing.{Standing, Makes, Unowned}
use Rattle.waist.specs.Growing.{next_id, Grown}
use Rattle.addition.specs.creation.Building.{building_of, Builds, builds-mark, joined_is, symbol-builds}

-- what a new symbol leaves as it was, and what it is
pub record Grows (kind : ℕ) (t u : Sparse) : Type 0 where
  pub symbols : symbol_count u ≡ 1 + symbol_count t
  pub next : next_id u ≡ 1 + next_id t
  pub rows : row_count u ≡ row_count t
  pub variables : variable_count u ≡ variable_count t
  pub old : (p : ℕ) → p ≤ symbol_count t → symbol_at u p ≡ symbol_at t p
  pub new : symbol_at u (1 + symbol_count t) ≡ record { id = next_id t; kind = kind_of kind }
  pub free : Free (1 + symbol_count t) u
  pub unowned : Unowned (1 + symbol_count t) u
  pub frees : (p : ℕ) → Free p t → Free p u
  pub unowneds : (p : ℕ) → Unowned p t → Unowned p u

pub grows : {kind : ℕ} {t u : Sparse} → Grown kind t u → Grows kind t u
grows g =
    record {
      symbols = g.symbols;
      next = g.next;
      rows = g.rows;
      variables = g.words variable_count_at (λ e. omega (arith, e)) (λ e. omega (arith, e)) (λ e. omega (arith, e));
      old = g.old;
      new = g.new;
      free = g.free;
      unowned = g.unowned;
      frees = g.frees;
      unowneds = g.unowneds;
    }

-- the objective is no part of it
pub grows-reals : {kind : ℕ} {t : Sparse} (w k b : List ℕ) (r r₁ v : List Float) → Grows kind t (sparse w k b r v) → Grows kind t (sparse w k b r₁ v)
unfolding symbol_at
grows-reals w k b r r₁ v g =
    record { symbols = g.symbols; next = g.next; rows = g.rows; variables = g.variables; old = g.old; new = g.new; free = g.free; unowned = g.unowned; frees = g.frees; unowneds = g.unowneds }

-- the symbol that takes the next id
pub new_is : (kind : ℕ) (a : Mark) (t : Sparse) (row : List Float) → new_symbol (kind_of kind) (building_of a t row).work ≡ record { id = next_id t; kind = kind_of kind }
unfolding new_symbol building_of work_of read
new_is kind a t row = refl

module _ (kind : ℕ) (a : Mark) (t u : Sparse) (s : Standing false a t) (fit : symbol_count t < last_place) (g : Grows kind t u) (m : Makes false false a a (λ w. append_symbol (new_symbol (kind_of kind) w) w) t u) (row : List Float) (wide : length row ≡ row_room) where
  abbrev p : ℕ
  p = 1 + symbol_count t

  abbrev row₁ : List Float
  row₁ = set row p zero64

  abbrev b : Building
  b = building_of a t row

  wide₁ : length row₁ ≡ row_room
  wide₁ = length-set row p zero64 ∙ wide

  -- "every row and the objective get its place at the end"
  row_appended : dense.row_of p row₁ ≡ append_cell (dense.row_of (symbol_count t) row)
  unfolding dense.row_of append_cell
  row_appended =
      let k : ℕ = symbol_count t in
      let o : 1 + k ≡ suc k = omega arith in
      let c : get_or row₁ 0 nan ≡ get_or row 0 nan = get_or-set_other row p 0 zero64 nan (λ e. omega (arith, e)) in
      let d : cells_of p row₁ ≡ cells_of k row ++ (zero64 ∷ []) =
      dense-cells p row₁
      ∙ ap (λ (n : ℕ). tab (λ q. get_or row₁ q nan) 1 n) o
      ∙ tab-snoc (λ q. get_or row₁ q nan) 1 k
      ∙ rw (tab-ext (λ q. get_or row₁ q nan) (λ q. get_or row q nan) 1 k (λ q x y. get_or-set_other row p q zero64 nan (λ e. omega (arith, e, y))), get_or-set_same row p zero64 nan (omega (arith, wide, fit)), dense-cells k row) refl in
      rw (c, d) refl

  append-reads : building_of a u row₁ ≡ append_to (new_symbol (kind_of kind) b.work) b
  unfolding building_of append_to
  append-reads = rw (m.reads 0, g.symbols, row_appended) refl

  -- a new symbol, in the tableau and in the row
  pub append-builds : Builds a a (λ b. append_to (new_symbol (kind_of kind) b.work) b) t u row row₁
  append-builds = record { reads = append-reads; stands = m.stands }

  -- a new symbol in the row with x
  pub add-builds : (x : Float) → Builds a (worse a (insert_symbol_mark (cutoff_of u) p x cell_bound row₁)) (λ b. add_symbol (new_symbol (kind_of kind) b.work) x b) t u row (insert_symbol_at (cutoff_of u) p x row₁)
  unfolding add_symbol
  add-builds x =
      let i = symbol-builds a u m.stands row₁ wide₁ p x (omega arith) (rw g.symbols (omega arith)) in
      let e : (symbol_at u p).id ≡ (new_symbol (kind_of kind) b.work).id = ap (λ (y : Symbol). y.id) (g.new ∙ sym (new_is kind a t row)) in
      record {
        reads = i.reads ∙ ap (λ (n : ℕ). insert_into n x (building_of a u row₁)) e ∙ ap (insert_into (new_symbol (kind_of kind) b.work).id x) append-reads;
        stands = i.stands;
      }

-- a new error, in the objective too
module _ (a c d : Mark) (t u v : Sparse) (row row₁ : List Float) (x strength : Float) (g : Grows 2 t u) (h : Builds a c (λ b. add_symbol (new_symbol (kind_of 2) b.work) x b) t u row row₁)
    (m : Makes false false c d (insert_in_objective (symbol_at u (1 + symbol_count t)).id strength) u v) (same : symbol_count v ≡ symbol_count u) where
  abbrev begun : Building
  begun = building_of a t row

  abbrev error : Symbol
  error = new_symbol (kind_of 2) begun.work

  id-is : (symbol_at u (1 + symbol_count t)).id ≡ error.id
  id-is = ap (λ (y : Symbol). y.id) (g.new ∙ sym (new_is 2 a t row))

  work-is : work_of false c 0 u ≡ (add_symbol error x begun).work
  unfolding building_of
  work-is = let r : building_of c u row₁ ≡ add_symbol error x begun = h.reads in ap (λ (y : Building). y.work) r

  row_is : dense.row_of (symbol_count u) row₁ ≡ (add_symbol error x begun).row
  unfolding building_of
  row_is = let r : building_of c u row₁ ≡ add_symbol error x begun = h.reads in ap (λ (y : Building). y.row) r

  error-reads : building_of d v row₁ ≡ add_error error x strength begun
  unfolding building_of add_error
  error-reads = rw (m.reads 0, same, row_is, id-is, work-is) refl

  pub error-builds : Builds a d (λ b. add_error (new_symbol (kind_of 2) b.work) x strength b) t v row row₁
  error-builds = record { reads = error-reads; stands = m.stands }

-- the code's calls put together
pub symbol-calls : (kind : ℕ) (past w : Wrote) {r : Wrote} (x : Float) (t u : Sparse) (row : List Float) (q p : ℕ) {row₁ : List Float} → p ≡ q → q ≡ 1 + symbol_count t
    → Standing false (mark_of past) t → symbol_count t < last_place → Grown kind t u → ((a : Mark) → Standing false a t → Makes false false a a (λ w. append_symbol (new_symbol (kind_of kind) w) w) t u) → length row ≡ row_room
    → mark_of w ≡ insert_symbol_mark (cutoff_of u) p x cell_bound (set row p zero64) → row₁ ≡ insert_symbol_at (cutoff_of u) p x (set row p zero64) → r ≡ join past w
    → Builds (mark_of past) (mark_of r) (λ b. add_symbol (new_symbol (kind_of kind) b.work) x b) t u row row₁
symbol-calls kind past w x t u row q p e f s fit g m wide em er ej =
    let o : p ≡ 1 + symbol_count t = e ∙ f in
    let em' : mark_of w ≡ insert_symbol_mark (cutoff_of u) (1 + symbol_count t) x cell_bound (set row (1 + symbol_count t) zero64) = rw o at em in
    rw (er, o) (builds-mark (joined_is past w ej em') (add-builds kind (mark_of past) t u s fit (grows g) (m (mark_of past) s) row wide x))
