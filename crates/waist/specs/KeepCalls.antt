-- The calls of the code that keeps a row, over variables.
-- Assumes nothing.
use Rattle.std.specs.Prelude.{ℕ, ◌+◌, ◌≤◌, ◌<◌, ◌≡◌, Bool, List, Float, get_or, set}
use Rattle.std.proofs.Math.Path.{refl}
use Rattle.std.proofs.Common.{sym, ap, ◌∙◌, subst, arith}
use Rattle.std.specs.Float.{nan}
use Rattle.rows.specs.moves.Close as place
use Rattle.sparse.specs.Places.{most_rows, row_count_at, cell_count_at, row_places_at, constants_at}
use Rattle.sparse.specs.Sparse.{Sparse, symbol_count, row_count, cell_count}
use Rattle.layout.specs.cells.Names.{cell_room}
use Rattle.layout.specs.cells.Cells.{Ascending, cells, opened, replaced}
use Rattle.waist.specs.substituting.Held.{held-room}
use Rattle.waist.specs.substituting.Loose.{SettledRow}
use Rattle.waist.specs.Working.{sparse, lines_of, Sound, lines-few, rows-lines}
use Rattle.waist.specs.HeldRows.{held-opened}
use Rattle.waist.specs.Dropping.{Free}
use Rattle.waist.specs.Spots.{spot_of, kept_at, Keeps}
use Rattle.waist.specs.Keeping.{keep-reads}

module _ (art : Bool) (p : ℕ) (row : List Float) (t : Sparse) (so : Sound art t) where
  tables-by : (z count size : ℕ) (ws ks ks' bs : List ℕ) (rs vs : List Float) → count ≡ lines_of art t → ks ≡ opened (cell_count t) z t.keys → cells ks' vs size ≡ replaced (cell_count t) z (symbol_count t) row ks t.values
      → bs ≡ place.opened (row_places_at + z) (row_places_at + (row_count t + 1)) p t.bytes → rs ≡ place.opened (constants_at + z) (constants_at + (count + 1)) (get_or row 0 nan) t.reals
      → ws ≡ set (set t.words row_count_at (row_count t + 1)) cell_count_at size → sparse ws ks' bs rs vs ≡ kept_at z art p row t
  unfolding kept_at
  tables-by z count size ws ks ks' bs rs vs e k c b f h = rw (h, b, f, e, ← k, ← c) refl

  -- what the code needs to lay the row down
  pub keep-room : (z : ℕ) {ks : List ℕ} → 1 ≤ z → z ≤ 1 + row_count t → ks ≡ opened (cell_count t) z t.keys → Ascending ks (cell_count t) × (cell_count t + symbol_count t ≤ cell_room)
  keep-room z a b e =
      let f = lines-few art t so in
      let k = rows-lines art t in
      let h = held-room (lines_of art t) (cell_count t) t.keys t.values so.held f in
      let m = so.named.few-symbols in
      rw e ((held-opened (lines_of art t) (cell_count t) z t.keys t.values so.held f a (omega (arith, b, k))).up, omega (arith, h, m))

  pub keep-calls : 1 ≤ p → p ≤ symbol_count t → Free p t → row_count t + 1 < most_rows → SettledRow (symbol_count t) row → (z count size : ℕ) (ws ks ks' bs : List ℕ) (rs vs : List Float) → z ≡ spot_of p (row_count t) t.bytes → count ≡ lines_of art t
      → ks ≡ opened (cell_count t) z t.keys → cells ks' vs size ≡ replaced (cell_count t) z (symbol_count t) row ks t.values
      → bs ≡ place.opened (row_places_at + z) (row_places_at + (row_count t + 1)) p t.bytes → rs ≡ place.opened (constants_at + z) (constants_at + (count + 1)) (get_or row 0 nan) t.reals
      → ws ≡ set (set t.words row_count_at (row_count t + 1)) cell_count_at size → Keeps art p row t (sparse ws ks' bs rs vs)
  keep-calls low high free fit ok z count size ws ks ks' bs rs vs g e k c b f h =
      subst (Keeps art p row t) (sym (tables-by z count size ws ks ks' bs rs vs e k c b f h ∙ ap (λ (x : ℕ). kept_at x art p row t) g)) (keep-reads art p row t so low high free fit ok)
