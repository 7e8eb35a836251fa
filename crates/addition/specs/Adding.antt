-- What a row that is to come has of the tables, by its subject, with its tag and without either.
-- Assumes nothing.
use Rattle.std.specs.Prelude.{ℕ, ◌+◌, ◌≤◌, ◌<◌, ◌≡◌, false, List, Float}
use Rattle.steps.specs.Number.{Mark}
use Rattle.steps.specs.Symbol.{Slack}
use Rattle.steps.specs.Row.{Row}
use Rattle.steps.specs.CreateRow.{Created}
use Rattle.keeps.specs.Creating.{Tagged}
use Rattle.rows.specs.Reading as dense
use Rattle.layout.specs.cells.Names.{last_place}
use Rattle.sparse.specs.Places.{most_rows}
use Rattle.sparse.specs.Sparse.{Sparse, symbol_count, row_count, symbol_at}
use Rattle.waist.specs.substituting.Loose.{SettledRow}
use Rattle.waist.specs.Working.{work_of}
use Rattle.waist.specs.Dropping.{Free}
use Rattle.waist.specs.Standing.{Standing}
use Rattle.waist.specs.Growing.{next_id}
use Rattle.waist.specs.ArtificialStands.{Holds}
use Rattle.waist.specs.Tags.{tag_at}

-- the row that was built beside the tables
abbrev pub row_in : Sparse → List Float → Row
row_in t row = dense.row_of (symbol_count t) row

-- with its tag
abbrev pub created_by : Mark → ℕ → ℕ → Sparse → List Float → Created
created_by a marker other t row = record { work = work_of false a 0 t; row = row_in t row; tag = tag_at t marker other }

-- a row may come without a subject: there is room for it and for the temporary
pub record Fitting (a : Mark) (t : Sparse) (row : List Float) : Type 0 where
  pub standing : Standing false a t
  pub few-symbols : symbol_count t < last_place
  pub few-rows : row_count t + 2 < most_rows
  pub few-ids : next_id t ≤ 4294900018
  pub settled : SettledRow (symbol_count t) row
  pub holds : Holds (work_of false a 0 t) (row_in t row)

-- the symbol at place p is live and not basic
pub record Open (p : ℕ) (t : Sparse) : Type 0 where
  pub low : 1 ≤ p
  pub high : p ≤ symbol_count t
  pub free : Free p t

-- the temporary slack stands at place p
pub record Temporary (p : ℕ) (t : Sparse) : Type 0 where
  pub low : 1 ≤ p
  pub high : p ≤ symbol_count t
  pub slack : (symbol_at t p).kind ≡ Slack

-- a row with its tag, as create_row leaves it
pub record Made (a : Mark) (marker other : ℕ) (t : Sparse) (row : List Float) : Type 0 where
  pub fitting : Fitting a t row
  pub low : 1 ≤ marker
  pub high : marker ≤ symbol_count t
  pub near : other ≤ symbol_count t
  pub K : ℕ → ℕ
  pub U : ℕ → ℕ
  pub N : ℕ
  pub L : ℕ
  pub tagged : Tagged K U N L (created_by a marker other t row)
