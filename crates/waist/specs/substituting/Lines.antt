-- "Substitute s: s's cell k goes, then insert row times k.", line by line: what it makes of the cells, of the constants and of the mark so far.
use Rattle.std.specs.Prelude.{ℕ, ◌+◌, ◌*◌, ◌≤◌, Bool, cond, List, Float, get_or, set}
use Rattle.std.proofs.Math.Bool.{true, false}
use Rattle.std.specs.Float.{nan}
use Rattle.std.proofs.Common.{arith}
use Rattle.laws.specs.Loops.{run}
use Rattle.steps.specs.Number.{cell_bound, constant_bound, ◌+₆₄◌, ◌*₆₄◌, Mark, worse, mark_write}
use Rattle.steps.specs.Symbol.{absent}
use Rattle.sparse.specs.Places.{most_rows, constants_at}
use Rattle.layout.specs.cells.Names.{row_span, last_place}
use Rattle.layout.specs.cells.Cells.{Cells, cell_at}
use Rattle.waist.specs.merging.Merge.{merged_into, merged_into_mark}
use Rattle.waist.specs.substituting.Held.{Held, held-room, held-replaced}

-- the cells of all lines, the constants, and the mark of what was written so far
pub record Lines : Type 0 where
  pub keys : List ℕ
  pub vals : List Float
  pub size : ℕ
  pub reals : List Float
  pub mark : Mark

abbrev pub lines : List ℕ → List Float → ℕ → List Float → Mark → Lines
lines ks vs n rs a = record { keys = ks; vals = vs; size = n; reals = rs; mark = a }

-- the symbol stands at place `at`; the row that is inserted has the constant y and is loose
module _ (cutoff : Float) (at m : ℕ) (y : Float) (cols : List ℕ) (others : List Float) where
  unfoldable pub total_of : Float → ℕ → List Float → Float
  total_of k i reals = get_or reals (constants_at + i) nan +₆₄ (y *₆₄ k)

  -- line i holds the symbol with k
  unfoldable pub line_with : Float → ℕ → Lines → Lines
  line_with k i s =
      let t : Cells = merged_into cutoff s.size i at m k s.keys s.vals cols others in
      lines t.keys t.vals t.size (set s.reals (constants_at + i) (total_of k i s.reals))
      (worse s.mark (worse (mark_write constant_bound (total_of k i s.reals)) (merged_into_mark cutoff s.size i at m cell_bound k s.keys s.vals cols others)))

  unfoldable pub held_by : ℕ → Lines → Float
  held_by i s = cell_at s.keys s.vals s.size (i * row_span + at)

  unfoldable pub line_in : ℕ → Lines → Lines
  line_in i s = cond (absent (held_by i s)) s (line_with (held_by i s) i s)

  unfoldable pub lines_in : ℕ → Lines → Lines
  lines_in count s = run line_in 1 (count + 1) s

-- ---- the cells can be worked on further

abbrev pub HeldIn : ℕ → Lines → Type 0
HeldIn count s = Held count s.size s.keys s.vals

module _ (cutoff : Float) (at m : ℕ) (y : Float) (cols : List ℕ) (others : List Float) (count i : ℕ) (few : count ≤ most_rows) (first : 1 ≤ i) (last : i ≤ count) where
  pub held-line : (s : Lines) → HeldIn count s → HeldIn count (line_in cutoff at m y cols others i s)
  unfolding line_in line_with merged_into
  held-line s h = go (absent (held_by cutoff at m y cols others i s))
    where
      go : (b : Bool) → HeldIn count (cond b s (line_with cutoff at m y cols others (held_by cutoff at m y cols others i s) i s))
      go true = h
      go false = held-replaced count s.size i last_place _ s.keys s.vals h first last (omega arith) (held-room count s.size s.keys s.vals h few)
