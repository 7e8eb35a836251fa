use Prim.Native.Nat.{◌+◌, ◌≤◌}
use mathlib.Core.Path.{◌≡◌}
use lib.ListN.{get_or}
use Rattle.laws.specs.Loops.{run}
use Rattle.sparse.specs.Places.{most_variables, variable_count_at}
use Rattle.waist.specs.substituting.Notes.{noted, note_row, note_rows}
use Rattle.waist.proofs.substituting.notes.note_rows.Given as goal

abbrev pub invariant-loop-i : goal.invariant-loop-i
invariant-loop-i l = (run (note_row l.at l.y l.n l.keys l.values) l.i (l.count + 1) (noted l.words l.bytes) ≡ note_rows l.at l.y l.n l.keys l.values l.count (noted l.initial.words l.initial.bytes)) × (get_or l.words variable_count_at 0 ≤ most_variables)
