use Rattle.std.proofs.Common.{◌≡◌, ◌+◌, length}
use Rattle.laws.specs.Loops.{fold_in, map_in}
use Rattle.layout.specs.cells.Names.{row_room}
use Rattle.rows.specs.Marks.{mark_of}
use Rattle.rows.specs.Table.{scaled_mark, scaled_value}
use Rattle.rows.proofs.row.scale_cells.Given as goal

abbrev pub invariant-loop-i : goal.invariant-loop-i
invariant-loop-i l = (map_in (scaled_value l.factor) l.i (1 + l.width) l.row ≡ map_in (scaled_value l.factor) 1 (1 + l.width) l.initial.row) × (fold_in (scaled_mark l.factor) l.i (1 + l.width) l.row (mark_of l.w) ≡ fold_in (scaled_mark l.factor) 1 (1 + l.width) l.initial.row (mark_of l.initial.w)) × (length l.row ≡ row_room)
