use Rattle.std.proofs.Common.{◌≡◌, ◌+◌, length}
use Rattle.laws.specs.Loops.{fold2_in, zip_in}
use Rattle.layout.specs.cells.Names.{row_room}
use Rattle.rows.specs.Marks.{mark_of}
use Rattle.rows.specs.Table.{inserted_mark, inserted_value}
use Rattle.rows.proofs.row.insert_cells.Given as goal

abbrev pub invariant-loop-i : goal.invariant-loop-i
invariant-loop-i l = (zip_in (inserted_value l.cutoff l.k) l.i (1 + l.width) l.row l.other ≡ zip_in (inserted_value l.cutoff l.k) 1 (1 + l.width) l.initial.row l.other) × (fold2_in (inserted_mark l.cutoff l.bound l.k) l.i (1 + l.width) l.row l.other (mark_of l.w) ≡ fold2_in (inserted_mark l.cutoff l.bound l.k) 1 (1 + l.width) l.initial.row l.other (mark_of l.initial.w)) × (length l.row ≡ row_room)
