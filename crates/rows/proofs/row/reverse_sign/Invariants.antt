use Rattle.std.proofs.Common.{◌≡◌, ◌+◌}
use Rattle.laws.specs.Loops.{map_in}
use Rattle.rows.specs.Table.{reversed_value}
use Rattle.rows.proofs.row.reverse_sign.Given as goal

abbrev pub invariant-loop-i : goal.invariant-loop-i
invariant-loop-i l = (map_in reversed_value l.i (1 + l.width) l.row ≡ map_in reversed_value 1 (1 + l.width) l.initial.row)
