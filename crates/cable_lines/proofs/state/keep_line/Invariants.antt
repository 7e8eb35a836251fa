use Rattle.cable_lines.specs.State.{held_by, Kept}
use Rattle.cable_lines.proofs.state.keep_line.Given as goal

abbrev pub invariant-loop-i : goal.invariant-loop-i
invariant-loop-i l = Kept (held_by l.initial.s) l.piece (held_by l.s) l.i
