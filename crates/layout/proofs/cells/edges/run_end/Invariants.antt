use Rattle.layout.specs.cells.Edges.{Upto}
use Rattle.layout.proofs.cells.edges.run_end.Given as goal

abbrev pub invariant-loop-r : goal.invariant-loop-r
invariant-loop-r l = Upto l.keys l.high l.c l.r
