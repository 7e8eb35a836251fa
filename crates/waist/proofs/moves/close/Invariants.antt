use mathlib.Core.Path.{◌≡◌}
use Rattle.rows.specs.moves.Close.{closed}
use Rattle.waist.proofs.moves.close.Given as goal

abbrev pub invariant-loop-j : goal.invariant-loop-j
invariant-loop-j g l = (d : g.row.T.Denot) → closed d l.j l.e l.xs ≡ closed d l.i l.e l.initial.xs
