use Prim.Native.Nat.{◌+◌}
use mathlib.Core.Path.{◌≡◌}
use Rattle.laws.specs.Loops.{run}
use Rattle.rows.specs.choose.Choose.{no_best}
use Rattle.sparse.specs.Tables.{lent}
use Rattle.waist.specs.Ratios.{ratio_turn}
use Rattle.waist.proofs.ratios.ratio_row.Given as goal

abbrev pub invariant-loop-i : goal.invariant-loop-i
invariant-loop-i l = run (ratio_turn l.down l.p (lent l.tables)) l.i (1 + l.n) l.b ≡ run (ratio_turn l.down l.p (lent l.tables)) 1 (1 + l.n) no_best
