use Prim.Native.Nat.{◌+◌}
use mathlib.Core.Path.{◌≡◌}
use Rattle.laws.specs.Loops.{run}
use Rattle.rows.specs.choose.Choose.{no_best}
use Rattle.waist.specs.Ratios.{dual_turn}
use Rattle.waist.proofs.ratios.dual_along.Given as goal

abbrev pub invariant-loop-p : goal.invariant-loop-p
invariant-loop-p l = run (dual_turn l.bytes l.reals l.row) l.p (1 + l.n) l.b ≡ run (dual_turn l.bytes l.reals l.row) 1 (1 + l.n) no_best
