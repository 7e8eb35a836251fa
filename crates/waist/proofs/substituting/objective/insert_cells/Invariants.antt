use Prim.Native.Nat.{◌+◌}
use mathlib.Core.Path.{◌≡◌}
use Rattle.laws.specs.Loops.{run}
use Rattle.steps.specs.Number.{all_whole}
use Rattle.rows.specs.Marks.{mark_of}
use Rattle.waist.specs.substituting.Objective.{aim, aim_turn}
use Rattle.waist.proofs.substituting.objective.insert_cells.Given as goal

abbrev pub invariant-loop-p : goal.invariant-loop-p
invariant-loop-p l = run (aim_turn l.cutoff l.k l.row) l.p (l.width + 1) (aim l.reals (mark_of l.w)) ≡ run (aim_turn l.cutoff l.k l.row) 1 (l.width + 1) (aim l.initial.reals all_whole)
