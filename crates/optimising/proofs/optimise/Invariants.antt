use Rattle.sparse.specs.Tables.{held, Same}
use Rattle.std.specs.Prelude.{Ok}
use Prim.Native.Nat.{◌-◌}
use Rattle.rows.specs.Marks.{mark_of}
use Rattle.waist.specs.Working.{work_of}
use Rattle.optimising.specs.Turn.{Passing, went_of}
use Rattle.optimising.specs.Chosen.{optimise_on}
use Rattle.optimising.proofs.optimise.Given as goal

abbrev pub invariant-loop-next : goal.invariant-loop-next
invariant-loop-next l =
    (Passing l.art (optimise_on l.art) l.budget ((optimise_on l.art) (l.budget - l.pivots) (work_of l.art (mark_of l.initial.went.wrote) l.pivots (held l.initial.room))) (went_of (Ok l.went)) (held l.room)) × Same l.initial.room l.room

abbrev pub decreases-loop-next : goal.decreases-loop-next
decreases-loop-next l = l.budget - l.went.pivots
