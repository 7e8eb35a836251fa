use Rattle.std.proofs.Common.{◌≤◌, ◌-◌, length}
use Rattle.reader.specs.Heads.{factor_of}
use Rattle.reader.specs.HeadLaws.{Same}
use Rattle.reader.proofs.heads.head_at.Given as goal

abbrev pub invariant-loop-h : goal.invariant-loop-h
invariant-loop-h l = record { later : l.at ≤ l.i; within : l.i ≤ length l.s; small : l.g.product ≤ 1048576; same : Same l.s l.at (factor_of l.fn.f) l.i (factor_of l.g) }

abbrev pub decreases-loop-h : goal.decreases-loop-h
decreases-loop-h l = length l.s - l.i
