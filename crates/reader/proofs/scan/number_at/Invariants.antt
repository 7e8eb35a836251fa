use Rattle.std.proofs.Common.{◌≤◌, ◌<◌, ◌-◌, length}
use Rattle.reader.specs.Scan.{Digits}
use Rattle.reader.proofs.scan.number_at.Given as goal

abbrev pub invariant-loop-d : goal.invariant-loop-d
invariant-loop-d l = record { digits : Digits l.s l.most l.at l.i l.n; later : l.at < l.i; within : l.i ≤ length l.s; bound : l.n ≤ l.most }

abbrev pub decreases-loop-d : goal.decreases-loop-d
decreases-loop-d l = length l.s - l.i
