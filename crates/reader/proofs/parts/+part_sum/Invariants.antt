-- A bracket takes one from the brackets that may still be opened, and a sum calls the part at the same depth.
use Rattle.std.proofs.Common.{◌≡◌, ◌≤◌, length, ◌+◌, ◌-◌, ◌*◌}
use Rattle.reader.specs.Parts.{sums_of, Ready}
use Rattle.reader.specs.SumLaws.{Left}
use Rattle.reader.proofs.parts.+part_sum.Given as goal

abbrev pub decreases-part : goal.decreases-part
decreases-part l = 2 * l.o.left

abbrev pub decreases-sum : goal.decreases-sum
decreases-sum l = 2 * l.o.left + 1

abbrev pub invariant-sum-loop-e : goal.invariant-sum-loop-e
invariant-sum-loop-e l =
    record {
      later : l.initial.q.at ≤ l.q.at;
      within : l.q.at ≤ length l.s;
      product : l.f.product ≡ l.o.factor.product;
      left : Left l.s l.initial.q.at l.o.factor.minus l.o.factor.product l.o.left (sums_of l.initial.numbers l.initial.sums l.initial.q) l.numbers l.sums l.q l.f.minus;
      ready : Ready l.numbers l.sums l.q;
    }

abbrev pub decreases-sum-loop-e : goal.decreases-sum-loop-e
decreases-sum-loop-e l = length l.s - l.q.at
