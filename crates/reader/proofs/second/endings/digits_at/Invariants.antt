use Rattle.std.proofs.Common.{◌≡◌, ℕ, ◌≤◌, ◌-◌, length}
use Rattle.reader.specs.second.Numbers.{Worth, capped}
use Rattle.reader.proofs.second.endings.digits_at.Given as goal

abbrev pub invariant-loop-d : goal.invariant-loop-d
invariant-loop-d l = (k : ℕ) × (Worth l.s l.at l.i k) × (l.n ≡ capped l.most k) × (l.i ≤ length l.s)

abbrev pub decreases-loop-d : goal.decreases-loop-d
decreases-loop-d l = length l.s - l.i
