use Rattle.std.proofs.Common.{◌≤◌, ◌≡◌}
use Rattle.std.specs.Prelude.{drop}
use Rattle.reader.specs.sums.Held.{held}
use Rattle.reader.specs.Answers.{kept_from, kept_of}
use Rattle.reader.proofs.answers.keep_all.Given as goal

abbrev pub invariant-loop-i : goal.invariant-loop-i
invariant-loop-i l = (l.k.count ≤ l.i) × (kept_from l.k (drop l.i (held l.numbers l.sums l.count)) ≡ kept_of (held l.numbers l.sums l.count))
