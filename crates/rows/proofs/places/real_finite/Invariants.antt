use Rattle.std.proofs.Common.{◌≡◌, ◌+◌, get_or}
use lib.Ieee.{nan}
use Rattle.laws.specs.Lists.{all_on}
use Rattle.rows.specs.places.Shares.{finite_in}
use Rattle.steps.specs.Number.{is_finite}
use Rattle.rows.proofs.places.real_finite.Given as goal

abbrev pub invariant-loop-i : goal.invariant-loop-i
invariant-loop-i l = (all_on (λ j. is_finite (get_or l.row (l.a + j) nan)) l.i l.n l.ok ≡ finite_in l.row l.a l.n)
