use Rattle.std.proofs.Common.{◌≡◌, eqb, get_or}
use Rattle.laws.specs.Lists.{all_on}
use Rattle.rows.specs.places.Shares.{none_left}
use Rattle.rows.proofs.places.none_left.Given as goal

abbrev pub invariant-loop-i : goal.invariant-loop-i
invariant-loop-i l = (all_on (λ j. eqb (get_or l.left j 0) 0) l.i l.n l.ok ≡ none_left l.left l.n)
