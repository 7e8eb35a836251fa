use mathlib.Core.Path.{refl}
use Rattle.changes.specs.terms.Terms.{pushed_kept}
use Rattle.changes.proofs.terms.push_kept.Goals as goal

pub returns-then-near_zero : goal.returns-then-near_zero
unfolding pushed_kept
returns-then-near_zero c = rw (← c.near_zero.ensures, c.if-near_zero.true) refl

pub returns-else-near_zero : goal.returns-else-near_zero
unfolding pushed_kept
returns-else-near_zero c = rw (← c.near_zero.ensures, c.if-near_zero.false) c.push.ensures
