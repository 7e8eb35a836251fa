use mathlib.Core.Path.{refl}
use borrow.Author.Tests.{eq-eqb, ne_eqb}
use Rattle.steps.specs.Strength.{required}
use Rattle.sparse_test.specs.Tested.{softly}
use Rattle.sparse_test.proofs.owners.strength_fits.Goals as goal

pub returns-then-other-eq0 : goal.returns-then-other-eq0
unfolding softly required
returns-then-other-eq0 c = rw (eq-eqb _ _ c.if-other-eq0.true) refl

pub returns-else-other-eq0 : goal.returns-else-other-eq0
unfolding softly required
returns-else-other-eq0 c = rw (ne_eqb _ _ c.if-other-eq0.false) refl
