use mathlib.Core.Path.{refl}
use borrow.Author.Tests.{eq-eqb, ne_eqb}
use Rattle.sparse_test.specs.Tested.{marker_code}
use Rattle.sparse_test.proofs.owners.marker_code.Goals as goal

pub returns-then-other-eq0 : goal.returns-then-other-eq0
unfolding marker_code
returns-then-other-eq0 c = rw (eq-eqb _ _ c.if-relation-eq1.true, eq-eqb _ _ c.if-other-eq0.true) refl

pub returns-else-other-eq0 : goal.returns-else-other-eq0
unfolding marker_code
returns-else-other-eq0 c = rw (eq-eqb _ _ c.if-relation-eq1.true, ne_eqb _ _ c.if-other-eq0.false) refl

pub returns-else-relation-eq1 : goal.returns-else-relation-eq1
unfolding marker_code
returns-else-relation-eq1 c = rw (ne_eqb _ _ c.if-relation-eq1.false) refl
