use Rattle.knobharbor.specs.Given.{at-most-by, equal_by, at-least-by}
use Rattle.knobharbor.proofs.given.relation.Goals as goal

pub returns-then-kind-eq0 : goal.returns-then-kind-eq0
returns-then-kind-eq0 c = at-most-by c.args.kind c.args.strength c.if-kind-eq0.true

pub returns-then-kind-eq1 : goal.returns-then-kind-eq1
returns-then-kind-eq1 c = equal_by c.args.kind c.args.strength c.if-kind-eq1.true

pub returns : goal.returns
returns c = at-least-by c.args.kind c.args.strength c.if-kind-eq0.false c.if-kind-eq1.false
