use Rattle.writing.specs.Writes.{said-yes, said-no, count-few}
use Rattle.writing.proofs.said.said.Goals as goal

pub terms_said-terms-requires : goal.terms_said-terms-requires
terms_said-terms-requires c = count-few c.args.p c.if-p.true

pub returns-then-p : goal.returns-then-p
returns-then-p c = said-yes c.args.p c.args.constant c.args.strength c.args.group c.if-p.true c.terms_said-terms.ensures

pub returns : goal.returns
returns c = said-no c.args.p c.args.constant c.args.strength c.args.group c.if-p.false
