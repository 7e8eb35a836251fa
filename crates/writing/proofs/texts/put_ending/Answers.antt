use Rattle.writing.specs.Buffer.{text-as, then, adds-nothing}
use Rattle.writing.specs.Texts.{ending-none, ending-some}
use Rattle.writing.proofs.texts.put_ending.Goals as goal

pub returns-then-strength-group : goal.returns-then-strength-group
returns-then-strength-group c = text-as (ending-none c.args.strength c.args.group c.if-strength-group.true) (adds-nothing _ _)

pub returns : goal.returns
returns c = text-as (ending-some c.args.strength c.args.group c.if-strength-group.false) (then c.put-a.ensures (then c.put_number-b.ensures (then c.put-c.ensures c.put_number.ensures)))
