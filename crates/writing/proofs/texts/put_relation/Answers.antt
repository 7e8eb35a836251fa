use Rattle.writing.specs.Buffer.{text-as, then}
use Rattle.writing.specs.Texts.{mark-one, mark-two}
use Rattle.writing.proofs.texts.put_relation.Goals as goal

pub returns-then-mark-eq61 : goal.returns-then-mark-eq61
returns-then-mark-eq61 c = text-as (mark-one _ c.if-mark-eq61.true) c.put.ensures

pub returns : goal.returns
returns c = text-as (mark-two _ c.if-mark-eq61.false) (then c.put-next.ensures c.put-2.ensures)
