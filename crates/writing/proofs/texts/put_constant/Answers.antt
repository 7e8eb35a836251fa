use Rattle.writing.specs.Buffer.{text-as, then, adds-nothing}
use Rattle.writing.specs.Texts.{constant-none, constant-some}
use Rattle.writing.proofs.texts.put_constant.Goals as goal

pub returns-then-alone-f : goal.returns-then-alone-f
returns-then-alone-f c = text-as (constant-none _ _ c.if-alone-f.true) (adds-nothing _ _)

pub returns : goal.returns
returns c = text-as (constant-some _ _ c.if-alone-f.false) (then c.put_sign-next.ensures c.put_number.ensures)
