use Rattle.writing.specs.Buffer.{text-as, adds-nothing}
use Rattle.writing.specs.Texts.{sign-minus, sign-none, sign-plus}
use Rattle.writing.proofs.texts.put_sign.Goals as goal

pub returns-then-negative : goal.returns-then-negative
returns-then-negative c = text-as (sign-minus _ _ c.if-negative.true) c.put.ensures

pub returns-then-first : goal.returns-then-first
returns-then-first c = text-as (sign-none _ _ c.if-negative.false c.if-first.true) (adds-nothing _ _)

pub returns : goal.returns
returns c = text-as (sign-plus _ _ c.if-negative.false c.if-first.false) c.put-2.ensures
