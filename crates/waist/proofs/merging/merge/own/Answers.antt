use borrow.Author.Tests.{eq-eqb, ne_eqb}
use Rattle.steps.specs.Number.{zero64}
use Rattle.waist.specs.merging.Merge.{own_value}
use Rattle.waist.proofs.merging.merge.own.Goals as goal

pub returns-then-p-at : goal.returns-then-p-at
unfolding own_value zero64
returns-then-p-at c = rw (eq-eqb _ _ c.if-p-at.true)

pub returns : goal.returns
unfolding own_value zero64
returns c = rw (ne_eqb _ _ c.if-p-at.false)
