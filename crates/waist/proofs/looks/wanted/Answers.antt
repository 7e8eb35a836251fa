use Rattle.rows.specs.choose.Choose.{wants}
use Rattle.waist.specs.substituting.Notes.{is_external_kind}
use Rattle.waist.specs.Choosing.{is_dummy_kind}
use Rattle.waist.proofs.looks.wanted.Goals as goal

pub returns-in-External : goal.returns-in-External
unfolding wants is_external_kind
returns-in-External c = rw c.in-External.is c.is_external.ensures

pub returns-in-Pivotable : goal.returns-in-Pivotable
unfolding wants
returns-in-Pivotable c = rw c.in-Pivotable.is c.is_pivotable.ensures

pub returns-in-NonDummy : goal.returns-in-NonDummy
unfolding wants is_dummy_kind
returns-in-NonDummy c = rw (c.in-NonDummy.is, c.is_dummy.ensures)

pub returns-in-Any : goal.returns-in-Any
unfolding wants
returns-in-Any c = rw c.in-Any.is
