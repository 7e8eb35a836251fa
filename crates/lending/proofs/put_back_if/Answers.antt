use Rattle.sparse.specs.Tables.{lent}
use mathlib.Core.Path.{refl, ◌∙◌}
use Rattle.laws.specs.Given.{then-given}
use Rattle.lending.specs.Entered.{terms-in}
use Rattle.lending.proofs.put_back_if.Goals as goal

pub term_count-m-requires : goal.term_count-m-requires
term_count-m-requires c = (then-given _ c.if-on.true c.requires).constraints

pub put_over-requires : goal.put_over-requires
put_over-requires c = record { counts = then-given _ c.if-on.true c.requires; m_value = c.term_count-m.ensures.value ∙ terms-in (lent c.args.room.now) }

pub returns-then-on-clause-does : goal.returns-then-on-clause-does
returns-then-on-clause-does c = rw c.if-on.true c.put_over.ensures.does

pub returns-else-on-clause-does : goal.returns-else-on-clause-does
returns-else-on-clause-does c = rw c.if-on.false refl
