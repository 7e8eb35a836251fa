use Rattle.waist.proofs.substituting.notes.clear_changed_if.Goals as goal

pub returns-then-on : goal.returns-then-on
returns-then-on c = rw c.if-on.true c.clear_changed.ensures

pub returns-else-on : goal.returns-else-on
returns-else-on c = rw c.if-on.false
