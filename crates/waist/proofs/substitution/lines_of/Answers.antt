use Rattle.waist.proofs.substitution.lines_of.Goals as goal

pub returns-then-art : goal.returns-then-art
returns-then-art c = rw c.if-art.true

pub returns : goal.returns
returns c = rw c.if-art.false
