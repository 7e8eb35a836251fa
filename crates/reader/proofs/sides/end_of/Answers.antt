use Rattle.std.proofs.Common.{sym, ◌∙◌}
use Rattle.std.proofs.lemmas.Bool.{false≢true}
use Rattle.reader.specs.Ends.{end_whole, end-not}
use Rattle.reader.proofs.sides.end_of.Goals as goal
use Rattle.reader.proofs.sides.end_of.Goals.{else-e-via-then-e+else-e-s, else-e-via-else-e}

pub returns-then-e-s : goal.returns-then-e-s
returns-then-e-s c = end_whole c.args.s.now c.args.m c.args.e c.requires c.if-e.true c.if-e-s.true

pub returns : goal.returns
returns c = end-not c.args.s.now c.args.m c.args.e c.requires (λ b a. elim c.else-e.branch [ else-e-via-then-e+else-e-s w ↦ w.if-e-s.false a | else-e-via-else-e w ↦ false≢true (sym w.if-e.false ∙ b) ])
