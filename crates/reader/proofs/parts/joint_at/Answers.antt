use mathlib.Core.Path.{sym, ◌∙◌}
use Rattle.reader.specs.PartLaws.{joins-plus, joins-minus, ends_there}
use Rattle.reader.proofs.parts.joint_at.Goals as goal

pub returns-then-b-eq43 : goal.returns-then-b-eq43
returns-then-b-eq43 c = joins-plus c.args.s.now c.args.at c.skip-mark.result c.skip-mark.ensures c.args.minus (sym c.byte_at-b.ensures ∙ c.if-b-eq43.true)

pub returns-then-b-eq45 : goal.returns-then-b-eq45
returns-then-b-eq45 c = joins-minus c.args.s.now c.args.at c.skip-mark.result c.skip-mark.ensures c.args.minus (sym c.byte_at-b.ensures ∙ c.if-b-eq45.true)

pub returns : goal.returns
returns c = ends_there c.args.s.now c.args.at c.skip-mark.result c.skip-mark.ensures (λ e. c.if-b-eq43.false (c.byte_at-b.ensures ∙ e)) (λ e. c.if-b-eq45.false (c.byte_at-b.ensures ∙ e))
