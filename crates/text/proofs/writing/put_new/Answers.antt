use Rattle.std.proofs.Common.{ap, eq-eqb, ne_eqb}
use Rattle.text.specs.Answers.{wrote_as, new_text}
use Rattle.text.proofs.writing.put_new.Goals as goal

pub returns-then-gone-eq1 : goal.returns-then-gone-eq1
returns-then-gone-eq1 c = wrote_as c.args.out.now c.put_text.new.out c.args.at c.put_text.result (ap (new_text c.args.x) (eq-eqb c.args.gone 1 c.if-gone-eq1.true)) c.put_text.ensures

pub returns-else-gone-eq1 : goal.returns-else-gone-eq1
returns-else-gone-eq1 c = wrote_as c.args.out.now c.put_float.new.out c.args.at c.put_float.result (ap (new_text c.args.x) (ne_eqb c.args.gone 1 c.if-gone-eq1.false)) c.put_float.ensures
