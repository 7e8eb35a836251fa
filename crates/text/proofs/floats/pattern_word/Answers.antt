use Rattle.std.proofs.Common.{length, eq-eqb, ne_eqb}
use Rattle.text.specs.Floats.{pattern_of}
use Rattle.text.proofs.floats.pattern_word.Goals as goal

pub returns-then-w-eq16 : goal.returns-then-w-eq16
unfolding pattern_of
returns-then-w-eq16 c = simp (eq-eqb (length c.args.w.now) 16 c.if-w-eq16.true, c.hexadecimal.ensures)

pub returns-else-w-eq16 : goal.returns-else-w-eq16
unfolding pattern_of
returns-else-w-eq16 c = simp (ne_eqb (length c.args.w.now) 16 c.if-w-eq16.false)
