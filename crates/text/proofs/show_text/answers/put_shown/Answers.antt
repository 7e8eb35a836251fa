use Rattle.std.proofs.Common.{sym, refl, arith, eq-eqb, ne_eqb}
use Rattle.text.specs.Put.{put_as}
use Rattle.text.specs.show_text.Show.{shown_text}
use Rattle.text.proofs.show_text.answers.put_shown.Goals as goal

pub returns-then-number-eq0 : goal.returns-then-number-eq0
unfolding shown_text
returns-then-number-eq0 c = record { put = put_as (sym (rw (eq-eqb _ 0 c.if-number-eq0.true) refl)) c.put_line.ensures.put; upper_bound = omega arith }

pub returns : goal.returns
unfolding shown_text
returns c = record { put = put_as (sym (rw (ne_eqb _ 0 c.if-number-eq0.false) refl)) c.put_no.ensures.put; upper_bound = omega arith }
