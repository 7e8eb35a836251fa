use Rattle.std.proofs.Common.{sym, refl, arith, eq-eqb, ne_eqb}
use Rattle.text.specs.Put.{put_as}
use Rattle.text.proofs.show_text.answers.put_kind.Goals as goal

pub returns-then-kind-eq0 : goal.returns-then-kind-eq0
returns-then-kind-eq0 c = record { put = put_as (sym (rw (eq-eqb _ 0 c.if-kind-eq0.true) refl)) c.put_text.ensures.put; upper_bound = omega arith }

pub returns-then-kind-eq1 : goal.returns-then-kind-eq1
returns-then-kind-eq1 c = record { put = put_as (sym (rw (ne_eqb _ 0 c.if-kind-eq0.false, eq-eqb _ 1 c.if-kind-eq1.true) refl)) c.put_text-then-kind-eq1.ensures.put; upper_bound = omega arith }

pub returns : goal.returns
returns c = record { put = put_as (sym (rw (ne_eqb _ 0 c.if-kind-eq0.false, ne_eqb _ 1 c.if-kind-eq1.false) refl)) c.put_text-2.ensures.put; upper_bound = omega arith }
