use mathlib.Core.Path.{refl, sym}
use Rattle.std.proofs.Common.{ne_eqb}
use Rattle.refusals.specs.Refusals.{drop_refusal}
use Rattle.refusals.proofs.drop_tests.Goals as goal

pub returns-then-g-eq0 : goal.returns-then-g-eq0
unfolding drop_refusal
returns-then-g-eq0 c = rw c.if-g-eq0.true refl

pub returns-then-not-group_lives : goal.returns-then-not-group_lives
unfolding drop_refusal
returns-then-not-group_lives c = rw (ne_eqb _ _ c.if-g-eq0.false, sym c.group_lives.ensures, c.if-not-group_lives.true) refl

pub returns-then-gone_full : goal.returns-then-gone_full
unfolding drop_refusal
returns-then-gone_full c = rw (ne_eqb _ _ c.if-g-eq0.false, sym c.group_lives.ensures, c.if-not-group_lives.false, sym c.gone_full.ensures, c.if-gone_full.true) refl

pub returns : goal.returns
unfolding drop_refusal
returns c = rw (ne_eqb _ _ c.if-g-eq0.false, sym c.group_lives.ensures, c.if-not-group_lives.false, sym c.gone_full.ensures, c.if-gone_full.false) refl
