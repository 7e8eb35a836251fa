use mathlib.Core.Path.{refl, sym}
use Rattle.refusals.specs.Refusals.{room_refusal}
use Rattle.refusals.proofs.room_tests.Goals as goal

pub returns-then-constraints_full : goal.returns-then-constraints_full
unfolding room_refusal
returns-then-constraints_full c = rw (sym c.constraints_full.ensures, c.if-constraints_full.true) refl

pub returns-then-variables_full : goal.returns-then-variables_full
unfolding room_refusal
returns-then-variables_full c = rw (sym c.constraints_full.ensures, c.if-constraints_full.false, sym c.variables_full.ensures, c.if-variables_full.true) refl

pub returns-then-ids_used : goal.returns-then-ids_used
unfolding room_refusal
returns-then-ids_used c = rw (sym c.constraints_full.ensures, c.if-constraints_full.false, sym c.variables_full.ensures, c.if-variables_full.false, sym c.ids_used.ensures, c.if-ids_used.true) refl

pub returns : goal.returns
unfolding room_refusal
returns c = rw (sym c.constraints_full.ensures, c.if-constraints_full.false, sym c.variables_full.ensures, c.if-variables_full.false, sym c.ids_used.ensures, c.if-ids_used.false) refl
