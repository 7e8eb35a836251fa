use mathlib.Core.Bool.{false}
use Rattle.waist.specs.Working.{sparse}
use mathlib.Core.Path.{sym, ◌∙◌}
use native.Mathlib.Omega.{arith}
use Rattle.rows.specs.choose.Better.{within}
use Rattle.waist.specs.Rows.{row-free, row-found}
use Rattle.removal.specs.Effects.{error-read, no-error, not-basic, is-basic}
use Rattle.removal.proofs.effects.remove_marker_effects.Goals as goal

pub returns-then-not-is_error : goal.returns-then-not-is_error
returns-then-not-is_error c = no-error _ _ _ _ c.requires.standing (error-read (sparse c.args.words.now c.args.keys.now c.args.bytes.now c.args.reals.now c.args.values.now) c.args.p c.from.result (rw c.kind_at.ensures at c.from.ensures) c.is_error.ensures ∙ c.if-not-is_error.true)

pub returns-in_default : goal.returns-in_default
returns-in_default c = not-basic _ _ _ _ (error-read (sparse c.args.words.now c.args.keys.now c.args.bytes.now c.args.reals.now c.args.values.now) c.args.p c.from.result (rw c.kind_at.ensures at c.from.ensures) c.is_error.ensures ∙ c.if-not-is_error.false) _ (row-found false (sparse c.args.words.now c.args.keys.now c.args.bytes.now c.args.reals.now c.args.values.now) c.requires.standing.sound _ c.requires.le_p c.requires.p_bound) (sym c.row_of-f.ensures.value ∙ c.in_default.is) c.insert_in_objective.ensures

pub returns : goal.returns
returns c = is-basic _ _ _ _ (error-read (sparse c.args.words.now c.args.keys.now c.args.bytes.now c.args.reals.now c.args.values.now) c.args.p c.from.result (rw c.kind_at.ensures at c.from.ensures) c.is_error.ensures ∙ c.if-not-is_error.false) _ (row-found false (sparse c.args.words.now c.args.keys.now c.args.bytes.now c.args.reals.now c.args.values.now) c.requires.standing.sound _ c.requires.le_p c.requires.p_bound) _ (sym c.row_of-f.ensures.value ∙ c.in-Some.is) c.insert_row_in_objective.ensures

pub row_of-f-requires : goal.row_of-f-requires
row_of-f-requires c = c.requires.standing.sound.few

pub insert_in_objective-requires : goal.insert_in_objective-requires
insert_in_objective-requires c = record { standing = c.requires.standing; le_p = c.requires.le_p; p_bound = c.requires.p_bound; free = row-free (sparse c.args.words.now c.args.keys.now c.args.bytes.now c.args.reals.now c.args.values.now) _ (sym c.row_of-f.ensures.value ∙ c.in_default.is) }

pub overflow_cast-i : goal.overflow_cast-i
overflow_cast-i c = let b = within c.row_of-f.ensures.within c.in-Some.is in omega (arith, b, c.requires.standing.sound.few)

pub insert_row_in_objective-requires : goal.insert_row_in_objective-requires
insert_row_in_objective-requires c = let b = within c.row_of-f.ensures.within c.in-Some.is in
    record { standing = c.requires.standing; le_i = b.0; i_bound = b.1 }
