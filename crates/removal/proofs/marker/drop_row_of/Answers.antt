use Rattle.sparse.specs.Tables.{held}
use mathlib.Core.Path.{sym, ◌∙◌}
use native.Mathlib.Omega.{arith}
use Rattle.rows.specs.choose.Better.{within}
use Rattle.waist.specs.Rows.{row_at}
use Rattle.removal.specs.Marker.{no-row-of, none_dropped, row-dropped, row-symbol}
use Rattle.removal.proofs.marker.drop_row_of.Goals as goal

pub returns-in_default-clause-does : goal.returns-in_default-clause-does
returns-in_default-clause-does c = λ a s. none_dropped a _ _ s (no-row-of _ c.requires.sound _ c.requires.le_p c.requires.p_bound (sym c.row_of-f.ensures.value ∙ c.in_default.is))

pub returns-clause-does : goal.returns-clause-does
returns-clause-does c = λ a s. row-dropped a _ _ _ (row-symbol (held c.args.room.now) _ _ (row_at (held c.args.room.now) _ _ (sym c.row_of-f.ensures.value ∙ c.in-Some.is))) (c.drop_on.ensures.makes a s)

pub row_of-f-requires : goal.row_of-f-requires
row_of-f-requires c = c.requires.sound.few

pub overflow_cast-i : goal.overflow_cast-i
overflow_cast-i c = let b = within c.row_of-f.ensures.within c.in-Some.is in omega (arith, b, c.requires.sound.few)

pub drop_on-requires : goal.drop_on-requires
drop_on-requires c = let b = within c.row_of-f.ensures.within c.in-Some.is in
    record { sound = c.requires.sound; le_i = b.0; i_bound = b.1 }
