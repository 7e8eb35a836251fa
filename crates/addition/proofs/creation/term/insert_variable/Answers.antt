use native.Mathlib.Omega.{arith}
use mathlib.Core.Path.{sym, ◌∙◌}
use mathlib.Core.Bool.{false}
use Rattle.steps.specs.Number.{cell_bound}
use Rattle.waist.specs.Rows.{row-found}
use Rattle.addition.specs.creation.Terms.{within-at, variable-symbol, variable-row, symbol-inserted}
use Rattle.addition.proofs.creation.term.insert_variable.Goals as goal

pub row_of-f-requires : goal.row_of-f-requires
row_of-f-requires c = c.requires.standing.sound.few

pub insert_symbol-w-requires : goal.insert_symbol-w-requires
insert_symbol-w-requires c = omega (arith, c.from.ensures, c.requires.p_bound, c.requires.standing.sound.named.few-symbols)

pub returns-in_default : goal.returns-in_default
unfolding cell_bound
returns-in_default c = variable-symbol _ _ _ _ _ _ (row-found false _ c.requires.standing.sound _ c.requires.le_p c.requires.p_bound) (sym c.row_of-f.ensures.value ∙ c.in_default.is) (symbol-inserted _ _ _ c.args.row.now _ _ _ c.requires.standing c.told-row c.requires.le_p c.requires.p_bound c.from.ensures c.insert_symbol-w.ensures.result_value c.insert_symbol-w.ensures.row_after c.joined.ensures)

pub overflow_cast-i : goal.overflow_cast-i
overflow_cast-i c = let l = within-at c.row_of-f.ensures.within c.in-Some.is in omega (arith, l, c.requires.standing.sound.few)

pub insert_basic-requires : goal.insert_basic-requires
insert_basic-requires c = let l = within-at c.row_of-f.ensures.within c.in-Some.is in
    record { standing = c.requires.standing; le_i = l.0; i_bound = l.1 }

pub returns : goal.returns
returns c = variable-row _ _ _ _ _ _ (row-found false _ c.requires.standing.sound _ c.requires.le_p c.requires.p_bound) _ (sym c.row_of-f.ensures.value ∙ c.in-Some.is) c.insert_basic.ensures
