use native.Mathlib.Omega.{arith}
use Rattle.steps.specs.Number.{zero64}
use Rattle.addition.specs.creation.Growth.{grows}
use Rattle.addition.specs.creation.Known.{new-calls}
use Rattle.addition.proofs.creation.term.new_variable.Goals as goal

pub append_symbol-p-requires : goal.append_symbol-p-requires
append_symbol-p-requires c = record { sound = c.requires.sound; values_bound = c.requires.values_bound; values_bound_2 = c.requires.values_bound_2 }

pub bounds-row-from : goal.bounds-row-from
bounds-row-from c = omega (arith, c.from.ensures, c.append_symbol-p.ensures.value, c.requires.values_bound)

pub keep_variable-requires : goal.keep_variable-requires
keep_variable-requires c = omega (arith, (grows c.append_symbol-p.ensures.grown).variables, c.requires.values_bound_3)

pub returns : goal.returns
unfolding zero64
returns c = λ a s. new-calls _ a _ _ c.args.row.now _ _ _ _ _ c.append_symbol-p.ensures.value c.from.ensures s c.requires.values_bound c.requires.values_bound_3 c.requires.words_value c.append_symbol-p.ensures.grown c.append_symbol-p.ensures.makes c.told-row c.keep_variable.ensures.words_after c.keep_variable.ensures.bytes_after c.keep_variable.ensures.reals_after
