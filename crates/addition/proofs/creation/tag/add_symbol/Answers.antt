use native.Mathlib.Omega.{arith}
use Rattle.steps.specs.Number.{zero64, cell_bound}
use Rattle.addition.specs.creation.Growth.{grows, symbol-calls}
use Rattle.addition.proofs.creation.tag.add_symbol.Goals as goal

pub append_symbol-requires : goal.append_symbol-requires
append_symbol-requires c = record { sound = c.requires.standing.sound; values_bound = c.requires.values_bound; values_bound_2 = c.requires.values_bound_2 }

pub bounds-row-p : goal.bounds-row-p
bounds-row-p c = omega (arith, c.from-p.ensures, c.append_symbol.ensures.value, c.requires.values_bound)

pub insert_symbol-w-requires : goal.insert_symbol-w-requires
insert_symbol-w-requires c = omega (arith, c.from-p.ensures, c.append_symbol.ensures.value, c.requires.values_bound)

pub returns : goal.returns
unfolding cell_bound zero64
returns c = record { grows = grows c.append_symbol.ensures.grown; builds = symbol-calls _ _ _ _ _ _ c.args.row.now _ _ c.from-p.ensures c.append_symbol.ensures.value c.requires.standing c.requires.values_bound c.append_symbol.ensures.grown c.append_symbol.ensures.makes c.told-row c.insert_symbol-w.ensures.result_value c.insert_symbol-w.ensures.row_after c.joined.ensures }
