use Rattle.std.proofs.Common.{rules}
use mathlib.Core.Path.{refl}
use lib.Ieee.{of_bits}
use Rattle.steps.specs.Number.{zero64}
use Rattle.waist.specs.ArtificialStands.{keep-ready, copy-ready, stand-makes}
use Rattle.waist.proofs.artificial.stand_temporary.Goals as goal

pub append_symbol-p-requires : goal.append_symbol-p-requires
append_symbol-p-requires c = record { sound = c.requires.standing.sound; values_bound = c.requires.values_bound; values_bound_2 = c.requires.values_bound_3 }

pub keep_row-requires : goal.keep_row-requires
unfolding zero64 of_bits
keep_row-requires c =
    let r = keep-ready _ _ _ c.requires.standing c.requires.values_bound c.requires.values_bound_2 c.requires.settled_row c.requires.holds c.told-row _ c.append_symbol-p.ensures.value _ refl c.append_symbol-p.ensures.grown (c.append_symbol-p.ensures.makes _ c.requires.standing) in
    record { sound = r.0; le_p = r.1; p_bound = r.2; free = r.3; row_count_at_bound = r.4; settled_row = r.5 }

pub copy_row-requires : goal.copy_row-requires
unfolding zero64 of_bits
copy_row-requires c =
    let r = copy-ready _ _ _ c.requires.standing c.requires.values_bound c.requires.values_bound_2 c.requires.settled_row c.requires.holds c.told-row _ c.append_symbol-p.ensures.value _ refl c.append_symbol-p.ensures.grown (c.append_symbol-p.ensures.makes _ c.requires.standing) c.keep_row.ensures.does in
    record { sound = r.0; settled_row = r.1 }

pub returns : goal.returns
unfolding zero64 of_bits
returns c = record { value = c.append_symbol-p.ensures.value; makes = stand-makes _ _ _ c.requires.standing c.requires.values_bound c.requires.values_bound_2 c.requires.settled_row c.requires.holds c.told-row _ c.append_symbol-p.ensures.value _ refl c.append_symbol-p.ensures.grown (c.append_symbol-p.ensures.makes _ c.requires.standing) c.keep_row.ensures.does c.copy_row.ensures; same = search rules }
