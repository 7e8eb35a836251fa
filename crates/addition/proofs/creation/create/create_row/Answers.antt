use native.Mathlib.Omega.{arith}
use Rattle.addition.specs.creation.Created.{opening-ready, creates}
use Rattle.addition.proofs.creation.create.create_row.Goals as goal

pub start_row-requires : goal.start_row-requires
start_row-requires c = omega (arith, c.requires.opening.standing.sound.named.few-symbols)

pub insert_terms-w-requires : goal.insert_terms-w-requires
insert_terms-w-requires c = opening-ready _ _ _ _ c.requires.opening c.requires.spare

pub close_row-requires : goal.close_row-requires
close_row-requires c = record { standing = c.insert_terms-w.ensures.builds.stands; values_bound = omega (arith, c.insert_terms-w.ensures.values_bound); values_bound_2 = omega (arith, c.insert_terms-w.ensures.values_bound) }

pub returns : goal.returns
returns c = creates _ _ _ _ _ _ _ _ _ _ _ _ _ c.requires.opening c.told-row c.start_row.ensures c.insert_terms-w.ensures.builds c.insert_terms-w.ensures.values_bound c.close_row.ensures
