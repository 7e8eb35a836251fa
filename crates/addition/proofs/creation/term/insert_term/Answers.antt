use native.Mathlib.Omega.{arith}
use Rattle.addition.specs.creation.Steps.{most_spare, steps_then}
use Rattle.addition.specs.creation.Terms.{term-builds}
use Rattle.addition.proofs.creation.term.insert_term.Goals as goal

pub know_variable-requires : goal.know_variable-requires
know_variable-requires c = record { sound = c.requires.standing.sound; room = c.requires.room; owners = c.requires.standing.owners }

pub insert_known-requires : goal.insert_known-requires
insert_known-requires c = let h = c.know_variable.ensures _ c.requires.standing in
    record { standing = h.builds.stands; used = λ v l. let u = h.steps.uses most_spare c.requires.used v l in omega (arith, u) }

pub returns : goal.returns
returns c = let h = c.know_variable.ensures _ c.requires.standing in
    record { builds = term-builds _ _ _ _ _ _ _ _ _ _ h c.insert_known.ensures.builds; steps = steps_then h.steps c.insert_known.ensures.steps }
