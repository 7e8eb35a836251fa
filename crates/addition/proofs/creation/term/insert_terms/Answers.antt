use native.Mathlib.Omega.{arith}
use mathlib.Core.Path.{refl}
use Rattle.addition.specs.creation.Going.{terms-of, ready_by, builds-by, going_start, going_end, going-few, going-turn, going-room-by, going-spare}
use Rattle.addition.proofs.creation.term.insert_terms.Goals as goal

pub loop-j-init : goal.loop-j-init
loop-j-init c = (refl, going_start _ _ _ _ _ _ c.requires.standing)

pub bounds-vars-j : goal.bounds-vars-j
bounds-vars-j c = omega (arith, c.shown-e.ensures.upper_bound, c.loop-j-test.true)

pub bounds-coefs-j : goal.bounds-coefs-j
bounds-coefs-j c = omega (arith, c.shown-e.ensures.upper_bound, c.loop-j-test.true)

pub insert_kept-w-requires : goal.insert_kept-w-requires
insert_kept-w-requires c = let r = (ready_by _ (terms-of _ _ c.shown-e.ensures.value) c.requires) in
    record { standing = c.loop-j.invariant.1.stands; room = going-room-by _ _ _ _ _ _ _ _ _ _ c.loop-j.invariant.1 c.loop-j-test.true c.shown-e.ensures.upper_bound r c.from.ensures c.loop-j.invariant.0; used = going-spare _ _ _ _ _ _ _ _ _ _ c.loop-j.invariant.1 c.loop-j-test.true c.shown-e.ensures.upper_bound r }

pub loop-j-preserved : goal.loop-j-preserved
loop-j-preserved c = (c.loop-j.invariant.0, going-turn _ _ _ _ _ _ _ _ _ _ c.loop-j.invariant.1 c.loop-j-test.true _ _ _ c.from.ensures c.loop-j.invariant.0 c.insert_kept-w.ensures.builds c.insert_kept-w.ensures.steps)

pub returns : goal.returns
returns c = let r = (ready_by _ (terms-of _ _ c.shown-e.ensures.value) c.requires) in
    record { builds = builds-by _ (terms-of _ _ c.shown-e.ensures.value) (going_end _ _ _ _ _ _ _ _ _ _ c.loop-j.invariant.1 c.loop-j-test.false); values_bound = going-few _ _ _ _ _ _ _ _ _ _ c.loop-j.invariant.1 c.loop-j-test.false c.shown-e.ensures.upper_bound r }
