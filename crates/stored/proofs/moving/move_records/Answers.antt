use mathlib.Core.Path.{refl}
use Rattle.stored.specs.Moved.{plan-fits, moved_by}
use Rattle.stored.proofs.moving.move_records.Goals as goal

pub invariant_of-plans-clause-terms_before : goal.invariant_of-plans-clause-terms_before
invariant_of-plans-clause-terms_before c = (plan-fits _ _ _ _ c.terms_plan-s.ensures c.requires.free_bound).0

pub invariant_of-plans-clause-terms_after : goal.invariant_of-plans-clause-terms_after
invariant_of-plans-clause-terms_after c = (plan-fits _ _ _ _ c.terms_plan-s.ensures c.requires.free_bound).1

pub returns : goal.returns
returns c = moved_by _ _ _ _ _ _ _ _ _ _ _ _ c.terms_plan-s.ensures c.carry.ensures refl
