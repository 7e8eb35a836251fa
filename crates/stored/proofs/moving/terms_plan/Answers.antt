use Rattle.stored.specs.Moved.{plan-is}
use Rattle.stored.proofs.moving.terms_plan.Goals as goal

pub returns : goal.returns
returns c = plan-is _ _ _ c.terms_in.ensures c.terms_in-2.ensures c.terms_in-3.ensures
