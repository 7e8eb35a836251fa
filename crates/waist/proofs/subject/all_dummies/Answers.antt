use Rattle.waist.specs.Subject.{all-dummies-is}
use Rattle.waist.proofs.Options.{none-is}
use Rattle.waist.proofs.subject.all_dummies.Goals as goal

pub returns : goal.returns
returns c = λ k x y a v m o. all-dummies-is _ c.requires _ a v m o c.first_along.ensures.value (none-is _ _ c.is_none.ensures)
