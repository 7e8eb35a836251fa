use Rattle.waist.specs.KindsRead.{error-is, error-not}
use Rattle.waist.proofs.kinds.Kind.is_error.Goals as goal

pub returns-in-Error : goal.returns-in-Error
returns-in-Error c = error-is _ c.in-Error.is

pub returns-in_default : goal.returns-in_default
returns-in_default c = error-not _ c.in_default.not-Error
