use mathlib.Core.Path.{refl}
use Rattle.waist.specs.KindsRead.{dummy-not}
use Rattle.waist.specs.Choosing.{dummy-kind}
use Rattle.waist.proofs.kinds.Kind.is_dummy.Goals as goal

pub returns-in-Dummy : goal.returns-in-Dummy
returns-in-Dummy c = rw (c.in-Dummy.is, dummy-kind) refl

pub returns-in_default : goal.returns-in_default
returns-in_default c = dummy-not _ c.in_default.not-Dummy
