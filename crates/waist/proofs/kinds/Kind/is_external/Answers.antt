use mathlib.Core.Path.{refl}
use Rattle.waist.specs.KindsRead.{external-not}
use Rattle.waist.specs.substituting.Notes.{external-kind}
use Rattle.waist.proofs.kinds.Kind.is_external.Goals as goal

pub returns-in-External : goal.returns-in-External
returns-in-External c = rw (c.in-External.is, external-kind) refl

pub returns-in_default : goal.returns-in_default
returns-in_default c = external-not _ c.in_default.not-External
