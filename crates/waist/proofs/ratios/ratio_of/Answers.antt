use mathlib.Core.Path.{refl}
use lib.Ieee.{of_bits, div}
use Rattle.rows.specs.choose.Choose.{ratio_of}
use Rattle.waist.proofs.ratios.ratio_of.Goals as goal

pub returns-in-Some : goal.returns-in-Some
unfolding ratio_of
returns-in-Some c = rw c.in-Some.is refl

pub returns-in-None : goal.returns-in-None
unfolding ratio_of of_bits div
returns-in-None c = rw c.in-None.is refl
