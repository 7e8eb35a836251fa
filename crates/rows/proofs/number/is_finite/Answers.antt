use Rattle.std.proofs.Common.{◌≡◌, true, false, ◌&&◌, refl}
use lib.Ieee.{Float, div, fin, inf, lt, nan, neg, of_bits}
use Rattle.steps.specs.Number.{is_finite}
use Rattle.rows.proofs.number.is_finite.Goals as goal

between : (x : Float) → lt (inf true) x && lt x (inf false) ≡ is_finite x
unfolding lt is_finite
between nan = refl
between (inf true) = refl
between (inf false) = refl
between (fin s m e) = refl

pub returns : goal.returns
unfolding of_bits neg div
returns c = between _
