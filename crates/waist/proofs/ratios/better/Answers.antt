use lib.Ieee.{neg, of_bits, div}
use Rattle.rows.specs.choose.Choose.{better_of}
use Rattle.waist.proofs.ratios.better.Goals as goal

pub returns-then-top-ratio : goal.returns-then-top-ratio
unfolding better_of of_bits neg div
returns-then-top-ratio c = rw (← c.ratio_of-least.ensures, c.if-top-ratio.true)

pub returns-else-top-ratio : goal.returns-else-top-ratio
unfolding better_of of_bits neg div
returns-else-top-ratio c = rw (← c.ratio_of-least.ensures, c.if-top-ratio.false)
