use Rattle.std.proofs.Common.{sym, ap}
use lib.Ieee.{binary64, to_bits}
use Rattle.rows.specs.Nans.{no_nan, is-nan}
use Rattle.text.proofs.floats.bits_of_float.Goals as goal

pub float_to_bits-result : goal.float_to_bits-result
float_to_bits-result c = no_nan c.args.x c.if-x.true

pub returns-else-x : goal.returns-else-x
unfolding to_bits
returns-else-x c = sym (ap (to_bits binary64) (is-nan c.args.x c.if-x.false))
