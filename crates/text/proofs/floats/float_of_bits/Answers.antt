use Rattle.std.proofs.Common.{◌%◌, Bool, not, T, sym, ◌∙◌, subst, le-ltb, lt-ltb}
use lib.Ieee.{binary64, div, of_bits}
use lib.Ieee.Bits.{nan_bits_is, nan_bits_above}
use Rattle.rows.specs.Nans.{nan_is}
use Rattle.text.proofs.floats.float_of_bits.Goals as goal

pub returns-then-n-gt9218868437227405312 : goal.returns-then-n-gt9218868437227405312
unfolding div of_bits
returns-then-n-gt9218868437227405312 c = sym (nan_is (of_bits binary64 c.args.n) (sym (nan_bits_is binary64 c.args.n) ∙ nan_bits_above binary64 c.args.n ∙ lt-ltb 9218868437227405312 (c.args.n % 9223372036854775808) c.if-n-gt9218868437227405312.true))

pub float_from_bits-result : goal.float_from_bits-result
float_from_bits-result c = subst (λ (t : Bool). T (not t)) (sym (nan_bits_above binary64 c.args.n ∙ le-ltb 9218868437227405312 (c.args.n % 9223372036854775808) c.if-n-gt9218868437227405312.false)) tt
