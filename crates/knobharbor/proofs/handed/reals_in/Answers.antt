use Rattle.std.proofs.Common.{refl}
use Rattle.entry.specs.typed.Typed.{whole_of}
use Rattle.knobharbor.specs.handed.Handed.{whole_at}
use Rattle.knobharbor.proofs.handed.reals_in.Goals as goal

pub returns : goal.returns
unfolding whole_at whole_of
returns c = rw (c.whole-constant.ensures, c.nearest_u64_to_f64-strength.ensures) refl
