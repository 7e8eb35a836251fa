use Rattle.std.proofs.Common.{refl}
use Rattle.rows.specs.Marks.{join}
use Rattle.rows.proofs.number.joined.Goals as goal

pub returns : goal.returns
unfolding join
returns c = refl
