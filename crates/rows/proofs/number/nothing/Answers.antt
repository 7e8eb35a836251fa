use Rattle.std.proofs.Common.{refl}
use Rattle.rows.specs.Marks.{clean}
use Rattle.rows.proofs.number.nothing.Goals as goal

pub returns : goal.returns
unfolding clean
returns c = refl
