use mathlib.Core.Path.{refl}
use Rattle.sparse_test.specs.Tested.{no_uses}
use Rattle.sparse_test.proofs.uses.no_uses.Goals as goal

pub returns : goal.returns
unfolding no_uses
returns c = refl
