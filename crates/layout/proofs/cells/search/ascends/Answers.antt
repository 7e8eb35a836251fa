use mathlib.Core.Path.{refl}
use native.Mathlib.Omega.{arith}
use Rattle.laws.specs.Lists.{all_on, all-next, all-last}
use Rattle.layout.specs.cells.Cells.{ascends_of}
use Rattle.layout.proofs.cells.search.ascends.Goals as goal

pub loop-j-init : goal.loop-j-init
unfolding ascends_of all_on
loop-j-init c = refl

pub loop-j-preserved : goal.loop-j-preserved
loop-j-preserved c = all-next _ _ _ _ (omega arith) refl c.loop-j.invariant

pub returns : goal.returns
returns c = all-last _ _ _ _ (omega arith) c.loop-j.invariant
