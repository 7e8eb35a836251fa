use native.Mathlib.Omega.{arith}
use Rattle.std.proofs.Common.{◌∙◌, ap}
use Rattle.std.proofs.lemmas.List.{get_or_default}
use Rattle.std.specs.Prelude.{set}
use Rattle.laws.specs.Loops.{run-next, run-last}
use Rattle.layout.specs.Laying.{remade}
use Rattle.lending.specs.sparse_copy.Over.{part-runs}
use Rattle.lending.proofs.sparse_copy.put.part.Goals as goal

pub loop-i-init : goal.loop-i-init
loop-i-init g c = λ d. part-runs d _ _ _ _

pub loop-i-preserved : goal.loop-i-preserved
unfolding remade
loop-i-preserved g c = λ d. run-next _ _ _ _ (omega arith) (ap (set c.loop-i.to c.loop-i.i) (c.index-from-i.is ∙ get_or_default c.args.from.now c.loop-i.i _ d (omega arith))) (c.loop-i.invariant d)

pub returns : goal.returns
returns g c = λ d. run-last _ _ _ _ (omega arith) (c.loop-i.invariant d)
