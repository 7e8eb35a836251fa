use Prim.Native.Nat.{◌+◌}
use native.Mathlib.Omega.{arith}
use Rattle.std.proofs.Common.{refl, ◌∙◌}
use Rattle.std.proofs.lemmas.List.{get_or_default}
use Rattle.rows.specs.moves.Close.{close-next, close-last}
use Rattle.waist.proofs.moves.close.Goals as goal

pub loop-j-init : goal.loop-j-init
loop-j-init g c = λ d. refl

pub loop-j-preserved : goal.loop-j-preserved
loop-j-preserved g c = λ d. rw (c.index-xs-j.is ∙ get_or_default c.loop-j.xs (c.loop-j.j + 1) _ d (omega arith)) (close-next d _ _ _ (omega arith) (omega arith) (c.loop-j.invariant d))

pub returns : goal.returns
returns g c = λ d. close-last d c.loop-j.j c.args.e _ (omega (arith, c.loop-j.auto.j-end)) (omega arith) (c.loop-j.invariant d)
