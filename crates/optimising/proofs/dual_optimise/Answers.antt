use Rattle.std.proofs.Common.{rules}
use mathlib.Core.Path.{refl}
use Rattle.std.proofs.lemmas.Result.{err_from_is_err_and}
use Rattle.optimising.specs.Turn.{pass-starts, pass-next, pass-over, pass-refused}
use Rattle.optimising.proofs.dual_optimise.Goals as goal

pub loop-next-init : goal.loop-next-init
loop-next-init c = (pass-starts _ _ _ _ _ _ c.requires, (refl, refl, refl, refl, refl))

pub returns-in_err-next-clause-values_value : goal.returns-in_err-next-clause-values_value
returns-in_err-next-clause-values_value c = let p = err_from_is_err_and c.from_residual.result c.from_residual.ensures.1 in rw (p.1, p.2) (pass-refused _ _ _ c.loop-next.invariant.0 _ c.in_err-next.ensures.does).0

pub loop-next-preserved : goal.loop-next-preserved
loop-next-preserved c = (pass-next _ _ _ c.loop-next.invariant.0 c.in-Some.is c.in_ok-next.ensures.does, search rules)

pub returns-clause-values_value : goal.returns-clause-values_value
returns-clause-values_value c = (pass-over _ _ _ c.loop-next.invariant.0 c.in_default.is c.in_ok-next.ensures.does).0
