use mathlib.Core.Path.{refl}
use native.Mathlib.Omega.{arith}
use Rattle.stored.specs.Put.{no-coefficients, next-coefficient, coefficients-end}
use Rattle.stored.proofs.new.put_coefficients.Goals as goal

pub loop-j-init : goal.loop-j-init
loop-j-init c = no-coefficients _ _ _

pub loop-j-preserved : goal.loop-j-preserved
loop-j-preserved c = next-coefficient _ _ _ _ _ (omega arith) refl c.loop-j.invariant

pub returns : goal.returns
returns c = coefficients-end _ _ _ _ _ _ (omega arith) (omega arith) c.loop-j.invariant
