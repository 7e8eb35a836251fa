use Rattle.stored.specs.Put.{CoefficientsPut}
use Rattle.stored.proofs.new.put_coefficients.Given as goal

abbrev pub invariant-loop-j : goal.invariant-loop-j
invariant-loop-j l = CoefficientsPut l.coefs l.s l.j l.initial.reals l.reals
