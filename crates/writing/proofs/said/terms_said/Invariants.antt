use Rattle.std.proofs.Common.{◌≡◌}
use Rattle.writing.specs.Given.{all_up_to}
use Rattle.writing.proofs.said.terms_said.Given as goal

abbrev pub invariant-loop-i : goal.invariant-loop-i
invariant-loop-i l = l.ok ≡ all_up_to l.vars l.coefs l.n l.i
