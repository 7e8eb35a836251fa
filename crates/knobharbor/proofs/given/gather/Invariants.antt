use Rattle.std.proofs.Common.{◌≡◌, length}
use Rattle.laws.specs.Loops.{run}
use Rattle.changes.specs.terms.Terms.{pack_of}
use Rattle.knobharbor.specs.Given.{given, gathers}
use Rattle.knobharbor.proofs.given.gather.Given as goal

abbrev pub invariant-loop-i : goal.invariant-loop-i
invariant-loop-i l = run (gathers l.vars l.coefs) l.i (length l.vars) l.p ≡ pack_of (given l.vars l.coefs)
