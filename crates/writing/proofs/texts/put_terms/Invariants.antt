use Rattle.writing.specs.Buffer.{Adds}
use Rattle.writing.specs.Texts.{up_to}
use Rattle.writing.proofs.texts.put_terms.Given as goal

abbrev pub invariant-loop-i : goal.invariant-loop-i
invariant-loop-i l = Adds l.initial.out l.out l.at l.next (up_to l.vars l.coefs l.i)
