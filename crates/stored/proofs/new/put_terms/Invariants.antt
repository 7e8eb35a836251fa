use Rattle.stored.specs.Put.{TermsPut}
use Rattle.stored.proofs.new.put_terms.Given as goal

abbrev pub invariant-loop-j : goal.invariant-loop-j
invariant-loop-j l = TermsPut l.words l.vars l.s l.j l.initial.bytes l.bytes
