use Rattle.stored.specs.Maps.{VariablesTo}
use Rattle.stored.proofs.places.variable_places.Given as goal

abbrev pub invariant-loop-i : goal.invariant-loop-i
invariant-loop-i l = VariablesTo l.from l.fbytes l.to l.bytes l.r l.q l.i
