use Rattle.stored.specs.Parts.{Part}
use Rattle.stored.proofs.parts.part.Given as goal

abbrev pub invariant-loop-k : goal.invariant-loop-k
invariant-loop-k g l = (z : g.row.T.Denot) → Part z (λ x. x) l.a l.b l.k l.from l.initial.to l.to
