use lib.ListN.{get_or}
use Rattle.stored.specs.Parts.{Part}
use Rattle.stored.proofs.parts.named_part.Given as goal

abbrev pub invariant-loop-k : goal.invariant-loop-k
invariant-loop-k l = Part 0 (λ x. get_or l.map x 0) l.a l.b l.k l.from l.initial.to l.to
