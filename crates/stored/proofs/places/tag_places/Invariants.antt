use Rattle.stored.specs.Maps.{TagsTo}
use Rattle.stored.proofs.places.tag_places.Given as goal

abbrev pub invariant-loop-p : goal.invariant-loop-p
invariant-loop-p l = TagsTo l.from l.to l.r l.q l.p
