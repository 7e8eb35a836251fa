-- A relation as the code has it, in the steps' words.
use Rattle.steps.specs.State.{Relation, at_most, equal, at_least}
use Rattle.changes.specs.declared.tags.Relation.{Relation as Given}
use Rattle.changes.specs.declared.tags.Relation.TheVariants.{AtMost, Equal, AtLeast}

-- "A relation carries its strength: at most, equal, or at least, each with an f64."
unfoldable pub relation_of : Given → Relation
relation_of (AtMost s) = at_most s
relation_of (Equal s) = equal s
relation_of (AtLeast s) = at_least s
