use Rattle.steps.specs.Number.{one64}
use Rattle.addition.specs.creation.Tags.{dummy-tags}
use Rattle.addition.proofs.creation.tag.required_equality.Goals as goal

pub add_symbol-w-requires : goal.add_symbol-w-requires
add_symbol-w-requires c = record { standing = c.requires.standing; values_bound = c.requires.values_bound; values_bound_2 = c.requires.values_bound_2 }

pub returns : goal.returns
unfolding one64
returns c = dummy-tags _ _ _ _ _ _ c.add_symbol-w.ensures.grows c.add_symbol-w.ensures.builds
