use native.Mathlib.Omega.{arith}
use Rattle.addition.specs.creation.Created.{closed-tags}
use Rattle.addition.proofs.creation.create.close_row.Goals as goal

pub add_tag-t-requires : goal.add_tag-t-requires
add_tag-t-requires c = record { standing = c.requires.standing; values_bound = c.requires.values_bound; values_bound_2 = c.requires.values_bound_2 }

pub reverse_below-requires : goal.reverse_below-requires
reverse_below-requires c = omega (arith, c.add_tag-t.ensures.stands.sound.named.few-symbols)

pub returns : goal.returns
returns c = closed-tags _ _ _ _ _ _ _ c.add_tag-t.ensures (omega arith) c.reverse_below.ensures
