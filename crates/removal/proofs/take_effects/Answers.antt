use Rattle.removal.specs.Bound.{reached-checked}
use Rattle.removal.proofs.take_effects.Goals as goal

pub returns : goal.returns
returns c = let all = reached-checked _ _ 0 _ _ _ _ c.remove_constraint_effects-w.ensures c.check_finite.ensures in record { values_value = all.0; goes = all.1 }

pub remove_constraint_effects-w-requires : goal.remove_constraint_effects-w-requires
remove_constraint_effects-w-requires c = record { standing = c.requires.standing; le_marker = c.requires.tag_lives.low; marker_bound = c.requires.tag_lives.high; other_bound = c.requires.tag_lives.other-high }
