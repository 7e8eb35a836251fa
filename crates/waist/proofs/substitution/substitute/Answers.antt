use Rattle.waist.proofs.substitution.substitute.Goals as goal

pub substitute_with-requires : goal.substitute_with-requires
substitute_with-requires c = record { sound = c.requires.sound; le_at = c.requires.le_at; at_bound = c.requires.at_bound; settled_row = c.requires.settled_row; spots_value = c.no_spots-spots.ensures }
