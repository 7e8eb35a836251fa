use Rattle.std.proofs.Common.{rules}
use Rattle.waist.specs.Holding.{drop-makes}
use Rattle.waist.proofs.holding.drop_on.Goals as goal

pub drop_row-requires : goal.drop_row-requires
drop_row-requires c = record { sound = c.requires.sound; le_i = c.requires.le_i; i_bound = c.requires.i_bound }

pub returns : goal.returns
returns c = record { makes = (λ a s. drop-makes _ a _ _ s c.drop_row.ensures.does); rows_alone = c.drop_row.ensures.does.alone; row_count_at_after = c.drop_row.ensures.does.fewer; same = search rules }
