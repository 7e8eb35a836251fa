use Rattle.std.proofs.Common.{rules}
use Rattle.waist.specs.Holding.{enter-on}
use Rattle.waist.proofs.holding.enter_on.Goals as goal

pub enter_basis-w-requires : goal.enter_basis-w-requires
enter_basis-w-requires c = record { sound = c.requires.standing.sound; le_at = c.requires.le_p; at_bound = c.requires.p_bound; free = c.requires.free; row_count_at_bound = c.requires.row_count_at_bound; settled_row = c.requires.settled_row }

pub returns : goal.returns
returns c = record { makes = enter-on _ _ _ _ _ _ c.requires.standing c.requires.fits_w c.enter_basis-w.ensures.does c.joined.ensures; later = c.enter_basis-w.ensures.does.later; row_count_at_after = c.enter_basis-w.ensures.does.more; same = search rules }
