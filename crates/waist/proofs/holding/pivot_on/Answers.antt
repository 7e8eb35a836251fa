use Rattle.std.proofs.Common.{rules}
use Rattle.waist.specs.Holding.{pivot-on}
use Rattle.waist.proofs.holding.pivot_on.Goals as goal

pub pivot-w-requires : goal.pivot-w-requires
pivot-w-requires c = record { sound = c.requires.standing.sound; le_i = c.requires.le_i; i_bound = c.requires.i_bound; le_entering = c.requires.le_p; entering_bound = c.requires.p_bound; free = c.requires.free }

pub returns : goal.returns
returns c = record { makes = pivot-on _ _ _ _ _ _ c.requires.standing c.requires.le_p c.requires.p_bound c.requires.free c.pivot-w.ensures.does c.joined.ensures; later = c.pivot-w.ensures.does.later; row_count_at_unchanged = c.pivot-w.ensures.does.same; same = search rules }
