use Rattle.std.proofs.Common.{rules}
use Rattle.waist.specs.PurgeCalls.{close-ready, purge-purged, purge-makes}
use Rattle.waist.proofs.symbols.purge.Goals as goal

pub drop_own_row-requires : goal.drop_own_row-requires
drop_own_row-requires c = record { sound = c.requires.sound; le_p = c.requires.le_p; p_bound = c.requires.p_bound }

pub close_symbol-requires : goal.close_symbol-requires
close_symbol-requires c =
    let r = close-ready _ _ _ c.requires.sound c.requires.le_p c.requires.p_bound c.requires.unowned c.drop_own_row.ensures.does in
    record { sound = r.0; le_p = r.1; p_bound = r.2; free = r.3; unowned = r.4 }

pub returns : goal.returns
returns c = record { purged = purge-purged _ _ _ c.requires.sound c.requires.le_p c.requires.p_bound c.requires.unowned c.drop_own_row.ensures.does c.close_symbol.ensures.does; makes = λ a s. purge-makes _ _ _ c.requires.sound c.requires.le_p c.requires.p_bound c.requires.unowned c.drop_own_row.ensures.does c.close_symbol.ensures.does a s; same = search rules }
