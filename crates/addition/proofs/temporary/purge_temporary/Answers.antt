use Rattle.std.proofs.Common.{rules}
use Rattle.addition.specs.Symbols.{temporary-unowned}
use Rattle.addition.specs.Removed.{purge-calls}
use Rattle.addition.proofs.temporary.purge_temporary.Goals as goal

pub purge-requires : goal.purge-requires
purge-requires c = record { sound = c.requires.standing.sound; le_p = c.requires.temporary.low; p_bound = c.requires.temporary.high; unowned = temporary-unowned _ _ c.requires.standing.owners c.requires.temporary }

pub returns : goal.returns
returns c = let all = purge-calls _ _ _ _ _ (c.purge.ensures.makes _ c.requires.standing) in record { values_value = all.0; goes = all.1; same = search rules }
