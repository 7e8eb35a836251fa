use Rattle.std.proofs.Common.{rules}
use native.Mathlib.Omega.{arith}
use Rattle.removal.specs.Uses.{uses-start, use-room, uses-next, uses-last}
use Rattle.removal.proofs.uses.drop_uses.Goals as goal

pub loop-j-init : goal.loop-j-init
loop-j-init c = (uses-start _ _ _ c.requires.room, search rules)

pub loop-j-preserved : goal.loop-j-preserved
loop-j-preserved c = (uses-next _ _ _ _ _ _ (omega arith) c.from.ensures c.loop-j.invariant.0 _ (c.requires.stands.0, c.loop-j.invariant.0.stands c.requires.stands.0 c.requires.stands.1) c.drop_use.ensures.does, search rules)

pub returns-clause-does : goal.returns-clause-does
returns-clause-does c = uses-last _ _ _ _ _ (omega arith) c.loop-j.invariant.0

pub drop_use-requires : goal.drop_use-requires
drop_use-requires c = record { stands = (c.requires.stands.0, c.loop-j.invariant.0.stands c.requires.stands.0 c.requires.stands.1); room = use-room _ _ _ _ _ _ (omega arith) c.from.ensures c.loop-j.invariant.0 }
