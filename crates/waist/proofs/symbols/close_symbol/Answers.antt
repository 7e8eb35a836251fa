use mathlib.Core.Bool.{false}
use native.Mathlib.Omega.{arith}
use lib.Ieee.{nan}
use Rattle.waist.specs.substituting.Held.{held-room}
use Rattle.waist.specs.Working.{lines-few}
use Rattle.waist.specs.PurgeCalls.{close-calls}
use Rattle.waist.proofs.symbols.close_symbol.Goals as goal

pub drop_place-left-requires : goal.drop_place-left-requires
drop_place-left-requires c =
    let f = held-room _ _ _ _ c.requires.sound.held (lines-few false _ c.requires.sound) in
    omega (arith, f)

pub returns-clause-does : goal.returns-clause-does
returns-clause-does c = close-calls _ _ c.requires.sound c.requires.le_p c.requires.p_bound c.requires.free c.requires.unowned _ _ _ _ _ _ _ _ c.drop_place-left.ensures (c.close.ensures 0) (c.close-2.ensures 0) c.lower_places.ensures c.lower_places-2.ensures (c.close-3.ensures nan)
