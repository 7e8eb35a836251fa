use mathlib.Core.Bool.{true}
use native.Mathlib.Omega.{arith}
use Rattle.waist.specs.substituting.Held.{held-room}
use Rattle.waist.specs.Working.{lines-few}
use Rattle.waist.specs.ArtificialCopy.{close-calls}
use Rattle.waist.proofs.artificial.close_artificial.Goals as goal

pub find-end-requires : goal.find-end-requires
find-end-requires c =
    let f = held-room _ _ _ _ c.requires.held (lines-few true _ c.requires) in
    record { n_le_cell_room = omega (arith, f); ascending = c.requires.held.up }

pub returns : goal.returns
returns c = λ a s. close-calls _ c.requires c.find-end.ensures.value a s
