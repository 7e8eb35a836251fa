use native.Mathlib.Omega.{arith}
use Rattle.steps.specs.Number.{zero64}
use Rattle.layout.specs.cells.Spots.{spot-reads, spot-absent}
use Rattle.layout.proofs.cells.spots.spot_cell.Goals as goal

pub returns-then-j-n : goal.returns-then-j-n
returns-then-j-n c = rw c.from-j.ensures (spot-reads _ _ _ _ _ _ c.requires.ascending c.requires.spots c.requires.i_lt_lines_room (omega (arith, c.from-j.ensures)))

pub returns : goal.returns
unfolding zero64
returns c = spot-absent _ _ _ _ _ _ c.requires.spots c.requires.i_lt_lines_room (omega (arith, c.from-j.ensures))
