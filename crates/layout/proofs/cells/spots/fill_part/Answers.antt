use mathlib.Core.Path.{refl}
use native.Mathlib.Omega.{arith}
use Rattle.layout.specs.cells.Spots.{spots-hit, spots-miss, spots-all, lined}
use Rattle.layout.proofs.cells.spots.fill_part.Goals as goal
use Rattle.layout.proofs.cells.spots.fill_part.Goals.{then-x-p, else-x-p}

pub loop-j-init : goal.loop-j-init
loop-j-init c = c.requires.spots_to

pub overflow_cast-spots-then-x-p : goal.overflow_cast-spots-then-x-p
overflow_cast-spots-then-x-p c = omega (arith, lined _ _ _ _ c.requires.lined c.requires.e_le_n c.loop-j-test.true)

pub offset_bounds-spots-x : goal.offset_bounds-spots-x
offset_bounds-spots-x c = omega (arith, lined _ _ _ _ c.requires.lined c.requires.e_le_n c.loop-j-test.true)

pub bounds-spots-x : goal.bounds-spots-x
bounds-spots-x c = omega (arith, lined _ _ _ _ c.requires.lined c.requires.e_le_n c.loop-j-test.true)

pub loop-j-preserved : goal.loop-j-preserved
loop-j-preserved c =
    elim c.if-x-p.branch [
      | then-x-p w ↦ rw w.spots-is (spots-hit _ _ _ _ (omega arith) (omega arith) _ c.requires.lined refl w.if-x-p.true c.loop-j.invariant)
      | else-x-p w ↦ rw w.spots-is (spots-miss _ _ _ _ (omega arith) (omega arith) w.if-x-p.false c.loop-j.invariant)
    ]

pub returns : goal.returns
returns c = spots-all _ _ _ _ _ (omega arith) (omega arith) c.loop-j.invariant
