use Prim.Native.Nat.{◌+◌, ◌*◌}
use mathlib.Core.Path.{◌≡◌}
use native.Mathlib.Omega.{arith}
use Rattle.layout.specs.cells.Spots.{block_size, spots-none, spots-skip, spots-all}
use Rattle.layout.proofs.cells.spots.fill_spots.Goals as goal
use Rattle.layout.proofs.cells.spots.fill_spots.Goals.{then-any_names, else-any_names}

pub loop-b-init : goal.loop-b-init
loop-b-init c = spots-none _ _ _ c.requires.n_le_cell_room c.requires.spots_value

pub loop-b-preserved : goal.loop-b-preserved
loop-b-preserved c =
    let e : (c.loop-b.b + 1) * block_size ≡ c.loop-b.b * block_size + block_size = omega arith in
    rw e (
    elim c.if-any_names.branch [
      | then-any_names w ↦ rw w.spots-is w.fill_part.ensures
      | else-any_names w ↦ rw w.spots-is (spots-skip _ _ _ _ _ (omega arith) (omega arith) (c.any_names.ensures w.if-any_names.false) c.loop-b.invariant)
    ]
    )

pub fill_part-requires-2 : goal.fill_part-requires-2
fill_part-requires-2 c =
    record {
      a_le_e = omega arith;
      e_le_n = omega arith;
      n_le_cell_room = c.requires.n_le_cell_room;
      lined = c.requires.lined;
      spots_to = spots-all _ _ _ _ _ (omega arith) (omega arith) c.loop-b.invariant;
    }

pub returns : goal.returns
returns c = c.fill_part-2.ensures
