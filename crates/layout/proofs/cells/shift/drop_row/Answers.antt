use Prim.Native.Nat.{◌-◌}
use native.Mathlib.Omega.{arith}
use Rattle.layout.specs.cells.Names.{row_span}
use Rattle.layout.specs.cells.Replace.{run-ordered}
use Rattle.layout.specs.cells.Drop.{dropped-is}
use Rattle.std.proofs.Common.{rules}
use Rattle.layout.proofs.cells.shift.drop_row.Goals as goal

pub slide-requires : goal.slide-requires
slide-requires c =
    let h = run-ordered _ _ _ _ _ c.find-a.ensures.value c.find-e.ensures.value in
    search (rules, h)

pub each_key-requires : goal.each_key-requires
each_key-requires c =
    let h = run-ordered _ _ _ _ _ c.find-a.ensures.value c.find-e.ensures.value in
    record { n_le_cell_room = omega (arith, h); callable = search rules }

pub returns : goal.returns
returns c = dropped-is _ _ _ _ _ _ _ _ c.find-a.ensures.value c.find-e.ensures.value c.slide.ensures.keys_after c.slide.ensures.vals_after (c.each_key.ensures (λ x. x - row_span) (λ x y h. h))
