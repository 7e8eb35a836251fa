use Prim.Native.Nat.{ℕ}
use mathlib.Core.Path.{◌≡◌, refl}
use mathlib.Core.Bool.{Bool, ◌&&◌}
use mathlib.Core.List.{List}
use lib.Dec.{leb, ltb}
use lib.ListN.{get_or}
use Rattle.layout.specs.cells.Names.{last_place, cell_room}
use Rattle.sparse.specs.Places.{most_variables, most_gone, next_id_at, symbol_count_at, row_count_at, cell_count_at, variable_count_at, constraint_count_at, edit_count_at, should_clear_at, whole_at, gone_count_at}
use Rattle.sparse_test.specs.Reads.{greatest_u32}
use Rattle.sparse_test.specs.Whole.{room_for, counts_in}
use Rattle.sparse_test.proofs.counts_fit.Goals as goal

glue : (w : List ℕ) {x : Bool} → x ≡ room_for (get_or w constraint_count_at 0) (get_or w edit_count_at 0) (get_or w row_count_at 0)
    → (ltb 0 (get_or w next_id_at 0) && leb (get_or w next_id_at 0) greatest_u32 && leb (get_or w symbol_count_at 0) last_place && leb (get_or w cell_count_at 0) cell_room && leb (get_or w variable_count_at 0) most_variables && leb (get_or w should_clear_at 0) 1 && leb (get_or w whole_at 0) 1 && leb (get_or w gone_count_at 0) most_gone && x) ≡ counts_in w
unfolding counts_in
glue w e = rw e refl

pub returns : goal.returns
returns c = glue _ c.room_for.ensures
