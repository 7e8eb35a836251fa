use Prim.Native.Nat.{ℕ, ◌≤◌}
use mathlib.Core.Path.{◌≡◌, ap, ◌∙◌}
use mathlib.Core.List.{List}
use native.Mathlib.Omega.{arith}
use lib.ListN.{get_or}
use Rattle.sparse_test.specs.Tested.{index_in}
use Rattle.sparse_test.specs.Index.{near, Indexed, index-tells}
use Rattle.sparse_test.proofs.uses.index_at.Goals as goal

glue : (index b : List ℕ) (v j : ℕ) {w x r : ℕ} → Indexed index b v → w ≡ get_or b j 0 → w ≤ 255 → x ≡ get_or index w 0 → r ≡ near v x → r ≡ index_in b v (get_or b j 0)
glue index b v j {w} f e h g q = q ∙ ap (near v) g ∙ index-tells index b v f w h ∙ ap (index_in b v) e

pub returns : goal.returns
returns c = record { value = glue _ _ _ _ c.requires.indexed c.from.ensures (omega arith) c.from-2.ensures c.nearest.ensures.value; upper_bound = c.nearest.ensures.upper_bound }
