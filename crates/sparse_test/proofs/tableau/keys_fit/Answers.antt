use Prim.Native.Nat.{ℕ}
use mathlib.Core.Path.{◌≡◌, refl, sym, ◌∙◌}
use mathlib.Core.Bool.{Bool, true, ◌&&◌}
use mathlib.Core.List.{List}
use Rattle.layout.specs.cells.Cells.{ascends_of}
use Rattle.sparse_test.specs.Tested.{rows_in, keys_fit}
use Rattle.sparse_test.specs.Open.{Opened, open_by, open_by_lem}
use Rattle.std.proofs.Common.{rules}
use Rattle.sparse_test.proofs.tableau.keys_fit.Goals as goal

glue : (keys b : List ℕ) (n k r : ℕ) {table : List ℕ} {x y z : Bool} → x ≡ ascends_of keys n → x ≡ true → y ≡ rows_in keys n r → Opened table b k r → z ≡ open_by keys table n → (y && z) ≡ keys_fit keys b n k r
unfolding keys_fit
glue keys b n k r {table} e t f o g = rw (sym e ∙ t, f, g ∙ open_by_lem keys table b n k r o) refl

pub returns-then-not-ascends : goal.returns-then-not-ascends
unfolding keys_fit
returns-then-not-ascends c = rw (sym c.ascends.ensures ∙ c.if-not-ascends.true) refl

pub rows_in-requires : goal.rows_in-requires
rows_in-requires c = record { n_le_cell_room = search rules; n_value = sym c.ascends.ensures ∙ c.if-not-ascends.false }

pub returns : goal.returns
returns c = glue _ _ _ _ _ c.ascends.ensures c.if-not-ascends.false c.rows_in.ensures c.requires.opened c.open_in.ensures
