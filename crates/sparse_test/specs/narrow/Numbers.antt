-- A number that a u32 holds.
use Rattle.std.specs.Prelude.{ℕ, Bool, leb}
use Rattle.sparse_test.specs.Reads.{greatest_u32}

unfoldable pub is_u32 : ℕ → Bool
is_u32 x = leb x greatest_u32
