-- A tag by the places of its symbols.
use Rattle.std.specs.Prelude.{ℕ}
use Rattle.steps.specs.State.{Tag}
use Rattle.sparse.specs.Sparse.{Sparse, symbol_at, other_at}

-- 0 is no other
unfoldable pub tag_at : Sparse → ℕ → ℕ → Tag
tag_at t m o = record { marker = symbol_at t m; other = other_at t o }
