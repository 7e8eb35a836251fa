-- The terms that tables hold, one after the other.
use Prim.Native.Nat.{ℕ, ◌+◌}
use Rattle.std.specs.Float.{nan}
use Rattle.std.proofs.Math.ListN.{get_or}
use Rattle.steps.specs.State.{Term}
use Rattle.sparse.specs.Places.{terms_at, coefficients_at}
use Rattle.sparse.specs.Sparse.{Sparse, number_at}

-- ---- the terms, one after the other

module _ (w : Sparse) where
  abbrev pub term_at : ℕ → Term
  term_at j = record { variable = number_at w (get_or w.bytes (terms_at + j) 0); coefficient = get_or w.reals (coefficients_at + j) nan }
