-- The set of tables that is in hand after a call behind the test: the room where the call is accepted, the tables where it is refused.
use Rattle.std.specs.Prelude.{ℕ, cond, eqb}
use Rattle.sparse.specs.Sparse.{Sparse}

-- the set in hand after a call that answered the number
abbrev pub in_hand : ℕ → Sparse → Sparse → Sparse
in_hand number t u = cond (eqb number 0) u t
