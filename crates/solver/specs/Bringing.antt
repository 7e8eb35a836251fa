-- The records that come over into the room when a call is accepted, and what is taken for granted then.
-- Assumes nothing.
use Rattle.std.specs.Prelude.{ℕ, ◌+◌, ◌<◌, ◌≡◌, true, List, get_or}
use Rattle.steps.specs.State.{Constraint, Edit, State}
use Rattle.sparse.specs.Places.{variable_places_at}
use Rattle.sparse.specs.Sparse.{Sparse, variable_count, read}
use Rattle.sparse.specs.Form.{Form}
use Rattle.sparse.specs.Fits.{Lengths}
use Rattle.sparse_test.specs.Reads.{reads}

-- what the room u reads as with these constraints and edits
abbrev pub brought : List Constraint → List Edit → Sparse → State
brought cs es u = record { tableau = (read u).tableau; changes = (read u).changes; constraints = cs; edits = es; whole = (read u).whole }

-- the records of t may come over into u
pub record Comes (t u : Sparse) : Type 0 where
  pub lent : reads t ≡ true
  pub form : Form u
  pub lengths : Lengths u
  pub apart : (i j : ℕ) → i < j → j < variable_count u → get_or u.bytes (variable_places_at + i) 0 ≡ get_or u.bytes (variable_places_at + j) 0 → ⊥

abbrev pub Ends : Sparse → List Constraint → List Edit → Sparse → Type 0
Ends u cs es v = (read v ≡ brought cs es u) × Form v
