-- The reader and the claim: "a reader that starts empty at reset, takes each fetched list in order, forgets what is listed gone and takes anything unknown as 0.0, holds after each fetch the same numbers, compared as numbers, as asking every live variable one by one."
use Rattle.std.specs.Prelude.{◌≡◌, List, [], ◌∷◌, true, false, cond, ℕ, eqb, Float}
use Rattle.std.proofs.Math.Option.{Option, none, some}
use Rattle.std.specs.Float.Ieee.{eq}
use Rattle.steps.specs.Number.{zero64, cutoff_fits}
use Rattle.steps.specs.State.{State}
use Rattle.steps.specs.Changes.{Change, find_variable, value, fetch_changes}
use Rattle.steps.specs.Calls.{empty, reset}
use Rattle.steps.specs.Changing.{Changing, made}

-- what it knows of each number
abbrev pub Reader : Type 0
Reader = ℕ → Option Float

-- "starts empty at reset"
unfoldable pub nothing : Reader
nothing n = none

-- "forgets what is listed gone"
unfoldable pub takes : Change → Reader → Reader
takes c r n = elim (eqb n c.variable) [ true ↦ cond c.gone none (some c.new) | false ↦ r n ]

-- "takes each fetched list in order"
unfoldable pub takes_all : List Change → Reader → Reader
takes_all [] r = r
takes_all (c ∷ cs) r = takes_all cs (takes c r)

-- "takes anything unknown as 0.0"
unfoldable pub holds : Reader → ℕ → Float
holds r n = elim (r n) [ none ↦ zero64 | some x ↦ x ]

-- A run with a reader beside it: from a reset with any cutoff on, calls accepted or refused, with any numbers, and fetches anywhere. The lists are all that the reader is given.
pub data Follows : State → Reader → Type 0 where
  starts : (cutoff : Float) → cutoff_fits cutoff ≡ true → Follows (empty cutoff) nothing
  resets : {s : State} {r : Reader} (cutoff : Float) → Follows s r → Follows (reset cutoff s).state (cond (cutoff_fits cutoff) nothing r)
  calls : {s : State} {r : Reader} (c : Changing) → Follows s r → Follows (made c s).state r
  fetches : {s : State} {r : Reader} → Follows s r → Follows (fetch_changes s).state (takes_all (fetch_changes s).list r)

-- right after a fetch, the reader's number of the variable n is the one that asking gives, and it knows no number that isn't live
abbrev pub Agrees : State → Reader → ℕ → Type 0
Agrees s r n = (eq (holds r n) (value n s) ≡ true) × (find_variable n s.changes.variables ≡ none → r n ≡ none)

-- the claim
abbrev pub Suffices : Type 0
Suffices = (s : State) (r : Reader) → Follows s r → (n : ℕ) → Agrees (fetch_changes s).state (takes_all (fetch_changes s).list r) n
