-- What the claim needs: without gone entries it is false, and compared by their bits the numbers differ. Computed.
use Rattle.std.specs.Prelude.{◌≡◌, refl, [], ◌∷◌, Bool, true, false, ℕ, eqb}
use Rattle.std.specs.Float.Ieee.{eq}
use Rattle.steps.specs.Number.{usual_cutoff}
use Rattle.steps.specs.Strength.{required}
use Rattle.steps.specs.State.{equal, State}
use Rattle.steps.specs.Changes.{Fetched, value, fetch_changes}
use Rattle.steps.specs.Calls.{empty}
use Rattle.steps.specs.Changing.{Changing, adds, removes, made}
use Rattle.steps.specs.Dump.{bits_of}
use Rattle.steps.specs.Twelve.{minus, x, open_twelve}
use Rattle.keeps.specs.suffices.Reader.{Reader, nothing, takes, takes_all, holds}

-- x is n, as constraint 1
unfoldable sets : ℕ → Changing
sets n = adds 1 1 (x ∷ []) (minus n) (equal required) 9

-- document 01's: "a variable at zero goes [..] without notice", so that no gone entry waits
unfoldable silent : State → State
silent s =
    record {
      tableau = s.tableau;
      changes = record { variables = s.changes.variables; gone = []; should_clear = s.changes.should_clear };
      constraints = s.constraints;
      edits = s.edits;
      whole = s.whole;
    }

-- the state after a fetch, and the reader beside it
record Read : Type 0 where
  state : State
  reader : Reader

-- a call, then a fetch that tells of no variable that goes
unfoldable silently : Changing → Read → Read
silently c r = let f : Fetched = fetch_changes (silent (made c r.state).state) in record { state = f.state; reader = takes_all f.list r.reader }

-- one that tells
unfoldable telling : Changing → Read → Read
telling c r = let f : Fetched = fetch_changes (made c r.state).state in record { state = f.state; reader = takes_all f.list r.reader }

unfoldable start : Read
start = record { state = empty usual_cutoff; reader = nothing }

-- the reader's number of x is the one asked
unfoldable agrees : Read → Bool
agrees r = eq (holds r.reader 1) (value 1 r.state)

unfoldable same_bits : Read → Bool
same_bits r = eqb (bits_of (holds r.reader 1)) (bits_of (value 1 r.state))

-- "Our drawing code kept a pane at its old x after its last constraint went, and when the same number came back at 0 no change was listed."
without_gone : (agrees (silently (sets 7) start) ≡ true) × (agrees (silently (removes 1 9) (silently (sets 7) start)) ≡ false) × (agrees (silently (sets 0) (silently (removes 1 9) (silently (sets 7) start))) ≡ false)
unfolding open_twelve sets silent silently start agrees takes takes_all holds nothing
without_gone = (refl, refl, refl)

-- the same calls, told
with-gone : (agrees (telling (removes 1 9) (telling (sets 7) start)) ≡ true) × (agrees (telling (sets 0) (telling (removes 1 9) (telling (sets 7) start))) ≡ true)
unfolding open_twelve sets telling start agrees takes takes_all holds nothing
with-gone = (refl, refl)

-- "compared as numbers": x = 0 leaves x at -0.0, of which nothing is listed, and unknown is 0.0
not-by-bits : (agrees (telling (sets 0) start) ≡ true) × (same_bits (telling (sets 0) start) ≡ false)
unfolding open_twelve sets telling start agrees same_bits takes takes_all holds nothing
not-by-bits = (refl, refl)
