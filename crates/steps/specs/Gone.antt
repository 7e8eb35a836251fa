-- Sessions of variables that go: what a fetch then lists, of either kind, and refusal 25 on a state that no run comes to.
use Rattle.std.specs.Prelude.{ℕ, zero, suc, Bool, true, false, ◌&&◌, List, [], ◌∷◌, T, eqb, length, Float}
use Rattle.std.specs.Float.Ieee.{neg}
use Rattle.steps.specs.Strength.{required}
use Rattle.steps.specs.State.{Changes, State, at_least, equal}
use Rattle.steps.specs.Changes.{Change, gone_entry}
use Rattle.steps.specs.Session.{adds, removes, drops, adds_edit, removes_edit, suggests, fetches, reads, answer, list, says, Expected, ◌gives◌, turn, first_bad_from, all_pass}
use Rattle.steps.specs.Number.{usual_cutoff}
use Rattle.steps.specs.Calls.{empty}
use Rattle.steps.specs.Twelve.{num, minus, x_is, accepted, open_twelve}

-- x is n, as constraint 1
unfoldable pub sets : ℕ → Expected
sets n = x_is 1 equal n required 9 gives accepted 0

-- constraint 1 goes, and x with it
unfoldable pub unsets : Expected
unsets = removes 1 9 gives accepted 0

-- a fetch lists these
unfoldable pub lists : List Change → Expected
lists cs = fetches gives list cs

-- the variable n has this value
unfoldable pub moved : ℕ → Float → Change
moved n k = record { variable = n; new = k; gone = false }

-- "unless it was never reported": since it last came
unfoldable pub never_reported_again : List Expected
never_reported_again =
    sets 7 ∷ lists (moved 1 (num 7) ∷ []) ∷ unsets ∷ lists (gone_entry 1 ∷ []) ∷ sets 0 ∷ unsets ∷ lists [] ∷ []

-- one list ascending by number
unfoldable pub by_number : List Expected
by_number =
    adds_edit 1 (num 1) 9 gives accepted 0
    ∷ suggests 1 (num 7) 9 gives accepted 0
    ∷ adds 1 2 (record { variable = 2; coefficient = num 1 } ∷ []) (minus 8) (equal required) 9 gives accepted 0
    ∷ lists (moved 1 (num 7) ∷ moved 2 (num 8) ∷ [])
    ∷ suggests 1 (num 6) 9 gives accepted 0
    ∷ removes 2 9 gives accepted 0
    ∷ lists (moved 1 (num 6) ∷ gone_entry 2 ∷ [])
    ∷ lists []
    ∷ []

-- "One that goes and returns before the fetch is listed gone first, then with its new value, 0.0 included.": as it stands, which is -0.0
unfoldable pub returns : List Expected
returns = sets 7 ∷ lists (moved 1 (num 7) ∷ []) ∷ unsets ∷ sets 0 ∷ lists (gone_entry 1 ∷ moved 1 (neg (num 0)) ∷ []) ∷ lists [] ∷ []

-- goes, returns and goes again: listed once
unfoldable pub goes_again : List Expected
goes_again = sets 7 ∷ lists (moved 1 (num 7) ∷ []) ∷ unsets ∷ sets 3 ∷ unsets ∷ lists (gone_entry 1 ∷ []) ∷ []

-- returns but was never reported: no gone entry, and so no 0.0 either
unfoldable pub returns_unreported : List Expected
returns_unreported = sets 7 ∷ unsets ∷ sets 0 ∷ lists [] ∷ []

-- x at 0 has been told, and goes without a note: the fetch is of the second kind, and lists what is gone and back again all the same
unfoldable pub either_kind : List Expected
either_kind =
    x_is 1 at_least 0 required 9 gives accepted 0
    ∷ adds_edit 1 (num 1) 9 gives accepted 0
    ∷ suggests 1 (num 7) 9 gives accepted 1
    ∷ lists (moved 1 (num 7) ∷ [])
    ∷ removes_edit 1 9 gives accepted 0
    ∷ lists (moved 1 (num 0) ∷ [])
    ∷ drops 1 9 gives accepted 0
    ∷ sets 0
    ∷ reads gives says true
    ∷ lists (gone_entry 1 ∷ moved 1 (neg (num 0)) ∷ [])
    ∷ []

-- all of them
unfoldable pub sessions : List (List Expected)
sessions = never_reported_again ∷ by_number ∷ returns ∷ goes_again ∷ returns_unreported ∷ either_kind ∷ []

-- ---- 25

-- so many numbers from n on
unfoldable pub from : ℕ → ℕ → List ℕ
from n zero = []
from n (suc k) = n ∷ from (suc n) k

-- with so many gone entries waiting, of the numbers from 2 on
unfoldable pub waiting : ℕ → State → State
waiting k s =
    let c : Changes = s.changes in
    record {
      tableau = s.tableau;
      changes = record { variables = c.variables; gone = from 2 k; should_clear = c.should_clear };
      constraints = s.constraints;
      edits = s.edits;
      whole = s.whole;
    }

-- x is 7 and has been reported, and so many gone entries wait
unfoldable pub crowded : ℕ → State
crowded k = waiting k (turn fetches (turn (x_is 1 equal 7 required 9) (empty usual_cutoff)).state).state

-- "25 a removal would make a 33rd gone entry": with 31 waiting it is the 32nd; with 32 it is refused, alone or in a drop, and all of them stay
unfoldable pub full_passes : Bool
full_passes =
    eqb (first_bad_from 1 (crowded 31) (reads gives says true ∷ removes 1 9 gives answer 0 0 true ∷ reads gives says true ∷ [])) 0
    && eqb (first_bad_from 1 (crowded 32) (reads gives says true ∷ removes 2 9 gives answer 5 0 true ∷ removes 1 9 gives answer 25 0 true ∷ drops 1 9 gives answer 25 0 true ∷ reads gives says true ∷ [])) 0
    && eqb (length (turn (removes 1 9) (crowded 31)).state.changes.gone) 32
    && eqb (length (turn (removes 1 9) (crowded 32)).state.changes.gone) 32

-- the key: unfolds this module and what it computes with
unfoldable pub open_gone : Unit {0}
unfolding open_twelve sets unsets lists moved never_reported_again by_number returns goes_again returns_unreported either_kind sessions from waiting crowded full_passes
open_gone = tt

pub gone-pass : T (all_pass sessions)
unfolding open_gone
gone-pass = tt

pub full-passes : T full_passes
unfolding open_gone
full-passes = tt
