-- Sessions that read a layout back: each constraint is shown as it was added, until it goes.
use Rattle.std.specs.Prelude.{ℕ, Bool, ◌&&◌, List, [], ◌∷◌, ◌++◌, map, T}
use Rattle.std.proofs.Math.Option.{Option, none, some}
use Rattle.std.specs.Float.Ieee.{neg}
use Rattle.steps.specs.Number.{usual_cutoff}
use Rattle.steps.specs.Strength.{required}
use Rattle.steps.specs.State.{Term, at_most, equal, at_least, strength_of, Comparison, no_more, exactly, no_less, comparison_of, related, State}
use Rattle.steps.specs.Calls.{empty}
use Rattle.steps.specs.Readable.{concat}
use Rattle.steps.specs.Dump.{bits_of}
use Rattle.steps.specs.Session.{Call, adds, removes, drops, adds_edit, suggests, fetches, turn, same_numbers}
use Rattle.steps.specs.Shown.{Given, given_of, shown}
use Rattle.steps.specs.Twelve.{num, minus, x, open_twelve}

-- which of the three, as a number
unfoldable pub comparison_number : Comparison → ℕ
comparison_number no_more = 0
comparison_number exactly = 1
comparison_number no_less = 2

-- as numbers, floats bit by bit; no number for none
unfoldable pub given_numbers : Option Given → List ℕ
given_numbers none = []
given_numbers (some g) =
    comparison_number (comparison_of g.relation)
    ∷ bits_of (strength_of g.relation)
    ∷ g.group
    ∷ bits_of g.constant
    ∷ concat (map (λ (t : Term). t.variable ∷ bits_of t.coefficient ∷ []) g.terms)

-- these calls made
unfoldable pub after_these : List Call → State → State
after_these [] s = s
after_these (c ∷ cs) s = after_these cs (turn c s).state

-- after these calls from a reset on, the constraint n is shown so
unfoldable pub shows : List Call → ℕ → Option Given → Bool
shows cs n g = same_numbers (given_numbers (shown n (after_these cs (empty usual_cutoff)))) (given_numbers g)

-- 2 y
unfoldable pub two_y : Term
two_y = record { variable = 7; coefficient = num 2 }

-- a term that is skipped
unfoldable pub skipped : Term
skipped = record { variable = 3; coefficient = num 0 }

-- one of each relation, not by ascending number, and an edit; the second has -0.0 for its constant, a term that is skipped, and terms that do not ascend
unfoldable pub layout : List Call
layout =
    adds 2 9 (x ∷ []) (minus 5) (at_most required) 9
    ∷ adds 65_535 4 (two_y ∷ skipped ∷ x ∷ []) (neg (num 0)) (equal (num 1)) 9
    ∷ adds 1 6 [] (minus 3) (at_least (num 0)) 9
    ∷ adds_edit 1 (num 1) 9
    ∷ []

unfoldable pub all_shown : Bool
all_shown =
    shows layout 9 (some (record { group = 2; terms = x ∷ []; constant = minus 5; relation = at_most required }))
    && shows layout 4 (some (record { group = 65_535; terms = two_y ∷ x ∷ []; constant = neg (num 0); relation = equal (num 1) }))
    && shows layout 6 (some (record { group = 1; terms = []; constant = minus 3; relation = at_least (num 0) }))
    -- an edit's constraint has no number
    && shows layout 1 none
    -- other calls leave it, a refused add of its number too
    && shows (layout ++ (adds 1 9 [] (num 0) (equal required) 9 ∷ removes 4 9 ∷ suggests 1 (num 7) 9 ∷ fetches ∷ drops 1 9 ∷ [])) 9 (some (record { group = 2; terms = x ∷ []; constant = minus 5; relation = at_most required }))
    && shows (layout ++ (removes 9 9 ∷ [])) 9 none
    && shows (layout ++ (drops 2 9 ∷ [])) 9 none

-- the key: unfolds this module and what it computes with
unfoldable pub open_read_back : Unit {0}
unfolding open_twelve comparison_of related given_of shown comparison_number given_numbers after_these shows two_y skipped layout all_shown
open_read_back = tt

pub all_shown_lem : T all_shown
unfolding open_read_back
all_shown_lem = tt
