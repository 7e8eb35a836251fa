-- Sessions of groups: a drop's removals one after the other, all or none, and its refusals.
use Rattle.std.specs.Prelude.{true, false, List, [], ◌∷◌, T}
use Rattle.std.specs.Float.{nan}
use Rattle.steps.specs.Strength.{required}
use Rattle.steps.specs.State.{Term, equal, at_most, at_least}
use Rattle.steps.specs.Session.{adds, drops, adds_edit, suggests, value_of, has_constraints, has_edits, reads, answer, is, says, Expected, ◌gives◌, all_pass}
use Rattle.steps.specs.Twelve.{num, minus, x, open_twelve}

-- - x
unfoldable pub minus_x : Term
minus_x = record { variable = 1; coefficient = minus 1 }

-- - x = 0 required, at 1 and, with 1 for 0, at 1,000,000, all in group 1: the second removal moves x by one pivot
unfoldable pub one_after_the_other : List Expected
one_after_the_other =
    adds 1 5 (minus_x ∷ []) (num 0) (equal required) 9 gives answer 0 0 true
    ∷ adds 1 7 (minus_x ∷ []) (num 0) (equal (num 1)) 9 gives answer 0 0 true
    ∷ adds 1 8 (minus_x ∷ []) (num 1) (equal (num 1_000_000)) 9 gives answer 0 0 true
    ∷ drops 1 9 gives answer 0 1 true
    ∷ has_constraints 5 gives says false
    ∷ has_constraints 8 gives says false
    ∷ reads gives says true
    ∷ []

-- the same with budget 0: the first removal needs the pivot, and the whole pane stays
unfoldable pub all_or_nothing : List Expected
all_or_nothing =
    adds 1 5 (minus_x ∷ []) (num 0) (equal required) 9 gives answer 0 0 true
    ∷ adds 1 7 (minus_x ∷ []) (num 0) (equal (num 1)) 9 gives answer 0 0 true
    ∷ adds 1 8 (minus_x ∷ []) (num 1) (equal (num 1_000_000)) 9 gives answer 0 0 true
    ∷ drops 1 0 gives answer 14 0 true
    ∷ has_constraints 5 gives says true
    ∷ has_constraints 7 gives says true
    ∷ has_constraints 8 gives says true
    ∷ []

-- another group stays, and so do edits
unfoldable pub others_stay : List Expected
others_stay =
    adds 2 1 (x ∷ []) (minus 5) (at_most required) 9 gives answer 0 0 true
    ∷ adds 3 2 (x ∷ []) (minus 3) (at_least required) 9 gives answer 0 0 true
    ∷ adds_edit 1 (num 1) 9 gives answer 0 1 true
    ∷ drops 2 9 gives answer 0 0 true
    ∷ has_constraints 1 gives says false
    ∷ has_constraints 2 gives says true
    ∷ has_edits 1 gives says true
    ∷ suggests 1 (num 9) 9 gives answer 0 1 true
    ∷ value_of 1 gives is (num 9)
    ∷ []

-- 26 before 1, and before 27
unfoldable pub refusals : List Expected
refusals =
    adds 0 1 (x ∷ []) nan (equal required) 9 gives answer 26 0 true
    ∷ drops 0 9 gives answer 26 0 true
    ∷ drops 1 9 gives answer 27 0 true
    ∷ adds 1 1 (x ∷ []) (minus 5) (equal required) 9 gives answer 0 0 true
    ∷ drops 2 9 gives answer 27 0 true
    ∷ drops 65535 9 gives answer 27 0 true
    ∷ drops 1 9 gives answer 0 0 true
    ∷ drops 1 9 gives answer 27 0 true
    ∷ []

-- all of them
unfoldable pub sessions : List (List Expected)
sessions = one_after_the_other ∷ all_or_nothing ∷ others_stay ∷ refusals ∷ []

-- the key: unfolds this module and what it computes with
unfoldable pub open_groups : Unit {0}
unfolding open_twelve minus_x one_after_the_other all_or_nothing others_stay refusals sessions
open_groups = tt

pub groups-pass : T (all_pass sessions)
unfolding open_groups
groups-pass = tt
