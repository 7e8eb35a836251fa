-- Two adds, a removal and two drags, computed pass by pass: what n and r are, the ways to choose r of n, and the pivots made.
use Rattle.std.specs.Prelude.{ℕ, List, [], ◌∷◌, map, T, Float}
use Rattle.simplex.specs.Choose.{choose}
use Rattle.steps.specs.Number.{usual_cutoff}
use Rattle.steps.specs.Strength.{required}
use Rattle.steps.specs.State.{Relation, at_most, equal, at_least}
use Rattle.steps.specs.Readable.{concat}
use Rattle.steps.specs.Session.{same_numbers}
use Rattle.steps.specs.Twelve.{num, minus, x, open_twelve}
use Rattle.run.specs.Demand.{Call, adds, removes, adds_edit, suggests, make, accepted, live_after, next, start, after}
use Rattle.run.specs.stall.Stall.{PassStart, chosen, goes_on, turn, pivots_from, pivots_of, restricted_rows, restricted_symbols, ways, objective_pass, artificial_pass, add_passes, remove_passes, drop_passes, suggest_passes, passes_of, passes_unless}

-- n, r, the ways, the pivots
unfoldable pub figures : PassStart → List ℕ
figures p = restricted_symbols p.work.tableau.symbols ∷ restricted_rows p.work.tableau.rows ∷ ways p ∷ pivots_of p ∷ []

-- those of the passes of a call after others, the last of them first, from a reset with the usual cutoff
unfoldable pub figures_of : List Call → Call → List ℕ
figures_of before c = concat (map figures (passes_of c (after usual_cutoff before).state))

-- constraint c: x related to n
unfoldable pub x_is : ℕ → (Float → Relation) → ℕ → Float → Call
x_is c relation n strength = adds 1 c (x ∷ []) (minus n) (relation strength) 10

-- the key: unfolds this module and what it computes with
unfoldable pub open_samples : Unit {0}
unfolding open_twelve choose make accepted live_after next start after chosen goes_on turn pivots_from pivots_of restricted_rows restricted_symbols ways objective_pass artificial_pass add_passes remove_passes drop_passes suggest_passes passes_unless passes_of figures figures_of x_is
open_samples = tt

-- x ≤ 8, then x = 5, both required. Step 6's pass has the slack, the dummy and the temporary, which alone of them is basic; it makes one pivot. Then the temporary is gone, and step 7's makes none.
pub required-equality : T (same_numbers (figures_of (x_is 1 at_most 8 required ∷ []) (x_is 2 equal 5 required)) (3 ∷ 1 ∷ 3 ∷ 1 ∷ 2 ∷ 1 ∷ 2 ∷ 0 ∷ []))
unfolding open_samples
required-equality = tt

-- W3: x = 10 at 1, then x ≤ 8. Two errors, the slack and the temporary; then without it.
pub third-session : T (same_numbers (figures_of (x_is 1 equal 10 (num 1) ∷ []) (x_is 2 at_most 8 required)) (4 ∷ 1 ∷ 4 ∷ 1 ∷ 3 ∷ 1 ∷ 3 ∷ 0 ∷ []))
unfolding open_samples
third-session = tt

-- and x ≤ 8 removed again: its slack is gone before the pass
pub removed-again : T (same_numbers (figures_of (x_is 2 at_most 8 required ∷ x_is 1 equal 10 (num 1) ∷ []) (removes 2 10)) (2 ∷ 0 ∷ 1 ∷ 0 ∷ []))
unfolding open_samples
removed-again = tt

-- W7: an edit of x at 1, x ≤ 30, then x dragged to 40. Two errors and the slack; one of them is basic, and one pivot is made.
pub dragged-past : T (same_numbers (figures_of (x_is 2 at_most 30 required ∷ adds_edit 1 (num 1) 10 ∷ []) (suggests 1 (num 40) 10)) (3 ∷ 1 ∷ 3 ∷ 1 ∷ []))
unfolding open_samples
dragged-past = tt

-- x ≥ -3, and x ≥ 0 at 1, then x dragged to -11: two rows are below 0. The lower id leaves first, and two pivots are made; with the higher first it would be one.
pub two-below : T (same_numbers (figures_of (adds 1 7 (x ∷ []) (num 0) (at_least (num 1)) 10 ∷ adds 1 6 (x ∷ []) (num 3) (at_least required) 10 ∷ adds_edit 1 (num 1) 10 ∷ []) (suggests 1 (minus 11) 10)) (5 ∷ 2 ∷ 10 ∷ 2 ∷ []))
unfolding open_samples
two-below = tt
