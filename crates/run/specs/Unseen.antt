-- Runs of the same calls, from resets with two cutoffs: what is asked of the calls, how their states are alike, and what a caller sees of these.
-- The coefficients that are handed in are whole here, those of refused adds too. Those that reach the steps are so in a whole run, but 9 looks at them before the
-- steps: 5E-7 x, with x new beside 32 variables, is refused by 9 at 1E-8, which answers the stored mark, and skipped at 1E-6.
use Rattle.std.specs.Prelude.{◌≡◌, true, ℕ, Float}
use Rattle.simplex.specs.Choose.{All}
use Rattle.steps.specs.Number.{cutoff_fits, is_whole}
use Rattle.steps.specs.State.{Term, State}
use Rattle.steps.specs.Changes.{value, fetch_changes}
use Rattle.steps.specs.Tests.{has_constraint, has_edit}
use Rattle.run.specs.Demand.{Call, resets, fetches, adds, removes, drops, adds_edit, removes_edit, suggests}
use Rattle.run.specs.RecutCalls.{recut_s, Sound}

-- every coefficient that the call hands in is whole
abbrev pub Given : Call → Type 0
Given (resets z) = Unit
Given fetches = Unit
Given (adds g n ts k r b) = All (λ (t : Term). is_whole t.coefficient ≡ true) ts
Given (removes n b) = Unit
Given (drops g b) = Unit
Given (adds_edit v k b) = Unit
Given (removes_edit v b) = Unit
Given (suggests v x b) = Unit

-- t is s with a cutoff that reset takes
pub record Alike (s t : State) : Type 0 where
  pub cutoff : Float
  pub fits : cutoff_fits cutoff ≡ true
  pub is : t ≡ recut_s cutoff s
  pub sound : Sound s

-- what a caller sees of two states: the same values, the same constraints and edits, the same list from a fetch
pub record SameSeen (s t : State) : Type 0 where
  pub values : (v : ℕ) → value v t ≡ value v s
  pub changes : (fetch_changes t).list ≡ (fetch_changes s).list
  pub constraints : (n : ℕ) → has_constraint n t ≡ has_constraint n s
  pub edits : (v : ℕ) → has_edit v t ≡ has_edit v s
  pub mark : t.whole ≡ s.whole
