-- What passes the tests of an add, in a whole run.
use Rattle.std.specs.Prelude.{ℕ, ◌≤◌, ◌≡◌, List, length}
use Rattle.std.proofs.Math.Bool.{false}
use Rattle.std.proofs.Math.Option.{none}
use Rattle.steps.specs.Number.{below_zero}
use Rattle.steps.specs.State.{Term, Relation, strength_of, State}
use Rattle.steps.specs.Tests.{find_constraint}

pub record Passes (n : ℕ) (ts : List Term) (r : Relation) (s : State) : Type 0 where
  pub strength : below_zero (strength_of r) ≡ false
  pub few : length ts ≤ 16
  pub new : find_constraint n s.constraints ≡ none
  pub low : s.tableau.next_id ≤ 4_294_900_000
