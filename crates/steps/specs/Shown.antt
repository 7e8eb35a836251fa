-- Reading a layout back: a live constraint as it was added, skipped terms left out, with its group.
-- "Laptops must send strength and group as well, and read layouts back."
use Rattle.std.specs.Prelude.{ℕ, List, Float}
use Rattle.std.proofs.Math.Option.{Option, none, some}
use Rattle.steps.specs.State.{Term, Relation, related, Constraint, State}
use Rattle.steps.specs.Tests.{find_constraint}

-- a constraint as add takes it, its number and the budget apart
pub record Given : Type 0 where
  pub group : ℕ
  pub terms : List Term
  pub constant : Float
  pub relation : Relation

-- "A relation carries its strength": the stored one
unfoldable pub given_of : Constraint → Given
given_of c = record { group = c.group; terms = c.terms; constant = c.constant; relation = related c.comparison c.strength }

-- the live constraint n as it was added; none for an unknown number, and for an edit's constraint, which has none
unfoldable pub shown : ℕ → State → Option Given
shown n s = elim (find_constraint n s.constraints) [ none ↦ none | some c ↦ some (given_of c) ]
