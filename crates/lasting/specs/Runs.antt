-- Sequences of the public calls over lent tables, from a reset on: the tables after them, what a call answers, and the run of the steps that the fit calls make.
use Rattle.std.specs.Prelude.{◌≡◌, Float}
use Rattle.std.proofs.Math.Bool.{true}
use mathlib.Core.List.{List, [], ◌∷◌}
use Rattle.std.proofs.Math.Option.{Option, none, some}
use Rattle.steps.specs.Calls.{Answer}
use Rattle.sparse.specs.Sparse.{Sparse}
use Rattle.lending.specs.Reset.{reset_of}
use Rattle.run.specs.Demand.{Call}
use Rattle.lasting.specs.Public.{Public, public_on, run_call, TypedPublic}

-- one call of a sequence, and the working room that is lent to it, with any content
pub record Step : Type 0 where
  pub call : Public
  pub room : Sparse

-- the call's numbers are of their types
abbrev pub Lent : Step → Type 0
Lent s = TypedPublic s.call

-- the call of the run that a step is, if it is one
abbrev pub call_of_step : Step → Option Call
call_of_step s = run_call s.call

abbrev pub and_then : Option Call → List Call → List Call
and_then (some c) cs = c ∷ cs
and_then none cs = cs

-- the run that a sequence makes: of its fit calls
unfoldable pub calls_of : List Step → List Call
calls_of [] = []
calls_of (s ∷ ss) = and_then (call_of_step s) (calls_of ss)

-- the tables after a reset with this cutoff and these calls; the last call stands first
unfoldable pub tables_after : Float → Sparse → List Step → Sparse
tables_after cutoff t [] = (reset_of cutoff t).tables
tables_after cutoff t (s ∷ ss) = (public_on s.call s.room (tables_after cutoff t ss)).tables

-- what a call answers after these
abbrev pub answers : Float → Sparse → Step → List Step → Answer
answers cutoff t s ss = (public_on s.call s.room (tables_after cutoff t ss)).answer

-- every call's answer says yes
abbrev pub WholeOn : Float → Sparse → List Step → Type 0
WholeOn cutoff t [] = Unit {0}
WholeOn cutoff t (s ∷ ss) = WholeOn cutoff t ss × ((answers cutoff t s ss).whole ≡ true)
