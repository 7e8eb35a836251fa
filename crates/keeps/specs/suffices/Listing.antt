-- A list of entries as one number sees it: the value listed of it, what a reader then holds, and what a fetch lists of a variable.
use Rattle.std.specs.Prelude.{◌≡◌, Bool, cond, eqb, Float}
use mathlib.Core.List.{List, [], ◌∷◌}
use Rattle.std.proofs.Math.Option.{Option, none, some}
use Rattle.std.proofs.Math.Bool.{true, false}
use Prim.Native.Nat.{ℕ}
use Rattle.steps.specs.State.{Basic, Variable}
use Rattle.steps.specs.Changes.{never_reported, value_of, Change, is_listed}
use Rattle.keeps.specs.Lists.{All}

-- ---- a list of entries, as one number sees it

-- the value that is listed for n
unfoldable pub listed : ℕ → List Change → Option Float
listed n [] = none
listed n (c ∷ cs) = elim (eqb n c.variable) [ true ↦ some c.new | false ↦ listed n cs ]

-- what the reader holds of n then
unfoldable pub outcome : Option Float → Bool → Option Float → Option Float
outcome o gone before = elim o [ some x ↦ some x | none ↦ cond gone none before ]

abbrev pub Values : List Change → Type 0
Values cs = All (λ (c : Change). c.gone ≡ false) cs

-- ---- the values that are listed, by the variable that is found

-- what a fetch lists of a variable
abbrev pub news_at : List ℕ → List Basic → Option Variable → Option Float
news_at gone rows none = none
news_at gone rows (some v) = cond (is_listed gone rows v) (some (value_of v rows)) none

-- ---- what was told, by the variable that is found

abbrev pub told_by : Option Variable → Option Float
told_by none = none
told_by (some v) = cond (never_reported v) none (some v.old)

-- the one that is found, each changed in what isn't its number
abbrev pub mapped : (Variable → Variable) → Option Variable → Option Variable
mapped f none = none
mapped f (some v) = some (f v)
