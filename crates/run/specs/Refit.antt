-- The demands of a whole run after a suggestion.
use Rattle.std.specs.Prelude.{◌≡◌, ℕ, Float}
use Rattle.std.proofs.Math.Option.{Option, none, some}
use Rattle.simplex.specs.Lin.{Vec}
use Rattle.simplex.specs.Problem.{Con}
use Rattle.run.specs.Demand.{moved}
use Rattle.run.specs.Inv.{Held}

-- ---- the same expression, said otherwise

abbrev pub with_expr : Con → Vec → Con
with_expr c a = record { expr = a; form = c.form; weight = c.weight; marker = c.marker; other = c.other }

-- ---- the demands after a suggestion

unfoldable pub moved_held : ℕ → Float → Held → Held
moved_held u x h = record { demand = moved u x h.demand; tag = h.tag }

-- what is found of them
abbrev pub MovedAt : ℕ → Float → Option Held → Option Held → Type 0
MovedAt u x none o = o ≡ none
MovedAt u x (some h) o = o ≡ some (moved_held u x h)
