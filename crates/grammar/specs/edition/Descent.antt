-- How the second edition's reader goes on behind a sum.
use Rattle.std.specs.Prelude.{ℕ, drop}
use mathlib.Core.List.{List}
use Rattle.grammar.specs.Reader.{Around, Outcome, read, halted, whole}
use Rattle.grammar.specs.Descent.{rested}
use Rattle.grammar.specs.edition.Endings.{required}
use Rattle.grammar.specs.edition.Steps.{State, head, Found, met, found, pass}

-- a line's bytes from a place on
abbrev pub pass_from : List ℕ → ℕ → State → Found
pass_from w at x = pass (drop at w) at x

-- ---- what stands around a sum goes on behind it

abbrev pub resumed : List ℕ → Around → Outcome → Found
resumed line b (read at bare s) = pass_from line at (head (rested bare) b s)
resumed line b (halted n at) = met n at
resumed line b (whole r s) = found r s required 1
