-- The reader over a whole line.
use Rattle.std.specs.Prelude.{ℕ, List}
use Rattle.grammar.specs.Sums.{nothing}
use Rattle.grammar.specs.Reader.{first, left, Outcome, run}

-- the reader over a whole line
abbrev pub outcome : List ℕ → Outcome
outcome w = run w 0 first left nothing
