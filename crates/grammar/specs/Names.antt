-- Terms that name no variable above 4,294,967,295.
use Rattle.std.specs.Prelude.{◌≤◌, List, [], ◌∷◌}
use Rattle.grammar.specs.Sums.{Term, most_name}

-- each variable's number fits
abbrev pub Named : List Term → Type 0
Named [] = Unit {0}
Named (t ∷ ts) = (t.variable ≤ most_name) × Named ts
