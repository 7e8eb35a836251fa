-- T-13 of document 02: the reader over a whole line, a line that is accepted, and the offset of 20.
use Rattle.std.specs.Prelude.{ℕ, ◌≤◌, ◌≡◌, List, length}
use Rattle.std.proofs.Math.Option.{none}
use Rattle.grammar.specs.Sums.{judged}
use Rattle.grammar.specs.Trees.{line_fault}
use Rattle.grammar.specs.Says.{IsReading}
use Rattle.grammar.specs.edition.Endings.{Second, second_bytes, strength_of, group_of, Constraint, taken, behind}
use Rattle.grammar.specs.edition.Service.{Starts}
use Rattle.grammar.specs.edition.Steps.{Found, pass, start}

-- ---- the reader over a whole line

abbrev pub outcome : List ℕ → Found
outcome w = pass w 0 start

-- ---- in fewer words

-- a line in the grammar and within the bounds, and what it says
abbrev pub Accepted : List ℕ → Constraint → Type 0
Accepted w c =
    (l : Second) × (length w ≤ 4096) × (second_bytes l ≡ w) × (line_fault l.line ≡ none) × IsReading l.line c.reading × (strength_of l.ending ≡ c.strength) × (group_of l.ending ≡ c.group)
    × (behind (judged c.reading) c.strength c.group ≡ taken c)

-- the offset of 20 is the length of the longest prefix of the line that is also a prefix of a line of the grammar
abbrev pub Longest : List ℕ → ℕ → Type 0
Longest w n = ((l : Second) × Starts l w n) × ((l : Second) → second_bytes l ≡ w → ⊥) × ((l : Second) (m : ℕ) → Starts l w m → m ≤ n)
