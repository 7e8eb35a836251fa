-- T-01 of document 02: a line that is accepted, and its reading.
use Rattle.std.specs.Prelude.{ℕ, ◌≤◌, ◌≡◌, List, length}
use Rattle.std.proofs.Math.Option.{none}
use Rattle.grammar.specs.Sums.{Reading, reads, judged}
use Rattle.grammar.specs.Trees.{Line, line_fault, line_bytes}
use Rattle.grammar.specs.Says.{IsReading}

-- ---- in fewer words

-- a line in the grammar and within the bounds, and its reading
abbrev pub Accepted : List ℕ → Reading → Type 0
Accepted w r = (l : Line) × (length w ≤ 4096) × (line_bytes l ≡ w) × (line_fault l ≡ none) × IsReading l r × (judged r ≡ reads r)
