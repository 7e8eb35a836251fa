-- What bytes can be completed to, and what the reader's outcome says of a line's bytes.
use Rattle.std.specs.Prelude.{ℕ, suc, ◌≡◌, List, ◌++◌, ◌⊎◌, T, ltb}
use Rattle.grammar.specs.Reader.{Outcome, read, halted, whole}
use Rattle.grammar.specs.Trees.{Line, line_bytes}
use Rattle.grammar.specs.Says.{Begins}

-- a line of the grammar that begins with these bytes
abbrev pub Completes : List ℕ → Type 0
Completes p = (l : Line) × (more : List ℕ) × (p ++ more ≡ line_bytes l)

-- ---- what the reader's outcome says of the line's bytes

abbrev pub Tells : List ℕ → Outcome → Type 0
Tells w (read at t s) = ⊥
Tells w (halted n at) = ((n ≡ 20) × ((l : Line) × Begins l w at)) ⊎ (T (ltb 20 n) × ((l : Line) × Begins l w (suc at)))
Tells w (whole r s) = (l : Line) × (line_bytes l ≡ w)
