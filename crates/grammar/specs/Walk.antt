-- Where the reader is behind a tree, and what needs to stand around the tree.
use Rattle.std.specs.Prelude.{ℕ, ◌+◌, ◌≡◌, List, [], ◌∷◌, ◌++◌, length}
use Rattle.std.proofs.Common.{arith, length-append}
use Rattle.std.proofs.lemmas.List.{length-replicate}
use Rattle.grammar.specs.Sums.{Sums, Factor, turned, multiplied}
use Rattle.grammar.specs.Reader.{Mode, wanted, number, named, closed, Around, go, joins, flushed}
use Rattle.grammar.specs.Trees.{Gap, Sort, a_part, a_sum, Tree, amount, variable, multiple, negated, bracketed, single, added, subtracted, worth, around}

-- where the reader is behind a tree
pub record Spot : Type 0 where
  pub mode : Mode
  pub sums : Sums

abbrev pub settled : Spot → Sums
settled p = flushed p.mode p.sums

unfoldable pub arrived : Factor → {k : Sort} → Tree k → Sums → Spot
arrived f (amount n) s = record { mode = number f (worth n); sums = s }
arrived f (variable n) s = record { mode = named f (worth n); sums = s }
arrived f (multiple n g t) s = arrived (multiplied f (worth n)) t s
arrived f (negated g t) s = arrived (turned f) t s
arrived f (bracketed g t h) s = record { mode = closed; sums = settled (arrived f t s) }
arrived f (single t) s = arrived f t s
arrived f (added t g u) s = arrived f u (settled (arrived f t s))
arrived f (subtracted t g u) s = arrived (turned f) u (settled (arrived f t s))

-- a sum needs to have around it what goes on with it under its factor
abbrev pub Bears : Sort → Around → Factor → Type 0
Bears a_part a f = Unit {0}
Bears a_sum a f = (g : Factor → Factor) (s : Sums) → joins g a s ≡ go (wanted (g f)) a s

pub marked-length : (g : Gap) (c : ℕ) (v : List ℕ) → length (around g (c ∷ []) ++ v) ≡ g.before + 1 + g.after + length v
marked-length g c v = simp (length-append, length-replicate) (omega arith)
