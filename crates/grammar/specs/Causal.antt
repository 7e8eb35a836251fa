-- What can come of the bytes that a line begins with, whatever follows them.
use Rattle.std.specs.Prelude.{ℕ, ◌+◌, ◌<◌, ◌≡◌, Bool, List, ◌++◌, length}
use Rattle.grammar.specs.Sums.{Sums}
use Rattle.grammar.specs.Reader.{Mode, Around, read, halted, run}

-- the bytes p: the reader passes them, or it comes to an end in them, whatever follows
pub data Through (p : List ℕ) (at : ℕ) (m : Mode) (a : Around) (s : Sums) : Type 0 where
  passed : (m' : Mode) (a' : Around) (s' : Sums) → ((z : List ℕ) → run (p ++ z) at m a s ≡ run z (at + length p) m' a' s') → Through p at m a s
  met : (n i : ℕ) → i < at + length p → ((z : List ℕ) → run (p ++ z) at m a s ≡ halted n i) → Through p at m a s
  left-off : (i : ℕ) (t : Bool) (u : Sums) → ((z : List ℕ) → run (p ++ z) at m a s ≡ read i t u) → Through p at m a s
