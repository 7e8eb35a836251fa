-- The sums that the reader has at the end of a line.
use Rattle.grammar.specs.Sums.{Sums, one, turned, nothing}
use Rattle.grammar.specs.Trees.{Line}
use Rattle.grammar.specs.Walk.{settled, arrived}

-- ---- a line

-- its sums
unfoldable pub sums_of : Line → Sums
unfolding arrived
sums_of l = settled (arrived (turned one) l.right_side (settled (arrived one l.left_side nothing)))
