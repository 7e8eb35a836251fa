use Rattle.std.proofs.Common.{◌+◌, ◌*◌, ◌≤◌}
use Rattle.text.specs.Put.{Put}
use Rattle.text.specs.replies.Replies.{terms_text}
use Rattle.text.proofs.replies.put_terms.Given as goal

abbrev pub invariant-loop-i : goal.invariant-loop-i
invariant-loop-i l = (Put l.initial.out l.out l.at l.next (terms_text l.i l.variables l.coefficients)) × (l.next ≤ l.at + 43 * l.i)
