use Rattle.std.proofs.Common.{◌+◌, ◌*◌, ◌≤◌}
use Rattle.text.specs.Put.{Put}
use Rattle.text.specs.show_text.Show.{terms_in}
use Rattle.text.proofs.show_text.answers.put_terms.Given as goal

abbrev pub invariant-loop-i : goal.invariant-loop-i
invariant-loop-i l = (Put l.initial.out l.out l.at l.next (terms_in l.i l.variables l.coefficients)) × (l.next ≤ l.at + 40 * l.i)
