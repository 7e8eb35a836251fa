use Prim.Native.Nat.{◌≤◌}
use mathlib.Core.Path.{◌≡◌}
use mathlib.Core.Bool.{true}
use Rattle.laws.specs.Lists.{all_on}
use Rattle.layout.specs.Layout.{term_room}
use Rattle.addition.specs.Inputs.{whole_at}
use Rattle.addition.proofs.inputs.whole_terms.Given as goal

abbrev pub invariant-loop-i : goal.invariant-loop-i
invariant-loop-i l = (all_on (whole_at l.coefs) l.i l.n l.ok ≡ all_on (whole_at l.coefs) 0 l.n true) × (l.n ≤ term_room)
