use Prim.Native.Nat.{ℕ, ◌+◌}
use mathlib.Core.Path.{◌≡◌, refl}
use mathlib.Core.List.{List}
use native.Mathlib.Omega.{arith}
use lib.Dec.{ltb}
use lib.Ieee.{Float}
use Rattle.sparse.specs.Places.{most_variables}
use Rattle.changes.specs.declared.terms.Pack.{Pack}
use Rattle.changes.specs.terms.Terms.{kept_of}
use Rattle.refusals.specs.Refusals.{variables_in, new_in, variables_full_in}
use Rattle.std.proofs.Common.{rules}
use Rattle.refusals.proofs.variables_full.Goals as goal

says : (u : Float) (w : List ℕ) (p : Pack) {k : Pack} {r : ℕ} → k ≡ kept_of u p → r ≡ new_in w (variables_in w) k → ltb most_variables (variables_in w + r) ≡ variables_full_in u w p
unfolding variables_full_in
says u w p h₁ h₂ = rw (h₂, h₁) refl

pub new_variables-requires : goal.new_variables-requires
new_variables-requires c = record { v_le_most_variables = omega arith; ascends = search rules }

pub overflow_add-result : goal.overflow_add-result
overflow_add-result c = omega (arith, c.new_variables.ensures.upper_bound)

pub returns : goal.returns
returns c = says c.args.cutoff c.args.words.now c.args.p c.kept-kept.ensures c.new_variables.ensures.value
