use mathlib.Core.Path.{refl}
use native.Mathlib.Omega.{arith}
use Rattle.solver.specs.StoredTerms.{variable_at, narrow_at}
use Rattle.solver.proofs.looks.variable_at.Goals as goal

pub byte_from-i-requires : goal.byte_from-i-requires
byte_from-i-requires c = omega (arith, c.requires.names.few)

pub overflow_add-result : goal.overflow_add-result
overflow_add-result c = omega (arith, c.requires.names.few, c.byte_from-i.ensures.upper_bound)

pub offset_bounds-words-i : goal.offset_bounds-words-i
offset_bounds-words-i c = omega (arith, c.requires.names.few, c.byte_from-i.ensures.upper_bound)

pub bounds-words-i : goal.bounds-words-i
bounds-words-i c = omega (arith, c.requires.names.few, c.byte_from-i.ensures.upper_bound)

pub overflow_cast-result : goal.overflow_cast-result
overflow_cast-result c = let n = narrow_at c.args.words.now c.args.bytes.now c.args.q c.requires.names c.byte_from-i.ensures.value in omega (arith, n)

pub returns : goal.returns
unfolding variable_at
returns c = rw c.byte_from-i.ensures.value refl
