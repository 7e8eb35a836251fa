use mathlib.Core.Path.{refl}
use native.Mathlib.Omega.{arith}
use Rattle.solver.specs.StoredTerms.{stored_term}
use Rattle.solver.proofs.looks.stored_term.Goals as goal

pub overflow_add-from : goal.overflow_add-from
overflow_add-from c = omega (arith, c.requires.terms.within, c.requires.i_lt_n)

pub overflow_add-from-2 : goal.overflow_add-from-2
overflow_add-from-2 c = omega (arith, c.requires.terms.within, c.requires.i_lt_n)

pub variable_at-variable-requires : goal.variable_at-variable-requires
variable_at-variable-requires c = record { q_lt_bytes_size = omega (arith, c.requires.terms.within, c.requires.i_lt_n); names = c.requires.terms.names c.args.i c.requires.i_lt_n }

pub overflow_add-result : goal.overflow_add-result
overflow_add-result c = omega (arith, c.requires.terms.within, c.requires.i_lt_n)

pub overflow_add-result-2 : goal.overflow_add-result-2
overflow_add-result-2 c = omega (arith, c.requires.terms.within, c.requires.i_lt_n)

pub offset_bounds-reals-from : goal.offset_bounds-reals-from
offset_bounds-reals-from c = omega (arith, c.requires.terms.within, c.requires.i_lt_n)

pub bounds-reals-from : goal.bounds-reals-from
bounds-reals-from c = omega (arith, c.requires.terms.within, c.requires.i_lt_n)

pub returns : goal.returns
unfolding stored_term
returns c = rw c.variable_at-variable.ensures refl
