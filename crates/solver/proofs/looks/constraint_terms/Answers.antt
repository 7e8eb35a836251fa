use mathlib.Core.Path.{refl}
use native.Mathlib.Omega.{arith}
use Rattle.solver.proofs.looks.constraint_terms.Goals as goal

pub term_count-from-requires : goal.term_count-from-requires
term_count-from-requires c = omega (arith, c.requires.j_lt_most_constraints)

pub overflow_add-j : goal.overflow_add-j
overflow_add-j c = omega (arith, c.requires.j_lt_most_constraints)

pub bounds-bytes-j : goal.bounds-bytes-j
bounds-bytes-j c = omega (arith, c.requires.j_lt_most_constraints)

pub stored_pack-requires : goal.stored_pack-requires
stored_pack-requires c = rw (c.term_count-from.ensures.value, c.wide-n.ensures) c.requires.terms

pub returns : goal.returns
returns c = rw (c.stored_pack.ensures, c.term_count-from.ensures.value, c.wide-n.ensures) refl
