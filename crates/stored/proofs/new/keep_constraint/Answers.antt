use native.Mathlib.Omega.{arith}
use Rattle.stored.specs.Moved.{ask-opened}
use Rattle.stored.specs.Put.{before-fits, put-names, constraint-kept-by}
use Rattle.stored.proofs.new.keep_constraint.Goals as goal

pub put_constraint-requires : goal.put_constraint-requires
put_constraint-requires c = record { names = c.requires.stores_2.names; i_lt_most_constraints = omega (arith, c.seek-i.ensures.high); count_le_term_room = c.requires.count_le_term_room; count_bound = before-fits _ _ _ _ _ c.seek-i.ensures.high c.requires.count_bound c.terms_in-s.ensures }

pub move_records-requires : goal.move_records-requires
move_records-requires c = let all = ask-opened _ _ _ _ c.requires.stores (put-names _ _ _ _ _ _ _ _ _ _ _ _ _ _ _ _ c.requires.stores_2.names c.put_constraint.ensures) _ _ c.seek-i.ensures.high c.requires.constraint_count_at_bound c.requires.count_bound c.with_one-c.ensures c.all_of-e.ensures in record { names = all.0; names_2 = all.1.0; c_bound = all.1.1.0; c_bound_2 = all.1.1.1.0; e_bound = all.1.1.1.1.0; e_bound_2 = all.1.1.1.1.1.0; free_bound = all.1.1.1.1.1.1 }

pub returns : goal.returns
returns c = constraint-kept-by _ _ _ _ _ _ _ _ _ _ _ _ _ _ _ _ _ _ _ _ _ _ _ c.seek-i.ensures c.terms_in-s.ensures c.put_constraint.ensures c.with_one-c.ensures c.all_of-e.ensures c.move_records.ensures
