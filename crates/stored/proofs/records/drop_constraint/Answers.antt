use Rattle.stored.specs.Moved.{ask-without, moved_as}
use Rattle.stored.proofs.records.drop_constraint.Goals as goal

pub move_records-requires : goal.move_records-requires
move_records-requires c = let all = ask-without _ _ _ _ c.requires.stores c.requires.stores_2.names _ c.requires.j_bound c.without_one-c.ensures c.all_of-e.ensures in record { names = all.0; names_2 = all.1.0; c_bound = all.1.1.0; c_bound_2 = all.1.1.1.0; e_bound = all.1.1.1.1.0; e_bound_2 = all.1.1.1.1.1.0; free_bound = all.1.1.1.1.1.1 }

pub returns : goal.returns
returns c = moved_as _ _ _ _ _ _ _ _ _ _ _ _ _ c.without_one-c.ensures c.all_of-e.ensures c.move_records.ensures
