use Rattle.stored.specs.Moved.{ask-all, moved_as}
use Rattle.stored.proofs.records.keep_records.Goals as goal

pub move_records-requires : goal.move_records-requires
move_records-requires c = let all = ask-all _ _ _ _ c.requires.stores c.requires.stores_2.names c.all_of-c.ensures c.all_of-e.ensures in record { names = all.0; names_2 = all.1.0; c_bound = all.1.1.0; c_bound_2 = all.1.1.1.0; e_bound = all.1.1.1.1.0; e_bound_2 = all.1.1.1.1.1.0; free_bound = all.1.1.1.1.1.1 }

pub returns : goal.returns
returns c = moved_as _ _ _ _ _ _ _ _ _ _ _ _ _ c.all_of-c.ensures c.all_of-e.ensures c.move_records.ensures
