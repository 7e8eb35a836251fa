use Rattle.stored.specs.Moved.{ask-edit-opened}
use Rattle.stored.specs.Put.{put-edit-names, edit-kept-by}
use Rattle.stored.proofs.new.keep_edit.Goals as goal

pub move_records-requires : goal.move_records-requires
move_records-requires c = let all = ask-edit-opened _ _ _ _ c.requires.stores (put-edit-names _ _ _ _ _ _ _ _ _ _ c.requires.stores_2.names c.put_edit.ensures) _ c.seek_edit-i.ensures.high c.requires.edit_count_at_bound c.all_of-c.ensures c.with_one-e.ensures in record { names = all.0; names_2 = all.1.0; c_bound = all.1.1.0; c_bound_2 = all.1.1.1.0; e_bound = all.1.1.1.1.0; e_bound_2 = all.1.1.1.1.1.0; free_bound = all.1.1.1.1.1.1 }

pub returns : goal.returns
returns c = edit-kept-by _ _ _ _ _ _ _ _ _ _ _ _ _ _ _ _ _ c.seek_edit-i.ensures c.put_edit.ensures c.all_of-c.ensures c.with_one-e.ensures c.move_records.ensures
