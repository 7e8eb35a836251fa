use Rattle.sparse.specs.Tables.{held, lent}
use Rattle.std.proofs.Common.{rules}
use Rattle.solver.specs.Again.{all-stored, all-brought, all_read}
use Rattle.solver.proofs.again.bring_all.Goals as goal

pub keep_records-requires : goal.keep_records-requires
keep_records-requires c =
    let s = all-stored (lent c.args.tables.now) (held c.args.room.now) c.requires in
    record { stores = s.0; stores_2 = s.1 }

pub returns : goal.returns
returns c =
    let t = lent c.args.tables.now in
    let w = held c.args.room.now in
    record { wvalues_value = all-brought t w c.requires c.keep_records.new.words c.keep_records.new.bytes c.keep_records.new.reals c.keep_records.result c.keep_records.ensures; wvalues_value_2 = all_read t w c.requires c.keep_records.new.words c.keep_records.new.bytes c.keep_records.new.reals c.keep_records.result c.keep_records.ensures c.long.ensures; same = search rules }
