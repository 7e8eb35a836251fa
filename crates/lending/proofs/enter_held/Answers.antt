use Rattle.sparse.specs.Tables.{held, lent}
use Rattle.sparse_test.specs.Meaning.{reads-form}
use Rattle.lending.specs.Entered.{entered}
use Rattle.lending.proofs.enter_held.Goals as goal

pub put_bare-requires : goal.put_bare-requires
put_bare-requires c = record { wwords_len = c.long-2.ensures.0; words_len = c.long.ensures.0; counts = (reads-form (lent c.args.tables.now) c.requires).counts }

pub returns-clause-does : goal.returns-clause-does
returns-clause-does c =
    entered
    (lent c.args.tables.now)
    (held c.args.room.now)
    c.long.ensures.0
    c.long-2.ensures
    c.requires
    c.put_bare.ensures.does
