use Rattle.sparse.specs.Tables.{held, lent}
use Rattle.std.specs.Float.{nan}
use Rattle.lending.specs.Bare.{bare-over}
use Rattle.lending.proofs.entering.put_bare.Goals as goal

pub returns-clause-does : goal.returns-clause-does
returns-clause-does c =
    bare-over
    (lent c.args.tables.now)
    (held c.args.room.now)
    c.requires.words_len
    c.put_bare_words.ensures
    (c.part.ensures 0)
    (c.part-2.ensures nan)
    c.put_names.ensures
    c.put_reals.ensures
