use Rattle.sparse.specs.Tables.{held}
use Rattle.std.proofs.Common.{rules}
use Rattle.steps.specs.Changing.{removes}
use Rattle.lending.specs.sparse_copy.Over.{tables}
use Rattle.solver.specs.Again.{entered-bare, made_again}
use Rattle.solver.proofs.again.remove_again.Goals as goal

pub remove_known-a-requires : goal.remove_known-a-requires
remove_known-a-requires c =
    let t = held c.args.room.now in
    record { entered_from = (c.args.room.now.keys.now, c.args.room.now.values.now, entered-bare t c.requires.values_value c.long.ensures c.bare.ensures); reals_value = c.requires.reals_value }

pub returns : goal.returns
returns c =
    let t = held c.args.room.now in
    let u = tables c.remove_known-a.new.room.words.now c.remove_known-a.new.room.keys.now c.remove_known-a.new.room.bytes.now c.remove_known-a.new.room.reals.now c.remove_known-a.new.room.values.now in
    let d = c.remove_known-a.ensures.does c.args.room.now.keys.now c.args.room.now.values.now (entered-bare t c.requires.values_value c.long.ensures c.bare.ensures) in
    record { done = d; then = made_again (removes c.args.n c.args.budget) t u c.remove_known-a.result tt c.requires.values_value c.long-2.ensures d; same = search rules }
