use Rattle.std.specs.Prelude.{◌≡◌}
use Rattle.std.proofs.Common.{rules, sym, ◌∙◌}
use Rattle.sparse.specs.Tables.{held, given-back}
use Rattle.changes.specs.Change.{changing_of}
use Rattle.steps.specs.Changing.{made}
use Rattle.waist.specs.Working.{sparse}
use Rattle.lending.specs.Lending.{answer_of, called, call_of}
use Rattle.lending.specs.Entered.{zero_room, cleared-is}
use Rattle.entry.proofs.change_once.Goals as goal

pub returns-clause-values_value : goal.returns-clause-values_value
returns-clause-values_value c =
    let w = sparse c.args.wwords.now c.args.wkeys.now c.args.wbytes.now c.args.wreals.now c.args.wvalues.now in
    let t = sparse c.args.words.now c.args.keys.now c.args.bytes.now c.args.reals.now c.args.values.now in
    given-back (λ u. called (answer_of c.change.result) u ≡ call_of (made (changing_of c.args.c c.args.p c.args.budget)) w t) c.change.new.tables (search rules) (search rules) (search rules) (search rules) (search rules) c.change.ensures.values_value

pub returns-clause-wvalues_value : goal.returns-clause-wvalues_value
returns-clause-wvalues_value c =
    given-back (λ u. u ≡ zero_room) c.change.new.room (search rules) (search rules) (search rules) (search rules) (search rules) (c.change.ensures.wvalues_value ∙ sym (cleared-is _ c.long.ensures))
