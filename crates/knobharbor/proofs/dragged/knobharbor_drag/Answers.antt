use Rattle.std.proofs.Common.{◌≡◌, rules}
use Rattle.steps.specs.Calls.{suggest}
use Rattle.sparse.specs.Tables.{held}
use Rattle.lending.specs.sparse_copy.Over.{tables}
use Rattle.lending.specs.Lending.{call_of}
use Rattle.fetches.specs.Fetch.{fetch_of}
use Rattle.knobharbor.specs.Dragged.{known-reads, drag-answers, drag-fetches}
use Rattle.knobharbor.specs.Places.{in_places, placed_list, placed_fetch}
use Rattle.knobharbor.specs.Together.{back, of_both, cleared-back}
use Rattle.knobharbor.proofs.dragged.knobharbor_drag.Goals as goal

pub fetch_after-f-requires : goal.fetch_after-f-requires
fetch_after-f-requires c = known-reads c.args.variable c.args.suggestion c.args.budget (held c.to_write-2.result) (held c.to_write.result) (held c.change-a.new.tables) c.change-a.result c.change-a.ensures.values_value c.long.ensures

pub returns-clause-answer_after : goal.returns-clause-answer_after
returns-clause-answer_after c =
    let a = c.args in
    of_both (λ w t. c.put.new.answer ≡ in_places (call_of (suggest a.variable a.suggestion a.budget) w t).answer) c.to_write-2.ensures.value c.to_write.ensures.value
    (drag-answers a.variable a.suggestion a.budget (held c.to_write-2.result) (held c.to_write.result) (held c.change-a.new.tables) c.change-a.result c.change-a.ensures.values_value c.put.ensures)

pub returns-clause-values_after : goal.returns-clause-values_after
returns-clause-values_after c =
    let a = c.args in
    let f = c.fetch_after-f in
    let work = tables a.wwords.now a.wkeys.now a.wbytes.now a.wreals.now a.wvalues.now in
    let t = tables a.words.now a.keys.now a.bytes.now a.reals.now a.values.now in
    back f.new.tables (search rules) (λ u. placed_list c.put_fetched.new.answer f.new.numbers f.new.moved f.new.gone u ≡ placed_fetch (fetch_of (call_of (suggest a.variable a.suggestion a.budget) work t).tables))
    (of_both (λ w t. placed_list c.put_fetched.new.answer f.new.numbers f.new.moved f.new.gone (held f.new.tables) ≡ placed_fetch (fetch_of (call_of (suggest a.variable a.suggestion a.budget) w t).tables)) c.to_write-2.ensures.value c.to_write.ensures.value
    (drag-fetches a.variable a.suggestion a.budget (held c.to_write-2.result) (held c.to_write.result) (held c.change-a.new.tables) c.change-a.result c.change-a.ensures.values_value {f = f.result} c.put_fetched.ensures f.ensures.does))

pub returns-clause-wvalues_value : goal.returns-clause-wvalues_value
returns-clause-wvalues_value c = cleared-back c.change-a.new.room (search rules) c.to_write-2.ensures.value c.change-a.ensures.wvalues_value
