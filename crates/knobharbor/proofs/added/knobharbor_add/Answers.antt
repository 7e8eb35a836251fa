use Rattle.std.proofs.Common.{rules, ap, ◌∙◌}
use Rattle.lending.specs.sparse_copy.Over.{tables}
use Rattle.knobharbor.specs.Adding.{packed_of, packed-list}
use Rattle.knobharbor.specs.Places.{placed_by}
use Rattle.knobharbor.specs.Together.{put-back, cleared-back}
use Rattle.knobharbor.proofs.added.knobharbor_add.Goals as goal

pub returns-clause-values_after : goal.returns-clause-values_after
returns-clause-values_after c =
    let a = c.args in
    let work = tables a.wwords.now a.wkeys.now a.wbytes.now a.wreals.now a.wvalues.now in
    let t = tables a.words.now a.keys.now a.bytes.now a.reals.now a.values.now in
    put-back c.add_packed.new.tables (search rules) (packed_of a.group a.number c.collect-p.result a.constant a.kind a.strength a.budget) c.to_write-2.ensures.value c.to_write.ensures.value c.add_packed.ensures.values_after
    ∙ ap placed_by (packed-list a.group a.number a.constant a.kind a.strength a.budget work t a.terms.now c.collect-p.ensures)

pub returns-clause-wvalues_value : goal.returns-clause-wvalues_value
returns-clause-wvalues_value c = cleared-back c.add_packed.new.room (search rules) c.to_write-2.ensures.value c.add_packed.ensures.wvalues_value
