use Rattle.std.proofs.Common.{◌≡◌, rules, arith, eq-eqb, ne_eqb}
use Rattle.lending.specs.sparse_copy.Over.{tables}
use Rattle.lending.specs.Lending.{answer_of, called}
use Rattle.knobharbor.specs.Adding.{add_lists_of, refused, lists-unfit, lists-fit, packed_of}
use Rattle.knobharbor.specs.Places.{placed, placed_by, call-placed}
use Rattle.knobharbor.specs.Together.{back, put-back, cleared-back}
use Rattle.knobharbor.proofs.added.knobharbor_add_lists.Goals as goal

pub returns-then-not-ok-clause-values_after : goal.returns-then-not-ok-clause-values_after
returns-then-not-ok-clause-values_after c =
    let a = c.args in
    let t = tables a.words.now a.keys.now a.bytes.now a.reals.now a.values.now in
    let work = tables a.wwords.now a.wkeys.now a.wbytes.now a.wreals.now a.wvalues.now in
    back c.to_write.result (search rules) (λ u. placed c.put.new.answer u ≡ placed_by (add_lists_of a.group a.number a.vars.now a.coefs.now a.constant a.kind a.strength a.budget work t)) (call-placed c.put.ensures (lists-unfit a.group a.number a.constant a.kind a.strength a.budget work t a.vars.now a.coefs.now (called (answer_of c.refuse-a.result) _) (ne_eqb _ _ c.if-not-ok.true) (refused c.refuse-a.ensures.result_value c.to_write.ensures.value)))

pub returns-then-not-ok-clause-wvalues_value : goal.returns-then-not-ok-clause-wvalues_value
returns-then-not-ok-clause-wvalues_value c = cleared-back c.refuse-a.new.room (search rules) c.to_write-2.ensures.value c.refuse-a.ensures.wvalues_value

pub gather-p-requires : goal.gather-p-requires
gather-p-requires c = omega (arith, c.if-not-ok.false)

pub returns-clause-values_after : goal.returns-clause-values_after
returns-clause-values_after c =
    let a = c.args in
    let work = tables a.wwords.now a.wkeys.now a.wbytes.now a.wreals.now a.wvalues.now in
    let t = tables a.words.now a.keys.now a.bytes.now a.reals.now a.values.now in
    lists-fit a.group a.number a.constant a.kind a.strength a.budget work t a.vars.now a.coefs.now _ (eq-eqb _ _ c.if-not-ok.false) c.gather-p.ensures
    (put-back c.add_packed.new.tables (search rules) (packed_of a.group a.number c.gather-p.result a.constant a.kind a.strength a.budget) c.to_write-2.ensures.value c.to_write.ensures.value c.add_packed.ensures.values_after)

pub returns-clause-wvalues_value : goal.returns-clause-wvalues_value
returns-clause-wvalues_value c = cleared-back c.add_packed.new.room (search rules) c.to_write-2.ensures.value c.add_packed.ensures.wvalues_value
