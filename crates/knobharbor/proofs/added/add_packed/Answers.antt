use Rattle.std.proofs.Common.{refl, rules, lt-ltb, le-ltb}
use Rattle.sparse.specs.Tables.{held}
use Rattle.lending.specs.Lending.{answer_of, called}
use Rattle.knobharbor.specs.Adding.{refused, packed-unfit, packed-fit}
use Rattle.knobharbor.specs.Places.{placed, call-placed}
use Rattle.knobharbor.proofs.added.add_packed.Goals as goal

pub returns-then-not-ok : goal.returns-then-not-ok
returns-then-not-ok c =
    let a = c.args in
    let t = held a.tables.now in
    record { values_after = call-placed {u = t} c.put.ensures (packed-unfit a.group a.number a.constant a.kind a.strength a.budget (held a.room.now) t a.p (called (answer_of c.refuse-a.result) t) (le-ltb _ _ c.if-not-ok.true) (refused c.refuse-a.ensures.result_value refl)); wvalues_value = c.refuse-a.ensures.wvalues_value; same_tables = search rules; same_room = search rules }

pub returns : goal.returns
returns c =
    let a = c.args in
    record { values_after = packed-fit a.group a.number a.constant a.kind a.strength a.budget (held a.room.now) (held a.tables.now) a.p c.relation-relation.result (placed c.change.new.answer (held c.change.new.tables)) (lt-ltb _ _ c.if-not-ok.false) c.relation-relation.ensures c.change.ensures.values_after; wvalues_value = c.change.ensures.wvalues_value; same_tables = search rules; same_room = search rules }
