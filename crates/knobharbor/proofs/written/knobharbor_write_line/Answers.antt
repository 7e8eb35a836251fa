use Rattle.std.proofs.Common.{eqb, ltb, length, arith, eqb-true}
use Rattle.layout.specs.Rooms.{and_right}
use Rattle.knobharbor.specs.Written.{writes-not, writes-fit}
use Rattle.knobharbor.proofs.written.knobharbor_write_line.Goals as goal

pub returns-then-not-ok : goal.returns-then-not-ok
returns-then-not-ok c = writes-not c.args.kind c.args.strength c.args.group c.args.constant c.args.vars.now c.args.coefs.now c.args.buffer.now c.if-not-ok.true c.unsaid.ensures

pub gather-p-requires : goal.gather-p-requires
gather-p-requires c = omega (arith, eqb-true (length c.args.vars.now) (length c.args.coefs.now) (and_right (ltb c.args.kind 3) (eqb (length c.args.vars.now) (length c.args.coefs.now)) c.if-not-ok.false))

pub returns : goal.returns
returns c = writes-fit c.args.kind c.args.strength c.args.group c.args.constant c.args.vars.now c.args.coefs.now c.args.buffer.now c.relation-related.result c.gather-p.result c.if-not-ok.false c.relation-related.ensures c.gather-p.ensures c.write_line.ensures
