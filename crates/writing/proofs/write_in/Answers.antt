use Rattle.std.proofs.Common.{sym, ◌∙◌}
use Rattle.writing.specs.Writes.{said-few, code-writes, code-passes, code-refuses}
use Rattle.writing.proofs.write_in.Goals as goal

pub put_line-n-requires : goal.put_line-n-requires
put_line-n-requires c = said-few c.args.p c.figure_of-c.result c.figure_of-s.result c.args.group (sym c.said.ensures ∙ c.if-said.true)

pub returns-then-n-le-ROOM : goal.returns-then-n-le-ROOM
returns-then-n-le-ROOM c =
    code-writes c.args.relation c.args.group c.args.constant c.args.p c.mark_of-mark.result c.strength_of.result c.figure_of-c.result c.figure_of-s.result
    c.mark_of-mark.ensures c.strength_of.ensures c.figure_of-c.ensures c.figure_of-s.ensures c.said.ensures c.args.out.now c.clear.new.out c.requires c.clear.ensures
    c.put_line-n.new.out c.put_line-n.result c.put_line-n.ensures c.if-said.true c.if-n-le-ROOM.true

pub returns-then-said : goal.returns-then-said
returns-then-said c =
    code-passes c.args.relation c.args.group c.args.constant c.args.p c.mark_of-mark.result c.strength_of.result c.figure_of-c.result c.figure_of-s.result
    c.mark_of-mark.ensures c.strength_of.ensures c.figure_of-c.ensures c.figure_of-s.ensures c.said.ensures c.args.out.now c.clear.new.out c.requires c.clear.ensures
    c.put_line-n.new.out c.put_line-n.result c.put_line-n.ensures c.if-said.true c.if-n-le-ROOM.false c.clear-then-said.new.out c.clear-then-said.ensures

pub returns : goal.returns
returns c =
    code-refuses c.args.relation c.args.group c.args.constant c.args.p c.mark_of-mark.result c.strength_of.result c.figure_of-c.result c.figure_of-s.result
    c.mark_of-mark.ensures c.strength_of.ensures c.figure_of-c.ensures c.figure_of-s.ensures c.said.ensures c.args.out.now c.clear.new.out c.requires c.clear.ensures c.if-said.false
