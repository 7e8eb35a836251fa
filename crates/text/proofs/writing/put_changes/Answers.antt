use Rattle.std.proofs.Common.{◌≡◌, arith}
use Rattle.text.specs.Answers.{wrote-entries, wrote-entry, entries-room}
use Rattle.text.proofs.writing.put_changes.Goals as goal

pub loop-i-init : goal.loop-i-init
loop-i-init c = wrote-entries c.args.out.now c.args.at c.args.numbers.now c.args.values.now c.args.gone.now

pub put_change-next-requires : goal.put_change-next-requires
put_change-next-requires c = entries-room c.args.out.now c.args.at c.args.numbers.now c.args.values.now c.args.gone.now c.loop-i.out c.loop-i.next c.loop-i.i c.args.count c.requires.count_in_bounds (omega arith) c.loop-i.invariant

pub loop-i-preserved : goal.loop-i-preserved
loop-i-preserved c = wrote-entry c.args.out.now c.args.at c.args.numbers.now c.args.values.now c.args.gone.now c.loop-i.out c.put_change-next.new.out c.loop-i.next c.put_change-next.result c.loop-i.i c.loop-i.invariant c.put_change-next.ensures

pub returns : goal.returns
returns c =
    let e : c.loop-i.i ≡ c.args.count = omega arith in
    rw e at c.loop-i.invariant
