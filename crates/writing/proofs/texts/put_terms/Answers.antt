use Rattle.std.proofs.Common.{◌≡◌, arith}
use Rattle.writing.specs.Buffer.{text-as, then, adds-nothing}
use Rattle.writing.specs.Texts.{up_to, next_place}
use Rattle.writing.proofs.texts.put_terms.Goals as goal

pub loop-i-init : goal.loop-i-init
unfolding up_to
loop-i-init c = adds-nothing _ _

pub loop-i-preserved : goal.loop-i-preserved
loop-i-preserved c = text-as (next_place _ _ c.loop-i.i c.figure_of-f.ensures) (then c.loop-i.invariant c.put_term-next.ensures)

pub returns : goal.returns
returns c =
    let e : c.loop-i.i ≡ c.args.n = omega arith in
    rw e at c.loop-i.invariant
