use Rattle.std.proofs.Common.{◌≡◌, refl, arith}
use Rattle.writing.specs.Given.{all_up_to, said-next}
use Rattle.writing.proofs.said.terms_said.Goals as goal

pub loop-i-init : goal.loop-i-init
unfolding all_up_to
loop-i-init c = refl

pub loop-i-preserved : goal.loop-i-preserved
loop-i-preserved c = said-next c.args.p.vars c.args.p.coefs c.args.n c.loop-i.i c.loop-i.invariant c.figure_of-f.ensures c.figure_said.ensures c.rises_at.ensures

pub returns : goal.returns
returns c =
    let e : c.loop-i.i ≡ c.args.n = omega arith in
    rw e at c.loop-i.invariant
