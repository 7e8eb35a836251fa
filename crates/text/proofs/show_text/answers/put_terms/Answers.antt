use Rattle.std.proofs.Common.{◌≡◌, sym, arith}
use Rattle.text.specs.Put.{put-none, put_then, put_as}
use Rattle.text.specs.show_text.Show.{terms_in, terms-next}
use Rattle.text.proofs.show_text.answers.put_terms.Goals as goal

pub loop-i-init : goal.loop-i-init
unfolding terms_in
loop-i-init c = (put-none c.args.out.now c.args.at, omega arith)

pub loop-i-preserved : goal.loop-i-preserved
loop-i-preserved c = (put_as (sym (terms-next c.loop-i.i _ _)) (put_then c.loop-i.invariant.0 c.put_term-next.ensures.put), omega arith)

pub returns : goal.returns
returns c =
    let e : c.loop-i.i ≡ c.args.n = omega arith in
    record { put = rw e at c.loop-i.invariant.0; upper_bound = omega arith }
