use Rattle.std.proofs.Common.{ℕ, ◌+◌, ap, arith}
use Rattle.laws.specs.Lists.{sum-start, sum-next, sum-last}
use Rattle.rows.specs.places.Marked.{marked, hits_in}
use Rattle.rows.proofs.places.row_hits.Goals as goal

pub loop-j-init : goal.loop-j-init
unfolding hits_in
loop-j-init c = (sum-start _ _ _, omega arith)

pub loop-j-preserved : goal.loop-j-preserved
loop-j-preserved c = (
  sum-next _ _ _ _ (omega arith) (ap (λ (n : ℕ). c.loop-j.hits + n) (c.cell_hit-hits.ensures.hits (marked c.args.marks.now c.loop-j.j) (c.requires.marks c.loop-j.j (omega arith)))) c.loop-j.invariant.0,
  omega arith,
)

pub returns : goal.returns
returns c = sum-last _ _ _ _ (omega arith) c.loop-j.invariant.0
