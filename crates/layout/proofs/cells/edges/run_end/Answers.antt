use native.Mathlib.Omega.{arith}
use Rattle.layout.specs.cells.Edges.{upto-none, upto-more, ends, ends_last}
use Rattle.layout.proofs.cells.edges.run_end.Goals as goal

pub loop-r-init : goal.loop-r-init
loop-r-init c = upto-none _ _ _

pub returns-then-high-keys : goal.returns-then-high-keys
returns-then-high-keys c = ends _ _ _ _ _ (omega arith) (omega arith) (λ q. c.if-high-keys.true) c.loop-r.invariant

pub loop-r-preserved : goal.loop-r-preserved
loop-r-preserved c = upto-more _ _ _ _ (λ q. omega (arith, q)) c.loop-r.invariant

pub returns : goal.returns
returns c = ends_last _ _ _ _ _ (omega arith) (omega arith) c.requires.c_le_e c.loop-r.invariant
