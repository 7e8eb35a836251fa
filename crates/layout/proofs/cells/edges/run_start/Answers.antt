use Prim.Native.Nat.{◌+◌, ◌-◌}
use mathlib.Core.Path.{◌≡◌}
use native.Mathlib.Omega.{arith}
use Rattle.layout.specs.cells.Edges.{from-none, from_more, begins, begins-last}
use Rattle.layout.proofs.cells.edges.run_start.Goals as goal

pub loop-r-init : goal.loop-r-init
loop-r-init c = (from-none _ _ _, omega arith)

pub returns-then-keys-r : goal.returns-then-keys-r
returns-then-keys-r c =
    let o : c.loop-r.r - 1 + 1 ≡ c.loop-r.r = omega arith in
    rw o (begins _ _ _ _ _ c.loop-r.invariant.1 (omega arith) (λ q. c.if-keys-r.true) c.loop-r.invariant.0)

pub loop-r-preserved : goal.loop-r-preserved
loop-r-preserved c = (from_more _ _ _ _ (omega arith) (λ q. omega (arith, q)) c.loop-r.invariant.0, omega arith)

pub returns : goal.returns
returns c = begins-last _ _ _ _ _ c.loop-r.invariant.1 (omega arith) c.requires.a_le_c c.loop-r.invariant.0
