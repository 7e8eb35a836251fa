use mathlib.Core.Path.{refl}
use native.Mathlib.Omega.{arith}
use Rattle.layout.specs.cells.Column.{last-here, last-next, last-over}
use Rattle.layout.proofs.cells.column.last_in_column.Goals as goal

pub loop-r-init : goal.loop-r-init
loop-r-init c = refl

pub loop-r-preserved : goal.loop-r-preserved
loop-r-preserved c = last-next _ _ _ (omega arith) c.if-keys-r.false c.loop-r.invariant

pub returns-then-keys-r : goal.returns-then-keys-r
returns-then-keys-r c = record { value = last-here _ _ _ (omega arith) c.if-keys-r.true c.loop-r.invariant; upper_bound = omega arith }

pub returns : goal.returns
returns c = record { value = last-over _ _ _ (omega arith) c.loop-r.invariant; upper_bound = omega arith }
