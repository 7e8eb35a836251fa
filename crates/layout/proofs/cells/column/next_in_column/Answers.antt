use mathlib.Core.Path.{refl}
use native.Mathlib.Omega.{arith}
use Rattle.laws.specs.Loops.{first_next, first-here, first-last}
use Rattle.layout.specs.cells.Cells.{next_in}
use Rattle.layout.specs.cells.Column.{named, unnamed}
use Rattle.layout.proofs.cells.column.next_in_column.Goals as goal

pub loop-r-init : goal.loop-r-init
loop-r-init c = refl

pub loop-r-preserved : goal.loop-r-preserved
unfolding next_in
loop-r-preserved c = first_next _ _ _ _ _ (omega arith) (unnamed _ _ _ c.if-keys-r.false) c.loop-r.invariant

pub returns-then-keys-r : goal.returns-then-keys-r
unfolding next_in
returns-then-keys-r c = record { value = first-here _ _ _ _ _ (omega arith) (named _ _ _ c.if-keys-r.true) c.loop-r.invariant; upper_bound = omega arith }

pub returns : goal.returns
unfolding next_in
returns c = record { value = first-last _ _ _ _ _ (omega arith) c.loop-r.invariant; upper_bound = omega arith }
