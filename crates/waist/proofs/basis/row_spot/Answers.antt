use mathlib.Core.Path.{refl}
use native.Mathlib.Omega.{arith}
use borrow.Author.Tests.{le-ltb, lt-ltb}
use Rattle.laws.specs.Loops.{first-here, first_next, first-last}
use Rattle.waist.specs.Spots.{spot_of}
use Rattle.waist.proofs.basis.row_spot.Goals as goal

pub loop-i-init : goal.loop-i-init
unfolding spot_of
loop-i-init c = refl

pub returns-then-p-bytes : goal.returns-then-p-bytes
returns-then-p-bytes c = record { value = first-here _ _ _ _ _ (omega arith) (lt-ltb _ _ c.if-p-bytes.true) c.loop-i.invariant; lower_bound = omega arith; upper_bound = omega arith }

pub loop-i-preserved : goal.loop-i-preserved
loop-i-preserved c = first_next _ _ _ _ _ (omega arith) (le-ltb _ _ c.if-p-bytes.false) c.loop-i.invariant

pub returns : goal.returns
returns c = record { value = first-last _ _ _ _ _ (omega arith) c.loop-i.invariant; lower_bound = omega arith; upper_bound = omega arith }
