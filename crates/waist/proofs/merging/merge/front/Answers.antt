use native.Mathlib.Omega.{arith}
use borrow.Author.Tests.{lt-ltb, le-ltb}
use Rattle.waist.specs.merging.Merge.{front_of}
use Rattle.waist.proofs.merging.merge.front.Goals as goal

pub returns-then-j-e : goal.returns-then-j-e
unfolding front_of
returns-then-j-e g c = record { value = rw (lt-ltb _ _ c.if-j-e.true); upper_bound = omega arith }

pub returns : goal.returns
unfolding front_of
returns g c = record { value = rw (le-ltb _ _ c.if-j-e.false); upper_bound = omega arith }
