use mathlib.Core.Path.{refl}
use native.Mathlib.Omega.{arith}
use borrow.Author.Tests.{lt-ltb, le-ltb}
use Rattle.laws.specs.Loops.{first_next, first-here, first-last}
use Rattle.fetches.specs.Telling.{gone_to}
use Rattle.fetches.proofs.listing.gone_to.Goals as goal

pub loop-j-init : goal.loop-j-init
unfolding gone_to
loop-j-init c = refl

pub returns-then-n-words : goal.returns-then-n-words
returns-then-n-words c = record { value = first-here _ _ _ c.loop-j.j _ (omega arith) (lt-ltb _ _ c.if-n-words.true) c.loop-j.invariant; lower_bound = omega arith; upper_bound = omega arith }

pub loop-j-preserved : goal.loop-j-preserved
loop-j-preserved c = first_next _ _ _ c.loop-j.j _ (omega arith) (le-ltb _ _ c.if-n-words.false) c.loop-j.invariant

pub returns : goal.returns
returns c = record { value = first-last _ _ _ c.loop-j.j _ (omega arith) c.loop-j.invariant; lower_bound = omega arith; upper_bound = omega arith }
