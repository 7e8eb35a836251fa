use mathlib.Core.Path.{refl}
use native.Mathlib.Omega.{arith}
use lib.ListN.{length-set}
use lib.Ieee.{nan}
use Rattle.layout.specs.cells.Slide.{up_next, up-last}
use Rattle.std.proofs.Common.{rules}
use Rattle.layout.proofs.cells.slide.slide_up.Goals as goal

pub loop-j-init : goal.loop-j-init
loop-j-init c = (refl, refl, search rules, search rules, search rules, search rules)

pub loop-j-preserved : goal.loop-j-preserved
loop-j-preserved c = (up_next _ _ _ _ 0 (omega arith) (omega arith) c.loop-j.invariant.0, up_next _ _ _ _ nan (omega arith) (omega arith) c.loop-j.invariant.1, simp length-set (omega arith), simp length-set (omega arith), omega arith, omega arith)

pub returns : goal.returns
returns c = record { keys_after = up-last _ _ _ _ (omega arith) c.loop-j.invariant.0; vals_after = up-last _ _ _ _ (omega arith) c.loop-j.invariant.1 }
