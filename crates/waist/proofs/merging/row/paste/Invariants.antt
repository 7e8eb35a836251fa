use Prim.Native.Nat.{◌+◌, ◌-◌}
use mathlib.Core.Path.{◌≡◌}
use lib.Ieee.{nan}
use lib.ListN.{get_or, set}
use Rattle.laws.specs.Loops.{run}
use Rattle.waist.specs.merging.Merge.{pasted}
use Rattle.waist.proofs.merging.row.paste.Given as goal

abbrev pub invariant-loop-j : goal.invariant-loop-j
invariant-loop-j l = (run (λ j xs. set xs (l.a + j) (get_or l.run.keys j 0)) l.j l.m l.keys ≡ pasted 0 l.a l.m l.run.keys l.initial.keys) × (run (λ j xs. set xs (l.a + j) (get_or l.run.vals j nan)) l.j l.m l.vals ≡ pasted nan l.a l.m l.run.vals l.initial.vals)
