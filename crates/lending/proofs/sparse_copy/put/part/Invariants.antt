use Prim.Native.Nat.{◌+◌}
use mathlib.Core.Path.{◌≡◌}
use lib.ListN.{get_or}
use Rattle.laws.specs.Loops.{run}
use Rattle.layout.specs.Laying.{remade}
use Rattle.lending.specs.sparse_copy.Over.{put_part}
use Rattle.lending.proofs.sparse_copy.put.part.Given as goal

abbrev pub invariant-loop-i : goal.invariant-loop-i
invariant-loop-i g l = (d : g.row.T.Denot) → run (remade d (λ j _. get_or l.from j d)) l.i (l.a + l.n) l.to ≡ put_part d l.from l.a l.n l.initial.to
