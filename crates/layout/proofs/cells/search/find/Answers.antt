use Prim.Native.Nat.{◌≤◌}
use native.Mathlib.Omega.{arith}
use Rattle.std.specs.Prelude.{ltb, length}
use Rattle.std.proofs.Common.{rules}
use Rattle.std.proofs.Math.Seq.{length-take-le}
use Rattle.std.proofs.lemmas.List.Sorted.{IsPartitionPoint-from_clause}
use Rattle.layout.specs.cells.Search.{parted, point-is}
use Rattle.layout.proofs.cells.search.find.Goals as goal

pub returns : goal.returns
returns c =
    let k : c.args.n ≤ length c.args.keys.now = omega arith in
    let b : c.partition_point.result ≤ c.args.n = omega (arith, length-take-le c.args.n c.args.keys.now k, c.partition_point.ensures.bound) in
    let h = IsPartitionPoint-from_clause (λ y. ltb y c.args.x) _ _ c.partition_point.ensures.partitioned (parted _ _ _ k c.requires.ascending) (λ a r f' e. search (rules, e)) in
    record { value = point-is _ _ _ k b h.0 h.1; upper_bound = b }
