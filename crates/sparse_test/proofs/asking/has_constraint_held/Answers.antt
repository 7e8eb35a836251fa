use Rattle.sparse.specs.Tables.{lent}
use Prim.Native.Nat.{ℕ}
use mathlib.Core.Path.{sym, ap, ◌∙◌}
use native.Mathlib.Omega.{arith}
use lib.Dec.{ltb}
use Rattle.sparse.specs.Sparse.{constraint_count}
use Rattle.sparse_test.specs.Meaning.{reads-form}
use Rattle.sparse_test.specs.Meant.{reads-constraints}
use Rattle.sparse_test.specs.Asked.{has-constraint}
use Rattle.sparse_test.proofs.asking.has_constraint_held.Goals as goal

pub look_up-requires : goal.look_up-requires
look_up-requires c =
    let q = (reads-form _ c.requires).counts.constraints in
    record { n_bound = omega (arith, q); ascends = reads-constraints _ c.requires }

pub returns : goal.returns
returns c =
    let t = lent c.args.tables.now in
    ap (λ (z : ℕ). ltb z (constraint_count t)) c.look_up.ensures.value ∙ sym (has-constraint t c.args.n)
