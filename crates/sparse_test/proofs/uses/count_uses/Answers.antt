use Prim.Native.Nat.{ℕ, ◌+◌}
use mathlib.Core.Path.{◌≡◌, refl}
use mathlib.Core.List.{List}
use native.Mathlib.Omega.{arith}
use lib.ListN.{get_or, set}
use Rattle.laws.specs.Loops.{run-next, run-last}
use Rattle.sparse.specs.Places.{most_terms}
use Rattle.sparse_test.specs.Tested.{tally, count_uses}
use Rattle.sparse_test.specs.Tally.{Most, one-most}
use Rattle.sparse_test.proofs.uses.count_uses.Goals as goal

counted : (l : List ℕ) {i x : ℕ} → i ≡ x → set l i (get_or l i 0 + 1) ≡ tally x l
unfolding tally
counted l e = rw e refl

more : (l : List ℕ) (i j : ℕ) → Most l (most_terms + j) → Most (set l i (get_or l i 0 + 1)) (most_terms + (j + 1))
unfolding tally
more l i j f p = let q = one-most l i (most_terms + j) f p in omega (arith, q)

pub loop-j-init : goal.loop-j-init
unfolding count_uses
loop-j-init c = (refl, λ p. let q = c.requires.most p in omega (arith, q))

pub overflow_add-counts : goal.overflow_add-counts
overflow_add-counts c = let q = c.loop-j.invariant.1 c.index_at-i.result in omega (arith, q)

pub loop-j-preserved : goal.loop-j-preserved
loop-j-preserved c = (run-next _ _ _ _ (omega arith) (counted _ c.index_at-i.ensures.value) c.loop-j.invariant.0, more c.loop-j.counts c.index_at-i.result c.loop-j.j c.loop-j.invariant.1)

pub returns : goal.returns
returns c = run-last _ _ _ _ (omega arith) c.loop-j.invariant.0
