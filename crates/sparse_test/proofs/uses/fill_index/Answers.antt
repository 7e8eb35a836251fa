use Prim.Native.Nat.{ℕ, suc, ◌+◌, ◌-◌, ◌≤◌, ◌<◌}
use mathlib.Core.Path.{◌≡◌, subst}
use mathlib.Core.List.{List}
use native.Mathlib.Omega.{arith}
use lib.ListN.{get_or, set}
use Rattle.sparse.specs.Places.{variable_places_at}
use Rattle.sparse_test.specs.Index.{IndexedFrom, index-none, index-more}
use Rattle.sparse_test.proofs.uses.fill_index.Goals as goal

before : (b : List ℕ) (v i : ℕ) {l : List ℕ} {w : ℕ} → 0 < i → i ≤ v → IndexedFrom l b v i → w ≡ get_or b (variable_places_at + (i - 1)) 0 → w ≤ 255 → IndexedFrom (set l w (i - 1)) b v (i - 1)
before b v i {l} h k f e g =
    let o : i ≡ suc (i - 1) = omega (arith, h) in
    index-more b v (i - 1) (omega (arith, h, k)) (subst (λ (z : ℕ). IndexedFrom l b v z) o f) e g

done : (b : List ℕ) (v i : ℕ) {l : List ℕ} → i ≤ 0 → IndexedFrom l b v i → IndexedFrom l b v 0
done b v i {l} h f =
    let o : i ≡ 0 = omega (arith, h) in
    subst (λ (z : ℕ). IndexedFrom l b v z) o f

pub loop-i-init : goal.loop-i-init
loop-i-init c = index-none _ _ c.requires.v_le_most_variables c.requires.index_value

pub loop-i-preserved : goal.loop-i-preserved
loop-i-preserved c = before _ _ _ (omega arith) (omega arith) c.loop-i.invariant c.from.ensures (omega arith)

pub returns : goal.returns
returns c = done _ _ _ (omega arith) c.loop-i.invariant
