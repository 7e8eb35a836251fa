use Rattle.std.proofs.Common.{ℕ, ◌≡◌, ◌≤◌, refl, ap, subst, ◌&&◌, ◌+◌, List, get_or}
use native.Mathlib.Omega.{arith}
use lib.Ieee.{nan, of_bits}
use Rattle.steps.specs.Number.{zero64}
use Rattle.steps.specs.Symbol.{absent}
use Rattle.laws.specs.Lists.{all_on, all-next, all-last}
use Rattle.sparse.specs.Places.{objective_at}
use Rattle.sparse_test.specs.Tested.{costs_fit}
use Rattle.sparse_test.specs.Open.{Opened, one-shut}
use Rattle.sparse_test.proofs.tableau.shut_basics.Goals as goal

done : (b : List ℕ) (k r i : ℕ) {l : List ℕ} → i ≤ r → r ≤ i → Opened l b k i → Opened l b k r
done b k r i {l} h g f =
    let o : i ≡ r = omega (arith, h, g) in
    subst (λ (z : ℕ). Opened l b k z) o f

pub loop-i-init : goal.loop-i-init
unfolding all_on costs_fit
loop-i-init c = (c.requires.opened, refl)

pub loop-i-preserved : goal.loop-i-preserved
unfolding absent zero64 of_bits
loop-i-preserved c = (one-shut _ _ _ c.loop-i.invariant.0 c.from-p.ensures (omega arith), all-next _ _ _ _ (omega arith) (ap (λ (p : ℕ). c.loop-i.ok && absent (get_or c.args.reals.now (objective_at + p) nan)) c.from-p.ensures) c.loop-i.invariant.1)

pub returns : goal.returns
returns c = record { opened_2 = done _ _ _ _ (omega arith) (omega arith) c.loop-i.invariant.0; value = all-last _ _ _ _ (omega arith) c.loop-i.invariant.1 }
