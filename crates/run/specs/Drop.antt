-- A result, and what comes after it: what a drop of a group answers. Assumes nothing.
use Rattle.std.specs.Prelude.{◌≡◌, Bool, ℕ, suc, ◌+◌}
use Rattle.std.proofs.Math.Path.{refl, ap}
use Rattle.std.proofs.Common.{◌∙◌}
use Rattle.std.proofs.Math.Bool.{true, false}
use Rattle.std.proofs.Math.Dec.{eqb, eqb-suc-zero}
use Rattle.steps.specs.State.{State}
use Rattle.steps.specs.Calls.{Result, refused_by, onward, all_or_none}

-- ---- a result, and what comes after it

pub onward-refused : (r q : Result) (k : ℕ) → r.answer.number ≡ suc k → onward r q ≡ r
onward-refused r q k e = unfold onward in ap (λ (b : Bool). elim b as (λ _. Result) [ false ↦ r | true ↦ record { answer = record { number = q.answer.number; pivots = r.answer.pivots + q.answer.pivots; whole = q.answer.whole }; state = q.state } ]) (ap (λ (n : ℕ). eqb n 0) e ∙ eqb-suc-zero k)

pub onward-accepted : (r q : Result) → r.answer.number ≡ 0 → onward r q ≡ record { answer = record { number = q.answer.number; pivots = r.answer.pivots + q.answer.pivots; whole = q.answer.whole }; state = q.state }
onward-accepted r q e = unfold onward in ap (λ (n : ℕ). elim (eqb n 0) as (λ _. Result) [ false ↦ r | true ↦ record { answer = record { number = q.answer.number; pivots = r.answer.pivots + q.answer.pivots; whole = q.answer.whole }; state = q.state } ]) e

pub onward-whole : (r q : Result) → r.answer.number ≡ 0 → (onward r q).answer.whole ≡ q.answer.whole
onward-whole r q e = ap (λ (x : Result). x.answer.whole) (onward-accepted r q e)

pub onward-state : (r q : Result) → r.answer.number ≡ 0 → (onward r q).state ≡ q.state
onward-state r q e = ap (λ (x : Result). x.state) (onward-accepted r q e)

pub none-whole : (s : State) (r : Result) → (all_or_none s r).answer.whole ≡ r.answer.whole
unfolding all_or_none refused_by
none-whole s r = go (eqb r.answer.number 0)
  where
    go : (b : Bool) → (elim b as (λ _. Result) [ true ↦ r | false ↦ refused_by r.answer.number r.answer.pivots r.answer.whole s ]).answer.whole ≡ r.answer.whole
    go true = refl
    go false = refl
