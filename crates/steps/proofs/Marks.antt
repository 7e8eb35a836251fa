-- The mark of an answer against the stored one. Assumes nothing.
use Prim.Native.Nat.{ℕ}
use native.Mathlib.Omega.{arith}
use mathlib.Core.Path.{◌≡◌, refl, ap, subst}
use mathlib.Core.Logic.{◌≢◌}
use mathlib.Core.Bool.{true, false, not}
use lib.Dec.{T}
use Rattle.steps.specs.Number.{says_whole}
use Rattle.steps.specs.State.{State}
use Rattle.steps.specs.Calls.{Result, finish, refused_by, accepted_as}
use Rattle.steps.specs.Changing.{Changing, made}
use Rattle.steps.proofs.After.{says-whole}
use Rattle.steps.proofs.Answered.{Answered, by_test, by_steps, accepts, answered}
use Rattle.steps.proofs.Numbers.{of_steps, test-number, step-number, steps-number}

-- "A refusal answers the stored mark, or no on 18 or if the steps taken weren't all whole.": a refusal before the steps, which is none of 12 to 17, answers the stored mark, and no pivot.
pub before-the-steps : (c : Changing) (s : State) → (made c s).answer.number ≢ 0 → T (not (of_steps (made c s).answer.number))
    → ((made c s).answer.whole ≡ s.whole) × ((made c s).answer.pivots ≡ 0)
unfolding refused_by accepted_as
before-the-steps c s = go (answered c s)
  where
    go : {r : Result} → Answered c s r → r.answer.number ≢ 0 → T (not (of_steps r.answer.number)) → (r.answer.whole ≡ s.whole) × (r.answer.pivots ≡ 0)
    go (by_test n e) h b = (refl, refl)
    go (by_steps n p m e x) h b = absurd (steps-number c n x.listed b)
    go (accepts v cs es e w k) h b = absurd (h refl)

-- "or no on 18 or if the steps taken weren't all whole": accepted or refused, in the steps or before them, an answer says yes only if the stored mark does.
pub yes-only-if-stored : (c : Changing) (s : State) → (made c s).answer.whole ≡ true → s.whole ≡ true
unfolding refused_by accepted_as
yes-only-if-stored c s = go (answered c s)
  where
    go : {r : Result} → Answered c s r → r.answer.whole ≡ true → s.whole ≡ true
    go (by_test n e) h = h
    go (by_steps n p m e x) h = x.mark (says-whole m h)
    go (accepts v cs es e w k) h = w.mark (says-whole v.mark h)

-- "Otherwise an accepted call stores no, until reset; a refused one answers no and stores nothing.": an accepted call stores the mark that it answers.
pub accepted-mark : (c : Changing) (s : State) → (made c s).answer.number ≡ 0 → (made c s).answer.whole ≡ (made c s).state.whole
unfolding refused_by accepted_as finish
accepted-mark c s = go (answered c s)
  where
    go : {r : Result} → Answered c s r → r.answer.number ≡ 0 → r.answer.whole ≡ r.state.whole
    go (by_test n e) h = absurd (omega (arith, h, (test-number c s n e).0))
    go (by_steps n p m e x) h = absurd (omega (arith, h, (step-number c n x.listed).0))
    go (accepts v cs es e w k) h = refl

-- a mark that is lost stays lost "until reset": the state that a call leaves has the mark only if the state before had it
pub lost-until-reset : (c : Changing) (s : State) → (made c s).state.whole ≡ true → s.whole ≡ true
unfolding refused_by accepted_as finish
lost-until-reset c s = go (answered c s)
  where
    go : {r : Result} → Answered c s r → r.state.whole ≡ true → s.whole ≡ true
    go (by_test n e) h = h
    go (by_steps n p m e x) h = h
    go (accepts v cs es e w k) h = w.mark (says-whole v.mark h)

-- a call that answers yes, accepted or refused, leaves a state whose mark is yes
pub yes-stays : (c : Changing) (s : State) → (made c s).answer.whole ≡ true → (made c s).state.whole ≡ true
unfolding refused_by accepted_as finish
yes-stays c s = go (answered c s)
  where
    go : {r : Result} → Answered c s r → r.answer.whole ≡ true → r.state.whole ≡ true
    go (by_test n e) h = h
    go (by_steps n p m e x) h = x.mark (says-whole m h)
    go (accepts v cs es e w k) h = h

-- 13: "a step writes a cell, a row constant or a factor not finite", and what is not finite is within no bound: 13 answers no.
pub not-finite-says-no : (c : Changing) (s : State) → (made c s).answer.number ≡ 13 → (made c s).answer.whole ≡ false
unfolding refused_by accepted_as says_whole
not-finite-says-no c s = go (answered c s)
  where
    go : {r : Result} → Answered c s r → r.answer.number ≡ 13 → r.answer.whole ≡ false
    go (by_test n e) h = absurd (subst (λ (k : ℕ). T (not (of_steps k))) h (test-number c s n e).1)
    go (by_steps n p m e x) h = ap says_whole (x.lost h)
    go (accepts v cs es e w k) h = absurd (omega (arith, h))
