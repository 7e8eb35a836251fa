-- Which numbers a call answers, and when. Assumes nothing.
use Prim.Native.Nat.{ℕ, ◌≤◌}
use mathlib.Core.Path.{◌≡◌, refl, sym, ap, ◌∙◌, subst}
use mathlib.Core.Logic.{◌≢◌}
use mathlib.Core.Bool.{Bool, true, false, not, ◌&&◌, ◌||◌}
use mathlib.Core.List.{List, [], ◌∷◌, ◌++◌, map}
use mathlib.Core.Option.{none, some, some-injective, none-ne-some}
use lib.Dec.{T, T_not, leb, leb→le, le→leb, eqb, eqb→eq, eqb_refl}
use lib.Ieee.Fits.{and_i}
use Rattle.steps.specs.State.{State}
use Rattle.steps.specs.Tests.{Test, first_refusal, add_tests, add_edit_tests, remove_tests, remove_edit_tests, drop_tests, member}
use Rattle.steps.specs.Calls.{Result, refused_by, accepted_as}
use Rattle.steps.specs.Changing.{Changing, adds, removes, drops, adds_edit, removes_edit, suggests, made, tests, test_numbers, step_numbers}
use Rattle.steps.proofs.Answered.{Answered, by_test, by_steps, accepts, answered}

-- ---- lists of numbers

-- every number of the list passes
every : (ℕ → Bool) → List ℕ → Bool
every q [] = true
every q (x ∷ xs) = q x && every q xs

-- what every number of a list passes, a member does
listed : (q : ℕ → Bool) (n : ℕ) (ns : List ℕ) → T (every q ns) → T (member n ns) → T (q n)
unfolding every member
listed q n [] a m = absurd m
listed q n (x ∷ xs) a m = go (q x) refl a (eqb n x) refl m (listed q n xs)
  where
    go : (p : Bool) → q x ≡ p → T (p && every q xs) → (b : Bool) → eqb n x ≡ b → T (b || member n xs) → (T (every q xs) → T (member n xs) → T (q n)) → T (q n)
    go false e a b f m on = absurd a
    go true e a true f m on = rw (eqb→eq n x (rw f tt), e) tt
    go true e a false f m on = on a m

-- a member of a list lies where all of it does
between : (low high n : ℕ) (ns : List ℕ) → T (every (leb low) ns) × T (every (λ k. leb k high) ns) → T (member n ns) → (low ≤ n) × (n ≤ high)
between low high n ns a m = (leb→le low n (listed (leb low) n ns a.0 m), leb→le n high (listed (λ k. leb k high) n ns a.1 m))

-- a member of one list, the first or the second, is a member of the two
either : (n : ℕ) (xs ys : List ℕ) → T (member n xs) → T (member n (xs ++ ys))
unfolding member
either n [] ys m = absurd m
either n (x ∷ xs) ys m = go (eqb n x) m (either n xs ys)
  where
    go : (b : Bool) → T (b || member n xs) → (T (member n xs) → T (member n (xs ++ ys))) → T (b || member n (xs ++ ys))
    go true m on = tt
    go false m on = on m

or-either : (n : ℕ) (xs ys : List ℕ) → T (member n ys) → T (member n (xs ++ ys))
unfolding member
or-either n [] ys m = m
or-either n (x ∷ xs) ys m = go (eqb n x) (or-either n xs ys m)
  where
    go : (b : Bool) → T (member n (xs ++ ys)) → T (b || member n (xs ++ ys))
    go true m = tt
    go false m = m

-- ---- the numbers of the tests

-- they are the same whatever comes in
tests-numbers : (c : Changing) (s : State) → map (λ (t : Test). t.number) (tests c s) ≡ test_numbers c
unfolding add_tests add_edit_tests remove_tests remove_edit_tests drop_tests
tests-numbers (adds g n ts k r b) s = refl
tests-numbers (removes n b) s = refl
tests-numbers (drops g b) s = refl
tests-numbers (adds_edit n k b) s = refl
tests-numbers (removes_edit n b) s = refl
tests-numbers (suggests n x b) s = refl

-- a first refusal is one of the numbers tested
first-listed : (n : ℕ) (ts : List Test) → first_refusal ts ≡ some n → T (member n (map (λ (t : Test). t.number) ts))
unfolding first_refusal member
first-listed n [] e = absurd (none-ne-some n e)
first-listed n (t ∷ ts) e = go t.fails e (first-listed n ts) (eqb n t.number) refl
  where
    go : (f : Bool) → elim f [ true ↦ some t.number | false ↦ first_refusal ts ] ≡ some n → (first_refusal ts ≡ some n → T (member n (map (λ (t : Test). t.number) ts)))
        → (b : Bool) → eqb n t.number ≡ b → T (b || member n (map (λ (t : Test). t.number) ts))
    go f e on true q = tt
    go true e on false q = absurd (subst T q (subst (λ (x : ℕ). T (eqb n x)) (sym (some-injective t.number n e)) (eqb_refl n)))
    go false e on false q = on e

-- of a call too
pub test-listed : (c : Changing) (s : State) (n : ℕ) → first_refusal (tests c s) ≡ some n → T (member n (test_numbers c))
test-listed c s n e = subst (λ (ns : List ℕ). T (member n ns)) (tests-numbers c s) (first-listed n (tests c s) e)

-- 12 to 17, which the steps alone give
abbrev pub of_steps : ℕ → Bool
of_steps n = leb 12 n && leb n 17

-- the tests' numbers are others, and not 0
pub test-number : (c : Changing) (s : State) (n : ℕ) → first_refusal (tests c s) ≡ some n → (1 ≤ n) × T (not (of_steps n))
unfolding every
test-number c s n e = (leb→le 1 n (listed (leb 1) n (test_numbers c) (go c).0 (test-listed c s n e)), listed (λ k. not (of_steps k)) n (test_numbers c) (go c).1 (test-listed c s n e))
  where
    go : (c : Changing) → T (every (leb 1) (test_numbers c)) × T (every (λ k. not (of_steps k)) (test_numbers c))
    go (adds g n ts k r b) = (tt, tt)
    go (removes n b) = (tt, tt)
    go (drops g b) = (tt, tt)
    go (adds_edit n k b) = (tt, tt)
    go (removes_edit n b) = (tt, tt)
    go (suggests n x b) = (tt, tt)

-- the steps' are 12 to 17
pub step-number : (c : Changing) (n : ℕ) → T (member n (step_numbers c)) → (12 ≤ n) × (n ≤ 17)
unfolding every
step-number c n m = between 12 17 n (step_numbers c) (go c) m
  where
    go : (c : Changing) → T (every (leb 12) (step_numbers c)) × T (every (λ k. leb k 17) (step_numbers c))
    go (adds g n ts k r b) = (tt, tt)
    go (removes n b) = (tt, tt)
    go (drops g b) = (tt, tt)
    go (adds_edit n k b) = (tt, tt)
    go (removes_edit n b) = (tt, tt)
    go (suggests n x b) = (tt, tt)

-- ---- the answers

-- "Tested in this order.": the first test that fails gives its number, with no pivot and the stored mark, and the state stays.
pub refused-by-test : (c : Changing) (s : State) (n : ℕ) → first_refusal (tests c s) ≡ some n → made c s ≡ refused_by n 0 s.whole s
refused-by-test c s n t = go (answered c s)
  where
    go : {r : Result} → Answered c s r → r ≡ refused_by n 0 s.whole s
    go (by_test k e) = ap (λ (i : ℕ). refused_by i 0 s.whole s) (some-injective k n (sym e ∙ t))
    go (by_steps k p m e x) = absurd (none-ne-some n (sym e ∙ t))
    go (accepts v cs es e w k) = absurd (none-ne-some n (sym e ∙ t))

-- a number of the steps is one of 12 to 17
pub steps-number : (c : Changing) (n : ℕ) → T (member n (step_numbers c)) → T (not (of_steps n)) → ⊥
steps-number c n m o = let b = step-number c n m in T_not (of_steps n) o (and_i (leb 12 n) (leb n 17) (le→leb 12 n b.0) (le→leb n 17 b.1))

-- "given exactly if": 1 to 11 and 25 to 27 are given only by a test that is the first to fail.
pub given-by-test : (c : Changing) (s : State) → (made c s).answer.number ≢ 0 → T (not (of_steps (made c s).answer.number)) → first_refusal (tests c s) ≡ some (made c s).answer.number
unfolding refused_by accepted_as
given-by-test c s = go (answered c s)
  where
    go : {r : Result} → Answered c s r → r.answer.number ≢ 0 → T (not (of_steps r.answer.number)) → first_refusal (tests c s) ≡ some r.answer.number
    go (by_test n e) h b = e
    go (by_steps n p m e x) h b = absurd (steps-number c n x.listed b)
    go (accepts v cs es e w k) h b = absurd (h refl)

-- "Then steps; 12 to 17 come from the first step that meets one.": if no test fails, the call is accepted, or refused by a number of its steps.
pub past-the-tests : (c : Changing) (s : State) → first_refusal (tests c s) ≡ none → T (member (made c s).answer.number (0 ∷ step_numbers c))
unfolding refused_by accepted_as member
past-the-tests c s t = go (answered c s)
  where
    go : {r : Result} → Answered c s r → T (member r.answer.number (0 ∷ step_numbers c))
    go (by_test k e) = absurd (none-ne-some k (sym t ∙ e))
    go (by_steps k p m e x) = or-either k (0 ∷ []) (step_numbers c) x.listed
    go (accepts v cs es e w k) = tt

-- a call's number is 0, one of its tests' or one of its steps'
pub number-listed : (c : Changing) (s : State) → T (member (made c s).answer.number (0 ∷ test_numbers c ++ step_numbers c))
unfolding refused_by accepted_as member
number-listed c s = go (answered c s)
  where
    go : {r : Result} → Answered c s r → T (member r.answer.number (0 ∷ test_numbers c ++ step_numbers c))
    go (by_test n e) = or-either n (0 ∷ []) (test_numbers c ++ step_numbers c) (either n (test_numbers c) (step_numbers c) (test-listed c s n e))
    go (by_steps n p m e x) = or-either n (0 ∷ []) (test_numbers c ++ step_numbers c) (or-either n (test_numbers c) (step_numbers c) x.listed)
    go (accepts v cs es e w k) = tt
