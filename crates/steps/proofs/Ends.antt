-- How a call's steps end: within its budget, with a mark no better than the stored one, with the stored cutoff, and refused only by a number that its steps give.
-- Assumes nothing.
use Prim.Native.Nat.{ℕ, zero, suc, ◌+◌, ◌-◌, ◌≤◌}
use native.Mathlib.Omega.{arith}
use mathlib.Core.Path.{◌≡◌, refl, ap, ◌∙◌}
use mathlib.Core.Bool.{Bool, true, not}
use mathlib.Core.List.{List}
use lib.Ieee.{Float}
use lib.Dec.{T, T_not, eqb, eqb_refl}
use Rattle.steps.specs.Number.{Mark, all_whole, not_whole, not_finite}
use Rattle.steps.specs.State.{Changes}
use Rattle.steps.specs.Work.{Work, Outcome, refused, going, ◌>>=◌, refuse, check_finite, count_pivot}
use Rattle.steps.specs.Substitute.{pivot}
use Rattle.steps.specs.Optimise.{Goal, Choice, ended, stuck, pivot_on, choose_pivot, counted_pivot, optimise, choose_dual_pivot, dual_optimise}
use Rattle.steps.specs.Tests.{member}
use Rattle.steps.proofs.Told.{Shed, shed-trans}
use Rattle.steps.proofs.After.{After, pivot-after}

-- what the steps of a call are held to: its budget, the stored mark, cutoff and changes, and the numbers by which they may refuse
pub record Bounds : Type 0 where
  pub budget : ℕ
  pub stored : Bool
  pub cutoff : Float
  pub changes : Changes
  pub numbers : List ℕ

-- n is one of the numbers
abbrev pub Gives : Bounds → ℕ → Type 0
Gives lim n = T (member n lim.numbers)

-- no more pivots than the budget, whole only if the stored mark is, the stored cutoff, and what was told stands
pub record Within (lim : Bounds) (w : Work) : Type 0 where
  pub spent : w.pivots ≤ lim.budget
  pub mark : w.mark ≡ all_whole → lim.stored ≡ true
  pub cutoff : w.tableau.cutoff ≡ lim.cutoff
  pub told : Shed lim.changes w.changes

-- a refusal of the steps: one of their numbers, no more pivots than the budget and all of it at 14, a mark that 13 has lost, and whole only if the stored one is
pub record Stopped (lim : Bounds) (n p : ℕ) (m : Mark) : Type 0 where
  pub listed : Gives lim n
  pub spent : p ≤ lim.budget
  pub used : n ≡ 14 → p ≡ lim.budget
  pub lost : n ≡ 13 → m ≡ not_finite
  pub mark : m ≡ all_whole → lim.stored ≡ true

-- the steps refuse so, or go on with P
pub data Ends {A : Type 0} (lim : Bounds) (P : A → Type 0) : Outcome A → Type 0 where
  stops : {n p : ℕ} {m : Mark} → Stopped lim n p m → Ends lim P (refused n p m)
  goes : {a : A} → P a → Ends lim P (going a)

-- a step that counts no pivot and betters no mark
pub within-after : {lim : Bounds} {w v : Work} → After w v → Within lim w → Within lim v
within-after a h = record { spent = rw a.pivots h.spent; mark = λ m. h.mark (a.mark m); cutoff = a.cutoff ∙ h.cutoff; told = shed-trans h.told a.told }

-- a number is not another one
other : (n i : ℕ) {X : Type 0} → T (not (eqb n i)) → n ≡ i → X
other n i d e = absurd (T_not (eqb n i) d (rw e (eqb_refl i)))

-- one step after another
pub bind : {lim : Bounds} {A B : Type 0} {P : A → Type 0} {Q : B → Type 0} {o : Outcome A} (f : A → Outcome B) → Ends lim P o → ((a : A) → P a → Ends lim Q (f a)) → Ends lim Q (o >>= f)
unfolding ◌>>=◌
bind f (stops h) k = stops h
bind f (goes {a = a} h) k = k a h

-- the same with less
weaken : {lim : Bounds} {A : Type 0} {P Q : A → Type 0} {o : Outcome A} → Ends lim P o → ((a : A) → P a → Q a) → Ends lim Q o
weaken (stops h) k = stops h
weaken (goes {a = a} h) k = goes (k a h)

-- a refusal that is neither 13 nor 14
pub refuses : {lim : Bounds} {A : Type 0} (P : A → Type 0) (n : ℕ) (w : Work) → T (not (eqb n 13)) → T (not (eqb n 14)) → Gives lim n → Within lim w → Ends lim P (refuse n w)
unfolding refuse
refuses P n w d d' g h = stops (record { listed = g; spent = h.spent; used = other n 14 d'; lost = other n 13 d; mark = h.mark })

-- 14, where nothing is left of the budget
used-up : {lim : Bounds} (w : Work) → Gives lim 14 → w.pivots + 0 ≡ lim.budget → Within lim w → Ends lim (Within lim) (refuse 14 w)
unfolding refuse
used-up w g b h = stops (record { listed = g; spent = h.spent; used = λ e. omega (arith, b); lost = other 14 13 tt; mark = h.mark })

-- 13, or the work that came
checks : {lim : Bounds} (w : Work) → Gives lim 13 → Within lim w → Ends lim (λ v. v ≡ w) (check_finite w)
unfolding check_finite refuse
checks {lim} w g h = go w.mark refl
  where
    go : (m : Mark) → w.mark ≡ m → Ends lim (λ v. v ≡ w) (elim m [ all_whole ↦ going w | not_whole ↦ going w | not_finite ↦ refuse 13 w ])
    go all_whole e = goes refl
    go not_whole e = goes refl
    go not_finite e = stops (record { listed = g; spent = h.spent; used = other 13 14 tt; lost = λ _. e; mark = h.mark })

-- 13, or a work within the bounds
pub checked : {lim : Bounds} (w : Work) → Gives lim 13 → Within lim w → Ends lim (Within lim) (check_finite w)
checked w g h = weaken (checks w g h) λ v e. rw e h

-- 13, or on with f
pub checks-then : {lim : Bounds} {B : Type 0} {Q : B → Type 0} (w : Work) (f : Work → Outcome B) → Gives lim 13 → Within lim w → Ends lim Q (f w) → Ends lim Q (check_finite w >>= f)
checks-then w f g h k = bind f (checks w g h) λ v e. rw e k

-- ---- the passes

-- a pivot made is one more
pivots-once : {lim : Bounds} (w v : Work) → After w v → Gives lim 13 → suc w.pivots ≤ lim.budget → Within lim w → Ends lim (λ x. Within lim x × (x.pivots ≡ suc w.pivots)) (check_finite v >>= λ x. going (count_pivot x))
unfolding count_pivot
pivots-once {lim} w v a g b h =
    let f : Within lim v = within-after a h in
    checks-then v (λ x. going (count_pivot x)) g f (goes (record { spent = rw a.pivots b; mark = f.mark; cutoff = f.cutoff; told = f.told }, ap suc a.pivots))

-- an optimise pass with all that is left of the budget: 13, 14, 15, or its end
pub optimises : {lim : Bounds} → Gives lim 13 → Gives lim 14 → Gives lim 15 → (left : ℕ) (goal : Goal) (w : Work) → w.pivots + left ≡ lim.budget → Within lim w → Ends lim (Within lim) (optimise left goal w)
unfolding optimise counted_pivot
optimises {lim} g13 g14 g15 zero goal w b h = go (choose_pivot goal w)
  where
    go : (c : Choice) → Ends lim (Within lim) (elim c [ ended ↦ going w | stuck ↦ refuse 15 w | pivot_on l e ↦ refuse 14 w ])
    go ended = goes h
    go stuck = refuses (Within lim) 15 w tt tt g15 h
    go (pivot_on l e) = used-up w g14 b h
optimises {lim} g13 g14 g15 (suc left) goal w b h = go (choose_pivot goal w) λ v p f. optimises g13 g14 g15 left goal v p f
  where
    go : (c : Choice) → ((v : Work) → v.pivots + left ≡ lim.budget → Within lim v → Ends lim (Within lim) (optimise left goal v))
        → Ends lim (Within lim) (elim c [ ended ↦ going w | stuck ↦ refuse 15 w | pivot_on l e ↦ counted_pivot l e w >>= λ v. optimise left goal v ])
    go ended on = goes h
    go stuck on = refuses (Within lim) 15 w tt tt g15 h
    go (pivot_on l e) on =
        bind (λ v. optimise left goal v) (pivots-once w (pivot l.id e w) (pivot-after l.id e w) g13 (omega (arith, b)) h)
        (λ v f. on v (omega (arith, b, f.1)) f.0)

-- a dual pass: 13, 14, 16, or its end
pub dual_optimises : {lim : Bounds} → Gives lim 13 → Gives lim 14 → Gives lim 16 → (left : ℕ) (w : Work) → w.pivots + left ≡ lim.budget → Within lim w → Ends lim (Within lim) (dual_optimise left w)
unfolding dual_optimise counted_pivot
dual_optimises {lim} g13 g14 g16 zero w b h = go (choose_dual_pivot w)
  where
    go : (c : Choice) → Ends lim (Within lim) (elim c [ ended ↦ going w | stuck ↦ refuse 16 w | pivot_on l e ↦ refuse 14 w ])
    go ended = goes h
    go stuck = refuses (Within lim) 16 w tt tt g16 h
    go (pivot_on l e) = used-up w g14 b h
dual_optimises {lim} g13 g14 g16 (suc left) w b h = go (choose_dual_pivot w) λ v p f. dual_optimises g13 g14 g16 left v p f
  where
    go : (c : Choice) → ((v : Work) → v.pivots + left ≡ lim.budget → Within lim v → Ends lim (Within lim) (dual_optimise left v))
        → Ends lim (Within lim) (elim c [ ended ↦ going w | stuck ↦ refuse 16 w | pivot_on l e ↦ counted_pivot l e w >>= λ v. dual_optimise left v ])
    go ended on = goes h
    go stuck on = refuses (Within lim) 16 w tt tt g16 h
    go (pivot_on l e) on =
        bind (λ v. dual_optimise left v) (pivots-once w (pivot l.id e w) (pivot-after l.id e w) g13 (omega (arith, b)) h)
        (λ v f. on v (omega (arith, b, f.1)) f.0)

-- the pass that a call makes with what is left of its budget
pub passes : {lim : Bounds} → Gives lim 13 → Gives lim 14 → Gives lim 15 → (goal : Goal) (w : Work) → Within lim w → Ends lim (Within lim) (optimise (lim.budget - w.pivots) goal w)
passes {lim} g13 g14 g15 goal w h = optimises g13 g14 g15 (lim.budget - w.pivots) goal w (omega (arith, h.spent)) h
