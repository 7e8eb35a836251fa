-- What a pass of either rule is: turns, one after the other, while one is made and the budget lasts. Assumes nothing.
use Prim.Native.Nat.{ℕ, zero, suc, ◌+◌, ◌≤◌, ◌<◌}
use native.Mathlib.Omega.{arith}
use mathlib.Core.Path.{◌≡◌, refl, ap}
use mathlib.Core.Logic.{◌≢◌}
use mathlib.Core.Option.{Option, none, some}
use Rattle.steps.specs.Number.{Mark, all_whole, not_whole, not_finite}
use Rattle.steps.specs.Symbol.{Symbol}
use Rattle.steps.specs.Work.{Work, Outcome, refused, going, ◌>>=◌, refuse, check_finite, count_pivot}
use Rattle.steps.specs.Substitute.{pivot}
use Rattle.steps.specs.Optimise.{Choice, ended, stuck, pivot_on, choose_pivot, counted_pivot, optimise, choose_dual_pivot, dual_optimise}
use Rattle.steps.proofs.After.{pivot-after}
use Rattle.simplex.specs.bridge.Runs.{mark_of}
use Rattle.simplex.proofs.bridge.Runs.{counted-one, optimise-mark, dual-mark}
use Rattle.run.specs.stall.Stall.{Rule, optimising, dual, chosen, outcome_by, goes_on, turn, later, pivots_from, refusal_of}

-- a pivot that is made, or is refused for a number that is not finite
data Counted (l e : Symbol) (w : Work) : Outcome Work → Type 0 where
  made : Counted l e w (going (count_pivot (pivot l.id e w)))
  lost : (p : ℕ) → p ≡ w.pivots → (m : Mark) → m ≡ not_finite → Counted l e w (refused 13 p m)

counted : (l e : Symbol) (w : Work) → Counted l e w (counted_pivot l e w)
unfolding counted_pivot check_finite refuse ◌>>=◌
counted l e w = go (pivot l.id e w).mark refl
  where
    go : (m : Mark) → (pivot l.id e w).mark ≡ m
        → Counted l e w ((elim m [ all_whole ↦ going (pivot l.id e w) | not_whole ↦ going (pivot l.id e w) | not_finite ↦ refused 13 (pivot l.id e w).pivots (pivot l.id e w).mark ]) >>= λ v. going (count_pivot v))
    go all_whole q = made
    go not_whole q = made
    go not_finite q = lost (pivot l.id e w).pivots (pivot-after l.id e w).pivots (pivot l.id e w).mark q

-- ---- one turn, where one pivot at least is left: beside what `turn` finds, what the pass answers
pub data Step (left : ℕ) (r : Rule) (w : Work) : Option Work → Outcome Work → Type 0 where
  rests : Step left r w none (going w)
  stays : (n : ℕ) → n ≢ 14 → Step left r w none (refused n w.pivots w.mark)
  broken_write : (p : ℕ) → p ≡ w.pivots → (m : Mark) → m ≡ not_finite → Step left r w none (refused 13 p m)
  pivots : (l e : Symbol) → chosen r w ≡ pivot_on l e → Step left r w (some (count_pivot (pivot l.id e w))) (outcome_by r left (count_pivot (pivot l.id e w)))

pub step : (left : ℕ) (r : Rule) (w : Work) → Step left r w (turn r w) (outcome_by r (suc left) w)
unfolding turn outcome_by chosen goes_on optimise dual_optimise refuse ◌>>=◌
step left r w = by r
  where
    turned : (r : Rule) (l e : Symbol) → chosen r w ≡ pivot_on l e → (o : Outcome Work) → Counted l e w o → Step left r w (goes_on o) (o >>= λ v. outcome_by r left v)
    turned r l e q o made = pivots l e q
    turned r l e q o (lost p x m s) = broken_write p x m s

    go : (r : Rule) (n : ℕ) → n ≢ 14 → (c : Choice) → chosen r w ≡ c
        → Step left r w (elim c [ ended ↦ none | stuck ↦ none | pivot_on l e ↦ goes_on (counted_pivot l e w) ])
        (elim c [ ended ↦ going w | stuck ↦ refused n w.pivots w.mark | pivot_on l e ↦ counted_pivot l e w >>= λ v. outcome_by r left v ])
    go r n d ended q = rests
    go r n d stuck q = stays n d
    go r n d (pivot_on l e) q = turned r l e q (counted_pivot l e w) (counted l e w)

    by : (r : Rule) → Step left r w (turn r w) (outcome_by r (suc left) w)
    by (optimising g) = go (optimising g) 15 (λ e. omega (arith, e)) (choose_pivot g w) refl
    by dual = go dual 16 (λ e. omega (arith, e)) (choose_dual_pivot w) refl

-- and where none is left
pub data Last (w : Work) : Outcome Work → Type 0 where
  at_rest : Last w (going w)
  stands : (n : ℕ) → Last w (refused n w.pivots w.mark)

pub last : (r : Rule) (w : Work) → Last w (outcome_by r zero w)
unfolding outcome_by optimise dual_optimise refuse
last r w = by r
  where
    go : (n : ℕ) (c : Choice) → Last w (elim c [ ended ↦ going w | stuck ↦ refused n w.pivots w.mark | pivot_on l e ↦ refused 14 w.pivots w.mark ])
    go n ended = at_rest
    go n stuck = stands n
    go n (pivot_on l e) = stands 14

    by : (r : Rule) → Last w (outcome_by r zero w)
    by (optimising g) = go 15 (choose_pivot g w)
    by dual = go 16 (choose_dual_pivot w)

-- a mark that is whole at the end of a pass was so at its start
pub pass-mark : (r : Rule) (left : ℕ) (w : Work) → mark_of (outcome_by r left w) ≡ all_whole → w.mark ≡ all_whole
unfolding outcome_by
pass-mark (optimising g) left w = optimise-mark left g w
pass-mark dual left w = dual-mark left w

-- ---- the count
unfoldable pub pivots_at : Outcome Work → ℕ
pivots_at (refused n p m) = p
pivots_at (going w) = w.pivots

-- a pass counts the pivots that it makes
pub counts : (left : ℕ) (r : Rule) (w : Work) → pivots_at (outcome_by r left w) ≡ w.pivots + pivots_from left r w
unfolding pivots_at pivots_from
counts zero r w = go (outcome_by r zero w) (last r w)
  where
    go : (o : Outcome Work) → Last w o → pivots_at o ≡ w.pivots + 0
    go o at_rest = omega arith
    go o (stands n) = omega arith
counts (suc left) r w = go (turn r w) (outcome_by r (suc left) w) (step left r w) (counts left r)
  where
    go : (t : Option Work) (o : Outcome Work) → Step left r w t o → ((v : Work) → pivots_at (outcome_by r left v) ≡ v.pivots + pivots_from left r v)
        → pivots_at o ≡ w.pivots + elim t as (λ x. ℕ) [ none ↦ 0 | some v ↦ suc (pivots_from left r v) ]
    go t o rests ih = omega arith
    go t o (stays n d) ih = omega arith
    go t o (broken_write p q m s) ih = omega (arith, q)
    go t o (pivots l e q) ih = omega (arith, ih (count_pivot (pivot l.id e w)), counted-one l.id e w)

-- ---- the moments: one for the start, one for each pivot made
abbrev onward : ℕ → ℕ → Rule → Option Work → Option Work
onward i left r t = elim t [ none ↦ none | some v ↦ later i left r v ]

pub moments : (i left : ℕ) (r : Rule) (w : Work) → (i ≤ pivots_from left r w → (u : Work) × (later i left r w ≡ some u)) × (pivots_from left r w < i → later i left r w ≡ none)
unfolding later pivots_from
moments zero left r w = ((λ l. (w, refl)), (λ l. absurd (omega (arith, l))))
moments (suc i) zero r w = ((λ l. absurd (omega (arith, l))), (λ l. refl))
moments (suc i) (suc left) r w = go (turn r w) (moments i left r)
  where
    go : (t : Option Work) → ((v : Work) → (i ≤ pivots_from left r v → (u : Work) × (later i left r v ≡ some u)) × (pivots_from left r v < i → later i left r v ≡ none))
        → (suc i ≤ elim t as (λ x. ℕ) [ none ↦ 0 | some v ↦ suc (pivots_from left r v) ] → (u : Work) × (onward i left r t ≡ some u)) × (elim t as (λ x. ℕ) [ none ↦ 0 | some v ↦ suc (pivots_from left r v) ] < suc i → onward i left r t ≡ none)
    go none ih = ((λ l. absurd (omega (arith, l))), (λ l. refl))
    go (some v) ih = ((λ l. (ih v).0 (omega (arith, l))), (λ l. (ih v).1 (omega (arith, l))))

-- ---- 14 is given with every pivot of the budget made
pub all-used : (left : ℕ) (r : Rule) (w : Work) → refusal_of (outcome_by r left w) ≡ 14 → pivots_from left r w ≡ left
unfolding refusal_of pivots_from
all-used zero r w e = refl
all-used (suc left) r w e = go (turn r w) (outcome_by r (suc left) w) (step left r w) e (all-used left r)
  where
    go : (t : Option Work) (o : Outcome Work) → Step left r w t o → refusal_of o ≡ 14 → ((v : Work) → refusal_of (outcome_by r left v) ≡ 14 → pivots_from left r v ≡ left)
        → elim t as (λ x. ℕ) [ none ↦ 0 | some v ↦ suc (pivots_from left r v) ] ≡ suc left
    go t o rests e ih = absurd (omega (arith, e))
    go t o (stays n d) e ih = absurd (d e)
    go t o (broken_write p q m s) e ih = absurd (omega (arith, e))
    go t o (pivots l x q) e ih = ap suc (ih (count_pivot (pivot l.id x w)) e)
