-- Keys whose neighbours ascend, ascend; and a loaded row reads as the row.
-- Assumes nothing.
use Rattle.std.specs.Prelude.{ℕ, zero, suc, ◌+◌, ◌-◌, ◌*◌, ◌≤◌, ◌<◌, ◌≡◌, refl, Bool, true, false, ◌&&◌, not, List, ltb, Float, length, get_or}
use Rattle.std.proofs.Common.{subst, add-zero, arith, ltb-true}
use Rattle.std.specs.Float.{nan}
use Rattle.std.specs.Float.Ieee.{eq, ne}
use Rattle.laws.specs.Loops.{map_in}
use Rattle.laws.specs.Lists.{tab, all_from, all_in}
use Rattle.laws.specs.Places.{map_in-at, length-map_in}
use Rattle.steps.specs.Number.{zero64}
use Rattle.layout.specs.cells.Names.{row_span}
use Rattle.steps.specs.Symbol.{absent}
use Rattle.layout.specs.cells.Cells.{Ascending, Narrow, lower_in, row_of, expanded, ascends_of, loaded, Present, present_of}
use Rattle.layout.specs.cells.Seek.{clash}
use Rattle.layout.specs.cells.Reads.{expand-reads}
use Rattle.layout.specs.cells.Replace.{row-run}

-- ---- the test
both_left : (a b : Bool) → a && b ≡ true → a ≡ true
both_left true b h = refl
both_left false b h = h

both_right : (a b : Bool) → a && b ≡ true → b ≡ true
both_right true b h = h
both_right false b h = absurd (clash h refl)

all-at : (p : ℕ → Bool) (n i : ℕ) → all_from p i n ≡ true → (j : ℕ) → j < n → p (i + j) ≡ true
unfolding all_from
all-at p zero i h j l = absurd (omega arith)
all-at p (suc n) i h zero l = rw (add-zero i) (both_left (p i) (all_from p (suc i) n) h)
all-at p (suc n) i h (suc j) l =
    let e : suc i + j ≡ i + suc j = omega arith in
    subst (λ (z : ℕ). p z ≡ true) e (all-at p n (suc i) (both_right (p i) (all_from p (suc i) n) h) j (omega arith))

steps : (keys : List ℕ) (n : ℕ) → ((j : ℕ) → suc j < n → get_or keys j 0 < get_or keys (suc j) 0) → (a d : ℕ) → a + suc d < n → get_or keys a 0 < get_or keys (a + suc d) 0
steps keys n f a zero h =
    let e : suc a ≡ a + 1 = omega arith in
    subst (λ (z : ℕ). get_or keys a 0 < get_or keys z 0) e (f a (omega arith))
steps keys n f a (suc d) h =
    let u = steps keys n f a d (omega arith) in
    let v = f (a + suc d) (omega arith) in
    let e : suc (a + suc d) ≡ a + suc (suc d) = omega arith in
    subst (λ (z : ℕ). get_or keys a 0 < get_or keys z 0) e (omega (arith, u, v))

pub ascends-true : (keys : List ℕ) (n : ℕ) → ascends_of keys n ≡ true → Ascending keys n
unfolding ascends_of all_in Ascending
ascends-true keys n h a b l k =
    let e : a + suc (b - suc a) ≡ b = omega arith in
    subst (λ (z : ℕ). get_or keys a 0 < get_or keys z 0) e (steps keys n next a (b - suc a) (omega arith))
  where
    next : (j : ℕ) → suc j < n → get_or keys j 0 < get_or keys (suc j) 0
    next j u =
        let t = all-at (λ i. ltb (get_or keys (i - 1) 0) (get_or keys i 0)) (n - 1) 1 h j (omega arith) in
        let e : 1 + j ≡ suc j = omega arith in
        let o : suc j - 1 ≡ j = omega arith in
        ltb-true (get_or keys j 0) (get_or keys (suc j) 0) (rw (e, o) at t)

pub present-true : (vals : List Float) (n : ℕ) → present_of vals n ≡ true → Present vals n
unfolding present_of all_in Present absent ne
present-true vals n h t l =
    let e : 0 + t ≡ t = omega arith in
    let q : not (eq (get_or vals (0 + t) nan) zero64) ≡ true = all-at (λ j. ne (get_or vals j nan) zero64) (n - 0) 0 h t (omega (arith, l)) in
    off (eq (get_or vals t nan) zero64) (rw e at q)
  where
    off : (b : Bool) → not b ≡ true → b ≡ false
    off true h = absurd (clash h refl)
    off false h = refl

-- ---- the load
pub narrow-part : (keys : List ℕ) (w n a e : ℕ) → Narrow keys w 0 n → e ≤ n → Narrow keys w a e
unfolding Narrow
narrow-part keys w n a e f h j u v = f j (omega arith) (omega arith)

pub loaded-is : (n i k : ℕ) (keys : List ℕ) (vals row : List Float) (a e : ℕ) (z : List Float) {r : List Float}
    → a ≡ lower_in keys (i * row_span) 0 n → e ≡ lower_in keys (i * row_span + row_span) 0 n → z ≡ map_in (λ _. zero64) 1 (k + 1) row → r ≡ expanded keys vals a e z → r ≡ loaded n i k keys vals row
unfolding loaded
loaded-is n i k keys vals row a e z h₁ h₂ h₃ h₄ = rw (h₄, h₃, h₂, h₁)

pub loaded-reads : (n i k : ℕ) (keys : List ℕ) (vals row : List Float) → Ascending keys n → k < row_span → k < length row → tab (λ p. get_or (loaded n i k keys vals row) p nan) 1 k ≡ row_of keys vals n k i
unfolding loaded
loaded-reads n i k keys vals row up h l =
    expand-reads keys vals (map_in (λ _. zero64) 1 (k + 1) row) n k i (lower_in keys (i * row_span) 0 n) (lower_in keys (i * row_span + row_span) 0 n) up (row-run keys n i refl refl) h (rw (length-map_in (λ (_ : Float). zero64) 1 (k + 1) row) l) λ p u v.
    map_in-at (λ _. zero64) 1 (k + 1) row p nan u (omega arith) (omega arith)
