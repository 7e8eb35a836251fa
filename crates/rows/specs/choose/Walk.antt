-- A walk along a list that is read out of a table is the look along the table's places: for the first element that passes a test, for the last,
-- and for the smallest ratio. Place i + 1 of the table has element i of the list.
-- Assumes nothing.
use Rattle.std.specs.Prelude.{◌≡◌, ℕ, zero, suc, ◌+◌, ◌-◌, ◌≤◌, Bool, true, false, cond, ◌&&◌, List, [], ◌∷◌, ◌++◌, Float}
use Rattle.std.proofs.Math.Path.{refl, sym, ap}
use Rattle.std.proofs.Common.{◌∙◌, add-zero}
use Rattle.std.proofs.Math.Option.{Option, none, some}
use native.Mathlib.Omega.{arith}
use Rattle.std.specs.Float.{nan, inf, fin}
use Rattle.std.specs.Float.Ieee.{lt}
use borrow.Author.Tests.{le-leb}
use Rattle.steps.specs.Number.{is_finite}
use Rattle.steps.specs.Symbol.{Symbol}
use Rattle.steps.specs.Optimise.{Candidate, better, smallest_from, smallest_ratio}
use Rattle.laws.specs.Loops.{turns, run, seek, first}
use Rattle.laws.specs.Lists.{tab}
use Rattle.rows.specs.choose.Back.{back}
use Rattle.rows.specs.choose.Choose.{on_found, Least, no_best, ratio_of, better_of, found_of, smallest_of}
use Rattle.rows.specs.choose.Choose.{Found}
use Rattle.std.specs.Prelude.{Some, None}
use Rattle.std.specs.Prelude.{Some, None}

-- ---- the first, and the last

module _ {R : Type 0} (p : ℕ → Bool) (g : ℕ → R) (d : R) where
  on-cond : (b : Bool) (i : ℕ) (f : Found) → on_found g d (cond b (Some i) f) ≡ cond b (g i) (on_found g d f)
  on-cond true i f = refl
  on-cond false i f = refl

  seek-walk : (look : ℕ → ℕ → R) → ((i : ℕ) → look i zero ≡ d) → ((i k : ℕ) → look i (suc k) ≡ cond (p (suc i)) (g (suc i)) (look (suc i) k))
      → (i k : ℕ) → look i k ≡ on_found g d (seek p Some None k (suc i))
  unfolding seek
  seek-walk look z s i zero = z i
  seek-walk look z s i (suc k) =
      s i k ∙ ap (λ (r : R). cond (p (suc i)) (g (suc i)) r) (seek-walk look z s (suc i) k) ∙ sym (on-cond (p (suc i)) (suc i) (seek p Some None k (suc (suc i))))

  -- `look i k` walks along elements i, i + 1, .., i + k - 1
  pub first_walk : (look : ℕ → ℕ → R) → ((i : ℕ) → look i zero ≡ d) → ((i k : ℕ) → look i (suc k) ≡ cond (p (suc i)) (g (suc i)) (look (suc i) k))
      → (k : ℕ) → look 0 k ≡ on_found g d (first p Some None 1 (1 + k))
  unfolding first
  first_walk look z s k =
      let n : 1 + k - 1 ≡ k = omega arith in
      rw n (seek-walk look z s 0 k)

  -- `look k` walks along the first k elements, the last first
  pub last-walk : (look : ℕ → R) → look zero ≡ d → ((k : ℕ) → look (suc k) ≡ cond (p (suc k)) (g (suc k)) (look k)) → (k : ℕ) → look k ≡ on_found g d (back p Some None k)
  unfolding back
  last-walk look z s zero = z
  last-walk look z s (suc k) =
      s k ∙ ap (λ (r : R). cond (p (suc k)) (g (suc k)) r) (last-walk look z s k) ∙ sym (on-cond (p (suc k)) (suc k) (back p Some None k))

module _ {A : Type 0} where
  -- the last element stands at the end
  pub tab-snoc : (g : ℕ → A) (i n : ℕ) → tab g i (suc n) ≡ tab g i n ++ (g (i + n) ∷ [])
  unfolding tab
  tab-snoc g i zero = rw (add-zero i) refl
  tab-snoc g i (suc n) =
      let e : suc i + n ≡ i + suc n = omega arith in
      ap (λ (r : List A). g i ∷ r) (tab-snoc g (suc i) n ∙ ap (λ (j : ℕ). tab g (suc i) n ++ (g j ∷ [])) e)

-- ---- the smallest ratio

between : (x : Float) → lt (inf true) x && lt x (inf false) ≡ is_finite x
unfolding lt is_finite
between nan = refl
between (inf true) = refl
between (inf false) = refl
between (fin s m e) = refl

below-finite : (x y : Float) → is_finite y ≡ true → lt (inf true) x && lt x y ≡ is_finite x && lt x y
unfolding lt is_finite
below-finite nan y h = refl
below-finite (inf true) y h = refl
below-finite (inf false) nan h = refl
below-finite (inf false) (inf t) h = refl
below-finite (inf false) (fin t n d) h = refl
below-finite (fin s m e) y h = refl

and_left : (a b : Bool) → a && b ≡ true → a ≡ true
and_left true b h = refl
and_left false b h = h

better-cond : (i : ℕ) (x : Float) (b : Least) (on : Bool) → better_of i on x b ≡ cond on (better_of i true x b) b
unfolding better_of
better-cond i x b true = refl
better-cond i x b false = refl

either : (P : Least → List Candidate → Type 0) {x y : Least} {l m : List Candidate} (v : Bool) → P x l → P y m → P (cond v x y) (cond v l m)
either P true a b = a
either P false a b = b

-- place i's candidate has the symbol s i and the ratio r i
module _ (s : ℕ → Symbol) (r : ℕ → Float) (n : ℕ) where
  abbrev candidate : ℕ → Candidate
  candidate i = record { symbol = s i; ratio = r i }

  -- the best so far, by its place, is the best so far
  abbrev Means : Least → Option Candidate → Type 0
  Means None none = Unit
  Means None (some c) = ⊥
  Means (Some b) none = ⊥
  Means (Some b) (some c) = (1 ≤ b.at) × (b.at ≤ n) × (c ≡ candidate b.at) × (b.ratio ≡ r b.at) × (is_finite b.ratio ≡ true)

  chosen : (u : Bool) {t : Bool} (b c : Least) (o q : Option Candidate) → t ≡ u → (u ≡ true → Means b o) → Means c q → Means (cond t b c) (cond u o q)
  chosen true b c o q e x y = rw e (x refl)
  chosen false b c o q e x y = rw e y

  step : (i : ℕ) (b : Least) (o : Option Candidate) → 1 ≤ i → i ≤ n → Means b o → Means (better_of i true (r i) b) (cond (better (candidate i) o) (some (candidate i)) o)
  unfolding ratio_of better_of better
  step i None none h k m = chosen (is_finite (r i)) (Some (record { at = i; ratio = r i })) None (some (candidate i)) none (between (r i)) (λ u. (h, k, refl, refl, u)) m
  step i None (some c) h k m = absurd m
  step i (Some b) none h k m = absurd m
  step i (Some b) (some c) h k m =
      let e : b.ratio ≡ c.ratio = m.3 ∙ sym (ap (λ (d : Candidate). d.ratio) m.2) in
      chosen (is_finite (r i) && lt (r i) c.ratio) (Some (record { at = i; ratio = r i })) (Some b) (some (candidate i)) (some c) (below-finite (r i) b.ratio m.4 ∙ ap (λ (y : Float). is_finite (r i) && lt (r i) y) e) (λ u. (h, k, refl, refl, and_left (is_finite (r i)) (lt (r i) c.ratio) u)) m

  -- `cands i k` are the candidates among elements i, i + 1, .., i + k - 1
  module _ (on : ℕ → Bool) (cands : ℕ → ℕ → List Candidate) (z : (i : ℕ) → cands i zero ≡ []) (q : (i k : ℕ) → cands i (suc k) ≡ cond (on (suc i)) (candidate (suc i) ∷ cands (suc i) k) (cands (suc i) k)) where
    abbrev turn : ℕ → Least → Least
    turn i b = better_of i (on i) (r i) b

    smallest : (i k : ℕ) (b : Least) (o : Option Candidate) → i + k ≤ n → Means b o → Means (turns turn k (suc i) b) (smallest_from o (cands i k))
    unfolding turns smallest_from
    smallest i zero b o h m = rw (z i) m
    smallest i (suc k) b o h m =
        let a = smallest (suc i) k (better_of (suc i) true (r (suc i)) b) (cond (better (candidate (suc i)) o) (some (candidate (suc i))) o) (omega arith) (step (suc i) b o (omega arith) (omega arith) m) in
        let d = smallest (suc i) k b o (omega arith) m in
        rw (q i k, better-cond (suc i) (r (suc i)) b (on (suc i))) (either (λ x l. Means (turns turn k (suc (suc i)) x) (smallest_from o l)) (on (suc i)) a d)

    ends : (b : Least) (o : Option Candidate) → Means b o → elim o [ none ↦ none | some c ↦ some c.symbol ] ≡ on_found (λ i. some (s i)) none (found_of n b)
    unfolding found_of
    ends None none m = refl
    ends None (some c) m = absurd m
    ends (Some b) none m = absurd m
    ends (Some b) (some c) m = rw (le-leb 1 b.at m.0, le-leb b.at n m.1, m.2)

    pub smallest-walk : smallest_ratio (cands 0 n) ≡ on_found (λ i. some (s i)) none (smallest_of on r n)
    unfolding smallest_ratio smallest_of run
    smallest-walk =
        let e : 1 + n - 1 ≡ n = omega arith in
        rw e (ends (turns turn n 1 no_best) (smallest_from none (cands 0 n)) (smallest 0 n no_best none (omega arith) tt))
