-- The cutoff: reset takes one in its range and refuses any other, no call but a reset changes it, and it lies between 0 and 1. Assumes nothing.
use Prim.Native.Nat.{ℕ, zero, suc, ◌*◌, ◌≤◌, ◌<◌}
use native.Mathlib.Nat.{mul-pos, zero-lt-suc, zero-mul}
use native.Mathlib.Omega.{arith}
use mathlib.Core.Path.{◌≡◌, refl, sym, ap, subst}
use mathlib.Core.Bool.{Bool, true, false}
use lib.Dec.{T, ltb, ltb→lt, lt→ltb}
use lib.IntN.{ℤ}
use lib.Ieee.{Float, nan, inf, fin, up, down, lt, le, eq, of_bits}
use lib.Ieee.Fits.{up_pos, down_pos, and_l, and_r}
use lib.Ieee.Positive.{le→cross}
use Rattle.steps.specs.Number.{zero64, one64, greatest_cutoff, magnitude, near_zero, cutoff_fits}
use Rattle.steps.specs.State.{State}
use Rattle.steps.specs.Changes.{fetch_changes}
use Rattle.steps.specs.Calls.{Result, empty, reset, finish, refused_by, accepted_as}
use Rattle.steps.specs.Changing.{Changing, made}
use Rattle.steps.proofs.Answered.{Answered, by_test, by_steps, accepts, answered}

-- "24 cutoff outside the range": the state stays, its mark is answered, and no pivot
pub reset-refused : (cutoff : Float) (s : State) → cutoff_fits cutoff ≡ false → reset cutoff s ≡ refused_by 24 0 s.whole s
unfolding reset
reset-refused cutoff s e = rw (e, reset) refl

-- "Let reset take the near-zero cutoff, above 0 and at most 1E-6": whatever the state was
pub reset-taken : (cutoff : Float) (s : State) → cutoff_fits cutoff ≡ true → reset cutoff s ≡ record { answer = record { number = 0; pivots = 0; whole = true }; state = empty cutoff }
unfolding reset
reset-taken cutoff s e = rw (e, reset) refl

-- "Cutoff chosen at reset": no changing call chooses another, nor does a fetch
pub cutoff-stays : (c : Changing) (s : State) → (made c s).state.tableau.cutoff ≡ s.tableau.cutoff
unfolding refused_by accepted_as finish
cutoff-stays c s = go (answered c s)
  where
    go : {r : Result} → Answered c s r → r.state.tableau.cutoff ≡ s.tableau.cutoff
    go (by_test n e) = refl
    go (by_steps n p m e x) = refl
    go (accepts v cs es e w k) = w.cutoff

pub fetch-keeps-cutoff : (s : State) → (fetch_changes s).state.tableau.cutoff ≡ s.tableau.cutoff
unfolding fetch_changes
fetch-keeps-cutoff s = refl

-- ---- "since the cutoff is below 1"

-- a number strictly between 0 and 1
pub record Between (x : Float) : Type 0 where
  pub m : ℕ
  pub e : ℤ
  pub is : x ≡ fin false m e
  pub above : 0 < m * up e
  pub under : m * up e < down e

-- 1E-6 is 4722366482869645 / 2^72
smaller : (a b : ℕ) → 0 < b → a * 4_722_366_482_869_645_213_696 ≤ 4_722_366_482_869_645 * b → a < b
smaller a b p h = omega arith

-- its two tests
in-range : (x : Float) → cutoff_fits x ≡ true → T (lt zero64 x) × T (le x greatest_cutoff)
unfolding cutoff_fits
in-range x e =
    let t : T (cutoff_fits x) = subst T (sym e) tt in
    (and_l (lt zero64 x) (le x greatest_cutoff) t, and_r (lt zero64 x) (le x greatest_cutoff) t)

not-above : (a b c : ℕ) → T (ltb a (0 * b * c)) → ⊥
not-above a b c t = omega (arith, ltb→lt a (0 * b * c) t, zero-mul b, zero-mul c, ap (λ (x : ℕ). x * c) (zero-mul b))

between : (x : Float) → T (lt zero64 x) → T (le x greatest_cutoff) → Between x
unfolding zero64 greatest_cutoff lt le eq of_bits
between nan a b = absurd a
between (inf false) a b = absurd b
between (inf true) a b = absurd a
between (fin true m k) a b = absurd a
between (fin false zero k) a b = absurd (not-above _ (up k) _ a)
between (fin false (suc m) k) a b =
    record {
      m = suc m;
      e = k;
      is = refl;
      above = mul-pos (zero-lt-suc m) (up_pos k);
      under = smaller (suc m * up k) (down k) (down_pos k) (le→cross (fin false (suc m) k) greatest_cutoff (lt→ltb 0 (suc m) (zero-lt-suc m)) tt b);
    }

pub cutoff-between : (x : Float) → cutoff_fits x ≡ true → Between x
cutoff-between x e = between x (in-range x e).0 (in-range x e).1

-- 1 is above it, and so kept
pub one_kept : (cutoff : Float) → cutoff_fits cutoff ≡ true → near_zero cutoff one64 ≡ false
unfolding near_zero magnitude zero64 one64 lt of_bits
one_kept cutoff e = go (cutoff-between cutoff e)
  where
    no : (t : Bool) → (T t → ⊥) → t ≡ false
    no true f = absurd (f tt)
    no false f = refl

    below : (a b : ℕ) → a < b → ltb (1 * 1 * b) (a * 1) ≡ false
    below a b l = no (ltb (1 * 1 * b) (a * 1)) (λ t. omega (arith, ltb→lt (1 * 1 * b) (a * 1) t))

    go : Between cutoff → near_zero cutoff one64 ≡ false
    go b = rw b.is (below (b.m * up b.e) (down b.e) b.under)
