-- The constraint of a number among those that tables read as, and what is shown for it. Assumes nothing.
use Rattle.std.specs.Prelude.{ℕ, zero, suc, ◌+◌, ◌≤◌, ◌<◌, ◌≡◌, Bool, true, false, cond, eqb, ltb}
use Rattle.std.proofs.Math.Path.{refl, ap}
use Rattle.std.proofs.Common.{arith}
use Rattle.std.proofs.Math.Option.{Option, none, some}
use Rattle.std.proofs.Math.Nat.{sub-zero}
use borrow.Author.Tests.{lt-ltb, le-ltb}
use Rattle.laws.specs.Loops.{seek, first}
use Rattle.laws.specs.Lists.{tab, list_of}
use Rattle.steps.specs.State.{Constraint}
use Rattle.steps.specs.Tests.{find_constraint}
use Rattle.steps.specs.Shown.{Given, given_of, shown}
use Rattle.rows.specs.places.Finding.{place_in}
use Rattle.sparse.specs.Places.{constraint_numbers_at}
use Rattle.sparse.specs.Lookup.{place_from}
use Rattle.sparse.specs.Sparse.{Sparse, constraint_count, constraint_of, read}
use Rattle.sparse_test.specs.Reads.{reads}
use Rattle.fetches.specs.shown.Shown.{without, said, line_of, show_of}

abbrev pick : (ℕ → Constraint) → ℕ → ℕ → Option Constraint
pick g e z = cond (ltb z e) (some (g z)) none

found-tab : (n : ℕ) (g : ℕ → Constraint) (e k i : ℕ) → i + k ≡ e → find_constraint n (tab g i k) ≡ pick g e (seek (λ j. eqb n (g j).number) (λ j. j) e k i)
unfolding find_constraint tab seek
found-tab n g e zero i s = rw (le-ltb e e (omega arith)) refl
found-tab n g e (suc k) i s = go (eqb n (g i).number) (found-tab n g e k (suc i) (omega arith))
  where
    go : (b : Bool) → find_constraint n (tab g (suc i) k) ≡ pick g e (seek (λ j. eqb n (g j).number) (λ j. j) e k (suc i))
        → elim b [ true ↦ some (g i) | false ↦ find_constraint n (tab g (suc i) k) ] ≡ pick g e (cond b i (seek (λ j. eqb n (g j).number) (λ j. j) e k (suc i)))
    go true r = rw (lt-ltb i e (omega arith)) refl
    go false r = r

module _ (t : Sparse) (n : ℕ) where
  abbrev place : ℕ
  place = place_from t.words constraint_numbers_at (constraint_count t) n

  found : find_constraint n (read t).constraints ≡ pick (constraint_of t) (constraint_count t) place
  unfolding read constraint_of place_from place_in first list_of
  found = rw (sub-zero (constraint_count t)) (found-tab n (constraint_of t) (constraint_count t) (constraint_count t) 0 (omega arith))

  abbrev seen : Option Constraint → Option Given
  seen o = elim o [ none ↦ none | some c ↦ some (given_of c) ]

  shown-is : shown n (read t) ≡ seen (pick (constraint_of t) (constraint_count t) place)
  unfolding shown
  shown-is = ap seen found

  -- ---- what the code hands over

  module _ {x : Bool} (e : x ≡ reads t) where
    pub unread-line : x ≡ false → without 18 ≡ show_of n t
    unfolding show_of
    unread-line h = rw (← e, h) refl

    pub unknown-line : {i : ℕ} → i ≡ place → x ≡ true → constraint_count t ≤ i → without 5 ≡ show_of n t
    unfolding show_of line_of
    unknown-line {i} q h k = rw (← e, h, shown-is, ← q, le-ltb i (constraint_count t) k) refl

    pub known-line : {i : ℕ} → i ≡ place → x ≡ true → i < constraint_count t → said (given_of (constraint_of t i)) ≡ show_of n t
    unfolding show_of line_of
    known-line {i} q h k = rw (← e, h, shown-is, ← q, lt-ltb i (constraint_count t) k) refl
