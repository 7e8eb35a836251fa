-- Drop: the tests over tables are those of the steps, in their order; where one fails the drop is refused by its number.
-- Assumes nothing.
use Prim.Native.Nat.{ℕ, zero, suc, ◌+◌}
use Rattle.std.specs.Prelude.{◌≡◌, Bool, cond, ltb, length}
use Rattle.std.proofs.Math.Path.{refl}
use Rattle.std.proofs.Common.{◌∙◌, arith, lt-ltb, le-ltb}
use Rattle.std.proofs.Math.Bool.{true, false, not}
use mathlib.Core.List.{List, ◌∷◌}
use Rattle.std.proofs.Math.Option.{none}
use Rattle.std.proofs.Math.Nat.{sub-zero}
use Rattle.std.proofs.Math.Dec.{eqb, eqb-suc-zero}
use Rattle.laws.specs.Loops.{seek, first}
use Rattle.laws.specs.Lists.{tab, list_of}
use Rattle.rows.specs.places.Finding.{place_in}
use Rattle.steps.specs.State.{Constraint}
use Rattle.steps.specs.Tests.{first_refusal, group_of, drop_tests}
use Rattle.steps.specs.Calls.{refused_by, drop_group}
use Rattle.steps.specs.Changing.{drops}
use Rattle.sparse.specs.Lookup.{place_from}
use Rattle.sparse.specs.Sparse.{Sparse, constraint_count, constraint_of, read}
use Rattle.sparse_test.specs.Reads.{reads}
use Rattle.refusals.specs.declared.gone.Taken.TheVariants.{Group}
use Rattle.refusals.specs.Refusals.{live_in, group_in, gone_full_in, drop_refusal}
use Rattle.refusals.specs.Goes.{terms_taken, full_is}
use Rattle.refusals.specs.Tested.{number_or0, first-if, none_left}
use Rattle.refusals.specs.Passed.{numbered, first-none}
use Rattle.refusals.specs.Known.{refused-is}

-- 27: "no constraint in the group"
abbrev empty : ℕ → List Constraint → Bool
empty g cs = eqb (length (group_of g cs)) 0

-- along a list that is read place by place
module _ (g : ℕ) (f : ℕ → Constraint) (k : ℕ) where
  abbrev sought : ℕ → ℕ → ℕ
  sought n i = seek (λ j. eqb g (f j).group) (λ j. j) k n i

  none_from : (n i : ℕ) → i + n ≡ k → empty g (tab f i n) ≡ not (ltb (sought n i) k)
  unfolding group_of tab seek
  none_from zero i e = rw (le-ltb k k (omega arith)) refl
  none_from (suc n) i e = go (eqb g (f i).group) (none_from n (suc i) (omega arith))
    where
      go : (b : Bool) → empty g (tab f (suc i) n) ≡ not (ltb (sought n (suc i)) k)
          → eqb (length {A = Constraint} (elim b as (λ _. List Constraint) [ true ↦ f i ∷ group_of g (tab f (suc i) n) | false ↦ group_of g (tab f (suc i) n) ])) 0 ≡ not (ltb (cond b i (sought n (suc i))) k)
      go true ih = rw (lt-ltb i k (omega (arith, e)), eqb-suc-zero (length (group_of g (tab f (suc i) n)))) refl
      go false ih = ih

  none_is : empty g (list_of k f) ≡ not (ltb (place_in (λ j. (f j).group) k g) k)
  unfolding list_of place_in first
  none_is = rw (sub-zero k) (none_from k 0 (omega arith))

module _ (t : Sparse) (g : ℕ) where
  pub no-group : eqb (length (group_of g (read t).constraints)) 0 ≡ not (group_in t.words (constraint_count t) g)
  unfolding read constraint_of live_in place_from
  no-group = none_is g (constraint_of t) (constraint_count t)

  module _ (good : reads t ≡ true) where
    abbrev refuses : ℕ
    refuses = drop_refusal g t.words t.bytes t.reals

    -- "Drop: 18, 26, 27, 25."
    drop-refusal : number_or0 (first_refusal (drop_tests g (read t))) ≡ refuses
    unfolding drop_tests drop_refusal terms_taken
    drop-refusal =
        first-if 26 _ (eqb g 0) _ _ refl λ _.
        first-if 27 _ (not (group_in t.words (constraint_count t) g)) _ _ no-group λ _.
        first-if 25 _ (gone_full_in t.words t.bytes t.reals (Group g)) _ _ (full_is t good (Group g)) λ _. none_left

    pub drop-refused : (budget : ℕ) → (refuses ≡ 0 → ⊥) → drop_group g budget (read t) ≡ refused_by refuses 0 (read t).whole (read t)
    drop-refused budget = refused-is (drops g budget) (read t) drop-refusal

    -- the group's number is above 0, one of its constraints is live, and there is room for the gone entries that the whole drop makes
    pub drop-passes : refuses ≡ 0 → first_refusal (drop_tests g (read t)) ≡ none
    unfolding drop_tests numbered
    drop-passes h = first-none (drop_tests g (read t)) refl (drop-refusal ∙ h)
