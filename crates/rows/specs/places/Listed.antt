-- Tests on a list that is read place by place, as tests on the places.
-- Assumes nothing.
use Rattle.std.specs.Prelude.{◌≡◌, ℕ, zero, suc, ◌+◌, ◌-◌, ◌<◌, Bool, true, false, cond, ◌&&◌, ◌||◌, ltb, map, ◌==◌, nat_eq, nat_lt}
use Rattle.std.proofs.Math.Path.{refl, sym, ap}
use Rattle.std.proofs.Common.{◌∙◌, arith, ltb-true, lt-ltb, le-ltb}
use Rattle.std.proofs.Math.Nat.{sub-zero}
use Rattle.steps.specs.Tests.{member}
use Rattle.steps.specs.Readable as steps
use Rattle.laws.specs.Loops.{seek, first}
use Rattle.laws.specs.Lists.{tab, list_of, map-tab, all_from, all_in}
use Rattle.layout.specs.Rooms.{and_left, and_right}
use Rattle.rows.specs.places.Finding.{place_in, all-at, at_all, never}

pub join : {a b : Bool} → a ≡ true → b ≡ true → a && b ≡ true
join e f = rw (e, f) refl

-- two tests that pass together are the same
pub same : (a b : Bool) → (a ≡ true → b ≡ true) → (b ≡ true → a ≡ true) → a ≡ b
same true b f g = sym (f refl)
same false true f g = g refl
same false false f g = refl

module _ {A : Type 0} (p : A → Bool) where
  all-tab : (g : ℕ → A) (i n : ℕ) → steps.all p (tab g i n) ≡ all_from (λ j. p (g j)) i n
  unfolding steps.all tab all_from
  all-tab g i zero = refl
  all-tab g i (suc n) = ap (λ (b : Bool). p (g i) && b) (all-tab g (suc i) n)

  pub all_list : (n : ℕ) (g : ℕ → A) → steps.all p (list_of n g) ≡ all_in (λ i. p (g i)) 0 n
  unfolding list_of all_in
  all_list n g = rw (sub-zero n) (all-tab g 0 n)

  pub listed_at : (n : ℕ) (g : ℕ → A) → steps.all p (list_of n g) ≡ true → (i : ℕ) → i < n → p (g i) ≡ true
  listed_at n g h i k = all-at (λ i. p (g i)) 0 n (sym (all_list n g) ∙ h) i (omega arith) k

  pub at_listed : (n : ℕ) (g : ℕ → A) → ((i : ℕ) → i < n → p (g i) ≡ true) → steps.all p (list_of n g) ≡ true
  at_listed n g f = all_list n g ∙ at_all _ 0 n λ i a b. f i b

module _ {A B : Type 0} where
  pub map-list : (f : A → B) (n : ℕ) (g : ℕ → A) → map f (list_of n g) ≡ list_of n λ i. f (g i)
  unfolding list_of
  map-list f n g = map-tab f g 0 n

-- ---- members

module _ (g : ℕ → ℕ) (x e : ℕ) where
  member-tab : (n i : ℕ) → i + n ≡ e → member x (tab g i n) ≡ nat_lt (seek (λ j. nat_eq x (g j)) (λ j. j) e n i) e
  unfolding member tab seek
  member-tab zero i q = sym (le-ltb e e (omega arith))
  member-tab (suc n) i q = go (x == g i) (member-tab n (suc i) (omega arith))
    where
      go : (b : Bool) → member x (tab g (suc i) n) ≡ nat_lt (seek (λ j. nat_eq x (g j)) (λ j. j) e n (suc i)) e → b || member x (tab g (suc i) n) ≡ nat_lt (cond b i (seek (λ j. nat_eq x (g j)) (λ j. j) e n (suc i))) e
      go true r = sym (lt-ltb i e (omega arith))
      go false r = r

pub member-list : (n : ℕ) (g : ℕ → ℕ) (x : ℕ) → member x (list_of n g) ≡ nat_lt (place_in g n x) n
unfolding list_of place_in first
member-list n g x = rw (sub-zero n) (member-tab g x n n 0 (omega arith))

-- ---- order

ascend-tab : (g : ℕ → ℕ) (i n : ℕ) → steps.ascend_from (g i) (tab g (suc i) n) ≡ all_from (λ j. ltb (g (j - 1)) (g j)) (suc i) n
unfolding steps.ascend_from tab all_from
ascend-tab g i zero = refl
ascend-tab g i (suc n) =
    let e : suc i - 1 ≡ i = omega arith in
    rw e (ap (λ (b : Bool). nat_lt (g i) (g (suc i)) && b) (ascend-tab g (suc i) n))

pub ascend-list : (n : ℕ) (g : ℕ → ℕ) → steps.ascend (list_of n g) ≡ all_in (λ i. ltb (g (i - 1)) (g i)) 1 n
unfolding steps.ascend list_of tab all_in all_from
ascend-list zero g = refl
ascend-list (suc n) g =
    let e : suc n - 1 ≡ n = omega arith in
    rw e (ascend-tab g 0 n)

pub from_list : (n : ℕ) (g : ℕ → ℕ) → steps.ascend_from 0 (list_of n g) ≡ true → (all_in (λ i. ltb (g (i - 1)) (g i)) 1 n ≡ true) × (0 < n → 0 < g 0)
unfolding steps.ascend_from steps.ascend list_of tab
from_list zero g h = (sym (ascend-list zero g), λ k. never 0 k)
from_list (suc n) g h = (
  sym (ascend-list (suc n) g) ∙ and_right (nat_lt 0 (g 0)) _ h,
  λ k. ltb-true 0 (g 0) (and_left (nat_lt 0 (g 0)) (steps.ascend_from (g 0) (tab g 1 n)) h),
)

pub list-from : (n : ℕ) (g : ℕ → ℕ) → all_in (λ i. ltb (g (i - 1)) (g i)) 1 n ≡ true → (0 < n → 0 < g 0) → steps.ascend_from 0 (list_of n g) ≡ true
unfolding steps.ascend_from steps.ascend list_of tab
list-from zero g h k = refl
list-from (suc n) g h k = join (lt-ltb 0 (g 0) (k (omega arith))) (ascend-list (suc n) g ∙ h)
