-- One share for each of n different numbers: none is left exactly if a list has each of them once, and nothing else.
-- As many shares as asked for: none is left exactly if each number has as many as it stands in the list, and nothing else does.
-- Assumes nothing.
use Rattle.std.specs.Prelude.{◌≡◌, ℕ, ◌+◌, ◌<◌, ◌≤◌, Bool, true, false, cond, not, ◌&&◌, ◌||◌, T, ltb, List, [], ◌∷◌, length, ◌==◌, nat_eq, nat_lt, slice_index, slice_index_or}
use Rattle.std.proofs.Math.Path.{refl, sym}
use Rattle.std.proofs.Common.{ap, ◌∙◌, subst, zero-add, arith}
use borrow.Author.Tests.{eqb-true, eq-eqb, ltb-true, ltb-false, not-true}
use Rattle.steps.specs.Tests.{member}
use Rattle.steps.specs.Readable as steps
use Rattle.laws.specs.Lists.{list_of, laid, laid_in, laid-after, length-laid}
use Rattle.layout.specs.Rooms.{and_left, and_right}
use Rattle.layout.specs.Laying.{remade, run-list}
use Rattle.layout.proofs.Copied.{length-list_of, get_or-list_of}
use Rattle.rows.specs.places.Finding.{place_in, Apart, all-at, at_all, place_is, never}
use Rattle.rows.specs.places.Listed.{join, member-list, at_listed, listed_at}
use Rattle.rows.specs.places.Shares.{Shares, shares, none_left, stock}
use Rattle.rows.specs.places.Spent.{count_of, take_each, spent-enough, enough-spent}

-- ---- the stock

module _ (g : ℕ → ℕ) (n : ℕ) (l : List ℕ) where
  stock-laid : stock g n l ≡ laid (λ x _. x) 0 (list_of n g) l
  unfolding stock remade
  stock-laid = run-list 0 (λ x _. x) (λ i _. g i) g 0 n n l (omega arith) λ j h y. rw (zero-add j) refl

  pub length-stock : length (stock g n l) ≡ length l
  length-stock = rw stock-laid (length-laid _ 0 (list_of n g) l)

  pub stock-at : (j : ℕ) → j < n → n ≤ length l → slice_index (stock g n l) j ≡ g j
  stock-at j h k =
      let m : length (list_of n g) ≡ n = length-list_of n g in
      rw stock-laid ((rw (zero-add j) at (laid_in (λ x _. x) 0 (list_of n g) l j 0 0 (omega arith) (omega arith))) ∙ get_or-list_of n g j 0 h)

  pub stock-after : (j : ℕ) → n ≤ j → slice_index (stock g n l) j ≡ slice_index l j
  stock-after j h =
      let m : length (list_of n g) ≡ n = length-list_of n g in
      rw stock-laid (laid-after (λ x _. x) 0 (list_of n g) l j 0 (omega arith))

none-at : (l : List ℕ) (n : ℕ) → none_left l n ≡ true → (j : ℕ) → j < n → slice_index l j ≡ 0
unfolding none_left
none-at l n h j k = eqb-true _ _ (all-at (λ j. nat_eq (slice_index l j) 0) 0 n h j (omega arith) k)

at_none : (l : List ℕ) (n : ℕ) → ((j : ℕ) → j < n → slice_index l j ≡ 0) → none_left l n ≡ true
unfolding none_left
at_none l n f = at_all _ 0 n λ j a b. eq-eqb _ _ (f j b)

-- ---- as many shares as asked for

module _ (g : ℕ → ℕ) (n : ℕ) (apart : Apart g n) (c : ℕ → ℕ) (z : List ℕ) (w : n < length z) (e : slice_index_or z n 0 ≡ 0) (l : List ℕ) where
  abbrev after : Shares
  after = take_each (place_in g n) l (shares (stock c n z) true)

  pub shared-counts : after.ok && none_left after.left n ≡ true → ((j : ℕ) → j < n → c j ≡ count_of (g j) l) × (steps.all (λ x. ltb (place_in g n x) n) l ≡ true)
  shared-counts h =
      let r = spent-enough g n apart l (stock c n z) (rw (length-stock c n z) w) (stock-after c n z n (omega arith) ∙ e) (and_left after.ok _ h, none-at after.left n (and_right after.ok _ h)) in
      (λ j k. sym (stock-at c n z j k (omega arith)) ∙ r.0 j k, r.1)

  pub counts-shared : ((j : ℕ) → j < n → c j ≡ count_of (g j) l) → steps.all (λ x. ltb (place_in g n x) n) l ≡ true → after.ok && none_left after.left n ≡ true
  counts-shared f q =
      let r = enough-spent g n apart l (stock c n z) (rw (length-stock c n z) w) (stock-after c n z n (omega arith) ∙ e) (λ j k. stock-at c n z j k (omega arith) ∙ f j k) q in
      join r.0 (at_none after.left n r.1)

-- ---- members and counts

no : {A : Type 0} → false ≡ true → A
no q = absurd (subst T (sym q) tt)

pub member-counts : (x : ℕ) (l : List ℕ) → member x l ≡ true → 1 ≤ count_of x l
unfolding member count_of
member-counts x [] h = no h
member-counts x (y ∷ l) h = go (x == y) h (member-counts x l)
  where
    go : (b : Bool) → b || member x l ≡ true → (member x l ≡ true → 1 ≤ count_of x l) → 1 ≤ cond b 1 0 + count_of x l
    go true q r = omega arith
    go false q r = let s = r q in omega arith

pub counts-member : (x : ℕ) (l : List ℕ) → 1 ≤ count_of x l → member x l ≡ true
unfolding member count_of
counts-member x [] h = never 0 h
counts-member x (y ∷ l) h = go (x == y) h (counts-member x l)
  where
    go : (b : Bool) → 1 ≤ cond b 1 0 + count_of x l → (1 ≤ count_of x l → member x l ≡ true) → b || member x l ≡ true
    go true q r = refl
    go false q r = r (omega arith)

-- each of a list's numbers stands there once: it is distinct
pub once-distinct : (l : List ℕ) → ((x : ℕ) → member x l ≡ true → count_of x l ≤ 1) → steps.distinct l ≡ true
unfolding member count_of steps.distinct
once-distinct [] f = refl
once-distinct (y ∷ l) f = join (alone (member y l) refl) (once-distinct l λ x h. fewer x h (x == y) refl)
  where
    here : count_of y l ≤ 0
    here =
        let e = eq-eqb y y refl in
        let q : cond (y == y) 1 0 + count_of y l ≤ 1 = f y (rw e refl) in
        let r : 1 + count_of y l ≤ 1 = rw e at q in
        omega arith

    alone : (b : Bool) → member y l ≡ b → not b ≡ true
    alone true h = let m = member-counts y l h in never 0 (omega (arith, here))
    alone false h = refl

    fewer : (x : ℕ) → member x l ≡ true → (b : Bool) → (x == y) ≡ b → count_of x l ≤ 1
    fewer x h true q =
        let s : cond (x == y) 1 0 + count_of x l ≤ 1 = f x (rw q refl) in
        let r : 1 + count_of x l ≤ 1 = rw q at s in
        omega arith
    fewer x h false q =
        let s : cond (x == y) 1 0 + count_of x l ≤ 1 = f x (rw q h) in
        let r : 0 + count_of x l ≤ 1 = rw q at s in
        omega arith

pub distinct-once : (l : List ℕ) → steps.distinct l ≡ true → (x : ℕ) → member x l ≡ true → count_of x l ≡ 1
unfolding member count_of steps.distinct
distinct-once [] d x h = no h
distinct-once (y ∷ l) d x h = go (x == y) refl h (distinct-once l (and_right (not (member y l)) (steps.distinct l) d) x)
  where
    go : (b : Bool) → (x == y) ≡ b → b || member x l ≡ true → (member x l ≡ true → count_of x l ≡ 1) → cond b 1 0 + count_of x l ≡ 1
    go true q r i =
        let e : x ≡ y = eqb-true x y q in
        let m : member y l ≡ false = not-true _ (and_left (not (member y l)) (steps.distinct l) d) in
        let z : count_of x l ≡ 0 = rw e (zero-count y l m) in
        omega arith
      where
        zero-count : (x : ℕ) (l : List ℕ) → member x l ≡ false → count_of x l ≡ 0
        zero-count x l m = go₂ (nat_lt 0 (count_of x l)) refl
          where
            go₂ : (b : Bool) → nat_lt 0 (count_of x l) ≡ b → count_of x l ≡ 0
            go₂ true k = no (sym m ∙ counts-member x l (ltb-true 0 (count_of x l) k))
            go₂ false k = let s = ltb-false 0 (count_of x l) k in omega arith
    go false q r i = let s = i r in omega arith

-- ---- the two lists have the same numbers, each once

all_same : {A : Type 0} (p q : A → Bool) (l : List A) → ((x : A) → p x ≡ q x) → steps.all p l ≡ steps.all q l
unfolding steps.all
all_same p q [] f = refl
all_same p q (x ∷ l) f = rw (f x) (ap (λ (b : Bool). q x && b) (all_same p q l f))

pub placed-members : (g : ℕ → ℕ) (n : ℕ) (l : List ℕ) → steps.all (λ x. ltb (place_in g n x) n) l ≡ steps.all_in l (list_of n g)
unfolding steps.all_in
placed-members g n l = all_same _ _ l λ x. sym (member-list n g x)

all-members : (p : ℕ → Bool) (l : List ℕ) → steps.all p l ≡ true → (x : ℕ) → member x l ≡ true → p x ≡ true
unfolding steps.all member
all-members p [] h x m = no m
all-members p (y ∷ l) h x m = go (x == y) refl m (all-members p l (and_right (p y) (steps.all p l) h) x)
  where
    go : (b : Bool) → (x == y) ≡ b → b || member x l ≡ true → (member x l ≡ true → p x ≡ true) → p x ≡ true
    go true q r s = rw (eqb-true x y q) (and_left (p y) (steps.all p l) h)
    go false q r s = s r

module _ (g : ℕ → ℕ) (n : ℕ) (apart : Apart g n) (z : List ℕ) (w : n < length z) (e : slice_index_or z n 0 ≡ 0) (l : List ℕ) where
  abbrev ones : Shares
  ones = take_each (place_in g n) l (shares (stock (λ _. 1) n z) true)

  pub shared-once : ones.ok && none_left ones.left n ≡ true → (steps.distinct l ≡ true) × (steps.all_in (list_of n g) l ≡ true) × (steps.all_in l (list_of n g) ≡ true)
  unfolding steps.all_in
  shared-once h =
      let r = shared-counts g n apart (λ _. 1) z w e l h in
      let f : (j : ℕ) → j < n → 1 ≡ count_of (g j) l = r.0 in (
        once-distinct l (λ x m.
            let k : place_in g n x < n = ltb-true _ _ (all-members (λ x. ltb (place_in g n x) n) l r.1 x m) in
            let q : 1 ≡ count_of (g (place_in g n x)) l = f (place_in g n x) k in
            let s : 1 ≡ count_of x l = rw (place_is g n x k) at q in
            omega arith),
        at_listed (λ x. member x l) n g (λ j k. let q = f j k in counts-member (g j) l (omega arith)),
        sym (placed-members g n l) ∙ r.1,
      )

  pub once-shared : steps.distinct l ≡ true → steps.all_in (list_of n g) l ≡ true → steps.all_in l (list_of n g) ≡ true → ones.ok && none_left ones.left n ≡ true
  unfolding steps.all_in
  once-shared d m i = counts-shared g n apart (λ _. 1) z w e l (λ j k. sym (distinct-once l d (g j) (listed_at (λ x. member x l) n g m j k))) (placed-members g n l ∙ i)
