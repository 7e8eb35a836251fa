-- Lists of places, and of the codes or numbers that they stand for: members, distinct, counted alike where no two places stand for the same. Laws that know nothing of the solver.
-- Assumes nothing.
use Prim.Native.Nat.{ℕ, zero, suc, ◌+◌, ◌-◌, ◌≤◌, ◌<◌}
use Rattle.std.specs.Prelude.{◌≡◌, Bool, true, false, not, ◌||◌, eqb, ltb}
use Rattle.std.proofs.Math.Path.{refl}
use Rattle.std.proofs.Common.{sym, ap, subst, ◌∙◌, not-suc-le-zero, eqb-true, eq-eqb, ltb-true, ltb-false, lt-ltb}
use mathlib.Core.List.{List, [], ◌∷◌, ◌++◌, map}
use native.Mathlib.Omega.{arith}
use Rattle.std.proofs.lemmas.Bool.{not-true}
use Rattle.laws.specs.Lists.{tab, list_of}
use Rattle.steps.specs.Tests.{member}
use Rattle.steps.specs.Readable as steps
use Rattle.keeps.specs.Lists.{All, all_in_lem, all-out, all-to, left, right, no_both}
use Rattle.rows.specs.places.Finding.{place_in, place_is, place-live, Apart}
use Rattle.rows.specs.places.Listed.{same, member-list}
use Rattle.rows.specs.places.Spent.{count_of}

module _ (c : ℕ → ℕ) (P : ℕ → Type 0) (inj : (x y : ℕ) → P x → P y → c x ≡ c y → x ≡ y) where
  eqb-map : (x y : ℕ) → P x → P y → eqb (c x) (c y) ≡ eqb x y
  eqb-map x y p q = same (eqb (c x) (c y)) (eqb x y) (λ h. eq-eqb x y (inj x y p q (eqb-true (c x) (c y) h))) (λ h. eq-eqb (c x) (c y) (ap c (eqb-true x y h)))

  member-map : (x : ℕ) (l : List ℕ) → P x → All P l → member (c x) (map c l) ≡ member x l
  unfolding member
  member-map x [] p h = refl
  member-map x (y ∷ l) p h = rw (eqb-map x y p h.0, member-map x l p h.1) refl

  pub distinct-map : (l : List ℕ) → All P l → steps.distinct (map c l) ≡ steps.distinct l
  unfolding steps.distinct
  distinct-map [] h = refl
  distinct-map (x ∷ l) h = rw (member-map x l h.0 h.1, distinct-map l h.1) refl

  pub members-map : (l m : List ℕ) → All P l → All P m → steps.all_in (map c l) (map c m) ≡ steps.all_in l m
  unfolding steps.all_in steps.all
  members-map [] m h k = refl
  members-map (x ∷ l) m h k = rw (member-map x m h.0 k, members-map l m h.1 k) refl

  pub count_map : (x : ℕ) (l : List ℕ) → P x → All P l → count_of (c x) (map c l) ≡ count_of x l
  unfolding count_of
  count_map x [] p h = refl
  count_map x (y ∷ l) p h = rw (eqb-map x y p h.0, count_map x l p h.1) refl

-- ---- a fact of each element

module _ {A : Type 0} (P : A → Type 0) where
  from-tab : (g : ℕ → A) (i n : ℕ) → ((j : ℕ) → i ≤ j → j < i + n → P (g j)) → All P (tab g i n)
  unfolding tab
  from-tab g i zero f = tt
  from-tab g i (suc n) f = (f i (omega arith) (omega arith), from-tab g (suc i) n λ j a b. f j (omega arith) (omega arith))

  pub each-list : (g : ℕ → A) (n : ℕ) → ((j : ℕ) → j < n → P (g j)) → All P (list_of n g)
  unfolding list_of
  each-list g n f = from-tab g 0 n λ j a b. f j (omega (arith, b))

  to-tab : (g : ℕ → A) (i n : ℕ) → All P (tab g i n) → (j : ℕ) → j < n → P (g (i + j))
  unfolding tab
  to-tab g i zero h j k = absurd (not-suc-le-zero k)
  to-tab g i (suc n) h zero k =
      let o : i + 0 ≡ i = omega arith in
      rw o h.0
  to-tab g i (suc n) h (suc j) k =
      let o : i + suc j ≡ suc i + j = omega arith in
      rw o (to-tab g (suc i) n h.1 j (omega (arith, k)))

  pub list-each : (g : ℕ → A) (n : ℕ) → All P (list_of n g) → (j : ℕ) → j < n → P (g j)
  unfolding list_of
  list-each g n h j k =
      let o : 0 + j ≡ j = omega arith in
      rw o at (to-tab g 0 n h j k)

  pub both-lists : (l m : List A) → All P l → All P m → All P (l ++ m)
  both-lists [] m h k = k
  both-lists (x ∷ l) m h k = (h.0, both-lists l m h.1 k)

  pub first-list : (l m : List A) → All P (l ++ m) → All P l
  first-list [] m h = tt
  first-list (x ∷ l) m h = (h.0, first-list l m h.1)

  pub second-list : (l m : List A) → All P (l ++ m) → All P m
  second-list [] m h = h
  second-list (x ∷ l) m h = second-list l m h.1

  pub all-lists : (l : List (List A)) → All (λ (r : List A). All P r) l → All P (steps.concat l)
  unfolding steps.concat
  all-lists [] h = tt
  all-lists (x ∷ l) h = both-lists x (steps.concat l) h.0 (all-lists l h.1)

  pub lists-all : (l : List (List A)) → All P (steps.concat l) → All (λ (r : List A). All P r) l
  unfolding steps.concat
  lists-all [] h = tt
  lists-all (x ∷ l) h = (first-list x (steps.concat l) h, lists-all l (second-list x (steps.concat l) h))

-- ---- the numbers 1 to k

pub one_apart : (k : ℕ) → Apart (λ j. 1 + j) k
one_apart k i j a b q = omega (arith, q)

pub in_ones : (k : ℕ) (l : List ℕ) → steps.all_in l (list_of k λ j. 1 + j) ≡ true → All (λ p. (1 ≤ p) × (p ≤ k)) l
unfolding steps.all_in
in_ones k l h = all-to _ _ (λ p q. near p (sym (member-list k (λ j. 1 + j) p) ∙ q)) l (all_in_lem (λ p. member p (list_of k λ j. 1 + j)) l h)
  where
    near : (p : ℕ) → ltb (place_in (λ j. 1 + j) k p) k ≡ true → (1 ≤ p) × (p ≤ k)
    near p q =
        let l = ltb-true (place_in (λ j. 1 + j) k p) k q in
        let e = place_is (λ j. 1 + j) k p l in
        (omega (arith, e), omega (arith, e, l))

pub ones_in : (k : ℕ) (l : List ℕ) → All (λ p. (1 ≤ p) × (p ≤ k)) l → steps.all_in l (list_of k λ j. 1 + j) ≡ true
unfolding steps.all_in
ones_in k l h = all-out (λ p. member p (list_of k λ j. 1 + j)) l (all-to _ _ (λ p q. member-list k (λ j. 1 + j) p ∙ near p q) l h)
  where
    near : (p : ℕ) → (1 ≤ p) × (p ≤ k) → ltb (place_in (λ j. 1 + j) k p) k ≡ true
    near p q =
        let a = q.0 in
        let b = q.1 in
        lt-ltb _ _ (place-live (λ j. 1 + j) k p (p - 1) (omega (arith, a, b)) (omega (arith, a)))

-- ---- distinct elements are apart

stands : (g : ℕ → ℕ) (a n j : ℕ) (m : List ℕ) → j < n → member (g (a + j)) (tab g a n ++ m) ≡ true
unfolding member tab
stands g a zero j m h = absurd (not-suc-le-zero h)
stands g a (suc n) zero m h =
    let o : a + 0 ≡ a = omega arith in
    rw (o, eq-eqb (g a) (g a) refl) refl
stands g a (suc n) (suc j) m h =
    let o : a + suc j ≡ suc a + j = omega arith in
    subst
    (λ (x : ℕ). member (g x) (tab g a (suc n) ++ m) ≡ true)
    (sym o)
    (ap (λ (b : Bool). eqb (g (suc a + j)) (g a) || b) (stands g (suc a) n j m (omega (arith, h))) ∙ or-true (eqb (g (suc a + j)) (g a)))
  where
    or-true : (b : Bool) → b || true ≡ true
    or-true true = refl
    or-true false = refl

apart-tab : (g : ℕ → ℕ) (a n : ℕ) (m : List ℕ) → steps.distinct (tab g a n ++ m) ≡ true → (i j : ℕ) → i < j → j < n → g (a + i) ≡ g (a + j) → ⊥
unfolding steps.distinct tab
apart-tab g a zero m h i j k l q = not-suc-le-zero l
apart-tab g a (suc n) m h i zero k l q = not-suc-le-zero k
apart-tab g a (suc n) m h zero (suc j) k l q =
    let o : a + 0 ≡ a = omega arith in
    let p : a + suc j ≡ suc a + j = omega arith in
    let e : g a ≡ g (suc a + j) = rw (o, p) at q in
    no_both (rw (← e) at (stands g (suc a) n j m (omega (arith, l)))) (not-true _ (left (not (member (g a) (tab g (suc a) n ++ m))) (steps.distinct (tab g (suc a) n ++ m)) h))
apart-tab g a (suc n) m h (suc i) (suc j) k l q =
    let o : a + suc i ≡ suc a + i = omega arith in
    let p : a + suc j ≡ suc a + j = omega arith in
    apart-tab g (suc a) n m (right (not (member (g a) (tab g (suc a) n ++ m))) (steps.distinct (tab g (suc a) n ++ m)) h) i j (omega (arith, k)) (omega (arith, l)) (rw (o, p) at q)

pub distinct_apart : (g : ℕ → ℕ) (n : ℕ) (m : List ℕ) → steps.distinct (list_of n g ++ m) ≡ true → Apart g n
unfolding list_of
distinct_apart g n m h i j a b q = go (ltb i j) refl (ltb j i) refl
  where
    zero-at : (i : ℕ) → 0 + i ≡ i
    zero-at i = omega arith

    go : (x : Bool) → ltb i j ≡ x → (y : Bool) → ltb j i ≡ y → i ≡ j
    go true u y v = absurd (apart-tab g 0 n m h i j (ltb-true i j u) b (ap g (zero-at i) ∙ q ∙ sym (ap g (zero-at j))))
    go false u true v = absurd (apart-tab g 0 n m h j i (ltb-true j i v) a (ap g (zero-at j) ∙ sym q ∙ sym (ap g (zero-at i))))
    go false u false v = omega (arith, ltb-false i j u, ltb-false j i v)
