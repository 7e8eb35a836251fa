-- The reading test's Booleans as facts, lists as counts of their members, and lists kept by ascending number. Assumes nothing.
use Rattle.std.specs.Prelude.{◌≡◌, ◌≢◌, Bool, true, false, not, ◌&&◌, ◌||◌, cond, ℕ, zero, suc, ◌+◌, ◌≤◌, ◌<◌, T, eqb, ltb}
use Rattle.std.proofs.Math.Path.{refl}
use Rattle.std.proofs.Common.{sym, ap, ◌∙◌, subst, true≢false, arith, eqb→eq, ltb→lt, lt→ltb}
use mathlib.Core.List.{List, [], ◌∷◌, ◌++◌, map}
use Rattle.std.proofs.Math.Option
use Rattle.std.proofs.Math.Option.{none, some, none-ne-some}
use Rattle.std.proofs.Math.Dec.{eqb_refl}
use Rattle.steps.specs.Tests.{member}
use Rattle.steps.specs.Readable.{all, ascend_from, ascend, distinct, all_in, concat}

-- ---- Booleans

pub truly : (b : Bool) → T b → b ≡ true
truly true t = refl
truly false t = absurd t

pub so : {b : Bool} → b ≡ true → T b
so {b} e = subst T (sym e) tt

pub so-not : {b : Bool} → b ≡ false → T (not b)
so-not {b} e = subst (λ (c : Bool). T (not c)) (sym e) tt

pub both : {a b : Bool} → a ≡ true → b ≡ true → (a && b) ≡ true
both {a} {b} e f = ap (λ (c : Bool). c && b) e ∙ f

pub left : (a b : Bool) → (a && b) ≡ true → a ≡ true
left true b e = refl
left false b e = e

pub right : (a b : Bool) → (a && b) ≡ true → b ≡ true
right true b e = e
right false b e = absurd (true≢false (sym e))

pub no_both : {b : Bool} → b ≡ true → b ≡ false → ⊥
no_both e f = true≢false (sym e ∙ f)

pub none≢some : {A : Type 0} {a : A} → none ≡ some a → ⊥
none≢some {A} {a} e = none-ne-some a e

pub some-injective : {A : Type 0} {a b : A} → some a ≡ some b → a ≡ b
some-injective {A} {a} {b} e = Option.some-injective a b e

pub none_of : (k : ℕ) → (1 ≤ k → ⊥) → k ≡ 0
none_of zero f = refl
none_of (suc k) f = absurd (f (omega arith))

-- ---- 1 where two numbers are the same, else 0

unfoldable pub same : ℕ → ℕ → ℕ
same n m = cond (eqb n m) 1 0

pub data Same? (n m : ℕ) : Type 0 where
  is : eqb n m ≡ true → n ≡ m → same n m ≡ 1 → Same? n m
  isnt : eqb n m ≡ false → n ≢ m → same n m ≡ 0 → Same? n m

pub same? : (n m : ℕ) → Same? n m
unfolding same
same? n m = go (eqb n m) refl
  where
    go : (b : Bool) → eqb n m ≡ b → Same? n m
    go true e = is e (eqb→eq n m (so e)) (ap (λ (b : Bool). cond b 1 0) e)
    go false e = isnt e (λ p. subst T e (subst (λ (y : ℕ). T (eqb n y)) p (eqb_refl n))) (ap (λ (b : Bool). cond b 1 0) e)

-- ---- every member

abbrev pub All : {A : Type 0} → (A → Type 0) → List A → Type 0
All Q [] = Unit
All Q (x ∷ xs) = Q x × All Q xs

module _ {A : Type 0} where
  pub all-to : (P Q : A → Type 0) → ((x : A) → P x → Q x) → (xs : List A) → All P xs → All Q xs
  all-to P Q f [] h = tt
  all-to P Q f (x ∷ xs) h = (f x h.0, all-to P Q f xs h.1)

  pub all-zip : (P Q R : A → Type 0) → ((x : A) → P x → Q x → R x) → (xs : List A) → All P xs → All Q xs → All R xs
  all-zip P Q R f [] h g = tt
  all-zip P Q R f (x ∷ xs) h g = (f x h.0 g.0, all-zip P Q R f xs h.1 g.1)

  pub all_in_lem : (p : A → Bool) (xs : List A) → all p xs ≡ true → All (λ (x : A). p x ≡ true) xs
  unfolding all
  all_in_lem p [] e = tt
  all_in_lem p (x ∷ xs) e = (left (p x) (all p xs) e, all_in_lem p xs (right (p x) (all p xs) e))

  pub all-out : (p : A → Bool) (xs : List A) → All (λ (x : A). p x ≡ true) xs → all p xs ≡ true
  unfolding all
  all-out p [] h = refl
  all-out p (x ∷ xs) h = both h.0 (all-out p xs h.1)

  pub all_append : (P : A → Type 0) (xs ys : List A) → All P xs → All P ys → All P (xs ++ ys)
  all_append P [] ys h g = g
  all_append P (x ∷ xs) ys h g = (h.0, all_append P xs ys h.1 g)

  -- a number for each member, and their sum
  unfoldable pub total : (A → ℕ) → List A → ℕ
  total f [] = 0
  total f (x ∷ xs) = f x + total f xs

-- ---- how often n is in a list

unfoldable pub times : ℕ → List ℕ → ℕ
times n [] = 0
times n (x ∷ xs) = same n x + times n xs

pub times-append : (n : ℕ) (xs ys : List ℕ) → times n (xs ++ ys) ≡ times n xs + times n ys
unfolding times
times-append n [] ys = omega arith
times-append n (x ∷ xs) ys = omega (arith, times-append n xs ys)

pub times-map : {A : Type 0} (g : A → ℕ) (n : ℕ) (xs : List A) → times n (map g xs) ≡ total (λ (x : A). same n (g x)) xs
unfolding times total
times-map g n [] = refl
times-map g n (x ∷ xs) = ap (λ (k : ℕ). same n (g x) + k) (times-map g n xs)

pub times-concat : {A : Type 0} (g : A → List ℕ) (n : ℕ) (xs : List A) → times n (concat (map g xs)) ≡ total (λ (x : A). times n (g x)) xs
unfolding times total concat
times-concat g n [] = refl
times-concat g n (x ∷ xs) = times-append n (g x) (concat (map g xs)) ∙ ap (λ (k : ℕ). times n (g x) + k) (times-concat g n xs)

pub member-in : (n : ℕ) (xs : List ℕ) → member n xs ≡ true → 1 ≤ times n xs
unfolding member times
member-in n [] e = absurd (true≢false (sym e))
member-in n (x ∷ xs) e = go (same? n x) (member-in n xs)
  where
    go : Same? n x → (member n xs ≡ true → 1 ≤ times n xs) → 1 ≤ same n x + times n xs
    go (is a b c) ih = omega arith
    go (isnt a b c) ih = let h : 1 ≤ times n xs = ih (ap (λ (t : Bool). t || member n xs) (sym a) ∙ e) in omega arith

pub member-out : (n : ℕ) (xs : List ℕ) → 1 ≤ times n xs → member n xs ≡ true
unfolding member times
member-out n [] l = absurd (omega arith)
member-out n (x ∷ xs) l = go (same? n x) (member-out n xs)
  where
    go : Same? n x → (1 ≤ times n xs → member n xs ≡ true) → (eqb n x || member n xs) ≡ true
    go (is a b c) ih = ap (λ (t : Bool). t || member n xs) a
    go (isnt a b c) ih = ap (λ (t : Bool). t || member n xs) a ∙ ih (omega arith)

pub all_in-in : (ns ms : List ℕ) → all_in ns ms ≡ true → (n : ℕ) → 1 ≤ times n ns → 1 ≤ times n ms
unfolding all_in all times
all_in-in [] ms e n l = absurd (omega arith)
all_in-in (x ∷ ns) ms e n l = go (same? n x) (all_in-in ns ms (right (member x ms) (all_in ns ms) e) n)
  where
    go : Same? n x → (1 ≤ times n ns → 1 ≤ times n ms) → 1 ≤ times n ms
    go (is a b c) ih = member-in n ms (subst (λ (y : ℕ). member y ms ≡ true) (sym b) (left (member x ms) (all_in ns ms) e))
    go (isnt a b c) ih = ih (omega arith)

pub all_in-out : (ns ms : List ℕ) → ((n : ℕ) → 1 ≤ times n ns → 1 ≤ times n ms) → all_in ns ms ≡ true
unfolding all_in all times
all_in-out [] ms h = refl
all_in-out (x ∷ ns) ms h = both (member-out x ms (h x (here (same? x x)))) (all_in-out ns ms (λ n l. h n (omega arith)))
  where
    here : Same? x x → 1 ≤ same x x + times x ns
    here (is a b c) = omega arith
    here (isnt a b c) = absurd (b refl)

-- ---- distinct

pub distinct-in : (xs : List ℕ) → distinct xs ≡ true → (n : ℕ) → times n xs ≤ 1
unfolding distinct times
distinct-in [] e n = omega arith
distinct-in (x ∷ xs) e n = go (same? n x) (member x xs) refl (left (not (member x xs)) (distinct xs) e) (distinct-in xs (right (not (member x xs)) (distinct xs) e) n)
  where
    go : Same? n x → (b : Bool) → member x xs ≡ b → not b ≡ true → times n xs ≤ 1 → same n x + times n xs ≤ 1
    go (isnt a b c) t q f ih = omega arith
    go (is a b c) true q f ih = absurd (true≢false (sym f))
    go (is a b c) false q f ih = let z : times n xs ≡ 0 = none_of (times n xs) (λ l. no_both (member-out x xs (subst (λ (y : ℕ). 1 ≤ times y xs) b l)) q) in omega arith

pub distinct-out : (xs : List ℕ) → ((n : ℕ) → times n xs ≤ 1) → distinct xs ≡ true
unfolding distinct times
distinct-out [] h = refl
distinct-out (x ∷ xs) h = both (go (member x xs) refl) (distinct-out xs (λ n. omega (arith, h n)))
  where
    go : (b : Bool) → member x xs ≡ b → not b ≡ true
    go false q = refl
    go true q = step (same? x x)
      where
        step : Same? x x → not true ≡ true
        step (is a b c) = absurd (omega (arith, h x, member-in x xs q))
        step (isnt a b c) = absurd (b refl)

-- ---- ascending: each number at least i, and each above the one before

abbrev pub Up : ℕ → List ℕ → Type 0
Up i [] = Unit
Up i (x ∷ xs) = (i ≤ x) × Up (suc x) xs

pub up_from : (i k : ℕ) (xs : List ℕ) → i ≤ k → Up k xs → Up i xs
up_from i k [] l u = tt
up_from i k (x ∷ xs) l u = (omega (arith, u.0), u.1)

pub ascend_from-in : (n : ℕ) (xs : List ℕ) → ascend_from n xs ≡ true → Up (suc n) xs
unfolding ascend_from
ascend_from-in n [] e = tt
ascend_from-in n (x ∷ xs) e = (ltb→lt n x (so (left (ltb n x) (ascend_from x xs) e)), ascend_from-in x xs (right (ltb n x) (ascend_from x xs) e))

pub ascend_from-out : (n : ℕ) (xs : List ℕ) → Up (suc n) xs → ascend_from n xs ≡ true
unfolding ascend_from
ascend_from-out n [] u = refl
ascend_from-out n (x ∷ xs) u = both (truly (ltb n x) (lt→ltb n x u.0)) (ascend_from-out x xs u.1)

pub ascend-in : (xs : List ℕ) → ascend xs ≡ true → Up 0 xs
unfolding ascend
ascend-in [] e = tt
ascend-in (x ∷ xs) e = (omega arith, ascend_from-in x xs e)

pub ascend-out : (xs : List ℕ) → Up 0 xs → ascend xs ≡ true
unfolding ascend
ascend-out [] u = refl
ascend-out (x ∷ xs) u = ascend_from-out x xs u.1

pub up_none : (i n : ℕ) (xs : List ℕ) → n < i → Up i xs → times n xs ≡ 0
unfolding times
up_none i n [] l u = refl
up_none i n (x ∷ xs) l u = go (same? n x) (up_none (suc x) n xs (omega (arith, u.0)) u.1)
  where
    go : Same? n x → times n xs ≡ 0 → same n x + times n xs ≡ 0
    go (is a b c) ih = absurd (omega (arith, u.0))
    go (isnt a b c) ih = omega arith

pub up-once : (i n : ℕ) (xs : List ℕ) → Up i xs → times n xs ≤ 1
unfolding times
up-once i n [] u = omega arith
up-once i n (x ∷ xs) u = go (same? n x) (up-once (suc x) n xs u.1)
  where
    go : Same? n x → times n xs ≤ 1 → same n x + times n xs ≤ 1
    go (is a b c) ih = let z : times n xs ≡ 0 = up_none (suc x) n xs (omega arith) u.1 in omega arith
    go (isnt a b c) ih = omega arith
