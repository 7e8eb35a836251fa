-- The terms that two tables hold in their first places.
use Rattle.std.specs.Prelude.{ℕ, zero, suc, ◌+◌, ◌-◌, ◌≤◌, ◌<◌, ◌≡◌, refl, Bool, true, false, cond, List, [], ◌∷◌, ltb, eqb, length, get_or, set, ℤ, pos, nat_abs, ◌+ℤ◌}
use Rattle.std.proofs.Common.{sym, ap, ◌∙◌, not-suc-le-zero, le_of_suc-le-suc, zero-lt-suc, arith, lt-ltb, le-ltb, eq-eqb, ne_eqb}
use Rattle.std.proofs.Math.IntN.{sub_ℕ}
use Rattle.laws.specs.Z.{at, ◌⊕◌, ⊖◌, eq_z, PN-sub, abs_is, abs-add, abs_neg}
use Rattle.laws.specs.Loops.{delete, insert_at}
use Rattle.grammar.specs.Sums.{Term, add_to, signed}

-- a coefficient stands as what it is above this, 2 to the power of 53
abbrev pub zero_at : ℕ
zero_at = 9007199254740992

abbrev pub value_of : ℕ → ℤ
value_of x = sub_ℕ x zero_at

abbrev pub term_of : ℕ → ℕ → Term
term_of v x = record { variable = v; coefficient = value_of x }

unfoldable pub held : List ℕ → List ℕ → ℕ → List Term
held numbers sums zero = []
held [] sums (suc n) = []
held (v ∷ vs) [] (suc n) = []
held (v ∷ vs) (x ∷ xs) (suc n) = term_of v x ∷ held vs xs n

front : {A : Type 0} (l : List A) (y : A) → insert_at 0 y l ≡ y ∷ l
unfolding insert_at
front l y = refl

-- a term put in at the place i
held-open : (vs xs : List ℕ) (n i v x : ℕ) → i ≤ n → n < length vs → n < length xs
    → held (insert_at i v (delete n vs)) (insert_at i x (delete n xs)) (suc n) ≡ insert_at i (term_of v x) (held vs xs n)
unfolding held insert_at delete
held-open [] xs n i v x h p q = absurd (not-suc-le-zero p)
held-open (w ∷ vs) [] n i v x h p q = absurd (not-suc-le-zero q)
held-open (w ∷ vs) (y ∷ xs) zero zero v x h p q = refl
held-open (w ∷ vs) (y ∷ xs) zero (suc i) v x h p q = absurd (not-suc-le-zero h)
held-open (w ∷ vs) (y ∷ xs) (suc n) zero v x h p q = ap (λ (l : List Term). term_of v x ∷ term_of w y ∷ l) (same vs xs n (le_of_suc-le-suc p) (le_of_suc-le-suc q))
  where
    same : (vs xs : List ℕ) (n : ℕ) → n < length vs → n < length xs → held (delete n vs) (delete n xs) n ≡ held vs xs n
    same [] xs n p q = absurd (not-suc-le-zero p)
    same (v ∷ vs) [] n p q = absurd (not-suc-le-zero q)
    same (v ∷ vs) (x ∷ xs) zero p q = refl
    same (v ∷ vs) (x ∷ xs) (suc n) p q = ap (λ (l : List Term). term_of v x ∷ l) (same vs xs n (le_of_suc-le-suc p) (le_of_suc-le-suc q))
held-open (w ∷ vs) (y ∷ xs) (suc n) (suc i) v x h p q = ap (λ (l : List Term). term_of w y ∷ l) (held-open vs xs n i v x (le_of_suc-le-suc h) (le_of_suc-le-suc p) (le_of_suc-le-suc q))

-- a new variable: all before the place are below it, and the one there, if any, is above it
pub put-new : (vs xs : List ℕ) (n i v x : ℕ) → i ≤ n → n < length vs → n < length xs → ((j : ℕ) → j < i → get_or vs j 0 < v) → (i < n → v < get_or vs i 0)
    → held (insert_at i v (delete n vs)) (insert_at i x (delete n xs)) (suc n) ≡ add_to v (value_of x) (held vs xs n)
unfolding held insert_at add_to
put-new vs xs n i v x h p q b a = held-open vs xs n i v x h p q ∙ there vs xs n i h p q b a
  where
    there : (vs xs : List ℕ) (n i : ℕ) → i ≤ n → n < length vs → n < length xs → ((j : ℕ) → j < i → get_or vs j 0 < v) → (i < n → v < get_or vs i 0)
        → insert_at i (term_of v x) (held vs xs n) ≡ add_to v (value_of x) (held vs xs n)
    there [] xs n i h p q b a = absurd (not-suc-le-zero p)
    there (w ∷ vs) [] n i h p q b a = absurd (not-suc-le-zero q)
    there (w ∷ vs) (y ∷ xs) zero zero h p q b a = refl
    there (w ∷ vs) (y ∷ xs) zero (suc i) h p q b a = absurd (not-suc-le-zero h)
    there (w ∷ vs) (y ∷ xs) (suc n) zero h p q b a = rw (lt-ltb v w (a (zero-lt-suc n)))
    there (w ∷ vs) (y ∷ xs) (suc n) (suc i) h p q b a =
        let k : w < v = b 0 (zero-lt-suc i) in
        rw (le-ltb v w (omega arith), ne_eqb v w (λ e. omega arith))
        (ap (λ (l : List Term). term_of w y ∷ l) (there vs xs n i (le_of_suc-le-suc h) (le_of_suc-le-suc p) (le_of_suc-le-suc q) (λ j g. b (suc j) (suc-less g)) (λ g. a (suc-less g))))
      where
        suc-less : {a b : ℕ} → a < b → suc a < suc b
        suc-less g = omega arith

-- a variable that stands at the place
pub put-old : (vs xs : List ℕ) (n i v y : ℕ) (c : ℤ) → i < n → n ≤ length vs → n ≤ length xs → ((j : ℕ) → j < i → get_or vs j 0 < v) → get_or vs i 0 ≡ v
    → value_of y ≡ value_of (get_or xs i 0) +ℤ c → held vs (set xs i y) n ≡ add_to v c (held vs xs n)
unfolding held add_to
put-old vs xs zero i v y c h p q b e k = absurd (not-suc-le-zero h)
put-old [] xs (suc n) i v y c h p q b e k = absurd (not-suc-le-zero p)
put-old (w ∷ vs) [] (suc n) i v y c h p q b e k = absurd (not-suc-le-zero q)
put-old (w ∷ vs) (x ∷ xs) (suc n) zero v y c h p q b e k = rw (le-ltb v w (omega arith), eq-eqb v w (sym e), e, k)
put-old (w ∷ vs) (x ∷ xs) (suc n) (suc i) v y c h p q b e k =
    let g : w < v = b 0 (zero-lt-suc i) in
    rw (le-ltb v w (omega arith), ne_eqb v w (λ r. omega arith))
    (ap (λ (l : List Term). term_of w x ∷ l) (put-old vs xs n i v y c (le_of_suc-le-suc h) (le_of_suc-le-suc p) (le_of_suc-le-suc q) (λ j g. b (suc j) (suc-less g)) e k))
  where
    suc-less : {a b : ℕ} → a < b → suc a < suc b
    suc-less g = omega arith

-- ---- each coefficient is at most b in size

unfoldable pub Bounded : ℕ → List Term → Type 0
Bounded b [] = Unit {0}
Bounded b (t ∷ ts) = (nat_abs t.coefficient ≤ b) × Bounded b ts

pub bounded-more : (b c : ℕ) (ts : List Term) → b ≤ c → Bounded b ts → Bounded c ts
unfolding Bounded
bounded-more b c [] h k = tt
bounded-more b c (t ∷ ts) h k = (omega (arith, k.0), bounded-more b c ts h k.1)

pub bounded-add : (b : ℕ) (v : ℕ) (c : ℤ) (ts : List Term) → Bounded b ts → Bounded (b + nat_abs c) (add_to v c ts)
unfolding Bounded add_to
bounded-add b v c [] h = (omega arith, tt)
bounded-add b v c (t ∷ ts) h = test (ltb v t.variable) (eqb v t.variable) (bounded-add b v c ts h.1)
  where
    test : (p q : Bool) → Bounded (b + nat_abs c) (add_to v c ts) → Bounded (b + nat_abs c) (cond p (record { variable = v; coefficient = c } ∷ t ∷ ts) (cond q (record { variable = v; coefficient = t.coefficient +ℤ c } ∷ ts) (t ∷ add_to v c ts)))
    test true q r = (omega arith, (omega (arith, h.0), bounded-more b (b + nat_abs c) ts (omega arith) h.1))
    test false true r = (omega (arith, h.0, abs-add t.coefficient c), bounded-more b (b + nat_abs c) ts (omega arith) h.1)
    test false false r = (omega (arith, h.0), r)

pub bounded_at : (b : ℕ) (vs xs : List ℕ) (n i : ℕ) → i < n → n ≤ length vs → n ≤ length xs → Bounded b (held vs xs n) → nat_abs (value_of (get_or xs i 0)) ≤ b
unfolding Bounded held
bounded_at b vs xs zero i h p q k = absurd (not-suc-le-zero h)
bounded_at b [] xs (suc n) i h p q k = absurd (not-suc-le-zero p)
bounded_at b (v ∷ vs) [] (suc n) i h p q k = absurd (not-suc-le-zero q)
bounded_at b (v ∷ vs) (x ∷ xs) (suc n) zero h p q k = k.0
bounded_at b (v ∷ vs) (x ∷ xs) (suc n) (suc i) h p q k = bounded_at b vs xs n i (le_of_suc-le-suc h) (le_of_suc-le-suc p) (le_of_suc-le-suc q) k.1

-- ---- one coefficient more or less

-- x less or more by n, as the code sums it
abbrev pub moved : Bool → ℕ → ℕ → ℕ
moved true n x = x - n
moved false n x = x + n

pub moved-is : (m : Bool) (n x : ℕ) → n ≤ x → value_of (moved m n x) ≡ value_of x +ℤ signed m n
moved-is true n x h = eq_z (at (value_of (x - n))) (at (value_of x) ⊕ (⊖ at (pos n))) (omega (arith, PN-sub (x - n) zero_at, PN-sub x zero_at))
moved-is false n x h = eq_z (at (value_of (x + n))) (at (value_of x) ⊕ at (pos n)) (omega (arith, PN-sub (x + n) zero_at, PN-sub x zero_at))

pub moved_new : (m : Bool) (n : ℕ) → n ≤ zero_at → value_of (moved m n zero_at) ≡ signed m n
moved_new true n h = eq_z (at (value_of (zero_at - n))) (⊖ at (pos n)) (omega (arith, PN-sub (zero_at - n) zero_at))
moved_new false n h = eq_z (at (value_of (zero_at + n))) (at (pos n)) (omega (arith, PN-sub (zero_at + n) zero_at))

-- a size bounds what stands in the table
pub within : (x b : ℕ) → nat_abs (value_of x) ≤ b → (zero_at ≤ x + b) × (x ≤ zero_at + b)
within x b h = (omega (arith, PN-sub x zero_at, abs_is (value_of x)), omega (arith, PN-sub x zero_at, abs_is (value_of x)))

pub size-signed : (m : Bool) (n : ℕ) → nat_abs (signed m n) ≡ n
size-signed true n = abs_neg (pos n)
size-signed false n = refl
