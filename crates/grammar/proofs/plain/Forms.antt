-- The plain form as a line of the grammar: its bytes, what it says, and that it meets no fault.
use Rattle.std.specs.Prelude.{ℕ, ◌+◌, ◌≤◌, ◌≡◌, Bool, T, eqb, ℤ, negsuc, neg_ℤ, nat_abs, ◌+ℤ◌, ◌*ℤ◌}
use Rattle.std.proofs.Math.Path.{refl, sym, ap}
use Rattle.std.proofs.Common.{ap₂, ◌∙◌, one-mul, le-leb, eqb-true}
use Rattle.std.proofs.Math.Bool.{true, false, cond}
use mathlib.Core.List.{List, [], ◌∷◌, ◌++◌, append_assoc, append-nil}
use Rattle.std.proofs.Math.Option.{none}
use Rattle.std.proofs.Math.IntN.{pos}
use Rattle.laws.specs.Z.{eq_zb, eq_zb→}
use Rattle.laws.specs.Ring.{ring, v, k, ◌⊞◌, ◌⊠◌, ⊟◌, ◌⊟⊟◌}
use Rattle.grammar.specs.Sums.{Term, most, most_name}
use Rattle.grammar.specs.Trees.{a_part, a_sum, Tree, amount, variable, multiple, negated, single, added, subtracted, passes, fault_of, worth, bytes_of, constant_of, coefficient_of}
use Rattle.grammar.specs.plain.Decimal.{decimal}
use Rattle.grammar.specs.plain.Plain.{is_negative, first_sign, next_sign, size_text, term_text, next_text, constant_text, sum_text}
use Rattle.grammar.specs.plain.Numbers.{decimal-reads}
use Rattle.grammar.specs.plain.Forms.{tight, digits_of, wide, Said, AllSaid, term_tree, next_tree, total_of}
use Rattle.grammar.specs.plain.Forms as specs

pub worth-is : (n : ℕ) (h : n ≤ most_name) → worth (digits_of n h) ≡ n
worth-is n h = (decimal-reads n h).worths

-- ---- an integer is its sign and its size

sized : (z : ℤ) → cond (is_negative z) (neg_ℤ (pos (nat_abs z))) (pos (nat_abs z)) ≡ z
sized (pos n) = refl
sized (negsuc n) = refl

-- ---- a term without its sign

module _ (n x : ℕ) (h : n ≤ most) (g : x ≤ most_name) where
  abbrev part_of : Tree a_part
  part_of = specs.part_of n x h g

  abbrev timed : Tree a_part
  timed = multiple (digits_of n (wide n h)) tight (variable (digits_of x g))

  part_bytes : bytes_of part_of ≡ size_text n ++ (118 ∷ decimal x)
  unfolding bytes_of
  part_bytes = by (eqb n 1)
    where
      by : (t : Bool) → bytes_of (cond t (variable (digits_of x g)) timed) ≡ cond t [] (decimal n ++ (42 ∷ [])) ++ (118 ∷ decimal x)
      by true = refl
      by false = sym (append_assoc (decimal n) (42 ∷ []) (118 ∷ decimal x))

  part-constant : constant_of part_of ≡ pos 0
  unfolding constant_of
  part-constant = by (eqb n 1)
    where
      by : (t : Bool) → constant_of (cond t (variable (digits_of x g)) timed) ≡ pos 0
      by true = refl
      by false = ring (pos (worth (digits_of n (wide n h))) ∷ []) (v 0 ⊠ k (pos 0)) (k (pos 0)) tt

  part-coefficient : (y : ℕ) → coefficient_of y part_of ≡ cond (eqb y x) (pos n) (pos 0)
  unfolding coefficient_of
  part-coefficient y = by (eqb n 1) (eqb-true n 1)
    where
      times : (u : Bool) → pos n *ℤ cond u (pos 1) (pos 0) ≡ cond u (pos n) (pos 0)
      times true = ring (pos n ∷ []) (v 0 ⊠ k (pos 1)) (v 0) tt
      times false = ring (pos n ∷ []) (v 0 ⊠ k (pos 0)) (k (pos 0)) tt

      by : (t : Bool) → (t ≡ true → n ≡ 1) → coefficient_of y (cond t (variable (digits_of x g)) timed) ≡ cond (eqb y x) (pos n) (pos 0)
      by true e = rw (worth-is x g, e refl)
      by false e = rw (worth-is x g, worth-is n (wide n h)) (times (eqb y x))

  part-faultless : (room at : ℕ) → fault_of room 1 at part_of ≡ none
  unfolding fault_of
  part-faultless room at = by (eqb n 1)
    where
      name : (p : ℕ) → passes most_name 0 p (decimal x) ≡ none
      name p = (decimal-reads x g).kept most_name p g

      by : (t : Bool) → fault_of room 1 at (cond t (variable (digits_of x g)) timed) ≡ none
      by true = name (at + 1)
      by false = rw ((decimal-reads n (wide n h)).kept most at h, worth-is n (wide n h), one-mul n, le-leb n most h) (name _)

-- ---- a part joined to a sum under its sign, or first

module _ (z : ℤ) (u : Tree a_part) where
  abbrev join_tree : Tree a_sum → Tree a_sum
  join_tree = specs.join_tree z u

  abbrev first_tree : Tree a_sum
  first_tree = specs.first_tree z u

  join-bytes : (s : Tree a_sum) → bytes_of (join_tree s) ≡ bytes_of s ++ (next_sign z ++ bytes_of u)
  unfolding bytes_of
  join-bytes s = by (is_negative z)
    where
      by : (t : Bool) → bytes_of (cond t (subtracted s tight u) (added s tight u)) ≡ bytes_of s ++ (cond t (45 ∷ []) (43 ∷ []) ++ bytes_of u)
      by true = refl
      by false = refl

  first-bytes : bytes_of first_tree ≡ first_sign z ++ bytes_of u
  unfolding bytes_of
  first-bytes = by (is_negative z)
    where
      by : (t : Bool) → bytes_of (cond t (single (negated tight u)) (single u)) ≡ cond t (45 ∷ []) [] ++ bytes_of u
      by true = refl
      by false = refl

  join-faultless : (s : Tree a_sum) (room : ℕ) → ((at : ℕ) → fault_of room 1 at s ≡ none) → ((at : ℕ) → fault_of room 1 at u ≡ none) → (at : ℕ) → fault_of room 1 at (join_tree s) ≡ none
  unfolding fault_of
  join-faultless s room f g at = by (is_negative z)
    where
      by : (t : Bool) → fault_of room 1 at (cond t (subtracted s tight u) (added s tight u)) ≡ none
      by true = rw (f at) (g _)
      by false = rw (f at) (g _)

  first-faultless : (room : ℕ) → ((at : ℕ) → fault_of room 1 at u ≡ none) → (at : ℕ) → fault_of room 1 at first_tree ≡ none
  unfolding fault_of
  first-faultless room g at = by (is_negative z)
    where
      by : (t : Bool) → fault_of room 1 at (cond t (single (negated tight u)) (single u)) ≡ none
      by true = g _
      by false = g at

  -- what they say: any of the tree's numbers that is additive
  join-constant : (s : Tree a_sum) → constant_of (join_tree s) ≡ constant_of s +ℤ cond (is_negative z) (neg_ℤ (constant_of u)) (constant_of u)
  unfolding constant_of
  join-constant s = by (is_negative z)
    where
      by : (t : Bool) → constant_of (cond t (subtracted s tight u) (added s tight u)) ≡ constant_of s +ℤ cond t (neg_ℤ (constant_of u)) (constant_of u)
      by true = ring (constant_of s ∷ constant_of u ∷ []) (v 0 ⊟⊟ v 1) (v 0 ⊞ ⊟ v 1) tt
      by false = refl

  first-constant : constant_of first_tree ≡ cond (is_negative z) (neg_ℤ (constant_of u)) (constant_of u)
  unfolding constant_of
  first-constant = by (is_negative z)
    where
      by : (t : Bool) → constant_of (cond t (single (negated tight u)) (single u)) ≡ cond t (neg_ℤ (constant_of u)) (constant_of u)
      by true = refl
      by false = refl

  join-coefficient : (x : ℕ) (s : Tree a_sum) → coefficient_of x (join_tree s) ≡ coefficient_of x s +ℤ cond (is_negative z) (neg_ℤ (coefficient_of x u)) (coefficient_of x u)
  unfolding coefficient_of
  join-coefficient x s = by (is_negative z)
    where
      by : (t : Bool) → coefficient_of x (cond t (subtracted s tight u) (added s tight u)) ≡ coefficient_of x s +ℤ cond t (neg_ℤ (coefficient_of x u)) (coefficient_of x u)
      by true = ring (coefficient_of x s ∷ coefficient_of x u ∷ []) (v 0 ⊟⊟ v 1) (v 0 ⊞ ⊟ v 1) tt
      by false = refl

  first-coefficient : (x : ℕ) → coefficient_of x first_tree ≡ cond (is_negative z) (neg_ℤ (coefficient_of x u)) (coefficient_of x u)
  unfolding coefficient_of
  first-coefficient x = by (is_negative z)
    where
      by : (t : Bool) → coefficient_of x (cond t (single (negated tight u)) (single u)) ≡ cond t (neg_ℤ (coefficient_of x u)) (coefficient_of x u)
      by true = refl
      by false = refl

-- ---- under the sign

signed-zero : (t : Bool) → cond t (neg_ℤ (pos 0)) (pos 0) ≡ pos 0
signed-zero true = refl
signed-zero false = refl

signed-if : (z : ℤ) (t : Bool) → cond (is_negative z) (neg_ℤ (cond t (pos (nat_abs z)) (pos 0))) (cond t (pos (nat_abs z)) (pos 0)) ≡ cond t z (pos 0)
signed-if z true = sized z
signed-if z false = signed-zero (is_negative z)

-- ---- the terms

module _ (t : Term) (h : Said t) where
  signed-coefficient : (x : ℕ) → cond (is_negative t.coefficient) (neg_ℤ (coefficient_of x (term_tree t h))) (coefficient_of x (term_tree t h)) ≡ cond (eqb x t.variable) t.coefficient (pos 0)
  signed-coefficient x = rw (part-coefficient (nat_abs t.coefficient) t.variable h.0 h.1 x) (signed-if t.coefficient (eqb x t.variable))

  signed-constant : cond (is_negative t.coefficient) (neg_ℤ (constant_of (term_tree t h))) (constant_of (term_tree t h)) ≡ pos 0
  signed-constant = rw (part-constant (nat_abs t.coefficient) t.variable h.0 h.1) (signed-zero (is_negative t.coefficient))

next-bytes : (ts : List Term) (h : AllSaid ts) (s : Tree a_sum) → bytes_of (next_tree ts h s) ≡ bytes_of s ++ next_text ts
unfolding next_tree next_text
next-bytes [] h s = sym (append-nil (bytes_of s))
next-bytes (t ∷ ts) h s =
    next-bytes ts h.1 (join_tree t.coefficient (term_tree t h.0) s)
    ∙ (ap (λ (w : List ℕ). w ++ next_text ts) (join-bytes t.coefficient (term_tree t h.0) s ∙ ap (λ (w : List ℕ). bytes_of s ++ (next_sign t.coefficient ++ w)) (part_bytes (nat_abs t.coefficient) t.variable h.0.0 h.0.1))
    ∙ by (bytes_of s) (next_sign t.coefficient) (term_text t) (next_text ts))
  where
    by : (a b c d : List ℕ) → (a ++ (b ++ c)) ++ d ≡ a ++ (b ++ (c ++ d))
    by a b c d = simp append_assoc

next-constant : (ts : List Term) (h : AllSaid ts) (s : Tree a_sum) → constant_of (next_tree ts h s) ≡ constant_of s
unfolding next_tree
next-constant [] h s = refl
next-constant (t ∷ ts) h s =
    next-constant ts h.1 (join_tree t.coefficient (term_tree t h.0) s)
    ∙ (join-constant t.coefficient (term_tree t h.0) s ∙ (ap (λ (z : ℤ). constant_of s +ℤ z) (signed-constant t h.0) ∙ ring (constant_of s ∷ []) (v 0 ⊞ k (pos 0)) (v 0) tt))

next-coefficient : (x : ℕ) (ts : List Term) (h : AllSaid ts) (s : Tree a_sum) → coefficient_of x (next_tree ts h s) ≡ coefficient_of x s +ℤ total_of x ts
unfolding next_tree total_of
next-coefficient x [] h s = ring (coefficient_of x s ∷ []) (v 0) (v 0 ⊞ k (pos 0)) tt
next-coefficient x (t ∷ ts) h s =
    let z = cond (eqb x t.variable) t.coefficient (pos 0) in
    next-coefficient x ts h.1 (join_tree t.coefficient (term_tree t h.0) s)
    ∙ (ap (λ (y : ℤ). y +ℤ total_of x ts) (join-coefficient t.coefficient (term_tree t h.0) x s ∙ ap (λ (y : ℤ). coefficient_of x s +ℤ y) (signed-coefficient t h.0 x))
    ∙ ring (coefficient_of x s ∷ z ∷ total_of x ts ∷ []) (v 0 ⊞ v 1 ⊞ v 2) (v 0 ⊞ (v 1 ⊞ v 2)) tt)

next-faultless : (room : ℕ) (ts : List Term) (h : AllSaid ts) (s : Tree a_sum) → ((at : ℕ) → fault_of room 1 at s ≡ none) → (at : ℕ) → fault_of room 1 at (next_tree ts h s) ≡ none
unfolding next_tree
next-faultless room [] h s f = f
next-faultless room (t ∷ ts) h s f =
    next-faultless room ts h.1 (join_tree t.coefficient (term_tree t h.0) s)
    (join-faultless t.coefficient (term_tree t h.0) s room f (part-faultless (nat_abs t.coefficient) t.variable h.0.0 h.0.1 room))

-- ---- the sum

module _ (c : ℤ) (small-c : nat_abs c ≤ most) where
  abbrev sum_tree : (ts : List Term) → AllSaid ts → Tree a_sum
  sum_tree = specs.sum_tree c small-c

  abbrev number : Tree a_part
  number = amount (digits_of (nat_abs c) (wide (nat_abs c) small-c))

  number-faultless : (room at : ℕ) → fault_of room 1 at number ≡ none
  unfolding fault_of
  number-faultless room at = (decimal-reads (nat_abs c) (wide (nat_abs c) small-c)).kept most at small-c

  number-constant : cond (is_negative c) (neg_ℤ (constant_of number)) (constant_of number) ≡ c
  unfolding constant_of
  number-constant = rw (worth-is (nat_abs c) (wide (nat_abs c) small-c)) (sized c)

  -- the constant behind terms
  abbrev with_constant : Tree a_sum → Tree a_sum
  with_constant s = cond (eq_zb c (pos 0)) s (join_tree c number s)

  constant-bytes : (s : Tree a_sum) → bytes_of (with_constant s) ≡ bytes_of s ++ constant_text c
  unfolding bytes_of
  constant-bytes s = by (eq_zb c (pos 0))
    where
      by : (t : Bool) → bytes_of (cond t s (join_tree c number s)) ≡ bytes_of s ++ cond t [] (next_sign c ++ decimal (nat_abs c))
      by true = sym (append-nil (bytes_of s))
      by false = join-bytes c number s

  pub sum-bytes : (ts : List Term) (h : AllSaid ts) → bytes_of (sum_tree ts h) ≡ sum_text c ts
  unfolding bytes_of
  sum-bytes [] h = first-bytes c number
  sum-bytes (t ∷ ts) h =
      let u = term_tree t h.0 in
      constant-bytes (next_tree ts h.1 (first_tree t.coefficient u))
      ∙ (ap (λ (w : List ℕ). w ++ constant_text c)
      (next-bytes ts h.1 (first_tree t.coefficient u)
      ∙ ap (λ (w : List ℕ). w ++ next_text ts) (first-bytes t.coefficient u ∙ ap (λ (w : List ℕ). first_sign t.coefficient ++ w) (part_bytes (nat_abs t.coefficient) t.variable h.0.0 h.0.1)))
      ∙ by (first_sign t.coefficient) (term_text t) (next_text ts) (constant_text c))
    where
      by : (a b d e : List ℕ) → ((a ++ b) ++ d) ++ e ≡ a ++ (b ++ (d ++ e))
      by a b d e = simp append_assoc

  pub sum-constant : (ts : List Term) (h : AllSaid ts) → constant_of (sum_tree ts h) ≡ c
  sum-constant [] h = first-constant c number ∙ number-constant
  sum-constant (t ∷ ts) h = by (eq_zb c (pos 0)) (eq_zb→ c (pos 0))
    where
      terms : Tree a_sum
      terms = next_tree ts h.1 (first_tree t.coefficient (term_tree t h.0))

      none-in-terms : constant_of terms ≡ pos 0
      none-in-terms = next-constant ts h.1 (first_tree t.coefficient (term_tree t h.0)) ∙ (first-constant t.coefficient (term_tree t h.0) ∙ signed-constant t h.0)

      by : (b : Bool) → (T b → c ≡ pos 0) → constant_of (cond b terms (join_tree c number terms)) ≡ c
      by true e = none-in-terms ∙ sym (e tt)
      by false e = join-constant c number terms ∙ (ap₂ (λ (y z : ℤ). y +ℤ z) none-in-terms number-constant ∙ ring (c ∷ []) (k (pos 0) ⊞ v 0) (v 0) tt)

  number-coefficient : (x : ℕ) → cond (is_negative c) (neg_ℤ (coefficient_of x number)) (coefficient_of x number) ≡ pos 0
  unfolding coefficient_of
  number-coefficient x = signed-zero (is_negative c)

  pub sum-coefficient : (x : ℕ) (ts : List Term) (h : AllSaid ts) → coefficient_of x (sum_tree ts h) ≡ total_of x ts
  unfolding total_of
  sum-coefficient x [] h = first-coefficient c number x ∙ number-coefficient x
  sum-coefficient x (t ∷ ts) h = by (eq_zb c (pos 0))
    where
      terms : Tree a_sum
      terms = next_tree ts h.1 (first_tree t.coefficient (term_tree t h.0))

      in-terms : coefficient_of x terms ≡ cond (eqb x t.variable) t.coefficient (pos 0) +ℤ total_of x ts
      in-terms = next-coefficient x ts h.1 (first_tree t.coefficient (term_tree t h.0)) ∙ ap (λ (y : ℤ). y +ℤ total_of x ts) (first-coefficient t.coefficient (term_tree t h.0) x ∙ signed-coefficient t h.0 x)

      by : (b : Bool) → coefficient_of x (cond b terms (join_tree c number terms)) ≡ cond (eqb x t.variable) t.coefficient (pos 0) +ℤ total_of x ts
      by true = in-terms
      by false = join-coefficient c number x terms ∙ (ap (λ (y : ℤ). coefficient_of x terms +ℤ y) (number-coefficient x) ∙ (ring (coefficient_of x terms ∷ []) (v 0 ⊞ k (pos 0)) (v 0) tt ∙ in-terms))

  pub sum-faultless : (room : ℕ) (ts : List Term) (h : AllSaid ts) (at : ℕ) → fault_of room 1 at (sum_tree ts h) ≡ none
  sum-faultless room [] h = first-faultless c number room (number-faultless room)
  sum-faultless room (t ∷ ts) h = by (eq_zb c (pos 0))
    where
      terms : Tree a_sum
      terms = next_tree ts h.1 (first_tree t.coefficient (term_tree t h.0))

      in-terms : (at : ℕ) → fault_of room 1 at terms ≡ none
      in-terms = next-faultless room ts h.1 (first_tree t.coefficient (term_tree t h.0)) (first-faultless t.coefficient (term_tree t h.0) room (part-faultless (nat_abs t.coefficient) t.variable h.0.0 h.0.1 room))

      by : (b : Bool) (at : ℕ) → fault_of room 1 at (cond b terms (join_tree c number terms)) ≡ none
      by true = in-terms
      by false = join-faultless c number terms room in-terms (number-faultless room)
