-- Lists that stand by ascending number: rows by id, variables, constraints and edits by theirs. One law for the four. Assumes nothing.
use Rattle.std.specs.Prelude.{◌≡◌, ◌≢◌, Bool, not, T, eqb, ltb}
use Rattle.std.proofs.Math.Path.{refl, ap, subst}
use Rattle.std.proofs.Common.{sym, ◌∙◌, eq-or-lt_of_le, ltb→lt, nltb→le}
use Rattle.std.proofs.Math.Logic.{inl, inr}
use mathlib.Core.List.{List, [], ◌∷◌, map}
use Rattle.std.proofs.Math.Option.{Option, none, some}
use Rattle.std.proofs.Math.Bool.{true, false}
use Prim.Native.Nat.{ℕ, suc, ◌+◌, ◌≤◌, ◌<◌}
use native.Mathlib.Omega.{arith}
use Rattle.std.proofs.Math.ListN.{length}
use Rattle.steps.specs.Symbol.{is_symbol}
use Rattle.steps.specs.Row.{Row}
use Rattle.steps.specs.State.{Basic, Variable, Constraint, Edit}
use Rattle.steps.specs.Work.{find_row, drop_row, keep_row}
use Rattle.steps.specs.Changes.{find_variable}
use Rattle.steps.specs.CreateRow.{keep_variable}
use Rattle.steps.specs.Tests.{find_constraint, keep_constraint, drop_constraint, find_edit, keep_edit, drop_edit}
use Rattle.keeps.specs.Lists.{All, Same?, is, isnt, same, same?, total, times, Up, up_from, up_none, none≢some, some-injective}

module _ {A : Type 0} (key : A → ℕ) where
  unfoldable pub keep_by : A → List A → List A
  keep_by r [] = r ∷ []
  keep_by r (x ∷ xs) = elim (ltb (key r) (key x)) [ true ↦ r ∷ x ∷ xs | false ↦ x ∷ keep_by r xs ]

  unfoldable pub drop_by : ℕ → List A → List A
  drop_by n [] = []
  drop_by n (x ∷ xs) = elim (eqb n (key x)) [ true ↦ xs | false ↦ x ∷ drop_by n xs ]

  unfoldable pub find_by : ℕ → List A → Option A
  find_by n [] = none
  find_by n (x ∷ xs) = elim (eqb n (key x)) [ true ↦ some x | false ↦ find_by n xs ]

  -- ---- keeping one more
  pub keep-total : (f : A → ℕ) (r : A) (xs : List A) → total f (keep_by r xs) ≡ f r + total f xs
  unfolding keep_by total
  keep-total f r [] = refl
  keep-total f r (x ∷ xs) = go (ltb (key r) (key x)) (keep-total f r xs)
    where
      go : (t : Bool) → total f (keep_by r xs) ≡ f r + total f xs → total f (elim t [ true ↦ r ∷ x ∷ xs | false ↦ x ∷ keep_by r xs ]) ≡ f r + (f x + total f xs)
      go true ih = refl
      go false ih = omega arith

  pub keep-length : (r : A) (xs : List A) → length (keep_by r xs) ≡ suc (length xs)
  unfolding keep_by
  keep-length r [] = refl
  keep-length r (x ∷ xs) = go (ltb (key r) (key x)) (keep-length r xs)
    where
      go : (t : Bool) → length (keep_by r xs) ≡ suc (length xs) → length {A = A} (elim t [ true ↦ r ∷ x ∷ xs | false ↦ x ∷ keep_by r xs ]) ≡ suc (suc (length xs))
      go true ih = refl
      go false ih = ap suc ih

  pub keep_all : (P : A → Type 0) (r : A) (xs : List A) → P r → All P xs → All P (keep_by r xs)
  unfolding keep_by
  keep_all P r [] p h = (p, tt)
  keep_all P r (x ∷ xs) p h = go (ltb (key r) (key x)) (keep_all P r xs p h.1)
    where
      go : (t : Bool) → All P (keep_by r xs) → All P (elim t [ true ↦ r ∷ x ∷ xs | false ↦ x ∷ keep_by r xs ])
      go true ih = (p, h)
      go false ih = (h.0, ih)

  pub keep-up : (i : ℕ) (r : A) (xs : List A) → i ≤ key r → times (key r) (map key xs) ≡ 0 → Up i (map key xs) → Up i (map key (keep_by r xs))
  unfolding keep_by times
  keep-up i r [] l z u = (l, tt)
  keep-up i r (x ∷ xs) l z u =
      go (ltb (key r) (key x)) (ltb→lt (key r) (key x)) (nltb→le (key r) (key x)) (same? (key r) (key x)) (λ m. keep-up (suc (key x)) r xs m (omega arith) u.1)
    where
      go : (t : Bool) → (T t → key r < key x) → (T (not t) → key x ≤ key r) → Same? (key r) (key x)
          → (suc (key x) ≤ key r → Up (suc (key x)) (map key (keep_by r xs)))
          → Up i (map key (elim t [ true ↦ r ∷ x ∷ xs | false ↦ x ∷ keep_by r xs ]))
      go true a b w ih = (l, (a tt, u.1))
      go false a b (is p q s) ih = absurd (omega arith)
      go false a b (isnt p q s) ih = (u.0, ih (elim (eq-or-lt_of_le (b tt)) [ inl e ↦ absurd (q (sym e)) | inr h ↦ h ]))

  -- ---- looking up
  pub find_none : (n : ℕ) (xs : List A) → find_by n xs ≡ none → times n (map key xs) ≡ 0
  unfolding find_by times
  find_none n [] e = refl
  find_none n (x ∷ xs) e = go (same? n (key x)) (find_none n xs)
    where
      go : Same? n (key x) → (find_by n xs ≡ none → times n (map key xs) ≡ 0) → same n (key x) + times n (map key xs) ≡ 0
      go (is a b c) ih = absurd (none≢some (sym (rw (a, find_by) at e)))
      go (isnt a b c) ih = omega (arith, ih (rw (a, find_by) at e))

  pub find-some : (n : ℕ) (xs : List A) (x : A) → find_by n xs ≡ some x → n ≡ key x
  unfolding find_by
  find-some n [] y e = absurd (none≢some e)
  find-some n (x ∷ xs) y e = go (same? n (key x)) (find-some n xs y)
    where
      go : Same? n (key x) → (find_by n xs ≡ some y → n ≡ key y) → n ≡ key y
      go (is a b c) ih = b ∙ ap key (some-injective (rw (a, find_by) at e))
      go (isnt a b c) ih = ih (rw (a, find_by) at e)

  pub find-all : (P : A → Type 0) (n : ℕ) (xs : List A) (x : A) → find_by n xs ≡ some x → All P xs → P x
  unfolding find_by
  find-all P n [] y e h = absurd (none≢some e)
  find-all P n (x ∷ xs) y e h = go (eqb n (key x)) e (λ e. find-all P n xs y e h.1)
    where
      go : (t : Bool) → elim t [ true ↦ some x | false ↦ find_by n xs ] ≡ some y → (find_by n xs ≡ some y → P y) → P y
      go true e ih = subst P (some-injective e) h.0
      go false e ih = ih e

  pub find-times : (n : ℕ) (xs : List A) (x : A) → find_by n xs ≡ some x → 1 ≤ times n (map key xs)
  unfolding find_by times
  find-times n [] y e = absurd (none≢some e)
  find-times n (x ∷ xs) y e = go (same? n (key x)) (find-times n xs y)
    where
      go : Same? n (key x) → (find_by n xs ≡ some y → 1 ≤ times n (map key xs)) → 1 ≤ same n (key x) + times n (map key xs)
      go (is a b c) ih = omega arith
      go (isnt a b c) ih = omega (arith, ih (rw (a, find_by) at e))

  -- ---- dropping one
  pub drop-total : (f : A → ℕ) (n : ℕ) (xs : List A) (x : A) → find_by n xs ≡ some x → total f xs ≡ f x + total f (drop_by n xs)
  unfolding find_by drop_by total
  drop-total f n [] y e = absurd (none≢some e)
  drop-total f n (x ∷ xs) y e = go (eqb n (key x)) e (drop-total f n xs y)
    where
      go : (t : Bool) → elim t [ true ↦ some x | false ↦ find_by n xs ] ≡ some y → (find_by n xs ≡ some y → total f xs ≡ f y + total f (drop_by n xs))
          → f x + total f xs ≡ f y + total f (elim t [ true ↦ xs | false ↦ x ∷ drop_by n xs ])
      go true e ih = ap (λ (z : A). f z + total f xs) (some-injective e)
      go false e ih = omega (arith, ih e)

  pub drop-length : (n : ℕ) (xs : List A) (x : A) → find_by n xs ≡ some x → length xs ≡ suc (length (drop_by n xs))
  unfolding find_by drop_by
  drop-length n [] y e = absurd (none≢some e)
  drop-length n (x ∷ xs) y e = go (eqb n (key x)) e (drop-length n xs y)
    where
      go : (t : Bool) → elim t [ true ↦ some x | false ↦ find_by n xs ] ≡ some y → (find_by n xs ≡ some y → length xs ≡ suc (length (drop_by n xs)))
          → suc (length xs) ≡ suc (length {A = A} (elim t [ true ↦ xs | false ↦ x ∷ drop_by n xs ]))
      go true e ih = refl
      go false e ih = ap suc (ih e)

  pub drop_all : (P : A → Type 0) (n : ℕ) (xs : List A) → All P xs → All P (drop_by n xs)
  unfolding drop_by
  drop_all P n [] h = tt
  drop_all P n (x ∷ xs) h = go (eqb n (key x)) (drop_all P n xs h.1)
    where
      go : (t : Bool) → All P (drop_by n xs) → All P (elim t [ true ↦ xs | false ↦ x ∷ drop_by n xs ])
      go true ih = h.1
      go false ih = (h.0, ih)

  pub drop-up : (i n : ℕ) (xs : List A) → Up i (map key xs) → Up i (map key (drop_by n xs))
  unfolding drop_by
  drop-up i n [] u = tt
  drop-up i n (x ∷ xs) u = go (eqb n (key x)) (drop-up (suc (key x)) n xs u.1)
    where
      go : (t : Bool) → Up (suc (key x)) (map key (drop_by n xs)) → Up i (map key (elim t [ true ↦ xs | false ↦ x ∷ drop_by n xs ]))
      go true ih = up_from i (suc (key x)) (map key xs) (omega (arith, u.0)) u.1
      go false ih = (u.0, ih)

  -- no other falls away, and none of that number is left
  pub drop-times : (m n : ℕ) (xs : List A) → times m (map key (drop_by n xs)) ≤ times m (map key xs)
  unfolding drop_by times
  drop-times m n [] = omega arith
  drop-times m n (x ∷ xs) = go (eqb n (key x)) (drop-times m n xs)
    where
      go : (t : Bool) → times m (map key (drop_by n xs)) ≤ times m (map key xs)
          → times m (map key (elim t [ true ↦ xs | false ↦ x ∷ drop_by n xs ])) ≤ same m (key x) + times m (map key xs)
      go true ih = omega arith
      go false ih = omega arith

  pub drop-gone : (i n : ℕ) (xs : List A) → Up i (map key xs) → times n (map key (drop_by n xs)) ≡ 0
  unfolding drop_by times
  drop-gone i n [] u = refl
  drop-gone i n (x ∷ xs) u = go (same? n (key x)) (drop-gone (suc (key x)) n xs u.1)
    where
      go : Same? n (key x) → times n (map key (drop_by n xs)) ≡ 0 → times n (map key (elim (eqb n (key x)) [ true ↦ xs | false ↦ x ∷ drop_by n xs ])) ≡ 0
      go (is a b c) ih = rw a (up_none (suc (key x)) n (map key xs) (omega arith) u.1)
      go (isnt a b c) ih = rw a (omega arith)

  pub keep-times : (m : ℕ) (r : A) (xs : List A) → times m (map key (keep_by r xs)) ≡ same m (key r) + times m (map key xs)
  unfolding keep_by times
  keep-times m r [] = refl
  keep-times m r (x ∷ xs) = go (ltb (key r) (key x)) (keep-times m r xs)
    where
      go : (t : Bool) → times m (map key (keep_by r xs)) ≡ same m (key r) + times m (map key xs)
          → times m (map key (elim t [ true ↦ r ∷ x ∷ xs | false ↦ x ∷ keep_by r xs ])) ≡ same m (key r) + (same m (key x) + times m (map key xs))
      go true ih = refl
      go false ih = omega arith

-- none has the number n: each has another
pub none_has : {A : Type 0} (key : A → ℕ) (n : ℕ) (xs : List A) → times n (map key xs) ≡ 0 → All (λ (x : A). n ≢ key x) xs
unfolding times
none_has key n [] z = tt
none_has {A} key n (x ∷ xs) z = (go (same? n (key x)), none_has key n xs (omega arith))
  where
    go : Same? n (key x) → n ≢ key x
    go (is a b c) = absurd (omega arith)
    go (isnt a b c) = b

-- ---- the state's lists are such lists

abbrev pub row_id : Basic → ℕ
row_id b = b.symbol.id

pub keep_row-is : (r : Basic) (bs : List Basic) → keep_row r bs ≡ keep_by row_id r bs
unfolding keep_row keep_by
keep_row-is r [] = refl
keep_row-is r (b ∷ bs) = ap (λ (z : List Basic). elim (ltb (row_id r) (row_id b)) as (λ _. List Basic) [ true ↦ r ∷ b ∷ bs | false ↦ b ∷ z ]) (keep_row-is r bs)

pub drop_row-is : (n : ℕ) (bs : List Basic) → drop_row n bs ≡ drop_by row_id n bs
unfolding drop_row drop_by is_symbol
drop_row-is n [] = refl
drop_row-is n (b ∷ bs) = ap (λ (z : List Basic). elim (eqb n (row_id b)) as (λ _. List Basic) [ true ↦ bs | false ↦ b ∷ z ]) (drop_row-is n bs)

-- a row found is a member's
pub data Row? (n : ℕ) (bs : List Basic) : Option Row → Type 0 where
  no_row : find_by row_id n bs ≡ none → Row? n bs none
  a-row : (b : Basic) → find_by row_id n bs ≡ some b → Row? n bs (some b.row)

pub row? : (n : ℕ) (bs : List Basic) → Row? n bs (find_row n bs)
unfolding find_row find_by is_symbol
row? n [] = no_row refl
row? n (b ∷ bs) = go (same? n (row_id b)) (row? n bs)
  where
    go : Same? n (row_id b) → Row? n bs (find_row n bs) → Row? n (b ∷ bs) (elim (eqb n (row_id b)) [ true ↦ some b.row | false ↦ find_row n bs ])
    go (is p q r) ih = rw p (a-row b (rw (p, find_by)))
    go (isnt p q r) ih = rw p (more (find_row n bs) ih)
      where
        more : (o : Option Row) → Row? n bs o → Row? n (b ∷ bs) o
        more o (no_row e) = no_row (rw (p, find_by) e)
        more o (a-row c e) = a-row c (rw (p, find_by) e)

pub keep_variable-is : (r : Variable) (xs : List Variable) → keep_variable r xs ≡ keep_by (λ (v : Variable). v.number) r xs
unfolding keep_variable keep_by
keep_variable-is r [] = refl
keep_variable-is r (x ∷ xs) =
    ap (λ (z : List Variable). elim (ltb r.number x.number) as (λ _. List Variable) [ true ↦ r ∷ x ∷ xs | false ↦ x ∷ z ]) (keep_variable-is r xs)

pub find_variable-is : (n : ℕ) (xs : List Variable) → find_variable n xs ≡ find_by (λ (v : Variable). v.number) n xs
unfolding find_variable find_by
find_variable-is n [] = refl
find_variable-is n (x ∷ xs) = ap (λ (z : Option Variable). elim (eqb n x.number) as (λ _. Option Variable) [ true ↦ some x | false ↦ z ]) (find_variable-is n xs)

pub keep_constraint-is : (r : Constraint) (xs : List Constraint) → keep_constraint r xs ≡ keep_by (λ (c : Constraint). c.number) r xs
unfolding keep_constraint keep_by
keep_constraint-is r [] = refl
keep_constraint-is r (x ∷ xs) =
    ap (λ (z : List Constraint). elim (ltb r.number x.number) as (λ _. List Constraint) [ true ↦ r ∷ x ∷ xs | false ↦ x ∷ z ]) (keep_constraint-is r xs)

pub drop_constraint-is : (n : ℕ) (xs : List Constraint) → drop_constraint n xs ≡ drop_by (λ (c : Constraint). c.number) n xs
unfolding drop_constraint drop_by
drop_constraint-is n [] = refl
drop_constraint-is n (x ∷ xs) = ap (λ (z : List Constraint). elim (eqb n x.number) as (λ _. List Constraint) [ true ↦ xs | false ↦ x ∷ z ]) (drop_constraint-is n xs)

pub find_constraint-is : (n : ℕ) (xs : List Constraint) → find_constraint n xs ≡ find_by (λ (c : Constraint). c.number) n xs
unfolding find_constraint find_by
find_constraint-is n [] = refl
find_constraint-is n (x ∷ xs) = ap (λ (z : Option Constraint). elim (eqb n x.number) as (λ _. Option Constraint) [ true ↦ some x | false ↦ z ]) (find_constraint-is n xs)

pub keep_edit-is : (r : Edit) (xs : List Edit) → keep_edit r xs ≡ keep_by (λ (e : Edit). e.variable) r xs
unfolding keep_edit keep_by
keep_edit-is r [] = refl
keep_edit-is r (x ∷ xs) = ap (λ (z : List Edit). elim (ltb r.variable x.variable) as (λ _. List Edit) [ true ↦ r ∷ x ∷ xs | false ↦ x ∷ z ]) (keep_edit-is r xs)

pub drop_edit-is : (n : ℕ) (xs : List Edit) → drop_edit n xs ≡ drop_by (λ (e : Edit). e.variable) n xs
unfolding drop_edit drop_by
drop_edit-is n [] = refl
drop_edit-is n (x ∷ xs) = ap (λ (z : List Edit). elim (eqb n x.variable) as (λ _. List Edit) [ true ↦ xs | false ↦ x ∷ z ]) (drop_edit-is n xs)

pub find_edit-is : (n : ℕ) (xs : List Edit) → find_edit n xs ≡ find_by (λ (e : Edit). e.variable) n xs
unfolding find_edit find_by
find_edit-is n [] = refl
find_edit-is n (x ∷ xs) = ap (λ (z : Option Edit). elim (eqb n x.variable) as (λ _. Option Edit) [ true ↦ some x | false ↦ z ]) (find_edit-is n xs)
