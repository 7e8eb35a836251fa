-- What a call that only asks answers, and the laws of looking something up in a list that is read out of the sparse tables.
-- Assumes nothing.
use Prim.Native.Nat.{ℕ, zero, suc, ◌+◌, ◌≤◌, ◌<◌}
use Rattle.std.specs.Prelude.{◌≡◌, Bool, Float}
use Rattle.std.proofs.Math.Path.{refl, sym, ap}
use Rattle.std.proofs.Common.{◌∙◌}
use Rattle.std.proofs.Math.Bool.{true, false, cond}
use mathlib.Core.List.{List, [], ◌∷◌}
use Rattle.std.proofs.Math.Option.{Option, none, some}
use Rattle.std.proofs.Math.Nat.{sub-zero}
use native.Mathlib.Omega.{arith}
use Rattle.std.proofs.Math.Dec.{eqb, ltb}
use Rattle.std.specs.Float.{nan}
use Rattle.std.proofs.Math.ListN.{get_or}
use borrow.Author.Tests.{eqb-true, eq-eqb, ne_eqb, ltb-true, ltb-false, lt-ltb, le-ltb}
use Rattle.laws.specs.Loops.{seek, first}
use Rattle.laws.specs.Lists.{tab, list_of}
use Rattle.layout.specs.Laying.{tab-from}
use Rattle.steps.specs.Number.{zero64}
use Rattle.steps.specs.Row.{Row}
use Rattle.steps.specs.Symbol.{Symbol, is_symbol}
use Rattle.steps.specs.State.{Basic, Variable, Constraint, Edit, State}
use Rattle.steps.specs.Work.{find_row}
use Rattle.steps.specs.Changes.{find_variable, value_of, value}
use Rattle.steps.specs.Tests.{find_constraint, find_edit, has_constraint, has_edit}
use Rattle.rows.specs.places.Finding.{place_in, place_is, place-live, Apart}
use Rattle.rows.specs.places.Listed.{same}
use Rattle.sparse.specs.Places.{ids_at, variable_numbers_at, constraint_numbers_at, row_places_at, variable_places_at, edit_variables_at, constants_at}
use Rattle.sparse.specs.Lookup.{place_from}
use Rattle.sparse.specs.Sparse.{Sparse, row_count, variable_count, constraint_count, edit_count, symbol_at, number_at, variable_of, constraint_of, edit_of, basic_of, basics_of, read}
use Rattle.sparse.specs.Form.{index_at, index-named, At, Form}
use Rattle.sparse_test.specs.Reads.{reads}

-- "Queries give false or 0.0 .. beside 18"
unfoldable pub asked : {A : Type 0} → (State → A) → A → Sparse → A
asked q otherwise t = cond (reads t) (q (read t)) otherwise

-- the constant of the row whose symbol stands at place p, 0.0 if there is none
unfoldable pub constant_of : List ℕ → List Float → ℕ → ℕ → Float
constant_of b f r p = cond (ltb (place_from b (row_places_at + 1) r p) r) (get_or f (constants_at + 1 + place_from b (row_places_at + 1) r p) nan) zero64

unfoldable pub value_in : List ℕ → List ℕ → List Float → ℕ → ℕ → ℕ → Float
value_in w b f v r n = cond (ltb (place_from w variable_numbers_at v n) v) (constant_of b f r (get_or b (variable_places_at + place_from w variable_numbers_at v n) 0)) zero64

-- ---- a look along a list that is read out of a table

module _ {A : Type 0} where
  abbrev or_else : Bool → A → Option A → Option A
  or_else b x r = elim b [ true ↦ some x | false ↦ r ]

  unfoldable find_by : (A → Bool) → List A → Option A
  find_by q [] = none
  find_by q (x ∷ xs) = or_else (q x) x (find_by q xs)

  find_by-is : (look : List A → Option A) (q : A → Bool) → look [] ≡ none → ((x : A) (xs : List A) → look (x ∷ xs) ≡ or_else (q x) x (look xs)) → (l : List A) → look l ≡ find_by q l
  unfolding find_by
  find_by-is look q h k [] = h
  find_by-is look q h k (x ∷ l) = k x l ∙ ap (λ (r : Option A). or_else (q x) x r) (find_by-is look q h k l)

  abbrev pick : (ℕ → A) → ℕ → ℕ → Option A
  pick g e z = cond (ltb z e) (some (g z)) none

  find_by-tab : (q : A → Bool) (g : ℕ → A) (f : ℕ → ℕ) (x e k i : ℕ) → ((j : ℕ) → j < e → q (g j) ≡ eqb x (f j)) → i + k ≡ e → find_by q (tab g i k) ≡ pick g e (seek (λ j. eqb x (f j)) (λ j. j) e k i)
  unfolding find_by tab seek
  find_by-tab q g f x e zero i h s = rw (le-ltb e e (omega arith)) refl
  find_by-tab q g f x e (suc k) i h s = rw (h i (omega arith)) (go (eqb x (f i)) (find_by-tab q g f x e k (suc i) h (omega arith)))
    where
      go : (b : Bool) → find_by q (tab g (suc i) k) ≡ pick g e (seek (λ j. eqb x (f j)) (λ j. j) e k (suc i)) → or_else b (g i) (find_by q (tab g (suc i) k)) ≡ pick g e (cond b i (seek (λ j. eqb x (f j)) (λ j. j) e k (suc i)))
      go true r = rw (lt-ltb i e (omega arith)) refl
      go false r = r

  find_by-list : (q : A → Bool) (k : ℕ) (g : ℕ → A) (f : ℕ → ℕ) (x : ℕ) → ((j : ℕ) → j < k → q (g j) ≡ eqb x (f j)) → find_by q (list_of k g) ≡ pick g k (place_in f k x)
  unfolding list_of place_in first
  find_by-list q k g f x h = rw (sub-zero k) (find_by-tab q g f x k k 0 h (omega arith))

none-tab : {A : Type 0} (q : A → Bool) (g : ℕ → A) (i m : ℕ) → ((j : ℕ) → i ≤ j → j < i + m → q (g j) ≡ false) → find_by q (tab g i m) ≡ none
unfolding find_by tab
none-tab q g i zero f = refl
none-tab q g i (suc m) f = rw (f i (omega arith) (omega arith)) (none-tab q g (suc i) m λ j a b. f j (omega arith) (omega arith))

none_found : {A : Type 0} (q : A → Bool) (g : ℕ → A) (k : ℕ) → ((j : ℕ) → j < k → q (g j) ≡ false) → find_by q (list_of k g) ≡ none
unfolding list_of
none_found q g k f = none-tab q g 0 k λ j a b. f j (omega (arith, b))

module _ {A B : Type 0} where
  abbrev picked : (A → B) → B → Option A → B
  picked f d o = elim o [ none ↦ d | some a ↦ f a ]

  cond-picked : (f : A → B) (d : B) (b : Bool) (x : A) → picked f d (cond b (some x) none) ≡ cond b (f x) d
  cond-picked f d true x = refl
  cond-picked f d false x = refl

cond-true-false : (b : Bool) → cond b true false ≡ b
cond-true-false true = refl
cond-true-false false = refl

constraint-by : (n : ℕ) (l : List Constraint) → find_constraint n l ≡ find_by (λ c. eqb n c.number) l
unfolding find_constraint
constraint-by n l = find_by-is (find_constraint n) (λ c. eqb n c.number) refl (λ x xs. refl) l

variable-by : (n : ℕ) (l : List Variable) → find_variable n l ≡ find_by (λ v. eqb n v.number) l
unfolding find_variable
variable-by n l = find_by-is (find_variable n) (λ v. eqb n v.number) refl (λ x xs. refl) l

one_of : (v : Bool) (b : Basic) (o : Option Row) (q : Option Basic) → picked (λ (r : Row). r.constant) zero64 o ≡ picked (λ (c : Basic). c.row.constant) zero64 q
    → picked (λ (r : Row). r.constant) zero64 (or_else v b.row o) ≡ picked (λ (c : Basic). c.row.constant) zero64 (or_else v b q)
one_of true b o q h = refl
one_of false b o q h = h

row_by : (x : ℕ) (l : List Basic) → picked (λ (r : Row). r.constant) zero64 (find_row x l) ≡ picked (λ (b : Basic). b.row.constant) zero64 (find_by (λ (b : Basic). eqb x b.symbol.id) l)
unfolding find_row find_by is_symbol
row_by x [] = refl
row_by x (b ∷ l) = one_of (eqb x b.symbol.id) b (find_row x l) (find_by (λ (c : Basic). eqb x c.symbol.id) l) (row_by x l)

-- ---- the queries, by the places of the tables

module _ (t : Sparse) (n : ℕ) where
  pub has-constraint : has_constraint n (read t) ≡ ltb (place_from t.words constraint_numbers_at (constraint_count t) n) (constraint_count t)
  unfolding has_constraint read constraint_of place_from
  has-constraint =
      let z : ℕ = place_in (λ j. get_or t.words (constraint_numbers_at + j) 0) (constraint_count t) n in
      ap (λ (o : Option Constraint). picked (λ _. true) false o) (constraint-by n (list_of (constraint_count t) (constraint_of t)) ∙ find_by-list (λ (c : Constraint). eqb n c.number) (constraint_count t) (constraint_of t) (λ j. get_or t.words (constraint_numbers_at + j) 0) n (λ j h. refl))
      ∙ cond-picked (λ _. true) false (ltb z (constraint_count t)) (constraint_of t z) ∙ cond-true-false _

  module _ (form : Form t) where
    -- live symbols' ids are the same just where their places are
    same_id : (p q : ℕ) → At t p → At t q → eqb (get_or t.words (ids_at + p) 0) (get_or t.words (ids_at + q) 0) ≡ eqb p q
    same_id p q a b = same _ _ (λ h. eq-eqb p q (one (eqb-true _ _ h) (ltb p q) refl (ltb q p) refl)) (λ h. eq-eqb _ _ (ap (λ (z : ℕ). get_or t.words (ids_at + z) 0) (eqb-true p q h)))
      where
        one : get_or t.words (ids_at + p) 0 ≡ get_or t.words (ids_at + q) 0 → (x : Bool) → ltb p q ≡ x → (y : Bool) → ltb q p ≡ y → p ≡ q
        one e true u y v = let l = form.ids p q a.0 (ltb-true p q u) b.1 in absurd (omega (arith, l, e))
        one e false u true v = let l = form.ids q p b.0 (ltb-true q p v) a.1 in absurd (omega (arith, l, e))
        one e false u false v = omega (arith, ltb-false p q u, ltb-false q p v)

    pub row-value : (v : Variable) (p : ℕ) → At t p → v.symbol ≡ symbol_at t p → value_of v (basics_of t) ≡ constant_of t.bytes t.reals (row_count t) p
    unfolding value_of basics_of basic_of constant_of place_from symbol_at
    row-value v p l e =
        let r : ℕ = row_count t in
        let x : ℕ = get_or t.words (ids_at + p) 0 in
        let f : ℕ → ℕ = λ j. get_or t.bytes (row_places_at + 1 + j) 0 in
        let g : ℕ → Basic = λ j. basic_of t (1 + j) in
        let o : (j : ℕ) → row_places_at + (1 + j) ≡ row_places_at + 1 + j = λ j. omega arith in
        ap (λ (s : ℕ). picked (λ (r : Row). r.constant) zero64 (find_row s (basics_of t))) (ap (λ (s : Symbol). s.id) e)
        ∙ row_by x (basics_of t)
        ∙ ap (λ (l : List Basic). picked (λ (b : Basic). b.row.constant) zero64 (find_by (λ (b : Basic). eqb x b.symbol.id) l)) (listed r)
        ∙ ap (λ (o : Option Basic). picked (λ (b : Basic). b.row.constant) zero64 o) (find_by-list (λ (b : Basic). eqb x b.symbol.id) r g f p (λ j h. rw (o j) (same_id p (f j) l (rw (o j) at (form.rows (1 + j) (omega arith) (omega (arith, h)))))))
        ∙ cond-picked (λ (b : Basic). b.row.constant) zero64 (ltb (place_in f r p) r) (g (place_in f r p))
        ∙ ap (λ (i : ℕ). cond (ltb (place_in f r p) r) (get_or t.reals i nan) zero64) (omega arith)
      where
        listed : (r : ℕ) → tab (basic_of t) 1 r ≡ list_of r λ j. basic_of t (1 + j)
        listed r = unfold list_of in sym (tab-from (basic_of t) 1 0 r)

    pub value-is : value n (read t) ≡ value_in t.words t.bytes t.reals (variable_count t) (row_count t) n
    unfolding value read value_in place_from
    value-is =
        let v : ℕ = variable_count t in
        let f : ℕ → ℕ = λ j. get_or t.words (variable_numbers_at + j) 0 in
        let z : ℕ = place_in f v n in
        ap (λ (o : Option Variable). picked (λ x. value_of x (basics_of t)) zero64 o) (variable-by n (list_of v (variable_of t)) ∙ find_by-list (λ (x : Variable). eqb n x.number) v (variable_of t) f n (λ j h. unfold variable_of in refl))
        ∙ cond-picked (λ x. value_of x (basics_of t)) zero64 (ltb z v) (variable_of t z)
        ∙ found (ltb z v) refl
      where
        found : (b : Bool) → ltb (place_in (λ j. get_or t.words (variable_numbers_at + j) 0) (variable_count t) n) (variable_count t) ≡ b
            → cond b (value_of (variable_of t (place_in (λ j. get_or t.words (variable_numbers_at + j) 0) (variable_count t) n)) (basics_of t)) zero64 ≡ cond b (constant_of t.bytes t.reals (row_count t) (get_or t.bytes (variable_places_at + place_in (λ j. get_or t.words (variable_numbers_at + j) 0) (variable_count t) n) 0)) zero64
        found false h = refl
        found true h = row-value (variable_of t _) (get_or t.bytes (variable_places_at + place_in (λ j. get_or t.words (variable_numbers_at + j) 0) (variable_count t) n) 0) (form.owners _ (ltb-true _ _ h)) (unfold variable_of in refl)

-- whether the variable of number n has an edit: its symbol's place is an edit's
unfoldable pub edit_in : List ℕ → List ℕ → ℕ → ℕ → ℕ → Bool
edit_in w b v e n = cond (ltb (place_from w variable_numbers_at v n) v) (ltb (place_from b edit_variables_at e (get_or b (variable_places_at + place_from w variable_numbers_at v n) 0)) e) false

edit-by : (n : ℕ) (l : List Edit) → find_edit n l ≡ find_by (λ e. eqb n e.variable) l
unfolding find_edit
edit-by n l = find_by-is (find_edit n) (λ e. eqb n e.variable) refl (λ x xs. refl) l

module _ (t : Sparse) (form : Form t) (apart : Apart (λ j. get_or t.bytes (variable_places_at + j) 0) (variable_count t)) (n : ℕ) where
  abbrev v : ℕ
  v = variable_count t

  abbrev number : ℕ → ℕ
  number j = get_or t.words (variable_numbers_at + j) 0

  abbrev place : ℕ → ℕ
  place j = get_or t.bytes (variable_places_at + j) 0

  abbrev edit : ℕ → ℕ
  edit j = get_or t.bytes (edit_variables_at + j) 0

  numbers_apart : (i j : ℕ) → i < v → j < v → number i ≡ number j → i ≡ j
  numbers_apart i j a b e = go (ltb i j) refl (ltb j i) refl
    where
      go : (x : Bool) → ltb i j ≡ x → (y : Bool) → ltb j i ≡ y → i ≡ j
      go true u y w = let l = form.numbers i j (ltb-true i j u) b in absurd (omega (arith, l, e))
      go false u true w = let l = form.numbers j i (ltb-true j i w) a in absurd (omega (arith, l, e))
      go false u false w = omega (arith, ltb-false i j u, ltb-false j i w)

  -- an edit is of the variable z just where it names the variable's place
  same-variable : (z q : ℕ) → z < v → index_at t q < v → eqb (number z) (number_at t q) ≡ eqb (place z) q
  same-variable z q h k =
      let i = index-named t q k in
      same _ _
      (λ e. eq-eqb (place z) q (ap place (numbers_apart z (index_at t q) h k (eqb-true (number z) (number_at t q) e ∙ i.1)) ∙ i.0))
      (λ e. eq-eqb (number z) (number_at t q) (ap number (apart z (index_at t q) h k (eqb-true (place z) q e ∙ sym i.0)) ∙ sym i.1))

  -- no edit is of a number that no variable has
  unknown : (place_in number v n < v → ⊥) → (j : ℕ) → j < edit_count t → eqb n (number_at t (edit j)) ≡ false
  unknown f j h =
      let i = index-named t (edit j) (form.edited j h) in
      ne_eqb n (number_at t (edit j)) λ e. f (place-live number v n (index_at t (edit j)) (form.edited j h) (sym i.1 ∙ sym e))

  pub has-edit : has_edit n (read t) ≡ edit_in t.words t.bytes v (edit_count t) n
  unfolding has_edit read edit_of edit_in place_from
  has-edit =
      ap (λ (o : Option Edit). picked (λ _. true) false o) (edit-by n (list_of (edit_count t) (edit_of t))) ∙ found (ltb (place_in number v n) v) refl
    where
      found : (b : Bool) → ltb (place_in number v n) v ≡ b → picked (λ _. true) false (find_by (λ (e : Edit). eqb n e.variable) (list_of (edit_count t) (edit_of t))) ≡ cond b (ltb (place_in edit (edit_count t) (place (place_in number v n))) (edit_count t)) false
      found false h = ap (λ (o : Option Edit). picked (λ _. true) false o) (none_found (λ (e : Edit). eqb n e.variable) (edit_of t) (edit_count t) λ j k. unknown (λ l. absurd (let m = ltb-false (place_in number v n) v h in omega (arith, l, m))) j k)
      found true h =
          let l = ltb-true (place_in number v n) v h in
          let e : number (place_in number v n) ≡ n = place_is number v n l in
          ap (λ (o : Option Edit). picked (λ _. true) false o) (find_by-list (λ (e : Edit). eqb n e.variable) (edit_count t) (edit_of t) edit (place (place_in number v n)) (λ j k. ap (λ (m : ℕ). eqb m (number_at t (edit j))) (sym e) ∙ same-variable (place_in number v n) (edit j) l (form.edited j k)))
          ∙ cond-picked (λ _. true) false (ltb (place_in edit (edit_count t) (place (place_in number v n))) (edit_count t)) (edit_of t (place_in edit (edit_count t) (place (place_in number v n)))) ∙ cond-true-false _

-- ---- what the code answers

module _ (t : Sparse) {x : Bool} (e : x ≡ reads t) {A : Type 0} (q : State → A) (d : A) where
  pub not-asked : x ≡ false → d ≡ asked q d t
  unfolding asked
  not-asked h = rw (← e, h) refl

  pub answered : x ≡ true → q (read t) ≡ asked q d t
  unfolding asked
  answered h = rw (← e, h) refl
