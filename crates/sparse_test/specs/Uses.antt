-- The uses' test over places is the state's: "use counts are those of the stored terms".
-- Assumes nothing.
use Prim.Native.Nat.{ℕ, ◌+◌, ◌≤◌, ◌<◌}
use Rattle.std.specs.Prelude.{◌≡◌, Bool, get_or, replicate}
use Rattle.std.proofs.Math.Path.{refl, sym, ap}
use Rattle.std.proofs.Common.{◌∙◌, arith}
use Rattle.std.proofs.Math.Bool.{true, false, cond}
use mathlib.Core.List.{List, [], ◌∷◌, map}
use Rattle.std.proofs.Math.Nat.{zero-add}
use Rattle.std.proofs.Math.Dec.{eqb, ltb}
use Rattle.std.proofs.lemmas.List.{get_or-replicate}
use borrow.Author.Tests.{eqb-true, eqb-false, eq-eqb, ne_eqb, ltb-true, ltb-false, lt-ltb}
use Rattle.laws.specs.Lists.{list_of, all_in}
use Rattle.layout.specs.Rooms.{both}
use Rattle.steps.specs.State.{Term, Variable}
use Rattle.steps.specs.Tests.{member}
use Rattle.steps.specs.Readable as steps
use Rattle.keeps.specs.Lists.{All, all-out}
use Rattle.layout.specs.cells.Seek.{first-elim, first-at}
use Rattle.rows.specs.places.Finding.{place_in, place-le, place-live, place_at, Apart, all-at, at_all}
use Rattle.rows.specs.places.Listed.{join, map-list, member-list, at_listed, listed_at}
use Rattle.rows.specs.places.Spent.{count_of}
use Rattle.sparse.specs.Places.{most_variables, variable_numbers_at, variable_uses_at, variable_places_at, edit_variables_at, terms_at}
use Rattle.sparse.specs.Sparse.{Sparse, variable_count, constraint_count, edit_count, number_at, variable_of, terms_from, read}
use Rattle.sparse.specs.Form.{index_at, index-named}
use Rattle.sparse_test.specs.Views.{map-append, asked, variable_of_term, stored-are, numbers-are}
use Rattle.sparse_test.specs.Tested.{index_in, number_in, count_uses, no_uses, all_uses, uses_are, uses_fit, term_count}
use Rattle.sparse_test.specs.Tally.{tally_each, tally-append, run-tally, tally-at}
use Rattle.sparse_test.specs.Injective.{count_map}

uses-count : (x : ℕ) (ts : List Term) → steps.uses_in x ts ≡ count_of x (map variable_of_term ts)
unfolding steps.uses_in count_of
uses-count x [] = refl
uses-count x (y ∷ ts) = ap (λ (n : ℕ). cond (eqb x y.variable) 1 0 + n) (uses-count x ts)

module _ (t : Sparse) where
  abbrev byte : ℕ → ℕ
  byte j = get_or t.bytes j 0

  abbrev v : ℕ
  v = variable_count t

  abbrev place_byte : ℕ → ℕ
  place_byte j = byte (variable_places_at + j)

  abbrev word : ℕ → ℕ
  word j = get_or t.words j 0

  pub index_is : (p : ℕ) → index_at t p ≡ index_in t.bytes v p
  unfolding index_at index_in place_in
  index_is p = refl

  abbrev Named : ℕ → Type 0
  Named p = index_at t p < variable_count t

  -- ---- the loops count each term and each edit

  abbrev indexes : List ℕ
  indexes = map (index_at t) (asked t)

  uses-tallied : all_uses t.bytes v (edit_count t) (term_count t.bytes (constraint_count t)) ≡ tally_each indexes no_uses
  unfolding all_uses count_uses index_at index_in place_in term_count terms_from
  uses-tallied =
      let m : ℕ = term_count t.bytes (constraint_count t) in
      let ts : ℕ → ℕ = λ j. byte (terms_at + j) in
      let es : ℕ → ℕ = λ i. byte (edit_variables_at + i) in
      run-tally (λ i. index_at t (es i)) (edit_count t) _
      ∙ ap (tally_each (list_of (edit_count t) λ i. index_at t (es i))) (run-tally (λ j. index_at t (ts j)) m no_uses)
      ∙ sym (tally-append (list_of m λ j. index_at t (ts j)) (list_of (edit_count t) λ i. index_at t (es i)) no_uses)
      ∙ ap (λ (l : List ℕ). tally_each l no_uses) (sym (map-append (index_at t) (list_of m ts) (list_of (edit_count t) es) ∙ (rw (map-list (index_at t) m ts, map-list (index_at t) (edit_count t) es) refl)))

  tallied-at : v ≤ most_variables → (j : ℕ) → j ≤ v → get_or (tally_each indexes no_uses) j 0 ≡ count_of j indexes
  unfolding no_uses
  tallied-at few j h = tally-at indexes (replicate 33 0) j (omega (arith, few, h)) ∙ (rw (get_or-replicate {A = ℕ} 33 j 0 0 (omega (arith, few, h)), zero-add (count_of j indexes)) refl)

  abbrev fit : Bool
  fit = uses_fit t.words t.bytes v (edit_count t) (term_count t.bytes (constraint_count t))

  abbrev Spent : Type 0
  Spent = ((j : ℕ) → j < v → word (variable_uses_at + j) ≡ count_of (place_byte j) (asked t)) × All Named (asked t)

  index-le : (p : ℕ) → index_at t p ≤ v
  unfolding index_at place_in
  index-le p = place-le place_byte v p

  none_last : (l : List ℕ) → count_of v (map (index_at t) l) ≡ 0 → All Named l
  unfolding count_of
  none_last [] h = tt
  none_last (x ∷ l) h = go (eqb v (index_at t x)) refl h (λ q. none_last l q)
    where
      go : (b : Bool) → eqb v (index_at t x) ≡ b → cond b 1 0 + count_of v (map (index_at t) l) ≡ 0 → (count_of v (map (index_at t) l) ≡ 0 → All Named l) → All Named (x ∷ l)
      go true q r f = absurd (omega (arith, r))
      go false q r f = let n = eqb-false v (index_at t x) q in let le = index-le x in (omega (arith, n, le), f (omega (arith, r)))

  last_none : (l : List ℕ) → All Named l → count_of v (map (index_at t) l) ≡ 0
  unfolding count_of
  last_none [] h = refl
  last_none (x ∷ l) h =
      let u = h.0 in
      rw (ne_eqb v (index_at t x) (λ e. omega (arith, e, u))) (zero-add _ ∙ last_none l h.1)

  one_index : (x y : ℕ) → Named x → Named y → index_at t x ≡ index_at t y → x ≡ y
  one_index x y p q e = sym (index-named t x p).0 ∙ ap place_byte e ∙ (index-named t y q).0

  own-index : Apart place_byte v → (j : ℕ) → j < v → index_at t (place_byte j) ≡ j
  unfolding index_at place_in
  own-index apart j h = place_at place_byte v j apart h

  -- a variable is counted as often as its place is named
  counted-at : Apart place_byte v → All Named (asked t) → (j : ℕ) → j < v → count_of j indexes ≡ count_of (place_byte j) (asked t)
  counted-at apart all j h =
      let o = own-index apart j h in
      ap (λ (i : ℕ). count_of i indexes) (sym o) ∙ count_map (index_at t) Named one_index (place_byte j) (asked t) (rw o h) all

  fit-spent : Apart place_byte v → v ≤ most_variables → fit ≡ true → Spent
  unfolding uses_fit uses_are
  fit-spent apart few h =
      let q : uses_are t.words (tally_each indexes no_uses) v ≡ true = rw uses-tallied at h in
      let f = both (all_in (λ i. eqb (word (variable_uses_at + i)) (get_or (tally_each indexes no_uses) i 0)) 0 v) _ q in
      let all = none_last (asked t) (sym (tallied-at few v (omega arith)) ∙ eqb-true _ _ f.1) in
      (λ j u. eqb-true _ _ (all-at (λ i. eqb (word (variable_uses_at + i)) (get_or (tally_each indexes no_uses) i 0)) 0 v f.0 j (omega arith) u) ∙ tallied-at few j (omega (arith, u)) ∙ counted-at apart all j u, all)

  spent-fit : Apart place_byte v → v ≤ most_variables → Spent → fit ≡ true
  unfolding uses_fit uses_are
  spent-fit apart few q =
      rw uses-tallied (join
      (at_all _ 0 v λ j a u. eq-eqb _ _ (q.0 j u ∙ sym (tallied-at few j (omega (arith, u)) ∙ counted-at apart q.1 j u)))
      (eq-eqb _ _ (tallied-at few v (omega arith) ∙ last_none (asked t) q.1)))

  -- ---- a variable's number has one place

  abbrev pub NumbersUp : Type 0
  NumbersUp = (i j : ℕ) → i < j → j < variable_count t → get_or t.words (variable_numbers_at + i) 0 < get_or t.words (variable_numbers_at + j) 0

  same_index : NumbersUp → (i j : ℕ) → i < v → j < v → word (variable_numbers_at + i) ≡ word (variable_numbers_at + j) → i ≡ j
  same_index up i j a b q = go (ltb i j) refl (ltb j i) refl
    where
      go : (x : Bool) → ltb i j ≡ x → (y : Bool) → ltb j i ≡ y → i ≡ j
      go true c y d = let l = up i j (ltb-true i j c) b in absurd (omega (arith, l, q))
      go false c true d = let l = up j i (ltb-true j i d) a in absurd (omega (arith, l, q))
      go false c false d = omega (arith, ltb-false i j c, ltb-false j i d)

  one_place : NumbersUp → (x y : ℕ) → Named x → Named y → number_at t x ≡ number_at t y → x ≡ y
  one_place up x y p q e =
      let a = index-named t x p in
      let b = index-named t y q in
      let i : index_at t x ≡ index_at t y = same_index up (index_at t x) (index_at t y) p q (sym a.1 ∙ e ∙ b.1) in
      sym a.0 ∙ ap place_byte i ∙ b.0

  own-number : Apart place_byte v → (j : ℕ) → j < v → number_at t (place_byte j) ≡ word (variable_numbers_at + j)
  own-number apart j h =
      let i = own-index apart j h in
      (index-named t (place_byte j) (rw i h)).1 ∙ ap (λ (i : ℕ). word (variable_numbers_at + i)) i

  -- a variable is used as often as its number stands in the terms
  used : NumbersUp → Apart place_byte v → All Named (asked t) → (j : ℕ) → j < v → steps.uses_in (word (variable_numbers_at + j)) (steps.stored_terms (read t)) ≡ count_of (place_byte j) (asked t)
  used up apart all j h =
      uses-count (word (variable_numbers_at + j)) (steps.stored_terms (read t))
      ∙ ap (count_of (word (variable_numbers_at + j))) (stored-are t)
      ∙ ap (λ (n : ℕ). count_of n (map (number_at t) (asked t))) (sym (own-number apart j h))
      ∙ count_map (number_at t) Named (one_place up) (place_byte j) (asked t) (rw (own-index apart j h) h) all

  abbrev used_right : Variable → Bool
  used_right x = eqb x.uses (steps.uses_in x.number (steps.stored_terms (read t)))

  known : All Named (asked t) → steps.all_in (map variable_of_term (steps.stored_terms (read t))) (steps.numbers (read t)) ≡ true
  unfolding steps.all_in
  known all = rw (stored-are t, numbers-are t) (all-out _ (map (number_at t) (asked t)) (mapped (asked t) all))
    where
      mapped : (l : List ℕ) → All Named l → All (λ n. member n (list_of v λ j. word (variable_numbers_at + j)) ≡ true) (map (number_at t) l)
      mapped [] h = tt
      mapped (x ∷ l) h = (
        member-list v (λ j. word (variable_numbers_at + j)) (number_at t x) ∙ lt-ltb _ _ (place-live (λ j. word (variable_numbers_at + j)) v (number_at t x) (index_at t x) h.0 (sym (index-named t x h.0).1)),
        mapped l h.1,
      )

  pub uses-counted : NumbersUp → Apart place_byte v → v ≤ most_variables → fit ≡ true → (steps.uses_counted (read t) ≡ true) × All Named (asked t)
  unfolding steps.uses_counted
  uses-counted up apart few h =
      let q = fit-spent apart few h in
      (join (counted q) (known q.1), q.1)
    where
      counted : Spent → steps.all used_right (read t).changes.variables ≡ true
      counted q = unfold read variable_of in at_listed used_right v (variable_of t) λ j h. eq-eqb _ _ (q.0 j h ∙ sym (used up apart q.1 j h))

  pub counted-uses : NumbersUp → Apart place_byte v → v ≤ most_variables → All Named (asked t) → steps.uses_counted (read t) ≡ true → fit ≡ true
  unfolding steps.uses_counted
  counted-uses up apart few all h =
      spent-fit apart few ((λ j u. eqb-true _ _ (at j u) ∙ used up apart all j u), all)
    where
      at : (j : ℕ) → j < v → eqb (word (variable_uses_at + j)) (steps.uses_in (word (variable_numbers_at + j)) (steps.stored_terms (read t))) ≡ true
      at j u = unfold read variable_of in listed_at used_right v (variable_of t) (both (steps.all used_right (read t).changes.variables) _ h).0 j u

  -- ---- a number by the place of its variable's symbol

  number-none : (p : ℕ) → (index_at t p < variable_count t → ⊥) → number_at t p ≡ 0
  unfolding number_at index_at
  number-none p f =
      first-elim (λ v. eqb p (place_byte v)) (λ v. word (variable_numbers_at + v)) 0 (λ (z : ℕ). z ≡ 0) 0 v (omega arith)
      (λ r a b e g. absurd (f (found r (first-at (λ v. eqb p (place_byte v)) (λ v. v) v 0 v r a b e g) b)))
      (λ g. refl)
    where
      found : (r : ℕ) → index_at t p ≡ r → r < v → index_at t p < v
      found r e h = omega (arith, e, h)

  pub number_is : (p : ℕ) → number_at t p ≡ number_in t.words t.bytes v p
  unfolding number_in
  number_is p = go (ltb (index_in t.bytes v p) v) refl
    where
      go : (b : Bool) → ltb (index_in t.bytes v p) v ≡ b → number_at t p ≡ cond b (word (variable_numbers_at + index_in t.bytes v p)) 0
      go true h = (index-named t p (rw (index_is p) (ltb-true _ _ h))).1 ∙ ap (λ (i : ℕ). word (variable_numbers_at + i)) (index_is p)
      go false h = number-none p λ l. let n = ltb-false (index_in t.bytes v p) v h in let i = index_is p in absurd (omega (arith, l, n, i))
