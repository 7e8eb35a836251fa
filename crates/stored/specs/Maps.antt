-- Places of one set of tables named by the places of another: a symbol by its id, a variable by its number. Both lists ascend, and one walk goes along both.
-- Assumes nothing.
use Rattle.std.specs.Prelude.{ℕ, ◌+◌, ◌≤◌, ◌<◌, ◌≡◌, refl, Bool, true, false, List, ltb, length, get_or, set}
use Rattle.std.proofs.Common.{sym, ◌∙◌, arith, length-set, get_or-set_same, get_or-set_other, ltb-true, ltb-false}
use Rattle.laws.specs.Lists.{sum_in}
use Rattle.layout.specs.cells.Names.{last_place, place_room}
use Rattle.sparse.specs.Places.{most_variables, most_constraints, most_terms, symbol_count_at, variable_count_at, constraint_count_at, edit_count_at, ids_at, variable_numbers_at, constraint_numbers_at, variable_places_at, constraint_markers_at, term_counts_at}
use Rattle.sparse.specs.Lookup.{Ascends, place_from, place_here}
use Rattle.sparse.specs.Sparse.{Sparse, variable_count, terms_from}
use Rattle.sparse.specs.Form.{Form}

-- the numbers at base + lo and on, before base + e, ascend
abbrev pub Rise : List ℕ → ℕ → ℕ → ℕ → Type 0
Rise l base lo e = (i j : ℕ) → lo ≤ i → i < j → j < e → get_or l (base + i) 0 < get_or l (base + j) 0

-- each variable has a symbol of its own
abbrev pub Apart : Sparse → Type 0
Apart t = (i j : ℕ) → i < j → j < variable_count t → get_or t.bytes (variable_places_at + i) 0 ≡ get_or t.bytes (variable_places_at + j) 0 → ⊥

-- what the walks along names take for granted
pub record Names (words bytes : List ℕ) : Type 0 where
  pub symbols : get_or words symbol_count_at 0 ≤ last_place
  pub variables : get_or words variable_count_at 0 ≤ most_variables
  pub ids : Rise words ids_at 1 (1 + get_or words symbol_count_at 0)
  pub numbers : Rise words variable_numbers_at 0 (get_or words variable_count_at 0)
  pub apart : (i j : ℕ) → i < j → j < get_or words variable_count_at 0 → get_or bytes (variable_places_at + i) 0 ≡ get_or bytes (variable_places_at + j) 0 → ⊥

pub names-ascend : {words bytes : List ℕ} → Names words bytes → Ascends words variable_numbers_at (get_or words variable_count_at 0)
names-ascend n i j h k = n.numbers i j (omega arith) h k

-- how many terms the c-th constraint has
abbrev pub counts_in : List ℕ → ℕ → ℕ
counts_in bytes c = get_or bytes (term_counts_at + c) 0

-- and those along records
pub record Stores (words bytes : List ℕ) : Type 0 where
  pub names : Names words bytes
  pub constraints : get_or words constraint_count_at 0 ≤ most_constraints
  pub edits : get_or words edit_count_at 0 ≤ most_constraints
  pub terms : sum_in (counts_in bytes) 0 (get_or words constraint_count_at 0) ≤ most_terms

pub stores : (t : Sparse) → Form t → Apart t → Stores t.words t.bytes
unfolding terms_from
stores t f a =
    record {
      names =
          record {
            symbols = f.counts.symbols;
            variables = f.counts.variables;
            ids = λ i j h k l. f.ids i j h k (omega (arith, l));
            numbers = λ i j h k l. f.numbers i j k l;
            apart = a;
          };
      constraints = f.counts.constraints;
      edits = f.counts.edits;
      terms = f.counts.terms;
    }

-- names stand before the records: what changes among those leaves them
pub names_same : (w b w' b' : List ℕ) → Names w b → ((q : ℕ) → q < constraint_numbers_at → get_or w' q 0 ≡ get_or w q 0) → ((q : ℕ) → q < constraint_markers_at → get_or b' q 0 ≡ get_or b q 0) → Names w' b'
names_same w b w' b' n f g =
    let k : get_or w' symbol_count_at 0 ≡ get_or w symbol_count_at 0 = f symbol_count_at (omega arith) in
    let v : get_or w' variable_count_at 0 ≡ get_or w variable_count_at 0 = f variable_count_at (omega arith) in
    let a = n.symbols in
    let c = n.variables in
    record {
      symbols = rw k n.symbols;
      variables = rw v n.variables;
      ids = λ i j h l m. rw (f (ids_at + i) (omega (arith, l, m, k, a)), f (ids_at + j) (omega (arith, m, k, a))) (n.ids i j h l (rw k at m));
      numbers = λ i j h l m. rw (f (variable_numbers_at + i) (omega (arith, l, m, v, c)), f (variable_numbers_at + j) (omega (arith, m, v, c))) (n.numbers i j h l (rw v at m));
      apart = λ i j h l e. n.apart i j h (rw v at l) (sym (g (variable_places_at + i) (omega (arith, h, l, v, c))) ∙ e ∙ g (variable_places_at + j) (omega (arith, l, v, c)));
    }

-- r is the first of the places from lo on, before e, whose number is no smaller than x
pub record Sought (l : List ℕ) (base lo e x r : ℕ) : Type 0 where
  pub low : lo ≤ r
  pub high : r ≤ e
  pub below : (i : ℕ) → lo ≤ i → i < r → get_or l (base + i) 0 < x
  pub reached : r < e → x ≤ get_or l (base + r) 0

-- a place that has this number, where they ascend: what was passed before is smaller
pub sought-is : (l : List ℕ) (base start lo e x r : ℕ) → start ≤ lo → Rise l base start e → Sought l base lo e x r → ((i : ℕ) → start ≤ i → i < lo → get_or l (base + i) 0 < x) → (j : ℕ) → start ≤ j → j < e → get_or l (base + j) 0 ≡ x → r ≡ j
sought-is l base start lo e x r from up s under j a b q = go (ltb j r) refl (ltb r j) refl
  where
    smaller : j < r → ⊥
    smaller h = by (ltb j lo) refl
      where
        by : (t : Bool) → ltb j lo ≡ t → ⊥
        by true z = let m = under j a (ltb-true j lo z) in omega (arith, m, q)
        by false z = let m = s.below j (ltb-false j lo z) h in omega (arith, m, q)

    greater : r < j → ⊥
    greater h =
        let m = s.reached (omega (arith, h, b)) in
        let n = up r j (omega (arith, from, s.low)) h b in
        omega (arith, n, m, q)

    go : (t : Bool) → ltb j r ≡ t → (v : Bool) → ltb r j ≡ v → r ≡ j
    go true z v y = absurd (smaller (ltb-true j r z))
    go false z true y = absurd (greater (ltb-true r j y))
    go false z false y = let m = ltb-false j r z in let n = ltb-false r j y in omega (arith, m, n)

-- the place q of the ids, if it is before e and has this id
abbrev pub TagHere : List ℕ → ℕ → ℕ → ℕ → ℕ → Type 0
TagHere w e q id r = q < e → get_or w (ids_at + q) 0 ≡ id → r ≡ q

-- the place of the q-th variable's symbol, if it is before e and has this number
abbrev pub VariableHere : List ℕ → List ℕ → ℕ → ℕ → ℕ → ℕ → Type 0
VariableHere w b e q n r = q < e → get_or w (variable_numbers_at + q) 0 ≡ n → r ≡ get_or b (variable_places_at + q) 0

-- the place of the symbol of the variable of this number, if there is one
abbrev pub NumberPlace : List ℕ → List ℕ → ℕ → ℕ → Type 0
NumberPlace w b n r = (j : ℕ) → j < get_or w variable_count_at 0 → get_or w (variable_numbers_at + j) 0 ≡ n → r ≡ get_or b (variable_places_at + j) 0

-- ---- the walk itself

pub seek-next : (l : List ℕ) (base lo x q : ℕ) → ((i : ℕ) → lo ≤ i → i < q → get_or l (base + i) 0 < x) → get_or l (base + q) 0 < x → (i : ℕ) → lo ≤ i → i < q + 1 → get_or l (base + i) 0 < x
seek-next l base lo x q f h i a b = go (ltb i q) refl
  where
    go : (t : Bool) → ltb i q ≡ t → get_or l (base + i) 0 < x
    go true z = f i a (ltb-true i q z)
    go false z =
        let m = ltb-false i q z in
        let o : i ≡ q = omega (arith, b, m) in
        rw o h

-- ---- symbols

-- the place in `to` of the symbol that stands at place p of `from`
pub record TagPlaces (from to r : List ℕ) : Type 0 where
  pub long : length r ≡ place_room
  pub none : get_or r 0 0 ≡ 0
  pub at : (p q : ℕ) → 1 ≤ p → p ≤ get_or from symbol_count_at 0 → 1 ≤ q → q ≤ get_or to symbol_count_at 0 → get_or to (ids_at + q) 0 ≡ get_or from (ids_at + p) 0 → get_or r p 0 ≡ q

-- the same for the places before p; the walk along `to` is at q
pub record TagsTo (from to r : List ℕ) (q p : ℕ) : Type 0 where
  pub long : length r ≡ place_room
  pub none : get_or r 0 0 ≡ 0
  pub at : (p' q' : ℕ) → 1 ≤ p' → p' < p → 1 ≤ q' → q' ≤ get_or to symbol_count_at 0 → get_or to (ids_at + q') 0 ≡ get_or from (ids_at + p') 0 → get_or r p' 0 ≡ q'
  pub low : 1 ≤ q
  pub high : q ≤ 1 + get_or to symbol_count_at 0
  pub passed : (i p' : ℕ) → 1 ≤ i → i < q → p ≤ p' → p' ≤ get_or from symbol_count_at 0 → get_or to (ids_at + i) 0 < get_or from (ids_at + p') 0

pub tags-none : (from to r : List ℕ) → length r ≡ place_room → get_or r 0 0 ≡ 0 → TagsTo from to r 1 1
tags-none from to r l z =
    record {
      long = l;
      none = z;
      at = λ p' q' a b. absurd (omega (arith, a, b));
      low = omega arith;
      high = omega arith;
      passed = λ i p' a b. absurd (omega (arith, a, b));
    }

module _ (from to : List ℕ) (up : Rise from ids_at 1 (1 + get_or from symbol_count_at 0)) (rise : Rise to ids_at 1 (1 + get_or to symbol_count_at 0)) (e : ℕ) (ends : e ≡ 1 + get_or to symbol_count_at 0) where
  pub tags-next : (r : List ℕ) (q p : ℕ) {q' x : ℕ} → 1 ≤ p → p < place_room → p ≤ get_or from symbol_count_at 0 → TagsTo from to r q p → Sought to ids_at q e (get_or from (ids_at + p) 0) q' → TagHere to e q' (get_or from (ids_at + p) 0) x → TagsTo from to (set r p x) q' (p + 1)
  tags-next r q p {q'} {x} a w b t s here? =
      record {
        long = length-set r p x ∙ t.long;
        none = get_or-set_other r p 0 x 0 (λ z. omega (arith, z, a)) ∙ t.none;
        at = λ p' j c d f g h. here p' j c d f g h (ltb p' p) refl;
        low = omega (arith, t.low, s.low);
        high = omega (arith, s.high, ends);
        passed = λ i p' c d f g. let m = under i p' c d in let n = up p p' a (omega (arith, f)) (omega (arith, g)) in omega (arith, m, n);
      }
    where
      before : (i : ℕ) → 1 ≤ i → i < q → get_or to (ids_at + i) 0 < get_or from (ids_at + p) 0
      before i c d = t.passed i p c d (omega arith) b

      under : (i p' : ℕ) → 1 ≤ i → i < q' → get_or to (ids_at + i) 0 < get_or from (ids_at + p) 0
      under i p' c d = go (ltb i q) refl
        where
          go : (v : Bool) → ltb i q ≡ v → get_or to (ids_at + i) 0 < get_or from (ids_at + p) 0
          go true z = before i c (ltb-true i q z)
          go false z = s.below i (ltb-false i q z) d

      here : (p' j : ℕ) → 1 ≤ p' → p' < p + 1 → 1 ≤ j → j ≤ get_or to symbol_count_at 0 → get_or to (ids_at + j) 0 ≡ get_or from (ids_at + p') 0 → (v : Bool) → ltb p' p ≡ v → get_or (set r p x) p' 0 ≡ j
      here p' j c d f g h true z =
          let l = ltb-true p' p z in
          get_or-set_other r p p' x 0 (λ y. omega (arith, l, y)) ∙ t.at p' j c l f g h
      here p' j c d f g h false z =
          let l = ltb-false p' p z in
          let o : p' ≡ p = omega (arith, l, d) in
          let k : get_or to (ids_at + j) 0 ≡ get_or from (ids_at + p) 0 = rw o at h in
          let y = sought-is to ids_at 1 q e (get_or from (ids_at + p) 0) q' t.low (λ i i' c l m. rise i i' c l (omega (arith, m, ends))) s before j f (omega (arith, g, ends)) k in
          let m : get_or to (ids_at + q') 0 ≡ get_or from (ids_at + p) 0 = rw y k in
          rw o (get_or-set_same r p x 0 (omega (arith, w, t.long)) ∙ here? (omega (arith, y, g, ends)) m ∙ y)

pub tags-last : (from to r : List ℕ) (q p : ℕ) → get_or from symbol_count_at 0 < p → TagsTo from to r q p → TagPlaces from to r
tags-last from to r q p h t = record { long = t.long; none = t.none; at = λ p' q' a b c d e. t.at p' q' a (omega (arith, b, h)) c d e }

-- ---- variables

-- the place in `to` of the symbol of the variable whose symbol stands at a place of `from`
pub record VariablePlaces (fw fb tw tb r : List ℕ) : Type 0 where
  pub long : length r ≡ place_room
  pub at : (i j : ℕ) → i < get_or fw variable_count_at 0 → j < get_or tw variable_count_at 0 → get_or tw (variable_numbers_at + j) 0 ≡ get_or fw (variable_numbers_at + i) 0 → get_or r (get_or fb (variable_places_at + i) 0) 0 ≡ get_or tb (variable_places_at + j) 0

-- the same for the variables before the i-th; the walk is at the q-th
pub record VariablesTo (fw fb tw tb r : List ℕ) (q i : ℕ) : Type 0 where
  pub long : length r ≡ place_room
  pub at : (i' j : ℕ) → i' < i → j < get_or tw variable_count_at 0 → get_or tw (variable_numbers_at + j) 0 ≡ get_or fw (variable_numbers_at + i') 0 → get_or r (get_or fb (variable_places_at + i') 0) 0 ≡ get_or tb (variable_places_at + j) 0
  pub high : q ≤ get_or tw variable_count_at 0
  pub passed : (j i' : ℕ) → j < q → i ≤ i' → i' < get_or fw variable_count_at 0 → get_or tw (variable_numbers_at + j) 0 < get_or fw (variable_numbers_at + i') 0

pub variables-none : (fw fb tw tb r : List ℕ) → length r ≡ place_room → VariablesTo fw fb tw tb r 0 0
variables-none fw fb tw tb r l = record { long = l; at = λ i' j a. absurd (omega (arith, a)); high = omega arith; passed = λ j i' a. absurd (omega (arith, a)) }

module _ (fw fb tw tb : List ℕ) (s : Names fw fb) (s' : Names tw tb) where
  pub variables-next : (r : List ℕ) (q i : ℕ) {q' p x : ℕ} → i < get_or fw variable_count_at 0 → VariablesTo fw fb tw tb r q i → Sought tw variable_numbers_at q (get_or tw variable_count_at 0) (get_or fw (variable_numbers_at + i) 0) q' → p ≡ get_or fb (variable_places_at + i) 0 → p ≤ 255 → VariableHere tw tb (get_or tw variable_count_at 0) q' (get_or fw (variable_numbers_at + i) 0) x → VariablesTo fw fb tw tb (set r p x) q' (i + 1)
  variables-next r q i {q'} {p} {x} b t k w g e =
      record {
        long = length-set r p x ∙ t.long;
        at = λ i' j c d f. here i' j c d f (ltb i' i) refl;
        high = k.high;
        passed = λ j i' c d f. let m = under j c in let n = s.numbers i i' (omega arith) (omega (arith, d)) f in omega (arith, m, n);
      }
    where
      before : (j : ℕ) → 0 ≤ j → j < q → get_or tw (variable_numbers_at + j) 0 < get_or fw (variable_numbers_at + i) 0
      before j o c = t.passed j i c (omega arith) b

      under : (j : ℕ) → j < q' → get_or tw (variable_numbers_at + j) 0 < get_or fw (variable_numbers_at + i) 0
      under j d = go (ltb j q) refl
        where
          go : (v : Bool) → ltb j q ≡ v → get_or tw (variable_numbers_at + j) 0 < get_or fw (variable_numbers_at + i) 0
          go true z = before j (omega arith) (ltb-true j q z)
          go false z = k.below j (ltb-false j q z) d

      here : (i' j : ℕ) → i' < i + 1 → j < get_or tw variable_count_at 0 → get_or tw (variable_numbers_at + j) 0 ≡ get_or fw (variable_numbers_at + i') 0 → (v : Bool) → ltb i' i ≡ v → get_or (set r p x) (get_or fb (variable_places_at + i') 0) 0 ≡ get_or tb (variable_places_at + j) 0
      here i' j c d f true z =
          let l = ltb-true i' i z in
          get_or-set_other r p (get_or fb (variable_places_at + i') 0) x 0 (λ y. s.apart i' i l b (y ∙ w)) ∙ t.at i' j l d f
      here i' j c d f false z =
          let l = ltb-false i' i z in
          let o : i' ≡ i = omega (arith, l, c) in
          let h : get_or tw (variable_numbers_at + j) 0 ≡ get_or fw (variable_numbers_at + i) 0 = rw o at f in
          let y = sought-is tw variable_numbers_at 0 q (get_or tw variable_count_at 0) (get_or fw (variable_numbers_at + i) 0) q' (omega arith) s'.numbers k before j (omega arith) d h in
          let m : get_or tw (variable_numbers_at + q') 0 ≡ get_or fw (variable_numbers_at + i) 0 = rw y h in
          rw (o, ← w) (get_or-set_same r p x 0 (omega (arith, g, t.long)) ∙ e (omega (arith, y, d)) m ∙ rw y refl)

  pub variables-last : (r : List ℕ) (q i : ℕ) → get_or fw variable_count_at 0 ≤ i → VariablesTo fw fb tw tb r q i → VariablePlaces fw fb tw tb r
  variables-last r q i h t = record { long = t.long; at = λ i' j a b c. t.at i' j (omega (arith, a, h)) b c }

  -- the place of the variable of a number
  pub number-placed : (n q x : ℕ) → q ≡ place_from tw variable_numbers_at (get_or tw variable_count_at 0) n → VariableHere tw tb (get_or tw variable_count_at 0) q n x → NumberPlace tw tb n x
  number-placed n q x k e j a h =
      let y : q ≡ j = k ∙ sym (place_here tw variable_numbers_at (get_or tw variable_count_at 0) n (names-ascend s') j a h) in
      let m : get_or tw (variable_numbers_at + q) 0 ≡ n = rw y h in
      e (omega (arith, y, a)) m ∙ rw y refl
