-- The tableau's test over places is the state's: order, ids below the next, no basic cell, finite numbers.
-- Assumes nothing.
use Prim.Native.Nat.{ℕ, zero, suc, ◌+◌, ◌*◌, ◌-◌, ◌≤◌, ◌<◌}
use Rattle.std.specs.Prelude.{◌≡◌, Bool, not, List, map, Float, length, get_or}
use Rattle.std.proofs.Math.Path.{refl, sym, ap}
use Rattle.std.proofs.Common.{◌∙◌, arith}
use Rattle.std.proofs.Math.Bool.{true, false}
use Rattle.std.proofs.Math.Dec.{eqb, ltb}
use Rattle.std.specs.Float.{nan}
use Rattle.std.specs.Float.Ieee.{ne, eq, of_bits}
use borrow.Author.Tests.{eqb-true, eqb-false, eq-eqb, ne_eqb, ltb-true, ltb-false, lt-ltb}
use Rattle.laws.specs.Lists.{tab, list_of, length-tab}
use Rattle.layout.specs.Rooms.{both}
use Rattle.layout.specs.Laying.{tab-from}
use Rattle.steps.specs.Number.{zero64}
use Rattle.steps.specs.Symbol.{Symbol, is_symbol, absent, coefficient_for}
use Rattle.steps.specs.State.{Basic}
use Rattle.steps.specs.Readable as steps
use Rattle.keeps.specs.Lists.{All, no_both}
use Rattle.layout.specs.cells.Names.{row_span}
use Rattle.layout.specs.cells.Cells.{cell_at, row_of}
use Rattle.rows.specs.places.Finding.{never}
use Rattle.rows.specs.places.Listed.{join, same, map-list, listed_at, at_listed, ascend-list, from_list, list-from}
use Rattle.sparse.specs.Places.{next_id_at, ids_at, row_places_at, objective_at}
use Rattle.sparse.specs.Sparse.{Sparse, symbol_count, row_count, cell_count, symbol_at, basic_of, symbols_of, basics_of, objective_of, read}
use Rattle.sparse.specs.Form.{At}
use Rattle.sparse_test.specs.Stretch.{ascend_in, between_in, ascends, between, in_between}
use Rattle.sparse_test.specs.Views.{code_at, ids-are, lives-are, basics-are, basic-ids-are}
use Rattle.sparse_test.specs.Records.{all-ext}
use Rattle.sparse_test.specs.Injective.{members-map, each-list, ones_in}
use Rattle.sparse_test.specs.Owners.{IdsUp, one_place}

-- ---- a list read from place 1 on

module _ {A : Type 0} where
  one_list : (g : ℕ → A) (n : ℕ) → tab g 1 n ≡ list_of n λ j. g (1 + j)
  unfolding list_of
  one_list g n = sym (tab-from g 1 0 n)

  pub at_one : (p : A → Bool) (g : ℕ → A) (n : ℕ) → ((j : ℕ) → 1 ≤ j → j ≤ n → p (g j) ≡ true) → steps.all p (tab g 1 n) ≡ true
  at_one p g n f = ap (steps.all p) (one_list g n) ∙ at_listed p n (λ j. g (1 + j)) λ j h. f (1 + j) (omega arith) (omega (arith, h))

  pub one_at : (p : A → Bool) (g : ℕ → A) (n : ℕ) → steps.all p (tab g 1 n) ≡ true → (j : ℕ) → 1 ≤ j → j ≤ n → p (g j) ≡ true
  one_at p g n h j a b =
      let o : 1 + (j - 1) ≡ j = omega (arith, a) in
      rw o at (listed_at p n (λ j. g (1 + j)) (sym (ap (steps.all p) (one_list g n)) ∙ h) (j - 1) (omega (arith, a, b)))

-- ---- a symbol's cell is the one at its place

module _ (x : ℕ) (f : ℕ → Symbol) (c : ℕ → Float) where
  cell-tab : (n i p : ℕ) → i ≤ p → p < i + n → x ≡ (f p).id → ((j : ℕ) → i ≤ j → j < p → x ≡ (f j).id → ⊥) → coefficient_for x (tab f i n) (tab c i n) ≡ c p
  unfolding coefficient_for is_symbol tab
  cell-tab zero i p a b q u = never i (omega arith)
  cell-tab (suc n) i p a b q u = go (eqb i p) refl
      (λ h. cell-tab n (suc i) p (omega (arith, h)) (omega arith) q λ j d e. u j (omega arith) e)
    where
      go : (d : Bool) → eqb i p ≡ d → (suc i ≤ p → coefficient_for x (tab f (suc i) n) (tab c (suc i) n) ≡ c p) → elim (eqb x (f i).id) [ true ↦ c i | false ↦ coefficient_for x (tab f (suc i) n) (tab c (suc i) n) ] ≡ c p
      go true h rest =
          let e : i ≡ p = eqb-true i p h in
          let k : eqb x (f i).id ≡ true = rw e (eq-eqb x (f p).id q) in
          rw k (ap c e)
      go false h rest =
          let d : i ≡ p → ⊥ = eqb-false i p h in
          let l : suc i ≤ p = omega (arith, d) in
          let k : eqb x (f i).id ≡ false = ne_eqb x (f i).id (u i (omega arith) l) in
          rw k (rest l)

pub absent-zero : absent zero64 ≡ true
unfolding absent zero64 eq of_bits
absent-zero = refl

pub present-not : (x : Float) → ne x zero64 ≡ true → absent x ≡ true → ⊥
unfolding ne absent
present-not x h k = no_both h (ap not k)

module _ (t : Sparse) where
  abbrev byte : ℕ → ℕ
  byte j = get_or t.bytes j 0

  abbrev word : ℕ → ℕ
  word j = get_or t.words j 0

  abbrev k : ℕ
  k = symbol_count t

  abbrev r : ℕ
  r = row_count t

  -- ---- ids

  pub ids-in : ascend_in t.words (ids_at + 1) k ≡ true → IdsUp t
  ids-in h i j a b c =
      let o : ids_at + 1 + (i - 1) ≡ ids_at + i = omega (arith, a) in
      let p : ids_at + 1 + (j - 1) ≡ ids_at + j = omega (arith, a, b) in
      rw (o, p) at (ascends t.words (ids_at + 1) k h (i - 1) (j - 1) (omega (arith, a, b)) (omega (arith, a, b, c)))

  abbrev Ordered : Type 0
  Ordered = (steps.ascend_from 0 (steps.live_ids (read t)) ≡ true) × (steps.all (λ n. ltb n (read t).tableau.next_id) (steps.live_ids (read t)) ≡ true)

  pub ordered : ascend_in t.words (ids_at + 1) k ≡ true → between_in t.words (ids_at + 1) k 1 (word next_id_at) ≡ true → Ordered
  unfolding ascend_in read
  ordered up b = (
    ap (steps.ascend_from 0) (ids-are t) ∙ list-from k (λ j. word (ids_at + 1 + j)) up (λ u. (between t.words (ids_at + 1) k 1 (word next_id_at) b 0 u).0),
    ap (steps.all (λ n. ltb n (word next_id_at))) (ids-are t) ∙ at_listed (λ n. ltb n (word next_id_at)) k (λ j. word (ids_at + 1 + j)) (λ j u. lt-ltb _ _ (between t.words (ids_at + 1) k 1 (word next_id_at) b j u).1),
  )

  pub orderly : Ordered → (ascend_in t.words (ids_at + 1) k ≡ true) × (between_in t.words (ids_at + 1) k 1 (word next_id_at) ≡ true)
  unfolding ascend_in read
  orderly q =
      let f = from_list k (λ j. word (ids_at + 1 + j)) (sym (ap (steps.ascend_from 0) (ids-are t)) ∙ q.0) in (
        f.0,
        in_between t.words (ids_at + 1) k 1 (word next_id_at) (λ j u. (above f.0 f.1 j u, ltb-true _ _ (listed_at (λ n. ltb n (word next_id_at)) k (λ j. word (ids_at + 1 + j)) (sym (ap (steps.all (λ n. ltb n (word next_id_at))) (ids-are t)) ∙ q.1) j u))),
      )
    where
      above : ascend_in t.words (ids_at + 1) k ≡ true → (0 < k → 0 < word (ids_at + 1 + 0)) → (j : ℕ) → j < k → 1 ≤ word (ids_at + 1 + j)
      above up z zero u = z u
      above up z (suc j) u = let l = ascends t.words (ids_at + 1) k up 0 (suc j) (omega arith) u in omega (arith, l)

  -- ---- rows by ascending id: their places ascend

  abbrev place_byte : ℕ → ℕ
  place_byte j = byte (row_places_at + 1 + j)

  abbrev pub RowsLive : Type 0
  RowsLive = (j : ℕ) → j < r → At t (place_byte j)

  pub rows-up : IdsUp t → RowsLive → steps.ascend (steps.basic_ids (read t)) ≡ ascend_in t.bytes (row_places_at + 1) r
  unfolding ascend_in
  rows-up up live =
      ap steps.ascend (basic-ids-are t)
      ∙ ascend-list r (λ j. word (ids_at + place_byte j))
      ∙ all-ext _ _ 1 r λ j a b. order (place_byte (j - 1)) (place_byte j) (live (j - 1) (omega (arith, a, b))) (live j b)
    where
      order : (p q : ℕ) → At t p → At t q → ltb (word (ids_at + p)) (word (ids_at + q)) ≡ ltb p q
      order p q l m =
          same (ltb (word (ids_at + p)) (word (ids_at + q))) (ltb p q)
          (λ h. lt-ltb p q (lower (ltb-true _ _ h) (ltb p q) refl (ltb q p) refl))
          (λ h. lt-ltb _ _ (up p q l.0 (ltb-true p q h) m.1))
        where
          lower : word (ids_at + p) < word (ids_at + q) → (x : Bool) → ltb p q ≡ x → (y : Bool) → ltb q p ≡ y → p < q
          lower h true u y v = ltb-true p q u
          lower h false u true v = let n = up q p m.0 (ltb-true q p v) l.1 in absurd (omega (arith, n, h))
          lower h false u false v =
              let e : p ≡ q = omega (arith, ltb-false p q u, ltb-false q p v) in
              absurd (omega (arith, h, ap (λ (z : ℕ). word (ids_at + z)) e))

  pub rows-live : IdsUp t → RowsLive → steps.all_in (steps.basics (read t)) (steps.live (read t)) ≡ true
  rows-live up live =
      let ps : List ℕ = list_of r place_byte in
      let ones : List ℕ = list_of k (λ j. 1 + j) in
      let l : All (At t) ps = each-list (At t) place_byte r live in
      let o : All (At t) ones = each-list (At t) (λ j. 1 + j) k (λ j h. (omega arith, omega (arith, h))) in
      let a : steps.basics (read t) ≡ map (code_at t) ps = basics-are t ∙ sym (map-list (code_at t) r place_byte) in
      let b : steps.live (read t) ≡ map (code_at t) ones = lives-are t ∙ sym (map-list (code_at t) k (λ j. 1 + j)) in
      (rw (a, b) refl) ∙ members-map (code_at t) (At t) (one_place t up) ps ones l o ∙ ones_in k ps l

  -- ---- no basic cell

  cell-of : IdsUp t → (c : ℕ → Float) (p : ℕ) → At t p → coefficient_for (word (ids_at + p)) (symbols_of t) (tab c 1 k) ≡ c p
  unfolding symbols_of symbol_at
  cell-of up c p l =
      let a = l.0 in
      let b = l.1 in
      cell-tab (word (ids_at + p)) (symbol_at t) c k 1 p a (omega (arith, b)) refl λ j u v e. let n = up j p u v b in omega (arith, n, e)

  abbrev clear : (ℕ → Float) → Type 0
  clear c = (i : ℕ) → i < r → absent (c (place_byte i)) ≡ true

  clear-holds : IdsUp t → RowsLive → (c : ℕ → Float) → clear c → steps.holds_no_basic (read t) (tab c 1 k) ≡ true
  unfolding steps.holds_no_basic read symbols_of
  clear-holds up live c f =
      join (eq-eqb _ _ (length-tab c 1 k ∙ sym (length-tab (symbol_at t) 1 k)))
      (ap (steps.all (λ n. absent (coefficient_for n (symbols_of t) (tab c 1 k)))) (basic-ids-are t)
      ∙ at_listed (λ n. absent (coefficient_for n (symbols_of t) (tab c 1 k))) r (λ j. word (ids_at + place_byte j)) λ i u. ap absent (cell-of up c (place_byte i) (live i u)) ∙ f i u)

  holds-clear : IdsUp t → RowsLive → (c : ℕ → Float) → steps.holds_no_basic (read t) (tab c 1 k) ≡ true → clear c
  unfolding steps.holds_no_basic read
  holds-clear up live c q i u =
      let parts = both (eqb (length (tab c 1 k)) (length (symbols_of t))) (steps.all (λ n. absent (coefficient_for n (symbols_of t) (tab c 1 k))) (steps.basic_ids (read t))) q in
      sym (ap absent (cell-of up c (place_byte i) (live i u)))
      ∙ listed_at (λ n. absent (coefficient_for n (symbols_of t) (tab c 1 k))) r (λ j. word (ids_at + place_byte j)) (sym (ap (steps.all (λ n. absent (coefficient_for n (symbols_of t) (tab c 1 k)))) (basic-ids-are t)) ∙ parts.1) i u

  abbrev cost : ℕ → Float
  cost p = get_or t.reals (objective_at + p) nan

  abbrev cell : ℕ → ℕ → Float
  cell i p = cell_at t.keys t.values (cell_count t) (i * row_span + p)

  abbrev pub Clear : Type 0
  Clear = clear cost × ((i : ℕ) → 1 ≤ i → i ≤ r → clear (cell i))

  pub no-basic : IdsUp t → RowsLive → Clear → steps.no_basic_cell (read t) ≡ true
  unfolding steps.no_basic_cell read objective_of basics_of basic_of row_of
  no-basic up live f =
      join (clear-holds up live cost f.0)
      (at_one (λ (b : Basic). steps.holds_no_basic (read t) b.row.cells) (basic_of t) r λ i a b. clear-holds up live (cell i) (f.1 i a b))

  pub basic-no : IdsUp t → RowsLive → steps.no_basic_cell (read t) ≡ true → Clear
  unfolding steps.no_basic_cell read objective_of basics_of basic_of row_of
  basic-no up live q =
      let p = both (steps.holds_no_basic (read t) (objective_of t)) (steps.all (λ (b : Basic). steps.holds_no_basic (read t) b.row.cells) (basics_of t)) q in
      (holds-clear up live cost p.0, λ i a b. holds-clear up live (cell i) (one_at (λ (b : Basic). steps.holds_no_basic (read t) b.row.cells) (basic_of t) r p.1 i a b))
