-- The cells' test, key by key, is the state's: no basic cell, finite numbers, the sparse form.
-- Assumes nothing.
use Rattle.std.specs.Prelude.{ℕ, zero, suc, ◌+◌, ◌*◌, ◌-◌, ◌/◌, ◌%◌, ◌≤◌, ◌<◌, ◌≡◌, Bool, ◌&&◌, List, ltb, Float}
use Rattle.std.proofs.Math.Path.{refl, sym, ap}
use Rattle.std.proofs.Common.{◌∙◌}
use Rattle.std.proofs.Math.Bool.{true, false, not}
use native.Mathlib.Omega.{arith}
use Rattle.std.proofs.Math.Dec.{eqb, leb}
use Rattle.std.specs.Float.{nan}
use Rattle.std.specs.Float.Ieee.{ne, of_bits}
use Rattle.std.proofs.Math.ListN.{get_or}
use borrow.Author.Tests.{ltb-true, ltb-false, lt-ltb, leb-true, le-leb, not-true}
use Rattle.laws.specs.Lists.{tab, list_of, all_from, all_in}
use Rattle.layout.specs.Rooms.{both}
use Rattle.steps.specs.Number.{is_finite, zero64}
use Rattle.steps.specs.Symbol.{absent}
use Rattle.steps.specs.State.{Basic}
use Rattle.steps.specs.Tests.{member}
use Rattle.steps.specs.Readable as steps
use Rattle.keeps.specs.Lists.{no_both}
use Rattle.layout.specs.cells.Names.{row_span}
use Rattle.layout.specs.cells.Cells.{ascends_of, present_of, cell_in, cell_at, row_of}
use Rattle.layout.specs.cells.Seek.{first-elim}
use Rattle.layout.specs.cells.Reads.{cell-here, cell-absent}
use Rattle.rows.specs.places.Finding.{place_in, place_is, place-live, all-at, at_all, rising-lt, tested-rising}
use Rattle.rows.specs.places.Listed.{join, same, member-list}
use Rattle.rows.specs.places.Shares.{finite_in}
use Rattle.sparse.specs.Places.{row_places_at, constants_at, objective_at}
use Rattle.sparse.specs.Sparse.{Sparse, symbol_count, row_count, cell_count, basic_of, basics_of, objective_of, read}
use Rattle.sparse.specs.Repack.{Held}
use Rattle.sparse_test.specs.Reads.{key_fits, cells_fit}
use Rattle.sparse_test.specs.Meaning.{held_in}
use Rattle.sparse_test.specs.Tested.{open_at, costs_fit, rows_in, open_in, keys_fit, values_fit}
use Rattle.sparse_test.specs.Tableau.{at_one, one_at, absent-zero, present-not, RowsLive, Clear}

zero-finite : is_finite zero64 ≡ true
unfolding is_finite zero64 of_bits
zero-finite = refl

module _ (t : Sparse) where
  abbrev k : ℕ
  k = symbol_count t

  abbrev r : ℕ
  r = row_count t

  abbrev n : ℕ
  n = cell_count t

  abbrev key : ℕ → ℕ
  key j = get_or t.keys j 0

  abbrev value : ℕ → Float
  value j = get_or t.values j nan

  abbrev place_byte : ℕ → ℕ
  place_byte j = get_or t.bytes (row_places_at + 1 + j) 0

  abbrev cell : ℕ → ℕ → Float
  cell i p = cell_at t.keys t.values n (i * row_span + p)

  -- a key's cell reads as the value beside it
  held-cell : Held t.keys t.values n k r → (j : ℕ) → j < n → cell (key j / row_span) (key j % row_span) ≡ value j
  unfolding cell_at
  held-cell held j h =
      let o : key j / row_span * row_span + key j % row_span ≡ key j = omega arith in
      rw o (cell-here t.keys t.values n 0 n j held.up (omega arith) h (omega arith))

  -- ---- what the test says of each key

  open-parts : (p : ℕ) → open_at t.bytes k r p ≡ true → (1 ≤ p) × (p ≤ k) × (member p (list_of r place_byte) ≡ false)
  unfolding open_at
  open-parts p h =
      let a = both _ _ h in
      let b = both _ _ a.0 in
      (leb-true 1 p b.0, leb-true p k b.1, not-true _ a.1)

  basic-member : (i : ℕ) → i < r → member (place_byte i) (list_of r place_byte) ≡ true
  basic-member i h = member-list r place_byte (place_byte i) ∙ lt-ltb _ _ (place-live place_byte r (place_byte i) i h refl)

  member-basic : (p : ℕ) → member p (list_of r place_byte) ≡ true → (place_in place_byte r p < r) × (place_byte (place_in place_byte r p) ≡ p)
  member-basic p h =
      let l = ltb-true (place_in place_byte r p) r (sym (member-list r place_byte p) ∙ h) in
      (l, place_is place_byte r p l)

  -- ---- the keys' test gives the sparse form and the state's clauses

  keys-parts : keys_fit t.keys t.bytes n k r ≡ true → (ascends_of t.keys n ≡ true) × (rows_in t.keys n r ≡ true) × (open_in t.keys t.bytes n k r ≡ true)
  unfolding keys_fit
  keys-parts h =
      let a = both _ _ h in
      let b = both _ _ a.0 in
      (b.0, b.1, a.1)

  values-parts : values_fit t.values n ≡ true → (present_of t.values n ≡ true) × (finite_in t.values 0 n ≡ true)
  unfolding values_fit present_of finite_in
  values-parts h = (
    at_all _ 0 n λ j u k. (both _ _ (at j k)).0,
    at_all _ 0 n λ j u k.
        let e : 0 + j ≡ j = omega arith in
        rw e (both (ne (value j) zero64) (is_finite (value j)) (at j k)).1,
  )
    where
      at : (j : ℕ) → j < n → (ne (value j) zero64 && is_finite (value j)) ≡ true
      at j k = all-at (λ j. ne (value j) zero64 && is_finite (value j)) 0 n h j (omega arith) k

  open-at : open_in t.keys t.bytes n k r ≡ true → (j : ℕ) → j < n → open_at t.bytes k r (key j % row_span) ≡ true
  unfolding open_in
  open-at h j u = all-at (λ j. open_at t.bytes k r (key j % row_span)) 0 n h j (omega arith) u

  rows_at : rows_in t.keys n r ≡ true → (j : ℕ) → j < n → (leb 1 (key j / row_span) && leb (key j / row_span) r) ≡ true
  unfolding rows_in
  rows_at h j u = all-at (λ j. leb 1 (key j / row_span) && leb (key j / row_span) r) 0 n h j (omega arith) u

  pub cells-form : keys_fit t.keys t.bytes n k r ≡ true → values_fit t.values n ≡ true → cells_fit t ≡ true
  unfolding cells_fit key_fits
  cells-form a b =
      let p = keys-parts a in
      let v = values-parts b in
      join (join p.0 v.0) (at_all _ 0 n λ j u w. let o = open-parts (key j % row_span) (open-at p.2 j w) in join (rows_at p.1 j w) (join (le-leb 1 (key j % row_span) o.0) (le-leb (key j % row_span) k o.1)))

  finite-at : finite_in t.values 0 n ≡ true → (j : ℕ) → j < n → is_finite (value j) ≡ true
  unfolding finite_in
  finite-at h j u =
      let o : 0 + j ≡ j = omega arith in
      rw o at (all-at (λ j. is_finite (get_or t.values (0 + j) nan)) 0 n h j (omega arith) u)

  pub cells-clear : k < row_span → RowsLive t → keys_fit t.keys t.bytes n k r ≡ true → costs_fit t.reals t.bytes r ≡ true → Clear t
  unfolding costs_fit
  cells-clear small live a c = (
    λ i u. all-at (λ i. absent (get_or t.reals (objective_at + place_byte i) nan)) 0 r c i (omega arith) u,
    λ q x y i u. ap absent (gone q i u) ∙ absent-zero,
  )
    where
      gone : (q i : ℕ) → i < r → cell q (place_byte i) ≡ zero64
      gone q i u =
          let p = (live i u).1 in
          unfold cell_at in cell-absent t.keys t.values (q * row_span + place_byte i) 0 n (omega arith) λ j v w e.
          let o : key j % row_span ≡ place_byte i = omega (arith, e, p, small) in
          no_both (basic-member i u) (rw o at (open-parts (key j % row_span) (open-at (keys-parts a).2 j w)).2)

  finite-cell : values_fit t.values n ≡ true → (x : ℕ) → is_finite (cell_at t.keys t.values n x) ≡ true
  unfolding cell_at cell_in
  finite-cell b x =
      first-elim (λ j. eqb x (key j)) value zero64 (λ (y : Float). is_finite y ≡ true) 0 n (omega arith)
      (λ j u w e f. finite-at (values-parts b).1 j w) (λ f. zero-finite)

  pub cells-finite : values_fit t.values n ≡ true → finite_in t.reals (constants_at + 1) r ≡ true → finite_in t.reals (objective_at + 1) k ≡ true → steps.tableau_finite (read t) ≡ true
  unfolding steps.tableau_finite read objective_of basics_of basic_of row_of finite_in
  cells-finite v c o =
      join
      (at_one is_finite (λ p. get_or t.reals (objective_at + p) nan) k λ j a b. from_one objective_at k o j a b)
      (at_one (λ (b : Basic). is_finite b.row.constant && steps.all is_finite b.row.cells) (basic_of t) r λ i a b. join (from_one constants_at r c i a b) (at_one is_finite (cell i) k λ p u w. finite-cell v (i * row_span + p)))
    where
      from_one : (s m : ℕ) → all_in (λ j. is_finite (get_or t.reals (s + 1 + j) nan)) 0 m ≡ true → (j : ℕ) → 1 ≤ j → j ≤ m → is_finite (get_or t.reals (s + j) nan) ≡ true
      from_one s m h j a b =
          let e : s + 1 + (j - 1) ≡ s + j = omega (arith, a) in
          rw e at (all-at (λ j. is_finite (get_or t.reals (s + 1 + j) nan)) 0 m h (j - 1) (omega arith) (omega (arith, a, b)))

  -- ---- and back

  fit_parts : cells_fit t ≡ true → (ascends_of t.keys n ≡ true) × (present_of t.values n ≡ true)
  unfolding cells_fit
  fit_parts q =
      let a = both _ _ q in
      both _ _ a.0

  abbrev Finite : Type 0
  Finite = (finite_in t.reals (constants_at + 1) r ≡ true) × (finite_in t.reals (objective_at + 1) k ≡ true) × ((i p : ℕ) → 1 ≤ i → i ≤ r → 1 ≤ p → p ≤ k → is_finite (cell i p) ≡ true)

  pub finite-cells : steps.tableau_finite (read t) ≡ true → Finite
  unfolding steps.tableau_finite read objective_of basics_of basic_of row_of finite_in
  finite-cells q =
      let a = both (steps.all is_finite (objective_of t)) (steps.all (λ (b : Basic). is_finite b.row.constant && steps.all is_finite b.row.cells) (basics_of t)) q in
      let g : (i : ℕ) → 1 ≤ i → i ≤ r → (is_finite (get_or t.reals (constants_at + i) nan) ≡ true) × (steps.all is_finite (tab (cell i) 1 k) ≡ true) = λ i u w. both _ _ (one_at (λ (b : Basic). is_finite b.row.constant && steps.all is_finite b.row.cells) (basic_of t) r a.1 i u w) in (
        at_all _ 0 r (λ j u w. let e : constants_at + (1 + j) ≡ constants_at + 1 + j = omega arith in rw e at (g (1 + j) (omega arith) (omega (arith, w))).0),
        at_all _ 0 k (λ j u w. let e : objective_at + (1 + j) ≡ objective_at + 1 + j = omega arith in rw e at (one_at is_finite (λ p. get_or t.reals (objective_at + p) nan) k a.0 (1 + j) (omega arith) (omega (arith, w)))),
        λ i p u w x y. one_at is_finite (cell i) k (g i u w).1 p x y,
      )

  module _ (fits : cells_fit t ≡ true) (clear : Clear t) where
    held : Held t.keys t.values n k r
    held = held_in t fits

    open-key : (j : ℕ) → j < n → open_at t.bytes k r (key j % row_span) ≡ true
    unfolding open_at
    open-key j h =
        let p = held.places j h in
        join (join (le-leb 1 (key j % row_span) p.0) (le-leb (key j % row_span) k p.1)) (free (member (key j % row_span) (list_of r place_byte)) refl)
      where
        free : (b : Bool) → member (key j % row_span) (list_of r place_byte) ≡ b → not b ≡ true
        free false q = refl
        free true q =
            let m = member-basic (key j % row_span) q in
            let i = held.rows j h in
            let c : absent (cell (key j / row_span) (place_byte (place_in place_byte r (key j % row_span)))) ≡ true = clear.1 (key j / row_span) i.0 i.1 (place_in place_byte r (key j % row_span)) m.0 in
            absurd (present-not (value j) (held.present j h) (ap absent (sym (held-cell held j h) ∙ sym (ap (cell (key j / row_span)) m.1)) ∙ c))

    pub form-keys : keys_fit t.keys t.bytes n k r ≡ true
    unfolding keys_fit rows_in open_in
    form-keys =
        join (join (fit_parts fits).0 (at_all _ 0 n λ j u h. let i = held.rows j h in join (le-leb 1 (key j / row_span) i.0) (le-leb (key j / row_span) r i.1))) (at_all _ 0 n λ j u h. open-key j h)

    pub form-costs : costs_fit t.reals t.bytes r ≡ true
    unfolding costs_fit
    form-costs = at_all _ 0 r λ i u h. clear.0 i h

    pub form-values : Finite → values_fit t.values n ≡ true
    unfolding values_fit
    form-values f =
        at_all _ 0 n λ j u h.
        let i = held.rows j h in
        let p = held.places j h in
        join (held.present j h) (ap is_finite (sym (held-cell held j h)) ∙ f.2 (key j / row_span) (key j % row_span) i.0 i.1 p.0 p.1)

-- ---- the rows of keys that ascend: the first and the last key tell them

module _ (keys : List ℕ) (n r : ℕ) where
  abbrev row_at : ℕ → ℕ
  row_at j = get_or keys j 0 / row_span

  pub no_rows : n ≡ 0 → true ≡ rows_in keys n r
  unfolding rows_in all_in all_from
  no_rows e = rw e refl

  pub rows-ends : ascends_of keys n ≡ true → (n ≡ 0 → ⊥) → (leb 1 (row_at 0) && leb (row_at (n - 1)) r) ≡ rows_in keys n r
  unfolding ascends_of rows_in
  rows-ends h some =
      same _ _
      (λ q. let p = both (leb 1 (row_at 0)) (leb (row_at (n - 1)) r) q in at_all _ 0 n λ j u k. join (le-leb 1 (row_at j) (above (leb-true 1 (row_at 0) p.0) j k)) (le-leb (row_at j) r (below (leb-true (row_at (n - 1)) r p.1) j k (ltb j (n - 1)) refl)))
      (λ q. join (both (leb 1 (row_at 0)) (leb (row_at 0) r) (at q 0 (omega (arith, some)))).0 (both (leb 1 (row_at (n - 1))) (leb (row_at (n - 1)) r) (at q (n - 1) (omega (arith, some)))).1)
    where
      at : all_in (λ j. leb 1 (row_at j) && leb (row_at j) r) 0 n ≡ true → (j : ℕ) → j < n → (leb 1 (row_at j) && leb (row_at j) r) ≡ true
      at q j k = all-at (λ j. leb 1 (row_at j) && leb (row_at j) r) 0 n q j (omega arith) k

      up : (i j : ℕ) → i < j → j < n → get_or keys i 0 < get_or keys j 0
      up i j a b =
          let o : i + suc (j - suc i) ≡ j = omega (arith, a) in
          rw o at (rising-lt (λ i. get_or keys i 0) n (tested-rising (λ i. get_or keys i 0) n h) i (j - suc i) (omega (arith, a, b)))

      above : 1 ≤ row_at 0 → (j : ℕ) → j < n → 1 ≤ row_at j
      above l zero k = l
      above l (suc j) k = let q = up 0 (suc j) (omega arith) k in omega (arith, l, q)

      below : row_at (n - 1) ≤ r → (j : ℕ) → j < n → (b : Bool) → ltb j (n - 1) ≡ b → row_at j ≤ r
      below l j k true c = let q = up j (n - 1) (ltb-true j (n - 1) c) (omega (arith, k)) in omega (arith, l, q)
      below l j k false c =
          let m = ltb-false j (n - 1) c in
          let o : n - 1 ≡ j = omega (arith, k, m) in
          rw o at l
