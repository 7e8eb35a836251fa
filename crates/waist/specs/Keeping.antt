-- A row that comes into the sparse tables, in its place by ascending id: they read as the steps' `keep_row`.
-- Assumes nothing.
use Prim.Native.Nat.{ℕ, zero, suc, ◌+◌, ◌-◌, ◌%◌, ◌≤◌, ◌<◌}
use Rattle.std.specs.Prelude.{◌≡◌, Bool, List, [], ◌∷◌, eqb, Float, length, set}
use Rattle.std.proofs.Math.Path.{refl, sym, ap}
use Rattle.std.proofs.Common.{◌∙◌, subst, ltb-true, ltb-false, eqb-true}
use Rattle.std.proofs.Math.Bool.{true, false, cond}
use Rattle.std.proofs.Math.Option.{none, some}
use native.Mathlib.Omega.{arith}
use Rattle.std.proofs.Math.Dec.{ltb}
use Rattle.std.specs.Float.Ieee.{nan}
use Rattle.std.proofs.Math.ListN.{get_or, length-set}
use Rattle.std.proofs.Math.Seq.{get_or-set_same, get_or-set_other}
use Rattle.std.proofs.lemmas.Bool.{eqb-false}
use Rattle.laws.specs.Loops.{first}
use Rattle.laws.specs.Lists.{tab, tab-ext}
use Rattle.steps.specs.Row.{Row}
use Rattle.steps.specs.State.{Basic}
use Rattle.steps.specs.Work.{keep_row}
use Rattle.layout.specs.Layout.{cells_of}
use Rattle.layout.specs.Laying.{tab-from}
use Rattle.rows.specs.Reading as dense
use Rattle.rows.specs.choose.Chosen.{as-cond}
use Rattle.rows.specs.moves.Moved as moved
use Rattle.rows.specs.moves.Walk.{keep-walk}
use Rattle.sparse.specs.Places.{most_rows, row_count_at, cell_count_at, row_places_at, constants_at, reals_size}
use Rattle.sparse.specs.Sparse.{Sparse, symbol_count, row_count, cell_count, symbol_at, basic_of, basics_of, read}
use Rattle.layout.specs.cells.Names.{row_span, last_place, cell_room}
use Rattle.layout.specs.cells.Cells.{Cells, row_of, opened, replaced}
use Rattle.layout.specs.cells.Seek.{first-moved}
use Rattle.layout.specs.cells.Open.{opened-before, opened_after}
use Rattle.layout.specs.cells.Replaced.{replaced-own, replaced-other}
use Rattle.waist.specs.substituting.Held.{Held, held-room, held-replaced}
use Rattle.waist.specs.substituting.Loose.{SettledRow}
use Rattle.waist.specs.Working.{artificial_of, work_of, lines_of, dense-cells, Sound, lines-few, id-at, basic-symbol}
use Rattle.waist.specs.Owning.{Inside, Kept}
use Rattle.waist.specs.Within.{within-replaced}
use Rattle.waist.specs.Alone.{RowsAlone, symbols-count, symbol-alone, named-alone, owners-alone, work-alone}
use Rattle.waist.specs.HeldRows.{raisable, held-opened, within-opened}
use Rattle.waist.specs.Dropping.{Free, basic-by}
use Rattle.waist.specs.Spots.{spot_of, Spot, spot_is, lines-between, kept_at, Keeps, same-order}

module _ (art : Bool) (p : ℕ) (row : List Float) (t : Sparse) (so : Sound art t) (low : 1 ≤ p) (high : p ≤ symbol_count t) (free : Free p t) (fit : row_count t + 1 < most_rows) (ok : SettledRow (symbol_count t) row) where
  abbrev r : ℕ
  r = row_count t

  abbrev w : ℕ
  w = symbol_count t

  abbrev count : ℕ
  count = lines_of art t

  abbrev n : ℕ
  n = cell_count t

  narrow : w ≤ last_place
  narrow = so.named.few-symbols

  abbrev z : ℕ
  z = spot_of p r t.bytes

  abbrev at : ℕ → ℕ
  at i = get_or t.bytes (row_places_at + i) 0

  abbrev u : Sparse
  u = kept_at z art p row t

  spot : Spot p r t.bytes z
  spot = spot_is p r t.bytes

  count-up : (count ≤ r + 1) × (r ≤ count)
  count-up = lines-between art t

  few : count ≤ most_rows
  few = lines-few art t so

  abbrev c : Cells
  c = replaced n z w row (opened n z t.keys) t.values

  rows_more : row_count u ≡ r + 1
  unfolding kept_at
  rows_more =
      let l = so.named.long in
      get_or-set_other (set t.words row_count_at (r + 1)) cell_count_at row_count_at _ 0 (λ e. omega (arith, e)) ∙ get_or-set_same t.words row_count_at (r + 1) 0 (omega (arith, l))

  size_is : cell_count u ≡ c.size
  unfolding kept_at
  size_is = let l = so.named.long in let s = length-set t.words row_count_at (r + 1) in get_or-set_same (set t.words row_count_at (r + 1)) cell_count_at _ 0 (omega (arith, l, s))

  bytes_below : row_places_at + z ≤ row_places_at + (r + 1)
  bytes_below = let h = spot.to in omega (arith, h)

  bytes-room : row_places_at + (r + 1) < length t.bytes
  bytes-room = let l = so.named.wide in omega (arith, l, fit)

  reals-below : constants_at + z ≤ constants_at + (count + 1)
  reals-below = let h = spot.to in let k = count-up in omega (arith, h, k)

  reals-room : constants_at + (count + 1) < length t.reals
  reals-room = let l = so.long in let k = count-up in omega (arith, l, k, fit)

  alone : RowsAlone t u
  unfolding kept_at
  alone = record {
    words = λ q a b. get_or-set_other (set t.words row_count_at (r + 1)) cell_count_at q _ 0 b ∙ get_or-set_other t.words row_count_at q (r + 1) 0 a;
    long = length-set (set t.words row_count_at (r + 1)) cell_count_at _ ∙ length-set t.words row_count_at (r + 1);
    low = λ q a. let h = spot.from in moved.opened-before (row_places_at + z) (row_places_at + (r + 1)) p t.bytes bytes_below bytes-room 0 q (omega (arith, a, h));
    later = λ q a. moved.opened_after (row_places_at + z) (row_places_at + (r + 1)) p t.bytes bytes_below bytes-room 0 q (omega (arith, a, fit));
    wide = moved.length-opened (row_places_at + z) (row_places_at + (r + 1)) p t.bytes bytes_below bytes-room 0;
    reals = λ q a. let k = count-up in moved.opened_after (constants_at + z) (constants_at + (count + 1)) (get_or row 0 nan) t.reals reals-below reals-room nan q (omega (arith, a, k, fit));
  }

  place-before : (q : ℕ) → q < z → get_or u.bytes (row_places_at + q) 0 ≡ at q
  unfolding kept_at
  place-before q a = moved.opened-before (row_places_at + z) (row_places_at + (r + 1)) p t.bytes bytes_below bytes-room 0 (row_places_at + q) (omega (arith, a))

  place_at : get_or u.bytes (row_places_at + z) 0 ≡ p
  unfolding kept_at
  place_at = moved.opened-at (row_places_at + z) (row_places_at + (r + 1)) p t.bytes bytes_below bytes-room 0

  place_after : (q : ℕ) → z ≤ q → q ≤ r → get_or u.bytes (row_places_at + suc q) 0 ≡ at q
  unfolding kept_at
  place_after q a b =
      let e : suc (row_places_at + q) ≡ row_places_at + suc q = omega arith in
      rw e at (moved.opened_inside (row_places_at + z) (row_places_at + (r + 1)) p t.bytes bytes_below bytes-room 0 (row_places_at + q) (omega (arith, a)) (omega (arith, b)))

  constant-before : (q : ℕ) → q < z → get_or u.reals (constants_at + q) nan ≡ get_or t.reals (constants_at + q) nan
  unfolding kept_at
  constant-before q a = moved.opened-before (constants_at + z) (constants_at + (count + 1)) (get_or row 0 nan) t.reals reals-below reals-room nan (constants_at + q) (omega (arith, a))

  constant-at : get_or u.reals (constants_at + z) nan ≡ get_or row 0 nan
  unfolding kept_at
  constant-at = moved.opened-at (constants_at + z) (constants_at + (count + 1)) (get_or row 0 nan) t.reals reals-below reals-room nan

  constant-after : (q : ℕ) → z ≤ q → q ≤ count → get_or u.reals (constants_at + suc q) nan ≡ get_or t.reals (constants_at + q) nan
  unfolding kept_at
  constant-after q a b =
      let e : suc (constants_at + q) ≡ constants_at + suc q = omega arith in
      rw e at (moved.opened_inside (constants_at + z) (constants_at + (count + 1)) (get_or row 0 nan) t.reals reals-below reals-room nan (constants_at + q) (omega (arith, a)) (omega (arith, b)))

  wider : Held (count + 1) n (opened n z t.keys) t.values
  wider = let s = spot.from in let h = spot.to in let k = count-up in held-opened count n z t.keys t.values so.held few s (omega (arith, h, k))

  room : n + last_place ≤ cell_room
  room = held-room count n t.keys t.values so.held few

  in-keys : n ≤ length t.keys
  in-keys = let f = room in let l = so.held.wide in omega (arith, f, l)

  fits-k : n + w ≤ length (opened n z t.keys)
  fits-k = let f = room in let l = wider.wide in let m = narrow in omega (arith, f, l, m)

  fits-v : n + w ≤ length t.values
  fits-v = let f = room in let l = so.held.wides in let m = narrow in omega (arith, f, l, m)

  other-cells : (q : ℕ) → (q ≡ z → ⊥) → row_of u.keys u.values c.size w q ≡ row_of (opened n z t.keys) t.values n w q
  unfolding kept_at
  other-cells q d = let l = narrow in replaced-other n z w row (opened n z t.keys) t.values q w d (omega (arith, l)) (wider.up, omega (arith, l), fits-k, fits-v)

  cells-before : (q : ℕ) → q < z → row_of u.keys u.values c.size w q ≡ row_of t.keys t.values n w q
  cells-before q a =
      let l = narrow in
      other-cells q (λ e. omega (arith, e, a)) ∙ opened-before n z t.keys t.values q w a (omega (arith, l)) (so.held.up, in-keys, raisable count n z t.keys t.values so.held few)

  cells-after : (q : ℕ) → z ≤ q → row_of u.keys u.values c.size w (suc q) ≡ row_of t.keys t.values n w q
  cells-after q a =
      let l = narrow in
      let e : q + 1 ≡ suc q = omega arith in
      other-cells (suc q) (λ e. omega (arith, e, a)) ∙ (rw e at (opened_after n z t.keys t.values q w a (omega (arith, l)) (so.held.up, in-keys, raisable count n z t.keys t.values so.held few)))

  cells_at : row_of u.keys u.values c.size w z ≡ cells_of w row
  unfolding kept_at
  cells_at =
      let l = narrow in
      replaced-own n z w row (opened n z t.keys) t.values (wider.up, omega (arith, l), fits-k, fits-v)
      ∙ tab-ext _ (λ q. get_or row q nan) 1 w (λ q a b. ok q a (omega (arith, b)))
      ∙ sym (dense-cells w row)

  symbol-count : symbol_count u ≡ w
  symbol-count = symbols-count t u so.named alone

  line_before : (q : ℕ) → q < z → (basic_of u q).row ≡ (basic_of t q).row
  unfolding basic_of
  line_before q a = rw (symbol-count, size_is, constant-before q a, cells-before q a) refl

  line_after : (q : ℕ) → z ≤ q → q ≤ count → (basic_of u (suc q)).row ≡ (basic_of t q).row
  unfolding basic_of
  line_after q a b = rw (symbol-count, size_is, constant-after q a b, cells-after q a) refl

  line_at : (basic_of u z).row ≡ dense.row_of w row
  unfolding basic_of dense.row_of
  line_at = rw (symbol-count, size_is, constant-at, cells_at) refl

  name : (x q : ℕ) → 1 ≤ q → q ≤ r → get_or u.bytes (row_places_at + x) 0 ≡ at q → (basic_of u x).symbol ≡ (basic_of t q).symbol
  name x q a b e =
      let l = so.rows q a b in
      let f = narrow in
      basic-symbol u x ∙ ap (symbol_at u) e ∙ symbol-alone t u so.named alone (at q) (omega (arith, l, f)) ∙ sym (basic-symbol t q)

  basic-before : (q : ℕ) → 1 ≤ q → q < z → basic_of u q ≡ basic_of t q
  basic-before q a b = let h = spot.to in basic-by (name q q a (omega (arith, b, h)) (place-before q b)) (line_before q b)

  basic-after : (q : ℕ) → z ≤ q → q ≤ r → basic_of u (suc q) ≡ basic_of t q
  basic-after q a b = let k = count-up in let s = spot.from in basic-by (name (suc q) q (omega (arith, a, s)) b (place_after q a b)) (line_after q a (omega (arith, b, k)))

  abbrev kept : Basic
  kept = record { symbol = symbol_at t p; row = dense.row_of w row }

  basic-at : basic_of u z ≡ kept
  basic-at = let f = narrow in basic-by (basic-symbol u z ∙ ap (symbol_at u) place_at ∙ symbol-alone t u so.named alone p (omega (arith, high, f))) line_at

  -- ---- the rows

  abbrev past : ℕ → Bool
  past i = ltb (symbol_at t p).id (symbol_at t (at i)).id

  spot-by-id : z ≡ first past (λ j. j) (1 + r) 1 (1 + r)
  unfolding spot_of
  spot-by-id =
      first-moved (λ i. ltb p (at i)) past (λ i. i) (λ i. i) (1 + r) r 1 1
      (λ j h.
      let l = so.rows (1 + j) (omega arith) (omega (arith, h)) in
      same-order t.words t.bytes so.named p (at (1 + j)) low high l.0 l.1 ∙ rw (id-at t p, id-at t (at (1 + j))) refl)
      (λ j h. refl)

  abbrev look : ℕ → ℕ → List Basic
  look m k = keep_row kept (tab (λ j. basic_of t (1 + j)) m k)

  look-end : (m : ℕ) → look m zero ≡ kept ∷ []
  unfolding tab keep_row
  look-end m = refl

  look-on : (m k : ℕ) → look m (suc k) ≡ cond (past (1 + m)) (kept ∷ tab (λ j. basic_of t (1 + j)) m (suc k)) (basic_of t (1 + m) ∷ look (suc m) k)
  unfolding tab keep_row
  look-on m k = rw (← basic-symbol t (1 + m)) (as-cond (ltb (symbol_at t p).id (basic_of t (1 + m)).symbol.id) (kept ∷ basic_of t (1 + m) ∷ tab (λ j. basic_of t (1 + j)) (suc m) k) (basic_of t (1 + m) ∷ look (suc m) k))

  come : look 0 r ≡ tab (λ j. basic_of u (1 + j)) 0 (suc r)
  come =
      let o : 1 + (z - 1) ≡ z = let s = spot.from in omega (arith, s) in
      keep-walk 1 past (λ j. basic_of t (1 + j)) (λ j. basic_of u (1 + j)) look kept look-end look-on r z spot-by-id
      (λ j a. basic-before (1 + j) (omega arith) a)
      (ap (basic_of u) o ∙ basic-at)
      (λ j a b. let e : suc (1 + j) ≡ 1 + suc j = omega arith in (rw e at (basic-after (1 + j) a (omega (arith, b)))))

  rows_are : basics_of u ≡ keep_row kept (basics_of t)
  unfolding basics_of
  rows_are =
      let s : r + 1 ≡ suc r = omega arith in
      let before : tab (λ j. basic_of t (1 + j)) 0 r ≡ tab (basic_of t) 1 r = tab-from (basic_of t) 1 0 r in
      let after : tab (λ j. basic_of u (1 + j)) 0 (suc r) ≡ tab (basic_of u) 1 (suc r) = tab-from (basic_of u) 1 0 (suc r) in
      rw (rows_more, s) (sym after ∙ sym come ∙ ap (keep_row kept) before)

  artificial-is : artificial_of art u ≡ artificial_of art t
  unfolding artificial_of lines_of
  artificial-is = by art refl
    where
      by : (b : Bool) → art ≡ b → cond b (some (basic_of u (1 + row_count u)).row) none ≡ cond b (some (basic_of t (1 + row_count t)).row) none
      by true e =
          let o : 1 + (r + 1) ≡ suc (1 + r) = omega arith in
          let k : count ≡ r + 1 = rw e refl in
          let h = spot.to in
          ap (λ (x : Row). some x) (ap (λ (m : ℕ). (basic_of u (1 + m)).row) rows_more ∙ ap (λ (m : ℕ). (basic_of u m).row) o ∙ line_after (1 + r) h (omega (arith, k)))
      by false e = refl

  -- ---- the tables can be worked on further

  lines_more : lines_of art u ≡ count + 1
  unfolding lines_of
  lines_more = rw rows_more (by art)
    where
      by : (b : Bool) → cond b (r + 1 + 1) (r + 1) ≡ cond b (r + 1) r + 1
      by true = refl
      by false = refl

  held-c : Held (count + 1) c.size u.keys u.values
  unfolding kept_at
  held-c =
      let s = spot.from in
      let h = spot.to in
      let k = count-up in
      let f = room in
      let l = narrow in
      held-replaced (count + 1) n z w row (opened n z t.keys) t.values wider s (omega (arith, h, k)) l (omega (arith, f, l))

  -- a row of the tables after: one before, the new one, or one after
  each : (P : ℕ → Type 0) → P p → ((q : ℕ) → 1 ≤ q → q ≤ r → P (at q)) → (q : ℕ) → 1 ≤ q → q ≤ row_count u → P (get_or u.bytes (row_places_at + q) 0)
  each P new old q a b = go (ltb q z) refl (eqb q z) refl
    where
      h : z ≤ 1 + r
      h = spot.to

      m : q ≤ r + 1
      m = rw rows_more at b

      go : (x : Bool) → ltb q z ≡ x → (y : Bool) → eqb q z ≡ y → P (get_or u.bytes (row_places_at + q) 0)
      go true e y f = let l = ltb-true q z e in subst P (sym (place-before q l)) (old q a (omega (arith, l, h)))
      go false e true f = subst (λ (x : ℕ). P (get_or u.bytes (row_places_at + x) 0)) (sym (eqb-true q z f)) (subst P (sym place_at) new)
      go false e false f =
          let s = spot.from in
          let l = ltb-false q z e in
          let d = eqb-false q z f in
          let o : suc (q - 1) ≡ q = omega (arith, a) in
          let v : z ≤ q - 1 = omega (arith, l, d) in
          subst (λ (x : ℕ). P (get_or u.bytes (row_places_at + x) 0)) o (subst P (sym (place_after (q - 1) v (omega (arith, m, a)))) (old (q - 1) (omega (arith, v, s)) (omega (arith, m, a))))

  before-p : (q : ℕ) → 1 ≤ q → q < z → at q < p
  before-p q a b =
      let h = spot.to in
      let l = ltb-false p (at q) (spot.below q a b) in
      let d = free q a (omega (arith, b, h)) in
      omega (arith, l, d)

  after-p : (q : ℕ) → z ≤ q → q ≤ r → p < at q
  after-p q a b = go (eqb z q) refl
    where
      l : p < at z
      l = ltb-true p (at z) (spot.above (omega (arith, a, b)))

      go : (x : Bool) → eqb z q ≡ x → p < at q
      go true e = subst (λ (y : ℕ). p < at y) (eqb-true z q e) l
      go false e =
          let d = eqb-false z q e in
          let s = spot.from in
          let g = so.up z q s (omega (arith, a, d)) b in
          let k = l in
          omega (arith, g, k)

  ups : (x y : ℕ) → 1 ≤ x → x < y → y ≤ row_count u → get_or u.bytes (row_places_at + x) 0 < get_or u.bytes (row_places_at + y) 0
  ups x y a b d = go (ltb x z) refl (eqb x z) refl (ltb y z) refl (eqb y z) refl
    where
      m : y ≤ r + 1
      m = rw rows_more at d

      h : z ≤ 1 + r
      h = spot.to

      shifted : (q : ℕ) → z < q → q ≤ r + 1 → get_or u.bytes (row_places_at + q) 0 ≡ at (q - 1)
      shifted q f g =
          let o : suc (q - 1) ≡ q = omega (arith, f) in
          subst (λ (v : ℕ). get_or u.bytes (row_places_at + v) 0 ≡ at (q - 1)) o (place_after (q - 1) (omega (arith, f)) (omega (arith, g)))

      here : (q : ℕ) → eqb q z ≡ true → get_or u.bytes (row_places_at + q) 0 ≡ p
      here q e = subst (λ (v : ℕ). get_or u.bytes (row_places_at + v) 0 ≡ p) (sym (eqb-true q z e)) place_at

      go : (i : Bool) → ltb x z ≡ i → (j : Bool) → eqb x z ≡ j → (k : Bool) → ltb y z ≡ k → (l : Bool) → eqb y z ≡ l → get_or u.bytes (row_places_at + x) 0 < get_or u.bytes (row_places_at + y) 0
      go true e j f true g l i = rw (place-before x (ltb-true x z e), place-before y (ltb-true y z g)) (so.up x y a b (omega (arith, ltb-true y z g, h)))
      go true e j f false g true i = rw (place-before x (ltb-true x z e), here y i) (before-p x a (ltb-true x z e))
      go true e j f false g false i =
          let v = ltb-true x z e in
          let w' = ltb-false y z g in
          let d' = eqb-false y z i in
          rw (place-before x v, shifted y (omega (arith, w', d')) m) (so.up x (y - 1) a (omega (arith, v, w', d')) (omega (arith, m)))
      go false e true f k g l i =
          let o = eqb-true x z f in
          let v : z < y = omega (arith, o, b) in
          rw (here x f, shifted y v m) (after-p (y - 1) (omega (arith, v)) (omega (arith, m)))
      go false e false f k g l i =
          let v = ltb-false x z e in
          let d' = eqb-false x z f in
          let s : z < x = omega (arith, v, d') in
          let o = spot.from in
          rw (shifted x s (omega (arith, b, m)), shifted y (omega (arith, s, b)) m) (so.up (x - 1) (y - 1) (omega (arith, s, o)) (omega (arith, b, s)) (omega (arith, m)))

  reals-long : length u.reals ≡ reals_size
  unfolding kept_at
  reals-long = moved.length-opened (constants_at + z) (constants_at + (count + 1)) (get_or row 0 nan) t.reals reals-below reals-room nan ∙ so.long

  sound : Sound art u
  sound = record {
    named = named-alone t u so.named alone;
    held = rw (lines_more, size_is) held-c;
    few = rw rows_more fit;
    rows = λ q a b. rw symbol-count (each (λ x. (1 ≤ x) × (x ≤ w)) (low, high) so.rows q a b);
    up = ups;
    long = reals-long;
  }

  keys-within : Inside t → (j : ℕ) → j < c.size → get_or u.keys j 0 % row_span ≤ w
  unfolding kept_at
  keys-within h =
      let s = spot.from in
      let o = spot.to in
      let k = count-up in
      let l = narrow in
      within-replaced n z w row (opened n z t.keys) t.values wider.up (omega (arith, l)) fits-k fits-v (within-opened count n z t.keys t.values so.held few s (omega (arith, o, k)) w h)

  keeping : Kept t u
  keeping = record { inside = λ h. rw (size_is, symbol-count) (keys-within h); owners = owners-alone t u so.named alone }

  pub keep-reads : Keeps art p row t u
  unfolding work_of read
  keep-reads = record {
    reads = λ a v. work-alone t u so.named alone art a v artificial-is rows_are;
    sound = sound;
    alone = alone;
    more = rows_more;
    kept = keeping;
  }
