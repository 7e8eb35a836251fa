-- A row that goes from the sparse tables: they read as the steps' `drop_row`.
-- Assumes nothing.
use Prim.Native.Nat.{ℕ, zero, suc, ◌+◌, ◌-◌, ◌%◌, ◌≤◌, ◌<◌}
use Rattle.std.specs.Prelude.{◌≡◌, Bool, List, [], ◌∷◌, eqb, ltb, Float, length, get_or, set}
use Rattle.std.proofs.Math.Path.{refl, sym, ap}
use Rattle.std.proofs.Common.{◌∙◌, subst, ltb-true, ltb-false, eq-eqb, ne_eqb}
use Rattle.std.proofs.Math.Bool.{true, false, cond}
use Rattle.std.proofs.Math.Option.{none, some}
use native.Mathlib.Omega.{arith}
use Rattle.std.specs.Float.Ieee.{nan}
use Rattle.std.proofs.Math.ListN.{length-set}
use Rattle.std.proofs.Math.Seq.{get_or-set_same, get_or-set_other}
use Rattle.laws.specs.Loops.{first}
use Rattle.laws.specs.Lists.{tab}
use Rattle.steps.specs.Number.{Mark}
use Rattle.steps.specs.Symbol.{Symbol, is_symbol}
use Rattle.steps.specs.Row.{Row}
use Rattle.steps.specs.State.{Basic}
use Rattle.steps.specs.Work.{with_rows, drop_row}
use Rattle.layout.specs.Laying.{tab-from}
use Rattle.std.specs.Prelude.{Some, None}
use Rattle.rows.specs.choose.Own.{first-is}
use Rattle.rows.specs.choose.Chosen.{as-cond}
use Rattle.rows.specs.moves.Close.{closed}
use Rattle.rows.specs.moves.Moved.{closed-before, closed-inside, closed_after, length-closed}
use Rattle.rows.specs.moves.Walk.{drop-walk}
use Rattle.sparse.specs.Places.{most_rows, row_count_at, cell_count_at, row_places_at, constants_at, reals_size}
use Rattle.sparse.specs.Sparse.{Sparse, symbol_count, row_count, cell_count, symbol_at, basic_of, basics_of, read}
use Rattle.layout.specs.cells.Names.{row_span, last_place}
use Rattle.layout.specs.cells.Cells.{Cells, cells, row_of, dropped}
use Rattle.layout.specs.cells.Drop.{dropped-before, dropped-after}
use Rattle.waist.specs.substituting.Held.{Held, held-few}
use Rattle.waist.specs.Working.{sparse, artificial_of, work_of, lines_of, Sound, lines-few, rows-lines, id-at, basic-symbol}
use Rattle.waist.specs.Owning.{Inside, Kept}
use Rattle.waist.specs.Alone.{RowsAlone, symbols-count, symbol-alone, named-alone, owners-alone, work-alone}
use Rattle.waist.specs.HeldRows.{held-dropped, within-dropped}

-- row i goes: the rows after it come one down, and the artificial objective with them
unfoldable pub dropped_in : Bool → ℕ → Sparse → Sparse
dropped_in art i t =
    let c : Cells = dropped (cell_count t) i t.keys t.values in
    sparse (set (set t.words row_count_at (row_count t - 1)) cell_count_at c.size) c.keys (closed 0 (row_places_at + i) (row_places_at + row_count t) t.bytes)
    (closed nan (constants_at + i) (constants_at + lines_of art t) t.reals) c.vals

-- the symbol at place p is not basic
abbrev pub Free : ℕ → Sparse → Type 0
Free p t = (q : ℕ) → 1 ≤ q → q ≤ row_count t → get_or t.bytes (row_places_at + q) 0 ≡ p → ⊥

pub record Drops (art : Bool) (i : ℕ) (t u : Sparse) : Type 0 where
  pub reads : (a : Mark) (v : ℕ) → work_of art a v u ≡ with_rows (drop_row (symbol_at t (get_or t.bytes (row_places_at + i) 0)).id (work_of art a v t).tableau.rows) (work_of art a v t)
  pub sound : Sound art u
  pub alone : RowsAlone t u
  pub fewer : row_count u ≡ row_count t - 1
  -- a place that no row was for, none is for
  pub free : (p : ℕ) → Free p t → Free p u
  -- the symbol that row i was for is not basic
  pub gone : Free (get_or t.bytes (row_places_at + i) 0) u
  pub kept : Kept t u

pub basic-by : {x y : Basic} → x.symbol ≡ y.symbol → x.row ≡ y.row → x ≡ y
basic-by {x} {y} p q = whole
  where
    made : Symbol → Row → Basic
    made n z = record { symbol = n; row = z }

    whole : made x.symbol x.row ≡ made y.symbol y.row
    whole = rw (p, q) refl

module _ (art : Bool) (i : ℕ) (t : Sparse) (so : Sound art t) (low : 1 ≤ i) (high : i ≤ row_count t) where
  abbrev u : Sparse
  u = dropped_in art i t

  abbrev r : ℕ
  r = row_count t

  abbrev w : ℕ
  w = symbol_count t

  abbrev count : ℕ
  count = lines_of art t

  few : count ≤ most_rows
  few = lines-few art t so

  in_lines : r ≤ count
  in_lines = rows-lines art t

  rows-fewer : row_count u ≡ r - 1
  unfolding dropped_in
  rows-fewer =
      let l = so.named.long in
      get_or-set_other (set t.words row_count_at (r - 1)) cell_count_at row_count_at _ 0 (λ e. omega (arith, e)) ∙ get_or-set_same t.words row_count_at (r - 1) 0 (omega (arith, l))

  size_is : cell_count u ≡ (dropped (cell_count t) i t.keys t.values).size
  unfolding dropped_in
  size_is = let l = so.named.long in let s = length-set t.words row_count_at (r - 1) in get_or-set_same (set t.words row_count_at (r - 1)) cell_count_at _ 0 (omega (arith, l, s))

  bytes-room : row_places_at + r < length t.bytes
  bytes-room = let l = so.named.wide in let f = so.few in omega (arith, l, f)

  reals-room : constants_at + count < length t.reals
  reals-room = let l = so.long in let f = few in omega (arith, l, f)

  alone : RowsAlone t u
  unfolding dropped_in
  alone = record {
    words = λ q a b. get_or-set_other (set t.words row_count_at (r - 1)) cell_count_at q _ 0 b ∙ get_or-set_other t.words row_count_at q (r - 1) 0 a;
    long = length-set (set t.words row_count_at (r - 1)) cell_count_at _ ∙ length-set t.words row_count_at (r - 1);
    low = λ q a. closed-before 0 (row_places_at + i) (row_places_at + r) t.bytes (omega (arith, high)) bytes-room 0 q (omega (arith, a, low));
    later = λ q a. let f = so.few in closed_after 0 (row_places_at + i) (row_places_at + r) t.bytes (omega (arith, high)) bytes-room 0 q (omega (arith, a, f));
    wide = length-closed 0 (row_places_at + i) (row_places_at + r) t.bytes (omega (arith, high)) bytes-room 0;
    reals = λ q a. let f = few in closed_after nan (constants_at + i) (constants_at + count) t.reals (omega (arith, high, in_lines)) reals-room nan q (omega (arith, a, f));
  }

  place-before : (q : ℕ) → q < i → get_or u.bytes (row_places_at + q) 0 ≡ get_or t.bytes (row_places_at + q) 0
  unfolding dropped_in
  place-before q a = closed-before 0 (row_places_at + i) (row_places_at + r) t.bytes (omega (arith, high)) bytes-room 0 (row_places_at + q) (omega (arith, a))

  place_after : (q : ℕ) → i ≤ q → q < r → get_or u.bytes (row_places_at + q) 0 ≡ get_or t.bytes (row_places_at + suc q) 0
  unfolding dropped_in
  place_after q a b =
      let e : suc (row_places_at + q) ≡ row_places_at + suc q = omega arith in
      rw e at (closed-inside 0 (row_places_at + i) (row_places_at + r) t.bytes (omega (arith, high)) bytes-room 0 (row_places_at + q) (omega (arith, a)) (omega (arith, b)))

  constant-before : (q : ℕ) → q < i → get_or u.reals (constants_at + q) nan ≡ get_or t.reals (constants_at + q) nan
  unfolding dropped_in
  constant-before q a = closed-before nan (constants_at + i) (constants_at + count) t.reals (omega (arith, high, in_lines)) reals-room nan (constants_at + q) (omega (arith, a))

  constant-after : (q : ℕ) → i ≤ q → q < count → get_or u.reals (constants_at + q) nan ≡ get_or t.reals (constants_at + suc q) nan
  unfolding dropped_in
  constant-after q a b =
      let e : suc (constants_at + q) ≡ constants_at + suc q = omega arith in
      rw e at (closed-inside nan (constants_at + i) (constants_at + count) t.reals (omega (arith, high, in_lines)) reals-room nan (constants_at + q) (omega (arith, a)) (omega (arith, b)))

  abbrev c : Cells
  c = dropped (cell_count t) i t.keys t.values

  in-keys : cell_count t ≤ length t.keys
  in-keys = let f = held-few count (cell_count t) t.keys t.values so.held in let l = so.held.wide in let g = few in omega (arith, f, l, g)

  in-vals : cell_count t ≤ length t.values
  in-vals = let f = held-few count (cell_count t) t.keys t.values so.held in let l = so.held.wides in let g = few in omega (arith, f, l, g)

  narrow : w ≤ last_place
  narrow = so.named.few-symbols

  cells-before : (q : ℕ) → q < i → row_of u.keys u.values c.size w q ≡ row_of t.keys t.values (cell_count t) w q
  unfolding dropped_in
  cells-before q a = let l = narrow in dropped-before (cell_count t) i t.keys t.values q w a (omega (arith, l)) (so.held.up, in-keys, in-vals)

  cells-after : (q : ℕ) → i ≤ q → row_of u.keys u.values c.size w q ≡ row_of t.keys t.values (cell_count t) w (suc q)
  unfolding dropped_in
  cells-after q a =
      let l = narrow in
      let e : q + 1 ≡ suc q = omega arith in
      rw e at (dropped-after (cell_count t) i t.keys t.values q w a (omega (arith, l)) (so.held.up, in-keys, in-vals))

  symbol-count : symbol_count u ≡ w
  symbol-count = symbols-count t u so.named alone

  line_before : (q : ℕ) → q < i → (basic_of u q).row ≡ (basic_of t q).row
  unfolding basic_of
  line_before q a = rw (symbol-count, size_is, constant-before q a, cells-before q a) refl

  line_after : (q : ℕ) → i ≤ q → q < count → (basic_of u q).row ≡ (basic_of t (suc q)).row
  unfolding basic_of
  line_after q a b = rw (symbol-count, size_is, constant-after q a b, cells-after q a) refl

  name : (p q : ℕ) → 1 ≤ q → q ≤ r → get_or u.bytes (row_places_at + p) 0 ≡ get_or t.bytes (row_places_at + q) 0 → (basic_of u p).symbol ≡ (basic_of t q).symbol
  name p q a b e =
      let l = so.rows q a b in
      let f = narrow in
      basic-symbol u p ∙ ap (symbol_at u) e ∙ symbol-alone t u so.named alone (get_or t.bytes (row_places_at + q) 0) (omega (arith, l, f)) ∙ sym (basic-symbol t q)

  basic-before : (q : ℕ) → 1 ≤ q → q < i → basic_of u q ≡ basic_of t q
  basic-before q a b = basic-by (name q q a (omega (arith, b, high)) (place-before q b)) (line_before q b)

  basic-after : (q : ℕ) → i ≤ q → q < r → basic_of u q ≡ basic_of t (suc q)
  basic-after q a b = let l = in_lines in basic-by (name q (suc q) (omega arith) (omega (arith, b)) (place_after q a b)) (line_after q a (omega (arith, b, l)))

  -- ---- the rows

  abbrev id : ℕ
  id = (symbol_at t (get_or t.bytes (row_places_at + i) 0)).id

  abbrev has : ℕ → Bool
  has m = eqb id (symbol_at t (get_or t.bytes (row_places_at + m) 0)).id

  abbrev look : ℕ → ℕ → List Basic
  look m n = drop_row id (tab (λ j. basic_of t (1 + j)) m n)

  found : first has Some None 1 (1 + suc (r - 1)) ≡ Some i
  found =
      first-is has Some None 1 (1 + suc (r - 1)) i low (omega (arith, low, high)) (eq-eqb id id refl)
      (λ m a b.
      let x = so.rows m a (omega (arith, b, high)) in
      let y = so.rows i low high in
      let o = so.named.up (get_or t.bytes (row_places_at + m) 0) (get_or t.bytes (row_places_at + i) 0) x.0 (so.up m i a b high) y.1 in
      ne_eqb id (symbol_at t (get_or t.bytes (row_places_at + m) 0)).id (λ e. let z = sym (id-at t (get_or t.bytes (row_places_at + i) 0)) ∙ e ∙ id-at t (get_or t.bytes (row_places_at + m) 0) in omega (arith, z, o)))

  look-on : (m n : ℕ) → look m (suc n) ≡ cond (has (1 + m)) (tab (λ j. basic_of t (1 + j)) (suc m) n) (basic_of t (1 + m) ∷ look (suc m) n)
  unfolding tab drop_row is_symbol
  look-on m n = rw (← basic-symbol t (1 + m)) (as-cond (eqb id (basic_of t (1 + m)).symbol.id) (tab (λ j. basic_of t (1 + j)) (suc m) n) (basic_of t (1 + m) ∷ look (suc m) n))

  look-end : (m : ℕ) → look m zero ≡ []
  unfolding tab drop_row
  look-end m = refl

  gone : look 0 (suc (r - 1)) ≡ tab (λ j. basic_of u (1 + j)) 0 (r - 1)
  gone =
      drop-walk 1 has (λ j. basic_of t (1 + j)) (λ j. basic_of u (1 + j)) look look-end look-on (r - 1) i found
      (λ j a. basic-before (1 + j) (omega arith) a)
      (λ j a b. let e : suc (1 + j) ≡ 1 + suc j = omega arith in (rw e at (basic-after (1 + j) a (omega (arith, b)))))

  rows_are : basics_of u ≡ drop_row id (basics_of t)
  unfolding basics_of
  rows_are =
      let s : suc (r - 1) ≡ r = omega (arith, low, high) in
      let before : tab (λ j. basic_of t (1 + j)) 0 r ≡ tab (basic_of t) 1 r = tab-from (basic_of t) 1 0 r in
      let after : tab (λ j. basic_of u (1 + j)) 0 (r - 1) ≡ tab (basic_of u) 1 (r - 1) = tab-from (basic_of u) 1 0 (r - 1) in
      rw rows-fewer (sym after ∙ sym gone ∙ ap (λ (n : ℕ). look 0 n) s ∙ ap (drop_row id) before)

  artificial-is : artificial_of art u ≡ artificial_of art t
  unfolding artificial_of lines_of
  artificial-is = by art refl
    where
      by : (b : Bool) → art ≡ b → cond b (some (basic_of u (1 + row_count u)).row) none ≡ cond b (some (basic_of t (1 + row_count t)).row) none
      by true e =
          let o : 1 + (r - 1) ≡ r = omega (arith, low, high) in
          let z : suc r ≡ 1 + r = omega arith in
          let k : count ≡ r + 1 = rw e refl in
          ap (λ (x : Row). some x) (ap (λ (n : ℕ). (basic_of u (1 + n)).row) rows-fewer ∙ ap (λ (n : ℕ). (basic_of u n).row) o ∙ line_after r high (omega (arith, k)) ∙ ap (λ (n : ℕ). (basic_of t n).row) z)
      by false e = refl

  -- ---- the tables can be worked on further

  lines-fewer : lines_of art u ≡ count - 1
  unfolding lines_of
  lines-fewer = rw rows-fewer (by art)
    where
      by : (b : Bool) → cond b (r - 1 + 1) (r - 1) ≡ cond b (r + 1) r - 1
      by true = omega (arith, low, high)
      by false = refl

  held-c : Held (count - 1) c.size u.keys u.values
  unfolding dropped_in
  held-c = let l = in_lines in held-dropped count (cell_count t) i t.keys t.values so.held few low (omega (arith, high, l))

  left : (P : ℕ → Type 0) → ((q : ℕ) → 1 ≤ q → q ≤ r → (q ≡ i → ⊥) → P (get_or t.bytes (row_places_at + q) 0)) → (q : ℕ) → 1 ≤ q → q ≤ row_count u → P (get_or u.bytes (row_places_at + q) 0)
  left P f q a b = go (ltb q i) refl
    where
      go : (z : Bool) → ltb q i ≡ z → P (get_or u.bytes (row_places_at + q) 0)
      go true e = let l = ltb-true q i e in subst P (sym (place-before q l)) (f q a (omega (arith, l, high)) (λ z. omega (arith, z, l)))
      go false e = let m : q < r = let k = rows-fewer in omega (arith, b, k, low, high) in let l = ltb-false q i e in subst P (sym (place_after q l m)) (f (suc q) (omega arith) (omega (arith, m)) (λ z. omega (arith, z, l)))

  gone-free : Free (get_or t.bytes (row_places_at + i) 0) u
  gone-free = left (λ x. x ≡ get_or t.bytes (row_places_at + i) 0 → ⊥) λ q a b d e. go q a b d e (ltb q i) refl
    where
      go : (q : ℕ) → 1 ≤ q → q ≤ r → (q ≡ i → ⊥) → get_or t.bytes (row_places_at + q) 0 ≡ get_or t.bytes (row_places_at + i) 0 → (z : Bool) → ltb q i ≡ z → ⊥
      go q a b d e true f = let l = so.up q i a (ltb-true q i f) high in omega (arith, l, e)
      go q a b d e false f = let l = ltb-false q i f in let m = so.up i q low (omega (arith, l, d)) b in omega (arith, m, e)

  ups : (p q : ℕ) → 1 ≤ p → p < q → q ≤ row_count u → get_or u.bytes (row_places_at + p) 0 < get_or u.bytes (row_places_at + q) 0
  ups p q a b d = go (ltb p i) refl (ltb q i) refl
    where
      m : q < r
      m = let k = rows-fewer in omega (arith, d, k, low, high)

      go : (x : Bool) → ltb p i ≡ x → (y : Bool) → ltb q i ≡ y → get_or u.bytes (row_places_at + p) 0 < get_or u.bytes (row_places_at + q) 0
      go true e true f = rw (place-before p (ltb-true p i e), place-before q (ltb-true q i f)) (so.up p q a b (omega (arith, m)))
      go true e false f = rw (place-before p (ltb-true p i e), place_after q (ltb-false q i f) m) (so.up p (suc q) a (omega (arith, b)) (omega (arith, m)))
      go false e true f = absurd (omega (arith, ltb-false p i e, ltb-true q i f, b))
      go false e false f = rw (place_after p (ltb-false p i e) (omega (arith, b, m)), place_after q (ltb-false q i f) m) (so.up (suc p) (suc q) (omega arith) (omega (arith, b)) (omega (arith, m)))

  reals-long : length u.reals ≡ reals_size
  unfolding dropped_in
  reals-long = length-closed nan (constants_at + i) (constants_at + count) t.reals (omega (arith, high, in_lines)) reals-room nan ∙ so.long

  sound : Sound art u
  sound = record {
    named = named-alone t u so.named alone;
    held = rw (lines-fewer, size_is) held-c;
    few = let f = so.few in let k = rows-fewer in omega (arith, f, k);
    rows = λ q a b. rw symbol-count (left (λ x. (1 ≤ x) × (x ≤ w)) (λ q a b d. so.rows q a b) q a b);
    up = ups;
    long = reals-long;
  }

  keys-within : Inside t → (j : ℕ) → j < c.size → get_or u.keys j 0 % row_span ≤ w
  unfolding dropped_in
  keys-within h = let l = in_lines in within-dropped count (cell_count t) i t.keys t.values so.held few low (omega (arith, high, l)) w h

  kept : Kept t u
  kept = record { inside = λ h. rw (size_is, symbol-count) (keys-within h); owners = owners-alone t u so.named alone }

  pub drop-reads : Drops art i t u
  unfolding work_of read
  drop-reads = record {
    reads = λ a v. work-alone t u so.named alone art a v artificial-is rows_are;
    sound = sound;
    alone = alone;
    fewer = rows-fewer;
    free = λ p f. left (λ x. x ≡ p → ⊥) (λ q a b d. f q a b);
    gone = gone-free;
    kept = kept;
  }

-- the calls of the code, over variables
tables-by : (art : Bool) (i : ℕ) (t : Sparse) (count left : ℕ) (ws ks bs : List ℕ) (rs vs : List Float) → count ≡ lines_of art t → cells ks vs left ≡ dropped (cell_count t) i t.keys t.values
    → bs ≡ closed 0 (row_places_at + i) (row_places_at + row_count t) t.bytes → rs ≡ closed nan (constants_at + i) (constants_at + count) t.reals → ws ≡ set (set t.words row_count_at (row_count t - 1)) cell_count_at left → sparse ws ks bs rs vs ≡ dropped_in art i t
unfolding dropped_in
tables-by art i t count left ws ks bs rs vs e c b f h = rw (h, b, f, e, ← c) refl

pub drop-calls : (art : Bool) (i : ℕ) (t : Sparse) → Sound art t → 1 ≤ i → i ≤ row_count t → (count left : ℕ) (ws ks bs : List ℕ) (rs vs : List Float) → count ≡ lines_of art t → cells ks vs left ≡ dropped (cell_count t) i t.keys t.values
    → bs ≡ closed 0 (row_places_at + i) (row_places_at + row_count t) t.bytes → rs ≡ closed nan (constants_at + i) (constants_at + count) t.reals → ws ≡ set (set t.words row_count_at (row_count t - 1)) cell_count_at left → Drops art i t (sparse ws ks bs rs vs)
drop-calls art i t so low high count left ws ks bs rs vs e c b f h = subst (Drops art i t) (sym (tables-by art i t count left ws ks bs rs vs e c b f h)) (drop-reads art i t so low high)
