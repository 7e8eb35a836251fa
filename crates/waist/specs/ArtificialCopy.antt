-- A dense row copied to the line after the rows is the artificial objective; and the copy goes again. Nothing else is read there.
-- Assumes nothing.
use Rattle.std.specs.Prelude.{ℕ, ◌+◌, ◌*◌, ◌%◌, ◌≤◌, ◌<◌, ◌≡◌, Bool, true, Float, length, set}
use Rattle.std.proofs.Math.Path.{refl, sym, ap}
use Rattle.std.proofs.Common.{◌∙◌, subst, arith}
use Rattle.std.proofs.Math.Bool.{false}
use mathlib.Core.List.{List}
use Rattle.std.proofs.Math.Option.{none, some}
use Rattle.std.specs.Float.Ieee.{nan}
use Rattle.std.proofs.Math.ListN.{get_or, length-set}
use Rattle.std.proofs.Math.Seq.{get_or-set_same, get_or-set_other}
use Rattle.laws.specs.Lists.{tab-ext}
use Rattle.steps.specs.Number.{Mark}
use Rattle.steps.specs.Row.{Row}
use Rattle.steps.specs.Work.{with_tableau, with_rows, with_artificial}
use Rattle.keeps.specs.Fits.{FitsW, fits-plain}
use Rattle.layout.specs.Layout.{cells_of}
use Rattle.rows.specs.Reading as dense
use Rattle.sparse.specs.Places.{row_count_at, cell_count_at, row_places_at, constants_at}
use Rattle.sparse.specs.Sparse.{Sparse, symbol_count, row_count, cell_count, symbol_at, basic_of, basics_of, read}
use Rattle.layout.specs.cells.Names.{row_span, cell_room, last_place}
use Rattle.layout.specs.cells.Cells.{Ascending, Present, Cells, cells, cell_at, row_of, lower_in, replaced}
use Rattle.layout.specs.cells.Search.{Bound, lower-bound}
use Rattle.layout.specs.cells.Reads.{ascending-le, cell-within}
use Rattle.layout.specs.cells.Replaced.{replaced-own, replaced-other}
use Rattle.waist.specs.merging.Merge.{Placed}
use Rattle.waist.specs.substituting.Held.{Held, held-room, held-replaced}
use Rattle.waist.specs.substituting.Loose.{SettledRow}
use Rattle.waist.specs.Working.{sparse, artificial_of, work_of, lines_of, dense-cells, Sound, lines-few, basic-symbol}
use Rattle.waist.specs.Owning.{Inside, Kept}
use Rattle.waist.specs.Within.{within-replaced}
use Rattle.waist.specs.Stepping.{line-count, row-line-count}
use Rattle.waist.specs.Alone.{RowsAlone, symbols-count, symbol-alone, named-alone, owners-alone, work-alone}
use Rattle.waist.specs.Dropping.{basic-by}
use Rattle.waist.specs.Standing.{Standing, Makes}

-- the tables without the line after the rows, and with another line there: the rows and all else are read as before
module _ (art : Bool) (t u : Sparse) (so : Sound art t) (alone : RowsAlone t u) (rows : row_count u ≡ row_count t) (bytes : u.bytes ≡ t.bytes) (line : (i : ℕ) → i ≤ row_count t → (basic_of u i).row ≡ (basic_of t i).row) where
  same-basics : basics_of u ≡ basics_of t
  unfolding basics_of
  same-basics = rw rows (tab-ext (basic_of u) (basic_of t) 1 (row_count t) λ i a b.
      let l = so.rows i a (omega (arith, b)) in
      let f = so.named.few-symbols in
      basic-by (basic-symbol u i ∙ ap (λ (b : List ℕ). symbol_at u (get_or b (row_places_at + i) 0)) bytes ∙ symbol-alone t u so.named alone (get_or t.bytes (row_places_at + i) 0) (omega (arith, l, f)) ∙ sym (basic-symbol t i)) (line i (omega (arith, b))))

  same-work : (a : Mark) (v : ℕ) → work_of false a v u ≡ work_of false a v t
  unfolding with_rows with_tableau work_of read artificial_of
  same-work a v = work-alone t u so.named alone false a v refl same-basics

  same_rows : (i : ℕ) → 1 ≤ i → i ≤ row_count u → (1 ≤ get_or u.bytes (row_places_at + i) 0) × (get_or u.bytes (row_places_at + i) 0 ≤ symbol_count u)
  same_rows i a b = rw (bytes, symbols-count t u so.named alone) (so.rows i a (rw rows at b))

  same_up : (i q : ℕ) → 1 ≤ i → i < q → q ≤ row_count u → get_or u.bytes (row_places_at + i) 0 < get_or u.bytes (row_places_at + q) 0
  same_up i q a b d = rw bytes (so.up i q a b (rw rows at d))

-- ---- a row is copied

unfoldable pub copied_in : List Float → Sparse → Sparse
copied_in row t =
    let c : Cells = replaced (cell_count t) (1 + row_count t) (symbol_count t) row t.keys t.values in
    sparse (set t.words cell_count_at c.size) c.keys t.bytes (set t.reals (constants_at + (1 + row_count t)) (get_or row 0 nan)) c.vals

pub record Copies (row : List Float) (t u : Sparse) : Type 0 where
  pub reads : (a : Mark) (v : ℕ) → work_of true a v u ≡ with_artificial (some (dense.row_of (symbol_count t) row)) (work_of false a v t)
  pub sound : Sound true u
  pub kept : Kept t u

-- what the code needs to lay the row down
pub copy-room : (t : Sparse) → Sound false t → Ascending t.keys (cell_count t) × (cell_count t + symbol_count t ≤ cell_room)
copy-room t so =
    let f = held-room (lines_of false t) (cell_count t) t.keys t.values so.held (lines-few false t so) in
    let m = so.named.few-symbols in
    (so.held.up, omega (arith, f, m))

module _ (row : List Float) (t : Sparse) (so : Sound false t) (ok : SettledRow (symbol_count t) row) where
  abbrev u : Sparse
  u = copied_in row t

  abbrev n : ℕ
  n = cell_count t

  abbrev r : ℕ
  r = row_count t

  abbrev w : ℕ
  w = symbol_count t

  abbrev c : Cells
  c = replaced n (1 + r) w row t.keys t.values

  narrow : w ≤ last_place
  narrow = so.named.few-symbols

  held : Held r n t.keys t.values
  held = subst (λ (x : ℕ). Held x n t.keys t.values) (row-line-count t) so.held

  wider : Held (r + 1) n t.keys t.values
  wider =
      let h = held in
      record { up = h.up; present = h.present; placed = h.placed; low = h.low; high = λ j l. let g = h.high j l in omega (arith, g); wide = h.wide; wides = h.wides }

  room : n + last_place ≤ cell_room
  room = let f = so.few in held-room r n t.keys t.values held (omega (arith, f))

  fits-k : n + w ≤ length t.keys
  fits-k = let f = room in let l = so.held.wide in let m = narrow in omega (arith, f, l, m)

  fits-v : n + w ≤ length t.values
  fits-v = let f = room in let l = so.held.wides in let m = narrow in omega (arith, f, l, m)

  size_is : cell_count u ≡ c.size
  unfolding copied_in
  size_is = let l = so.named.long in get_or-set_same t.words cell_count_at c.size 0 (omega (arith, l))

  alone : RowsAlone t u
  unfolding copied_in
  alone = record {
    words = λ q a b. get_or-set_other t.words cell_count_at q c.size 0 b;
    long = length-set t.words cell_count_at c.size;
    low = λ q a. refl;
    later = λ q a. refl;
    wide = refl;
    reals = λ q a. let f = so.few in get_or-set_other t.reals (constants_at + (1 + r)) q (get_or row 0 nan) nan (λ e. omega (arith, e, a, f));
  }

  rows_same : row_count u ≡ r
  unfolding copied_in
  rows_same = get_or-set_other t.words cell_count_at row_count_at c.size 0 (λ e. omega (arith, e))

  bytes_same : u.bytes ≡ t.bytes
  unfolding copied_in
  bytes_same = refl

  symbol-count : symbol_count u ≡ w
  symbol-count = symbols-count t u so.named alone

  other-cells : (i : ℕ) → i ≤ r → row_of u.keys u.values c.size w i ≡ row_of t.keys t.values n w i
  unfolding copied_in
  other-cells i h = let l = narrow in replaced-other n (1 + r) w row t.keys t.values i w (λ e. omega (arith, e, h)) (omega (arith, l)) (so.held.up, omega (arith, l), fits-k, fits-v)

  own-cells : row_of u.keys u.values c.size w (1 + r) ≡ cells_of w row
  unfolding copied_in
  own-cells =
      let l = narrow in
      replaced-own n (1 + r) w row t.keys t.values (so.held.up, omega (arith, l), fits-k, fits-v) ∙ tab-ext _ (λ q. get_or row q nan) 1 w (λ q a b. ok q a (omega (arith, b))) ∙ sym (dense-cells w row)

  constant-other : (i : ℕ) → i ≤ r → get_or u.reals (constants_at + i) nan ≡ get_or t.reals (constants_at + i) nan
  unfolding copied_in
  constant-other i h = get_or-set_other t.reals (constants_at + (1 + r)) (constants_at + i) (get_or row 0 nan) nan (λ e. omega (arith, e, h))

  constant-own : get_or u.reals (constants_at + (1 + r)) nan ≡ get_or row 0 nan
  unfolding copied_in
  constant-own = let l = so.long in let f = so.few in get_or-set_same t.reals (constants_at + (1 + r)) (get_or row 0 nan) nan (omega (arith, l, f))

  line : (i : ℕ) → i ≤ r → (basic_of u i).row ≡ (basic_of t i).row
  unfolding basic_of
  line i h = rw (symbol-count, size_is, constant-other i h, other-cells i h) refl

  copy_is : (basic_of u (1 + r)).row ≡ dense.row_of w row
  unfolding basic_of dense.row_of
  copy_is = rw (symbol-count, size_is, constant-own, own-cells) refl

  artificial-is : artificial_of true u ≡ some (dense.row_of w row)
  unfolding artificial_of
  artificial-is = rw rows_same (ap (λ (x : Row). some x) copy_is)

  with-copy : (a : Mark) (v : ℕ) → work_of true a v u ≡ with_artificial (artificial_of true u) (work_of false a v u)
  unfolding work_of with_artificial
  with-copy a v = refl

  held-c : Held (r + 1) c.size u.keys u.values
  unfolding copied_in
  held-c = let f = room in let l = narrow in held-replaced (r + 1) n (1 + r) w row t.keys t.values wider (omega arith) (omega arith) l (omega (arith, f, l))

  reals-long : length u.reals ≡ length t.reals
  unfolding copied_in
  reals-long = length-set t.reals (constants_at + (1 + r)) (get_or row 0 nan)

  lines_are : lines_of true u ≡ r + 1
  lines_are = line-count u ∙ rw rows_same refl

  keys-within : Inside t → (j : ℕ) → j < c.size → get_or u.keys j 0 % row_span ≤ w
  unfolding copied_in
  keys-within h = let l = narrow in within-replaced n (1 + r) w row t.keys t.values so.held.up (omega (arith, l)) fits-k fits-v h

  pub copy-reads : Copies row t u
  copy-reads = record {
    reads = λ a v. with-copy a v ∙ rw (artificial-is, same-work false t u so alone rows_same bytes_same line a v) refl;
    sound = record {
      named = named-alone t u so.named alone;
      held = rw (lines_are, size_is) held-c;
      few = rw rows_same so.few;
      rows = same_rows false t u so alone rows_same bytes_same line;
      up = same_up false t u so alone rows_same bytes_same line;
      long = reals-long ∙ so.long;
    };
    kept = record { inside = λ h. rw (size_is, symbol-count) (keys-within h); owners = owners-alone t u so.named alone };
  }

  -- the calls of the code, over variables
  tables-by : (size : ℕ) (ks : List ℕ) (vs : List Float) → cells ks vs size ≡ c → sparse (set t.words cell_count_at size) ks t.bytes (set t.reals (constants_at + (1 + r)) (get_or row 0 nan)) vs ≡ u
  unfolding copied_in
  tables-by size ks vs e = rw (← e) refl

  pub copy-calls : (size : ℕ) (ks : List ℕ) (vs : List Float) → cells ks vs size ≡ c → Copies row t (sparse (set t.words cell_count_at size) ks t.bytes (set t.reals (constants_at + (1 + r)) (get_or row 0 nan)) vs)
  copy-calls size ks vs e = subst (Copies row t) (sym (tables-by size ks vs e)) copy-reads

-- ---- the copy goes

module _ (t : Sparse) (so : Sound true t) where
  abbrev end : ℕ
  end = lower_in t.keys ((1 + row_count t) * row_span) 0 (cell_count t)

  abbrev less : Sparse
  less = sparse (set t.words cell_count_at end) t.keys t.bytes t.reals t.values

  bound : Bound t.keys ((1 + row_count t) * row_span) 0 (cell_count t) end
  bound = lower-bound t.keys ((1 + row_count t) * row_span) 0 (cell_count t) (omega arith)

  past : (j : ℕ) → end ≤ j → j < cell_count t → (1 + row_count t) * row_span ≤ get_or t.keys j 0
  past j a b =
      let u = ascending-le t.keys (cell_count t) end j so.held.up a b in
      let v = bound.3 (omega (arith, a, b)) in
      omega (arith, u, v)

  end_is : cell_count less ≡ end
  end_is = let l = so.named.long in get_or-set_same t.words cell_count_at end 0 (omega (arith, l))

  held-less : Held (row_count t) end t.keys t.values
  unfolding Ascending Present Placed
  held-less =
      let h = so.held in
      let b = bound.1 in
      record {
        up = λ x y l m. h.up x y l (omega (arith, m, b));
        present = λ j l. h.present j (omega (arith, l, b));
        placed = λ j l. h.placed j (omega (arith, l, b));
        low = λ j l. h.low j (omega (arith, l, b));
        high = λ j l. let g = bound.2 j (omega arith) l in omega (arith, g);
        wide = h.wide;
        wides = h.wides;
      }

  less-alone : RowsAlone t less
  less-alone = record {
    words = λ q a b. get_or-set_other t.words cell_count_at q end 0 b;
    long = length-set t.words cell_count_at end;
    low = λ q a. refl;
    later = λ q a. refl;
    wide = refl;
    reals = λ q a. refl;
  }

  less-rows : row_count less ≡ row_count t
  less-rows = get_or-set_other t.words cell_count_at row_count_at end 0 (λ e. omega (arith, e))

  -- the rows' cells stand before the copy's
  less-cells : (i w : ℕ) → i ≤ row_count t → w < row_span → row_of t.keys t.values end w i ≡ row_of t.keys t.values (cell_count t) w i
  unfolding row_of cell_at
  less-cells i w h l =
      tab-ext (λ p. cell_at t.keys t.values end (i * row_span + p)) (λ p. cell_at t.keys t.values (cell_count t) (i * row_span + p)) 1 w λ p a b.
      sym (cell-within t.keys t.keys t.values t.values (i * row_span + p) 0 0 end (cell_count t) (omega arith) (omega arith) bound.1 (λ j x y. refl) (λ j x y. refl)
      (λ j x y e. omega (arith, x, y)) (λ j x y e. let g = past j x y in omega (arith, g, e, b, l, h)))

  less-symbols : symbol_count less ≡ symbol_count t
  less-symbols = symbols-count t less so.named less-alone

  less-line : (i : ℕ) → i ≤ row_count t → (basic_of less i).row ≡ (basic_of t i).row
  unfolding basic_of
  less-line i h = let l = so.named.few-symbols in rw (less-symbols, end_is, less-cells i (symbol_count t) h (omega (arith, l))) refl

  less-lines : lines_of false less ≡ row_count t
  less-lines = row-line-count less ∙ less-rows

  less-sound : Sound false less
  less-sound = record {
    named = named-alone t less so.named less-alone;
    held = rw (less-lines, end_is) held-less;
    few = rw less-rows so.few;
    rows = same_rows true t less so less-alone less-rows refl less-line;
    up = same_up true t less so less-alone less-rows refl less-line;
    long = so.long;
  }

  plain : (a : Mark) (v : ℕ) → work_of false a v t ≡ with_artificial none (work_of true a v t)
  unfolding work_of with_artificial artificial_of
  plain a v = refl

  less-reads : (a : Mark) (v : ℕ) → work_of false a v less ≡ with_artificial none (work_of true a v t)
  less-reads a v = same-work true t less so less-alone less-rows refl less-line a v ∙ plain a v

  plain_fits : (a : Mark) → FitsW (work_of true a 0 t) → FitsW (with_artificial none (work_of true a 0 t))
  unfolding with_artificial
  plain_fits a f = fits-plain f

  less-inside : Inside t → Inside less
  less-inside h j l = let m : j < end = rw end_is at l in let b = bound.1 in rw less-symbols (h j (omega (arith, m, b)))

  close-makes : (a : Mark) → Standing true a t → Makes true false a a (with_artificial none) t less
  close-makes a st = record {
    reads = less-reads a;
    stands = record {
      sound = less-sound;
      inside = less-inside st.inside;
      owners = owners-alone t less so.named less-alone st.owners;
      fits = subst FitsW (sym (less-reads a 0)) (plain_fits a st.fits);
    };
  }

  -- the call of the code, over a variable
  pub close-calls : {m : ℕ} → m ≡ end → (a : Mark) → Standing true a t → Makes true false a a (with_artificial none) t (sparse (set t.words cell_count_at m) t.keys t.bytes t.reals t.values)
  close-calls e a st = subst (λ (x : ℕ). Makes true false a a (with_artificial none) t (sparse (set t.words cell_count_at x) t.keys t.bytes t.reals t.values)) (sym e) (close-makes a st)
