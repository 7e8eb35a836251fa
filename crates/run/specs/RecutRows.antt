-- Rows without fractions: every row operation gives the same with one cutoff as with another, and a row without fractions again (a solve does if it is on 1
-- or -1, as in a whole run). Assumes nothing.
use Rattle.std.specs.Prelude.{◌≡◌, Bool, cond, ℕ, T, ℤ, Float}
use Rattle.std.proofs.Math.Path.{refl, sym, ap, ap₂}
use Rattle.std.proofs.Common.{◌∙◌, subst}
use mathlib.Core.List.{List, [], ◌∷◌, ◌++◌, map}
use Rattle.std.proofs.Math.Bool.{true, false}
use Rattle.std.specs.Float.Ieee.{nan, fin, neg, div, lt, eq, of_bits}
use Rattle.std.specs.Float.{inf}
use Rattle.simplex.specs.Choose.{All}
use Rattle.laws.specs.exact.Whole.{IsZ, val, int, int-z, z-int}
use Rattle.laws.specs.exact.Unbroken.{Unbroken, neg-unbroken, add-unbroken, mul-unbroken}
use Rattle.steps.specs.Number.{zero64, one64, minus_one64, cell_bound, ◌+₆₄◌, ◌*₆₄◌, ◌/₆₄◌, magnitude, near_zero, cutoff_fits, is_finite, is_whole, all_whole, not_finite, whole_if}
use Rattle.steps.specs.Symbol.{Symbol, is_symbol, absent, coefficient_for, clear_cell, delete_cell}
use Rattle.steps.specs.Row.{Row, Cell, kept, wrote, stored, cell_value, cell_values, cell_marks, goes_if_near_zero, insert_cell, insert_symbol, insert_times, insert_cells, Written, untouched, insert_symbol_in_row, insert_row, scale_cell, scale_cells, factor_mark, solve_for_symbol, solve_for_symbols, reverse_sign}
use Rattle.steps.specs.State.{Basic}
use Rattle.steps.specs.Substitute.{substitute_in_row, substitute_in_cells, Substituted, substitute_in_rows, rows_of}
use Rattle.steps.proofs.Cutoff.{Between, cutoff-between}
use Rattle.simplex.specs.bridge.Nums.{near_zero-z, whole-if, finite≢, worse-l, worse-r, unit-cell, factor-z}

-- ---- numbers

pub whole-unbroken : (x : Float) → is_whole x ≡ true → Unbroken x
unfolding is_whole
whole-unbroken nan e = tt
whole-unbroken (inf s) e = tt
whole-unbroken (fin s m k) e = subst T (sym e) tt

pub exact-unbroken : (x : Float) {z : ℤ} → IsZ x z → Unbroken x
unfolding int
exact-unbroken nan h = tt
exact-unbroken (inf s) h = tt
exact-unbroken (fin s m k) h = z-int h

pub zero-unbroken : Unbroken zero64
unfolding zero64 of_bits
zero-unbroken = tt

pub one-unbroken : Unbroken one64
unfolding one64 of_bits
one-unbroken = tt

pub minus-one-unbroken : Unbroken minus_one64
unfolding minus_one64 of_bits
minus-one-unbroken = tt

pub stored-unbroken : (x : Float) → Unbroken x → Unbroken (stored x)
unfolding stored
stored-unbroken x h = go (absent x)
  where
    go : (b : Bool) → Unbroken (cond b zero64 x)
    go true = zero-unbroken
    go false = h

-- ---- rows

abbrev pub CellU : Cell → Type 0
CellU (kept c) = Unbroken c
CellU (wrote c) = Unbroken c

abbrev pub RowU : Row → Type 0
RowU r = Unbroken r.constant × All Unbroken r.cells

pub values-u : (cs : List Cell) → All CellU cs → All Unbroken (cell_values cs)
unfolding cell_values cell_value
values-u [] h = tt
values-u (kept c ∷ cs) h = (h.0, values-u cs h.1)
values-u (wrote c ∷ cs) h = (stored-unbroken c h.0, values-u cs h.1)

kept-u : (cs : List Float) → All Unbroken cs → All CellU (map kept cs)
kept-u [] h = tt
kept-u (c ∷ cs) h = (h.0, kept-u cs h.1)

pub coefficient-u : (s : ℕ) (xs : List Symbol) (cs : List Float) → All Unbroken cs → Unbroken (coefficient_for s xs cs)
unfolding coefficient_for
coefficient-u s [] cs h = zero-unbroken
coefficient-u s (x ∷ xs) [] h = zero-unbroken
coefficient-u s (x ∷ xs) (c ∷ cs) h = go (is_symbol s x) (coefficient-u s xs cs h.1)
  where
    go : (b : Bool) → Unbroken (coefficient_for s xs cs) → Unbroken (elim b as (λ _. Float) [ true ↦ c | false ↦ coefficient_for s xs cs ])
    go true ih = h.0
    go false ih = ih

clear-u : (s : ℕ) (xs : List Symbol) (cs : List Float) → All Unbroken cs → All Unbroken (clear_cell s xs cs)
unfolding clear_cell
clear-u s [] cs h = tt
clear-u s (x ∷ xs) [] h = tt
clear-u s (x ∷ xs) (c ∷ cs) h = go (is_symbol s x) (clear-u s xs cs h.1)
  where
    go : (b : Bool) → All Unbroken (clear_cell s xs cs) → All Unbroken (elim b as (λ _. List Float) [ true ↦ zero64 ∷ cs | false ↦ c ∷ clear_cell s xs cs ])
    go true ih = (zero-unbroken, h.1)
    go false ih = (h.0, ih)

pub delete-u : (s : ℕ) (xs : List Symbol) (cs : List Float) → All Unbroken cs → All Unbroken (delete_cell s xs cs)
unfolding delete_cell
delete-u s [] cs h = tt
delete-u s (x ∷ xs) [] h = tt
delete-u s (x ∷ xs) (c ∷ cs) h = go (is_symbol s x) (delete-u s xs cs h.1)
  where
    go : (b : Bool) → All Unbroken (delete_cell s xs cs) → All Unbroken (elim b as (λ _. List Float) [ true ↦ cs | false ↦ c ∷ delete_cell s xs cs ])
    go true ih = h.1
    go false ih = (h.0, ih)

pub append-u : (cs : List Float) → All Unbroken cs → All Unbroken (cs ++ (zero64 ∷ []))
append-u [] h = (zero-unbroken, tt)
append-u (c ∷ cs) h = (h.0, append-u cs h.1)

pub bare-u : (xs : List Symbol) → All Unbroken (map (λ _. zero64) xs)
bare-u [] = tt
bare-u (x ∷ xs) = (zero-unbroken, bare-u xs)

pub reverse-u : (r : Row) → RowU r → RowU (reverse_sign r)
unfolding reverse_sign
reverse-u r h = (neg-unbroken r.constant h.0, go r.cells h.1)
  where
    go : (cs : List Float) → All Unbroken cs → All Unbroken (map (λ (c : Float). stored (neg c)) cs)
    go [] h = tt
    go (c ∷ cs) h = (stored-unbroken (neg c) (neg-unbroken c h.0), go cs h.1)

-- ---- a solve on 1 or -1

unit-factor : (x f : Float) → Unbroken x → factor_mark x f ≡ all_whole → Unbroken (minus_one64 /₆₄ x)
unfolding factor_mark int
unit-factor x f h e = go x h (sized x (is_finite f) e) e
  where
    -- what is not finite is not 1 in size
    sized : (x : Float) (b : Bool) → cond b (whole_if (eq (magnitude x) one64)) not_finite ≡ all_whole → eq (magnitude x) one64 ≡ true
    sized x true e = whole-if (eq (magnitude x) one64) e
    sized x false e = absurd (finite≢ e)

    go : (x : Float) → Unbroken x → eq (magnitude x) one64 ≡ true → factor_mark x f ≡ all_whole → Unbroken (minus_one64 /₆₄ x)
    go nan h q e = unfold div minus_one64 of_bits in tt
    go (inf s) h q e = unfold div minus_one64 of_bits in tt
    go (fin s m k) h q e = let z : IsZ (fin s m k) (val (fin s m k)) = int-z (fin s m k) h in exact-unbroken (minus_one64 /₆₄ fin s m k) (factor-z z (unit-cell f z e))

scale-u : (k : Float) → Unbroken k → (cs : List Float) → All Unbroken cs → All CellU (scale_cells k cs)
unfolding scale_cells scale_cell
scale-u k hk [] h = tt
scale-u k hk (c ∷ cs) h = (go (absent c), scale-u k hk cs h.1)
  where
    go : (b : Bool) → CellU (elim b as (λ _. Cell) [ true ↦ kept c | false ↦ wrote (c *₆₄ k) ])
    go true = h.0
    go false = mul-unbroken c k h.0 hk

pub solve-u : (s : ℕ) (xs : List Symbol) (r : Row) → RowU r → (solve_for_symbol s xs r).mark ≡ all_whole → RowU (solve_for_symbol s xs r).row
unfolding solve_for_symbol
solve-u s xs r h m = (mul-unbroken r.constant (minus_one64 /₆₄ cell) h.0 factor, values-u _ (scale-u (minus_one64 /₆₄ cell) factor (clear_cell s xs r.cells) (clear-u s xs r.cells h.1)))
  where
    cell : Float
    cell = coefficient_for s xs r.cells

    factor : Unbroken (minus_one64 /₆₄ cell)
    factor = unit-factor cell (minus_one64 /₆₄ cell) (coefficient-u s xs r.cells h.1) (worse-l (factor_mark cell (minus_one64 /₆₄ cell)) _ m)

-- ---- with any cutoff

module _ (y : Float) where
  insert_cell-u : (c k : Float) → Unbroken c → Unbroken k → CellU (insert_cell y c k)
  unfolding insert_cell goes_if_near_zero
  insert_cell-u c k hc hk = go (absent c) (near_zero y k) (near_zero y (c +₆₄ k))
    where
      go : (a p q : Bool) → CellU (elim a as (λ _. Cell) [ true ↦ elim p as (λ _. Cell) [ true ↦ kept c | false ↦ wrote k ] | false ↦ wrote (cond q zero64 (c +₆₄ k)) ])
      go true true q = hc
      go true false q = hk
      go false p true = zero-unbroken
      go false p false = add-unbroken c k hc hk

  pub insert_symbol-u : (s : ℕ) (k : Float) → Unbroken k → (xs : List Symbol) (cs : List Float) → All Unbroken cs → All CellU (insert_symbol y s k xs cs)
  unfolding insert_symbol
  insert_symbol-u s k hk [] cs h = tt
  insert_symbol-u s k hk (x ∷ xs) [] h = tt
  insert_symbol-u s k hk (x ∷ xs) (c ∷ cs) h = (go (is_symbol s x), insert_symbol-u s k hk xs cs h.1)
    where
      go : (b : Bool) → CellU (elim b as (λ _. Cell) [ true ↦ insert_cell y c k | false ↦ kept c ])
      go true = insert_cell-u c k h.0 hk
      go false = h.0

  insert_times-u : (k o c : Float) → Unbroken k → Unbroken o → Unbroken c → CellU (insert_times y k o c)
  unfolding insert_times
  insert_times-u k o c hk ho hc = go (absent o)
    where
      go : (b : Bool) → CellU (elim b as (λ _. Cell) [ true ↦ kept c | false ↦ insert_cell y c (o *₆₄ k) ])
      go true = hc
      go false = insert_cell-u c (o *₆₄ k) hc (mul-unbroken o k ho hk)

  pub insert_cells-u : (k : Float) → Unbroken k → (os cs : List Float) → All Unbroken os → All Unbroken cs → All CellU (insert_cells y k os cs)
  unfolding insert_cells
  insert_cells-u k hk [] cs g h = tt
  insert_cells-u k hk (o ∷ os) [] g h = tt
  insert_cells-u k hk (o ∷ os) (c ∷ cs) g h = (insert_times-u k o c hk g.0 h.0, insert_cells-u k hk os cs g.1 h.1)

  pub insert_symbol_in_row-u : (s : ℕ) (k : Float) → Unbroken k → (xs : List Symbol) (r : Row) → RowU r → RowU (insert_symbol_in_row y s k xs r).row
  unfolding insert_symbol_in_row
  insert_symbol_in_row-u s k hk xs r h = (h.0, values-u _ (insert_symbol-u s k hk xs r.cells h.1))

  pub insert_row-u : (other : Row) (k : Float) (mine : Row) → RowU other → Unbroken k → RowU mine → RowU (insert_row y other k mine).row
  unfolding insert_row
  insert_row-u other k mine g hk h = (
    add-unbroken mine.constant (other.constant *₆₄ k) h.0 (mul-unbroken other.constant k g.0 hk),
    values-u _ (insert_cells-u k hk other.cells mine.cells g.1 h.1),
  )

  pub solves-u : (l e : ℕ) (xs : List Symbol) (r : Row) → RowU r → (solve_for_symbols y l e xs r).mark ≡ all_whole → RowU (solve_for_symbols y l e xs r).row
  unfolding solve_for_symbols
  solves-u l e xs r h m = solve-u e xs (insert_symbol_in_row y l minus_one64 xs r).row (insert_symbol_in_row-u l minus_one64 minus-one-unbroken xs r h) (worse-r (insert_symbol_in_row y l minus_one64 xs r).mark _ m)

  pub sub_row-u : (s : ℕ) (xs : List Symbol) (other mine : Row) → RowU other → RowU mine → RowU (substitute_in_row y s xs other mine).row
  unfolding substitute_in_row untouched
  sub_row-u s xs other mine g h = go (absent (coefficient_for s xs mine.cells))
    where
      cleared : Row
      cleared = record { constant = mine.constant; cells = clear_cell s xs mine.cells }

      go : (b : Bool) → RowU (elim b as (λ _. Written) [ true ↦ untouched mine | false ↦ insert_row y other (coefficient_for s xs mine.cells) cleared ]).row
      go true = h
      go false = insert_row-u other (coefficient_for s xs mine.cells) cleared g (coefficient-u s xs mine.cells h.1) (h.0, clear-u s xs mine.cells h.1)

  pub sub_cells-u : (s : ℕ) (xs : List Symbol) (other mine : List Float) → All Unbroken other → All Unbroken mine → All CellU (substitute_in_cells y s xs other mine)
  unfolding substitute_in_cells
  sub_cells-u s xs other mine g h = go (absent (coefficient_for s xs mine))
    where
      go : (b : Bool) → All CellU (elim b as (λ _. List Cell) [ true ↦ map kept mine | false ↦ insert_cells y (coefficient_for s xs mine) other (clear_cell s xs mine) ])
      go true = kept-u mine h
      go false = insert_cells-u (coefficient_for s xs mine) (coefficient-u s xs mine h) other (clear_cell s xs mine) g (clear-u s xs mine h)

  pub sub_rows-u : (s : ℕ) (xs : List Symbol) (other : Row) (bs : List Basic) → RowU other → All (λ (b : Basic). RowU b.row) bs → All (λ (b : Basic). RowU b.row) (rows_of (substitute_in_rows y s xs other bs))
  unfolding substitute_in_rows rows_of
  sub_rows-u s xs other [] g h = tt
  sub_rows-u s xs other (b ∷ bs) g h = (sub_row-u s xs other b.row g h.0, sub_rows-u s xs other bs g h.1)

-- ---- with one cutoff as with another

module _ (y z : Float) (fy : cutoff_fits y ≡ true) (fz : cutoff_fits z ≡ true) where
  pub near_same : (x : Float) → Unbroken x → near_zero z x ≡ near_zero y x
  unfolding int
  near_same nan h = unfold near_zero magnitude lt in refl
  near_same (inf s) h = far z fz s ∙ sym (far y fy s)
    where
      far : (c : Float) → cutoff_fits c ≡ true → (s : Bool) → near_zero c (inf s) ≡ false
      far c fits s = go (cutoff-between c fits) s
        where
          go : Between c → (s : Bool) → near_zero c (inf s) ≡ false
          go b true = unfold near_zero magnitude lt neg zero64 of_bits in rw b.is refl
          go b false = unfold near_zero magnitude lt neg zero64 of_bits in rw b.is refl
  near_same (fin s m k) h = let i = int-z (fin s m k) h in near_zero-z z fz i ∙ sym (near_zero-z y fy i)

  insert_cell-same : (c k : Float) → Unbroken c → Unbroken k → insert_cell z c k ≡ insert_cell y c k
  unfolding insert_cell goes_if_near_zero
  insert_cell-same c k hc hk =
      ap₂ (λ (p q : Bool). elim (absent c) as (λ _. Cell) [ true ↦ elim p as (λ _. Cell) [ true ↦ kept c | false ↦ wrote k ] | false ↦ wrote (cond q zero64 (c +₆₄ k)) ]) (near_same k hk)
      (near_same (c +₆₄ k) (add-unbroken c k hc hk))

  pub insert_symbol-same : (s : ℕ) (k : Float) → Unbroken k → (xs : List Symbol) (cs : List Float) → All Unbroken cs → insert_symbol z s k xs cs ≡ insert_symbol y s k xs cs
  unfolding insert_symbol
  insert_symbol-same s k hk [] cs h = refl
  insert_symbol-same s k hk (x ∷ xs) [] h = refl
  insert_symbol-same s k hk (x ∷ xs) (c ∷ cs) h =
      ap₂ (λ (d : Cell) (ds : List Cell). elim (is_symbol s x) as (λ _. Cell) [ true ↦ d | false ↦ kept c ] ∷ ds) (insert_cell-same c k h.0 hk) (insert_symbol-same s k hk xs cs h.1)

  pub insert_cells-same : (k : Float) → Unbroken k → (os cs : List Float) → All Unbroken os → All Unbroken cs → insert_cells z k os cs ≡ insert_cells y k os cs
  unfolding insert_cells insert_times
  insert_cells-same k hk [] cs g h = refl
  insert_cells-same k hk (o ∷ os) [] g h = refl
  insert_cells-same k hk (o ∷ os) (c ∷ cs) g h =
      ap₂ (λ (d : Cell) (ds : List Cell). elim (absent o) as (λ _. Cell) [ true ↦ kept c | false ↦ d ] ∷ ds) (insert_cell-same c (o *₆₄ k) h.0 (mul-unbroken o k g.0 hk))
      (insert_cells-same k hk os cs g.1 h.1)

  pub insert_symbol_in_row-same : (s : ℕ) (k : Float) → Unbroken k → (xs : List Symbol) (r : Row) → RowU r → insert_symbol_in_row z s k xs r ≡ insert_symbol_in_row y s k xs r
  unfolding insert_symbol_in_row
  insert_symbol_in_row-same s k hk xs r h =
      ap (λ (cells : List Cell). record { row = record { constant = r.constant; cells = cell_values cells }; constant_changed = false; mark = cell_marks cell_bound cells }) (insert_symbol-same s k hk xs r.cells h.1)

  pub insert_row-same : (other : Row) (k : Float) (mine : Row) → RowU other → Unbroken k → RowU mine → insert_row z other k mine ≡ insert_row y other k mine
  unfolding insert_row
  insert_row-same other k mine g hk h = rw (insert_cells-same k hk other.cells mine.cells g.1 h.1) refl

  pub solves-same : (l e : ℕ) (xs : List Symbol) (r : Row) → RowU r → solve_for_symbols z l e xs r ≡ solve_for_symbols y l e xs r
  unfolding solve_for_symbols
  solves-same l e xs r h = rw (insert_symbol_in_row-same l minus_one64 minus-one-unbroken xs r h) refl

  pub sub_row-same : (s : ℕ) (xs : List Symbol) (other mine : Row) → RowU other → RowU mine → substitute_in_row z s xs other mine ≡ substitute_in_row y s xs other mine
  unfolding substitute_in_row
  sub_row-same s xs other mine g h =
      ap (λ (r : Written). elim (absent (coefficient_for s xs mine.cells)) as (λ _. Written) [ true ↦ untouched mine | false ↦ r ])
      (insert_row-same other (coefficient_for s xs mine.cells) (record { constant = mine.constant; cells = clear_cell s xs mine.cells }) g (coefficient-u s xs mine.cells h.1) (h.0, clear-u s xs mine.cells h.1))

  pub sub_cells-same : (s : ℕ) (xs : List Symbol) (other mine : List Float) → All Unbroken other → All Unbroken mine → substitute_in_cells z s xs other mine ≡ substitute_in_cells y s xs other mine
  unfolding substitute_in_cells
  sub_cells-same s xs other mine g h =
      ap (λ (cs : List Cell). elim (absent (coefficient_for s xs mine)) as (λ _. List Cell) [ true ↦ map kept mine | false ↦ cs ])
      (insert_cells-same (coefficient_for s xs mine) (coefficient-u s xs mine h) other (clear_cell s xs mine) g (clear-u s xs mine h))

  pub sub_rows-same : (s : ℕ) (xs : List Symbol) (other : Row) (bs : List Basic) → RowU other → All (λ (b : Basic). RowU b.row) bs → substitute_in_rows z s xs other bs ≡ substitute_in_rows y s xs other bs
  unfolding substitute_in_rows
  sub_rows-same s xs other [] g h = refl
  sub_rows-same s xs other (b ∷ bs) g h =
      ap₂ (λ (r : Written) (rs : List Substituted). record { symbol = b.symbol; written = r } ∷ rs) (sub_row-same s xs other b.row g h.0) (sub_rows-same s xs other bs g h.1)
