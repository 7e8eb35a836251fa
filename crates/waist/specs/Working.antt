-- What a call works on, read from its sparse tables: the steps' Work; and tables on which the operations may work.
-- The artificial objective, where one stands, is the line after the last row: its cells among the keys, its constant after the rows'.
-- Assumes nothing.
use Rattle.std.specs.Prelude.{ℕ, ◌+◌, ◌≤◌, ◌<◌, ◌≡◌, Bool, true, false, cond, List, Float, length, ltb}
use Rattle.std.proofs.Math.Path.{refl, sym}
use Rattle.std.proofs.Common.{◌∙◌, arith, ltb-true, ltb-false, eq-eqb, ne_eqb}
use Rattle.std.proofs.Math.Option.{Option, none, some}
use Rattle.std.specs.Float.{nan}
use Rattle.std.proofs.Math.ListN.{get_or}
use Rattle.laws.specs.Lists.{tab, list_of, get_or-tab}
use Rattle.steps.specs.Number.{Mark}
use Rattle.steps.specs.Symbol.{Symbol, is_symbol}
use Rattle.steps.specs.Row.{Row}
use Rattle.steps.specs.State.{Basic, Changes}
use Rattle.steps.specs.Work.{Work}
use Rattle.layout.specs.Layout.{cells_of}
use Rattle.layout.specs.Laying.{tab-from}
use Rattle.rows.specs.Place.{PlaceOf, place-from}
use Rattle.sparse.specs.Places.{most_rows, next_id_at, symbol_count_at, row_count_at, cell_count_at, variable_count_at, ids_at, row_places_at, cutoff_at, reals_size}
use Rattle.sparse.specs.Sparse.{Sparse, symbol_count, row_count, cell_count, symbol_at, basic_of, symbols_of, basics_of, objective_of, read}
use Rattle.sparse.specs.Widths.{symbols-read}
use Rattle.waist.specs.substituting.Held.{Held}
use Rattle.waist.specs.substituting.Named.{Named}

abbrev pub sparse : List ℕ → List ℕ → List ℕ → List Float → List Float → Sparse
sparse w k b r v = record { words = w; keys = k; bytes = b; reals = r; values = v }

unfoldable pub artificial_of : Bool → Sparse → Option Row
artificial_of art t = cond art (some (basic_of t (1 + row_count t)).row) none

-- the mark and the pivots made are the call's own
unfoldable pub work_of : Bool → Mark → ℕ → Sparse → Work
work_of art a v t = record { tableau = (read t).tableau; changes = (read t).changes; artificial = artificial_of art t; mark = a; pivots = v }

-- the cutoff of near zero, which no step changes
abbrev pub cutoff_of : Sparse → Float
cutoff_of t = get_or t.reals cutoff_at nan

abbrev pub work : Float → List Symbol → ℕ → List Basic → List Float → Changes → Option Row → Mark → ℕ → Work
work cutoff symbols next rows objective changes artificial mark pivots =
    record {
      tableau = record { cutoff = cutoff; symbols = symbols; next_id = next; rows = rows; objective = objective };
      changes = changes;
      artificial = artificial;
      mark = mark;
      pivots = pivots;
    }

pub work-parts : (art : Bool) (a : Mark) (v : ℕ) (t : Sparse) → work_of art a v t ≡ work (cutoff_of t) (symbols_of t) (get_or t.words next_id_at 0) (basics_of t) (objective_of t) (read t).changes (artificial_of art t) a v
unfolding work_of read
work-parts art a v t = refl

unfoldable pub lines_of : Bool → Sparse → ℕ
lines_of art t = cond art (row_count t + 1) (row_count t)

-- the cells of a dense row, whose place 0 is its constant
pub dense-cells : (w : ℕ) (row : List Float) → cells_of w row ≡ tab (λ p. get_or row p nan) 1 w
unfolding cells_of list_of
dense-cells w row = tab-from (λ p. get_or row p nan) 1 0 w

pub record Sound (art : Bool) (t : Sparse) : Type 0 where
  pub named : Named t.words t.bytes
  pub held : Held (lines_of art t) (cell_count t) t.keys t.values
  pub few : row_count t < most_rows
  pub rows : (i : ℕ) → 1 ≤ i → i ≤ row_count t → (1 ≤ get_or t.bytes (row_places_at + i) 0) × (get_or t.bytes (row_places_at + i) 0 ≤ symbol_count t)
  -- rows stand by ascending id: by ascending place
  pub up : (i q : ℕ) → 1 ≤ i → i < q → q ≤ row_count t → get_or t.bytes (row_places_at + i) 0 < get_or t.bytes (row_places_at + q) 0
  pub long : length t.reals ≡ reals_size

pub lines-few : (art : Bool) (t : Sparse) → Sound art t → lines_of art t ≤ most_rows
unfolding lines_of
lines-few true t s = let f = s.few in omega (arith, f)
lines-few false t s = let f = s.few in omega (arith, f)

pub rows-lines : (art : Bool) (t : Sparse) → row_count t ≤ lines_of art t
unfolding lines_of
rows-lines true t = omega arith
rows-lines false t = omega arith

-- the lines as the code counts them
pub lines-by : (art : Bool) (t : Sparse) → Sound art t → {l : ℕ} → l ≡ cond art (row_count t + 1) (row_count t) → (l ≤ most_rows) × Held l (cell_count t) t.keys t.values × (l ≡ lines_of art t) × (row_count t ≤ l)
unfolding lines_of
lines-by art t s e = rw e (lines-few art t s, s.held, refl, rows-lines art t)

pub lines_same : (art : Bool) (t u : Sparse) → row_count u ≡ row_count t → lines_of art u ≡ lines_of art t
unfolding lines_of
lines_same art t u e = rw e refl

-- the counts of rows and of cells are no names
pub named-words : (w w' b : List ℕ) → Named w b → length w' ≡ length w → ((q : ℕ) → (q ≡ row_count_at → ⊥) → (q ≡ cell_count_at → ⊥) → get_or w' q 0 ≡ get_or w q 0) → Named w' b
named-words w w' b n l f =
    let c : get_or w' symbol_count_at 0 ≡ get_or w symbol_count_at 0 = f symbol_count_at (λ e. omega (arith, e)) (λ e. omega (arith, e)) in
    let v : get_or w' variable_count_at 0 ≡ get_or w variable_count_at 0 = f variable_count_at (λ e. omega (arith, e)) (λ e. omega (arith, e)) in
    record {
      long = l ∙ n.long;
      wide = n.wide;
      few-symbols = rw c n.few-symbols;
      few-variables = rw v n.few-variables;
      up = λ p q a d e. rw (f (ids_at + p) (λ z. omega (arith, z)) (λ z. omega (arith, z)), f (ids_at + q) (λ z. omega (arith, z)) (λ z. omega (arith, z))) (n.up p q a d (rw c at e));
      variables = λ i a. rw c (n.variables i (rw v at a));
    }

pub basic-symbol : (t : Sparse) (i : ℕ) → (basic_of t i).symbol ≡ symbol_at t (get_or t.bytes (row_places_at + i) 0)
unfolding basic_of
basic-symbol t i = refl

-- ---- a live place

pub id-at : (t : Sparse) (p : ℕ) → (symbol_at t p).id ≡ get_or t.words (ids_at + p) 0
unfolding symbol_at
id-at t p = refl

module _ (t : Sparse) (n : Named t.words t.bytes) where
  symbol-at : (i : ℕ) (d : Symbol) → i < symbol_count t → get_or (symbols_of t) i d ≡ symbol_at t (1 + i)
  unfolding symbols_of
  symbol-at i d h = get_or-tab (symbol_at t) 1 (symbol_count t) i d h

  pub live-place : (j : ℕ) → j < symbol_count t → PlaceOf (symbol_at t (1 + j)).id (symbols_of t) j
  unfolding is_symbol
  live-place j h =
      let d : Symbol = symbol_at t 0 in
      let c = symbols-read t in
      place-from (symbol_at t (1 + j)).id (symbols_of t) j d (omega (arith, h, c))
      (rw (symbol-at j d h) (eq-eqb (symbol_at t (1 + j)).id (symbol_at t (1 + j)).id refl))
      (λ i b e. rw (symbol-at i d (omega (arith, b, c))) (ne_eqb (symbol_at t (1 + j)).id (symbol_at t (1 + i)).id (apart i (omega (arith, b, c)) e)))
    where
      apart : (i : ℕ) → i < symbol_count t → (i ≡ j → ⊥) → (symbol_at t (1 + j)).id ≡ (symbol_at t (1 + i)).id → ⊥
      apart i b e q = go (ltb i j) refl
        where
          same : get_or t.words (ids_at + (1 + j)) 0 ≡ get_or t.words (ids_at + (1 + i)) 0
          same = sym (id-at t (1 + j)) ∙ q ∙ id-at t (1 + i)

          go : (z : Bool) → ltb i j ≡ z → ⊥
          go true f = let u = n.up (1 + i) (1 + j) (omega arith) (omega (arith, ltb-true i j f)) (omega (arith, h)) in omega (arith, u, same)
          go false f =
              let l = ltb-false i j f in
              let m : j < i = omega (arith, l, e) in
              let u = n.up (1 + j) (1 + i) (omega arith) (omega (arith, m)) (omega (arith, b)) in
              omega (arith, u, same)
