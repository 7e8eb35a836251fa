-- The sparse tables place by place where a symbol goes with its cells: the places past it come one place down, in the rows and in the variables too.
-- Assumes nothing.
use Prim.Native.Nat.{ℕ, suc, ◌+◌, ◌-◌, ◌≤◌, ◌<◌}
use Rattle.std.specs.Prelude.{◌≡◌, false, List, length, get_or, set}
use Rattle.std.proofs.Math.Path.{refl, ap}
use Rattle.std.proofs.Common.{◌∙◌}
use native.Mathlib.Omega.{arith}
use Rattle.std.specs.Float.Ieee.{nan}
use Rattle.std.proofs.Math.ListN.{length-set}
use Rattle.std.proofs.Math.Seq.{get_or-set_same, get_or-set_other}
use Rattle.laws.specs.Loops.{map_in}
use Rattle.laws.specs.Places.{length-map_in, map_in-at, map_in-before, map_in-after}
use Rattle.rows.specs.moves.Close.{closed}
use Rattle.rows.specs.moves.Moved.{closed-before, closed-inside, closed_after, length-closed}
use Rattle.sparse.specs.Places.{symbol_count_at, cell_count_at, ids_at, variable_numbers_at, kinds_at, row_places_at, variable_places_at, changed_at, objective_at, cutoff_at}
use Rattle.sparse.specs.Sparse.{Sparse, symbol_count, row_count, cell_count, variable_count}
use Rattle.layout.specs.cells.Names.{last_place}
use Rattle.layout.specs.cells.Cells.{Cells}
use Rattle.waist.specs.Working.{sparse, Sound}
use Rattle.waist.specs.Lowering.{near_place}
use Rattle.waist.specs.PurgingCells.{purged_cells}

-- the symbol at place p goes: its name, kind, cells and its cell of the objective
unfoldable pub closed_in : ℕ → Sparse → Sparse
closed_in p t =
    let c : Cells = purged_cells (cell_count t) p t.keys t.values in
    sparse (set (set (closed 0 (ids_at + p) (ids_at + symbol_count t) t.words) symbol_count_at (symbol_count t - 1)) cell_count_at c.size) c.keys
    (map_in (near_place p) variable_places_at (variable_places_at + variable_count t) (map_in (near_place p) (row_places_at + 1) (row_places_at + 1 + row_count t) (closed 0 (kinds_at + p) (kinds_at + symbol_count t) t.bytes)))
    (closed nan (objective_at + p) (objective_at + symbol_count t) t.reals) c.vals

-- the same, place by place
pub record Closing (p : ℕ) (t u : Sparse) : Type 0 where
  pub less : symbol_count u ≡ symbol_count t - 1
  pub size : cell_count u ≡ (purged_cells (cell_count t) p t.keys t.values).size
  pub keys : u.keys ≡ (purged_cells (cell_count t) p t.keys t.values).keys
  pub values : u.values ≡ (purged_cells (cell_count t) p t.keys t.values).vals
  pub head : (q : ℕ) → (q ≡ symbol_count_at → ⊥) → (q ≡ cell_count_at → ⊥) → q < ids_at + p → get_or u.words q 0 ≡ get_or t.words q 0
  pub ids : (q : ℕ) → p ≤ q → q < symbol_count t → get_or u.words (ids_at + q) 0 ≡ get_or t.words (ids_at + suc q) 0
  pub words : (q : ℕ) → variable_numbers_at ≤ q → get_or u.words q 0 ≡ get_or t.words q 0
  pub long : length u.words ≡ length t.words
  pub firsts : (q : ℕ) → q < p → get_or u.bytes (kinds_at + q) 0 ≡ get_or t.bytes (kinds_at + q) 0
  pub kinds : (q : ℕ) → p ≤ q → q < symbol_count t → get_or u.bytes (kinds_at + q) 0 ≡ get_or t.bytes (kinds_at + suc q) 0
  pub rows : (i : ℕ) → 1 ≤ i → i ≤ row_count t → get_or u.bytes (row_places_at + i) 0 ≡ near_place p (get_or t.bytes (row_places_at + i) 0)
  pub owns : (v : ℕ) → v < variable_count t → get_or u.bytes (variable_places_at + v) 0 ≡ near_place p (get_or t.bytes (variable_places_at + v) 0)
  pub bytes : (q : ℕ) → changed_at ≤ q → get_or u.bytes q 0 ≡ get_or t.bytes q 0
  pub wide : length u.bytes ≡ length t.bytes
  pub reals : (q : ℕ) → q < objective_at + p → get_or u.reals q nan ≡ get_or t.reals q nan
  pub objective : (q : ℕ) → p ≤ q → q < symbol_count t → get_or u.reals (objective_at + q) nan ≡ get_or t.reals (objective_at + suc q) nan
  pub cutoff : get_or u.reals cutoff_at nan ≡ get_or t.reals cutoff_at nan
  pub reals-long : length u.reals ≡ length t.reals

module _ (p : ℕ) (t : Sparse) (so : Sound false t) (low : 1 ≤ p) (high : p ≤ symbol_count t) where
  abbrev u : Sparse
  u = closed_in p t

  abbrev k : ℕ
  k = symbol_count t

  abbrev r : ℕ
  r = row_count t

  abbrev n : ℕ
  n = cell_count t

  abbrev c : Cells
  c = purged_cells n p t.keys t.values

  abbrev at : ℕ → ℕ
  at i = get_or t.bytes (row_places_at + i) 0

  abbrev own : ℕ → ℕ
  own v = get_or t.bytes (variable_places_at + v) 0

  narrow : k ≤ last_place
  narrow = so.named.few-symbols

  -- ---- words

  words-room : ids_at + k < length t.words
  words-room = let l = so.named.long in let h = narrow in omega (arith, l, h)

  abbrev w₁ : List ℕ
  w₁ = closed 0 (ids_at + p) (ids_at + k) t.words

  long₁ : length w₁ ≡ length t.words
  long₁ = length-closed 0 (ids_at + p) (ids_at + k) t.words (omega (arith, high)) words-room 0

  long₂ : length (set w₁ symbol_count_at (k - 1)) ≡ length t.words
  long₂ = length-set w₁ symbol_count_at (k - 1) ∙ long₁

  word₁ : (q : ℕ) → (q ≡ symbol_count_at → ⊥) → (q ≡ cell_count_at → ⊥) → get_or u.words q 0 ≡ get_or w₁ q 0
  unfolding closed_in
  word₁ q a b = get_or-set_other (set w₁ symbol_count_at (k - 1)) cell_count_at q c.size 0 b ∙ get_or-set_other w₁ symbol_count_at q (k - 1) 0 a

  word-before : (q : ℕ) → (q ≡ symbol_count_at → ⊥) → (q ≡ cell_count_at → ⊥) → q < ids_at + p → get_or u.words q 0 ≡ get_or t.words q 0
  word-before q a b h = word₁ q a b ∙ closed-before 0 (ids_at + p) (ids_at + k) t.words (omega (arith, high)) words-room 0 q h

  word-past : (q : ℕ) → variable_numbers_at ≤ q → get_or u.words q 0 ≡ get_or t.words q 0
  word-past q h = let l = narrow in word₁ q (λ e. omega (arith, e, h)) (λ e. omega (arith, e, h)) ∙ closed_after 0 (ids_at + p) (ids_at + k) t.words (omega (arith, high)) words-room 0 q (omega (arith, h, l))

  word-inside : (q : ℕ) → p ≤ q → q < k → get_or u.words (ids_at + q) 0 ≡ get_or t.words (ids_at + suc q) 0
  word-inside q a b =
      let e : suc (ids_at + q) ≡ ids_at + suc q = omega arith in
      word₁ (ids_at + q) (λ e. omega (arith, e)) (λ e. omega (arith, e)) ∙ (rw e at (closed-inside 0 (ids_at + p) (ids_at + k) t.words (omega (arith, high)) words-room 0 (ids_at + q) (omega (arith, a)) (omega (arith, b))))

  less : symbol_count u ≡ k - 1
  unfolding closed_in
  less =
      let l = so.named.long in
      let s = long₁ in
      get_or-set_other (set w₁ symbol_count_at (k - 1)) cell_count_at symbol_count_at c.size 0 (λ e. omega (arith, e)) ∙ get_or-set_same w₁ symbol_count_at (k - 1) 0 (omega (arith, l, s))

  size_is : cell_count u ≡ c.size
  unfolding closed_in
  size_is = let l = so.named.long in let s = long₂ in get_or-set_same (set w₁ symbol_count_at (k - 1)) cell_count_at c.size 0 (omega (arith, l, s))

  -- ---- bytes

  bytes-room : kinds_at + k < length t.bytes
  bytes-room = let l = so.named.wide in let h = narrow in omega (arith, l, h)

  abbrev b₁ : List ℕ
  b₁ = closed 0 (kinds_at + p) (kinds_at + k) t.bytes

  abbrev b₂ : List ℕ
  b₂ = map_in (near_place p) (row_places_at + 1) (row_places_at + 1 + r) b₁

  wide₁ : length b₁ ≡ length t.bytes
  wide₁ = length-closed 0 (kinds_at + p) (kinds_at + k) t.bytes (omega (arith, high)) bytes-room 0

  wide₂ : length b₂ ≡ length t.bytes
  wide₂ = length-map_in (near_place p) (row_places_at + 1) (row_places_at + 1 + r) b₁ ∙ wide₁

  byte_past : (q : ℕ) → row_places_at ≤ q → get_or b₁ q 0 ≡ get_or t.bytes q 0
  byte_past q h = let l = narrow in closed_after 0 (kinds_at + p) (kinds_at + k) t.bytes (omega (arith, high)) bytes-room 0 q (omega (arith, h, l))

  byte_low : (q : ℕ) → q ≤ row_places_at → get_or u.bytes q 0 ≡ get_or b₁ q 0
  unfolding closed_in
  byte_low q h =
      map_in-before (near_place p) variable_places_at (variable_places_at + variable_count t) b₂ q 0 (omega (arith, h)) ∙ map_in-before (near_place p) (row_places_at + 1) (row_places_at + 1 + r) b₁ q 0 (omega (arith, h))

  row-place : (i : ℕ) → 1 ≤ i → i ≤ r → get_or u.bytes (row_places_at + i) 0 ≡ near_place p (at i)
  unfolding closed_in
  row-place i a b =
      let f = so.few in
      let l = so.named.wide in
      let s = wide₁ in
      map_in-before (near_place p) variable_places_at (variable_places_at + variable_count t) b₂ (row_places_at + i) 0 (omega (arith, b, f))
      ∙ map_in-at (near_place p) (row_places_at + 1) (row_places_at + 1 + r) b₁ (row_places_at + i) 0 (omega (arith, a)) (omega (arith, b)) (omega (arith, b, f, l, s))
      ∙ ap (near_place p) (byte_past (row_places_at + i) (omega arith))

  own-place : (v : ℕ) → v < variable_count t → get_or u.bytes (variable_places_at + v) 0 ≡ near_place p (own v)
  unfolding closed_in
  own-place v a =
      let f = so.few in
      let g = so.named.few-variables in
      let l = so.named.wide in
      let s = wide₂ in
      map_in-at (near_place p) variable_places_at (variable_places_at + variable_count t) b₂ (variable_places_at + v) 0 (omega arith) (omega (arith, a)) (omega (arith, a, g, l, s))
      ∙ ap (near_place p) (map_in-after (near_place p) (row_places_at + 1) (row_places_at + 1 + r) b₁ (variable_places_at + v) 0 (omega (arith, f)) ∙ byte_past (variable_places_at + v) (omega arith))

  byte-later : (q : ℕ) → changed_at ≤ q → get_or u.bytes q 0 ≡ get_or t.bytes q 0
  unfolding closed_in
  byte-later q h =
      let f = so.few in
      let g = so.named.few-variables in
      map_in-after (near_place p) variable_places_at (variable_places_at + variable_count t) b₂ q 0 (omega (arith, h, g))
      ∙ map_in-after (near_place p) (row_places_at + 1) (row_places_at + 1 + r) b₁ q 0 (omega (arith, h, f))
      ∙ byte_past q (omega (arith, h))

  kind-before : (q : ℕ) → q < p → get_or u.bytes (kinds_at + q) 0 ≡ get_or t.bytes (kinds_at + q) 0
  kind-before q h = let l = narrow in byte_low (kinds_at + q) (omega (arith, h, high, l)) ∙ closed-before 0 (kinds_at + p) (kinds_at + k) t.bytes (omega (arith, high)) bytes-room 0 (kinds_at + q) (omega (arith, h))

  kind-inside : (q : ℕ) → p ≤ q → q < k → get_or u.bytes (kinds_at + q) 0 ≡ get_or t.bytes (kinds_at + suc q) 0
  kind-inside q a b =
      let l = narrow in
      let e : suc (kinds_at + q) ≡ kinds_at + suc q = omega arith in
      byte_low (kinds_at + q) (omega (arith, b, l)) ∙ (rw e at (closed-inside 0 (kinds_at + p) (kinds_at + k) t.bytes (omega (arith, high)) bytes-room 0 (kinds_at + q) (omega (arith, a)) (omega (arith, b))))

  -- ---- reals

  reals-room : objective_at + k < length t.reals
  reals-room = let l = so.long in let h = narrow in omega (arith, l, h)

  real-before : (q : ℕ) → q < objective_at + p → get_or u.reals q nan ≡ get_or t.reals q nan
  unfolding closed_in
  real-before q h = closed-before nan (objective_at + p) (objective_at + k) t.reals (omega (arith, high)) reals-room nan q h

  real-inside : (q : ℕ) → p ≤ q → q < k → get_or u.reals (objective_at + q) nan ≡ get_or t.reals (objective_at + suc q) nan
  unfolding closed_in
  real-inside q a b =
      let e : suc (objective_at + q) ≡ objective_at + suc q = omega arith in
      rw e at (closed-inside nan (objective_at + p) (objective_at + k) t.reals (omega (arith, high)) reals-room nan (objective_at + q) (omega (arith, a)) (omega (arith, b)))

  cutoff-after : get_or u.reals cutoff_at nan ≡ get_or t.reals cutoff_at nan
  unfolding closed_in
  cutoff-after = let h = narrow in closed_after nan (objective_at + p) (objective_at + k) t.reals (omega (arith, high)) reals-room nan cutoff_at (omega (arith, h))

  words_long : length u.words ≡ length t.words
  unfolding closed_in
  words_long = length-set (set w₁ symbol_count_at (k - 1)) cell_count_at c.size ∙ long₂

  bytes-wide : length u.bytes ≡ length t.bytes
  unfolding closed_in
  bytes-wide = length-map_in (near_place p) variable_places_at (variable_places_at + variable_count t) b₂ ∙ wide₂

  reals-same : length u.reals ≡ length t.reals
  unfolding closed_in
  reals-same = length-closed nan (objective_at + p) (objective_at + k) t.reals (omega (arith, high)) reals-room nan

  keys-are : u.keys ≡ c.keys
  unfolding closed_in
  keys-are = refl

  values-are : u.values ≡ c.vals
  unfolding closed_in
  values-are = refl

  pub closing : Closing p t u
  closing = record {
    less = less;
    size = size_is;
    keys = keys-are;
    values = values-are;
    head = word-before;
    ids = word-inside;
    words = word-past;
    long = words_long;
    firsts = kind-before;
    kinds = kind-inside;
    rows = row-place;
    owns = own-place;
    bytes = byte-later;
    wide = bytes-wide;
    reals = real-before;
    objective = real-inside;
    cutoff = cutoff-after;
    reals-long = reals-same;
  }
