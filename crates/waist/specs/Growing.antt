-- A symbol that comes into the sparse tables, after the last: they read as the steps' `append_symbol`. No key changes: no cell stands past the live symbols, so that each row's new cell reads as 0.0.
-- Assumes nothing.
use Prim.Native.Nat.{ℕ, zero, suc, ◌+◌, ◌*◌, ◌≤◌, ◌<◌}
use Rattle.std.specs.Prelude.{◌≡◌, Bool, true, length, set}
use Rattle.std.proofs.Math.Path.{refl, sym, ap, subst}
use Rattle.std.proofs.Common.{◌∙◌, eqb-true}
use Rattle.std.proofs.Math.Bool.{false}
use mathlib.Core.List.{List, [], ◌∷◌, ◌++◌, map}
use native.Mathlib.Omega.{arith}
use Rattle.std.proofs.Math.Dec.{eqb}
use Rattle.std.specs.Float.Ieee.{Float, nan}
use Rattle.std.proofs.Math.ListN.{get_or, length-set}
use Rattle.std.proofs.Math.Seq.{get_or-set_same, get_or-set_other}
use Rattle.std.proofs.lemmas.Bool.{eqb-false}
use Rattle.laws.specs.Lists.{tab, list_of, tab-ext, map-tab}
use Rattle.steps.specs.Number.{zero64, Mark}
use Rattle.steps.specs.Symbol.{Symbol}
use Rattle.steps.specs.Row.{append_cell}
use Rattle.steps.specs.State.{Basic, Variable}
use Rattle.steps.specs.Work.{Work, with_tableau, new_symbol, append_symbol}
use Rattle.keeps.specs.Lists.{All}
use Rattle.keeps.specs.Fits.{FitsW}
use Rattle.keeps.specs.Building.{append-fits}
use Rattle.layout.specs.Layout.{kind_of}
use Rattle.rows.specs.choose.Walk.{tab-snoc}
use Rattle.sparse.specs.Places.{next_id_at, symbol_count_at, row_count_at, cell_count_at, variable_count_at, should_clear_at, gone_count_at, ids_at, variable_numbers_at, variable_uses_at, gone_numbers_at, kinds_at, row_places_at, variable_places_at, changed_at, constants_at, old_values_at, objective_at, cutoff_at}
use Rattle.sparse.specs.Sparse.{Sparse, symbol_count, row_count, cell_count, variable_count, symbol_at, variable_of, basic_of, symbols_of, basics_of, objective_of, gone_of, read}
use Rattle.layout.specs.cells.Names.{row_span, last_place}
use Rattle.layout.specs.cells.Cells.{cell_at, row_of}
use Rattle.layout.specs.cells.Reads.{cell-absent}
use Rattle.waist.specs.substituting.Gone.{gone-kept}
use Rattle.waist.specs.substituting.Named.{Named}
use Rattle.waist.specs.Working.{sparse, artificial_of, work_of, work-parts, lines_same, Sound, id-at, basic-symbol}
use Rattle.waist.specs.Dropping.{Free, basic-by}
use Rattle.waist.specs.Standing.{Inside, Owners, Standing, Makes, Unowned}

abbrev pub next_id : Sparse → ℕ
next_id t = get_or t.words next_id_at 0

-- the next id, with this kind, comes after the last symbol
unfoldable pub grown_in : ℕ → Sparse → Sparse
grown_in kind t =
    sparse (set (set (set t.words (ids_at + (1 + symbol_count t)) (next_id t)) symbol_count_at (1 + symbol_count t)) next_id_at (1 + next_id t)) t.keys
    (set t.bytes (kinds_at + (1 + symbol_count t)) kind) (set t.reals (objective_at + (1 + symbol_count t)) zero64) t.values

-- what a new symbol leaves as it was, and what it is
pub record Grown (kind : ℕ) (t u : Sparse) : Type 0 where
  pub symbols : symbol_count u ≡ 1 + symbol_count t
  pub next : next_id u ≡ 1 + next_id t
  pub rows : row_count u ≡ row_count t
  pub old : (p : ℕ) → p ≤ symbol_count t → symbol_at u p ≡ symbol_at t p
  pub new : symbol_at u (1 + symbol_count t) ≡ record { id = next_id t; kind = kind_of kind }
  -- the new symbol is not basic, nor a variable's; the others are what they were
  pub free : Free (1 + symbol_count t) u
  pub unowned : Unowned (1 + symbol_count t) u
  pub frees : (p : ℕ) → Free p t → Free p u
  pub unowneds : (p : ℕ) → Unowned p t → Unowned p u
  pub words : (q : ℕ) → (q ≡ next_id_at → ⊥) → (q ≡ symbol_count_at → ⊥) → (q ≡ ids_at + (1 + symbol_count t) → ⊥) → get_or u.words q 0 ≡ get_or t.words q 0
  pub bytes : (q : ℕ) → (q ≡ kinds_at + (1 + symbol_count t) → ⊥) → get_or u.bytes q 0 ≡ get_or t.bytes q 0
  pub reals : (q : ℕ) → (q ≡ objective_at + (1 + symbol_count t) → ⊥) → get_or u.reals q nan ≡ get_or t.reals q nan

all-tab : {A : Type 0} (P : A → Type 0) (g : ℕ → A) (k m q : ℕ) → All P (tab g m k) → m ≤ q → q < m + k → P (g q)
unfolding tab
all-tab P g zero m q h a b = absurd (omega (arith, a, b))
all-tab P g (suc k) m q h a b = go (eqb m q) refl (λ d. all-tab P g k (suc m) q h.1 d (omega (arith, b)))
  where
    go : (x : Bool) → eqb m q ≡ x → (suc m ≤ q → P (g q)) → P (g q)
    go true e r = subst (λ (y : ℕ). P (g y)) (eqb-true m q e) h.0
    go false e r = let d = eqb-false m q e in r (omega (arith, a, d))

module _ (kind : ℕ) (t : Sparse) (so : Sound false t) (fit : symbol_count t < last_place) where
  abbrev u : Sparse
  u = grown_in kind t

  abbrev k : ℕ
  k = symbol_count t

  abbrev r : ℕ
  r = row_count t

  abbrev at : ℕ → ℕ
  at i = get_or t.bytes (row_places_at + i) 0

  -- ---- place by place

  word : (q : ℕ) → (q ≡ next_id_at → ⊥) → (q ≡ symbol_count_at → ⊥) → (q ≡ ids_at + (1 + k) → ⊥) → get_or u.words q 0 ≡ get_or t.words q 0
  unfolding grown_in
  word q a b c =
      get_or-set_other (set (set t.words (ids_at + (1 + k)) (next_id t)) symbol_count_at (1 + k)) next_id_at q (1 + next_id t) 0 a
      ∙ get_or-set_other (set t.words (ids_at + (1 + k)) (next_id t)) symbol_count_at q (1 + k) 0 b
      ∙ get_or-set_other t.words (ids_at + (1 + k)) q (next_id t) 0 c

  byte : (q : ℕ) → (q ≡ kinds_at + (1 + k) → ⊥) → get_or u.bytes q 0 ≡ get_or t.bytes q 0
  unfolding grown_in
  byte q a = get_or-set_other t.bytes (kinds_at + (1 + k)) q kind 0 a

  real : (q : ℕ) → (q ≡ objective_at + (1 + k) → ⊥) → get_or u.reals q nan ≡ get_or t.reals q nan
  unfolding grown_in
  real q a = get_or-set_other t.reals (objective_at + (1 + k)) q zero64 nan a

  long₁ : length (set t.words (ids_at + (1 + k)) (next_id t)) ≡ length t.words
  long₁ = length-set t.words (ids_at + (1 + k)) (next_id t)

  long₂ : length (set (set t.words (ids_at + (1 + k)) (next_id t)) symbol_count_at (1 + k)) ≡ length t.words
  long₂ = length-set (set t.words (ids_at + (1 + k)) (next_id t)) symbol_count_at (1 + k) ∙ long₁

  more : symbol_count u ≡ 1 + k
  unfolding grown_in
  more =
      let l = so.named.long in
      let s = long₁ in
      get_or-set_other (set (set t.words (ids_at + (1 + k)) (next_id t)) symbol_count_at (1 + k)) next_id_at symbol_count_at (1 + next_id t) 0 (λ e. omega (arith, e))
      ∙ get_or-set_same (set t.words (ids_at + (1 + k)) (next_id t)) symbol_count_at (1 + k) 0 (omega (arith, l, s))

  next-is : next_id u ≡ 1 + next_id t
  unfolding grown_in
  next-is = let l = so.named.long in let s = long₂ in get_or-set_same (set (set t.words (ids_at + (1 + k)) (next_id t)) symbol_count_at (1 + k)) next_id_at (1 + next_id t) 0 (omega (arith, l, s))

  id-new : get_or u.words (ids_at + (1 + k)) 0 ≡ next_id t
  unfolding grown_in
  id-new =
      let l = so.named.long in
      get_or-set_other (set (set t.words (ids_at + (1 + k)) (next_id t)) symbol_count_at (1 + k)) next_id_at (ids_at + (1 + k)) (1 + next_id t) 0 (λ e. omega (arith, e))
      ∙ get_or-set_other (set t.words (ids_at + (1 + k)) (next_id t)) symbol_count_at (ids_at + (1 + k)) (1 + k) 0 (λ e. omega (arith, e))
      ∙ get_or-set_same t.words (ids_at + (1 + k)) (next_id t) 0 (omega (arith, l, fit))

  kind-new : get_or u.bytes (kinds_at + (1 + k)) 0 ≡ kind
  unfolding grown_in
  kind-new = let l = so.named.wide in get_or-set_same t.bytes (kinds_at + (1 + k)) kind 0 (omega (arith, l, fit))

  objective-new : get_or u.reals (objective_at + (1 + k)) nan ≡ zero64
  unfolding grown_in
  objective-new = let l = so.long in get_or-set_same t.reals (objective_at + (1 + k)) zero64 nan (omega (arith, l, fit))

  rows_same : row_count u ≡ r
  rows_same = word row_count_at (λ e. omega (arith, e)) (λ e. omega (arith, e)) (λ e. omega (arith, e))

  cells_same : cell_count u ≡ cell_count t
  cells_same = word cell_count_at (λ e. omega (arith, e)) (λ e. omega (arith, e)) (λ e. omega (arith, e))

  variables-same : variable_count u ≡ variable_count t
  variables-same = word variable_count_at (λ e. omega (arith, e)) (λ e. omega (arith, e)) (λ e. omega (arith, e))

  -- past the ids
  later : (q : ℕ) → variable_numbers_at ≤ q → get_or u.words q 0 ≡ get_or t.words q 0
  later q h = word q (λ e. omega (arith, e, h)) (λ e. omega (arith, e, h)) (λ e. omega (arith, e, h, fit))

  -- past the kinds
  after : (q : ℕ) → row_places_at ≤ q → get_or u.bytes q 0 ≡ get_or t.bytes q 0
  after q h = byte q (λ e. omega (arith, e, h, fit))

  old-symbol : (p : ℕ) → p ≤ k → symbol_at u p ≡ symbol_at t p
  unfolding symbol_at
  old-symbol p h = rw (word (ids_at + p) (λ e. omega (arith, e)) (λ e. omega (arith, e)) (λ e. omega (arith, e, h)), byte (kinds_at + p) (λ e. omega (arith, e, h))) refl

  abbrev new : Symbol
  new = record { id = next_id t; kind = kind_of kind }

  new-symbol : symbol_at u (1 + k) ≡ new
  unfolding symbol_at
  new-symbol = rw (id-new, kind-new) refl

  -- ---- what the tables read as

  symbols-are : symbols_of u ≡ symbols_of t ++ (new ∷ [])
  unfolding symbols_of
  symbols-are =
      let s : 1 + k ≡ suc k = omega arith in
      rw (more, s) (tab-snoc (symbol_at u) 1 k
      ∙ ap (λ (x : Symbol). tab (symbol_at u) 1 k ++ (x ∷ [])) new-symbol
      ∙ ap (λ (l : List Symbol). l ++ (new ∷ [])) (tab-ext (symbol_at u) (symbol_at t) 1 k λ p a b. old-symbol p (omega (arith, b))))

  objective-is : objective_of u ≡ objective_of t ++ (zero64 ∷ [])
  unfolding objective_of
  objective-is =
      let s : 1 + k ≡ suc k = omega arith in
      let g : ℕ → Float = λ p. get_or u.reals (objective_at + p) nan in
      rw (more, s) (tab-snoc g 1 k
      ∙ ap (λ (x : Float). tab g 1 k ++ (x ∷ [])) objective-new
      ∙ ap (λ (l : List Float). l ++ (zero64 ∷ [])) (tab-ext g (λ p. get_or t.reals (objective_at + p) nan) 1 k λ p a b. real (objective_at + p) (λ e. omega (arith, e, b))))

  variable-is : (v : ℕ) → v < variable_count t → variable_of u v ≡ variable_of t v
  unfolding variable_of
  variable-is v h =
      let l = so.named.variables v h in
      let f = so.named.few-variables in
      rw (
        later (variable_numbers_at + v) (omega arith),
        later (variable_uses_at + v) (omega arith),
        after (variable_places_at + v) (omega arith),
        after (changed_at + v) (omega arith),
        real (old_values_at + v) (λ e. omega (arith, e, h, f)),
        old-symbol (get_or t.bytes (variable_places_at + v) 0) (omega (arith, l)),
      ) refl

  gone_same : gone_of u ≡ gone_of t
  gone_same = gone-kept t u (word gone_count_at (λ e. omega (arith, e)) (λ e. omega (arith, e)) (λ e. omega (arith, e))) (λ j. later (gone_numbers_at + j) (omega arith))

  changes-are : (read u).changes ≡ (read t).changes
  unfolding read list_of
  changes-are =
      rw (variables-same, gone_same, word should_clear_at (λ e. omega (arith, e)) (λ e. omega (arith, e)) (λ e. omega (arith, e)))
      (ap (λ (x : List Variable). record { variables = x; gone = gone_of t; should_clear = eqb (get_or t.words should_clear_at 0) 1 }) (tab-ext (variable_of u) (variable_of t) 0 (variable_count t) λ v a b. variable-is v (omega (arith, b))))

  no-artificial : artificial_of false u ≡ artificial_of false t
  unfolding artificial_of
  no-artificial = refl

  pub grow-grown : Grown kind t u
  grow-grown = record {
    symbols = more;
    next = next-is;
    rows = rows_same;
    old = old-symbol;
    new = new-symbol;
    free = λ q a b e. let c : q ≤ r = rw rows_same at b in let l = so.rows q a c in let z = sym (after (row_places_at + q) (omega arith)) ∙ e in omega (arith, l, z);
    unowned = λ v a e. let c : v < variable_count t = rw variables-same at a in let l = so.named.variables v c in let z = sym (after (variable_places_at + v) (omega arith)) ∙ e in omega (arith, l, z);
    frees = λ p f q a b e. f q a (rw rows_same at b) (sym (after (row_places_at + q) (omega arith)) ∙ e);
    unowneds = λ p f v a e. f v (rw variables-same at a) (sym (after (variable_places_at + v) (omega arith)) ∙ e);
    words = word;
    bytes = byte;
    reals = real;
  }

  module _ (ins : Inside t) where
    cells_are : (i : ℕ) → row_of u.keys u.values (cell_count t) (1 + k) i ≡ row_of t.keys t.values (cell_count t) k i ++ (zero64 ∷ [])
    unfolding row_of grown_in cell_at
    cells_are i =
        let s : 1 + k ≡ suc k = omega arith in
        let g : ℕ → Float = λ p. cell_at t.keys t.values (cell_count t) (i * row_span + p) in
        let none : g (1 + k) ≡ zero64 = cell-absent t.keys t.values (i * row_span + (1 + k)) 0 (cell_count t) (omega arith) (λ j a b e. let h = ins j b in omega (arith, h, e, fit)) in
        rw s (tab-snoc g 1 k ∙ ap (λ (x : Float). tab g 1 k ++ (x ∷ [])) none)

    line : (i : ℕ) → i ≤ r → (basic_of u i).row ≡ append_cell (basic_of t i).row
    unfolding basic_of append_cell
    line i h = let f = so.few in rw (more, cells_same, real (constants_at + i) (λ e. omega (arith, e, h, f)), cells_are i) refl

    basic : (i : ℕ) → 1 ≤ i → i ≤ r → basic_of u i ≡ record { symbol = (basic_of t i).symbol; row = append_cell (basic_of t i).row }
    basic i a b =
        let l = so.rows i a b in
        basic-by (basic-symbol u i ∙ ap (symbol_at u) (after (row_places_at + i) (omega arith)) ∙ old-symbol (at i) (omega (arith, l)) ∙ sym (basic-symbol t i)) (line i b)

    basics-are : basics_of u ≡ map (λ (b : Basic). record { symbol = b.symbol; row = append_cell b.row }) (basics_of t)
    unfolding basics_of
    basics-are = rw (rows_same, map-tab) (tab-ext (basic_of u) (λ i. record { symbol = (basic_of t i).symbol; row = append_cell (basic_of t i).row }) 1 r λ i a b. basic i a (omega (arith, b)))

    pub grow-reads : (a : Mark) (v : ℕ) → work_of false a v u ≡ append_symbol (new_symbol (kind_of kind) (work_of false a v t)) (work_of false a v t)
    unfolding append_symbol new_symbol with_tableau
    grow-reads a v =
        let s : 1 + next_id t ≡ suc (next_id t) = omega arith in
        work-parts false a v u
        ∙ rw (real cutoff_at (λ e. omega (arith, e, fit)), symbols-are, next-is, s, basics-are, objective-is, changes-are, no-artificial) refl
        ∙ sym (ap (λ (w : Work). append_symbol (new_symbol (kind_of kind) w) w) (work-parts false a v t))

  -- ---- the tables stand

  module _ (a : Mark) (st : Standing false a t) (kinds : kind ≤ 3) where
    below : (p : ℕ) → 1 ≤ p → p ≤ k → get_or t.words (ids_at + p) 0 < next_id t
    unfolding work_of read symbols_of
    below p b c =
        let x : (symbol_at t p).id < next_id t = all-tab (λ (s : Symbol). s.id < next_id t) (symbol_at t) k 1 p st.fits.under b (omega (arith, c)) in
        let e = id-at t p in
        omega (arith, x, e)

    ups : (p q : ℕ) → 1 ≤ p → p < q → q ≤ symbol_count u → get_or u.words (ids_at + p) 0 < get_or u.words (ids_at + q) 0
    ups p q b c d = go (eqb q (1 + k)) refl
      where
        m : q ≤ 1 + k
        m = rw more at d

        same : (x : ℕ) → x ≤ k → get_or u.words (ids_at + x) 0 ≡ get_or t.words (ids_at + x) 0
        same x h = word (ids_at + x) (λ e. omega (arith, e)) (λ e. omega (arith, e)) (λ e. omega (arith, e, h))

        go : (x : Bool) → eqb q (1 + k) ≡ x → get_or u.words (ids_at + p) 0 < get_or u.words (ids_at + q) 0
        go true e =
            let o = eqb-true q (1 + k) e in
            let n = id-new in
            let l : p ≤ k = omega (arith, o, c) in
            let s = same p l in
            let h = below p b l in
            subst (λ (y : ℕ). get_or u.words (ids_at + p) 0 < get_or u.words (ids_at + y) 0) (sym o) (omega (arith, n, s, h))
        go false e =
            let o = eqb-false q (1 + k) e in
            let l : q ≤ k = omega (arith, o, m) in
            rw (same p (omega (arith, l, c)), same q l) (so.named.up p q b c l)

    words_long : length u.words ≡ length t.words
    unfolding grown_in
    words_long = length-set (set (set t.words (ids_at + (1 + k)) (next_id t)) symbol_count_at (1 + k)) next_id_at (1 + next_id t) ∙ long₂

    bytes-wide : length u.bytes ≡ length t.bytes
    unfolding grown_in
    bytes-wide = length-set t.bytes (kinds_at + (1 + k)) kind

    reals-long : length u.reals ≡ length t.reals
    unfolding grown_in
    reals-long = length-set t.reals (objective_at + (1 + k)) zero64

    named : Named u.words u.bytes
    named = record {
      long = words_long ∙ so.named.long;
      wide = bytes-wide ∙ so.named.wide;
      few-symbols = rw more (omega (arith, fit));
      few-variables = rw variables-same so.named.few-variables;
      up = ups;
      variables = λ v h. let l = so.named.variables v (rw variables-same at h) in rw (after (variable_places_at + v) (omega arith), more) (l.0, omega (arith, l));
    }

    sound : Sound false u
    unfolding grown_in
    sound = record {
      named = named;
      held = rw (lines_same false t u rows_same, cells_same) so.held;
      few = rw rows_same so.few;
      rows = λ i b c. let l = so.rows i b (rw rows_same at c) in rw (after (row_places_at + i) (omega arith), more) (l.0, omega (arith, l));
      up = λ i q b c d. rw (after (row_places_at + i) (omega arith), after (row_places_at + q) (omega arith)) (so.up i q b c (rw rows_same at d));
      long = reals-long ∙ so.long;
    }

    inside : Inside u
    unfolding grown_in
    inside j h = let l = st.inside j (rw cells_same at h) in rw more (omega (arith, l))

    owners : Owners u
    owners =
        let o = st.owners in
        record {
          up = λ i j b c. rw (later (variable_numbers_at + i) (omega arith), later (variable_numbers_at + j) (omega arith)) (o.up i j b (rw variables-same at c));
          external = λ v h.
              let h' : v < variable_count t = rw variables-same at h in
              let l = so.named.variables v h' in
              rw (after (variable_places_at + v) (omega arith), byte (kinds_at + get_or t.bytes (variable_places_at + v) 0) (λ e. omega (arith, e, l))) (o.external v h');
          apart = λ i j b c. rw (after (variable_places_at + i) (omega arith), after (variable_places_at + j) (omega arith)) (o.apart i j b (rw variables-same at c));
          kinds = λ p b c. kind_at p b (rw more at c) (eqb p (1 + k)) refl;
          changed = λ v h. rw (after (changed_at + v) (omega arith)) (o.changed v (rw variables-same at h));
          clear = rw (word should_clear_at (λ e. omega (arith, e)) (λ e. omega (arith, e)) (λ e. omega (arith, e))) o.clear;
        }
      where
        kind_at : (p : ℕ) → 1 ≤ p → p ≤ 1 + k → (x : Bool) → eqb p (1 + k) ≡ x → get_or u.bytes (kinds_at + p) 0 ≤ 3
        kind_at p b c true e = rw (eqb-true p (1 + k) e, kind-new) kinds
        kind_at p b c false e = let d = eqb-false p (1 + k) e in rw (byte (kinds_at + p) (λ z. omega (arith, z, d))) (st.owners.kinds p b (omega (arith, c, d)))

    fits : FitsW (work_of false a 0 u)
    unfolding new_symbol work_of artificial_of
    fits = subst FitsW (sym (grow-reads st.inside a 0)) (append-fits (new_symbol (kind_of kind) (work_of false a 0 t)) (work_of false a 0 t) st.fits refl refl)

    pub grow-makes : Makes false false a a (λ w. append_symbol (new_symbol (kind_of kind) w) w) t u
    grow-makes = record { reads = grow-reads st.inside a; stands = record { sound = sound; inside = inside; owners = owners; fits = fits } }
