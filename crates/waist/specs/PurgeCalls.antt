-- The calls of the code that purges a symbol: its row goes, if it has one, then its place and its cells; together they read as the steps' `purge`, and keep tables that stand.
-- Assumes nothing.
use Rattle.std.specs.Prelude.{ℕ, zero, suc, ◌+◌, ◌-◌, ◌≤◌, ◌<◌, ◌≡◌, List, ◌∷◌, Float, get_or, set}
use Rattle.std.proofs.Math.Path.{refl, subst}
use Rattle.std.proofs.Common.{sym, ap, ◌∙◌, arith}
use Rattle.std.proofs.Math.Bool.{false}
use Rattle.std.specs.Float.{nan}
use borrow.Author.Tests.{ne_eqb}
use Rattle.laws.specs.Loops.{map_in}
use Rattle.laws.specs.Lists.{tab}
use Rattle.steps.specs.Number.{Mark}
use Rattle.steps.specs.Symbol.{is_symbol}
use Rattle.steps.specs.State.{Basic}
use Rattle.steps.specs.Work.{Work, with_tableau, with_rows, drop_row, purge}
use Rattle.keeps.specs.Fits.{FitsW}
use Rattle.keeps.specs.Fallen.{purge-fits}
use Rattle.rows.specs.choose.Choose.{Found}
use Rattle.std.specs.Prelude.{Some, None}
use Rattle.rows.specs.moves.Close.{closed}
use Rattle.sparse.specs.Places.{symbol_count_at, cell_count_at, variable_count_at, ids_at, kinds_at, row_places_at, variable_places_at, objective_at}
use Rattle.sparse.specs.Sparse.{Sparse, symbol_count, row_count, cell_count, variable_count, symbol_at, basic_of, basics_of, read}
use Rattle.layout.specs.cells.Names.{last_place}
use Rattle.layout.specs.cells.Cells.{cells}
use Rattle.waist.specs.substituting.Named.{same_place}
use Rattle.waist.specs.Working.{sparse, artificial_of, work_of, Sound, id-at, basic-symbol}
use Rattle.waist.specs.Owning.{Kept}
use Rattle.waist.specs.Alone.{RowsAlone, symbols-count, symbol-alone}
use Rattle.waist.specs.Dropping.{Free, Drops}
use Rattle.waist.specs.Rows.{row_for, row-free, row_at}
use Rattle.waist.specs.Standing.{Standing, Makes, Unowned}
use Rattle.waist.specs.Lowering.{near_place}
use Rattle.waist.specs.PurgingCells.{purged_cells}
use Rattle.waist.specs.PurgingPlaces.{closed_in, closing}
use Rattle.waist.specs.Purging.{Purged, cut_work, Closes, close-reads}

-- ---- the row of the symbol at place p, if it has one

-- the row of the symbol at place p goes
pub record Bares (p : ℕ) (t u : Sparse) : Type 0 where
  pub reads : (a : Mark) (v : ℕ) → work_of false a v u ≡ with_rows (drop_row (symbol_at t p).id (work_of false a v t).tableau.rows) (work_of false a v t)
  pub sound : Sound false u
  pub alone : RowsAlone t u
  pub kept : Kept t u
  pub fewer : row_count u ≤ row_count t
  pub free : Free p u
  pub frees : (q : ℕ) → Free q t → Free q u

drop-absent : (s : ℕ) (g : ℕ → Basic) (k m : ℕ) → ((j : ℕ) → m ≤ j → j < m + k → is_symbol s (g j).symbol ≡ false) → drop_row s (tab g m k) ≡ tab g m k
unfolding tab drop_row
drop-absent s g zero m f = refl
drop-absent s g (suc k) m f = rw (f m (omega arith) (omega arith), drop_row) (ap (λ (r : List Basic). g m ∷ r) (drop-absent s g k (suc m) (λ j a b. f j (omega (arith, a)) (omega (arith, b)))))

module _ (p : ℕ) (t : Sparse) (so : Sound false t) (low : 1 ≤ p) (high : p ≤ symbol_count t) where
  bares-at : (i : ℕ) {u : Sparse} → get_or t.bytes (row_places_at + i) 0 ≡ p → Drops false i t u → Bares p t u
  bares-at i {u} e d = record {
    reads = λ a v. d.reads a v ∙ rw e refl;
    sound = d.sound;
    alone = d.alone;
    kept = d.kept;
    fewer = let f = d.fewer in omega (arith, f);
    free = subst (λ (x : ℕ). Free x u) e d.gone;
    frees = d.free;
  }

  no_row : Free p t → drop_row (symbol_at t p).id (basics_of t) ≡ basics_of t
  unfolding basics_of is_symbol
  no_row f = drop-absent (symbol_at t p).id (basic_of t) (row_count t) 1 λ j a b.
      let l = so.rows j a (omega (arith, b)) in
      rw (basic-symbol t j, id-at t p, id-at t (get_or t.bytes (row_places_at + j) 0))
      (sym (same_place t.words t.bytes so.named p (get_or t.bytes (row_places_at + j) 0) low high l.0 l.1) ∙ ne_eqb p (get_or t.bytes (row_places_at + j) 0) (λ e. f j a (omega (arith, b)) (sym e)))

  bares-free : Free p t → Bares p t t
  unfolding work_of read with_rows with_tableau
  bares-free f = record {
    reads = λ a v. rw (no_row f) refl;
    sound = so;
    alone = record { words = λ q a b. refl; long = refl; low = λ q a. refl; later = λ q a. refl; wide = refl; reals = λ q a. refl };
    kept = record { inside = λ h. h; owners = λ h. h };
    fewer = omega arith;
    free = f;
    frees = λ q g. g;
  }

  pub bares-found : (i : ℕ) {u : Sparse} {f : Found} → f ≡ row_for p t.words t.bytes → f ≡ Some i → Drops false i t u → Bares p t u
  bares-found i e q d = bares-at i (row_at t p i (sym e ∙ q)) d

  pub bares-none : {f : Found} → f ≡ row_for p t.words t.bytes → f ≡ None → Bares p t t
  bares-none e q = bares-free (row-free t p (sym e ∙ q))

-- ---- its place and its cells

module _ (p : ℕ) (t : Sparse) (so : Sound false t) (low : 1 ≤ p) (high : p ≤ symbol_count t) (free : Free p t) (unowned : Unowned p t) where
  tables-by : (left : ℕ) (ws ks bs bs₁ bs₂ : List ℕ) (rs vs : List Float) → cells ks vs left ≡ purged_cells (cell_count t) p t.keys t.values → ws ≡ closed 0 (ids_at + p) (ids_at + symbol_count t) t.words
      → bs ≡ closed 0 (kinds_at + p) (kinds_at + symbol_count t) t.bytes → bs₁ ≡ map_in (near_place p) (row_places_at + 1) (row_places_at + 1 + row_count t) bs → bs₂ ≡ map_in (near_place p) variable_places_at (variable_places_at + variable_count t) bs₁
      → rs ≡ closed nan (objective_at + p) (objective_at + symbol_count t) t.reals → sparse (set (set ws symbol_count_at (symbol_count t - 1)) cell_count_at left) ks bs₂ rs vs ≡ closed_in p t
  unfolding closed_in
  tables-by left ws ks bs bs₁ bs₂ rs vs c e f g h i = rw (h, g, f, e, i, ← c) refl

  pub close-calls : (left : ℕ) (ws ks bs bs₁ bs₂ : List ℕ) (rs vs : List Float) → cells ks vs left ≡ purged_cells (cell_count t) p t.keys t.values → ws ≡ closed 0 (ids_at + p) (ids_at + symbol_count t) t.words
      → bs ≡ closed 0 (kinds_at + p) (kinds_at + symbol_count t) t.bytes → bs₁ ≡ map_in (near_place p) (row_places_at + 1) (row_places_at + 1 + row_count t) bs → bs₂ ≡ map_in (near_place p) variable_places_at (variable_places_at + variable_count t) bs₁
      → rs ≡ closed nan (objective_at + p) (objective_at + symbol_count t) t.reals → Closes p t (sparse (set (set ws symbol_count_at (symbol_count t - 1)) cell_count_at left) ks bs₂ rs vs)
  close-calls left ws ks bs bs₁ bs₂ rs vs c e f g h i =
      subst (Closes p t) (sym (tables-by left ws ks bs bs₁ bs₂ rs vs c e f g h i)) (close-reads p t (closed_in p t) (closing p t so low high) so low high free unowned)

-- ---- both

module _ (p : ℕ) (t t₁ : Sparse) (so : Sound false t) (low : 1 ≤ p) (high : p ≤ symbol_count t) (unowned : Unowned p t) (b : Bares p t t₁) where
  near : p ≤ last_place
  near = let f = so.named.few-symbols in omega (arith, high, f)

  counts : symbol_count t₁ ≡ symbol_count t
  counts = symbols-count t t₁ so.named b.alone

  variables : variable_count t₁ ≡ variable_count t
  variables = b.alone.words variable_count_at (λ e. omega (arith, e)) (λ e. omega (arith, e))

  still : (q : ℕ) → Unowned q t → Unowned q t₁
  still q f v a e = f v (rw variables at a) (sym (b.alone.later (variable_places_at + v) (omega arith)) ∙ e)

  pub close-ready : Sound false t₁ × (1 ≤ p) × (p ≤ symbol_count t₁) × Free p t₁ × Unowned p t₁
  close-ready = (b.sound, low, rw counts high, b.free, still p unowned)

  symbol-same : (q : ℕ) → q ≤ symbol_count t → symbol_at t₁ q ≡ symbol_at t q
  symbol-same q h = let f = so.named.few-symbols in symbol-alone t t₁ so.named b.alone q (omega (arith, h, f))

  module _ {u : Sparse} (c : Closes p t₁ u) where
    pub purge-purged : Purged p t u
    purge-purged =
        let g = c.purged in
        record {
          symbols = g.symbols ∙ rw counts refl;
          fewer = let x = g.fewer in let y = b.fewer in omega (arith, x, y);
          before = λ q a. g.before q a ∙ symbol-same q (omega (arith, a, high));
          after = λ q a d. g.after q a (rw counts d) ∙ symbol-same q d;
          words = λ q a d e. ((λ h. (g.words q a d e).0 h ∙ b.alone.words q d e), λ h. (g.words q a d e).1 h ∙ b.alone.words q d e);
          places = λ v a. g.places v (rw variables a) ∙ ap (near_place p) (b.alone.later (variable_places_at + v) (omega arith));
          changed = λ q a. g.changed q a ∙ b.alone.later q (omega (arith, a));
          olds = λ q a d. g.olds q a d ∙ b.alone.reals q a;
          frees = λ q d f. g.frees q d (b.frees q f);
          unowneds = λ q d f. g.unowneds q d (still q f);
        }

    together : (s : ℕ) (w : Work) → cut_work s (with_rows (drop_row s w.tableau.rows) w) ≡ purge s w
    unfolding purge with_rows with_tableau
    together s w = refl

    reads : (a : Mark) (v : ℕ) → work_of false a v u ≡ purge (symbol_at t p).id (work_of false a v t)
    reads a v = c.reads a v ∙ rw (symbol-same p high, b.reads a v) (together (symbol_at t p).id (work_of false a v t))

    module _ (a : Mark) (st : Standing false a t) where
      fits : FitsW (work_of false a 0 u)
      unfolding work_of artificial_of
      fits = subst FitsW (sym (reads a 0)) (purge-fits (symbol_at t p).id (work_of false a 0 t) st.fits refl)

      pub purge-makes : Makes false false a a (purge (symbol_at t p).id) t u
      purge-makes = record {
        reads = reads a;
        stands = record { sound = c.sound; inside = c.inside (b.kept.inside st.inside); owners = c.owners (b.kept.owners st.owners); fits = fits };
      }
