-- The temporary slack comes, its row is kept and copied: the tables read as the steps' stand_temporary, and stand with an artificial objective.
-- Assumes nothing.
use Prim.Native.Nat.{ℕ, suc, ◌+◌, ◌≤◌, ◌<◌}
use Rattle.std.specs.Prelude.{◌≡◌, Bool, true, false, eqb, length, set}
use Rattle.std.proofs.Math.Path.{refl, sym, ap}
use Rattle.std.proofs.Common.{◌∙◌, subst, get_or-set_same, get_or-set_other, eqb-true}
use mathlib.Core.List.{List, [], ◌∷◌, ◌++◌}
use Rattle.std.proofs.Math.Option.{some}
use native.Mathlib.Omega.{arith}
use Rattle.std.specs.Float.Ieee.{Float, nan}
use Rattle.std.proofs.Math.ListN.{get_or}
use Rattle.std.proofs.lemmas.Bool.{eqb-false}
use Rattle.laws.specs.Lists.{tab, tab-ext}
use Rattle.steps.specs.Number.{zero64, Mark}
use Rattle.steps.specs.Symbol.{Slack, Symbol}
use Rattle.steps.specs.Row.{Row, append_cell}
use Rattle.steps.specs.Work.{Work, with_rows, with_artificial, keep_row, new_symbol, append_symbol}
use Rattle.steps.specs.CreateRow.{append_to}
use Rattle.steps.specs.Artificial.{stand_temporary}
use Rattle.keeps.specs.Cells.{Fine}
use Rattle.keeps.specs.RowOps.{RowOk}
use Rattle.keeps.specs.Fits.{IsBasic, FitsW}
use Rattle.keeps.specs.Adding.{temporary-fits}
use Rattle.layout.specs.Layout.{kind_of, cells_of}
use Rattle.rows.specs.Reading as dense
use Rattle.rows.specs.choose.Walk.{tab-snoc}
use Rattle.sparse.specs.Places.{most_rows}
use Rattle.sparse.specs.Sparse.{Sparse, symbol_count, row_count, symbol_at, read}
use Rattle.layout.specs.cells.Names.{row_room, last_place}
use Rattle.layout.specs.cells.Cells.{settled}
use Rattle.layout.specs.cells.Column.{zero-absent}
use Rattle.waist.specs.merging.Substituted.{settled-absent}
use Rattle.waist.specs.substituting.Loose.{SettledRow}
use Rattle.waist.specs.Working.{work_of, dense-cells, Sound}
use Rattle.waist.specs.Alone.{symbols-count}
use Rattle.waist.specs.Dropping.{Free}
use Rattle.waist.specs.Spots.{Keeps}
use Rattle.waist.specs.Standing.{Standing, Makes}
use Rattle.waist.specs.Growing.{Grown}
use Rattle.waist.specs.ArtificialCopy.{Copies}

-- the row may be a basic symbol's: no cell is of a basic symbol, and numbers are finite while every write was
abbrev pub Holds : Work → Row → Type 0
Holds w r = RowOk (IsBasic w.tableau.rows) (Fine w.mark) w.tableau.symbols r

-- ---- the row with a place more

module _ (k : ℕ) (row : List Float) (long : length row ≡ row_room) (fit : k < last_place) where
  abbrev grown : List Float
  grown = set row (1 + k) zero64

  grown-old : (q : ℕ) → (q ≡ 1 + k → ⊥) → get_or grown q nan ≡ get_or row q nan
  grown-old q d = get_or-set_other row (1 + k) q zero64 nan d

  grown-new : get_or grown (1 + k) nan ≡ zero64
  grown-new = get_or-set_same row (1 + k) zero64 nan (omega (arith, long, fit))

  grown-settled : SettledRow k row → SettledRow (1 + k) grown
  grown-settled h q a b = go (eqb q (1 + k)) refl
    where
      go : (x : Bool) → eqb q (1 + k) ≡ x → settled (get_or grown q nan) ≡ get_or grown q nan
      go true e = rw (eqb-true q (1 + k) e, grown-new) (settled-absent zero64 zero-absent)
      go false e = let d = eqb-false q (1 + k) e in rw (grown-old q d) (h q a (omega (arith, b, d)))

  grown-read : dense.row_of (1 + k) grown ≡ append_cell (dense.row_of k row)
  unfolding dense.row_of append_cell
  grown-read = rw (grown-old 0 (λ e. omega (arith, e)), grown-cells) refl
    where
      grown-cells : cells_of (1 + k) grown ≡ cells_of k row ++ (zero64 ∷ [])
      grown-cells =
          let s : 1 + k ≡ suc k = omega arith in
          let g : ℕ → Float = λ p. get_or grown p nan in
          dense-cells (1 + k) grown
          ∙ ap (tab g 1) s
          ∙ tab-snoc g 1 k
          ∙ ap (λ (x : Float). tab g 1 k ++ (x ∷ [])) grown-new
          ∙ ap (λ (l : List Float). l ++ (zero64 ∷ [])) (tab-ext g (λ p. get_or row p nan) 1 k (λ p a b. grown-old p (λ e. omega (arith, e, b))) ∙ sym (dense-cells k row))

-- ---- the calls of the code, over variables

module _ (a : Mark) (row : List Float) (t : Sparse) (st : Standing false a t) (fit : symbol_count t < last_place) (few : row_count t + 2 < most_rows) (ok : SettledRow (symbol_count t) row) (holds : Holds (work_of false a 0 t) (dense.row_of (symbol_count t) row)) (long : length row ≡ row_room)
    (p : ℕ) (is : p ≡ 1 + symbol_count t) (row₁ : List Float) (laid : row₁ ≡ set row p zero64) where
  abbrev k : ℕ
  k = symbol_count t

  same₁ : row₁ ≡ grown k row long fit
  same₁ = laid ∙ ap (λ (x : ℕ). set row x zero64) is

  module _ {t₁ : Sparse} (g : Grown 1 t t₁) (m : Makes false false a a (λ w. append_symbol (new_symbol (kind_of 1) w) w) t t₁) where
    settled₁ : SettledRow (symbol_count t₁) row₁
    settled₁ = subst (λ (l : List Float). SettledRow (symbol_count t₁) l) (sym same₁) (subst (λ (x : ℕ). SettledRow x (grown k row long fit)) (sym g.symbols) (grown-settled k row long fit ok))

    pub keep-ready : Sound false t₁ × (1 ≤ p) × (p ≤ symbol_count t₁) × Free p t₁ × (row_count t₁ + 1 < most_rows) × SettledRow (symbol_count t₁) row₁
    keep-ready = let s = g.symbols in let r = g.rows in (m.stands.sound, omega (arith, is), omega (arith, s, is), subst (λ (x : ℕ). Free x t₁) (sym is) g.free, omega (arith, r, few), settled₁)

    module _ {t₂ : Sparse} (e : Keeps false p row₁ t₁ t₂) where
      count₂ : symbol_count t₂ ≡ symbol_count t₁
      count₂ = symbols-count t₁ t₂ m.stands.sound.named e.alone

      pub copy-ready : Sound false t₂ × SettledRow (symbol_count t₂) row₁
      copy-ready = (e.sound, subst (λ (x : ℕ). SettledRow x row₁) (sym count₂) settled₁)

      module _ {t₃ : Sparse} (c : Copies row₁ t₂ t₃) where
        abbrev W : ℕ → Work
        W v = work_of false a v t

        abbrev new : Work → Symbol
        new w = new_symbol Slack w

        slack : (v : ℕ) → symbol_at t₁ p ≡ new (W v)
        unfolding new_symbol work_of read kind_of
        slack v = ap (symbol_at t₁) is ∙ g.new

        grown₁ : (v : ℕ) → work_of false a v t₁ ≡ append_symbol (new (W v)) (W v)
        unfolding kind_of
        grown₁ v = m.reads v

        abbrev stood : Row → Symbol → Row → Work → Work
        stood x s y w = with_artificial (some x) (with_rows (keep_row (record { symbol = s; row = y }) w.tableau.rows) w)

        row_is : (n : ℕ) → n ≡ 1 + k → dense.row_of n row₁ ≡ append_cell (dense.row_of k row)
        row_is n q = rw (q, same₁) (grown-read k row long fit)

        together : (w : Work) → stood (append_cell (dense.row_of k row)) (new w) (append_cell (dense.row_of k row)) (append_symbol (new w) w) ≡ stand_temporary (new w) (record { work = w; row = dense.row_of k row })
        unfolding stand_temporary append_to
        together w = refl

        reads : (v : ℕ) → work_of true a v t₃ ≡ stand_temporary (new_symbol Slack (W v)) (record { work = W v; row = dense.row_of k row })
        reads v =
            c.reads a v
            ∙ rw (e.reads a v, grown₁ v, slack v, row_is (symbol_count t₂) (count₂ ∙ g.symbols), row_is (symbol_count t₁) g.symbols) refl
            ∙ together (W v)

        fits : FitsW (stand_temporary (new_symbol Slack (W 0)) (record { work = W 0; row = dense.row_of k row }))
        fits = temporary-fits (W 0) (dense.row_of k row) st.fits holds

        pub stand-makes : Makes false true a a (λ w. stand_temporary (new_symbol Slack w) (record { work = w; row = dense.row_of (symbol_count t) row })) t t₃
        stand-makes = record {
          reads = reads;
          stands = record {
            sound = c.sound;
            inside = c.kept.inside (e.kept.inside m.stands.inside);
            owners = c.kept.owners (e.kept.owners m.stands.owners);
            fits = subst FitsW (sym (reads 0)) fits;
          };
        }
