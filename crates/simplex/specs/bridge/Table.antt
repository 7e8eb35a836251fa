-- The abstraction: a tableau of the steps reads as the theory's mask, rows and objectives; a column is a symbol's id, column 0 the constant's. Assumes nothing.
use Rattle.std.specs.Prelude.{◌≡◌, ◌≢◌, ℕ, ◌^◌, ◌<◌, Bool, true, false}
use Rattle.std.proofs.Math.Path.{sym}
use Rattle.std.proofs.Common.{◌∙◌, inl, inr, arith}
use mathlib.Core.List.{List, [], ◌∷◌}
use Rattle.std.proofs.Math.Option.{Option, none, some}
use Rattle.std.specs.Float.Ieee.{Float}
use Rattle.simplex.specs.Lin.{Vec}
use Rattle.simplex.specs.Choose.{All}
use Rattle.simplex.specs.Basis.{Mask}
use Rattle.simplex.specs.Opt.{Kind as KindZ, external, slack, dummy}
use Rattle.steps.specs.Number.{objective_bound, cutoff_fits, Mark, all_whole, worse}
use Rattle.steps.specs.Symbol.{Kind, External, Slack, Error, Dummy, Symbol}
use Rattle.steps.specs.Row.{Row, cell_values, cell_marks}
use Rattle.steps.specs.State.{Basic}
use Rattle.steps.specs.Work.{Work, find_row, keep_row}
use Rattle.steps.specs.Substitute.{substitute_in_row, substitute_in_cells, substitute_in_rows, rows_of, marks_of}
use Rattle.simplex.specs.bridge.Rows.{Reads, NotIn, In, Up, Outside, ReadsRow}
use Rattle.simplex.specs.bridge.Finds.{UpRows, after-sub}

-- ---- the abstraction
abbrev pub kind_of : Kind → KindZ
kind_of External = external
kind_of Slack = slack
kind_of Error = slack
kind_of Dummy = dummy

-- what is found for a column: no row and not basic, or a row that reads as the column's
abbrev pub RowAt : List Symbol → Option Row → Bool → Vec → Type 0
RowAt xs none b f = b ≡ false
RowAt xs (some r) b f = (b ≡ true) × ReadsRow xs r f

-- the artificial objective, while it stands
abbrev pub ArtAt : List Symbol → Option Row → Vec → Type 0
ArtAt xs none a = Unit
ArtAt xs (some r) a = ReadsRow xs r a

-- a symbol of the list, with its kind
abbrev pub Live : (ℕ → KindZ) → List Symbol → Symbol → Type 0
Live kind xs x = In x.id xs × (kind x.id ≡ kind_of x.kind)

pub record ReadsTable (kind : ℕ → KindZ) (cut : Float) (xs : List Symbol) (bs : List Basic) (cs : List Float) (art : Option Row) (B : Mask) (R : ℕ → Vec) (o a : Vec) : Type 0 where
  pub up : Up 0 xs
  pub kinds : All (λ (x : Symbol). kind x.id ≡ kind_of x.kind) xs
  pub unknown : (i : ℕ) → i ≢ 0 → NotIn i xs → kind i ≡ external
  pub rows-up : UpRows 0 bs
  pub rows-live : All (λ (b : Basic). Live kind xs b.symbol) bs
  pub rows : (j : ℕ) → RowAt xs (find_row j bs) (B j) (R j)
  pub objective : Reads (2 ^ 40) xs cs o
  pub beyond : Outside xs o
  pub artificial : ArtAt xs art a
  -- a cutoff that reset takes, so that a whole number is near zero only if it is 0
  pub cutoff : cutoff_fits cut ≡ true

abbrev pub ReadsWork : (ℕ → KindZ) → Work → Mask → (ℕ → Vec) → Vec → Vec → Type 0
ReadsWork kind w B R o a = ReadsTable kind w.tableau.cutoff w.tableau.symbols w.tableau.rows w.tableau.objective w.artificial B R o a

-- ---- small facts
pub in-above : (i : ℕ) (j : ℕ) (xs : List Symbol) → Up i xs → In j xs → i < j
in-above i j [] u m = absurd m
in-above i j (x ∷ xs) u (inl e) = omega (arith, u.0)
in-above i j (x ∷ xs) u (inr m) = omega (arith, u.0, in-above x.id j xs u.1 m)

pub in-nonzero : (j : ℕ) (xs : List Symbol) → Up 0 xs → In j xs → j ≢ 0
in-nonzero j xs u m e = omega (arith, in-above 0 j xs u m)

pub in-not_in : (i j : ℕ) (xs : List Symbol) → In j xs → NotIn i xs → j ≢ i
in-not_in i j [] m n = absurd m
in-not_in i j (x ∷ xs) (inl e) n = λ p. n.0 (sym p ∙ e)
in-not_in i j (x ∷ xs) (inr m) n = in-not_in i j xs m n.1

-- ---- a pivot's parts
unfoldable pub art-mark : Float → ℕ → List Symbol → Row → Option Row → Mark
art-mark cut s xs other none = all_whole
art-mark cut s xs other (some r) = (substitute_in_row cut s xs other r).mark

pub record Parts (s : Symbol) (r : Row) (w x : Work) : Type 0 where
  pub cutoff : x.tableau.cutoff ≡ w.tableau.cutoff
  pub symbols : x.tableau.symbols ≡ w.tableau.symbols
  pub rows : x.tableau.rows ≡ keep_row (record { symbol = s; row = r }) (rows_of (substitute_in_rows w.tableau.cutoff s.id w.tableau.symbols r w.tableau.rows))
  pub objective : x.tableau.objective ≡ cell_values (substitute_in_cells w.tableau.cutoff s.id w.tableau.symbols r.cells w.tableau.objective)
  pub artificial : x.artificial ≡ after-sub w.tableau.cutoff s.id w.tableau.symbols r w.artificial
  pub mark : x.mark ≡ worse w.mark (worse (marks_of (substitute_in_rows w.tableau.cutoff s.id w.tableau.symbols r w.tableau.rows))
      (worse (cell_marks objective_bound (substitute_in_cells w.tableau.cutoff s.id w.tableau.symbols r.cells w.tableau.objective)) (art-mark w.tableau.cutoff s.id w.tableau.symbols r w.artificial)))
