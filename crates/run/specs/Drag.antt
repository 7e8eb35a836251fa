-- A suggestion's steps from a state at rest: the shift starts the dual pass well, and what it and the pass do not touch. Assumes nothing.
use Rattle.std.specs.Prelude.{◌≡◌, refl, ◌≢◌, List, ◌∷◌, ℕ, ◌^◌, ◌<◌, ℤ, neg_ℤ, Float}
use Rattle.std.proofs.Common.{sym, ◌∙◌}
use Rattle.std.proofs.Math.Path.{subst}
use Rattle.std.proofs.Math.Option.{Option, none, some}
use Rattle.laws.specs.Z.{◌≼◌}
use Rattle.laws.specs.exact.Whole.{Zb}
use Rattle.simplex.specs.Ord.{0ℤ}
use Rattle.simplex.specs.Lin.{Vec, δ, plus}
use Rattle.simplex.specs.Basis.{Mask}
use Rattle.simplex.specs.Opt.{Kind as KindZ, slack}
use Rattle.simplex.specs.Pass.{State, Good}
use Rattle.simplex.specs.Problem.{Con, Models}
use Rattle.simplex.specs.Drag.{edit}
use Rattle.steps.specs.Number.{all_whole}
use Rattle.steps.specs.Symbol.{Symbol}
use Rattle.steps.specs.Row.{Row}
use Rattle.steps.specs.State.{Basic, Tag}
use Rattle.steps.specs.Work.{Work, with_tableau, with_rows, with_changes, marking}
use Rattle.steps.specs.Substitute.{rows_of, marks_of, noted_of}
use Rattle.steps.specs.Edit.{shift_of, shift_rows, shift_constants}
use Rattle.keeps.specs.Frame.{clear-all}
use Rattle.simplex.specs.bridge.Nums.{worse-l, worse-r}
use Rattle.simplex.specs.bridge.Rows.{reads-to}
use Rattle.simplex.specs.bridge.Table.{ReadsTable, ReadsWork, in-nonzero}
use Rattle.simplex.specs.bridge.Drags.{Drag as Dragging}
use Rattle.run.specs.Shift.{shift-table}
use Rattle.run.specs.Steady.{Kept}
use Rattle.run.specs.Aims.{aimed-good, aimed-no-var}
use Rattle.run.specs.Drawn.{Drawn, drawn}

-- ---- what is not touched

pub shift_kept : (tag : Tag) (d : Float) (w : Work) → Kept w (shift_constants tag d w)
unfolding shift_constants marking with_changes with_rows with_tableau
shift_kept tag d w = record { symbols = refl; next_id = refl; variables = clear-all (noted_of (shift_rows (shift_of tag d w) w.tableau.rows)) w.changes; artificial = λ e. e }

pub shift-marks : (tag : Tag) (d : Float) (w : Work) → (shift_constants tag d w).mark ≡ all_whole → (w.mark ≡ all_whole) × (marks_of (shift_rows (shift_of tag d w) w.tableau.rows) ≡ all_whole)
unfolding shift_constants marking with_changes with_rows with_tableau
shift-marks tag d w m = (worse-l w.mark (marks_of (shift_rows (shift_of tag d w) w.tableau.rows)) m, worse-r w.mark (marks_of (shift_rows (shift_of tag d w) w.tableau.rows)) m)

-- ---- the dual pass starts well

objective-to : (kind : ℕ → KindZ) (cut : Float) (xs : List Symbol) (bs : List Basic) (cs : List Float) (B : Mask) (R : ℕ → Vec) (o q a : Vec) → ((j : ℕ) → j ≢ 0 → q j ≡ o j) → ReadsTable kind cut xs bs cs none B R o a → ReadsTable kind cut xs bs cs none B R q a
objective-to kind cut xs bs cs B R o q a same H = record {
  up = H.up;
  kinds = H.kinds;
  unknown = H.unknown;
  rows-up = H.rows-up;
  rows-live = H.rows-live;
  rows = H.rows;
  objective = reads-to (2 ^ 40) xs cs o q (λ x i. sym (same x.id (in-nonzero x.id xs H.up i))) H.objective;
  beyond = λ i n m. same i n ∙ H.beyond i n m;
  cutoff = H.cutoff;
  artificial = H.artificial;
}

module _ (n : ℕ) (kind : ℕ → KindZ) (in-n : 0 < n) (inside : (j : ℕ) → kind j ≡ slack → j < n) (w : Work) (S : State) (z : Vec) (G : Good n kind S)
    (rest : (j : ℕ) → kind j ≡ slack → 0ℤ ≼ S.o j) (H : ReadsWork kind w S.B S.R S.o z) (no-art : w.artificial ≡ none)
    (a : Vec) (wt : ℤ) (tag : Tag) (o : Symbol) (two : tag.other ≡ some o) (cs : List Con) (D : Models n kind S.B S.R S.o (edit a wt tag.marker.id o.id ∷ cs))
    (delta : Float) (y : ℤ) (Y : Zb (2 ^ 31) delta y) (whole : marks_of (shift_rows (shift_of tag delta w) w.tableau.rows) ≡ all_whole) where
  plain-table : ReadsTable kind w.tableau.cutoff w.tableau.symbols w.tableau.rows w.tableau.objective none S.B S.R S.o z
  plain-table = subst (λ (t : Option Row). ReadsTable kind w.tableau.cutoff w.tableau.symbols w.tableau.rows w.tableau.objective t S.B S.R S.o z) no-art H

  W : Drawn n kind w S z G H in-n a wt tag o two cs D delta y Y
  W = drawn n kind w S z G H in-n a wt tag o two cs D delta y Y

  pub table : State
  table = record { B = S.B; R = W.aimed.R; o = W.aimed.o }

  after_table : ReadsTable kind w.tableau.cutoff w.tableau.symbols (rows_of (shift_rows (shift_of tag delta w) w.tableau.rows)) w.tableau.objective none S.B W.aimed.R W.aimed.o z
  after_table =
      objective-to kind w.tableau.cutoff w.tableau.symbols (rows_of (shift_rows (shift_of tag delta w) w.tableau.rows)) w.tableau.objective S.B W.aimed.R S.o W.aimed.o z W.aimed.same-o
      (shift-table kind w.tableau.cutoff w.tableau.symbols w.tableau.rows w.tableau.objective S.B S.R S.o z plain-table (shift_of tag delta w) W.d W.gets whole W.aimed.R (λ j _ i. W.aimed.rows j i))

  pub starts : Dragging n kind inside (edit (plus a (neg_ℤ y) (δ 0)) wt tag.marker.id o.id ∷ cs) (shift_constants tag delta w) table z
  unfolding shift_constants marking with_changes with_rows with_tableau table
  starts = record {
    good = aimed-good n kind S G rest W.d _ W.aimed;
    reads = subst (λ (t : Option Row). ReadsTable kind w.tableau.cutoff w.tableau.symbols (rows_of (shift_rows (shift_of tag delta w) w.tableau.rows)) w.tableau.objective t S.B W.aimed.R W.aimed.o z) (sym no-art) after_table;
    models = W.aimed.models;
    no-var = aimed-no-var n kind S G rest W.d _ W.aimed;
  }
