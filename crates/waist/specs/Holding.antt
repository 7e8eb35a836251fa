-- Tables that stand still stand after the waist's operations, and read as the steps say.
-- Assumes nothing.
use Rattle.std.specs.Prelude.{ℕ, ◌≤◌, ◌≡◌, refl, Bool, true, false, cond, List, Float}
use Rattle.std.proofs.Common.{sym, ap, ◌∙◌, subst}
use Rattle.steps.specs.Number.{Mark, worse}
use Rattle.steps.specs.Symbol.{Symbol}
use Rattle.steps.specs.Work.{Work, with_tableau, with_rows, with_changes, drop_row}
use Rattle.steps.specs.Changes.{note}
use Rattle.steps.specs.Substitute.{enter_basis, pivot}
use Rattle.keeps.specs.Fits.{FitsW, fits-worse, fits-drop}
use Rattle.keeps.specs.Pivots.{pivot-fits}
use Rattle.rows.specs.Reading as dense
use Rattle.rows.specs.declared.number.Wrote.{Wrote}
use Rattle.rows.specs.Marks.{mark_of, join, joined-mark}
use Rattle.sparse.specs.Sparse.{Sparse, symbol_count, symbol_at, read}
use Rattle.waist.specs.substituting.Notes.{noted, var_changed_if}
use Rattle.waist.specs.Working.{sparse, work_of, Sound, basic-symbol}
use Rattle.waist.specs.Owning.{Kept}
use Rattle.waist.specs.Dropping.{Free, Drops}
use Rattle.waist.specs.Noting.{note-calls}
use Rattle.waist.specs.Entering.{Enters}
use Rattle.waist.specs.Pivoting.{Pivots}
use Rattle.waist.specs.LivePlaces.{live-symbol, not-basic}
use Rattle.waist.specs.Standing.{Standing, Makes, row_symbol}

-- more was written
pub standing-worse : (art : Bool) (a m : Mark) (t : Sparse) → Standing art a t → Standing art (worse a m) t
unfolding work_of
standing-worse art a m t s = record { sound = s.sound; inside = s.inside; owners = s.owners; fits = fits-worse s.fits m }

-- from what an operation keeps
makes-by : (art : Bool) (a b : Mark) (f : Work → Work) (t u : Sparse) → Standing art a t → ((v : ℕ) → work_of art b v u ≡ f (work_of art a v t)) → Sound art u → Kept t u → FitsW (f (work_of art a 0 t)) → Makes art art a b f t u
makes-by art a b f t u s r so k w = record { reads = r; stands = record { sound = so; inside = k.inside s.inside; owners = k.owners s.owners; fits = subst FitsW (sym (r 0)) w } }

-- ---- a row goes

pub drop-makes : (art : Bool) (a : Mark) (t : Sparse) (i : ℕ) {u : Sparse} → Standing art a t → Drops art i t u → Makes art art a a (λ w. with_rows (drop_row (row_symbol t i).id w.tableau.rows) w) t u
unfolding with_rows with_tableau
drop-makes art a t i {u} s d =
    makes-by art a a (λ w. with_rows (drop_row (row_symbol t i).id w.tableau.rows) w) t u s
    (λ v. d.reads a v ∙ ap (λ (x : Symbol). with_rows (drop_row x.id (work_of art a v t).tableau.rows) (work_of art a v t)) (sym (basic-symbol t i))) d.sound d.kept (fits (work_of art a 0 t) s.fits)
  where
    fits : (w : Work) → FitsW w → FitsW (with_rows (drop_row (row_symbol t i).id w.tableau.rows) w)
    fits w f = fits-drop f (row_symbol t i).id

-- ---- a variable is noted

note-fits : (on : Bool) (i : ℕ) (w : Work) → FitsW w → FitsW (cond on (note i w) w)
unfolding note with_changes
note-fits true i w f = f
note-fits false i w f = f

pub note-makes : (art : Bool) (a : Mark) (on : Bool) (p : ℕ) (t : Sparse) → Standing art a t → 1 ≤ p → p ≤ symbol_count t → (ws bs : List ℕ) → noted ws bs ≡ var_changed_if on p (noted t.words t.bytes)
    → Makes art art a a (λ w. cond on (note (symbol_at t p).id w) w) t (sparse ws t.keys bs t.reals t.values)
note-makes art a on p t s low high ws bs e =
    let n = note-calls art on p t s.sound low high ws bs e in
    makes-by art a a (λ w. cond on (note (symbol_at t p).id w) w) t _ s (n.reads a) n.sound n.kept (note-fits on (symbol_at t p).id (work_of art a 0 t) s.fits)

-- ---- a solved row enters: that it fits is its caller's to know

pub enter-on : (art : Bool) (t : Sparse) (p : ℕ) (row : List Float) (before o : Wrote) {u : Sparse} {r : Wrote} → Standing art (mark_of before) t → FitsW (enter_basis (symbol_at t p) (dense.row_of (symbol_count t) row) (work_of art (mark_of before) 0 t))
    → Enters art p row t u (mark_of o) → r ≡ join before o → Makes art art (mark_of before) (mark_of r) (enter_basis (symbol_at t p) (dense.row_of (symbol_count t) row)) t u
enter-on art t p row before o {u} s f n e =
    subst (λ (x : Mark). Makes art art (mark_of before) x (enter_basis (symbol_at t p) (dense.row_of (symbol_count t) row)) t u) (sym (joined-mark before o e refl refl))
    (makes-by art (mark_of before) (worse (mark_of before) (mark_of o)) (enter_basis (symbol_at t p) (dense.row_of (symbol_count t) row)) t u s (n.reads (mark_of before)) n.sound n.kept f)

-- ---- a pivot

module _ (art : Bool) (a : Mark) (t : Sparse) (s : Standing art a t) (i p : ℕ) (low : 1 ≤ p) (high : p ≤ symbol_count t) (free : Free p t) {u : Sparse} {m : Mark} (n : Pivots art i p t u m) where
  leaving : (v : ℕ) → work_of art (worse a m) v u ≡ pivot (row_symbol t i).id (symbol_at t p) (work_of art a v t)
  leaving v = n.reads a v ∙ ap (λ (x : Symbol). pivot x.id (symbol_at t p) (work_of art a v t)) (sym (basic-symbol t i))

  fits : FitsW (pivot (row_symbol t i).id (symbol_at t p) (work_of art a 0 t))
  unfolding work_of read
  fits = pivot-fits (row_symbol t i).id (symbol_at t p) (work_of art a 0 t) s.fits (not-basic art t s.sound p low high free) (live-symbol art t s.sound p low high)

  pivot-makes : Makes art art a (worse a m) (pivot (row_symbol t i).id (symbol_at t p)) t u
  pivot-makes = makes-by art a (worse a m) (pivot (row_symbol t i).id (symbol_at t p)) t u s leaving n.sound n.kept fits

pub pivot-on : (art : Bool) (t : Sparse) (i p : ℕ) (before o : Wrote) {u : Sparse} {r : Wrote} → Standing art (mark_of before) t → 1 ≤ p → p ≤ symbol_count t → Free p t → Pivots art i p t u (mark_of o) → r ≡ join before o
    → Makes art art (mark_of before) (mark_of r) (pivot (row_symbol t i).id (symbol_at t p)) t u
pivot-on art t i p before o {u} s low high free n e =
    subst (λ (x : Mark). Makes art art (mark_of before) x (pivot (row_symbol t i).id (symbol_at t p)) t u) (sym (joined-mark before o e refl refl)) (pivot-makes art (mark_of before) t s i p low high free n)
