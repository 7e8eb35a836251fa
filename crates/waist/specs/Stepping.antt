-- The steps' `substitute` by its parts: the marks one after the other, the rows one by one, and the whole.
-- Assumes nothing.
use Rattle.std.specs.Prelude.{ℕ, zero, suc, ◌+◌, ◌≡◌, refl, Bool, true, false, cond, List, ◌∷◌, Float}
use Rattle.std.proofs.Common.{sym, ap, ◌∙◌, add-zero, arith}
use Rattle.std.proofs.Math.Option.{none, some}
use Rattle.laws.specs.Loops.{run, run-next, run-last}
use Rattle.laws.specs.Lists.{tab}
use Rattle.steps.specs.Number.{objective_bound, Mark, all_whole, not_whole, not_finite, worse}
use Rattle.steps.specs.Symbol.{Symbol}
use Rattle.steps.specs.Row.{Row, cell_values, cell_marks}
use Rattle.steps.specs.State.{Basic, Changes}
use Rattle.steps.specs.Work.{with_tableau, with_rows, with_objective, with_artificial, with_changes, marking}
use Rattle.steps.specs.Changes.{all_changed}
use Rattle.steps.specs.Substitute.{substitute_in_row, substitute_in_cells, Substituted, substitute_in_rows, rows_of, marks_of, noted_of, substitute}
use Rattle.rows.specs.Marks.{worse-unit, worse-assoc}
use Rattle.sparse.specs.Sparse.{Sparse, row_count}
use Rattle.waist.specs.Working.{work, lines_of}

pub worse-comm : (m n : Mark) → worse m n ≡ worse n m
unfolding worse
worse-comm all_whole all_whole = refl
worse-comm all_whole not_whole = refl
worse-comm all_whole not_finite = refl
worse-comm not_whole all_whole = refl
worse-comm not_whole not_whole = refl
worse-comm not_whole not_finite = refl
worse-comm not_finite all_whole = refl
worse-comm not_finite not_whole = refl
worse-comm not_finite not_finite = refl

-- the marks of rows one after the other, from `first` on
pub marks-from : (g : ℕ → Substituted) (k i : ℕ) (a : Mark) → run (λ q a. worse a (g q).written.mark) i (i + k) a ≡ worse a (marks_of (tab g i k))
unfolding tab marks_of
marks-from g zero i a = sym (run-last (λ q a. worse a (g q).written.mark) i (i + 0) a (omega arith) refl) ∙ sym (worse-unit a)
marks-from g (suc k) i a =
    let e : i + 1 ≡ suc i = omega arith in
    let e₁ : i + suc k ≡ suc i + k = omega arith in
    let turn : run (λ q a. worse a (g q).written.mark) (i + 1) (i + suc k) (worse a (g i).written.mark) ≡ run (λ q a. worse a (g q).written.mark) i (i + suc k) a = run-next (λ q a. worse a (g q).written.mark) i (i + suc k) a (omega arith) refl refl in
    sym turn ∙ rw (e, e₁) (marks-from g k (suc i) (worse a (g i).written.mark)) ∙ worse-assoc a (g i).written.mark (marks_of (tab g (suc i) k))

-- one turn more
pub marks-last : (g : ℕ → Mark → Mark) (i k : ℕ) (a : Mark) → run g i (i + suc k) a ≡ g (i + k) (run g i (i + k) a)
marks-last g i zero a =
    let e : i + 1 ≡ i + suc 0 = omega arith in
    let z : i + 0 ≡ i = add-zero i in
    let last : run g i (i + 0) a ≡ a = sym (run-last g i (i + 0) a (omega arith) refl) in
    let t : run g (i + 1) (i + suc 0) (g i a) ≡ run g i (i + suc 0) a = run-next g i (i + suc 0) a (omega arith) refl refl in
    rw (last, z) (sym t ∙ sym (run-last g (i + 1) (i + suc 0) (g i a) (omega arith) refl))
marks-last g i (suc k) a =
    let e : i + 1 ≡ suc i = omega arith in
    let e₁ : i + suc (suc k) ≡ suc i + suc k = omega arith in
    let e₂ : i + suc k ≡ suc i + k = omega arith in
    let t : run g (i + 1) (i + suc (suc k)) (g i a) ≡ run g i (i + suc (suc k)) a = run-next g i (i + suc (suc k)) a (omega arith) refl refl in
    let u : run g (i + 1) (i + suc k) (g i a) ≡ run g i (i + suc k) a = run-next g i (i + suc k) a (omega arith) refl refl in
    let p : run g (i + 1) (i + suc (suc k)) (g i a) ≡ g (i + suc k) (run g (i + 1) (i + suc k) (g i a)) = rw (e, e₁, e₂) (marks-last g (suc i) k (g i a)) in
    sym t ∙ p ∙ ap (g (i + suc k)) u

pub line-count : (t : Sparse) → lines_of true t ≡ row_count t + 1
unfolding lines_of
line-count t = refl

pub row-line-count : (t : Sparse) → lines_of false t ≡ row_count t
unfolding lines_of
row-line-count t = refl

pub rows-tab : (cutoff : Float) (s : ℕ) (symbols : List Symbol) (other : Row) (g : ℕ → Basic) (f : ℕ → Substituted) → ((i : ℕ) → f i ≡ record { symbol = (g i).symbol; written = substitute_in_row cutoff s symbols other (g i).row })
    → (k i : ℕ) → substitute_in_rows cutoff s symbols other (tab g i k) ≡ tab f i k
unfolding substitute_in_rows tab
rows-tab cutoff s symbols other g f e zero i = refl
rows-tab cutoff s symbols other g f e (suc k) i = rw (e i) (ap (λ (x : List Substituted). record { symbol = (g i).symbol; written = substitute_in_row cutoff s symbols other (g i).row } ∷ x) (rows-tab cutoff s symbols other g f e k (suc i)))

pub marks-whole : (m n o : Mark) (b : Bool) → worse (cond b (worse m n) m) o ≡ worse m (worse o (cond b n all_whole))
marks-whole m n o true = worse-assoc m n o ∙ ap (worse m) (worse-comm n o)
marks-whole m n o false = ap (worse m) (sym (worse-unit o))

pub steps-whole : (cutoff : Float) (s : ℕ) (symbols : List Symbol) (other : Row) (next : ℕ) (rows : List Basic) (objective : List Float) (c : Changes) (x : Row) (a : Mark) (v : ℕ) (b : Bool)
    → substitute s other (work cutoff symbols next rows objective c (cond b (some x) none) a v)
    ≡ work cutoff symbols next (rows_of (substitute_in_rows cutoff s symbols other rows)) (cell_values (substitute_in_cells cutoff s symbols other.cells objective)) (all_changed (noted_of (substitute_in_rows cutoff s symbols other rows)) c)
    (cond b (some (substitute_in_row cutoff s symbols other x).row) none)
    (worse a (worse (marks_of (substitute_in_rows cutoff s symbols other rows)) (worse (cell_marks objective_bound (substitute_in_cells cutoff s symbols other.cells objective)) (cond b (substitute_in_row cutoff s symbols other x).mark all_whole)))) v
unfolding substitute with_tableau with_rows with_objective with_artificial with_changes marking
steps-whole cutoff s symbols other next rows objective c x a v true = refl
steps-whole cutoff s symbols other next rows objective c x a v false = refl
