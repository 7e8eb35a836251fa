-- What a pivot and its like leave alone: symbols, next id, variables but for their flags, the gone numbers, the absence of an artificial objective. Assumes nothing.
use Rattle.std.specs.Prelude.{◌≡◌, refl, List, [], ◌∷◌, Bool, true, false, cond, ◌&&◌, ℕ, suc, length, Float}
use Rattle.std.proofs.Common.{sym, ap, ◌∙◌}
use Rattle.std.proofs.Math.Option.{Option, none, some}
use Rattle.std.specs.Float.Ieee.{ne}
use Rattle.steps.specs.Number.{zero64, Mark}
use Rattle.steps.specs.Symbol.{Symbol, is_external}
use Rattle.steps.specs.Row.{Row, Written, solve_for_symbols}
use Rattle.steps.specs.State.{Basic, Variable, Changes}
use Rattle.steps.specs.Work.{Work, with_tableau, with_rows, with_objective, with_changes, with_artificial, marking, find_row, drop_row, keep_row}
use Rattle.steps.specs.Changes.{with_flag, clear_changed, flag_symbol, var_changed, all_changed, note}
use Rattle.steps.specs.Substitute.{substitute_in_rows, rows_of, noted_of, substitute, enter_basis, pivot}
use Rattle.keeps.specs.Keys.{row_id, keep_row-is, keep-length, drop_row-is, drop-length, Row?, no_row, a-row, row?}

pub record Frame (w v : Work) : Type 0 where
  pub symbols : v.tableau.symbols ≡ w.tableau.symbols
  pub next : v.tableau.next_id ≡ w.tableau.next_id
  pub variables : clear_changed v.changes.variables ≡ clear_changed w.changes.variables
  pub plain : w.artificial ≡ none → v.artificial ≡ none
  pub cutoff : v.tableau.cutoff ≡ w.tableau.cutoff
  pub gone : v.changes.gone ≡ w.changes.gone

pub frame-refl : (w : Work) → Frame w w
frame-refl w = record { symbols = refl; next = refl; variables = refl; plain = λ e. e; cutoff = refl; gone = refl }

pub frame-trans : {w v u : Work} → Frame w v → Frame v u → Frame w u
frame-trans f g =
    record {
      symbols = g.symbols ∙ f.symbols;
      next = g.next ∙ f.next;
      variables = g.variables ∙ f.variables;
      plain = λ e. g.plain (f.plain e);
      cutoff = g.cutoff ∙ f.cutoff;
      gone = g.gone ∙ f.gone;
    }

-- ---- flags

pub clear-clear : (vs : List Variable) → clear_changed (clear_changed vs) ≡ clear_changed vs
unfolding clear_changed with_flag
clear-clear [] = refl
clear-clear (v ∷ vs) = ap (λ (z : List Variable). with_flag false v ∷ z) (clear-clear vs)

pub clear-flag : (s : ℕ) (vs : List Variable) → clear_changed (flag_symbol s vs) ≡ clear_changed vs
unfolding clear_changed flag_symbol with_flag
clear-flag s [] = refl
clear-flag s (v ∷ vs) = ap (λ (z : List Variable). with_flag false v ∷ z) (clear-flag s vs)

pub clear-changed : (s : ℕ) (c : Changes) → clear_changed (var_changed s c).variables ≡ clear_changed c.variables
unfolding var_changed
clear-changed s c = clear-flag s (cond c.should_clear (clear_changed c.variables) c.variables) ∙ go c.should_clear
  where
    go : (t : Bool) → clear_changed (cond t (clear_changed c.variables) c.variables) ≡ clear_changed c.variables
    go true = clear-clear c.variables
    go false = refl

pub clear-all : (ss : List ℕ) (c : Changes) → clear_changed (all_changed ss c).variables ≡ clear_changed c.variables
unfolding all_changed
clear-all [] c = refl
clear-all (s ∷ ss) c = clear-all ss (var_changed s c) ∙ clear-changed s c

gone-changed : (s : ℕ) (c : Changes) → (var_changed s c).gone ≡ c.gone
unfolding var_changed
gone-changed s c = refl

pub gone-all : (ss : List ℕ) (c : Changes) → (all_changed ss c).gone ≡ c.gone
unfolding all_changed
gone-all [] c = refl
gone-all (s ∷ ss) c = gone-all ss (var_changed s c) ∙ gone-changed s c

-- ---- substitute, enter, pivot

pub substitute-frame : (s : ℕ) (r : Row) (w : Work) → Frame w (substitute s r w)
unfolding substitute marking with_artificial with_changes with_objective with_rows with_tableau
substitute-frame s r w =
    record {
      symbols = refl;
      next = refl;
      variables = clear-all (noted_of (substitute_in_rows w.tableau.cutoff s w.tableau.symbols r w.tableau.rows)) w.changes;
      plain = λ e. rw e;
      cutoff = refl;
      gone = gone-all (noted_of (substitute_in_rows w.tableau.cutoff s w.tableau.symbols r w.tableau.rows)) w.changes;
    }

pub note-frame : (s : ℕ) (w : Work) → Frame w (note s w)
unfolding note with_changes
note-frame s w = record { symbols = refl; next = refl; variables = clear-changed s w.changes; plain = λ e. e; cutoff = refl; gone = gone-changed s w.changes }

pub rows_frame : (bs : List Basic) (w : Work) → Frame w (with_rows bs w)
unfolding with_rows with_tableau
rows_frame bs w = record { symbols = refl; next = refl; variables = refl; plain = λ e. e; cutoff = refl; gone = refl }

pub mark-frame : (m : Mark) (w : Work) → Frame w (marking m w)
unfolding marking
mark-frame m w = record { symbols = refl; next = refl; variables = refl; plain = λ e. e; cutoff = refl; gone = refl }

pub enter-frame : (s : Symbol) (r : Row) (w : Work) → Frame w (enter_basis s r w)
unfolding enter_basis
enter-frame s r w = go (is_external s && ne r.constant zero64)
  where
    v : Work
    v = substitute s.id r w

    go : (t : Bool) → Frame w (with_rows (keep_row (record { symbol = s; row = r }) (cond t (note s.id v) v).tableau.rows) (cond t (note s.id v) v))
    go true = frame-trans (frame-trans (substitute-frame s.id r w) (note-frame s.id v)) (rows_frame _ (note s.id v))
    go false = frame-trans (substitute-frame s.id r w) (rows_frame _ v)

pub rows_of-length : (cut : Float) (s : ℕ) (xs : List Symbol) (r : Row) (bs : List Basic) → length (rows_of (substitute_in_rows cut s xs r bs)) ≡ length bs
unfolding rows_of substitute_in_rows
rows_of-length cut s xs r [] = refl
rows_of-length cut s xs r (b ∷ bs) = ap suc (rows_of-length cut s xs r bs)

pub enter-count : (s : Symbol) (r : Row) (w : Work) → length (enter_basis s r w).tableau.rows ≡ suc (length w.tableau.rows)
unfolding enter_basis substitute marking with_artificial with_changes with_objective with_rows with_tableau note
enter-count s r w = go (is_external s && ne r.constant zero64)
  where
    v : Work
    v = substitute s.id r w

    more : (bs : List Basic) → length bs ≡ length w.tableau.rows → length (keep_row (record { symbol = s; row = r }) bs) ≡ suc (length w.tableau.rows)
    more bs e = rw keep_row-is (keep-length row_id _ bs ∙ ap suc e)

    go : (t : Bool) → length (keep_row (record { symbol = s; row = r }) (cond t (note s.id v) v).tableau.rows) ≡ suc (length w.tableau.rows)
    go true = more _ (rows_of-length w.tableau.cutoff s.id w.tableau.symbols r w.tableau.rows)
    go false = more _ (rows_of-length w.tableau.cutoff s.id w.tableau.symbols r w.tableau.rows)

pub pivot-frame : (l : ℕ) (e : Symbol) (w : Work) → Frame w (pivot l e w)
unfolding pivot
pivot-frame l e w = go (find_row l w.tableau.rows)
  where
    after : Row → Work
    after row =
        let solved : Written = solve_for_symbols w.tableau.cutoff l e.id w.tableau.symbols row in
        enter_basis e solved.row (marking solved.mark (with_rows (drop_row l w.tableau.rows) w))

    go : (o : Option Row) → Frame w (elim o [ none ↦ w | some row ↦ after row ])
    go none = frame-refl w
    go (some row) =
        let solved : Written = solve_for_symbols w.tableau.cutoff l e.id w.tableau.symbols row in
        let x : Work = with_rows (drop_row l w.tableau.rows) w in
        frame-trans (frame-trans (rows_frame (drop_row l w.tableau.rows) w) (mark-frame solved.mark x)) (enter-frame e solved.row (marking solved.mark x))

pub pivot-count : (l : ℕ) (e : Symbol) (w : Work) → length (pivot l e w).tableau.rows ≡ length w.tableau.rows
unfolding pivot marking with_rows with_tableau
pivot-count l e w = go (find_row l w.tableau.rows) (row? l w.tableau.rows)
  where
    after : Row → Work
    after row =
        let solved : Written = solve_for_symbols w.tableau.cutoff l e.id w.tableau.symbols row in
        enter_basis e solved.row (marking solved.mark (with_rows (drop_row l w.tableau.rows) w))

    next : Option Row → Work
    next o = elim o [ none ↦ w | some row ↦ after row ]

    go : (o : Option Row) → Row? l w.tableau.rows o → length (next o).tableau.rows ≡ length w.tableau.rows
    go o (no_row f) = refl
    go o (a-row b f) =
        enter-count e _ (marking _ (with_rows (drop_row l w.tableau.rows) w))
        ∙ ap suc (ap length (drop_row-is l w.tableau.rows))
        ∙ sym (drop-length row_id l w.tableau.rows b f)
