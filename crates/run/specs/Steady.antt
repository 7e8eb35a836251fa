-- What a pivot and either pass do not touch: the symbols, the next id, the variables but for their flags. Assumes nothing.
use Rattle.std.specs.Prelude.{◌≡◌, refl, List, ℕ, Bool, true, false, ◌&&◌, cond, Float}
use Rattle.std.proofs.Common.{sym, ◌∙◌}
use Rattle.std.proofs.Math.Option.{Option, none, some}
use Rattle.std.specs.Float.Ieee.{ne}
use Rattle.simplex.specs.Opt.{Kind as KindZ}
use Rattle.steps.specs.Number.{zero64, Mark}
use Rattle.steps.specs.Symbol.{Symbol, is_external}
use Rattle.steps.specs.Row.{Row, Written, solve_for_symbols}
use Rattle.steps.specs.Work.{Work, Outcome, refused, going, refuse, count_pivot, marking, with_rows, with_tableau, with_changes, with_artificial, with_objective, drop_row, keep_row}
use Rattle.steps.specs.Changes.{clear_changed, all_changed, note}
use Rattle.steps.specs.Substitute.{substitute_in_rows, noted_of, substitute, enter_basis, pivot}
use Rattle.steps.specs.Optimise.{Goal, optimise, dual_optimise}
use Rattle.keeps.specs.Frame.{clear-changed, clear-all}
use Rattle.simplex.specs.bridge.Finds.{none≢some, after-sub}
use Rattle.simplex.specs.bridge.Table.{kind_of}
use Rattle.simplex.proofs.bridge.Table.{enter-parts}
use Rattle.simplex.proofs.bridge.Runs.{pivot-cases, optimise-all, dual-all}

-- each symbol is of the theory's kind
abbrev pub Kinded : (ℕ → KindZ) → Symbol → Type 0
Kinded kind x = kind x.id ≡ kind_of x.kind

-- what a step that only moves rows and objectives leaves
pub record Kept (w x : Work) : Type 0 where
  pub symbols : x.tableau.symbols ≡ w.tableau.symbols
  pub next_id : x.tableau.next_id ≡ w.tableau.next_id
  pub variables : clear_changed x.changes.variables ≡ clear_changed w.changes.variables
  pub artificial : w.artificial ≡ none → x.artificial ≡ none

pub kept_refl : (w : Work) → Kept w w
kept_refl w = record { symbols = refl; next_id = refl; variables = refl; artificial = λ e. e }

pub kept_trans : (u v w : Work) → Kept u v → Kept v w → Kept u w
kept_trans u v w a b = record {
  symbols = b.symbols ∙ a.symbols;
  next_id = b.next_id ∙ a.next_id;
  variables = b.variables ∙ a.variables;
  artificial = λ e. b.artificial (a.artificial e);
}

-- ---- a row enters
art-none : (cut : Float) (s : ℕ) (xs : List Symbol) (r : Row) (t : Option Row) → t ≡ none → after-sub cut s xs r t ≡ none
unfolding after-sub
art-none cut s xs r none e = refl
art-none cut s xs r (some q) e = absurd (none≢some (sym e))

pub enter-kept : (s : Symbol) (r : Row) (w : Work) → Kept w (enter_basis s r w)
unfolding enter_basis substitute note with_tableau with_changes with_artificial marking with_rows with_objective
enter-kept s r w = record {
  symbols = (enter-parts s r w).symbols;
  next_id = next (is_external s && ne r.constant zero64);
  variables = vars (is_external s && ne r.constant zero64);
  artificial = λ e. (enter-parts s r w).artificial ∙ art-none w.tableau.cutoff s.id w.tableau.symbols r w.artificial e;
}
  where
    next : (b : Bool) → (with_rows (keep_row (record { symbol = s; row = r }) (cond b (note s.id (substitute s.id r w)) (substitute s.id r w)).tableau.rows) (cond b (note s.id (substitute s.id r w)) (substitute s.id r w))).tableau.next_id ≡ w.tableau.next_id
    next true = refl
    next false = refl

    all : clear_changed (all_changed (noted_of (substitute_in_rows w.tableau.cutoff s.id w.tableau.symbols r w.tableau.rows)) w.changes).variables ≡ clear_changed w.changes.variables
    all = clear-all (noted_of (substitute_in_rows w.tableau.cutoff s.id w.tableau.symbols r w.tableau.rows)) w.changes

    vars : (b : Bool) → clear_changed (with_rows (keep_row (record { symbol = s; row = r }) (cond b (note s.id (substitute s.id r w)) (substitute s.id r w)).tableau.rows) (cond b (note s.id (substitute s.id r w)) (substitute s.id r w))).changes.variables ≡ clear_changed w.changes.variables
    vars true = clear-changed s.id (all_changed (noted_of (substitute_in_rows w.tableau.cutoff s.id w.tableau.symbols r w.tableau.rows)) w.changes) ∙ all
    vars false = all

-- ---- a pivot
less-kept : (l : ℕ) (m : Mark) (w : Work) → Kept w (marking m (with_rows (drop_row l w.tableau.rows) w))
unfolding marking with_rows with_tableau
less-kept l m w = record { symbols = refl; next_id = refl; variables = refl; artificial = λ e. e }

pub pivot-kept : (l : ℕ) (e : Symbol) (w : Work) → Kept w (pivot l e w)
pivot-kept l e w = pivot-cases l e w (Kept w) (kept_refl w) entered
  where
    entered : (row : Row) → Kept w (enter_basis e (solve_for_symbols w.tableau.cutoff l e.id w.tableau.symbols row).row (marking (solve_for_symbols w.tableau.cutoff l e.id w.tableau.symbols row).mark (with_rows (drop_row l w.tableau.rows) w)))
    entered row =
        let s : Written = solve_for_symbols w.tableau.cutoff l e.id w.tableau.symbols row in
        let v : Work = marking s.mark (with_rows (drop_row l w.tableau.rows) w) in
        kept_trans w v (enter_basis e s.row v) (less-kept l s.mark w) (enter-kept e s.row v)

-- ---- a pass

-- of an outcome that goes on
abbrev pub IfGoing : (Work → Type 0) → Outcome Work → Type 0
IfGoing Q (refused n p m) = Unit
IfGoing Q (going x) = Q x

-- by the law of either pass
abbrev Keeps : Work → Outcome Work → Type 0
Keeps w x = IfGoing (Kept w) x

counted-kept : (l e : Symbol) (w : Work) (x : Outcome Work) → Keeps (count_pivot (pivot l.id e w)) x → Keeps w x
unfolding count_pivot
counted-kept l e w (refused n p m) h = tt
counted-kept l e w (going x) h = let k = pivot-kept l.id e w in record { symbols = h.symbols ∙ k.symbols; next_id = h.next_id ∙ k.next_id; variables = h.variables ∙ k.variables; artificial = λ q. h.artificial (k.artificial q) }

pub optimise-kept : (left : ℕ) (g : Goal) (w : Work) → Keeps w (optimise left g w)
unfolding refuse
optimise-kept = optimise-all Keeps kept_refl (λ n w. tt) (λ l e w f. tt) counted-kept

pub dual-kept : (left : ℕ) (w : Work) → Keeps w (dual_optimise left w)
unfolding refuse
dual-kept = dual-all Keeps kept_refl (λ n w. tt) (λ l e w f. tt) counted-kept
