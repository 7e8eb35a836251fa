-- What queries and fetch leave as it was. Assumes nothing.
use Prim.Native.Nat.{ℕ}
use mathlib.Core.Path.{◌≡◌, refl, sym, ap, ◌∙◌, subst}
use mathlib.Core.Bool.{Bool, true, false, not, cond}
use mathlib.Core.List.{List, [], ◌∷◌, map}
use mathlib.Core.Option.{Option, none, some}
use lib.Dec.{eqb}
use lib.Ieee.{Float}
use Rattle.steps.specs.Number.{zero64}
use Rattle.steps.specs.Symbol.{Symbol}
use Rattle.steps.specs.State.{Basic, Variable, State}
use Rattle.steps.specs.Changes.{with_flag, clear_changed, find_variable, value_of, value, member, is_news, is_listed, news_of, merged, reported, fetch_changes}
use Rattle.steps.specs.Session.{value_of as asks, has_constraints, has_edits, turn}

-- ---- queries

-- a query's state afterwards is the state before
pub queries-keep : (s : State) (n : ℕ) → ((turn (asks n) s).state ≡ s) × ((turn (has_constraints n) s).state ≡ s) × ((turn (has_edits n) s).state ≡ s)
unfolding turn
queries-keep s n = (refl, refl, refl)

-- ---- fetch

-- a variable but for its changed flag and its old value
abbrev pub named : Variable → Variable
named v = record { number = v.number; symbol = v.symbol; old = zero64; uses = v.uses; changed = false }

same-named : (f : Variable → Variable) → ((v : Variable) → named (f v) ≡ named v) → (vs : List Variable) → map named (map f vs) ≡ map named vs
same-named f h [] = refl
same-named f h (v ∷ vs) = rw (h v, same-named f h vs) refl

-- all but the variables' changed flags, their old values, the gone numbers and the toggle stays: each variable keeps its place, its number, its symbol and its uses
pub fetch-keeps : (s : State) → ((fetch_changes s).state.tableau ≡ s.tableau) × ((fetch_changes s).state.constraints ≡ s.constraints) × ((fetch_changes s).state.edits ≡ s.edits) × ((fetch_changes s).state.whole ≡ s.whole)
    × (map named (fetch_changes s).state.changes.variables ≡ map named s.changes.variables)
unfolding fetch_changes reported with_flag clear_changed
fetch-keeps s = (refl, refl, refl, refl, same-named (reported s.changes.gone s.tableau.rows) (λ v. refl) (before s.changes.should_clear) ∙ go s.changes.should_clear)
  where
    before : Bool → List Variable
    before b = cond b (clear_changed s.changes.variables) s.changes.variables

    go : (b : Bool) → map named (before b) ≡ map named s.changes.variables
    go true = same-named (with_flag false) (λ v. refl) s.changes.variables
    go false = refl

-- of variables that are out of the changed set nothing is listed, unless a gone entry waits for the number
no-news : (rows : List Basic) (vs : List Variable) → news_of [] rows (clear_changed vs) ≡ []
unfolding news_of is_listed is_news member clear_changed with_flag
no-news rows [] = refl
no-news rows (v ∷ vs) = no-news rows vs

-- nor after a fetch has gone over them
still-no-news : (gone : List ℕ) (rows : List Basic) (vs : List Variable) → news_of [] rows (map (reported gone rows) (clear_changed vs)) ≡ []
unfolding news_of is_listed is_news member clear_changed with_flag reported
still-no-news gone rows [] = refl
still-no-news gone rows (v ∷ vs) = still-no-news gone rows vs

-- "Changes: `fetch_changes` toggles as in the crate: a first fetch reports, a second straight after reports none.": whether the first one reported or not, and nothing is gone twice
pub second-fetch : (s : State) → (fetch_changes (fetch_changes s).state).list ≡ []
unfolding fetch_changes merged
second-fetch s = go s.changes.should_clear
  where
    rows : List Basic
    rows = s.tableau.rows

    vs : Bool → List Variable
    vs b = cond b (clear_changed s.changes.variables) s.changes.variables

    after : Bool → List Variable
    after b = map (reported s.changes.gone rows) (vs b)

    go : (b : Bool) → news_of [] rows (cond (not b) (clear_changed (after b)) (after b)) ≡ []
    go true = still-no-news s.changes.gone rows s.changes.variables
    go false = no-news rows (after false)

-- the value of a variable that was looked up
found : List Basic → Option Variable → Float
found rows o = elim o [ none ↦ zero64 | some v ↦ value_of v rows ]

-- what keeps number and symbol keeps the value
kept-value : (f : Variable → Variable) → ((v : Variable) → (f v).number ≡ v.number) → ((v : Variable) → (f v).symbol ≡ v.symbol)
    → (n : ℕ) (rows : List Basic) (vs : List Variable) → found rows (find_variable n (map f vs)) ≡ found rows (find_variable n vs)
unfolding found find_variable value_of
kept-value f same_number same-symbol n rows [] = refl
kept-value f same_number same-symbol n rows (v ∷ vs) =
    subst (λ (k : ℕ). found rows (elim (eqb n k) [ true ↦ some (f v) | false ↦ find_variable n (map f vs) ]) ≡ found rows (find_variable n (v ∷ vs))) (sym (same_number v))
    (go (eqb n v.number) (kept-value f same_number same-symbol n rows vs))
  where
    go : (b : Bool) → found rows (find_variable n (map f vs)) ≡ found rows (find_variable n vs)
        → found rows (elim b [ true ↦ some (f v) | false ↦ find_variable n (map f vs) ]) ≡ found rows (elim b [ true ↦ some v | false ↦ find_variable n vs ])
    go true on = ap (λ (x : Symbol). value_of (record { number = v.number; symbol = x; old = v.old; uses = v.uses; changed = v.changed }) rows) (same-symbol v)
    go false on = on

-- so no value changes by a fetch
pub fetch-keeps-values : (n : ℕ) (s : State) → value n (fetch_changes s).state ≡ value n s
unfolding value fetch_changes found reported with_flag clear_changed
fetch-keeps-values n s = kept-value (reported s.changes.gone rows) (λ v. refl) (λ v. refl) n rows _ ∙ go s.changes.should_clear
  where
    rows : List Basic
    rows = s.tableau.rows

    go : (b : Bool) → found rows (find_variable n (cond b (clear_changed s.changes.variables) s.changes.variables)) ≡ found rows (find_variable n s.changes.variables)
    go true = kept-value (with_flag false) (λ v. refl) (λ v. refl) n rows s.changes.variables
    go false = refl
