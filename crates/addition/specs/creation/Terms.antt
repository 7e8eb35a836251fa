-- "its use count grows by one, its row (if basic) or its symbol is inserted": over the sparse tables, as the steps' `insert_term`.
-- Assumes nothing.
use Rattle.std.specs.Prelude.{ℕ, ◌+◌, ◌≤◌, ◌<◌, ◌≡◌, Bool, true, false, List, [], map, eqb, Float, length, get_or}
use Rattle.std.proofs.Math.Path.{refl, sym, ap}
use Rattle.std.proofs.Common.{◌∙◌, arith, eqb-true}
use Rattle.std.proofs.Math.Option.{Option, none, some}
use Rattle.std.specs.Float.{nan}
use Rattle.std.proofs.lemmas.Bool.{eqb-false}
use Rattle.steps.specs.Number.{cell_bound, near_zero, Mark}
use Rattle.steps.specs.Row.{Row, insert_row}
use Rattle.steps.specs.State.{Term}
use Rattle.steps.specs.Work.{find_row, with_changes}
use Rattle.steps.specs.Changes.{find_variable}
use Rattle.steps.specs.CreateRow.{Building, written, insert_into, with_variables, use_once, count_use, insert_variable, insert_term}
use Rattle.rows.specs.choose.Choose.{Found}
use Rattle.std.specs.Prelude.{Some, None}
use Rattle.rows.specs.choose.Choose.{Within, on_found}
use Rattle.rows.specs.declared.number.Wrote.{Wrote}
use Rattle.rows.specs.Marks.{mark_of, join}
use Rattle.rows.specs.Table.{insert_symbol_at, insert_symbol_mark, insert_row_in, insert_row_mark}
use Rattle.rows.specs.Reading as dense
use Rattle.layout.specs.cells.Names.{row_room}
use Rattle.sparse.specs.Places.{most_variables, next_id_at, symbol_count_at, row_count_at, variable_count_at, variable_numbers_at, variable_uses_at, variable_places_at}
use Rattle.sparse.specs.Sparse.{Sparse, symbol_count, variable_count, symbol_at, variable_of, basic_of, basics_of, read}
use Rattle.variables.specs.Variables.{found_in, used_words}
use Rattle.variables.specs.Found.{found_at}
use Rattle.variables.specs.Uses.{unused, used_in, used-word, used-here, use-makes}
use Rattle.waist.specs.Working.{cutoff_of, sparse, work_of}
use Rattle.waist.specs.Standing.{Standing, Makes}
use Rattle.addition.specs.creation.Building.{building_of, Builds, builds-mark, joined_is, symbol-builds, row-builds}
use Rattle.addition.specs.creation.Steps.{Used, Steps, found-same, changes-of, find-of}
use Rattle.addition.specs.creation.Known.{known_by, Knows}

-- ---- a symbol's row if it is basic, and else the symbol

rows_of : (a : Mark) (t : Sparse) (row : List Float) → (building_of a t row).work.tableau.rows ≡ basics_of t
unfolding building_of work_of read
rows_of a t row = refl

module _ (a : Mark) (t : Sparse) (p : ℕ) (row : List Float) (k : Float) (f : Found) (asked : find_row (symbol_at t p).id (basics_of t) ≡ on_found (λ i. some (basic_of t i).row) none f) where
  abbrev b : Building
  b = building_of a t row

  found-row : {o : Option Row} → on_found (λ i. some (basic_of t i).row) none f ≡ o → find_row (symbol_at t p).id b.work.tableau.rows ≡ o
  found-row e = rw (rows_of a t row) (asked ∙ e)

  pub variable-symbol : {c : Mark} {row₁ : List Float} → f ≡ None → Builds a c (insert_into (symbol_at t p).id k) t t row row₁ → Builds a c (insert_variable (symbol_at t p) k) t t row row₁
  unfolding insert_variable
  variable-symbol e h =
      let q : find_row (symbol_at t p).id b.work.tableau.rows ≡ none = found-row (rw e refl) in
      record { reads = h.reads ∙ rw (q, insert_variable) refl; stands = h.stands }

  pub variable-row : {c : Mark} {row₁ : List Float} (i : ℕ) → f ≡ Some i → Builds a c (λ b. written (insert_row b.work.tableau.cutoff (basic_of t i).row k b.row) b.work) t t row row₁ → Builds a c (insert_variable (symbol_at t p) k) t t row row₁
  unfolding insert_variable
  variable-row i e h =
      let q : find_row (symbol_at t p).id b.work.tableau.rows ≡ some (basic_of t i).row = found-row (rw e refl) in
      record { reads = h.reads ∙ rw (q, insert_variable) refl; stands = h.stands }

-- the code's calls put together
pub symbol-inserted : (past w : Wrote) {r : Wrote} (t : Sparse) (row : List Float) (p q : ℕ) (x : Float) {row₁ : List Float} → Standing false (mark_of past) t → length row ≡ row_room → 1 ≤ p → p ≤ symbol_count t → q ≡ p
    → mark_of w ≡ insert_symbol_mark (cutoff_of t) q x cell_bound row → row₁ ≡ insert_symbol_at (cutoff_of t) q x row → r ≡ join past w → Builds (mark_of past) (mark_of r) (insert_into (symbol_at t p).id x) t t row row₁
symbol-inserted past w t row p q x s wide low high e em er ej =
    let em' : mark_of w ≡ insert_symbol_mark (cutoff_of t) p x cell_bound row = rw e at em in
    rw (er, e) (builds-mark (joined_is past w ej em') (symbol-builds (mark_of past) t s row wide p x low high))

pub row-inserted : (past w : Wrote) {r : Wrote} (t : Sparse) (row other : List Float) (i : ℕ) (x : Float) {row₁ : List Float} → Standing false (mark_of past) t → length row ≡ row_room → length other ≡ row_room → dense.row_of (symbol_count t) other ≡ (basic_of t i).row
    → mark_of w ≡ insert_row_mark (cutoff_of t) x (symbol_count t) other row → row₁ ≡ insert_row_in (cutoff_of t) x (symbol_count t) other row → r ≡ join past w
    → Builds (mark_of past) (mark_of r) (λ b. written (insert_row b.work.tableau.cutoff (basic_of t i).row x b.row) b.work) t t row row₁
row-inserted past w t row other i x s wide wide₁ e em er ej = rw er (builds-mark (joined_is past w ej em) (row-builds (mark_of past) t s row wide i other wide₁ e x))

-- ---- a use of the variable more, and its row or its symbol in the row

unfoldable pub used_by : ℕ → Float → Building → Building
used_by n k b = let used : Building = count_use n b in elim (find_variable n used.work.changes.variables) [ none ↦ used | some v ↦ insert_variable v.symbol k used ]

module _ (n : ℕ) (k : Float) (a : Mark) (t : Sparse) (s : Standing false a t) (row : List Float) where
  abbrev begun : Building
  begun = building_of a t row

  -- no variable has the number
  pub used-none : found_in n t.words ≡ None → Builds a a (used_by n k) t t row row
  unfolding used_by
  used-none e =
      let same : count_use n begun ≡ begun = unchanged e in
      let f : find_variable n begun.work.changes.variables ≡ none = find-of a t row n ∙ rw e refl in
      record { reads = sym (ap (λ (x : Building). elim (find_variable n x.work.changes.variables) [ none ↦ x | some v ↦ insert_variable v.symbol k x ]) same ∙ rw f refl); stands = s }
    where
      unchanged : found_in n t.words ≡ None → count_use n begun ≡ begun
      unchanged e = unfold count_use with_variables with_changes in rw (changes-of a t row, unused t n e) refl

  module _ (v : ℕ) (found : found_in n t.words ≡ Some v) where
    abbrev u : Sparse
    u = used_in v t

    abbrev few : variable_count t ≤ most_variables
    few = s.sound.named.few-variables

    makes : Makes false false a a (λ w. with_variables (map (use_once n) w.changes.variables) w) t u
    makes = use-makes n v t s.sound.named.long few s.owners found false s.sound a s

    pub use-stands : Standing false a u
    use-stands = makes.stands

    word : (q : ℕ) → (q ≡ variable_uses_at + v → ⊥) → get_or u.words q 0 ≡ get_or t.words q 0
    word q d = used-word n v t s.sound.named.long few s.owners found q d

    symbols : symbol_count u ≡ symbol_count t
    symbols = word symbol_count_at (λ e. omega (arith, e))

    used-read : building_of a u row ≡ count_use n begun
    unfolding building_of count_use
    used-read = rw (makes.reads 0, symbols) refl

    found-again : found_in n u.words ≡ Some v
    found-again = found-same n t.words u.words (word variable_count_at (λ e. omega (arith, e))) (λ j h. word (variable_numbers_at + j) (λ e. omega (arith, e, h, few))) ∙ found

    symbol-of : (variable_of u v).symbol ≡ symbol_at u (get_or t.bytes (variable_places_at + v) 0)
    unfolding variable_of
    symbol-of = refl

    -- h inserts the variable's symbol in the tables with the use counted
    pub used-found : {c : Mark} {row₁ : List Float} → Builds a c (insert_variable (symbol_at u (get_or t.bytes (variable_places_at + v) 0)) k) u u row row₁ → Builds a c (used_by n k) t u row row₁
    unfolding used_by
    used-found {c} {row₁} h =
        let f : find_variable n (building_of a u row).work.changes.variables ≡ some (variable_of u v) = find-of a u row n ∙ rw found-again refl in
        let e : building_of c u row₁ ≡ insert_variable (variable_of u v).symbol k (building_of a u row) = h.reads ∙ rw symbol-of refl in
        let d : elim (find_variable n (building_of a u row).work.changes.variables) [ none ↦ building_of a u row | some v ↦ insert_variable v.symbol k (building_of a u row) ] ≡ insert_variable (variable_of u v).symbol k (building_of a u row) = rw f refl in
        record {
          reads = e ∙ sym d ∙ ap (λ (x : Building). elim (find_variable n x.work.changes.variables) [ none ↦ x | some v ↦ insert_variable v.symbol k x ]) used-read;
          stands = h.stands;
        }

    pub place-live : (1 ≤ get_or t.bytes (variable_places_at + v) 0) × (get_or t.bytes (variable_places_at + v) 0 ≤ symbol_count u)
    place-live = let l = s.sound.named.variables v (found_at n t.words found).0 in let e = symbols in (l.0, omega (arith, l, e))

    pub use-steps : Steps 0 1 t u
    use-steps =
        let i = word next_id_at (λ e. omega (arith, e)) in
        let c = word variable_count_at (λ e. omega (arith, e)) in
        let d = symbols in
        record { ids = omega (arith, i); grown = omega (arith, c, d); rows = word row_count_at (λ e. omega (arith, e)); uses = λ b x q h. each b x q (rw c at h) (eqb q v) refl }
      where
        each : (b : ℕ) → Used b t → (q : ℕ) → q < variable_count t → (z : Bool) → eqb q v ≡ z → get_or u.words (variable_uses_at + q) 0 ≤ b + 1
        each b x q h true e =
            let o = eqb-true q v e in
            let y = used-here n v t s.sound.named.long few s.owners found in
            let l = x v (found_at n t.words found).0 in
            rw o (omega (arith, y, l))
        each b x q h false e =
            let o = eqb-false q v e in
            let l = x q h in
            rw (word (variable_uses_at + q) (λ z. omega (arith, z, o))) (omega (arith, l))

-- the code's calls put together: ws are the words with the use counted
module _ (n v : ℕ) (a : Mark) (t : Sparse) (s : Standing false a t) (found : found_in n t.words ≡ Some v) (ws : List ℕ) (e : ws ≡ used_words v t.words) where
  abbrev place : ℕ
  place = get_or t.bytes (variable_places_at + v) 0

  abbrev counted : Sparse
  counted = sparse ws t.keys t.bytes t.reals t.values

  pub known-ready : (Standing false a counted) × ((1 ≤ place) × (place ≤ get_or ws symbol_count_at 0))
  known-ready = let l = place-live n nan a t s [] v found in rw e (use-stands n nan a t s [] v found, (l.0, l.1))

  pub known-calls : (k : Float) (row : List Float) {c : Mark} {row₁ : List Float} → Builds a c (insert_variable (symbol_at counted place) k) counted counted row row₁ → (Builds a c (used_by n k) t counted row row₁) × Steps 0 1 t counted
  known-calls k row {c} {row₁} h =
      let h' : Builds a c (insert_variable (symbol_at (used_in v t) place) k) (used_in v t) (used_in v t) row row₁ = rw e at h in
      rw e (used-found n k a t s row v found h', use-steps n k a t s row v found)

-- the place found is one of the first m
pub within-at : {m i : ℕ} {f : Found} → Within m f → f ≡ Some i → Within m (Some i)
within-at {m} b q = rw q at b

-- ---- a term

abbrev pub term_of : ℕ → Float → Term
term_of n k = record { variable = n; coefficient = k }

pub term-builds : (n : ℕ) (k : Float) (a c : Mark) (t u v : Sparse) (row row₁ row₂ : List Float) → Knows n a t u row row₁ → Builds a c (used_by n k) u v row₁ row₂ → Builds a c (insert_term (term_of n k)) t v row row₂
term-builds n k a c t u v row row₁ row₂ h g = record { reads = g.reads ∙ ap (used_by n k) h.builds.reads ∙ is (building_of a t row); stands = g.stands }
  where
    is : (b : Building) → used_by n k (known_by n b) ≡ insert_term (term_of n k) b
    is b = unfold used_by known_by insert_term in refl

-- "near-zero coefficients skipped"
unfoldable pub kept_by : Float → ℕ → Float → Building → Building
kept_by cutoff n k b = elim (near_zero cutoff k) [ true ↦ b | false ↦ insert_term (term_of n k) b ]

pub kept-skips : (cutoff : Float) (n : ℕ) (k : Float) (a : Mark) (t : Sparse) (row : List Float) → near_zero cutoff k ≡ true → Standing false a t → Builds a a (kept_by cutoff n k) t t row row
unfolding kept_by
kept-skips cutoff n k a t row e s = record { reads = rw (e, kept_by) refl; stands = s }

pub kept-inserts : (cutoff : Float) (n : ℕ) (k : Float) {a c : Mark} {t u : Sparse} {row row₁ : List Float} → near_zero cutoff k ≡ false → Builds a c (insert_term (term_of n k)) t u row row₁ → Builds a c (kept_by cutoff n k) t u row row₁
unfolding kept_by
kept-inserts cutoff n k e h = record { reads = h.reads ∙ rw (e, kept_by) refl; stands = h.stands }
