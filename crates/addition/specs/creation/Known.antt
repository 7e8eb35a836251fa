-- "the variable gets a symbol if new": over the sparse tables, as the steps' `add_variable`.
-- Assumes nothing.
use Rattle.std.specs.Prelude.{ℕ, zero, suc, ◌+◌, ◌≤◌, ◌<◌, ◌≡◌, false, List, Float, length, get_or, set}
use Rattle.std.proofs.Math.Path.{refl, ap}
use Rattle.std.proofs.Common.{sym, ◌∙◌, not-suc-le-zero, le_of_suc-le-suc, arith}
use Rattle.std.proofs.Math.Option.{none, some}
use Rattle.steps.specs.Number.{zero64, Mark}
use Rattle.steps.specs.Symbol.{External, Symbol}
use Rattle.steps.specs.Readable.{kind_code}
use Rattle.steps.specs.Work.{new_symbol, append_symbol}
use Rattle.steps.specs.Changes.{find_variable}
use Rattle.steps.specs.CreateRow.{Building, append_to, keep_variable, with_variables, add_variable}
use Rattle.layout.specs.Layout.{kind_of}
use Rattle.std.specs.Prelude.{Some, None}
use Rattle.rows.specs.Reading as dense
use Rattle.layout.specs.cells.Names.{row_room, last_place}
use Rattle.sparse.specs.Places.{most_variables, next_id_at, variable_count_at, variable_numbers_at, variable_uses_at, kinds_at}
use Rattle.sparse.specs.Sparse.{Sparse, symbol_count, variable_count, symbol_at, variable_of}
use Rattle.variables.specs.Variables.{found_in, kept_words, kept_bytes, kept_reals}
use Rattle.variables.specs.Alone.{symbols-count, rows-count}
use Rattle.variables.specs.Came.{came-each}
use Rattle.variables.specs.Stretches.{spot-between, kept_in, kept-count, uses-came, kept-alone}
use Rattle.variables.specs.Kept.{new_variable, keep-makes}
use Rattle.waist.specs.Working.{sparse, work_of}
use Rattle.waist.specs.Standing.{Standing, Makes}
use Rattle.waist.specs.Growing.{next_id, Grown}
use Rattle.addition.specs.creation.Building.{building_of, Builds}
use Rattle.addition.specs.creation.Growth.{grows, new_is, append-builds}
use Rattle.addition.specs.creation.Steps.{Steps, steps-none, found-same, find-of}

kind-back : (k : ℕ) → k ≤ 3 → kind_code (kind_of k) ≡ k
unfolding kind_code kind_of
kind-back zero h = refl
kind-back (suc zero) h = refl
kind-back (suc (suc zero)) h = refl
kind-back (suc (suc (suc zero))) h = refl
kind-back (suc (suc (suc (suc k)))) h = absurd (not-suc-le-zero (le_of_suc-le-suc (le_of_suc-le-suc (le_of_suc-le-suc h))))

kind-zero : (k : ℕ) → k ≤ 3 → kind_of k ≡ External → k ≡ 0
unfolding kind_code
kind-zero k h e = sym (kind-back k h) ∙ ap kind_code e

module _ (n : ℕ) (a : Mark) (t u : Sparse) (s : Standing false a t) (fit : symbol_count t < last_place) (room : variable_count t < most_variables) (none_yet : found_in n t.words ≡ None)
    (g : Grown 0 t u) (m : Makes false false a a (λ w. append_symbol (new_symbol (kind_of 0) w) w) t u) (row : List Float) (wide : length row ≡ row_room) where
  abbrev p : ℕ
  p = 1 + symbol_count t

  abbrev v : Sparse
  v = kept_in n p u

  abbrev row₁ : List Float
  row₁ = set row p zero64

  abbrev b : Building
  b = building_of a t row

  word : (q : ℕ) → variable_numbers_at ≤ q → get_or u.words q 0 ≡ get_or t.words q 0
  word q h = g.words q (λ e. omega (arith, e, h)) (λ e. omega (arith, e, h)) (λ e. omega (arith, e, h, fit))

  count : variable_count u ≡ variable_count t
  count = g.words variable_count_at (λ e. omega (arith, e)) (λ e. omega (arith, e)) (λ e. omega (arith, e))

  none-now : found_in n u.words ≡ None
  none-now = found-same n t.words u.words count (λ j h. word (variable_numbers_at + j) (omega arith)) ∙ none_yet

  room₁ : variable_count u < most_variables
  room₁ = rw count room

  last : p ≤ symbol_count u
  last = let e = g.symbols in omega (arith, e)

  external : get_or u.bytes (kinds_at + p) 0 ≡ 0
  unfolding symbol_at kind_of
  external = kind-zero (get_or u.bytes (kinds_at + p) 0) (m.stands.owners.kinds p (omega arith) last) (ap (λ (x : Symbol). x.kind) g.new)

  keeps : Makes false false a a (λ w. with_variables (keep_variable (new_variable n (symbol_at u p)) w.changes.variables) w) u v
  keeps = keep-makes false n p u m.stands.sound m.stands.owners room₁ (omega arith) last external g.unowned none-now a m.stands

  symbols-same : symbol_count v ≡ symbol_count u
  symbols-same = symbols-count u v (kept-alone n p u m.stands.sound.named.long m.stands.sound.named.wide m.stands.sound.long room₁)

  grown : Builds a a (λ b. append_to (new_symbol (kind_of 0) b.work) b) t u row row₁
  grown = append-builds 0 a t u s fit (grows g) m row wide

  symbol-is : symbol_at u p ≡ new_symbol (kind_of 0) b.work
  symbol-is = g.new ∙ sym (new_is 0 a t row)

  work-is : work_of false a 0 u ≡ (append_to (new_symbol (kind_of 0) b.work) b).work
  unfolding building_of
  work-is = let r : building_of a u row₁ ≡ append_to (new_symbol (kind_of 0) b.work) b = grown.reads in ap (λ (y : Building). y.work) r

  row_is : dense.row_of (symbol_count u) row₁ ≡ (append_to (new_symbol (kind_of 0) b.work) b).row
  unfolding building_of
  row_is = let r : building_of a u row₁ ≡ append_to (new_symbol (kind_of 0) b.work) b = grown.reads in ap (λ (y : Building). y.row) r

  reads : building_of a v row₁ ≡ add_variable n b
  unfolding building_of add_variable kind_of
  reads = rw (keeps.reads 0, symbols-same, row_is, work-is, symbol-is) refl

  pub new-builds : Builds a a (add_variable n) t v row row₁
  new-builds = record { reads = reads; stands = keeps.stands }

  pub new-steps : Steps 1 0 t v
  new-steps =
      let so = m.stands.sound in
      let alone = kept-alone n p u so.named.long so.named.wide so.long room₁ in
      let c : variable_count v ≡ variable_count u + 1 = kept-count n p u so.named.long so.named.wide so.long room₁ in
      let d = count in
      let e = g.symbols in
      let f = symbols-same in
      let i : next_id v ≡ next_id u = alone.words next_id_at (omega arith) (λ z. omega (arith, z)) (λ z. omega (arith, z)) in
      let j = g.next in
      record {
        ids = omega (arith, i, j);
        grown = omega (arith, c, d, e, f);
        rows = rows-count u v alone ∙ g.rows;
        uses = λ x y w h.
            came-each (spot-between n u.words).low (uses-came n p u so.named.long so.named.wide so.long room₁) (λ z. z ≤ x + 0) (omega arith)
            (λ q l. rw (word (variable_uses_at + q) (omega arith)) (let r = y q (rw d at l) in omega (arith, r))) w (rw c at h);
      }

-- the variable is known, or made
unfoldable pub known_by : ℕ → Building → Building
known_by n b = elim (find_variable n b.work.changes.variables) [ none ↦ add_variable n b | some v ↦ b ]

pub record Knows (n : ℕ) (a : Mark) (t u : Sparse) (row row₁ : List Float) : Type 0 where
  pub builds : Builds a a (known_by n) t u row row₁
  pub steps : Steps 1 0 t u

pub known-here : (n : ℕ) (a : Mark) (t : Sparse) (row : List Float) (i : ℕ) → found_in n t.words ≡ Some i → Standing false a t → Knows n a t t row row
unfolding known_by
known-here n a t row i e s =
    let f : find_variable n (building_of a t row).work.changes.variables ≡ some (variable_of t i) = find-of a t row n ∙ rw e refl in
    record { builds = record { reads = rw (f, known_by) refl; stands = s }; steps = steps-none 1 0 t }

pub known-new : (n : ℕ) (a : Mark) (t u : Sparse) (row row₁ : List Float) → found_in n t.words ≡ None → Builds a a (add_variable n) t u row row₁ → Steps 1 0 t u → Knows n a t u row row₁
unfolding known_by
known-new n a t u row row₁ e h s =
    let f : find_variable n (building_of a t row).work.changes.variables ≡ none = find-of a t row n ∙ rw e refl in
    record { builds = record { reads = h.reads ∙ rw (f, known_by) refl; stands = h.stands }; steps = s }

-- the code's calls put together
pub new-calls : (n : ℕ) (a : Mark) (t u : Sparse) (row : List Float) (p q : ℕ) (ws bs : List ℕ) (rs : List Float) → p ≡ 1 + symbol_count t → q ≡ p → Standing false a t → symbol_count t < last_place → variable_count t < most_variables → found_in n t.words ≡ None
    → Grown 0 t u → ((a : Mark) → Standing false a t → Makes false false a a (λ w. append_symbol (new_symbol (kind_of 0) w) w) t u) → length row ≡ row_room
    → ws ≡ kept_words n u.words → bs ≡ kept_bytes n p u.words u.bytes → rs ≡ kept_reals n u.words u.reals
    → (Builds a a (add_variable n) t (sparse ws u.keys bs rs u.values) row (set row q zero64)) × Steps 1 0 t (sparse ws u.keys bs rs u.values)
new-calls n a t u row p q ws bs rs e f s fit room none_yet g m wide ew eb er =
    rw (f, ew, eb, er, e) (new-builds n a t u s fit room none_yet g (m a s) row wide, new-steps n a t u s fit room none_yet g (m a s) row wide)
