-- A state that differs in its variables' old values and flags and the toggle, and in which none wait among the gone, written into the tables that it was read from.
-- Assumes nothing.
use Rattle.std.specs.Prelude.{ℕ, zero, suc, ◌+◌, ◌≤◌, ◌≡◌, Bool, Float, length, get_or}
use Rattle.std.proofs.Math.Path.{refl, sym, ap}
use Rattle.std.proofs.Common.{◌∙◌, length-set}
use mathlib.Core.List.{List, [], ◌∷◌, map}
use native.Mathlib.Omega.{arith}
use Rattle.std.proofs.Math.Dec.{eqb}
use Rattle.std.proofs.Math.ListN.{set, length-map}
use Rattle.laws.specs.Lists.{length-tab}
use Rattle.steps.specs.Symbol.{Symbol}
use Rattle.steps.specs.State.{Term, Basic, Variable, Constraint, Edit, State}
use Rattle.steps.specs.Readable.{kind_code}
use Rattle.layout.specs.Layout.{bit_of, comparison_code, over}
use Rattle.layout.specs.Laying.{laid_nil}
use Rattle.layout.specs.Relaid.{put-set}
use Rattle.layout.proofs.Copied.{length-list_of}
use Rattle.layout.specs.cells.Names.{last_place}
use Rattle.layout.specs.cells.Seek.{first-within}
use Rattle.sparse.specs.Places.{most_variables, most_constraints, next_id_at, should_clear_at, gone_count_at, ids_at, variable_numbers_at, variable_uses_at, constraint_numbers_at, constraint_groups_at, gone_numbers_at, kinds_at, row_places_at, variable_places_at, changed_at, constraint_markers_at, constraint_others_at, term_counts_at, edit_variables_at, edit_markers_at, edit_others_at, terms_at, relations_at, constants_at, old_values_at, objective_at, cutoff_at, constraint_strengths_at, edit_strengths_at, suggestions_at, coefficients_at, constraint_constants_at}
use Rattle.sparse.specs.Sparse.{Sparse, symbols_of, read}
use Rattle.sparse.specs.Stretches.{Stretch, from, lay}
use Rattle.sparse.specs.Write.{no_variable, place_of, other_place, index_of, number_place, all_terms, laid_of, heading_of, words_of, bytes_of, reals_of, write}
use Rattle.sparse.specs.Form.{Form}
use Rattle.sparse.proofs.Written.{write_read}
use Rattle.fetches.specs.Anew.{Above, Below, lay-anew, lay-under, over-there}

map_same : {A B : Type 0} (g h : A → B) → ((x : A) → g x ≡ h x) → (l : List A) → map g l ≡ map h l
map_same g h q [] = refl
map_same g h q (x ∷ l) = rw (q x, map_same g h q l) refl

-- what f leaves of each element, it leaves of the list
pub map-kept : {A B : Type 0} (f : A → A) (g : A → B) → ((x : A) → g (f x) ≡ g x) → (l : List A) → map g (map f l) ≡ map g l
map-kept f g q [] = refl
map-kept f g q (x ∷ l) = rw (q x, map-kept f g q l) refl

at-kept : {A B : Type 0} (f : A → A) (g : A → B) (d : A) → ((x : A) → g (f x) ≡ g x) → (l : List A) (j : ℕ) → g (get_or (map f l) j d) ≡ g (get_or l j d)
at-kept f g d q [] j = refl
at-kept f g d q (x ∷ l) zero = q x
at-kept f g d q (x ∷ l) (suc j) = at-kept f g d q l j

abbrev pub flag_bit : Variable → ℕ
flag_bit v = bit_of v.changed

module _ (t : Sparse) (form : Form t) where
  abbrev s : State
  s = read t

  abbrev xs : List Symbol
  xs = s.tableau.symbols

  abbrev vs : List Variable
  vs = s.changes.variables

  abbrev size : ℕ
  size = (laid_of s.tableau t).size

  pub few : length vs ≤ most_variables
  unfolding read
  few = let c = form.counts.variables in rw (length-list_of _ _) c

  few-constraints : length s.constraints ≤ most_constraints
  unfolding read
  few-constraints = let c = form.counts.constraints in rw (length-list_of _ _) c

  few-symbols : length xs ≤ last_place
  unfolding read symbols_of
  few-symbols = let c = form.counts.symbols in rw (length-tab _ _ _) c

  written : write s t ≡ t
  written = write_read t form

  -- ---- the lists after the one that is laid anew, and those before it

  abbrev words_above : List (Stretch ℕ)
  words_above =
      from constraint_groups_at (map (λ (c : Constraint). c.group) s.constraints)
      ∷ from constraint_numbers_at (map (λ (c : Constraint). c.number) s.constraints)
      ∷ from variable_uses_at (map (λ (v : Variable). v.uses) vs)
      ∷ from variable_numbers_at (map (λ (v : Variable). v.number) vs)
      ∷ from (ids_at + 1) (map (λ (x : Symbol). x.id) xs)
      ∷ []

  -- the gone ones stand behind all others
  abbrev gone_from : Stretch ℕ
  gone_from = from gone_numbers_at s.changes.gone

  above-heading : Above (next_id_at + length (heading_of s size)) (gone_from ∷ words_above)
  unfolding heading_of
  above-heading = (omega arith, (omega arith, (omega arith, (omega arith, (omega arith, (omega arith, tt))))))

  words-written : lay (gone_from ∷ words_above) (over next_id_at (heading_of s size) (lay [] t.words)) ≡ t.words
  unfolding write words_of lay
  words-written = ap (λ (x : Sparse). x.words) written

  -- with the heading h, all that stands before the gone ones
  abbrev words_below : List ℕ → List (Stretch ℕ)
  words_below h =
      from constraint_groups_at (map (λ (c : Constraint). c.group) s.constraints)
      ∷ from constraint_numbers_at (map (λ (c : Constraint). c.number) s.constraints)
      ∷ from variable_uses_at (map (λ (v : Variable). v.uses) vs)
      ∷ from variable_numbers_at (map (λ (v : Variable). v.number) vs)
      ∷ from (ids_at + 1) (map (λ (x : Symbol). x.id) xs)
      ∷ from next_id_at h
      ∷ []

  gone-there : over gone_numbers_at s.changes.gone t.words ≡ t.words
  gone-there = over-there [] (words_below (heading_of s size)) gone_numbers_at s.changes.gone t.words tt (unfold lay in words-written)

  gone-behind : (h : List ℕ) → length h ≡ length (heading_of s size) → Below gone_numbers_at (words_below h)
  unfolding heading_of
  gone-behind h e =
      let groups = length-map s.constraints (λ (c : Constraint). c.group) in
      let numbers = length-map s.constraints (λ (c : Constraint). c.number) in
      let uses = length-map vs (λ (v : Variable). v.uses) in
      let owners = length-map vs (λ (v : Variable). v.number) in
      let ids = length-map xs (λ (x : Symbol). x.id) in
      (omega (arith, groups, few-constraints), (omega (arith, numbers, few-constraints), (omega (arith, uses, few), (omega (arith, owners, few), (omega (arith, ids, few-symbols), (omega (arith, e), tt))))))

  abbrev bytes_above : List (Stretch ℕ)
  bytes_above =
      from relations_at (map (λ (c : Constraint). comparison_code c.comparison) s.constraints)
      ∷ from terms_at (map (λ (t : Term). number_place xs vs t.variable) (all_terms s))
      ∷ from edit_others_at (map (λ (e : Edit). other_place xs e.tag.other) s.edits)
      ∷ from edit_markers_at (map (λ (e : Edit). place_of xs e.tag.marker) s.edits)
      ∷ from edit_variables_at (map (λ (e : Edit). number_place xs vs e.variable) s.edits)
      ∷ from term_counts_at (map (λ (c : Constraint). length c.terms) s.constraints)
      ∷ from constraint_others_at (map (λ (c : Constraint). other_place xs c.tag.other) s.constraints)
      ∷ from constraint_markers_at (map (λ (c : Constraint). place_of xs c.tag.marker) s.constraints)
      ∷ []

  abbrev bytes_below : List (Stretch ℕ)
  bytes_below =
      from variable_places_at (map (λ (v : Variable). place_of xs v.symbol) vs)
      ∷ from (row_places_at + 1) (map (λ (r : Basic). place_of xs r.symbol) s.tableau.rows)
      ∷ from (kinds_at + 1) (map (λ (x : Symbol). kind_code x.kind) xs)
      ∷ []

  above-flags : Above (changed_at + length (map flag_bit vs)) bytes_above
  above-flags =
      let l : changed_at + length (map flag_bit vs) ≤ changed_at + most_variables = omega (arith, length-map vs flag_bit, few) in
      (omega (arith, l), (omega (arith, l), (omega (arith, l), (omega (arith, l), (omega (arith, l), (omega (arith, l), (omega (arith, l), (omega (arith, l), tt))))))))

  bytes-written : lay bytes_above (over changed_at (map flag_bit vs) (lay bytes_below t.bytes)) ≡ t.bytes
  unfolding write bytes_of lay
  bytes-written = ap (λ (x : Sparse). x.bytes) written

  pub flags-there : over changed_at (map flag_bit vs) t.bytes ≡ t.bytes
  flags-there = over-there bytes_above bytes_below changed_at (map flag_bit vs) t.bytes above-flags bytes-written

  abbrev reals_above : List (Stretch Float)
  reals_above =
      from constraint_constants_at (map (λ (c : Constraint). c.constant) s.constraints)
      ∷ from coefficients_at (map (λ (t : Term). t.coefficient) (all_terms s))
      ∷ from suggestions_at (map (λ (e : Edit). e.suggestion) s.edits)
      ∷ from edit_strengths_at (map (λ (e : Edit). e.strength) s.edits)
      ∷ from constraint_strengths_at (map (λ (c : Constraint). c.strength) s.constraints)
      ∷ from cutoff_at (s.tableau.cutoff ∷ [])
      ∷ from (objective_at + 1) s.tableau.objective
      ∷ []

  abbrev reals_below : List (Stretch Float)
  reals_below = from (constants_at + 1) (map (λ (r : Basic). r.row.constant) s.tableau.rows) ∷ []

  abbrev old : Variable → Float
  old v = v.old

  above-olds : Above (old_values_at + length (map old vs)) reals_above
  above-olds =
      let l : old_values_at + length (map old vs) ≤ old_values_at + most_variables = omega (arith, length-map vs old, few) in
      (omega (arith, l), (omega (arith, l), (omega (arith, l), (omega (arith, l), (omega (arith, l), (omega (arith, l), (omega (arith, l), tt)))))))

  reals-written : lay reals_above (over old_values_at (map old vs) (lay reals_below t.reals)) ≡ t.reals
  unfolding write reals_of lay
  reals-written = ap (λ (x : Sparse). x.reals) written

  pub olds-there : over old_values_at (map (λ (v : Variable). v.old) vs) t.reals ≡ t.reals
  olds-there = over-there reals_above reals_below old_values_at (map old vs) t.reals above-olds reals-written

  -- ---- each variable as f leaves it: its number, its symbol and its uses stay

  module _ (f : Variable → Variable) (clear : Bool) (numbers : (v : Variable) → (f v).number ≡ v.number) (symbols : (v : Variable) → (f v).symbol ≡ v.symbol) (uses : (v : Variable) → (f v).uses ≡ v.uses) where
    abbrev us : List Variable
    us = map f vs

    abbrev after : State
    after = record { tableau = s.tableau; changes = record { variables = us; gone = []; should_clear = clear }; constraints = s.constraints; edits = s.edits; whole = s.whole }

    many : length us ≡ length vs
    many = length-map vs f

    index_kept : (n : ℕ) → index_of us n ≡ index_of vs n
    unfolding index_of
    index_kept n =
        rw many (first-within (λ j. eqb n (get_or us j no_variable).number) (λ j. eqb n (get_or vs j no_variable).number) (λ j. j) (λ j. j) (length vs) 0 0 (length vs) (length vs) (omega arith) (omega arith) (omega arith)
        (λ j a b. ap (eqb n) (at-kept f (λ (v : Variable). v.number) no_variable numbers vs j)) (λ j a b. refl) (λ j a b. absurd (omega (arith, b))) λ j a b. absurd (omega (arith, a, b)))

    place_kept : (n : ℕ) → number_place xs us n ≡ number_place xs vs n
    unfolding number_place
    place_kept n = rw (index_kept n) (ap (place_of xs) (at-kept f (λ (v : Variable). v.symbol) no_variable symbols vs (index_of vs n)))

    abbrev heading : List ℕ
    heading = set (set (heading_of s size) should_clear_at (bit_of clear)) gone_count_at 0

    heading-after : heading_of after size ≡ heading
    unfolding heading_of
    heading-after = rw many refl

    heading-long : length heading ≡ length (heading_of s size)
    heading-long = length-set (set (heading_of s size) should_clear_at (bit_of clear)) gone_count_at 0 ∙ length-set (heading_of s size) should_clear_at (bit_of clear)

    abbrev changed : List ℕ → List ℕ
    changed w = set (set w should_clear_at (bit_of clear)) gone_count_at 0

    words-after : lay (words_of after size) t.words ≡ set (set t.words should_clear_at (bit_of clear)) gone_count_at 0
    words-after = parts ∙ behind ∙ lay-anew (gone_from ∷ words_above) [] next_id_at (heading_of s size) heading t.words above-heading heading-long words-written ∙ put ∙ ap changed (over-there (gone_from ∷ words_above) [] next_id_at (heading_of s size) t.words above-heading words-written)
      where
        parts : lay (words_of after size) t.words ≡ lay (words_below heading) t.words
        parts = unfold words_of lay over in rw (map-kept f (λ (v : Variable). v.uses) uses vs, map-kept f (λ (v : Variable). v.number) numbers vs, heading-after) (laid_nil (λ x _. x) gone_numbers_at _)

        behind : lay (words_below heading) t.words ≡ lay (gone_from ∷ words_above) (over next_id_at heading (lay [] t.words))
        behind = unfold lay in sym (lay-under (words_below heading) gone_numbers_at s.changes.gone t.words (gone-behind heading heading-long) ∙ ap (lay (words_below heading)) gone-there)

        put : over next_id_at heading t.words ≡ changed (over next_id_at (heading_of s size) t.words)
        put =
            unfold over in
            put-set (set (heading_of s size) should_clear_at (bit_of clear)) t.words gone_count_at 0 (rw (length-set (heading_of s size) should_clear_at (bit_of clear)) (unfold heading_of in omega arith))
            ∙ ap (λ (w : List ℕ). set w gone_count_at 0) (put-set (heading_of s size) t.words should_clear_at (bit_of clear) (unfold heading_of in omega arith))

    bytes_after : lay (bytes_of after) t.bytes ≡ over changed_at (map flag_bit us) t.bytes
    bytes_after = parts ∙ lay-anew bytes_above bytes_below changed_at (map flag_bit vs) (map flag_bit us) t.bytes above-flags (length-map us flag_bit ∙ many ∙ sym (length-map vs flag_bit)) bytes-written
      where
        parts : lay (bytes_of after) t.bytes ≡ lay bytes_above (over changed_at (map flag_bit us) (lay bytes_below t.bytes))
        parts =
            unfold bytes_of lay in
            rw (
              map_same (λ (t : Term). number_place xs us t.variable) (λ (t : Term). number_place xs vs t.variable) (λ t. place_kept t.variable) (all_terms s),
              map_same (λ (e : Edit). number_place xs us e.variable) (λ (e : Edit). number_place xs vs e.variable) (λ e. place_kept e.variable) s.edits,
              map-kept f (λ (v : Variable). place_of xs v.symbol) (λ v. ap (place_of xs) (symbols v)) vs,
            ) refl

    reals-after : lay (reals_of after) t.reals ≡ over old_values_at (map old us) t.reals
    reals-after = parts ∙ lay-anew reals_above reals_below old_values_at (map old vs) (map old us) t.reals above-olds (length-map us old ∙ many ∙ sym (length-map vs old)) reals-written
      where
        parts : lay (reals_of after) t.reals ≡ lay reals_above (over old_values_at (map old us) (lay reals_below t.reals))
        parts = unfold reals_of lay in refl

    pub others-written : write after t ≡ record { words = set (set t.words should_clear_at (bit_of clear)) gone_count_at 0; keys = t.keys; bytes = over changed_at (map flag_bit us) t.bytes; reals = over old_values_at (map (λ (v : Variable). v.old) us) t.reals; values = t.values }
    unfolding write
    others-written = rw (words-after, bytes_after, reals-after, ap (λ (x : Sparse). x.keys) written, ap (λ (x : Sparse). x.values) written) refl
