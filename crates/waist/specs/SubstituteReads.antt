-- The substitution over the sparse tables reads as the steps' `substitute`.
-- Assumes nothing.
use Prim.Native.Nat.{ℕ, suc, ◌+◌, ◌*◌, ◌%◌, ◌≤◌, ◌<◌}
use Rattle.std.proofs.Math.Path.{◌≡◌, refl, sym, ap}
use Rattle.std.proofs.Common.{◌∙◌, arith}
use Rattle.std.specs.Prelude.{Bool, Float, length, set}
use Rattle.std.proofs.Math.Bool.{true, false, cond}
use mathlib.Core.List.{List}
use Rattle.std.proofs.Math.Option.{none, some}
use Rattle.std.proofs.Math.Dec.{eqb}
use Rattle.std.specs.Float.{nan}
use Rattle.std.proofs.Math.ListN.{get_or, length-set}
use Rattle.std.proofs.Math.Seq.{get_or-set_same, get_or-set_other}
use Rattle.laws.specs.Loops.{run}
use Rattle.laws.specs.Lists.{tab, list_of, tab-ext, map-tab}
use Rattle.steps.specs.Number.{zero64, objective_bound, Mark, all_whole, worse}
use Rattle.steps.specs.Symbol.{Symbol}
use Rattle.steps.specs.Row.{Row, Cell, cell_values, cell_marks, Written}
use Rattle.steps.specs.State.{Basic, Variable}
use Rattle.steps.specs.Work.{Work}
use Rattle.steps.specs.Changes.{all_changed}
use Rattle.steps.specs.Substitute.{substitute_in_row, substitute_in_cells, Substituted, substitute_in_rows, rows_of, marks_of, noted_of, substitute}
use Rattle.rows.specs.Place.{PlaceOf}
use Rattle.rows.specs.Reading as dense
use Rattle.sparse.specs.Places.{most_rows, most_variables, next_id_at, symbol_count_at, row_count_at, cell_count_at, variable_count_at, should_clear_at, gone_count_at, ids_at, variable_numbers_at, variable_uses_at, gone_numbers_at, kinds_at, row_places_at, variable_places_at, changed_at, constants_at, old_values_at, objective_at, cutoff_at, constraint_strengths_at, reals_size}
use Rattle.sparse.specs.Sparse.{Sparse, symbol_count, row_count, cell_count, variable_count, symbol_at, variable_of, basic_of, symbols_of, basics_of, objective_of, gone_of, read}
use Rattle.sparse.specs.Widths.{symbols-read}
use Rattle.layout.specs.cells.Names.{row_span, last_place}
use Rattle.layout.specs.cells.Cells.{row_of, cell_at}
use Rattle.waist.specs.merging.Merge.{other_cell}
use Rattle.waist.specs.substituting.Lines.{Lines, lines, held_by, lines_in}
use Rattle.waist.specs.substituting.LinesRead.{line_of, step_of, step-changed, lines-held, lines-row, lines-mark, lines-beyond, lines_long}
use Rattle.waist.specs.substituting.Objective.{Aim, objective_in, objective_along, objective-cells, objective-mark, objective-beyond, objective-long}
use Rattle.waist.specs.substituting.Notes.{Noted, noted, changes, note_rows}
use Rattle.waist.specs.substituting.Gone.{gone-kept}
use Rattle.waist.specs.substituting.Named.{Named, NotesKept, named-kept}
use Rattle.waist.specs.substituting.NotesRead.{note_in, stepped_row, notes-read, notes-kept}
use Rattle.waist.specs.substituting.Held.{Held}
use Rattle.waist.specs.Working.{artificial_of, work_of, cutoff_of, work, work-parts, lines_of, lines_same, dense-cells, Sound, named-words, lines-few, rows-lines, live-place, basic-symbol}
use Rattle.waist.specs.Owning.{Inside, Kept, Low, owners-by, low_rows}
use Rattle.waist.specs.Within.{lines-within}
use Rattle.waist.specs.Stepping.{marks-from, marks-last, line-count, row-line-count, rows-tab, marks-whole, steps-whole}

module _ (art : Bool) (j : ℕ) (row : List Float) (t : Sparse) (so : Sound art t) (live : j < symbol_count t) (m : ℕ) (cols : List ℕ) (others : List Float)
    (past : (p : ℕ) → symbol_count t < p → p ≤ last_place → other_cell cols others m p ≡ zero64) (same : row_of cols others m (symbol_count t) 0 ≡ tab (λ p. get_or row p nan) 1 (symbol_count t)) where
  abbrev w : ℕ
  w = symbol_count t

  abbrev r : ℕ
  r = row_count t

  abbrev count : ℕ
  count = lines_of art t

  abbrev y : Float
  y = get_or row 0 nan

  abbrev cutoff : Float
  cutoff = cutoff_of t

  abbrev id : ℕ
  id = (symbol_at t (1 + j)).id

  abbrev symbols : List Symbol
  symbols = symbols_of t

  abbrev l₀ : Lines
  l₀ = lines t.keys t.values (cell_count t) t.reals all_whole

  abbrev l₁ : Lines
  l₁ = lines_in cutoff (1 + j) m y cols others count l₀

  abbrev o : Aim
  o = objective_in cutoff (1 + j) w row l₁.reals

  abbrev s : Noted
  s = note_rows (1 + j) y (cell_count t) t.keys t.values r (noted t.words t.bytes)

  -- what the code leaves
  unfoldable pub substituted_in : Sparse
  substituted_in = record { words = set s.words cell_count_at l₁.size; keys = l₁.keys; bytes = s.bytes; reals = o.reals; values = l₁.vals }

  unfoldable pub substituted_mark : Mark
  substituted_mark = worse l₁.mark o.mark

  abbrev u : Sparse
  u = substituted_in

  place : PlaceOf id symbols j
  place = live-place t so.named j live

  narrow : w ≤ last_place
  narrow = so.named.few-symbols

  few : count ≤ most_rows
  few = lines-few art t so

  step : ℕ → Written
  step = step_of cutoff id symbols j w m y cols others place (symbols-read t) narrow past l₀

  changed : (i : ℕ) → 1 ≤ i → i ≤ r → (step i).constant_changed ≡ changes (cell_at t.keys t.values (cell_count t) (i * row_span + (1 + j))) y
  unfolding step held_by
  changed i a b = let c = rows-lines art t in step-changed cutoff id symbols j w m y cols others place (symbols-read t) narrow past count i l₀ so.held few a (omega (arith, b, c)) so.long

  rows_short : row_places_at + r < changed_at
  rows_short = let f = so.few in omega (arith, f)

  kept : NotesKept (noted t.words t.bytes) s
  kept = notes-kept (1 + j) y (cell_count t) t.keys t.values r t so.named so.rows rows_short step changed

  pub word : (q : ℕ) → (q ≡ should_clear_at → ⊥) → (q ≡ cell_count_at → ⊥) → get_or u.words q 0 ≡ get_or t.words q 0
  unfolding substituted_in
  word q a b = get_or-set_other s.words cell_count_at q l₁.size 0 b ∙ kept.words q a

  pub size_is : cell_count u ≡ l₁.size
  unfolding substituted_in
  size_is = let n = kept.long in let l = so.named.long in get_or-set_same s.words cell_count_at l₁.size 0 (omega (arith, n, l))

  pub byte : (q : ℕ) → q < changed_at → get_or u.bytes q 0 ≡ get_or t.bytes q 0
  unfolding substituted_in
  byte q a = kept.before q a

  symbol : (p : ℕ) → p ≤ last_place → symbol_at u p ≡ symbol_at t p
  unfolding symbol_at
  symbol p h = rw (word (ids_at + p) (λ e. omega (arith, e)) (λ e. omega (arith, e)), byte (kinds_at + p) (omega (arith, h))) refl

  symbols-are : symbols_of u ≡ symbols
  unfolding symbols_of
  symbols-are = rw (word symbol_count_at (λ e. omega (arith, e)) (λ e. omega (arith, e))) (tab-ext (symbol_at u) (symbol_at t) 1 w λ p a b. symbol p (omega (arith, b, narrow)))

  -- ---- lines

  long₁ : length l₁.reals ≡ reals_size
  long₁ = lines_long cutoff id symbols j w m y cols others place (symbols-read t) narrow past count l₀ few so.held so.long

  real : (q : ℕ) → q < objective_at + 1 → get_or u.reals q nan ≡ get_or l₁.reals q nan
  unfolding substituted_in
  real q h = objective-beyond cutoff id symbols j w row l₁.reals place (symbols-read t) narrow long₁ q (λ p a b e. omega (arith, a, e, h))

  -- past the objective, the cutoff among them, the reals stay
  past-real : (q : ℕ) → cutoff_at ≤ q → get_or u.reals q nan ≡ get_or t.reals q nan
  unfolding substituted_in
  past-real q h =
      objective-beyond cutoff id symbols j w row l₁.reals place (symbols-read t) narrow long₁ q (λ p a b e. omega (arith, b, e, h, narrow))
      ∙ lines-beyond cutoff id symbols j w m y cols others place (symbols-read t) narrow past count l₀ few so.held so.long q (omega (arith, h, few))

  cutoff-is : cutoff_of u ≡ cutoff
  cutoff-is = past-real cutoff_at (omega arith)

  lined : (i : ℕ) → record { constant = get_or l₁.reals (constants_at + i) nan; cells = row_of u.keys u.values l₁.size w i } ≡ line_of w l₁ i
  unfolding line_of substituted_in
  lined i = refl

  line : (i : ℕ) → 1 ≤ i → i ≤ count → (basic_of u i).row ≡ (step i).row
  unfolding basic_of step
  line i a b =
      rw (word symbol_count_at (λ e. omega (arith, e)) (λ e. omega (arith, e)), size_is, real (constants_at + i) (omega (arith, b, few)))
      (lined i ∙ lines-row cutoff id symbols j w m y cols others place (symbols-read t) narrow past count l₀ few so.held so.long i a b)

  abbrev sub : ℕ → Substituted
  sub = stepped_row (1 + j) y (cell_count t) t.keys t.values r t so.named so.rows rows_short step changed

  basic : (i : ℕ) → 1 ≤ i → i ≤ r → basic_of u i ≡ record { symbol = (sub i).symbol; row = (sub i).written.row }
  unfolding stepped_row
  basic i a b =
      let c = rows-lines art t in
      let f = so.few in
      let l = so.rows i a b in
      basic-by (basic_of u i) (name i ∙ ap (symbol_at u) (byte (row_places_at + i) (omega (arith, b, f))) ∙ symbol (get_or t.bytes (row_places_at + i) 0) (omega (arith, l, narrow))) (line i a (omega (arith, b, c)))
    where
      basic-by : (x : Basic) {n : Symbol} {z : Row} → x.symbol ≡ n → x.row ≡ z → x ≡ record { symbol = n; row = z }
      basic-by x p q = rw (← p, ← q) refl

      name : (i : ℕ) → (basic_of u i).symbol ≡ symbol_at u (get_or u.bytes (row_places_at + i) 0)
      name i = basic-symbol u i

  rows_are : basics_of u ≡ rows_of (tab sub 1 r)
  unfolding basics_of rows_of
  rows_are =
      rw (word row_count_at (λ e. omega (arith, e)) (λ e. omega (arith, e)))
      (tab-ext (basic_of u) (λ i. record { symbol = (sub i).symbol; row = (sub i).written.row }) 1 r (λ i a b. basic i a (omega (arith, b)))
      ∙ sym (map-tab (λ (x : Substituted). record { symbol = x.symbol; row = x.written.row }) sub 1 r))

  abbrev other : Row
  other = record { constant = y; cells = row_of cols others m w 0 }

  line_before : (i : ℕ) → (basic_of t i).row ≡ line_of w l₀ i
  unfolding basic_of line_of
  line_before i = refl

  rows_step : substitute_in_rows cutoff id symbols other (basics_of t) ≡ tab sub 1 r
  unfolding basics_of stepped_row step
  rows_step = rows-tab cutoff id symbols other (basic_of t) sub (λ i. sub_by (basic-symbol t i) (ap (substitute_in_row cutoff id symbols other) (line_before i))) r 1
    where
      sub_by : {a b : Symbol} {p q : Written} → a ≡ b → p ≡ q → ◌≡◌ {A = Substituted} (record { symbol = b; written = q }) (record { symbol = a; written = p })
      sub_by e f = rw (e, f) refl

  -- ---- the artificial objective

  artificial-is : artificial_of art u ≡ cond art (some (step (1 + r)).row) none
  unfolding artificial_of
  artificial-is = by art refl
    where
      art-line : art ≡ true → count ≡ r + 1
      art-line e = rw e (line-count t)

      by : (b : Bool) → art ≡ b → artificial_of b u ≡ cond b (some (step (1 + r)).row) none
      by true e =
          let c = art-line e in
          ap (λ (x : Row). some x) (ap (λ (q : ℕ). (basic_of u (1 + q)).row) (word row_count_at (λ z. omega (arith, z)) (λ z. omega (arith, z))) ∙ line (1 + r) (omega arith) (omega (arith, c)))
      by false e = refl

  artificial-before : artificial_of art t ≡ cond art (some (line_of w l₀ (1 + r))) none
  unfolding artificial_of
  artificial-before = by art
    where
      by : (b : Bool) → artificial_of b t ≡ cond b (some (line_of w l₀ (1 + r))) none
      by true = ap (λ (x : Row). some x) (line_before (1 + r))
      by false = refl

  -- ---- the objective

  before-along : objective_along w l₁.reals ≡ objective_of t
  unfolding objective_along objective_of
  before-along = tab-ext _ (λ p. get_or t.reals (objective_at + p) nan) 1 w λ p a b. lines-beyond cutoff id symbols j w m y cols others place (symbols-read t) narrow past count l₀ few so.held so.long (objective_at + p) (omega (arith, few))

  after-along : objective_of u ≡ objective_along w o.reals
  unfolding objective_along objective_of substituted_in
  after-along = rw (word symbol_count_at (λ e. omega (arith, e)) (λ e. omega (arith, e))) refl

  abbrev aimed : List Cell
  aimed = substitute_in_cells cutoff id symbols (row_of cols others m w 0) (objective_of t)

  objective-is : objective_of u ≡ cell_values aimed
  objective-is =
      after-along ∙ objective-cells cutoff id symbols j w row l₁.reals place (symbols-read t) narrow long₁ ∙ rw (before-along, ← same) refl

  objective-marked : o.mark ≡ cell_marks objective_bound aimed
  objective-marked = objective-mark cutoff id symbols j w row l₁.reals place (symbols-read t) narrow long₁ ∙ rw (before-along, ← same) refl

  -- ---- the changed set

  noted-word : (q : ℕ) → (q ≡ cell_count_at → ⊥) → get_or u.words q 0 ≡ get_or s.words q 0
  unfolding substituted_in
  noted-word q b = get_or-set_other s.words cell_count_at q l₁.size 0 b

  old-real : (v : ℕ) → v < most_variables → get_or u.reals (old_values_at + v) nan ≡ get_or t.reals (old_values_at + v) nan
  old-real v h = real (old_values_at + v) (omega (arith, h)) ∙ lines-beyond cutoff id symbols j w m y cols others place (symbols-read t) narrow past count l₀ few so.held so.long (old_values_at + v) (omega (arith, few))

  noted-symbol : (p : ℕ) → symbol_at u p ≡ symbol_at (note_in s t) p
  unfolding symbol_at substituted_in
  noted-symbol p = rw (get_or-set_other s.words cell_count_at (ids_at + p) l₁.size 0 (λ e. omega (arith, e))) refl

  same_bytes : u.bytes ≡ s.bytes
  unfolding substituted_in
  same_bytes = refl

  noted-variable : (v : ℕ) → v < most_variables → variable_of u v ≡ variable_of (note_in s t) v
  unfolding variable_of
  noted-variable v h =
      rw (noted-word (variable_numbers_at + v) (λ e. omega (arith, e)), noted-word (variable_uses_at + v) (λ e. omega (arith, e)), old-real v h, noted-symbol (get_or u.bytes (variable_places_at + v) 0), same_bytes) refl

  gone-noted : gone_of u ≡ gone_of (note_in s t)
  gone-noted = gone-kept (note_in s t) u (noted-word gone_count_at (λ e. omega (arith, e))) (λ j. noted-word (gone_numbers_at + j) (λ e. omega (arith, e)))

  changes-noted : (read u).changes ≡ (read (note_in s t)).changes
  unfolding read list_of
  changes-noted =
      let c : variable_count u ≡ get_or s.words variable_count_at 0 = noted-word variable_count_at (λ e. omega (arith, e)) in
      let d = kept.words variable_count_at (λ e. omega (arith, e)) in
      let f = so.named.few-variables in
      rw (c, gone-noted, noted-word should_clear_at (λ e. omega (arith, e)))
      (ap (λ (x : List Variable). record { variables = x; gone = gone_of (note_in s t); should_clear = eqb (get_or s.words should_clear_at 0) 1 })
      (tab-ext (variable_of u) (variable_of (note_in s t)) 0 (get_or s.words variable_count_at 0) λ v a b. noted-variable v (omega (arith, b, d, f))))

  changes-are : (read u).changes ≡ all_changed (noted_of (tab sub 1 r)) (read t).changes
  changes-are = changes-noted ∙ notes-read (1 + j) y (cell_count t) t.keys t.values r t so.named so.rows rows_short step changed

  -- ---- the marks

  abbrev marks : Mark
  marks = marks_of (tab sub 1 r)

  rows-marked : run (λ q a. worse a (step q).mark) 1 (1 + r) all_whole ≡ marks
  unfolding stepped_row worse
  rows-marked = marks-from sub r 1 all_whole

  lines-marked : l₁.mark ≡ cond art (worse marks (step (1 + r)).mark) marks
  unfolding step
  lines-marked = lines-mark cutoff id symbols j w m y cols others place (symbols-read t) narrow past count l₀ few so.held so.long ∙ by art
    where
      by : (b : Bool) → run (λ q a. worse a (step q).mark) 1 (lines_of b t + 1) all_whole ≡ cond b (worse marks (step (1 + r)).mark) marks
      by true =
          let e : lines_of true t + 1 ≡ 1 + suc r = let c = line-count t in omega (arith, c) in
          rw e (marks-last (λ q a. worse a (step q).mark) 1 r all_whole ∙ ap (λ (x : Mark). worse x (step (1 + r)).mark) rows-marked)
      by false =
          let e : lines_of false t + 1 ≡ 1 + r = let c = row-line-count t in omega (arith, c) in
          rw e rows-marked

  marked : substituted_mark ≡ worse marks (worse (cell_marks objective_bound aimed) (cond art (step (1 + r)).mark all_whole))
  unfolding substituted_mark
  marked = rw (lines-marked, objective-marked) (marks-whole marks (step (1 + r)).mark (cell_marks objective_bound aimed) art)

  -- ---- the theorem

  loose-is : other ≡ dense.row_of w row
  unfolding dense.row_of
  loose-is = rw (same, ← dense-cells w row) refl

  abbrev result : Mark → ℕ → Work
  result a v =
      work cutoff symbols (get_or t.words next_id_at 0) (rows_of (tab sub 1 r)) (cell_values aimed) (all_changed (noted_of (tab sub 1 r)) (read t).changes) (cond art (some (step (1 + r)).row) none)
      (worse a (worse marks (worse (cell_marks objective_bound aimed) (cond art (step (1 + r)).mark all_whole)))) v

  after_is : (a : Mark) (v : ℕ) → work_of art (worse a substituted_mark) v u ≡ result a v
  after_is a v =
      work-parts art (worse a substituted_mark) v u
      ∙ rw (cutoff-is, symbols-are, word next_id_at (λ e. omega (arith, e)) (λ e. omega (arith, e)), rows_are, objective-is, changes-are, artificial-is, marked) refl

  steps-are : (a : Mark) (v : ℕ) → substitute id other (work cutoff symbols (get_or t.words next_id_at 0) (basics_of t) (objective_of t) (read t).changes (artificial_of art t) a v) ≡ result a v
  unfolding step
  steps-are a v = rw artificial-before (steps-whole cutoff id symbols other (get_or t.words next_id_at 0) (basics_of t) (objective_of t) (read t).changes (line_of w l₀ (1 + r)) a v art ∙ rw rows_step refl)

  pub substitute-reads : (a : Mark) (v : ℕ) → work_of art (worse a substituted_mark) v u ≡ substitute id (dense.row_of w row) (work_of art a v t)
  substitute-reads a v = after_is a v ∙ sym (ap (substitute id (dense.row_of w row)) (work-parts art a v t) ∙ rw (← loose-is) (steps-are a v))

  -- ---- the tables can be worked on further

  words_long : length u.words ≡ length s.words
  unfolding substituted_in
  words_long = length-set s.words cell_count_at l₁.size

  cells-held : Held count l₁.size u.keys u.values
  unfolding substituted_in
  cells-held = lines-held cutoff id symbols j w m y cols others place (symbols-read t) narrow past count l₀ few so.held so.long

  reals-long : length u.reals ≡ reals_size
  unfolding substituted_in
  reals-long = objective-long cutoff id symbols j w row l₁.reals place (symbols-read t) narrow long₁

  pub later-byte : (q : ℕ) → changed_at + most_variables ≤ q → get_or u.bytes q 0 ≡ get_or t.bytes q 0
  unfolding substituted_in
  later-byte q h = kept.after q h

  pub later-real : (q : ℕ) → constraint_strengths_at ≤ q → get_or u.reals q nan ≡ get_or t.reals q nan
  later-real q h = past-real q (omega (arith, h))

  keys-within : Inside t → (i : ℕ) → i < l₁.size → get_or u.keys i 0 % row_span ≤ w
  unfolding substituted_in
  keys-within h = lines-within cutoff w (1 + j) m y cols others past count few l₀ so.held h

  flags-low : Low (noted t.words t.bytes) → Low (noted u.words u.bytes)
  flags-low l =
      let g = low_rows (1 + j) y (cell_count t) t.keys t.values r (noted t.words t.bytes) so.named l in
      let c : variable_count u ≡ get_or s.words variable_count_at 0 = noted-word variable_count_at (λ e. omega (arith, e)) in
      ((λ v h. rw same_bytes (g.0 v (rw c at h))), rw (noted-word should_clear_at (λ e. omega (arith, e))) g.1)

  pub substitute-keeps : Kept t u
  substitute-keeps =
      let d : symbol_count u ≡ w = word symbol_count_at (λ e. omega (arith, e)) (λ e. omega (arith, e)) in
      record { inside = λ h. rw (size_is, d) (keys-within h); owners = owners-by t u so.named (λ q a b d. word q a d) (λ q a. byte q (omega (arith, a))) (λ q a b. byte q b) flags-low }

  pub substitute-sound : Sound art u
  substitute-sound =
      let c : row_count u ≡ r = word row_count_at (λ e. omega (arith, e)) (λ e. omega (arith, e)) in
      let d : symbol_count u ≡ w = word symbol_count_at (λ e. omega (arith, e)) (λ e. omega (arith, e)) in
      let f = so.few in
      record {
        named = named-u;
        held = held-u;
        few = rw c so.few;
        rows = λ i a b. let b' : i ≤ r = rw c at b in rw (byte (row_places_at + i) (omega (arith, b', f)), d) (so.rows i a b');
        up = λ i q a b e. let e' : q ≤ r = rw c at e in rw (byte (row_places_at + i) (omega (arith, b, e', f)), byte (row_places_at + q) (omega (arith, e', f))) (so.up i q a b e');
        long = long-u;
      }
    where
      named-u : Named u.words u.bytes
      named-u = rw same_bytes (named-words s.words u.words s.bytes (named-kept kept so.named) (words_long) (λ q a b. noted-word q b))

      held-u : Held (lines_of art u) (cell_count u) u.keys u.values
      held-u = rw (lines_same art t u (word row_count_at (λ e. omega (arith, e)) (λ e. omega (arith, e))), size_is) cells-held

      long-u : length u.reals ≡ reals_size
      long-u = reals-long
