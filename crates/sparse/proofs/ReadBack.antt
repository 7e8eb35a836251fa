-- Reading what was written gives the state back, of a state that fits.
-- Assumes nothing.
use Prim.Native.Nat.{ℕ, ◌+◌, ◌-◌, ◌≤◌, ◌<◌}
use Rattle.std.specs.Prelude.{◌≡◌}
use Rattle.std.proofs.Math.Path.{refl, sym}
use Rattle.std.proofs.Common.{◌∙◌}
use mathlib.Core.List.{List, []}
use Rattle.std.proofs.Math.Option.{Option, none, some}
use native.Mathlib.Omega.{arith}
use Rattle.std.proofs.Math.Dec.{eqb}
use Rattle.std.specs.Float.Ieee.{nan}
use Rattle.std.proofs.Math.ListN.{length, get_or, length-map}
use borrow.Author.Tests.{eqb-true, eq-eqb, ne_eqb}
use Rattle.laws.specs.Lists.{tab, tab-ext, tab-get_or, list_of, list_of-is}
use Rattle.steps.specs.Symbol.{Kind, External, Slack, Error, Dummy, Symbol}
use Rattle.steps.specs.State.{Basic, Variable, Constraint, Edit, State}
use Rattle.steps.specs.Readable.{kind_code}
use Rattle.layout.specs.Layout.{kind_of}
use Rattle.layout.specs.Laying.{get_d_map, tab-from}
use Rattle.layout.proofs.Back.{bit-back}
use Rattle.layout.specs.cells.Cells.{row_of}
use Rattle.layout.specs.cells.Seek.{first-elim, first-at}
use Rattle.sparse.specs.Places.{ids_at, variable_numbers_at, gone_numbers_at, kinds_at, row_places_at, variable_places_at, constants_at, objective_at}
use Rattle.sparse.specs.Sparse.{Sparse, variable_count, symbol_at, other_at, number_at, variable_of, terms_from, term_of, constraint_of, edit_of, basic_of, symbols_of, basics_of, objective_of, gone_of, read}
use Rattle.sparse.specs.Concat.{sum-ext, sum-in, sum-le, before, concat-at, concat-length}
use Rattle.sparse.proofs.Laying.{rows_back}
use Rattle.sparse.specs.Write.{no_symbol, no_basic, no_variable, no_term, no_constraint, no_edit, place_of, other_place, index_of, number_place, all_terms, cells_of, laid_of, heading_of, write}
use Rattle.sparse.specs.Fits.{Lengths, Live, LiveOther, Fits}
use Rattle.sparse.specs.Elements.{heading-back, id-back, number-back, uses-back, constraint-number, group-back, gone-back, kind-laid, row-place, variable-place, changed-back, marker-place, other_place_lem, count-back, edit-variable, plus-place, minus-place, term-place, constant-back, old-back, cost-back, cutoff-back, strength-back, edit-strength, suggestion-back, coefficient-back, comparison-laid, own-constant}

kind-back : (k : Kind) → kind_of (kind_code k) ≡ k
unfolding kind_of kind_code
kind-back External = refl
kind-back Slack = refl
kind-back Error = refl
kind-back Dummy = refl

-- a variable that is named is the one with that number
pub index_number : (vs : List Variable) (n : ℕ) → index_of vs n < length vs → (get_or vs (index_of vs n) no_variable).number ≡ n
unfolding index_of
index_number vs n h =
    first-elim (λ j. eqb n (get_or vs j no_variable).number) (λ j. j) (length vs) (λ (z : ℕ). z < length vs → (get_or vs z no_variable).number ≡ n) 0 (length vs) (omega arith)
    (λ r a b t f l. sym (eqb-true n (get_or vs r no_variable).number t))
    (λ f l. absurd (omega (arith, l))) h

-- what is read from place 1 on is the list
tab-back : {A : Type 0} (g : ℕ → A) (l : List A) (n : ℕ) (d : A) → n ≡ length l → ((j : ℕ) → j < length l → g (1 + j) ≡ get_or l j d) → tab g 1 n ≡ l
tab-back g l n d q f = rw q (sym (tab-from g 1 0 (length l)) ∙ tab-ext (λ j. g (1 + j)) (λ j. get_or l j d) 0 (length l) (λ j u v. f j (omega (arith, v))) ∙ tab-get_or l d)

module _ (s : State) (t : Sparse) (fits : Fits s) (len : Lengths t) where
  abbrev t' : Sparse
  t' = write s t

  abbrev xs : List Symbol
  xs = s.tableau.symbols

  abbrev vs : List Variable
  vs = s.changes.variables

  abbrev size : ℕ
  size = (laid_of s.tableau t).size

  head : (j : ℕ) → j < 10 → get_or t'.words j 0 ≡ get_or (heading_of s size) j 0
  head = heading-back s t fits len

  -- ---- symbols by place

  symbol-back : (j : ℕ) → j < length xs → symbol_at t' (1 + j) ≡ get_or xs j no_symbol
  unfolding symbol_at
  symbol-back j h =
      let o : ids_at + (1 + j) ≡ ids_at + 1 + j = omega arith in
      let q : kinds_at + (1 + j) ≡ kinds_at + 1 + j = omega arith in
      rw (o, q, id-back s t fits len j h, kind-laid s t fits len j h, kind-back (get_or xs j no_symbol).kind) refl

  live_back : (x : Symbol) → Live xs x → symbol_at t' (place_of xs x) ≡ x
  live_back x l =
      let a = l.0 in
      let b = l.1 in
      let o : 1 + (place_of xs x - 1) ≡ place_of xs x = omega (arith, a) in
      (rw o at (symbol-back (place_of xs x - 1) (omega (arith, a, b)))) ∙ l.2

  other-back : (o : Option Symbol) → LiveOther xs o → other_at t' (other_place xs o) ≡ o
  unfolding other_at other_place
  other-back none l = refl
  other-back (some x) l =
      let a = l.0 in
      rw (ne_eqb (place_of xs x) 0 (λ e. omega (arith, e, a)), live_back x l) refl

  count : variable_count t' ≡ length vs
  unfolding heading_of
  count = head 4 (omega arith)

  -- no variable before it has the same place
  named_back : (n : ℕ) → index_of vs n < length vs → number_at t' (number_place xs vs n) ≡ n
  unfolding number_at number_place
  named_back n h =
      let j : ℕ = index_of vs n in
      let p : ℕ = place_of xs (get_or vs j no_variable).symbol in
      first-at (λ v. eqb p (get_or t'.bytes (variable_places_at + v) 0)) (λ v. get_or t'.words (variable_numbers_at + v) 0) 0 0 (variable_count t') j (omega arith) (omega (arith, h, count))
      (eq-eqb p (get_or t'.bytes (variable_places_at + j) 0) (sym (variable-place s t fits len j h)))
      (λ i u v. ne_eqb p (get_or t'.bytes (variable_places_at + i) 0) λ q. fits.apart i j v h (sym (variable-place s t fits len i (omega (arith, h, v))) ∙ sym q))
      ∙ number-back s t fits len j h
      ∙ index_number vs n h

  -- ---- the tableau

  symbols-back : symbols_of t' ≡ xs
  unfolding symbols_of heading_of
  symbols-back = tab-back (symbol_at t') xs _ no_symbol (head 1 (omega arith)) symbol-back

  objective-back : objective_of t' ≡ s.tableau.objective
  unfolding objective_of heading_of
  objective-back =
      tab-back (λ p. get_or t'.reals (objective_at + p) nan) s.tableau.objective _ nan (head 1 (omega arith) ∙ sym fits.objective) λ j h.
      let o : objective_at + (1 + j) ≡ objective_at + 1 + j = omega arith in
      rw o (cost-back s t fits len j h)

  cells-back : (j : ℕ) → j < length s.tableau.rows → row_of t'.keys t'.values size (length xs) (1 + j) ≡ (get_or s.tableau.rows j no_basic).row.cells
  unfolding write laid_of
  cells-back j h =
      let n = fits.symbols in
      let l : length (cells_of s.tableau) ≡ length s.tableau.rows = length-map s.tableau.rows (λ (r : Basic). r.row.cells) in
      rows_back (length xs) (cells_of s.tableau) t.keys t.values (omega (arith, n)) (rw len.1 fits.room) (len.4 ∙ sym len.1) j (omega (arith, h, l)) (fits.wide j h) fits.settled
      ∙ get_d_map (λ (r : Basic). r.row.cells) s.tableau.rows j no_basic [] h

  basic-back : (j : ℕ) → j < length s.tableau.rows → basic_of t' (1 + j) ≡ get_or s.tableau.rows j no_basic
  unfolding basic_of heading_of
  basic-back j h =
      let o : row_places_at + (1 + j) ≡ row_places_at + 1 + j = omega arith in
      let q : constants_at + (1 + j) ≡ constants_at + 1 + j = omega arith in
      rw (o, q, row-place s t fits len j h, live_back (get_or s.tableau.rows j no_basic).symbol (fits.basics j h), constant-back s t fits len j h, head 3 (omega arith), head 1 (omega arith), cells-back j h) refl

  basics-back : basics_of t' ≡ s.tableau.rows
  unfolding basics_of heading_of
  basics-back = tab-back (basic_of t') s.tableau.rows _ no_basic (head 2 (omega arith)) basic-back

  -- ---- the records

  variable-back : (j : ℕ) → j < length vs → variable_of t' j ≡ get_or vs j no_variable
  unfolding variable_of
  variable-back j h =
      rw (number-back s t fits len j h, variable-place s t fits len j h, live_back (get_or vs j no_variable).symbol (fits.owners j h), old-back s t fits len j h, uses-back s t fits len j h, changed-back s t fits len j h, bit-back (get_or vs j no_variable).changed) refl

  -- the terms of constraint i begin after those of the ones before it
  begin : (i : ℕ) → i ≤ length s.constraints → terms_from t' i ≡ before (λ (c : Constraint). c.terms) s.constraints no_constraint i
  unfolding terms_from
  begin i h = sum-in _ i ∙ sum-ext _ _ 0 i λ j k. count-back s t fits len j (omega (arith, h, k))

  within : (i j : ℕ) → i < length s.constraints → j < length (get_or s.constraints i no_constraint).terms → before (λ (c : Constraint). c.terms) s.constraints no_constraint i + j < length (all_terms s)
  within i j h k = rw (concat-length (λ (c : Constraint). c.terms) s.constraints no_constraint) (sum-le (λ c. length (get_or s.constraints c no_constraint).terms) i (length s.constraints) j h k)

  term-back : (i j : ℕ) → i < length s.constraints → j < length (get_or s.constraints i no_constraint).terms → term_of t' (terms_from t' i) j ≡ get_or (get_or s.constraints i no_constraint).terms j no_term
  unfolding term_of
  term-back i j h k =
      let a : ℕ = before (λ (c : Constraint). c.terms) s.constraints no_constraint i in
      let l : a + j < length (all_terms s) = within i j h k in
      let here : get_or (all_terms s) (a + j) no_term ≡ get_or (get_or s.constraints i no_constraint).terms j no_term = concat-at (λ (c : Constraint). c.terms) s.constraints no_constraint i j no_term h k in
      rw (begin i (omega arith), term-place s t fits len (a + j) l, named_back (get_or (all_terms s) (a + j) no_term).variable (fits.named (a + j) l), coefficient-back s t fits len (a + j) l, here) refl

  constraint-back : (i : ℕ) → i < length s.constraints → constraint_of t' i ≡ get_or s.constraints i no_constraint
  unfolding constraint_of
  constraint-back i h =
      let c : Constraint = get_or s.constraints i no_constraint in
      let ts : list_of (length c.terms) (term_of t' (terms_from t' i)) ≡ c.terms = list_of-is (term_of t' (terms_from t' i)) c.terms no_term λ j k. term-back i j h k in
      rw (constraint-number s t fits len i h, group-back s t fits len i h, comparison-laid s t fits len i h, strength-back s t fits len i h, own-constant s t fits len i h, count-back s t fits len i h, ts, marker-place s t fits len i h, live_back c.tag.marker (fits.markers i h), other_place_lem s t fits len i h, other-back c.tag.other (fits.others i h)) refl

  edit-back : (i : ℕ) → i < length s.edits → edit_of t' i ≡ get_or s.edits i no_edit
  unfolding edit_of
  edit-back i h =
      let e : Edit = get_or s.edits i no_edit in
      rw (edit-variable s t fits len i h, named_back e.variable (fits.edited i h), edit-strength s t fits len i h, plus-place s t fits len i h, live_back e.tag.marker (fits.pluses i h), minus-place s t fits len i h, other-back e.tag.other (fits.minuses i h), suggestion-back s t fits len i h) refl

  gone-all : gone_of t' ≡ s.changes.gone
  unfolding gone_of heading_of
  gone-all = rw (head 9 (omega arith)) (list_of-is (λ j. get_or t'.words (gone_numbers_at + j) 0) s.changes.gone 0 (gone-back s t fits len))

  -- ---- the state

  pub read-write : read t' ≡ s
  unfolding read heading_of
  read-write =
      let v : list_of (length vs) (variable_of t') ≡ vs = list_of-is (variable_of t') vs no_variable variable-back in
      let c : list_of (length s.constraints) (constraint_of t') ≡ s.constraints = list_of-is (constraint_of t') s.constraints no_constraint constraint-back in
      let e : list_of (length s.edits) (edit_of t') ≡ s.edits = list_of-is (edit_of t') s.edits no_edit edit-back in
      rw (cutoff-back s t fits len, symbols-back, head 0 (omega arith), basics-back, objective-back, head 4 (omega arith), v, gone-all, head 7 (omega arith), bit-back s.changes.should_clear, head 5 (omega arith), c, head 6 (omega arith), e, head 8 (omega arith), bit-back s.whole) refl
