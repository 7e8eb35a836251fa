-- The live part of tables put over other tables, as the code does it, is the state that they read as, written. So what was read, written once more, changes nothing.
-- Assumes nothing.
use Prim.Native.Nat.{ℕ, zero, suc, ◌+◌, ◌*◌, ◌/◌, ◌%◌, ◌≤◌, ◌<◌}
use Rattle.std.specs.Prelude.{◌≡◌, Bool, true, false, eqb, length, set}
use Rattle.std.proofs.Math.Path.{refl, sym}
use Rattle.std.proofs.Common.{◌∙◌, not-suc-le-zero, le_of_suc-le-suc, suc-ne-zero, zero-add, arith}
use mathlib.Core.List.{List, [], ◌∷◌, map}
use borrow.Author.Tests.{le-leb, ne_eqb}
use Rattle.std.proofs.Math.ListN.{get_or}
use Rattle.std.specs.Float.Ieee.{Float}
use Rattle.std.specs.Float.{nan}
use Rattle.steps.specs.State.{Term}
use Rattle.steps.specs.Readable.{kind_code, code}
use Rattle.laws.specs.Lists.{tab, list_of, tab-ext, length-tab, map-tab, laid}
use Rattle.layout.specs.Laying.{laid_nil, laid_cons, tab-from, stretch, run-list, set_same, run-same}
use Rattle.layout.specs.Layout.{Tables, symbols_at, rows_at, heading_end, record_counts_at, record_counts_end, constraints_at, edits_at, symbol_count, row_count, variable_count, constraint_count, edit_count, clear_flag, whole_flag, changed_flag, term_count, relation_kind, kind_of, symbol_of, other_of, other_code, bit_of, comparison_in, comparison_code, variable_of, tag_of, term_of, constraint_of, edit_of, cells_of, basic_of, symbols_of, variables_of, constraints_of, edits_of, basics_of, read, over, variable_names, variable_reals, constraint_names, constraint_reals, edit_names, edit_reals, basic_row, basic_code, heading, record_counts, write_head, write_names, write_reals, write_rows, write}
use Rattle.layout.specs.Rooms.{Coded}
use Rattle.layout.specs.Copy.{most16, head_over, names_over, reals_over, rows_over, put_over, put_span, put_part, put_rows, put_names, put_reals, put_count, put_counted}

-- ---- the codes

four-parts : (c : ℕ) → c / 4 * 4 + c % 4 ≡ c
four-parts c = omega arith

rest-small : (c : ℕ) → c % 4 < 4
rest-small c = omega arith

kind-code : (k : ℕ) → k < 4 → kind_code (kind_of k) ≡ k
unfolding kind_code kind_of
kind-code zero h = refl
kind-code (suc zero) h = refl
kind-code (suc (suc zero)) h = refl
kind-code (suc (suc (suc zero))) h = refl
kind-code (suc (suc (suc (suc k)))) h = absurd (not-suc-le-zero (le_of_suc-le-suc (le_of_suc-le-suc (le_of_suc-le-suc (le_of_suc-le-suc h)))))

pub code_read : (c : ℕ) → code (symbol_of c) ≡ c
unfolding code symbol_of
code_read c = rw (kind-code (c % 4) (rest-small c)) (four-parts c)

pub other-read : (c : ℕ) → other_code (other_of c) ≡ c
unfolding other_code other_of
other-read zero = refl
other-read (suc c) = rw (ne_eqb (suc c) 0 (suc-ne-zero c)) (code_read (suc c))

pub bit-read : (x : ℕ) → x ≤ 1 → bit_of (eqb x 1) ≡ x
unfolding bit_of
bit-read zero h = refl
bit-read (suc zero) h = refl
bit-read (suc (suc x)) h = absurd (not-suc-le-zero (le_of_suc-le-suc h))

pub comparison-read : (x : ℕ) → x ≤ 2 → comparison_code (comparison_in x) ≡ x
unfolding comparison_code comparison_in
comparison-read zero h = refl
comparison-read (suc zero) h = refl
comparison-read (suc (suc zero)) h = refl
comparison-read (suc (suc (suc x))) h = absurd (not-suc-le-zero (le_of_suc-le-suc (le_of_suc-le-suc h)))

span : (from l : List ℕ) (a k z : ℕ) (to : List ℕ) → z ≡ a + k → l ≡ tab (λ j. get_or from j 0) a k → put_span from a z to ≡ over a l to
unfolding put_span over
span from l a k z to q h = stretch 0 from l a k z to q h

part : (from l : List Float) (a k z : ℕ) (to : List Float) → z ≡ a + k → l ≡ tab (λ j. get_or from j nan) a k → put_part from a z to ≡ over a l to
unfolding put_part over
part from l a k z to q h = stretch nan from l a k z to q h

-- ---- what is written of each thing that was read is what stood there

variable-names : (n : List ℕ) (r : List Float) → get_or n 3 0 ≤ 1 → variable_names (variable_of n r) ≡ tab (λ j. get_or n j 0) 0 4
unfolding variable_names variable_of tab
variable-names n r h = rw (code_read (get_or n 1 0), bit-read (get_or n 3 0) h) refl

variable-reals : (n : List ℕ) (r : List Float) → variable_reals (variable_of n r) ≡ tab (λ j. get_or r j nan) 0 1
unfolding variable_reals variable_of tab
variable-reals n r = refl

pub most-is : (c : ℕ) → c ≤ 16 → most16 c ≡ c
unfolding most16
most-is c h = rw (le-leb c 16 h) refl

constraint-names : (n : List ℕ) (r : List Float) → get_or n 4 0 ≤ 2 → constraint_names (constraint_of n r) ≡ tab (λ j. get_or n j 0) 0 (5 + get_or n 3 0)
unfolding constraint_names constraint_of tag_of term_of list_of tab
constraint-names n r h =
    let c : ℕ = get_or n 3 0 in
    let e : 5 + c ≡ suc (suc (suc (suc (suc c)))) = omega arith in
    let l : length (tab (term_of n r) 0 c) ≡ c = length-tab (term_of n r) 0 c in
    let m : map (λ (t : Term). t.variable) (tab (term_of n r) 0 c) ≡ tab (λ j. get_or n j 0) 5 c = map-tab (λ (t : Term). t.variable) (term_of n r) 0 c ∙ tab-from (λ j. get_or n j 0) 5 0 c in
    rw (e, code_read (get_or n 1 0), other-read (get_or n 2 0), comparison-read (get_or n 4 0) h, l, m) refl

constraint-reals : (n : List ℕ) (r : List Float) → constraint_reals (constraint_of n r) ≡ tab (λ j. get_or r j nan) 0 (2 + get_or n 3 0)
unfolding constraint_reals constraint_of term_of list_of tab
constraint-reals n r =
    let c : ℕ = get_or n 3 0 in
    let e : 2 + c ≡ suc (suc c) = omega arith in
    let m : map (λ (t : Term). t.coefficient) (tab (term_of n r) 0 c) ≡ tab (λ j. get_or r j nan) 2 c = map-tab (λ (t : Term). t.coefficient) (term_of n r) 0 c ∙ tab-from (λ j. get_or r j nan) 2 0 c in
    rw (e, m) refl

edit-names : (n : List ℕ) (r : List Float) → edit_names (edit_of n r) ≡ tab (λ j. get_or n j 0) 0 3
unfolding edit_names edit_of tag_of tab
edit-names n r = rw (code_read (get_or n 1 0), other-read (get_or n 2 0)) refl

edit-reals : (n : List ℕ) (r : List Float) → edit_reals (edit_of n r) ≡ tab (λ j. get_or r j nan) 0 2
unfolding edit_reals edit_of tab
edit-reals n r = refl

basic-row : (k c : ℕ) (row : List Float) → basic_row (basic_of k c row) ≡ tab (λ j. get_or row j nan) 0 (1 + k)
unfolding basic_row basic_of cells_of list_of tab
basic-row k c row =
    let e : 1 + k ≡ suc k = omega arith in
    rw (e, tab-from (λ j. get_or row j nan) 1 0 k) refl

module _ (w : Tables) where
  heading-read : heading (read w) ≡ tab (λ j. get_or w.head j 0) 0 heading_end
  unfolding heading read list_of symbols_of basics_of tab
  heading-read =
      let h : List ℕ = w.head in
      rw (
        length-tab (λ i. symbol_of (get_or h (symbols_at + i) 0)) 0 (symbol_count h),
        length-tab (λ i. basic_of (symbol_count h) (get_or h (rows_at + i) 0) (get_or w.rows (1 + i) [])) 0 (row_count h),
      ) refl

  counts-read : clear_flag w.head ≤ 1 → whole_flag w.head ≤ 1 → record_counts (read w) ≡ tab (λ j. get_or w.head j 0) record_counts_at 5
  unfolding record_counts read list_of variables_of constraints_of edits_of tab
  counts-read f g =
      let h : List ℕ = w.head in
      rw (
        length-tab (λ i. variable_of (get_or w.names i []) (get_or w.reals i [])) 0 (variable_count h),
        length-tab (λ i. constraint_of (get_or w.names (constraints_at + i) []) (get_or w.reals (constraints_at + i) [])) 0 (constraint_count h),
        length-tab (λ i. edit_of (get_or w.names (edits_at + i) []) (get_or w.reals (edits_at + i) [])) 0 (edit_count h),
        bit-read (clear_flag h) f,
        bit-read (whole_flag h) g,
      ) refl

  symbols-read : map code (read w).tableau.symbols ≡ tab (λ j. get_or w.head j 0) symbols_at (symbol_count w.head)
  unfolding read symbols_of list_of
  symbols-read =
      map-tab code (λ i. symbol_of (get_or w.head (symbols_at + i) 0)) 0 (symbol_count w.head)
      ∙ tab-ext (λ i. code (symbol_of (get_or w.head (symbols_at + i) 0))) (λ i. get_or w.head (symbols_at + i) 0) 0 (symbol_count w.head) (λ j a b. code_read (get_or w.head (symbols_at + j) 0))
      ∙ tab-from (λ j. get_or w.head j 0) symbols_at 0 (symbol_count w.head)

  basics-read : map basic_code (read w).tableau.rows ≡ tab (λ j. get_or w.head j 0) rows_at (row_count w.head)
  unfolding read basics_of list_of basic_of basic_code
  basics-read =
      map-tab basic_code (λ i. basic_of (symbol_count w.head) (get_or w.head (rows_at + i) 0) (get_or w.rows (1 + i) [])) 0 (row_count w.head)
      ∙ tab-ext (λ i. code (symbol_of (get_or w.head (rows_at + i) 0))) (λ i. get_or w.head (rows_at + i) 0) 0 (row_count w.head) (λ j a b. code_read (get_or w.head (rows_at + j) 0))
      ∙ tab-from (λ j. get_or w.head j 0) rows_at 0 (row_count w.head)

  head-is : clear_flag w.head ≤ 1 → whole_flag w.head ≤ 1 → (h : List ℕ) → head_over w.head h ≡ write_head (read w) h
  unfolding head_over write_head
  head-is f g h =
      rw (
        span w.head (heading (read w)) 0 heading_end heading_end h refl heading-read,
        span w.head (record_counts (read w)) record_counts_at 5 record_counts_end (over 0 (heading (read w)) h) refl (counts-read f g),
        span w.head (map code (read w).tableau.symbols) symbols_at (symbol_count w.head) (symbols_at + symbol_count w.head) (over record_counts_at (record_counts (read w)) (over 0 (heading (read w)) h)) refl symbols-read,
      )
      (span w.head (map basic_code (read w).tableau.rows) rows_at (row_count w.head) (rows_at + row_count w.head) _ refl basics-read)

  put-variables : ((j : ℕ) → j < variable_count w.head → changed_flag (get_or w.names j []) ≤ 1) → (n : List (List ℕ)) → put_names w.names 0 (variable_count w.head) 4 false n ≡ laid (λ v m. over 0 (variable_names v) m) 0 (read w).changes.variables n
  unfolding put_names read variables_of put_count
  put-variables f n =
      run-list [] (λ v m. over 0 (variable_names v) m) _ (λ i. variable_of (get_or w.names i []) (get_or w.reals i [])) 0 (variable_count w.head) (variable_count w.head) n (omega arith) λ j b y.
      rw (zero-add j) (span (get_or w.names j []) (variable_names (variable_of (get_or w.names j []) (get_or w.reals j []))) 0 4 4 y refl (variable-names (get_or w.names j []) (get_or w.reals j []) (f j b)))

  put-constraints : ((j : ℕ) → j < constraint_count w.head → term_count (get_or w.names (constraints_at + j) []) ≤ 16) → ((j : ℕ) → j < constraint_count w.head → relation_kind (get_or w.names (constraints_at + j) []) ≤ 2)
      → (n : List (List ℕ)) → put_names w.names constraints_at (constraints_at + constraint_count w.head) 5 true n ≡ laid (λ c m. over 0 (constraint_names c) m) constraints_at (read w).constraints n
  unfolding put_names read constraints_of put_count
  put-constraints f g n =
      run-list [] (λ c m. over 0 (constraint_names c) m) _ (λ i. constraint_of (get_or w.names (constraints_at + i) []) (get_or w.reals (constraints_at + i) [])) constraints_at (constraint_count w.head) (constraints_at + constraint_count w.head) n refl λ j b y.
      let row : List ℕ = get_or w.names (constraints_at + j) [] in
      rw (most-is (term_count row) (f j b)) (span row (constraint_names (constraint_of row (get_or w.reals (constraints_at + j) []))) 0 (5 + term_count row) (5 + term_count row) y (omega arith) (constraint-names row (get_or w.reals (constraints_at + j) []) (g j b)))

  put-edits : (n : List (List ℕ)) → put_names w.names edits_at (edits_at + edit_count w.head) 3 false n ≡ laid (λ e m. over 0 (edit_names e) m) edits_at (read w).edits n
  unfolding put_names read edits_of put_count
  put-edits n =
      run-list [] (λ e m. over 0 (edit_names e) m) _ (λ i. edit_of (get_or w.names (edits_at + i) []) (get_or w.reals (edits_at + i) [])) edits_at (edit_count w.head) (edits_at + edit_count w.head) n refl λ j b y.
      let row : List ℕ = get_or w.names (edits_at + j) [] in
      span row (edit_names (edit_of row (get_or w.reals (edits_at + j) []))) 0 3 3 y refl (edit-names row (get_or w.reals (edits_at + j) []))

  names-is : Coded w → (n : List (List ℕ)) → names_over w.head w.names n ≡ write_names (read w) n
  unfolding names_over write_names
  names-is c n = rw (put-variables c.2 n, put-constraints c.3 c.4 (laid (λ v m. over 0 (variable_names v) m) 0 (read w).changes.variables n)) (put-edits _)

  real-variables : (r : List (List Float)) → put_reals w.reals w.names 0 (variable_count w.head) 1 false r ≡ laid (λ v m. over 0 (variable_reals v) m) 0 (read w).changes.variables r
  unfolding put_reals read variables_of put_count put_counted
  real-variables r =
      run-list [] (λ v m. over 0 (variable_reals v) m) _ (λ i. variable_of (get_or w.names i []) (get_or w.reals i [])) 0 (variable_count w.head) (variable_count w.head) r (omega arith) λ j b y.
      rw (zero-add j) (part (get_or w.reals j []) (variable_reals (variable_of (get_or w.names j []) (get_or w.reals j []))) 0 1 1 y refl (variable-reals (get_or w.names j []) (get_or w.reals j [])))

  real-constraints : ((j : ℕ) → j < constraint_count w.head → term_count (get_or w.names (constraints_at + j) []) ≤ 16) → (r : List (List Float)) → put_reals w.reals w.names constraints_at (constraints_at + constraint_count w.head) 2 true r ≡ laid (λ c m. over 0 (constraint_reals c) m) constraints_at (read w).constraints r
  unfolding put_reals read constraints_of put_count put_counted
  real-constraints f r =
      run-list [] (λ c m. over 0 (constraint_reals c) m) _ (λ i. constraint_of (get_or w.names (constraints_at + i) []) (get_or w.reals (constraints_at + i) [])) constraints_at (constraint_count w.head) (constraints_at + constraint_count w.head) r refl λ j b y.
      let row : List ℕ = get_or w.names (constraints_at + j) [] in
      let q : term_count row ≤ 16 = f j b in
      rw (most-is (term_count row) q, le-leb (2 + term_count row) 18 (omega arith)) (part (get_or w.reals (constraints_at + j) []) (constraint_reals (constraint_of row (get_or w.reals (constraints_at + j) []))) 0 (2 + term_count row) (2 + term_count row) y (omega arith) (constraint-reals row (get_or w.reals (constraints_at + j) [])))

  real-edits : (r : List (List Float)) → put_reals w.reals w.names edits_at (edits_at + edit_count w.head) 2 false r ≡ laid (λ e m. over 0 (edit_reals e) m) edits_at (read w).edits r
  unfolding put_reals read edits_of put_count put_counted
  real-edits r =
      run-list [] (λ e m. over 0 (edit_reals e) m) _ (λ i. edit_of (get_or w.names (edits_at + i) []) (get_or w.reals (edits_at + i) [])) edits_at (edit_count w.head) (edits_at + edit_count w.head) r refl λ j b y.
      part (get_or w.reals (edits_at + j) []) (edit_reals (edit_of (get_or w.names (edits_at + j) []) (get_or w.reals (edits_at + j) []))) 0 2 2 y refl (edit-reals (get_or w.names (edits_at + j) []) (get_or w.reals (edits_at + j) []))

  reals-is : Coded w → (r : List (List Float)) → reals_over w.head w.names w.reals r ≡ write_reals (read w) r
  unfolding reals_over write_reals
  reals-is c r = rw (real-variables r, real-constraints c.3 (laid (λ v m. over 0 (variable_reals v) m) 0 (read w).changes.variables r)) (real-edits _)

  put-objective : (m : List (List Float)) → set m 0 (put_part (get_or w.rows 0 []) 1 (1 + symbol_count w.head) (get_or m 0 [])) ≡ laid (λ cs row. over 1 cs row) 0 ((read w).tableau.objective ∷ []) m
  unfolding read cells_of list_of
  put-objective m =
      let k : ℕ = symbol_count w.head in
      let row : List Float = get_or w.rows 0 [] in
      let q : put_part row 1 (1 + k) (get_or m 0 []) ≡ over 1 (tab (λ j. get_or row (1 + j) nan) 0 k) (get_or m 0 []) = part row (tab (λ j. get_or row (1 + j) nan) 0 k) 1 k (1 + k) (get_or m 0 []) refl (tab-from (λ j. get_or row j nan) 1 0 k) in
      rw q (sym (laid_nil (λ cs x. over 1 cs x) 1 _) ∙ sym (laid_cons (λ cs x. over 1 cs x) 0 (tab (λ j. get_or row (1 + j) nan) 0 k) [] m []))

  put-basics : (m : List (List Float)) → put_rows w.rows (symbol_count w.head) (row_count w.head) m ≡ laid (λ b row. over 0 (basic_row b) row) 1 (read w).tableau.rows m
  unfolding put_rows read basics_of
  put-basics m =
      run-list [] (λ b row. over 0 (basic_row b) row) _ (λ i. basic_of (symbol_count w.head) (get_or w.head (rows_at + i) 0) (get_or w.rows (1 + i) [])) 1 (row_count w.head) (1 + row_count w.head) m refl λ j b y.
      let k : ℕ = symbol_count w.head in
      part (get_or w.rows (1 + j) []) (basic_row (basic_of k (get_or w.head (rows_at + j) 0) (get_or w.rows (1 + j) []))) 0 (1 + k) (1 + k) y (omega arith) (basic-row k (get_or w.head (rows_at + j) 0) (get_or w.rows (1 + j) []))

  rows_is : (m : List (List Float)) → rows_over w.head w.rows m ≡ write_rows (read w) m
  unfolding rows_over write_rows
  rows_is m = rw (put-objective m) (put-basics _)

  pub written_is : Coded w → (t : Tables) → put_over w t ≡ write (read w) t
  unfolding put_over write
  written_is c t = rw (head-is c.0 c.1 t.head, names-is c t.names, reals-is c t.reals, rows_is t.rows) refl

-- ---- a table's own live part put over it

span_same : (h : List ℕ) (a e : ℕ) → put_span h a e h ≡ h
unfolding put_span
span_same h a e = run-same 0 (λ i _. get_or h i 0) a e h (λ j. refl)

part_same : (r : List Float) (a e : ℕ) → put_part r a e r ≡ r
unfolding put_part
part_same r a e = run-same nan (λ i _. get_or r i nan) a e r (λ j. refl)

over-itself : (t : Tables) → put_over t t ≡ t
unfolding put_over head_over names_over reals_over rows_over put_names put_reals put_rows
over-itself t =
    let h : List ℕ = t.head in
    let s : (a e : ℕ) → put_span h a e h ≡ h = span_same h in
    let n : (a e b : ℕ) (c : Bool) → put_names t.names a e b c t.names ≡ t.names = λ a e b c. run-same [] _ a e t.names (λ j. span_same (get_or t.names j []) 0 _) in
    let r : (a e b : ℕ) (c : Bool) → put_reals t.reals t.names a e b c t.reals ≡ t.reals = λ a e b c. run-same [] _ a e t.reals (λ j. part_same (get_or t.reals j []) 0 _) in
    let w : (k e : ℕ) → put_rows t.rows k e t.rows ≡ t.rows = λ k e. run-same [] _ 1 (1 + e) t.rows (λ j. part_same (get_or t.rows j []) 0 (1 + k)) in
    rw (
      s 0 3,
      s 4 9,
      s 16 (16 + get_or h 1 0),
      s 146 (146 + get_or h 2 0),
      n 0 (get_or h 4 0) 4 false,
      n 32 (32 + get_or h 5 0) 5 true,
      n 80 (80 + get_or h 6 0) 3 false,
      r 0 (get_or h 4 0) 1 false,
      r 32 (32 + get_or h 5 0) 2 true,
      r 80 (80 + get_or h 6 0) 2 false,
      part_same (get_or t.rows 0 []) 1 (1 + get_or h 1 0),
      set_same [] t.rows 0,
      w (get_or h 1 0) (get_or h 2 0),
    ) refl

-- tables that are coded as a state are what the state they read as writes into them
pub write_read : (t : Tables) → Coded t → write (read t) t ≡ t
write_read t c = sym (written_is t c t) ∙ over-itself t
