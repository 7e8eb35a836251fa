-- A suggestion and a fetch, on a state that reads: so does what they leave. Assumes nothing.
use Rattle.std.specs.Prelude.{◌≡◌, Bool, cond, ◌||◌, length, Float}
use Rattle.std.proofs.Math.Path.{refl, ap}
use Rattle.std.proofs.Common.{sym, ◌∙◌, arith}
use mathlib.Core.List.{List, [], ◌∷◌, map}
use Rattle.std.proofs.Math.Option.{Option, none, some}
use Rattle.std.proofs.Math.Bool.{true, false}
use Prim.Native.Nat.{ℕ, suc, ◌+◌, ◌≤◌}
use Rattle.std.proofs.Math.ListN.{length-map}
use Rattle.std.specs.Float.Ieee.{is_nan}
use Rattle.steps.specs.Number.{zero64, constant_bound, ◌+₆₄◌, ◌-₆₄◌, is_finite, Mark, worse, whole_if}
use Rattle.steps.specs.Symbol.{Symbol}
use Rattle.steps.specs.Row.{Row, untouched}
use Rattle.steps.specs.State.{Tag, Basic, Variable, Constraint, Edit, State}
use Rattle.steps.specs.Work.{Work, Outcome, refused, going, check_finite, with_tableau, with_rows, with_changes, marking, find_row}
use Rattle.steps.specs.Changes.{with_flag, clear_changed, value_of, is_listed, reported, fetch_changes}
use Rattle.steps.specs.Substitute.{rows_of, marks_of, noted_of}
use Rattle.steps.specs.Optimise.{dual_optimise}
use Rattle.steps.specs.Add.{whole_within}
use Rattle.steps.specs.Edit.{edit_terms, shift_of, shift_row, shift_rows, shift_constants, suggest_steps}
use Rattle.steps.specs.Tests.{find_edit, keep_edit, drop_edit}
use Rattle.steps.specs.Calls.{begin, finish, refused_by, accepted_as, conclude, suggest}
use Rattle.steps.specs.Readable.{uses_in, edit_finite, edit_kinds}
use Rattle.keeps.specs.Lists.{All, all-to, total, Up, both, left}
use Rattle.keeps.specs.Keys.{row_id, find_by, keep_by, drop_by, find-all, find-some, drop-total, drop-length, drop_all, drop-up, drop-gone, keep-total, keep-length, keep_all, keep-up, find_edit-is, keep_edit-is, drop_edit-is, Row?, no_row, a-row, row?}
use Rattle.keeps.specs.Cells.{Fine, ok-to, fine-l, fine-r, write-finite, zero-finite}
use Rattle.keeps.specs.RowOps.{RowOk, row-to}
use Rattle.keeps.specs.Along.{Mem}
use Rattle.keeps.specs.Fits.{bids, IsBasic, art-to, FitsW, fits-worse}
use Rattle.keeps.specs.Frame.{Frame, frame-trans, mark-frame, clear-all, gone-all}
use Rattle.keeps.specs.Passes.{Ends, ends-bind, ends-to, check-ends, After, after-trans, dual-ends}
use Rattle.keeps.specs.Waits.{none-waits}
use Rattle.keeps.specs.Reads.{Reads, edit_number, var_code, tag_code, used_by}
use Rattle.keeps.specs.Good.{Vars, OldOk, vars-map, vars-clear, good-frame, good-to, tags_by, begin-good, Stored, stored-in, finish-reads, clear-length}

-- ---- shifted rows

module _ (shift : Basic → Option Float) where
  shift-bids : (bs : List Basic) → bids (rows_of (shift_rows shift bs)) ≡ bids bs
  unfolding rows_of shift_rows
  shift-bids [] = refl
  shift-bids (b ∷ bs) = ap (λ (z : List ℕ). row_id b ∷ z) (shift-bids bs)

  shift-length : (bs : List Basic) → length (rows_of (shift_rows shift bs)) ≡ length bs
  unfolding rows_of shift_rows
  shift-length [] = refl
  shift-length (b ∷ bs) = ap suc (shift-length bs)

  shift-live : (P : Symbol → Type 0) (bs : List Basic) → All (λ (b : Basic). P b.symbol) bs → All (λ (b : Basic). P b.symbol) (rows_of (shift_rows shift bs))
  unfolding rows_of shift_rows
  shift-live P [] h = tt
  shift-live P (b ∷ bs) h = (h.0, shift-live P bs h.1)

  shift-row : (B : ℕ → Type 0) (G H : Type 0) (xs : List Symbol) → (H → G) → (r : Row) (d : Option Float) → (H → Fine (shift_row r d).mark) → RowOk B G xs r
      → RowOk B H xs (shift_row r d).row
  unfolding shift_row untouched
  shift-row B G H xs g r none m h = row-to B B G H (λ i b. b) g xs r h
  shift-row B G H xs g r (some d) m h = ((λ p. write-finite constant_bound (r.constant +₆₄ d) (m p)), (row-to B B G H (λ i b. b) g xs r h).1)

  shift-rows : (B : ℕ → Type 0) (G H : Type 0) (xs : List Symbol) → (H → G) → (bs : List Basic) → (H → Fine (marks_of (shift_rows shift bs)))
      → All (λ (b : Basic). RowOk B G xs b.row) bs → All (λ (b : Basic). RowOk B H xs b.row) (rows_of (shift_rows shift bs))
  unfolding rows_of shift_rows marks_of
  shift-rows B G H xs g [] m h = tt
  shift-rows B G H xs g (b ∷ bs) m h = (
    shift-row B G H xs g b.row (shift b) (λ p. fine-l (shift_row b.row (shift b)).mark (marks_of (shift_rows shift bs)) (m p)) h.0,
    shift-rows B G H xs g bs (λ p. fine-r (shift_row b.row (shift b)).mark (marks_of (shift_rows shift bs)) (m p)) h.1,
  )

pub shift_fits : (tag : Tag) (delta : Float) (w : Work) → FitsW w → FitsW (shift_constants tag delta w)
unfolding shift_constants marking with_changes with_rows with_tableau
shift_fits tag delta w f =
    record {
      up = f.up;
      pos = f.pos;
      under = f.under;
      rows-up = rw (shift-bids shift) f.rows-up;
      live = shift-live shift (λ x. Mem x xs) bs f.live;
      rows =
          all-to _ _ (λ b h. row-to (IsBasic bs) now G G before (λ p. p) xs b.row h) (rows_of (shift_rows shift bs))
          (shift-rows shift (IsBasic bs) (Fine w.mark) G xs g bs (λ p. fine-r w.mark (marks_of (shift_rows shift bs)) p) f.rows);
      objective = ok-to (IsBasic bs) now (Fine w.mark) G before g xs w.tableau.objective f.objective;
      artificial = art-to (IsBasic bs) now (Fine w.mark) G before g xs w.artificial f.artificial;
    }
  where
    xs : List Symbol
    xs = w.tableau.symbols

    bs : List Basic
    bs = w.tableau.rows

    shift : Basic → Option Float
    shift = shift_of tag delta w

    G : Type 0
    G = Fine (worse w.mark (marks_of (shift_rows shift bs)))

    g : G → Fine w.mark
    g p = fine-l w.mark (marks_of (shift_rows shift bs)) p

    now : ℕ → Type 0
    now = IsBasic (rows_of (shift_rows shift bs))

    before : (i : ℕ) → now i → IsBasic bs i
    before i p = rw (shift-bids shift) at p

pub shift-frame : (tag : Tag) (delta : Float) (w : Work) → Frame w (shift_constants tag delta w)
unfolding shift_constants marking with_changes with_rows with_tableau
shift-frame tag delta w =
    record {
      symbols = refl;
      next = refl;
      variables = clear-all (noted_of (shift_rows (shift_of tag delta w) w.tableau.rows)) w.changes;
      plain = λ e. e;
      cutoff = refl;
      gone = gone-all (noted_of (shift_rows (shift_of tag delta w) w.tableau.rows)) w.changes;
    }

shift_count : (tag : Tag) (delta : Float) (w : Work) → length (shift_constants tag delta w).tableau.rows ≡ length w.tableau.rows
unfolding shift_constants marking with_changes with_rows with_tableau
shift_count tag delta w = shift-length (shift_of tag delta w) w.tableau.rows

-- ---- the steps

pub suggest-ends : (budget : ℕ) (e : Edit) (new : Float) (w : Work) → FitsW w → Ends (After w) (suggest_steps budget e new w)
unfolding suggest_steps marking
suggest-ends budget e new w f =
    ends-bind (After w) (After w) (check_finite v) (dual_optimise budget)
    (check-ends (After w) v
    (λ m. record {
      fits = shift_fits e.tag delta marked (fits-worse f mark);
      fine = m;
      frame = frame-trans (mark-frame mark w) (shift-frame e.tag delta marked);
      count = shift_count e.tag delta marked;
    }))
    (λ u a. ends-to (After u) (After w) (dual_optimise budget u) (dual-ends budget u a.fits a.fine) (λ x b. after-trans a b))
  where
    delta : Float
    delta = new -₆₄ e.suggestion

    mark : Mark
    mark = whole_if (whole_within constant_bound new)

    marked : Work
    marked = marking mark w

    v : Work
    v = shift_constants e.tag delta marked

-- ---- the call

pub conclude-reads : (s : State) (o : Outcome Work) (next : Work → State) → Reads s → Ends (λ w. Reads (next w)) o → Reads (conclude s o next).state
unfolding conclude refused_by accepted_as
conclude-reads s (refused n p m) next r h = r
conclude-reads s (going w) next r h = h

-- the edit n stands again, with another suggestion
module _ (n : ℕ) (new : Float) (e : Edit) (es : List Edit) (found : find_edit n es ≡ some e) where
  again : Edit
  again = record { variable = n; strength = e.strength; tag = e.tag; suggestion = new }

  edits : List Edit
  edits = keep_edit again (drop_edit n es)

  found-by : find_by edit_number n es ≡ some e
  found-by = sym (find_edit-is n es) ∙ found

  edits-is : edits ≡ keep_by edit_number again (drop_by edit_number n es)
  unfolding edits
  edits-is = keep_edit-is again (drop_edit n es) ∙ ap (λ (l : List Edit). keep_by edit_number again l) (drop_edit-is n es)

  again-total : (f : Edit → ℕ) → f again ≡ f e → total f edits ≡ total f es
  again-total f h =
      rw edits-is (keep-total edit_number f again (drop_by edit_number n es) ∙ ap (λ (k : ℕ). k + total f (drop_by edit_number n es)) h ∙ sym
      (drop-total edit_number f n es e found-by))

  again-length : length edits ≡ length es
  again-length = rw edits-is (keep-length edit_number again (drop_by edit_number n es) ∙ sym (drop-length edit_number n es e found-by))

  again-up : Up 0 (map edit_number es) → Up 0 (map edit_number edits)
  unfolding again
  again-up u = rw edits-is (keep-up edit_number 0 again (drop_by edit_number n es) (omega arith) (drop-gone edit_number 0 n es u) (drop-up edit_number 0 n es u))

  again-all : (P : Edit → Type 0) → P again → All P es → All P edits
  again-all P p h = rw edits-is (keep_all edit_number P again (drop_by edit_number n es) p (drop_all edit_number P n es h))

  again-stored : (cs : List Constraint) → is_finite new ≡ true → Stored cs es → Stored cs edits
  unfolding edit_finite edit_kinds again
  again-stored cs fin t =
      record {
        few-tags = omega (arith, again-length, t.few-tags);
        few-terms = t.few-terms;
        constraints-up = t.constraints-up;
        edits-up = again-up t.edits-up;
        constraints-finite = t.constraints-finite;
        constraint-kinds = t.constraint-kinds;
        constraint-markers = t.constraint-markers;
        edits-finite =
            again-all (λ (e : Edit). edit_finite e ≡ true)
            (both (left (is_finite e.strength) (is_finite e.suggestion)
            (find-all edit_number (λ (e : Edit). edit_finite e ≡ true) n es e found-by t.edits-finite)) fin) t.edits-finite;
        edit-kinds =
            again-all (λ (e : Edit). edit_kinds e ≡ true) (find-all edit_number (λ (e : Edit). edit_kinds e ≡ true) n es e found-by t.edit-kinds) t.edit-kinds;
        groups = t.groups;
      }

  again-tags : (cs : List Constraint) (m : ℕ) → tags_by m cs es ≡ tags_by m cs edits
  unfolding again
  again-tags cs m = ap (λ (k : ℕ). total (λ (c : Constraint). tag_code m c.tag) cs + k) (sym (again-total (λ (e : Edit). tag_code m e.tag) refl))

  again-uses : (cs : List Constraint) (m : ℕ) → used_by m cs es ≡ used_by m cs edits
  unfolding again
  again-uses cs m =
      ap (λ (k : ℕ). total (λ (c : Constraint). uses_in m c.terms) cs + k)
      (sym (again-total (λ (e : Edit). uses_in m (edit_terms e.variable)) (ap (λ (k : ℕ). uses_in m (edit_terms k)) (find-some edit_number n es e found-by))))

pub suggest-kept : (n : ℕ) (new : Float) (budget : ℕ) (s : State) → Reads s → Reads (suggest n new budget s).state
unfolding suggest refused_by again edits
suggest-kept n new budget s r = go (is_finite new) refl (find_edit n s.edits) refl
  where
    go : (f : Bool) → is_finite new ≡ f → (o : Option Edit) → find_edit n s.edits ≡ o → Reads (suggest n new budget s).state
    go false p o e = rw (p, suggest) r
    go true p none e = rw (p, e, suggest) r
    go true p (some c) e =
        rw (p, e, suggest) (conclude-reads s (suggest_steps budget c new (begin s)) (λ w. finish w s.constraints (edits n new c s.edits e)) r
        (ends-to (After (begin s)) (λ w. Reads (finish w s.constraints (edits n new c s.edits e))) (suggest_steps budget c new (begin s))
        (suggest-ends budget c new (begin s) (begin-good s r).fits) done))
      where
        done : (w : Work) → After (begin s) w → Reads (finish w s.constraints (edits n new c s.edits e))
        done w a =
            finish-reads w s.constraints (edits n new c s.edits e)
            (good-to _ _ _ _ w (again-tags n new c s.edits e s.constraints) (again-uses n new c s.edits e s.constraints)
            (good-frame _ _ (begin s) w (begin-good s r) a.fits a.frame))
            a.fine (again-stored n new c s.edits e s.constraints p (stored-in s r)) few (omega (arith, a.count, again-length n new c s.edits e, rows))
          where
            few : length w.changes.variables ≤ 32
            few = unfold begin in omega (arith, clear-length (begin s).changes.variables w.changes.variables a.frame.variables, r.few-variables)

            rows : length (begin s).tableau.rows ≤ length s.constraints + length s.edits
            rows = unfold begin in r.few-rows

-- ---- fetch

pub fetch-kept : (s : State) → Reads s → Reads (fetch_changes s).state
unfolding fetch_changes reported
fetch-kept s r =
    record {
      few-variables = omega (arith, length-map vs (reported gone bs), cleared s.changes.should_clear, r.few-variables);
      few-tags = r.few-tags;
      few-terms = r.few-terms;
      variables-up = vars.up;
      constraints-up = r.constraints-up;
      edits-up = r.edits-up;
      fits = r.fits;
      few-rows = r.few-rows;
      owns = λ n. ap (λ (k : ℕ). k + tags_by n s.constraints s.edits) (vars.symbols n) ∙ r.owns n;
      uses = vars.uses;
      olds = vars.olds;
      externals = vars.externals;
      constraints-finite = r.constraints-finite;
      constraint-kinds = r.constraint-kinds;
      constraint-markers = r.constraint-markers;
      edits-finite = r.edits-finite;
      edit-kinds = r.edit-kinds;
      cutoff = r.cutoff;
      groups = r.groups;
      waits = none-waits (map (reported gone bs) vs);
    }
  where
    gone : List ℕ
    gone = s.changes.gone

    bs : List Basic
    bs = s.tableau.rows

    vs : List Variable
    vs = cond s.changes.should_clear (clear_changed s.changes.variables) s.changes.variables

    C : ℕ → ℕ
    C n = total (var_code n) s.changes.variables

    U : ℕ → ℕ
    U n = used_by n s.constraints s.edits

    start : Vars C U s.changes.variables
    start = record { up = r.variables-up; symbols = λ n. refl; uses = r.uses; olds = r.olds; externals = r.externals }

    cleared-vars : (b : Bool) → Vars C U (cond b (clear_changed s.changes.variables) s.changes.variables)
    cleared-vars true = vars-clear C U s.changes.variables start
    cleared-vars false = start

    cleared : (b : Bool) → length (cond b (clear_changed s.changes.variables) s.changes.variables) ≡ length s.changes.variables
    cleared true = unfold clear_changed in length-map s.changes.variables (with_flag false)
    cleared false = refl

    value-finite : (v : Variable) → is_finite (value_of v bs) ≡ true
    value-finite v = unfold value_of in go (find_row v.symbol.id bs) (row? v.symbol.id bs)
      where
        go : (o : Option Row) → Row? v.symbol.id bs o → is_finite (elim o [ none ↦ zero64 | some q ↦ q.constant ]) ≡ true
        go o (no_row q) = zero-finite
        go o (a-row b q) = (find-all row_id (λ (b : Basic). RowOk (IsBasic bs) Unit s.tableau.symbols b.row) v.symbol.id bs b q r.fits.rows).0 tt

    old : (v : Variable) → OldOk v → OldOk (reported gone bs v)
    old v o = by (is_listed gone bs v)
      where
        by : (t : Bool) → (is_finite (cond t (value_of v bs) v.old) || is_nan (cond t (value_of v bs) v.old)) ≡ true
        by true = ap (λ (b : Bool). b || is_nan (value_of v bs)) (value-finite v)
        by false = o

    vars : Vars C U (map (reported gone bs) vs)
    vars = vars-map (reported gone bs) (λ v. refl) (λ v. refl) (λ v. refl) C U vs old (cleared-vars s.changes.should_clear)
