-- An added constraint or edit, on a state that reads: so does what it leaves. Assumes nothing.
use Rattle.std.specs.Prelude.{◌≡◌, List, [], ◌∷◌, map, Bool, not, cond, ◌&&◌, length, Float}
use Rattle.std.proofs.Math.Path.{refl}
use Rattle.std.proofs.Common.{sym, ap, ◌∙◌, subst, true≢false, arith, lt→ltb, nltb→le}
use Rattle.std.proofs.Math.Option.{Option, none, some}
use Rattle.std.proofs.Math.Bool.{true, false}
use Prim.Native.Nat.{zero, ℕ, suc, ◌+◌, ◌≤◌, ◌<◌}
use Rattle.std.proofs.Math.Dec.{eqb, ltb, nleb→lt}
use Rattle.std.specs.Float.{nan, inf, fin}
use Rattle.std.specs.Float.Ieee.{lt, le, eq, of_bits}
use Rattle.steps.specs.Number.{zero64, near_zero, below_zero, cutoff_fits, is_finite}
use Rattle.steps.specs.Strength.{required, clip}
use Rattle.steps.specs.Symbol.{is_error}
use Rattle.steps.specs.Row.{reverse_sign}
use Rattle.steps.specs.State.{Term, Relation, equal, strength_of, comparison_of, Tag, Constraint, Edit, State}
use Rattle.steps.specs.Work.{Work, Outcome, refused, going, new_symbol}
use Rattle.steps.specs.CreateRow.{Building, Created, tagged, insert_terms, soft_equality, required_equality, add_tag, create_row}
use Rattle.steps.specs.Add.{Added, add_steps}
use Rattle.steps.specs.Edit.{edit_terms, add_edit_steps}
use Rattle.steps.specs.Tests.{Test, first_refusal, add_tests, add_edit_tests, finite_terms, kept_terms, new_variables, constraints_full, variables_full, has_constraint, has_edit, find_constraint, keep_constraint, find_edit, keep_edit}
use Rattle.steps.specs.Calls.{begin, finish, refused_by, accepted_as, conclude_add, add, add_edit}
use Rattle.steps.specs.Readable.{uses_in, constraint_finite, edit_finite, tag_kinds, marker_fits, edit_kinds}
use Rattle.keeps.specs.Lists.{truly, All, all-out, total, times, so-not, both, left, right, none≢some}
use Rattle.keeps.specs.Keys.{find_none, keep-total, keep-length, keep_all, keep-up, find_constraint-is, keep_constraint-is, find_edit-is, keep_edit-is}
use Rattle.keeps.specs.Cells.{zero-finite}
use Rattle.keeps.specs.Passes.{Ends, ends-to}
use Rattle.keeps.specs.Reads.{Reads, con_number, edit_number, tag_code, used_by}
use Rattle.steps.proofs.Cutoff.{one_kept}
use Rattle.keeps.specs.Good.{good-to, tags_by, begin-good, Stored, stored-in, finish-reads}
use Rattle.keeps.specs.Creating.{create_row-kinds, create_row-marker}
use Rattle.keeps.specs.Adding.{AddedOk, add-ends}

-- ---- tests that pass

pub passed : (t : Test) (ts : List Test) → first_refusal (t ∷ ts) ≡ none → (t.fails ≡ false) × (first_refusal ts ≡ none)
unfolding first_refusal
passed t ts e = go t.fails refl e
  where
    first : Bool → Option ℕ
    first b = elim b [ true ↦ some t.number | false ↦ first_refusal ts ]

    go : (b : Bool) → t.fails ≡ b → first b ≡ none → (t.fails ≡ false) × (first_refusal ts ≡ none)
    go true q e = absurd (none≢some (sym e))
    go false q e = (q, e)

not-false : (b : Bool) → not b ≡ false → b ≡ true
not-false true e = refl
not-false false e = absurd (true≢false e)

at_most : (m n : ℕ) → ltb m n ≡ false → n ≤ m
at_most m n e = nltb→le m n (so-not e)

room : (s : State) → constraints_full s ≡ false → length s.constraints + length s.edits < 48
unfolding constraints_full
room s e = nleb→lt 48 (length s.constraints + length s.edits) (so-not e)

places : (ts : List Term) (s : State) → variables_full ts s ≡ false → length s.changes.variables + length (new_variables s.changes.variables [] (kept_terms s.tableau.cutoff ts)) ≤ 32
unfolding variables_full
places ts s e = at_most 32 _ e

-- ---- the terms kept

kept-length : (cut : Float) (ts : List Term) → length (kept_terms cut ts) ≤ length ts
unfolding kept_terms
kept-length cut [] = omega arith
kept-length cut (t ∷ ts) = go (near_zero cut t.coefficient) (kept-length cut ts)
  where
    go : (z : Bool) → length (kept_terms cut ts) ≤ length ts → length {A = Term} (elim z [ true ↦ kept_terms cut ts | false ↦ t ∷ kept_terms cut ts ]) ≤ suc (length ts)
    go true ih = omega arith
    go false ih = omega arith

kept-finite : (cut : Float) (ts : List Term) → finite_terms ts ≡ true → All (λ (t : Term). is_finite t.coefficient ≡ true) (kept_terms cut ts)
unfolding kept_terms finite_terms
kept-finite cut [] e = tt
kept-finite cut (t ∷ ts) e = go (near_zero cut t.coefficient) (kept-finite cut ts (right (is_finite t.coefficient) (finite_terms ts) e))
  where
    go : (z : Bool) → All (λ (t : Term). is_finite t.coefficient ≡ true) (kept_terms cut ts)
        → All (λ (t : Term). is_finite t.coefficient ≡ true) (elim z [ true ↦ kept_terms cut ts | false ↦ t ∷ kept_terms cut ts ])
    go true ih = ih
    go false ih = (left (is_finite t.coefficient) (finite_terms ts) e, ih)

-- an edit's term is kept: 1 is above every cutoff
kept-edit : (cut : Float) (n : ℕ) → cutoff_fits cut ≡ true → kept_terms cut (edit_terms n) ≡ edit_terms n
unfolding kept_terms edit_terms
kept-edit cut n fits = rw (one_kept cut fits, kept_terms) refl

-- ---- a strength that is clipped, and isn't the required one

clip-finite : (s : Float) → is_finite (clip s) ≡ true
unfolding clip
clip-finite s = go (le s zero64) refl (lt s required) refl
  where
    held : (s : Float) → le s zero64 ≡ false → lt s required ≡ true → is_finite s ≡ true
    held nan l r = unfold lt in absurd (true≢false (sym r))
    held (inf true) l r = unfold le lt eq zero64 of_bits in absurd (true≢false l)
    held (inf false) l r = unfold lt required of_bits in absurd (true≢false (sym r))
    held (fin t m e) l r = unfold is_finite in refl

    go : (a : Bool) → le s zero64 ≡ a → (b : Bool) → lt s required ≡ b → is_finite (cond a zero64 (cond b s required)) ≡ true
    go true l b r = zero-finite
    go false l true r = held s l r
    go false l false r = unfold is_finite required of_bits in refl

pub clip-below : (s : Float) → eq (clip s) required ≡ false → lt (clip s) required ≡ true
unfolding clip
clip-below s e = go (le s zero64) (lt s required) refl e
  where
    go : (a b : Bool) → lt s required ≡ b → eq (cond a zero64 (cond b s required)) required ≡ false → lt (cond a zero64 (cond b s required)) required ≡ true
    go true b r e = unfold zero64 required lt of_bits in refl
    go false true r e = r
    go false false r e = unfold required eq of_bits in absurd (true≢false e)

-- its marker is an Error
edit-marker : (terms : List Term) (k s : Float) (w : Work) → lt s required ≡ true → is_error (create_row terms k (equal s) w).tag.marker ≡ true
unfolding create_row add_tag
edit-marker terms k s w e = go (below_zero c.row.constant)
  where
    b : Building
    b = insert_terms w.tableau.cutoff terms (record { work = w; row = record { constant = k; cells = map (λ _. zero64) w.tableau.symbols } })

    c : Created
    c = add_tag (equal s) b

    made : Bool → Created
    made t = elim t [ true ↦ soft_equality s b | false ↦ required_equality b ]

    one : is_error (made (lt s required)).tag.marker ≡ true
    one = rw e (unfold soft_equality tagged new_symbol is_error in refl)

    signed : Bool → Created
    signed t = elim t [ false ↦ c | true ↦ record { work = c.work; row = reverse_sign c.row; tag = c.tag } ]

    go : (t : Bool) → is_error (signed t).tag.marker ≡ true
    go false = one
    go true = one

-- ---- the calls

conclude_add-reads : (s : State) (o : Outcome Added) (next : Added → State) → Reads s → Ends (λ a. Reads (next a)) o → Reads (conclude_add s o next).state
unfolding conclude_add refused_by accepted_as
conclude_add-reads s (refused n p m) next r h = r
conclude_add-reads s (going a) next r h = h

plain : (s : State) → (begin s).artificial ≡ none
unfolding begin
plain s = refl

module _ (g n : ℕ) (terms : List Term) (constant : Float) (r : Relation) (s : State) (reads : Reads s) (pass : first_refusal (add_tests g n terms constant r s) ≡ none) where
  tests : ((not (finite_terms terms && is_finite constant && is_finite (strength_of r))) ≡ false) × (ltb 16 (length terms) ≡ false) × (has_constraint n s ≡ false) × (constraints_full s ≡ false) × (variables_full terms s ≡ false)
  unfolding add_tests
  tests =
      let a = passed _ _ (passed _ _ pass).1 in
      let b = passed _ _ a.1 in
      let c = passed _ _ b.1 in
      let d = passed _ _ c.1 in
      let e = passed _ _ d.1 in
      let f = passed _ _ e.1 in
      (a.0, c.0, d.0, e.0, f.0)

  grouped : ltb 0 g ≡ true
  unfolding add_tests
  grouped = above g (passed _ _ pass).0
    where
      above : (g : ℕ) → eqb g 0 ≡ false → ltb 0 g ≡ true
      above zero e = absurd (true≢false e)
      above (suc g) e = truly (ltb 0 (suc g)) (lt→ltb 0 (suc g) (omega arith))

  finite : (finite_terms terms && is_finite constant && is_finite (strength_of r)) ≡ true
  finite = not-false _ tests.0

  terms-finite : finite_terms terms ≡ true
  terms-finite = left (finite_terms terms) (is_finite constant) (left (finite_terms terms && is_finite constant) (is_finite (strength_of r)) finite)

  constant-finite : is_finite constant ≡ true
  constant-finite = right (finite_terms terms) (is_finite constant) (left (finite_terms terms && is_finite constant) (is_finite (strength_of r)) finite)

  few : length s.constraints + length s.edits < 48
  few = room s tests.3

  few-vars : length s.changes.variables + length (new_variables s.changes.variables [] (kept_terms s.tableau.cutoff terms)) ≤ 32
  few-vars = places terms s tests.4

  unused : times n (map con_number s.constraints) ≡ 0
  unfolding has_constraint
  unused = go (find_constraint n s.constraints) refl tests.2
    where
      go : (o : Option Constraint) → find_constraint n s.constraints ≡ o → elim o [ none ↦ false | some c ↦ true ] ≡ false
          → times n (map con_number s.constraints) ≡ 0
      go none e q = find_none con_number n s.constraints (sym (find_constraint-is n s.constraints) ∙ e)
      go (some c) e q = absurd (true≢false q)

  added-reads : (c : Created) (a : Added) → tag_kinds (strength_of r) c.tag ≡ true → marker_fits (comparison_of r) c.tag.marker ≡ true
      → AddedOk (λ m. tags_by m s.constraints s.edits) (λ m. uses_in m (kept_terms s.tableau.cutoff terms) + used_by m s.constraints s.edits)
      (suc (length s.tableau.rows)) (length s.changes.variables + length (new_variables s.changes.variables [] (kept_terms s.tableau.cutoff terms))) c a
      → Reads (finish a.work (keep_constraint (record { number = n; group = g; comparison = comparison_of r; strength = strength_of r; constant = constant; terms = kept_terms s.tableau.cutoff terms; tag = a.tag }) s.constraints) s.edits)
  added-reads c a kinds marker h =
      finish-reads a.work cs s.edits (good-to _ _ _ _ a.work tags uses h.stands.good) h.stands.fine stored
      (omega (arith, h.stands.size, few-vars)) (omega (arith, h.stands.rows, reads.few-rows, size))
    where
      con : Constraint
      con = record { number = n; group = g; comparison = comparison_of r; strength = strength_of r; constant = constant; terms = kept_terms s.tableau.cutoff terms; tag = a.tag }

      cs : List Constraint
      cs = keep_constraint con s.constraints

      old : Stored s.constraints s.edits
      old = stored-in s reads

      size : length cs ≡ suc (length s.constraints)
      size = rw keep_constraint-is (keep-length con_number con s.constraints)

      part : (f : Constraint → ℕ) → total f cs ≡ f con + total f s.constraints
      part f = rw keep_constraint-is (keep-total con_number f con s.constraints)

      more : (P : Constraint → Type 0) → P con → All P s.constraints → All P cs
      more P p k = rw keep_constraint-is (keep_all con_number P con s.constraints p k)

      tags : (m : ℕ) → tag_code m c.tag + tags_by m s.constraints s.edits ≡ tags_by m cs s.edits
      tags m = omega (arith, part (λ (c : Constraint). tag_code m c.tag), ap (tag_code m) h.tag)

      uses : (m : ℕ) → uses_in m (kept_terms s.tableau.cutoff terms) + used_by m s.constraints s.edits ≡ used_by m cs s.edits
      uses m = omega (arith, part (λ (c : Constraint). uses_in m c.terms))

      stored : Stored cs s.edits
      stored =
          record {
            few-tags = omega (arith, size, few);
            few-terms = more _ (omega (arith, kept-length s.tableau.cutoff terms, at_most 16 (length terms) tests.1)) old.few-terms;
            constraints-up = rw keep_constraint-is (keep-up con_number 0 con s.constraints (omega arith) unused old.constraints-up);
            edits-up = old.edits-up;
            constraints-finite =
                more (λ (c : Constraint). constraint_finite c ≡ true)
                (unfold constraint_finite in both (both (right (finite_terms terms && is_finite constant) (is_finite (strength_of r)) finite) constant-finite)
                (all-out _ (kept_terms s.tableau.cutoff terms) (kept-finite s.tableau.cutoff terms terms-finite))) old.constraints-finite;
            constraint-kinds =
                more (λ (c : Constraint). tag_kinds c.strength c.tag ≡ true) (subst (λ (t : Tag). tag_kinds (strength_of r) t ≡ true) (sym h.tag) kinds)
                old.constraint-kinds;
            constraint-markers =
                more (λ (c : Constraint). marker_fits c.comparison c.tag.marker ≡ true)
                (subst (λ (t : Tag). marker_fits (comparison_of r) t.marker ≡ true) (sym h.tag) marker) old.constraint-markers;
            edits-finite = old.edits-finite;
            edit-kinds = old.edit-kinds;
            groups = more (λ (c : Constraint). ltb 0 c.group ≡ true) grouped old.groups;
          }

pub add_kept : (g n : ℕ) (terms : List Term) (constant : Float) (r : Relation) (budget : ℕ) (s : State) → Reads s → Reads (add g n terms constant r budget s).state
unfolding add refused_by
add_kept g n terms constant r budget s reads = go (first_refusal (add_tests g n terms constant r s)) refl
  where
    go : (o : Option ℕ) → first_refusal (add_tests g n terms constant r s) ≡ o → Reads (add g n terms constant r budget s).state
    go (some k) e = rw (e, add) reads
    go none e =
        rw (e, add) (conclude_add-reads s (add_steps budget terms constant r (begin s))
        (λ a. finish a.work (keep_constraint (record { number = n; group = g; comparison = comparison_of r; strength = strength_of r; constant = constant; terms = kept_terms s.tableau.cutoff terms; tag = a.tag }) s.constraints)
        s.edits) reads
        (ends-to _ _ (add_steps budget terms constant r (begin s))
        (add-ends budget terms constant r _ _ (begin s) (begin-good s reads) (plain s) (constant-finite g n terms constant r s reads e))
        (λ a h. unfold begin in added-reads g n terms constant r s reads e _ a (create_row-kinds terms constant r _) (create_row-marker terms constant r _) h)))

module _ (n : ℕ) (strength : Float) (s : State) (reads : Reads s) (pass : first_refusal (add_edit_tests n strength s) ≡ none) where
  edit-tests : (has_edit n s ≡ false) × (eq strength required ≡ false) × (constraints_full s ≡ false) × (variables_full (edit_terms n) s ≡ false)
  unfolding add_edit_tests
  edit-tests =
      let a = passed _ _ pass in
      let b = passed _ _ a.1 in
      let c = passed _ _ b.1 in
      let d = passed _ _ c.1 in
      (a.0, b.0, c.0, d.0)

  free : times n (map edit_number s.edits) ≡ 0
  unfolding has_edit
  free = go (find_edit n s.edits) refl edit-tests.0
    where
      go : (o : Option Edit) → find_edit n s.edits ≡ o → elim o [ none ↦ false | some c ↦ true ] ≡ false → times n (map edit_number s.edits) ≡ 0
      go none e q = find_none edit_number n s.edits (sym (find_edit-is n s.edits) ∙ e)
      go (some c) e q = absurd (true≢false q)

  edit-reads : is_finite strength ≡ true → (c : Created) (a : Added) → is_error c.tag.marker ≡ true → tag_kinds strength c.tag ≡ true
      → AddedOk (λ m. tags_by m s.constraints s.edits) (λ m. uses_in m (kept_terms s.tableau.cutoff (edit_terms n)) + used_by m s.constraints s.edits)
      (suc (length s.tableau.rows)) (length s.changes.variables + length (new_variables s.changes.variables [] (kept_terms s.tableau.cutoff (edit_terms n)))) c a
      → Reads (finish a.work s.constraints (keep_edit (record { variable = n; strength = strength; tag = a.tag; suggestion = zero64 }) s.edits))
  edit-reads held c a marker kinds h =
      finish-reads a.work s.constraints es (good-to _ _ _ _ a.work tags uses h.stands.good) h.stands.fine stored
      (omega (arith, h.stands.size, places (edit_terms n) s edit-tests.3)) (omega (arith, h.stands.rows, reads.few-rows, size))
    where
      edit : Edit
      edit = record { variable = n; strength = strength; tag = a.tag; suggestion = zero64 }

      es : List Edit
      es = keep_edit edit s.edits

      old : Stored s.constraints s.edits
      old = stored-in s reads

      size : length es ≡ suc (length s.edits)
      size = rw keep_edit-is (keep-length edit_number edit s.edits)

      part : (f : Edit → ℕ) → total f es ≡ f edit + total f s.edits
      part f = rw keep_edit-is (keep-total edit_number f edit s.edits)

      more : (P : Edit → Type 0) → P edit → All P s.edits → All P es
      more P p k = rw keep_edit-is (keep_all edit_number P edit s.edits p k)

      tags : (m : ℕ) → tag_code m c.tag + tags_by m s.constraints s.edits ≡ tags_by m s.constraints es
      tags m = omega (arith, part (λ (e : Edit). tag_code m e.tag), ap (tag_code m) h.tag)

      uses : (m : ℕ) → uses_in m (kept_terms s.tableau.cutoff (edit_terms n)) + used_by m s.constraints s.edits ≡ used_by m s.constraints es
      uses m = omega (arith, part (λ (e : Edit). uses_in m (edit_terms e.variable)), ap (uses_in m) (kept-edit s.tableau.cutoff n reads.cutoff))

      stored : Stored s.constraints es
      stored =
          record {
            few-tags = omega (arith, size, room s edit-tests.2);
            few-terms = old.few-terms;
            constraints-up = old.constraints-up;
            edits-up = rw keep_edit-is (keep-up edit_number 0 edit s.edits (omega arith) free old.edits-up);
            constraints-finite = old.constraints-finite;
            constraint-kinds = old.constraint-kinds;
            constraint-markers = old.constraint-markers;
            edits-finite = more (λ (e : Edit). edit_finite e ≡ true) (unfold edit_finite in both held zero-finite) old.edits-finite;
            edit-kinds =
                more (λ (e : Edit). edit_kinds e ≡ true)
                (unfold edit_kinds in both (ap (λ (t : Tag). is_error t.marker) h.tag ∙ marker) (ap (tag_kinds strength) h.tag ∙ kinds)) old.edit-kinds;
            groups = old.groups;
          }

pub add_edit-kept : (n : ℕ) (strength : Float) (budget : ℕ) (s : State) → Reads s → Reads (add_edit n strength budget s).state
unfolding add_edit refused_by add_edit_steps
add_edit-kept n strength budget s reads = go (first_refusal (add_edit_tests n (clip strength) s)) refl
  where
    go : (o : Option ℕ) → first_refusal (add_edit_tests n (clip strength) s) ≡ o → Reads (add_edit n strength budget s).state
    go (some k) e = rw (e, add_edit) reads
    go none e =
        rw (e, add_edit) (conclude_add-reads s (add_steps budget (edit_terms n) zero64 (equal (clip strength)) (begin s))
        (λ a. finish a.work s.constraints (keep_edit (record { variable = n; strength = clip strength; tag = a.tag; suggestion = zero64 }) s.edits)) reads
        (ends-to _ _ (add_steps budget (edit_terms n) zero64 (equal (clip strength)) (begin s))
        (add-ends budget (edit_terms n) zero64 (equal (clip strength)) _ _ (begin s) (begin-good s reads) (plain s) zero-finite)
        (λ a h. unfold begin strength_of in edit-reads n (clip strength) s reads e (clip-finite strength) _ a
        (edit-marker (edit_terms n) zero64 (clip strength) _ (clip-below strength (edit-tests n (clip strength) s reads e).1))
        (create_row-kinds (edit_terms n) zero64 (equal (clip strength)) _) h)))
