-- The edit record by value; and one suggestion changed: the edits are those that the steps store.
-- Assumes nothing.
use Rattle.std.specs.Prelude.{ℕ, zero, suc, ◌+◌, ◌≤◌, ◌<◌, ◌≡◌, true, false, List, [], ◌∷◌, eqb, ltb, Float, length, get_or, set}
use Rattle.std.proofs.Math.Path.{refl, sym}
use Rattle.std.proofs.Common.{ap, ◌∙◌, not-suc-le-zero, le_of_suc-le-suc, add-zero, zero-add, arith, length-set, get_or-set_other, eq-eqb, ne_eqb, lt-ltb, le-ltb}
use Rattle.std.specs.Float.Ieee.{nan}
use Rattle.std.proofs.Math.Seq.{get_or-set_same}
use Rattle.laws.specs.Lists.{tab, tab-ext, list_of}
use Rattle.layout.specs.Laying.{list_ext}
use Rattle.layout.proofs.Copied.{length-list_of, get_or-list_of}
use Rattle.steps.specs.State.{Constraint, Edit}
use Rattle.steps.specs.Tests.{keep_edit, drop_edit}
use Rattle.sparse.specs.Places.{most_constraints, term_counts_at, edit_markers_at, edit_others_at, constraint_strengths_at, edit_strengths_at, suggestions_at, coefficients_at, constraint_constants_at}
use Rattle.sparse.specs.Sparse.{Sparse, constraint_count, edit_count, symbol_at, other_at, number_at, terms_from, term_of, constraint_of, edit_of, read}
use Rattle.sparse.specs.Write.{no_edit}
use Rattle.sparse.specs.Form.{index_at, Form}
use Rattle.stored.specs.declared.record.EditRecord.{EditRecord}
use Rattle.stored.specs.Beside.{Beside, Own, own, tableau-beside, changes-beside}
use Rattle.stored.specs.Ended.{Kept, room_of}
use Rattle.stored.specs.Ends.{constraints-read, edits-read}
use Rattle.stored.specs.Came.{tag_in}

-- ---- the record

abbrev pub edit_record : ℕ → ℕ → Float → EditRecord
edit_record m o x = record { marker = m; other = o; suggestion = x }

unfoldable pub edit_record_at : ℕ → List ℕ → List Float → EditRecord
edit_record_at j bytes reals = edit_record (get_or bytes (edit_markers_at + j) 0) (get_or bytes (edit_others_at + j) 0) (get_or reals (suggestions_at + j) nan)

abbrev pub with_suggestion : Float → EditRecord → EditRecord
with_suggestion x r = edit_record r.marker r.other x

-- "An edit record holds two symbols and the last suggestion as an f64."
pub record-read : (t : Sparse) (j : ℕ)
    → ((edit_of t j).tag ≡ tag_in t (edit_record_at j t.bytes t.reals).marker (edit_record_at j t.bytes t.reals).other)
    × ((edit_of t j).suggestion ≡ (edit_record_at j t.bytes t.reals).suggestion)
unfolding edit_of edit_record_at
record-read t j = (refl, refl)

-- ---- an edit put in its place

-- by ascending variable number
abbrev pub Ascending : List Edit → Type 0
Ascending l = (i k : ℕ) → i < k → k < length l → (get_or l i no_edit).variable < (get_or l k no_edit).variable

keep-here : (y x : Edit) (l : List Edit) → ltb y.variable x.variable ≡ true → keep_edit y (x ∷ l) ≡ y ∷ x ∷ l
unfolding keep_edit
keep-here y x l e = rw (e, keep_edit) refl

keep-on : (y x : Edit) (l : List Edit) → ltb y.variable x.variable ≡ false → keep_edit y (x ∷ l) ≡ x ∷ keep_edit y l
unfolding keep_edit
keep-on y x l e = rw (e, keep_edit) refl

drop_here : (n : ℕ) (x : Edit) (l : List Edit) → eqb n x.variable ≡ true → drop_edit n (x ∷ l) ≡ l
unfolding drop_edit
drop_here n x l e = rw (e, drop_edit) refl

drop-on : (n : ℕ) (x : Edit) (l : List Edit) → eqb n x.variable ≡ false → drop_edit n (x ∷ l) ≡ x ∷ drop_edit n l
unfolding drop_edit
drop-on n x l e = rw (e, drop_edit) refl

keep-first : (e x : Edit) (xs : List Edit) → e.variable ≡ x.variable → Ascending (x ∷ xs) → keep_edit e xs ≡ e ∷ xs
unfolding keep_edit
keep-first e x [] q up = refl
keep-first e x (y ∷ ys) q up =
    let h : x.variable < y.variable = up 0 1 (omega arith) (omega arith) in
    keep-here e y ys (lt-ltb e.variable y.variable (omega (arith, h, q)))

pub stored-in-place : (e : Edit) (l : List Edit) (j : ℕ) → j < length l → e.variable ≡ (get_or l j no_edit).variable → Ascending l → keep_edit e (drop_edit e.variable l) ≡ set l j e
stored-in-place e [] j h q up = absurd (not-suc-le-zero h)
stored-in-place e (x ∷ xs) zero h q up = rw (drop_here e.variable x xs (eq-eqb e.variable x.variable q)) (keep-first e x xs q up)
stored-in-place e (x ∷ xs) (suc j) h q up =
    let b : x.variable < (get_or xs j no_edit).variable = up 0 (suc j) (omega arith) h in
    let rest : keep_edit e (drop_edit e.variable xs) ≡ set xs j e = stored-in-place e xs j (le_of_suc-le-suc h) q (λ i k a c. up (suc i) (suc k) (omega (arith, a)) (omega (arith, c))) in
    let left : drop_edit e.variable (x ∷ xs) ≡ x ∷ drop_edit e.variable xs = drop-on e.variable x xs (ne_eqb e.variable x.variable (λ z. omega (arith, z, b, q))) in
    let on : keep_edit e (x ∷ drop_edit e.variable xs) ≡ x ∷ keep_edit e (drop_edit e.variable xs) = keep-on e x (drop_edit e.variable xs) (le-ltb e.variable x.variable (omega (arith, b, q))) in
    rw left (on ∙ ap (λ (r : List Edit). x ∷ r) rest)

-- one element of a list that is read place by place
tab-but : {A : Type 0} (g f : ℕ → A) (i n j : ℕ) (x : A) → j < n → g (i + j) ≡ x → ((m : ℕ) → i ≤ m → m < i + n → (m ≡ i + j → ⊥) → g m ≡ f m) → tab g i n ≡ set (tab f i n) j x
unfolding tab
tab-but g f i zero j x h e q = absurd (not-suc-le-zero h)
tab-but g f i (suc n) zero x h e q =
    let here : g i ≡ x = rw (add-zero i) at e in
    rw (here, tab-ext g f (suc i) n λ m b c. q m (omega (arith, b)) (omega (arith, c)) (λ z. omega (arith, b, z)))
tab-but {A} g f i (suc n) (suc j) x h e q =
    let z : i + suc j ≡ suc i + j = omega arith in
    rw (q i (omega arith) (omega arith) (λ b. omega (arith, b))) (ap (λ (r : List A). f i ∷ r) (tab-but g f (suc i) n j x (le_of_suc-le-suc h) (rw z at e) λ m b c d. q m (omega (arith, b)) (omega (arith, c)) (λ y. d (y ∙ z))))

-- ---- the room with another suggestion

abbrev pub with_real : Sparse → ℕ → Float → Sparse
with_real u q x = room_of u u.words u.bytes (set u.reals q x)

abbrev pub suggested_edit : Edit → Float → Edit
suggested_edit e x = record { variable = e.variable; strength = e.strength; tag = e.tag; suggestion = x }

module _ (w u : Sparse) (cs : List Constraint) (es : List Edit) (r : ℕ) (kept : Kept w u cs es r) (j : ℕ) (x : Float) (in-range : j < edit_count u) where
  abbrev u' : Sparse
  u' = with_real u (suggestions_at + j) x

  few : j < most_constraints
  few = let f = kept.form.counts.edits in omega (arith, in-range, f)

  real : (q : ℕ) → (q ≡ suggestions_at + j → ⊥) → get_or u'.reals q nan ≡ get_or u.reals q nan
  real q h = get_or-set_other u.reals (suggestions_at + j) q x nan h

  beside : Beside u u'
  beside =
      let f = few in
      record { words = λ q a b c. refl; gone = λ q a. refl; bytes = λ q a. refl; reals = λ q a. real q (λ e. omega (arith, e, a)); keys = refl; values = refl }

  o : Own u
  o = own u kept.form kept.apart

  -- names are words' and bytes'
  number_same : (p : ℕ) → number_at u' p ≡ number_at u p
  number_same p = unfold number_at in refl

  symbol-same : (p : ℕ) → symbol_at u' p ≡ symbol_at u p
  symbol-same p = unfold symbol_at in refl

  other-same : (p : ℕ) → other_at u' p ≡ other_at u p
  other-same p = unfold other_at symbol_at in refl

  terms-same : (i : ℕ) → terms_from u' i ≡ terms_from u i
  terms-same i = unfold terms_from in refl

  term-same : (a k : ℕ) → term_of u' a k ≡ term_of u a k
  unfolding term_of
  term-same a k = let f = few in rw (number_same, real (coefficients_at + (a + k)) (λ e. omega (arith, e, f))) refl

  constraint-same : (i : ℕ) → i < constraint_count u → constraint_of u' i ≡ constraint_of u i
  unfolding constraint_of
  constraint-same i h =
      let f = kept.form.counts.constraints in
      let g = few in
      let ts : list_of (get_or u.bytes (term_counts_at + i) 0) (term_of u' (terms_from u i)) ≡ list_of (get_or u.bytes (term_counts_at + i) 0) (term_of u (terms_from u i)) = list_ext _ _ _ (λ k l. term-same (terms_from u i) k) in
      rw (real (constraint_strengths_at + i) (λ e. omega (arith, e, h, f)), real (constraint_constants_at + i) (λ e. omega (arith, e, g)), terms-same i, ts, symbol-same, other-same) refl

  edit-other : (i : ℕ) → i < edit_count u → (i ≡ j → ⊥) → edit_of u' i ≡ edit_of u i
  unfolding edit_of
  edit-other i h n =
      let f = kept.form.counts.edits in
      rw (number_same, real (edit_strengths_at + i) (λ e. omega (arith, e, h, f)), symbol-same, other-same, real (suggestions_at + i) (λ e. n (omega (arith, e)))) refl

  edit-here : edit_of u' j ≡ suggested_edit (edit_of u j) x
  unfolding edit_of
  edit-here =
      let f = few in
      let l = kept.lengths.3 in
      rw (number_same, real (edit_strengths_at + j) (λ e. omega (arith, e, f)), symbol-same, other-same, get_or-set_same u.reals (suggestions_at + j) x nan (omega (arith, f, l))) refl

  edits-set : (read u').edits ≡ set es j (suggested_edit (edit_of u j) x)
  edits-set =
      edits-read u' ∙ at-tab ∙ ap (λ (l : List Edit). set l j (suggested_edit (edit_of u j) x)) (sym (edits-read u) ∙ kept.edits)
    where
      at-tab : list_of (edit_count u) (edit_of u') ≡ set (list_of (edit_count u) (edit_of u)) j (suggested_edit (edit_of u j) x)
      at-tab = unfold list_of in (tab-but (edit_of u') (edit_of u) 0 (edit_count u) j (suggested_edit (edit_of u j) x) in-range (rw (zero-add j) edit-here) (λ m a b c. edit-other m (omega (arith, b)) (λ e. c (e ∙ sym (zero-add j)))))

  form-same : Form u'
  unfolding index_at terms_from
  form-same =
      let f = kept.form in
      let c = f.counts in
      record {
        counts = record { symbols = c.symbols; rows = c.rows; cells = c.cells; variables = c.variables; constraints = c.constraints; edits = c.edits; terms = c.terms; gone = c.gone };
        clear = f.clear;
        whole = f.whole;
        ids = f.ids;
        kinds = f.kinds;
        rows = f.rows;
        cells = f.cells;
        numbers = f.numbers;
        owners = f.owners;
        changed = f.changed;
        markers = f.markers;
        others = f.others;
        relations = f.relations;
        edited = f.edited;
        pluses = f.pluses;
        minuses = f.minuses;
        named = f.named;
      }

  -- an accepted suggestion: the j-th edit is the variable n's
  pub suggestion-kept : (n : ℕ) → n ≡ (edit_of u j).variable → Ascending es → Kept w u' cs (keep_edit (record { variable = n; strength = (edit_of u j).strength; tag = (edit_of u j).tag; suggestion = x }) (drop_edit n es)) r
  suggestion-kept n e up =
      let l = kept.lengths in
      record {
        constraints = constraints-same ∙ kept.constraints;
        edits = edits-set ∙ sym (rw e (stored-in-place (suggested_edit (edit_of u j) x) es j (omega (arith, in-range, lengths)) (sym at_j) up));
        tableau = tableau-beside u u' o beside ∙ kept.tableau;
        changes = changes-beside u u' o beside ∙ kept.changes;
        whole = kept.whole;
        form = form-same;
        apart = kept.apart;
        terms = kept.terms ∙ sym (terms-same (constraint_count u));
        lengths = (l.0, l.1, l.2, length-set u.reals (suggestions_at + j) x ∙ l.3, l.4);
      }
    where
      constraints-same : (read u').constraints ≡ (read u).constraints
      constraints-same = constraints-read u' ∙ list_ext _ _ _ constraint-same ∙ sym (constraints-read u)

      listed : es ≡ list_of (edit_count u) (edit_of u)
      listed = sym kept.edits ∙ edits-read u

      lengths : length es ≡ edit_count u
      lengths = rw listed (length-list_of (edit_count u) (edit_of u))

      at_j : (get_or es j no_edit).variable ≡ (edit_of u j).variable
      at_j = rw listed (ap (λ (e : Edit). e.variable) (get_or-list_of (edit_count u) (edit_of u) j no_edit in-range))
