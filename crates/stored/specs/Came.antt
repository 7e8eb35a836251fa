-- A constraint or an edit let in among the others: what the room reads as, in the steps' words.
-- Assumes nothing.
use Rattle.std.specs.Prelude.{ℕ, ◌+◌, ◌≤◌, ◌<◌, ◌≡◌, Bool, true, false, List, [], ◌∷◌, ltb, Float, get_or}
use Rattle.std.proofs.Math.Path.{refl}
use Rattle.std.proofs.Common.{sym, ap, ◌∙◌, add-zero, arith, lt-ltb, le-ltb, le-leb}
use Rattle.std.specs.Float.{nan}
use Rattle.laws.specs.Lists.{list_of, sum_in}
use Rattle.layout.specs.Layout.{comparison_in, term_room}
use Rattle.layout.specs.Copy.{most16}
use Rattle.layout.specs.Laying.{list_ext}
use Rattle.layout.proofs.Copied.{length-list_of, get_or-list_of}
use Rattle.steps.specs.Number.{zero64}
use Rattle.steps.specs.State.{Tag, Constraint, Edit}
use Rattle.steps.specs.Tests.{keep_constraint, keep_edit}
use Rattle.keeps.specs.Lists.{All}
use Rattle.changes.specs.declared.terms.Pack.{Pack}
use Rattle.changes.specs.terms.Terms as terms
use Rattle.sparse.specs.Places.{most_constraints, most_terms, constraint_numbers_at, constraint_groups_at, constraint_markers_at, constraint_others_at, term_counts_at, edit_variables_at, edit_markers_at, edit_others_at, terms_at, relations_at, constraint_strengths_at, edit_strengths_at, suggestions_at, coefficients_at, constraint_constants_at}
use Rattle.sparse.specs.Sparse.{Sparse, symbol_count, variable_count, constraint_count, edit_count, symbol_at, other_at, number_at, terms_from, term_of, constraint_of, edit_of, read}
use Rattle.sparse.specs.Write.{no_term}
use Rattle.sparse.specs.Form.{index_at, At}
use Rattle.stored.specs.declared.parts.Plan.{Plan}
use Rattle.stored.specs.Parts.{Region, past, source, target, size, source_size, target_size, all_of, opened}
use Rattle.stored.specs.Maps.{counts_in}
use Rattle.stored.specs.Moved.{terms_plan, sum_one}
use Rattle.stored.specs.Put.{number_of, ConstraintKept, EditKept}
use Rattle.stored.specs.Listed.{kept-listed}
use Rattle.stored.specs.Beside.{Beside, Own, own, own-beside, beside-join, symbols-beside, symbol-beside, other-beside}
use Rattle.stored.specs.Holds.{Known, HoldsC, HoldsE, placed-known, constraint-beside, edit-beside}
use Rattle.stored.specs.Reading.{starts, kept-constraint, kept-edit}
use Rattle.stored.specs.Ended.{Ready, room_of, Kept, GapForm, all-at, moved-beside, ended}
use Rattle.stored.specs.Ends.{past-none, none-gapped, terms-free, everything, all_hold, constraints-read, edits-read}

-- the tag of two places
abbrev pub tag_in : Sparse → ℕ → ℕ → Tag
tag_in w marker other = record { marker = symbol_at w marker; other = other_at w other }

-- the constraint that comes in, and the edit
abbrev pub new_constraint : Sparse → ℕ → ℕ → ℕ → ℕ → ℕ → Float → Float → Pack → Constraint
new_constraint w n g marker other relation strength constant p =
    record { number = n; group = g; comparison = comparison_in relation; strength = strength; constant = constant; terms = terms.terms_of p; tag = tag_in w marker other }

abbrev pub new_edit : Sparse → ℕ → ℕ → ℕ → Float → Edit
new_edit w n marker other strength = record { variable = n; strength = strength; tag = tag_in w marker other; suggestion = zero64 }

-- the one place of a gap of one
one : (P : ℕ → Type 0) (i : ℕ) → P i → (k : ℕ) → k < 1 → P (i + k)
one P i h k l =
    let z : i + k ≡ i = omega (arith, l) in
    rw z h

gap-one : {A : Type 0} (z : A) (f : A → A) (at : ℕ) (p : Plan) (from w u : List A) → p.free ≡ 1 → Region z f at p from w u → get_or u (at + p.at) z ≡ get_or w (at + p.at) z
gap-one z f at p from w u e r =
    let o : p.at + 0 ≡ p.at = add-zero p.at in
    rw o at (r.gap 0 (omega (arith, e)))

sixteen : (n : ℕ) → n ≤ term_room → most16 n ≡ n
unfolding most16
sixteen n h = rw (le-leb n term_room h) refl

-- ---- by ascending number

abbrev above : ℕ → Constraint → Bool
above n c = ltb n c.number

abbrev above_edit : ℕ → Edit → Bool
above_edit n e = ltb n e.variable

constraint-here : (y x : Constraint) (l : List Constraint) → above y.number x ≡ true → keep_constraint y (x ∷ l) ≡ y ∷ x ∷ l
unfolding keep_constraint
constraint-here y x l e = rw (e, keep_constraint) refl

constraint-on : (y x : Constraint) (l : List Constraint) → above y.number x ≡ false → keep_constraint y (x ∷ l) ≡ x ∷ keep_constraint y l
unfolding keep_constraint
constraint-on y x l e = rw (e, keep_constraint) refl

constraint-end : (y : Constraint) → keep_constraint y [] ≡ y ∷ []
unfolding keep_constraint
constraint-end y = refl

edit-here : (y x : Edit) (l : List Edit) → above_edit y.variable x ≡ true → keep_edit y (x ∷ l) ≡ y ∷ x ∷ l
unfolding keep_edit
edit-here y x l e = rw (e, keep_edit) refl

edit-on : (y x : Edit) (l : List Edit) → above_edit y.variable x ≡ false → keep_edit y (x ∷ l) ≡ x ∷ keep_edit y l
unfolding keep_edit
edit-on y x l e = rw (e, keep_edit) refl

edit-end : (y : Edit) → keep_edit y [] ≡ y ∷ []
unfolding keep_edit
edit-end y = refl

-- those kept around the gap
around : {A : Type 0} (i n : ℕ) (f g : ℕ → A) → ((k : ℕ) → k < size (opened i n) → f (target (opened i n) k) ≡ g (source (opened i n) k)) → i ≤ n → (k : ℕ) → k < n → f (past i 1 k) ≡ g k
around i n f g h l k a = h k (omega (arith, a, l)) ∙ ap g (past-none i k)

hold-around : {A : Type 0} (Q : A → Type 0) (i n : ℕ) (f : ℕ → A) → i ≤ n → All Q (list_of n f) → (k : ℕ) → k < size (opened i n) → Q (f (source (opened i n) k))
hold-around Q i n f l h k a = rw (past-none i k) (all-at Q f n h k (omega (arith, a, l)))

-- ---- a constraint

module _ (t w : Sparse) (ready : Ready t w) (uw ub : List ℕ) (ur : List Float) (r n g marker other relation : ℕ) (strength constant : Float) (p : Pack)
    (raw : ConstraintKept n g marker other relation strength constant p t.words t.bytes t.reals w.words w.bytes w.reals uw ub ur r) where
  abbrev u : Sparse
  u = room_of w uw ub ur

  abbrev v : Sparse
  v = room_of w raw.mw raw.mb raw.mr

  abbrev i : ℕ
  i = raw.at

  abbrev c : Plan
  c = opened i (constraint_count t)

  abbrev e : Plan
  e = all_of (edit_count t)

  abbrev s : Plan
  s = terms_plan (counts_in t.bytes) c p.count

  abbrev y : Constraint
  y = new_constraint w n g marker other relation strength constant p

  o : Own w
  o = own w ready.room ready.own

  b : Beside w v
  b = record { words = λ q h x z. raw.put.words q h; gone = raw.put.gone; bytes = raw.put.bytes; reals = raw.put.reals; keys = refl; values = refl }

  ov : Own v
  ov = own-beside w v o b

  d : Beside v u
  d = moved-beside t v u c e p.count r raw.moved refl refl

  bu : Beside w u
  bu = beside-join w v u b d

  in-range : i ≤ constraint_count t
  in-range = raw.sought.high

  all-c : source_size c ≡ constraint_count t
  all-c = let h = in-range in omega (arith, h)

  all-e : source_size e ≡ edit_count t
  all-e = omega arith

  count-in : get_or ub (term_counts_at + i) 0 ≡ p.count
  count-in = gap-one 0 _ term_counts_at c t.bytes raw.mb ub refl raw.moved.carried.bytes.counts ∙ raw.put.count

  gapped : sum_in (counts_in ub) i (i + 1) ≡ p.count
  gapped = sum_one (counts_in ub) i ∙ count-in

  -- where its terms begin
  begins : sum_in (counts_in ub) 0 i ≡ sum_in (counts_in t.bytes) 0 i
  begins = starts t v u ready.lent ov d c e p.count r raw.moved all-c gapped

  byte-in : (j : ℕ) → j < p.count → get_or ub (terms_at + (s.at + j)) 0 ≡ get_or raw.mb (terms_at + (s.at + j)) 0
  byte-in j h = raw.moved.carried.bytes.terms.gap j (let f = terms-free (counts_in t.bytes) c p.count in omega (arith, h, f))

  real-in : (j : ℕ) → j < p.count → get_or ur (coefficients_at + (s.at + j)) nan ≡ get_or p.coefs j nan
  real-in j h = raw.moved.carried.reals.coefficients.gap j (let f = terms-free (counts_in t.bytes) c p.count in omega (arith, h, f)) ∙ (unfold terms_plan in raw.put.coefficients j h)

  module _ (few : p.count ≤ term_room) (holds : HoldsC w y) where
    known : (j : ℕ) → j < p.count → Known w (get_or p.vars j 0)
    known j h = unfold terms.terms_of terms.term_of terms.term_in in
        (rw (get_or-list_of (most16 p.count) (λ j. terms.term_of (terms.term_in p j)) j no_term (rw (sixteen p.count few) h)) at (holds.terms j (rw (length-list_of (most16 p.count) (λ j. terms.term_of (terms.term_in p j)), sixteen p.count few) h)))

    variable-in : (j : ℕ) → j < p.count → (index_at u (get_or ub (terms_at + (s.at + j)) 0) < variable_count u) × (number_at u (get_or ub (terms_at + (s.at + j)) 0) ≡ get_or p.vars j 0)
    variable-in j h = rw (byte-in j h) (placed-known t w u ready.lent o bu (get_or p.vars j 0) (get_or raw.mb (terms_at + (s.at + j)) 0) (unfold terms_plan in raw.put.terms j h) (known j h))

    terms-in : list_of p.count (term_of u s.at) ≡ terms.terms_of p
    unfolding terms.terms_of terms.term_of terms.term_in term_of
    terms-in = rw (sixteen p.count few) (list_ext _ _ _ λ j h. rw ((variable-in j h).1, real-in j h) refl)

    module _ (marked : At w marker) (othered : other ≤ symbol_count w) (related : relation ≤ 2) where
      marker-in : get_or ub (constraint_markers_at + i) 0 ≡ marker
      marker-in = gap-one 0 _ constraint_markers_at c t.bytes raw.mb ub refl raw.moved.carried.bytes.markers ∙ raw.put.marker_at

      other-in : get_or ub (constraint_others_at + i) 0 ≡ other
      other-in = gap-one 0 _ constraint_others_at c t.bytes raw.mb ub refl raw.moved.carried.bytes.others ∙ raw.put.other_at

      number_in : get_or uw (constraint_numbers_at + i) 0 ≡ n
      number_in = gap-one 0 _ constraint_numbers_at c t.words raw.mw uw refl raw.moved.carried.words.numbers ∙ raw.put.number

      group-in : get_or uw (constraint_groups_at + i) 0 ≡ g
      group-in = gap-one 0 _ constraint_groups_at c t.words raw.mw uw refl raw.moved.carried.words.groups ∙ raw.put.group

      strength-in : get_or ur (constraint_strengths_at + i) nan ≡ strength
      strength-in = gap-one nan _ constraint_strengths_at c t.reals raw.mr ur refl raw.moved.carried.reals.strengths ∙ raw.put.strength_at

      relation-in : get_or ub (relations_at + i) 0 ≡ relation
      relation-in = gap-one 0 _ relations_at c t.bytes raw.mb ub refl raw.moved.carried.bytes.relations ∙ raw.put.relation_at

      constant-in : get_or ur (constraint_constants_at + i) nan ≡ constant
      constant-in = gap-one nan _ constraint_constants_at c t.reals raw.mr ur refl raw.moved.carried.reals.constants ∙ raw.put.constant_at

      constraint-in : constraint_of u i ≡ y
      unfolding constraint_of
      constraint-in =
          let f : terms_from u i ≡ s.at = unfold terms_from terms_plan in begins in
          rw (number_in, group-in, relation-in, strength-in, constant-in, count-in, f, terms-in, marker-in, symbol-beside w u o bu marker marked.1, other-in, other-beside w u o bu other othered) refl

      gap : GapForm c s e u
      gap =
          let k = symbols-beside w u o bu in
          record {
            markers = one (λ j. At u (get_or ub (constraint_markers_at + j) 0)) i (rw (marker-in, k) marked);
            others = one (λ j. get_or ub (constraint_others_at + j) 0 ≤ symbol_count u) i (rw (other-in, k) othered);
            relations = one (λ j. get_or ub (relations_at + j) 0 ≤ 2) i (rw relation-in related);
            terms = λ j h. (variable-in j (let f = terms-free (counts_in t.bytes) c p.count in omega (arith, h, f))).0;
            edited = λ j h. absurd (omega (arith, h));
            pluses = λ j h. absurd (omega (arith, h));
            minuses = λ j h. absurd (omega (arith, h));
          }

      pub constraint-kept : constraint_count t < most_constraints → terms_from t (constraint_count t) + p.count ≤ most_terms → All (HoldsC w) (read t).constraints → All (HoldsE w) (read t).edits → Kept w u (keep_constraint y (read t).constraints) (read t).edits r
      constraint-kept room fits hc he =
          let h = in-range in
          let f = ready.lent.counts.edits in
          let l = ready.lengths in
          let put = raw.put.long in
          let car = raw.moved.carried in
          ended t w v u ready.lent o b d c e p.count r raw.moved all-c all-e (omega (arith, h, room)) (omega (arith, f)) fits gapped hold-c hold-e gap (keep_constraint y (read t).constraints) (read t).edits listed
          (list_ext _ _ _ (λ k l. ap (edit_of u) (sym (past-none (edit_count t) k)) ∙ kept-edit t v u ready.lent ov d c e p.count r raw.moved all-e hold-e k (omega (arith, l))) ∙ everything (edit_count t) (edit_of t) ∙ sym (edits-read t))
          (car.words.long ∙ put.0 ∙ l.0, l.1, car.bytes.long ∙ put.1 ∙ l.2, car.reals.long ∙ put.2 ∙ l.3, l.4)
        where
          hold-c : (k : ℕ) → k < size c → HoldsC v (constraint_of t (source c k))
          hold-c k l = constraint-beside w v o b _ (hold-around (HoldsC w) i (constraint_count t) (constraint_of t) in-range (rw (constraints-read t) at hc) k l)

          hold-e : (k : ℕ) → k < size e → HoldsE v (edit_of t (source e k))
          hold-e k l = edit-beside w v o b _ (all_hold (HoldsE w) (edit_count t) (edit_of t) (rw (edits-read t) at he) k l)

          number-of : (k : ℕ) → (constraint_of t k).number ≡ get_or t.words (constraint_numbers_at + k) 0
          number-of k = unfold constraint_of in refl

          listed : list_of (target_size c) (constraint_of u) ≡ keep_constraint y (read t).constraints
          listed =
              sym (ap (keep_constraint y) (constraints-read t) ∙ kept-listed (keep_constraint y) y (above n) (constraint-end y) (constraint-here y) (constraint-on y) (constraint_of t) (constraint_of u) i (constraint_count t) in-range
              (λ k a. let q = raw.sought.below k (omega arith) a in le-ltb n (constraint_of t k).number (omega (arith, q, number-of k)))
              (λ a. let q = raw.sought.reached a in lt-ltb n (constraint_of t i).number (omega (arith, q, number-of i)))
              (around i (constraint_count t) (constraint_of u) (constraint_of t) (kept-constraint t v u ready.lent ov d c e p.count r raw.moved all-c gapped hold-c) in-range)
              constraint-in)

-- ---- an edit

module _ (t w : Sparse) (ready : Ready t w) (uw ub : List ℕ) (ur : List Float) (r n marker other : ℕ) (strength : Float)
    (raw : EditKept n marker other strength t.words t.bytes t.reals w.words w.bytes w.reals uw ub ur r) where
  abbrev u₁ : Sparse
  u₁ = room_of w uw ub ur

  abbrev v₁ : Sparse
  v₁ = room_of w w.words raw.mb raw.mr

  abbrev i₁ : ℕ
  i₁ = raw.at

  abbrev c₁ : Plan
  c₁ = all_of (constraint_count t)

  abbrev e₁ : Plan
  e₁ = opened i₁ (edit_count t)

  abbrev y₁ : Edit
  y₁ = new_edit w n marker other strength

  o₁ : Own w
  o₁ = own w ready.room ready.own

  b₁ : Beside w v₁
  b₁ = record { words = λ q h x z. refl; gone = λ q h. refl; bytes = raw.put.bytes; reals = raw.put.reals; keys = refl; values = refl }

  ov₁ : Own v₁
  ov₁ = own-beside w v₁ o₁ b₁

  d₁ : Beside v₁ u₁
  d₁ = moved-beside t v₁ u₁ c₁ e₁ 0 r raw.moved refl refl

  bu₁ : Beside w u₁
  bu₁ = beside-join w v₁ u₁ b₁ d₁

  in-range₁ : i₁ ≤ edit_count t
  in-range₁ = raw.sought.high

  all-c₁ : source_size c₁ ≡ constraint_count t
  all-c₁ = omega arith

  all-e₁ : source_size e₁ ≡ edit_count t
  all-e₁ = let h = in-range₁ in omega (arith, h)

  gapped₁ : sum_in (counts_in ub) c₁.at (c₁.at + c₁.free) ≡ 0
  gapped₁ = none-gapped (counts_in ub) (constraint_count t)

  module _ (holds : HoldsE w y₁) (marked : At w marker) (othered : other ≤ symbol_count w) where
    variable-in₁ : (index_at u₁ (get_or ub (edit_variables_at + i₁) 0) < variable_count u₁) × (number_at u₁ (get_or ub (edit_variables_at + i₁) 0) ≡ n)
    variable-in₁ = rw (gap-one 0 _ edit_variables_at e₁ t.bytes raw.mb ub refl raw.moved.carried.bytes.edited) (placed-known t w u₁ ready.lent o₁ bu₁ n (get_or raw.mb (edit_variables_at + i₁) 0) raw.put.variable holds.variable)

    plus-in : get_or ub (edit_markers_at + i₁) 0 ≡ marker
    plus-in = gap-one 0 _ edit_markers_at e₁ t.bytes raw.mb ub refl raw.moved.carried.bytes.pluses ∙ raw.put.marker_at

    minus-in : get_or ub (edit_others_at + i₁) 0 ≡ other
    minus-in = gap-one 0 _ edit_others_at e₁ t.bytes raw.mb ub refl raw.moved.carried.bytes.minuses ∙ raw.put.other_at

    strength-in₁ : get_or ur (edit_strengths_at + i₁) nan ≡ strength
    strength-in₁ = gap-one nan _ edit_strengths_at e₁ t.reals raw.mr ur refl raw.moved.carried.reals.edit_strengths ∙ raw.put.strength_at

    suggestion-in : get_or ur (suggestions_at + i₁) nan ≡ zero64
    suggestion-in = gap-one nan _ suggestions_at e₁ t.reals raw.mr ur refl raw.moved.carried.reals.suggestions ∙ raw.put.suggestion

    edit-in : edit_of u₁ i₁ ≡ y₁
    unfolding edit_of
    edit-in = rw (variable-in₁.1, strength-in₁, plus-in, symbol-beside w u₁ o₁ bu₁ marker marked.1, minus-in, other-beside w u₁ o₁ bu₁ other othered, suggestion-in) refl

    gap₁ : GapForm c₁ (terms_plan (counts_in t.bytes) c₁ 0) e₁ u₁
    gap₁ =
        let k = symbols-beside w u₁ o₁ bu₁ in
        record {
          markers = λ j h. absurd (omega (arith, h));
          others = λ j h. absurd (omega (arith, h));
          relations = λ j h. absurd (omega (arith, h));
          terms = λ j h. let f = terms-free (counts_in t.bytes) c₁ 0 in absurd (omega (arith, h, f));
          edited = one (λ j. index_at u₁ (get_or ub (edit_variables_at + j) 0) < variable_count u₁) i₁ variable-in₁.0;
          pluses = one (λ j. At u₁ (get_or ub (edit_markers_at + j) 0)) i₁ (rw (plus-in, k) marked);
          minuses = one (λ j. get_or ub (edit_others_at + j) 0 ≤ symbol_count u₁) i₁ (rw (minus-in, k) othered);
        }

    pub edit-kept : edit_count t < most_constraints → All (HoldsC w) (read t).constraints → All (HoldsE w) (read t).edits → Kept w u₁ (read t).constraints (keep_edit y₁ (read t).edits) r
    edit-kept room hc he =
        let h = in-range₁ in
        let f = ready.lent.counts.constraints in
        let g = ready.lent.counts.terms in
        let l = ready.lengths in
        let put = raw.put.long in
        let car = raw.moved.carried in
        ended t w v₁ u₁ ready.lent o₁ b₁ d₁ c₁ e₁ 0 r raw.moved all-c₁ all-e₁ (omega (arith, f)) (omega (arith, h, room)) (omega (arith, g)) gapped₁ hold-c hold-e gap₁ (read t).constraints (keep_edit y₁ (read t).edits)
        (list_ext _ _ _ (λ k l. ap (constraint_of u₁) (sym (past-none (constraint_count t) k)) ∙ kept-constraint t v₁ u₁ ready.lent ov₁ d₁ c₁ e₁ 0 r raw.moved all-c₁ gapped₁ hold-c k (omega (arith, l))) ∙ everything (constraint_count t) (constraint_of t) ∙ sym (constraints-read t))
        listed
        (car.words.long ∙ l.0, l.1, car.bytes.long ∙ put.0 ∙ l.2, car.reals.long ∙ put.1 ∙ l.3, l.4)
      where
        hold-c : (k : ℕ) → k < size c₁ → HoldsC v₁ (constraint_of t (source c₁ k))
        hold-c k l = constraint-beside w v₁ o₁ b₁ _ (all_hold (HoldsC w) (constraint_count t) (constraint_of t) (rw (constraints-read t) at hc) k l)

        hold-e : (k : ℕ) → k < size e₁ → HoldsE v₁ (edit_of t (source e₁ k))
        hold-e k l = edit-beside w v₁ o₁ b₁ _ (hold-around (HoldsE w) i₁ (edit_count t) (edit_of t) in-range₁ (rw (edits-read t) at he) k l)

        number-of : (k : ℕ) → (edit_of t k).variable ≡ number_of t.words t.bytes (get_or t.bytes (edit_variables_at + k) 0)
        number-of k = unfold edit_of number_at number_of in refl

        listed : list_of (target_size e₁) (edit_of u₁) ≡ keep_edit y₁ (read t).edits
        listed =
            sym (ap (keep_edit y₁) (edits-read t) ∙ kept-listed (keep_edit y₁) y₁ (above_edit n) (edit-end y₁) (edit-here y₁) (edit-on y₁) (edit_of t) (edit_of u₁) i₁ (edit_count t) in-range₁
            (λ k a. let q = raw.sought.below k a in le-ltb n (edit_of t k).variable (omega (arith, q, number-of k)))
            (λ a. let q = raw.sought.reached a in lt-ltb n (edit_of t i₁).variable (omega (arith, q, number-of i₁)))
            (around i₁ (edit_count t) (edit_of u₁) (edit_of t) (kept-edit t v₁ u₁ ready.lent ov₁ d₁ c₁ e₁ 0 r raw.moved all-e₁ hold-e) in-range₁)
            edit-in)
