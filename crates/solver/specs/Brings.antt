-- The records come over: what the code's calls leave in the room, put together.
-- Assumes nothing.
use Rattle.std.specs.Prelude.{ℕ, ◌+◌, ◌≤◌, ◌<◌, ◌≡◌, true, false, List, eqb, Float, length, get_or, set}
use Rattle.std.proofs.Math.Path.{refl, ap, subst}
use Rattle.std.proofs.Common.{sym, ◌∙◌, zero-add, arith, eq-eqb, ne_eqb}
use Rattle.laws.specs.Lists.{sum_in, list_of, get_or-tab}
use Rattle.steps.specs.Number.{zero64}
use Rattle.layout.specs.Layout.{comparison_in, comparison_code, term_room}
use Rattle.layout.proofs.Back.{comparison-back}
use Rattle.layout.proofs.Copied.{comparison-small}
use Rattle.steps.specs.State.{Comparison, Constraint, Edit, State}
use Rattle.steps.specs.Tests.{keep_constraint, drop_constraint, keep_edit, drop_edit}
use Rattle.steps.specs.Readable.{readable}
use Rattle.keeps.specs.Reads.{Reads, edit_number}
use Rattle.keeps.specs.Tested.{reads_in}
use Rattle.sparse.specs.Places.{most_constraints, most_terms, whole_at, constraint_numbers_at, term_counts_at, suggestions_at}
use Rattle.sparse.specs.Sparse.{Sparse, symbol_count, constraint_count, edit_count, terms_from, constraint_of, edit_of, read}
use Rattle.sparse.specs.Concat.{sum-most}
use Rattle.sparse.specs.Write.{no_edit}
use Rattle.sparse.specs.Form.{Form}
use Rattle.sparse_test.specs.Reads.{reads}
use Rattle.sparse_test.specs.Stretch.{ascends, most}
use Rattle.sparse_test.specs.Meaning.{reads-form, reads-readable}
use Rattle.sparse_test.specs.Parts.{parts}
use Rattle.sparse_test.specs.Meant.{tested-is, reads-apart}
use Rattle.stored.specs.Parts.{all_of, without}
use Rattle.stored.specs.Maps.{Apart, Stores, stores, counts_in}
use Rattle.stored.specs.Moved.{Moved}
use Rattle.stored.specs.Put.{ConstraintKept, EditKept}
use Rattle.stored.specs.Ended.{Ready, room_of, Kept}
use Rattle.stored.specs.Ends.{records-kept, constraint-dropped, edit-dropped}
use Rattle.stored.specs.Came.{tag_in, new_constraint, constraint-kept, edit-kept}
use Rattle.stored.specs.Suggested.{with_real, suggestion-kept}
use Rattle.changes.specs.declared.terms.Pack.{Pack}
use Rattle.changes.specs.terms.Terms.{terms_of}
use Rattle.waist.specs.Tags.{tag_at}
use Rattle.solver.specs.Bringing.{brought, Comes, Ends}
use Rattle.solver.specs.Begin.{edits-count}
use Rattle.solver.specs.Placed.{up-less, edit-at, edit-found}
use Rattle.solver.specs.Carrying.{hold-constraints, hold-edits, holds-new, holds-old, holds-new-edit, holds-kept-edits, holds-suggested}
use Rattle.solver.specs.Suggesting.{suggested}

whole_is : (t : Sparse) → (read t).whole ≡ eqb (get_or t.words whole_at 0) 1
unfolding read
whole_is t = refl

edit-place : (s : Sparse) (j : ℕ) → j < edit_count s → get_or (read s).edits j no_edit ≡ edit_of s j
unfolding read list_of
edit-place s j l = get_or-tab (edit_of s) 0 (edit_count s) j no_edit l ∙ ap (edit_of s) (zero-add j)

pub ends_of : (u v : Sparse) (cs : List Constraint) (es : List Edit) {m : ℕ} → Kept u v cs es m → Ends u cs es v
ends_of u v cs es k = (by (read v) k.tableau k.changes k.constraints k.edits (whole_is v ∙ rw k.whole (sym (whole_is u))), k.form)
  where
    by : (s : State) → s.tableau ≡ (read u).tableau → s.changes ≡ (read u).changes → s.constraints ≡ cs → s.edits ≡ es → s.whole ≡ (read u).whole → s ≡ brought cs es u
    by s a b c d e = λ i. record { tableau = a i; changes = b i; constraints = c i; edits = d i; whole = e i }

module _ (t u : Sparse) (come : Comes t u) where
  good : reads t ≡ true
  good = come.lent

  form : Form t
  form = reads-form t good

  facts : Reads (read t)
  facts = reads_in (read t) (reads-readable t good)

  pub lent-apart : Apart t
  lent-apart i j a b e = let q = reads-apart t good i j (omega (arith, a, b)) b e in omega (arith, a, q)

  ready : Ready t u
  ready = record { lent = form; room = come.form; apart = lent-apart; own = come.apart; lengths = come.lengths }

  pub stores_both : (Stores t.words t.bytes) × (Stores u.words u.bytes)
  stores_both = (stores t form lent-apart, stores u come.form come.apart)

  -- numbers ascend, so none before has this one
  constraint-number : (i : ℕ) → (constraint_of t i).number ≡ get_or t.words (constraint_numbers_at + i) 0
  unfolding constraint_of
  constraint-number i = refl

  constraint-before : (j : ℕ) → j < constraint_count t → (i : ℕ) → i < j → eqb (constraint_of t j).number (constraint_of t i).number ≡ false
  constraint-before j h i k =
      let a = ascends t.words constraint_numbers_at (constraint_count t) (parts t (tested-is t ∙ good)).constraints_up i j k h in
      ne_eqb (constraint_of t j).number (constraint_of t i).number (λ e. omega (arith, e, a, constraint-number i, constraint-number j))

  pub edits-up : (i k : ℕ) → i < k → k < length (read t).edits → (get_or (read t).edits i no_edit).variable < (get_or (read t).edits k no_edit).variable
  edits-up i k a b = up-less edit_number no_edit 0 (read t).edits i k facts.edits-up a b

  edit-before : (j : ℕ) → j < edit_count t → (i : ℕ) → i < j → eqb (edit_of t j).variable (edit_of t i).variable ≡ false
  edit-before j h i k =
      let a = edits-up i j k (omega (arith, h, edits-count t)) in
      let b = ap (λ (e : Edit). e.variable) (edit-at t facts i no_edit (omega (arith, h, k))) in
      let c = ap (λ (e : Edit). e.variable) (edit-at t facts j no_edit h) in
      ne_eqb (edit_of t j).variable (edit_of t i).variable (λ e. omega (arith, e, a, b, c))

  few-terms : constraint_count t < most_constraints → (k : ℕ) → k ≤ term_room → sum_in (counts_in t.bytes) 0 (constraint_count t) + k ≤ most_terms
  few-terms h k l =
      let a = sum-most (counts_in t.bytes) (constraint_count t) (λ c q. most t.bytes term_counts_at (constraint_count t) term_room (parts t (tested-is t ∙ good)).term_counts c q) in
      omega (arith, a, h, l)

  pub room-terms : constraint_count t + edit_count t < most_constraints → (p : Pack) → p.count ≤ term_room → (constraint_count t < most_constraints) × (sum_in (counts_in t.bytes) 0 (constraint_count t) + p.count ≤ most_terms)
  room-terms h p l = (omega (arith, h), few-terms (omega (arith, h)) p.count l)

  module _ (uw ub : List ℕ) (ur : List Float) (m : ℕ) where
    -- all of them, as they are
    pub records-come : readable (brought (read t).constraints (read t).edits u) ≡ true
        → Moved (all_of (constraint_count t)) (all_of (edit_count t)) 0 t.words t.bytes t.reals u.words u.bytes u.reals uw ub ur m
        → Ends u (read t).constraints (read t).edits (room_of u uw ub ur)
    records-come q raw =
        let cs : List Constraint = (read t).constraints in
        let es : List Edit = (read t).edits in
        ends_of u (room_of u uw ub ur) cs es (records-kept t u ready uw ub ur m raw (hold-constraints u cs es q) (hold-edits u cs es q))

    pub constraint-behind : (j : ℕ) → j < constraint_count t → readable (brought (drop_constraint (constraint_of t j).number (read t).constraints) (read t).edits u) ≡ true
        → Moved (without j (constraint_count t)) (all_of (edit_count t)) 0 t.words t.bytes t.reals u.words u.bytes u.reals uw ub ur m
        → Ends u (drop_constraint (constraint_of t j).number (read t).constraints) (read t).edits (room_of u uw ub ur)
    constraint-behind j h q raw =
        let n : ℕ = (constraint_of t j).number in
        ends_of u (room_of u uw ub ur) (drop_constraint n (read t).constraints) (read t).edits
        (constraint-dropped t u ready uw ub ur m j n raw h (constraint-before j h) (eq-eqb n n refl) (hold-constraints u (drop_constraint n (read t).constraints) (read t).edits q) (hold-edits u (drop_constraint n (read t).constraints) (read t).edits q))

    pub edit-behind : (j : ℕ) → j < edit_count t → readable (brought (read t).constraints (drop_edit (edit_of t j).variable (read t).edits) u) ≡ true
        → Moved (all_of (constraint_count t)) (without j (edit_count t)) 0 t.words t.bytes t.reals u.words u.bytes u.reals uw ub ur m
        → Ends u (read t).constraints (drop_edit (edit_of t j).variable (read t).edits) (room_of u uw ub ur)
    edit-behind j h q raw =
        let n : ℕ = (edit_of t j).variable in
        ends_of u (room_of u uw ub ur) (read t).constraints (drop_edit n (read t).edits)
        (edit-dropped t u ready uw ub ur m j n raw h (edit-before j h) (eq-eqb n n refl) (hold-constraints u (read t).constraints (drop_edit n (read t).edits) q) (hold-edits u (read t).constraints (drop_edit n (read t).edits) q))

    -- the relation by its kind
    by_kind : (n g marker other k : ℕ) (strength constant : Float) (p : Pack) → 1 ≤ marker → marker ≤ symbol_count u → other ≤ symbol_count u → k ≤ 2 → constraint_count t + edit_count t < most_constraints → p.count ≤ term_room
        → readable (brought (keep_constraint (new_constraint u n g marker other k strength constant p) (read t).constraints) (read t).edits u) ≡ true
        → ConstraintKept n g marker other k strength constant p t.words t.bytes t.reals u.words u.bytes u.reals uw ub ur m
        → Ends u (keep_constraint (new_constraint u n g marker other k strength constant p) (read t).constraints) (read t).edits (room_of u uw ub ur)
    by_kind n g marker other k strength constant p low high o few-kinds room few q raw =
        let c : Constraint = new_constraint u n g marker other k strength constant p in
        ends_of u (room_of u uw ub ur) (keep_constraint c (read t).constraints) (read t).edits
        (constraint-kept t u ready uw ub ur m n g marker other k strength constant p raw few (holds-new u c (read t).constraints (read t).edits q) (low, high) o few-kinds (omega (arith, room)) (unfold terms_from in few-terms (omega (arith, room)) p.count few)
        (holds-old u c (read t).constraints (read t).edits q) (hold-edits u (keep_constraint c (read t).constraints) (read t).edits q))

    pub constraint-comes : (n g marker other : ℕ) (relation : Comparison) (strength constant : Float) (p : Pack) → 1 ≤ marker → marker ≤ symbol_count u → other ≤ symbol_count u → constraint_count t + edit_count t < most_constraints → p.count ≤ term_room
        → readable (brought (keep_constraint (record { number = n; group = g; comparison = relation; strength = strength; constant = constant; terms = terms_of p; tag = tag_at u marker other }) (read t).constraints) (read t).edits u) ≡ true
        → {k : ℕ} → k ≡ comparison_code relation → ConstraintKept n g marker other k strength constant p t.words t.bytes t.reals u.words u.bytes u.reals uw ub ur m
        → Ends u (keep_constraint (record { number = n; group = g; comparison = relation; strength = strength; constant = constant; terms = terms_of p; tag = tag_at u marker other }) (read t).constraints) (read t).edits (room_of u uw ub ur)
    unfolding tag_at
    constraint-comes n g marker other relation strength constant p low high o room few q {k} e raw =
        let same : comparison_in k ≡ relation = ap comparison_in e ∙ comparison-back relation in
        subst (λ (r : Comparison). Ends u (keep_constraint (of r) (read t).constraints) (read t).edits (room_of u uw ub ur)) same
        (by_kind n g marker other k strength constant p low high o (rw e (comparison-small relation)) room few (subst (λ (r : Comparison). readable (brought (keep_constraint (of r) (read t).constraints) (read t).edits u) ≡ true) (sym same) q) raw)
      where
        of : Comparison → Constraint
        of r = record { number = n; group = g; comparison = r; strength = strength; constant = constant; terms = terms_of p; tag = tag_in u marker other }

    pub edit-comes : (n marker other : ℕ) (strength : Float) → 1 ≤ marker → marker ≤ symbol_count u → other ≤ symbol_count u → constraint_count t + edit_count t < most_constraints
        → readable (brought (read t).constraints (keep_edit (record { variable = n; strength = strength; tag = tag_at u marker other; suggestion = zero64 }) (read t).edits) u) ≡ true
        → EditKept n marker other strength t.words t.bytes t.reals u.words u.bytes u.reals uw ub ur m
        → Ends u (read t).constraints (keep_edit (record { variable = n; strength = strength; tag = tag_at u marker other; suggestion = zero64 }) (read t).edits) (room_of u uw ub ur)
    unfolding tag_at
    edit-comes n marker other strength low high o room q raw =
        let e : Edit = record { variable = n; strength = strength; tag = tag_at u marker other; suggestion = zero64 } in
        ends_of u (room_of u uw ub ur) (read t).constraints (keep_edit e (read t).edits)
        (edit-kept t u ready uw ub ur m n marker other strength raw (holds-new-edit u e (read t).constraints (read t).edits q) (low, high) o (omega (arith, room))
        (hold-constraints u (read t).constraints (keep_edit e (read t).edits) q) (holds-kept-edits u e (read t).constraints (read t).edits q))

    pub suggestion-comes : (j : ℕ) (x : Float) → j < edit_count t → readable (brought (read t).constraints (keep_edit (suggested x (edit_of t j)) (drop_edit (edit_of t j).variable (read t).edits)) u) ≡ true
        → Moved (all_of (constraint_count t)) (all_of (edit_count t)) 0 t.words t.bytes t.reals u.words u.bytes u.reals uw ub ur m
        → {vr : List Float} → vr ≡ set ur (suggestions_at + j) x → Ends u (read t).constraints (keep_edit (suggested x (edit_of t j)) (drop_edit (edit_of t j).variable (read t).edits)) (room_of u uw ub vr)
    suggestion-comes j x h q raw e =
        let cs : List Constraint = (read t).constraints in
        let es : List Edit = (read t).edits in
        let d : Edit = suggested x (edit_of t j) in
        let n : ℕ = (edit_of t j).variable in
        let v : Sparse = room_of u uw ub ur in
        let kept : Kept u v cs es m = records-kept t u ready uw ub ur m raw (hold-constraints u cs (keep_edit d (drop_edit n es)) q) (holds-suggested u cs es (edit_of t j) d refl refl (edit-found t facts j h) q) in
        let count : edit_count v ≡ edit_count t = sym (edits-count v) ∙ ap length kept.edits ∙ edits-count t in
        let same : edit_of v j ≡ edit_of t j = sym (at v j (omega (arith, h, count))) ∙ ap (λ (l : List Edit). get_or l j no_edit) kept.edits ∙ at t j h in
        let z = suggestion-kept u v cs es m kept j x (omega (arith, h, count)) n (sym (ap (λ (y : Edit). y.variable) same)) edits-up in
        rw e (ends_of u (with_real v (suggestions_at + j) x) cs (keep_edit d (drop_edit n es)) (rw same at z))
      where
        at : (s : Sparse) (j : ℕ) → j < edit_count s → get_or (read s).edits j no_edit ≡ edit_of s j
        at s j l = edit-place s j l
