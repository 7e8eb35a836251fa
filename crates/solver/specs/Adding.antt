-- Add: the calls put together, over variables. The terms come as the pack of a list (that of any pack: `changes::terms::proper`).
-- Assumes nothing.
use Rattle.std.specs.Prelude.{ℕ, ◌+◌, ◌<◌, ◌≡◌, true, false, ◌&&◌, cond, List, eqb, Float}
use Rattle.std.proofs.Math.Path.{refl}
use Rattle.std.proofs.Common.{sym, ap, ◌∙◌}
use Rattle.std.proofs.Math.Option.{none, some}
use Rattle.steps.specs.Number.{is_finite}
use Rattle.steps.specs.State as steps
use Rattle.steps.specs.State.{Tag, Constraint, State, strength_of, comparison_of}
use Rattle.steps.specs.Work.{refused, going}
use Rattle.steps.specs.Add.{add_steps}
use Rattle.steps.specs.Tests.{first_refusal, add_tests, kept_terms, keep_constraint}
use Rattle.steps.specs.Calls.{begin, finish, refused_by, conclude_add, add}
use Rattle.steps.specs.Readable.{readable}
use Rattle.keeps.specs.Keeps.{add_reads}
use Rattle.layout.specs.Rooms.{both}
use Rattle.sparse.specs.Places.{most_constraints}
use Rattle.sparse.specs.Sparse.{Sparse, constraint_count, edit_count, read}
use Rattle.sparse_test.specs.Meaning.{reads-readable}
use Rattle.rows.specs.declared.number.Wrote.{Wrote}
use Rattle.rows.specs.Marks.{mark_of}
use Rattle.waist.specs.Working.{work_of}
use Rattle.waist.specs.Standing.{Standing}
use Rattle.waist.specs.Ending.{Ended, Goes}
use Rattle.lending.specs.declared.Answer as code
use Rattle.lending.specs.Lending.{answer_of}
use Rattle.lending.specs.Entered.{Entered}
use Rattle.changes.specs.declared.terms.Term.{Term}
use Rattle.changes.specs.declared.terms.Pack.{Pack}
use Rattle.changes.specs.terms.Terms.{pack_of, kept_of, terms_in, terms_of}
use Rattle.changes.specs.terms.Packed.{pack-terms}
use Rattle.changes.specs.terms.Kept.{kept-terms}
use Rattle.refusals.specs.Refusals.{cutoff_in, add_refusal}
use Rattle.refusals.specs.Tested.{few-terms}
use Rattle.refusals.specs.Passed.{Room, add-refused, add-passes, add-passed}
use Rattle.addition.specs.creation.Created.{Opening}
use Rattle.waist.specs.Tags.{tag_at}
use Rattle.solver.specs.Bringing.{brought, Comes, Ends}
use Rattle.solver.specs.Begin.{stored_mark, begun-is, pack-opens}
use Rattle.solver.specs.Closing.{closed, closed-comes, closed-tag}
use Rattle.solver.specs.Concluding.{Done, went, by_test, done-by-test, answered, added-refused, added-accepted, added-reads}

-- a pack of some list
abbrev pub Packed : Pack → Type 0
Packed p = (ts : List Term) × (p ≡ pack_of ts)

-- for every list of terms that the pack is of
abbrev pub Adds : ℕ → ℕ → Pack → Float → steps.Relation → ℕ → code.Answer → Sparse → Sparse → Type 0
Adds g n p constant relation budget r t u = (ts : List Term) → p ≡ pack_of ts → Done (add g n (terms_in ts) constant relation budget) r t u

-- ---- refused by a test

pub refused-by : (g x budget k : ℕ) (terms : List steps.Term) (constant : Float) (relation : steps.Relation) (s : State) → first_refusal (add_tests g x terms constant relation s) ≡ some k
    → add g x terms constant relation budget s ≡ refused_by k 0 s.whole s
unfolding add
refused-by g x budget k terms constant relation s e = rw (e, add) refl

pub add-by-test : (g x budget : ℕ) (p : Pack) (constant : Float) (relation : steps.Relation) (t w u : Sparse) (a : code.Answer) {k : ℕ}
    → Entered t w → k ≡ add_refusal (cutoff_in t.reals) g x p constant (strength_of relation) t.words → (k ≡ 0 → ⊥) → answer_of a ≡ by_test k t.words → Adds g x p constant relation budget a t u
add-by-test g x budget p constant relation t w u a {k} en q h says ts is =
    let e : k ≡ add_refusal (cutoff_in t.reals) g x (pack_of ts) constant (strength_of relation) t.words = q ∙ ap (λ (y : Pack). add_refusal (cutoff_in t.reals) g x y constant (strength_of relation) t.words) is in
    done-by-test (add g x (terms_in ts) constant relation budget) a t u k (refused-by g x budget k (terms_in ts) constant relation (read t) (add-refused t en.reads g x ts constant relation (λ z. h (e ∙ z)) ∙ ap some (sym e))) h says

-- ---- the tests passed

passed-by : (g x budget : ℕ) (terms : List steps.Term) (constant : Float) (relation : steps.Relation) (s : State) → first_refusal (add_tests g x terms constant relation s) ≡ none
    → add g x terms constant relation budget s
    ≡ conclude_add s (add_steps budget terms constant relation (begin s)) (λ a. finish a.work (keep_constraint (record { number = x; group = g; comparison = comparison_of relation; strength = strength_of relation; constant = constant; terms = kept_terms s.tableau.cutoff terms; tag = a.tag }) s.constraints) s.edits)
unfolding add
passed-by g x budget terms constant relation s e = rw (e, add) refl

module _ (g x budget : ℕ) (p : Pack) (constant : Float) (relation : steps.Relation) (t w : Sparse) (en : Entered t w) (passes : add_refusal (cutoff_in t.reals) g x p constant (strength_of relation) t.words ≡ 0)
    (before : Wrote) (begun : mark_of before ≡ stored_mark t.words) where
  tested : (p.finite && is_finite constant && is_finite (strength_of relation) ≡ true) × (eqb p.count 17 ≡ false) × (Room (cutoff_in t.reals) t.words p)
  tested = let q = add-passed (cutoff_in t.reals) g x p constant (strength_of relation) t.words passes in (q.1, q.3, q.5)

  pub add-opens : Opening (mark_of before) (terms_of p) constant w
  add-opens =
      let finite = (both p.finite (is_finite constant) (both (p.finite && is_finite constant) (is_finite (strength_of relation)) tested.0).0).1 in
      rw begun (pack-opens t w en p constant finite tested.2)

  pub add-room : constraint_count t + edit_count t < most_constraints
  add-room = tested.2.0

  -- the constraint that is stored
  abbrev pub record_of : Tag → Constraint
  record_of tag = record { number = x; group = g; comparison = comparison_of relation; strength = strength_of relation; constant = constant; terms = kept_terms (cutoff_in t.reals) (terms_of p); tag = tag }

  abbrev stored : Tag → List Constraint
  stored tag = keep_constraint (record_of tag) (read t).constraints

  module _ (e : Ended) (marker other : ℕ) (u : Sparse)
      (ends : cond (eqb e.number 0) (going (record { work = work_of false (mark_of e.wrote) e.pivots u; tag = tag_at u marker other })) (refused e.number e.pivots (mark_of e.wrote))
      ≡ add_steps budget (terms_of p) constant relation (work_of false (mark_of before) 0 w)) where
    module _ (ts : List Term) (is : p ≡ pack_of ts) where
      in_list : terms_of p ≡ terms_in ts
      in_list = ap terms_of is ∙ pack-terms ts (few-terms ts (rw is at tested.1))

      call-is : add g x (terms_in ts) constant relation budget (read t) ≡ conclude_add (read t) (add_steps budget (terms_of p) constant relation (begin (read t))) (λ a. finish a.work (stored a.tag) (read t).edits)
      unfolding read
      call-is = passed-by g x budget (terms_in ts) constant relation (read t) (add-passes t en.reads g x ts constant relation (rw is at passes)) ∙ rw (← in_list) refl

      outcome : cond (eqb e.number 0) (going (record { work = work_of false (mark_of e.wrote) e.pivots u; tag = tag_at u marker other })) (refused e.number e.pivots (mark_of e.wrote))
          ≡ add_steps budget (terms_of p) constant relation (begin (read t))
      outcome = ends ∙ rw (begun-is t w en before begun) refl

      again : readable (add g x (terms_in ts) constant relation budget (read t)).state ≡ true
      again = add_reads g x (terms_in ts) constant relation budget (read t) (reads-readable t en.reads)

      -- what is stored names the tag's symbols in the closed room, and the kept terms
      record_is : (q : Pack) → q ≡ kept_of (cutoff_in t.reals) p → (strength : Float) → strength ≡ strength_of relation → Standing false (mark_of e.wrote) u
          → record { number = x; group = g; comparison = comparison_of relation; strength = strength; constant = constant; terms = terms_of q; tag = tag_at (closed e.wrote u) marker other } ≡ record_of (tag_at u marker other)
      record_is q k strength s st = rw (k, s, kept-terms (cutoff_in t.reals) p, closed-tag e.wrote u st marker other) refl

    -- for the call that brings the record: of any list that the pack is of
    pub addition-comes : (ts : List Term) → p ≡ pack_of ts → Goes false e u → e.number ≡ 0 → (q : Pack) → q ≡ kept_of (cutoff_in t.reals) p → (strength : Float) → strength ≡ strength_of relation
        → (Comes t (closed e.wrote u)) × (readable (brought (keep_constraint (record { number = x; group = g; comparison = comparison_of relation; strength = strength; constant = constant; terms = terms_of q; tag = tag_at (closed e.wrote u) marker other }) (read t).constraints) (read t).edits (closed e.wrote u)) ≡ true)
    addition-comes ts is goes on q k strength s =
        let st = went e u goes on in
        let r = added-reads (add g x (terms_in ts) constant relation budget) t e u (again ts is) on st (tag_at u marker other) _ stored (λ tag. (read t).edits) (call-is ts is) (outcome ts is) in
        (closed-comes e.wrote u st t en.reads (stored (tag_at u marker other)) (read t).edits r, rw (record_is ts is q k strength s st) r)

    module _ (a : code.Answer) (says : answer_of a ≡ answered e) where
      pub addition-refused : (e.number ≡ 0 → ⊥) → (v : Sparse) → Adds g x p constant relation budget a t v
      addition-refused n v ts is =
          added-refused (add g x (terms_in ts) constant relation budget) t v a e u says (tag_at u marker other) _ (λ a. finish a.work (stored a.tag) (read t).edits) (call-is ts is) (outcome ts is) n

      pub addition-accepted : Goes false e u → e.number ≡ 0 → (q : Pack) → q ≡ kept_of (cutoff_in t.reals) p → (strength : Float) → strength ≡ strength_of relation → (v : Sparse)
          → Ends (closed e.wrote u) (keep_constraint (record { number = x; group = g; comparison = comparison_of relation; strength = strength; constant = constant; terms = terms_of q; tag = tag_at (closed e.wrote u) marker other }) (read t).constraints) (read t).edits v → Adds g x p constant relation budget a t v
      addition-accepted goes on q k strength s v h ts is =
          let st = went e u goes on in
          added-accepted (add g x (terms_in ts) constant relation budget) t v a e u says (tag_at u marker other) _ stored (λ tag. (read t).edits) (call-is ts is) (outcome ts is) on st h
          (ap (λ (c : Constraint). keep_constraint c (read t).constraints) (record_is ts is q k strength s st)) refl
