-- Add edit: the calls put together, over variables.
-- Assumes nothing.
use Rattle.std.specs.Prelude.{ℕ, ◌+◌, ◌<◌, ◌≡◌, true, false, cond, List, eqb, Float}
use Rattle.std.proofs.Math.Path.{refl}
use Rattle.std.proofs.Common.{sym, ap, ◌∙◌}
use Rattle.std.proofs.Math.Option.{none, some}
use Rattle.steps.specs.Number.{zero64}
use Rattle.steps.specs.Strength.{clip}
use Rattle.steps.specs.State.{Tag, Edit, State, equal}
use Rattle.steps.specs.Work.{refused, going}
use Rattle.steps.specs.Add.{add_steps}
use Rattle.steps.specs.Edit.{edit_terms, add_edit_steps}
use Rattle.steps.specs.Tests.{first_refusal, add_edit_tests, keep_edit}
use Rattle.steps.specs.Calls.{begin, finish, refused_by, conclude_add, add_edit}
use Rattle.steps.specs.Readable.{readable}
use Rattle.keeps.specs.Cells.{zero-finite}
use Rattle.keeps.specs.Keeps.{add_edit-reads}
use Rattle.sparse.specs.Places.{most_constraints}
use Rattle.sparse.specs.Sparse.{Sparse, constraint_count, edit_count, read}
use Rattle.sparse_test.specs.Meaning.{reads-readable}
use Rattle.rows.specs.declared.number.Wrote.{Wrote}
use Rattle.rows.specs.Marks.{mark_of}
use Rattle.waist.specs.Working.{work_of}
use Rattle.waist.specs.Standing.{Standing}
use Rattle.waist.specs.Ending.{Ended, Goes}
use Rattle.lending.specs.declared.Answer as code
use Rattle.lending.specs.Lending.{answer_of}
use Rattle.lending.specs.Entered.{Entered}
use Rattle.changes.specs.declared.tags.Relation.TheVariants.{Equal}
use Rattle.changes.specs.tags.Tags.{relation_of}
use Rattle.changes.specs.declared.terms.Pack.{Pack}
use Rattle.changes.specs.terms.Terms.{terms_of}
use Rattle.refusals.specs.Refusals.{cutoff_in, edit_pack, add_edit_refusal}
use Rattle.refusals.specs.Tested.{edit-terms}
use Rattle.refusals.specs.Passed.{Room, add-edit-refused, add-edit-passes, add-edit-passed}
use Rattle.addition.specs.creation.Created.{Opening}
use Rattle.waist.specs.Tags.{tag_at}
use Rattle.solver.specs.Bringing.{brought, Comes, Ends}
use Rattle.solver.specs.Begin.{stored_mark, begun-is, pack-opens}
use Rattle.solver.specs.Closing.{closed, closed-comes, closed-tag}
use Rattle.solver.specs.Concluding.{Done, went, by_test, done-by-test, answered, added-refused, added-accepted, added-reads}

-- ---- refused by a test

edit-refused : (x budget k : ℕ) (strength : Float) (s : State) → first_refusal (add_edit_tests x (clip strength) s) ≡ some k → add_edit x strength budget s ≡ refused_by k 0 s.whole s
unfolding add_edit
edit-refused x budget k strength s e = rw (e, add_edit) refl

pub add-edit-by-test : (x budget : ℕ) (strength : Float) (t w u : Sparse) (a : code.Answer) {k : ℕ} → Entered t w → k ≡ add_edit_refusal (cutoff_in t.reals) x (clip strength) t.words t.bytes → (k ≡ 0 → ⊥) → answer_of a ≡ by_test k t.words
    → Done (add_edit x strength budget) a t u
add-edit-by-test x budget strength t w u a {k} en q h says =
    done-by-test (add_edit x strength budget) a t u k (edit-refused x budget k strength (read t) (add-edit-refused t en.reads x (clip strength) (λ z. h (q ∙ z)) ∙ ap some (sym q))) h says

-- ---- the tests passed

edit-passed : (x budget : ℕ) (strength : Float) (s : State) → first_refusal (add_edit_tests x (clip strength) s) ≡ none
    → add_edit x strength budget s
    ≡ conclude_add s (add_steps budget (edit_terms x) zero64 (equal (clip strength)) (begin s)) (λ a. finish a.work s.constraints (keep_edit (record { variable = x; strength = clip strength; tag = a.tag; suggestion = zero64 }) s.edits))
unfolding add_edit add_edit_steps
edit-passed x budget strength s e = rw (e, add_edit) refl

module _ (x budget : ℕ) (strength : Float) (t w : Sparse) (en : Entered t w) (passes : add_edit_refusal (cutoff_in t.reals) x (clip strength) t.words t.bytes ≡ 0) (before : Wrote) (begun : mark_of before ≡ stored_mark t.words)
    (p : Pack) (one : p ≡ edit_pack x) where
  room : Room (cutoff_in t.reals) t.words (edit_pack x)
  room = (add-edit-passed (cutoff_in t.reals) x (clip strength) t.words t.bytes passes).2

  pub edit-opens : Opening (mark_of before) (terms_of p) zero64 w
  edit-opens = rw (begun, one) (pack-opens t w en (edit_pack x) zero64 zero-finite room)

  pub edit-room : constraint_count t + edit_count t < most_constraints
  edit-room = room.0

  abbrev pub edit-of : Float → Tag → Edit
  edit-of held tag = record { variable = x; strength = held; tag = tag; suggestion = zero64 }

  abbrev stored : Tag → List Edit
  stored tag = keep_edit (edit-of (clip strength) tag) (read t).edits

  call-is : add_edit x strength budget (read t) ≡ conclude_add (read t) (add_steps budget (edit_terms x) zero64 (equal (clip strength)) (begin (read t))) (λ a. finish a.work (read t).constraints (stored a.tag))
  call-is = edit-passed x budget strength (read t) (add-edit-passes t en.reads x (clip strength) passes)

  again : readable (add_edit x strength budget (read t)).state ≡ true
  again = add_edit-reads x strength budget (read t) (reads-readable t en.reads)

  module _ (e : Ended) (marker other : ℕ) (u : Sparse) (clipped : Float) (held : clipped ≡ clip strength)
      (ends : cond (eqb e.number 0) (going (record { work = work_of false (mark_of e.wrote) e.pivots u; tag = tag_at u marker other })) (refused e.number e.pivots (mark_of e.wrote))
      ≡ add_steps budget (terms_of p) zero64 (relation_of (Equal clipped)) (work_of false (mark_of before) 0 w)) where
    outcome : cond (eqb e.number 0) (going (record { work = work_of false (mark_of e.wrote) e.pivots u; tag = tag_at u marker other })) (refused e.number e.pivots (mark_of e.wrote))
        ≡ add_steps budget (edit_terms x) zero64 (equal (clip strength)) (begin (read t))
    unfolding relation_of
    outcome = ends ∙ rw (one, edit-terms x, held, begun-is t w en before begun) refl

    edit-is : Standing false (mark_of e.wrote) u → edit-of clipped (tag_at (closed e.wrote u) marker other) ≡ edit-of (clip strength) (tag_at u marker other)
    edit-is st = rw (held, closed-tag e.wrote u st marker other) refl

    -- for the call that brings the record
    pub edit-comes : Goes false e u → e.number ≡ 0 → (Comes t (closed e.wrote u)) × (readable (brought (read t).constraints (keep_edit (edit-of clipped (tag_at (closed e.wrote u) marker other)) (read t).edits) (closed e.wrote u)) ≡ true)
    edit-comes goes on =
        let st = went e u goes on in
        let q = added-reads (add_edit x strength budget) t e u again on st (tag_at u marker other) _ (λ tag. (read t).constraints) stored call-is outcome in
        (closed-comes e.wrote u st t en.reads (read t).constraints (stored (tag_at u marker other)) q, rw (edit-is st) q)

    module _ (a : code.Answer) (says : answer_of a ≡ answered e) where
      pub edit-add-refused : (e.number ≡ 0 → ⊥) → (v : Sparse) → Done (add_edit x strength budget) a t v
      edit-add-refused n v = added-refused (add_edit x strength budget) t v a e u says (tag_at u marker other) _ (λ a. finish a.work (read t).constraints (stored a.tag)) call-is outcome n

      pub edit-add-accepted : Goes false e u → e.number ≡ 0 → (v : Sparse) → Ends (closed e.wrote u) (read t).constraints (keep_edit (edit-of clipped (tag_at (closed e.wrote u) marker other)) (read t).edits) v → Done (add_edit x strength budget) a t v
      edit-add-accepted goes on v h =
          let st = went e u goes on in
          added-accepted (add_edit x strength budget) t v a e u says (tag_at u marker other) _ (λ tag. (read t).constraints) stored call-is outcome on st h refl (ap (λ (g : Edit). keep_edit g (read t).edits) (edit-is st))
