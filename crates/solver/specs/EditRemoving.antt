-- Remove edit: the calls put together, over variables.
-- Assumes nothing.
use Rattle.std.specs.Prelude.{ℕ, ◌+◌, ◌≤◌, ◌<◌, ◌≡◌, true, false, Float, get_or}
use Rattle.std.proofs.Math.Path.{refl}
use Rattle.std.proofs.Common.{sym, ap, ◌∙◌, subst, arith}
use Rattle.std.proofs.Math.Option.{some}
use Rattle.std.specs.Float.{nan}
use Rattle.steps.specs.State.{Edit, State}
use Rattle.steps.specs.Remove.{remove_steps}
use Rattle.steps.specs.Edit.{edit_terms}
use Rattle.steps.specs.Tests.{find_edit, drop_edit, gone_full}
use Rattle.steps.specs.Calls.{begin, finish, conclude, remove_edit_stored, unless_full, remove_edit}
use Rattle.steps.specs.Readable.{readable, tag_kinds, edit_kinds}
use Rattle.steps.specs.Symbol.{is_error}
use Rattle.layout.specs.Rooms.{both}
use Rattle.keeps.specs.Lists.{times}
use Rattle.keeps.specs.Keys.{drop-total, find_edit-is}
use Rattle.keeps.specs.Codes.{codes}
use Rattle.keeps.specs.Reads.{edit_number, tag_code}
use Rattle.stored.specs.Ended.{all-at}
use Rattle.stored.specs.Ends.{edits-read}
use Rattle.removal.specs.Tag.{TagLives}
use Rattle.removal.specs.Room.{Room, room-begins}
use Rattle.solver.specs.TagsLive.{tag-lives}
use Rattle.keeps.specs.Keeps.{remove_edit-reads}
use Rattle.sparse.specs.Places.{edit_markers_at, edit_others_at, edit_strengths_at}
use Rattle.sparse.specs.Sparse.{Sparse, symbol_count, edit_count, edit_of, read}
use Rattle.sparse.specs.Form.{Form}
use Rattle.sparse_test.specs.Meaning.{reads-form, reads-readable}
use Rattle.rows.specs.declared.number.Wrote.{Wrote}
use Rattle.rows.specs.Marks.{mark_of}
use Rattle.waist.specs.Working.{work_of}
use Rattle.waist.specs.Ending.{Ended, outcome_of, Goes}
use Rattle.lending.specs.declared.Answer as code
use Rattle.lending.specs.Lending.{answer_of}
use Rattle.lending.specs.Entered.{Entered}
use Rattle.changes.specs.declared.terms.Pack.{Pack}
use Rattle.changes.specs.terms.Terms.{terms_of}
use Rattle.refusals.specs.Refusals as refusals
use Rattle.refusals.specs.Refusals.{edited_in}
use Rattle.refusals.specs.Known as known
use Rattle.waist.specs.Tags.{tag_at}
use Rattle.solver.specs.Bringing.{brought, Comes, Ends}
use Rattle.solver.specs.Begin.{stored_mark, begun-is, reads-at-start, symbols-same, tag-kept}
use Rattle.solver.specs.Closing.{closed, closed-comes}
use Rattle.solver.specs.Concluding.{Done, went, by_test, done-by-test, answered, done_refused, done-accepted, accepted-reads}
use Rattle.refusals.specs.Tested.{edit-terms}
use Rattle.solver.specs.Placed.{edit-found, edit_place, edit-placed}

-- ---- refused by a test

pub remove-edit-by-test : (x budget : ℕ) (t w u : Sparse) (a : code.Answer) {k : ℕ} → Entered t w → k ≡ refusals.remove_edit_refusal x t.words t.bytes t.reals → (k ≡ 0 → ⊥) → answer_of a ≡ by_test k t.words → Done (remove_edit x budget) a t u
remove-edit-by-test x budget t w u a {k} en q h says = done-by-test (remove_edit x budget) a t u k (known.remove-edit-refused t en.reads x budget (λ z. h (q ∙ z)) ∙ rw (← q) refl) h says

-- ---- the call on what is live

remove-edit-known : (x budget : ℕ) (s : State) (c : Edit) → find_edit x s.edits ≡ some c → gone_full (edit_terms x) s ≡ false
    → remove_edit x budget s ≡ conclude s (remove_steps budget c.tag c.strength (edit_terms x) (begin s)) (λ w. finish w s.constraints (drop_edit x s.edits))
unfolding remove_edit remove_edit_stored unless_full
remove-edit-known x budget s c a g = rw (a, g, remove_edit, unless_full) refl

module _ (x budget : ℕ) (t w : Sparse) (en : Entered t w) (k : ℕ) (passes : refusals.remove_edit_refusal x t.words t.bytes t.reals ≡ 0) (placed : k ≡ edit_place t.words t.bytes x) where
  live : edited_in t.words t.bytes x ≡ true
  live = (known.remove-edit-passed x t.words t.bytes t.reals passes).0

  abbrev marker : ℕ
  marker = get_or t.bytes (edit_markers_at + k) 0

  abbrev other : ℕ
  other = get_or t.bytes (edit_others_at + k) 0

  abbrev strength : Float
  strength = get_or t.reals (edit_strengths_at + k) nan

  pub in-range : k < edit_count t
  in-range = (edit-placed t en.reads x k placed live).0

  number_is : (edit_of t k).variable ≡ x
  number_is = (edit-placed t en.reads x k placed live).1

  form : Form t
  form = reads-form t en.reads

  pub removal-live : (1 ≤ marker) × (marker ≤ symbol_count w) × (other ≤ symbol_count w)
  removal-live =
      let l = form.pluses k in-range in
      let o = form.minuses k in-range in
      let b = l.1 in
      (l.0, omega (arith, b, symbols-same t w en), omega (arith, o, symbols-same t w en))

  tag_is : tag_at w marker other ≡ (edit_of t k).tag
  tag_is = tag-kept t w en marker other removal-live.0 removal-live.1 removal-live.2 ∙ (unfold tag_at edit_of in refl)

  strength-is : strength ≡ (edit_of t k).strength
  unfolding edit_of
  strength-is = refl

  found : find_edit x (read t).edits ≡ some (edit_of t k)
  found = subst (λ (n : ℕ). find_edit n (read t).edits ≡ some (edit_of t k)) number_is (edit-found t (reads-at-start t w en) k in-range)

  -- 25 is not given
  room : gone_full (edit_terms x) (read t) ≡ false
  room = known.remove-edit-room t en.reads x (known.remove-edit-passed x t.words t.bytes t.reals passes).1

  pub removal-room : (before : Wrote) → mark_of before ≡ stored_mark t.words → (p : Pack) → p ≡ refusals.edit_pack x → Room (terms_of p) (read w).changes
  removal-room before begun p one = room-begins (terms_of p) (read t) (mark_of before) w (begun-is t w en before begun) (reads-at-start t w en) (rw (one, edit-terms x) room)

  call-is : remove_edit x budget (read t) ≡ conclude (read t) (remove_steps budget (edit_of t k).tag (edit_of t k).strength (edit_terms x) (begin (read t))) (λ w. finish w (read t).constraints (drop_edit x (read t).edits))
  call-is = remove-edit-known x budget (read t) (edit_of t k) found room

  stored-tag : tag_at t marker other ≡ (edit_of t k).tag
  unfolding tag_at edit_of
  stored-tag = refl

  kinds : tag_kinds (edit_of t k).strength (edit_of t k).tag ≡ true
  unfolding edit_kinds
  kinds = (both (is_error (edit_of t k).tag.marker) (tag_kinds (edit_of t k).strength (edit_of t k).tag) (all-at (λ (e : Edit). edit_kinds e ≡ true) (edit_of t) (edit_count t) (rw (edits-read t) at (reads-at-start t w en).edit-kinds) k in-range)).1

  owned : (n : ℕ) → tag_code n (edit_of t k).tag ≤ times n (codes (read t).tableau.symbols)
  owned n = let a = (reads-at-start t w en).owns n in let b = drop-total edit_number (λ (d : Edit). tag_code n d.tag) x (read t).edits (edit_of t k) (sym (find_edit-is x (read t).edits) ∙ found) in omega (arith, a, b)

  pub removal-tag : TagLives marker other w
  removal-tag = tag-lives t w en (reads-at-start t w en) marker other removal-live.0 removal-live.1 removal-live.2 (edit_of t k).strength (ap (tag_kinds (edit_of t k).strength) stored-tag ∙ kinds) (λ n. rw stored-tag (owned n))

  again : readable (remove_edit x budget (read t)).state ≡ true
  again = remove_edit-reads x budget (read t) (reads-readable t en.reads)

  module _ (before : Wrote) (begun : mark_of before ≡ stored_mark t.words) (p : Pack) (one : p ≡ refusals.edit_pack x) (e : Ended) (u : Sparse)
      (ends : outcome_of false e u ≡ remove_steps budget (tag_at w marker other) strength (terms_of p) (work_of false (mark_of before) 0 w)) where
    outcome : outcome_of false e u ≡ remove_steps budget (edit_of t k).tag (edit_of t k).strength (edit_terms x) (begin (read t))
    outcome = ends ∙ rw (tag_is, strength-is, one, edit-terms x, begun-is t w en before begun) refl

    -- for the call that leaves the record behind
    pub removal-comes : Goes false e u → e.number ≡ 0 → (Comes t (closed e.wrote u)) × (readable (brought (read t).constraints (drop_edit (edit_of t k).variable (read t).edits) (closed e.wrote u)) ≡ true)
    removal-comes goes on =
        let st = went e u goes on in
        let q = accepted-reads (remove_edit x budget) t e u again on st _ (read t).constraints (drop_edit x (read t).edits) call-is outcome in
        (closed-comes e.wrote u st t en.reads (read t).constraints (drop_edit x (read t).edits) q, rw number_is q)

    module _ (a : code.Answer) (says : answer_of a ≡ answered e) where
      pub edit-refused : (e.number ≡ 0 → ⊥) → (v : Sparse) → Done (remove_edit x budget) a t v
      edit-refused n v = done_refused (remove_edit x budget) t v a e u says _ _ call-is outcome n

      pub edit-accepted : Goes false e u → e.number ≡ 0 → (v : Sparse) → Ends (closed e.wrote u) (read t).constraints (drop_edit (edit_of t k).variable (read t).edits) v → Done (remove_edit x budget) a t v
      edit-accepted goes on v h =
          done-accepted (remove_edit x budget) t v a e u says _ (read t).constraints (drop_edit x (read t).edits) call-is outcome on (went e u goes on) h refl (ap (λ (n : ℕ). drop_edit n (read t).edits) number_is)
