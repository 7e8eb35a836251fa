-- Suggest: the calls put together, over variables.
-- Assumes nothing.
use Rattle.std.specs.Prelude.{ℕ, ◌+◌, ◌≤◌, ◌<◌, ◌≡◌, true, false, Float, get_or}
use Rattle.std.proofs.Math.Path.{refl}
use Rattle.std.proofs.Common.{sym, ap, ◌∙◌, subst, arith}
use Rattle.std.proofs.Math.Option.{some}
use Rattle.std.specs.Float.{nan}
use Rattle.steps.specs.Number.{is_finite}
use Rattle.steps.specs.State.{Edit, State}
use Rattle.steps.specs.Edit.{suggest_steps}
use Rattle.steps.specs.Tests.{find_edit, keep_edit, drop_edit}
use Rattle.steps.specs.Calls.{begin, finish, conclude, suggest}
use Rattle.steps.specs.Readable.{readable}
use Rattle.keeps.specs.Keeps.{suggest-reads}
use Rattle.sparse.specs.Places.{edit_markers_at, edit_others_at, suggestions_at}
use Rattle.sparse.specs.Sparse.{Sparse, symbol_count, edit_count, edit_of, read}
use Rattle.sparse.specs.Form.{Form}
use Rattle.sparse_test.specs.Meaning.{reads-form, reads-readable}
use Rattle.rows.specs.declared.number.Wrote.{Wrote}
use Rattle.rows.specs.Marks.{mark_of}
use Rattle.waist.specs.Working.{work_of}
use Rattle.waist.specs.Ending.{Ended, outcome_of, Goes}
use Rattle.optimising.specs.suggestion.Suggested.{edit_by, suggest-by}
use Rattle.lending.specs.declared.Answer as code
use Rattle.lending.specs.Lending.{answer_of}
use Rattle.lending.specs.Entered.{Entered}
use Rattle.refusals.specs.Refusals as refusals
use Rattle.refusals.specs.Refusals.{edited_in}
use Rattle.refusals.specs.Known as known
use Rattle.waist.specs.Tags.{tag_at}
use Rattle.solver.specs.Bringing.{brought, Comes, Ends}
use Rattle.solver.specs.Begin.{stored_mark, begun-is, reads-at-start, symbols-same, tag-kept}
use Rattle.solver.specs.Closing.{closed, closed-comes}
use Rattle.solver.specs.Concluding.{Done, went, by_test, done-by-test, answered, done_refused, done-accepted, accepted-reads}
use Rattle.solver.specs.Placed.{edit-found, edit_place, edit-placed}

-- the edit with its new suggestion
abbrev pub suggested : Float → Edit → Edit
suggested new e = record { variable = e.variable; strength = e.strength; tag = e.tag; suggestion = new }

-- ---- refused by a test

pub suggest-by-test : (x budget : ℕ) (new : Float) (t w u : Sparse) (a : code.Answer) {k : ℕ} → Entered t w → k ≡ refusals.suggest_refusal x new t.words t.bytes → (k ≡ 0 → ⊥) → answer_of a ≡ by_test k t.words → Done (suggest x new budget) a t u
suggest-by-test x budget new t w u a {k} en q h says = done-by-test (suggest x new budget) a t u k (known.suggest-refused t en.reads x new budget (λ z. h (q ∙ z)) ∙ rw (← q) refl) h says

-- ---- the call on what is live

suggest-known : (x budget : ℕ) (new : Float) (s : State) (e : Edit) → is_finite new ≡ true → find_edit x s.edits ≡ some e
    → suggest x new budget s
    ≡ conclude s (suggest_steps budget e new (begin s)) (λ w. finish w s.constraints (keep_edit (record { variable = x; strength = e.strength; tag = e.tag; suggestion = new }) (drop_edit x s.edits)))
unfolding suggest
suggest-known x budget new s e f a = rw (f, a, suggest) refl

-- ---- the steps in the room, with the edit at place k

module _ (t w : Sparse) (en : Entered t w) (k : ℕ) (in-range : k < edit_count t) where
  abbrev marker : ℕ
  marker = get_or t.bytes (edit_markers_at + k) 0

  abbrev other : ℕ
  other = get_or t.bytes (edit_others_at + k) 0

  abbrev stored : Float
  stored = get_or t.reals (suggestions_at + k) nan

  abbrev edit : Edit
  edit = edit_of t k

  form : Form t
  form = reads-form t en.reads

  pub drag-live : (1 ≤ marker) × (marker ≤ symbol_count w) × (other ≤ symbol_count w)
  drag-live =
      let l = form.pluses k in-range in
      let o = form.minuses k in-range in
      let b = l.1 in
      (l.0, omega (arith, b, symbols-same t w en), omega (arith, o, symbols-same t w en))

  tag_is : tag_at w marker other ≡ edit.tag
  tag_is = tag-kept t w en marker other drag-live.0 drag-live.1 drag-live.2 ∙ (unfold tag_at edit_of in refl)

  stored_is : stored ≡ edit.suggestion
  unfolding edit_of
  stored_is = refl

  pub drag-ends : (budget : ℕ) (new : Float) (before : Wrote) → mark_of before ≡ stored_mark t.words → (e : Ended) (u : Sparse)
      → outcome_of false e u ≡ suggest_steps budget (edit_by (tag_at w marker other) stored) new (work_of false (mark_of before) 0 w)
      → outcome_of false e u ≡ suggest_steps budget edit new (begin (read t))
  drag-ends budget new before begun e u ends = ends ∙ rw (tag_is, stored_is, begun-is t w en before begun) (sym (suggest-by budget edit new (begin (read t)) refl refl))

-- ---- the call

module _ (x budget : ℕ) (new : Float) (t w : Sparse) (en : Entered t w) (k : ℕ) (finite : is_finite new ≡ true) (live : edited_in t.words t.bytes x ≡ true) (placed : k ≡ edit_place t.words t.bytes x) where
  pub in-range : k < edit_count t
  in-range = (edit-placed t en.reads x k placed live).0

  number_is : (edit_of t k).variable ≡ x
  number_is = (edit-placed t en.reads x k placed live).1

  call-is : suggest x new budget (read t) ≡ conclude (read t) (suggest_steps budget (edit_of t k) new (begin (read t))) (λ w. finish w (read t).constraints (keep_edit (suggested new (edit_of t k)) (drop_edit x (read t).edits)))
  call-is =
      suggest-known x budget new (read t) (edit_of t k) finite (subst (λ (n : ℕ). find_edit n (read t).edits ≡ some (edit_of t k)) number_is (edit-found t (reads-at-start t w en) k in-range))
      ∙ ap (λ (n : ℕ). conclude (read t) (suggest_steps budget (edit_of t k) new (begin (read t))) (λ w. finish w (read t).constraints (keep_edit (record { variable = n; strength = (edit_of t k).strength; tag = (edit_of t k).tag; suggestion = new }) (drop_edit x (read t).edits)))) (sym number_is)

  again : readable (suggest x new budget (read t)).state ≡ true
  again = suggest-reads x new budget (read t) (reads-readable t en.reads)

  module _ (e : Ended) (u : Sparse) (outcome : outcome_of false e u ≡ suggest_steps budget (edit_of t k) new (begin (read t))) where
    -- for the call that brings the record with its new suggestion
    pub drag-comes : Goes false e u → e.number ≡ 0 → (Comes t (closed e.wrote u)) × (readable (brought (read t).constraints (keep_edit (suggested new (edit_of t k)) (drop_edit (edit_of t k).variable (read t).edits)) (closed e.wrote u)) ≡ true)
    drag-comes goes on =
        let st = went e u goes on in
        let q = accepted-reads (suggest x new budget) t e u again on st _ (read t).constraints (keep_edit (suggested new (edit_of t k)) (drop_edit x (read t).edits)) call-is outcome in
        (closed-comes e.wrote u st t en.reads (read t).constraints (keep_edit (suggested new (edit_of t k)) (drop_edit x (read t).edits)) q, ap (λ (n : ℕ). readable (brought (read t).constraints (keep_edit (suggested new (edit_of t k)) (drop_edit n (read t).edits)) (closed e.wrote u))) number_is ∙ q)

    module _ (a : code.Answer) (says : answer_of a ≡ answered e) where
      pub drag-refused : (e.number ≡ 0 → ⊥) → (v : Sparse) → Done (suggest x new budget) a t v
      drag-refused n v = done_refused (suggest x new budget) t v a e u says _ _ call-is outcome n

      pub drag-accepted : Goes false e u → e.number ≡ 0 → (v : Sparse) → Ends (closed e.wrote u) (read t).constraints (keep_edit (suggested new (edit_of t k)) (drop_edit (edit_of t k).variable (read t).edits)) v → Done (suggest x new budget) a t v
      drag-accepted goes on v h =
          done-accepted (suggest x new budget) t v a e u says _ (read t).constraints (keep_edit (suggested new (edit_of t k)) (drop_edit x (read t).edits)) call-is outcome on (went e u goes on) h refl (ap (λ (n : ℕ). keep_edit (suggested new (edit_of t k)) (drop_edit n (read t).edits)) number_is)
