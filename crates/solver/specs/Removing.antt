-- Remove: the calls put together, over variables.
-- Assumes nothing.
use Rattle.std.specs.Prelude.{ℕ, ◌+◌, ◌≤◌, ◌<◌, ◌≡◌, true, false, List, Float, get_or}
use Rattle.std.proofs.Math.Path.{refl}
use Rattle.std.proofs.Common.{sym, ap, ◌∙◌, subst, arith}
use Rattle.std.proofs.Math.Option.{some}
use Rattle.std.specs.Float.{nan}
use Rattle.steps.specs.State.{Constraint, State}
use Rattle.steps.specs.Remove.{remove_steps}
use Rattle.steps.specs.Tests.{find_constraint, drop_constraint, gone_full}
use Rattle.steps.specs.Calls.{begin, finish, conclude, remove_stored, unless_full, remove}
use Rattle.steps.specs.Readable.{readable, tag_kinds}
use Rattle.keeps.specs.Lists.{times}
use Rattle.keeps.specs.Keys.{drop-total, find_constraint-is}
use Rattle.keeps.specs.Codes.{codes}
use Rattle.keeps.specs.Reads.{con_number, tag_code}
use Rattle.stored.specs.Parts.{all_of, without}
use Rattle.stored.specs.Maps.{Stores}
use Rattle.stored.specs.Moved.{Moved}
use Rattle.stored.specs.Ended.{all-at, room_of}
use Rattle.stored.specs.Ends.{constraints-read}
use Rattle.removal.specs.Tag.{TagLives}
use Rattle.removal.specs.Room.{Room, room-begins}
use Rattle.solver.specs.TagsLive.{tag-lives}
use Rattle.keeps.specs.Keeps.{remove-reads}
use Rattle.sparse.specs.Places.{constraint_numbers_at, constraint_markers_at, constraint_others_at, constraint_strengths_at}
use Rattle.sparse.specs.Lookup.{place_from}
use Rattle.sparse.specs.Sparse.{Sparse, symbol_count, constraint_count, edit_count, constraint_of, read}
use Rattle.sparse.specs.Form.{Form}
use Rattle.sparse_test.specs.Meaning.{reads-form, reads-readable}
use Rattle.rows.specs.declared.number.Wrote.{Wrote}
use Rattle.rows.specs.Marks.{mark_of}
use Rattle.waist.specs.Working.{work_of}
use Rattle.waist.specs.Ending.{Ended, outcome_of, Goes}
use Rattle.lending.specs.declared.Answer as code
use Rattle.lending.specs.Lending.{answer_of}
use Rattle.lending.specs.Entered.{Entered}
use Rattle.changes.specs.declared.terms.Pack.{Pack}
use Rattle.changes.specs.terms.Terms.{terms_of}
use Rattle.refusals.specs.Refusals as refusals
use Rattle.refusals.specs.Refusals.{live_in}
use Rattle.refusals.specs.Known as known
use Rattle.waist.specs.Tags.{tag_at}
use Rattle.solver.specs.Bringing.{brought, Comes}
use Rattle.solver.specs.Begin.{stored_mark, begun-is, reads-at-start, symbols-same, tag-kept}
use Rattle.solver.specs.Brings.{stores_both, constraint-behind}
use Rattle.solver.specs.Closing.{closed, closed_words, closed-comes}
use Rattle.solver.specs.Concluding.{Done, went, by_test, done-by-test, answered, done_refused, done-accepted, accepted-reads}
use Rattle.solver.specs.Placed.{constraint-found, constraint-placed}

-- ---- refused by a test

pub remove-by-test : (x budget : ℕ) (t w u : Sparse) (a : code.Answer) {k : ℕ} → Entered t w → k ≡ refusals.remove_refusal x t.words t.bytes t.reals → (k ≡ 0 → ⊥) → answer_of a ≡ by_test k t.words → Done (remove x budget) a t u
remove-by-test x budget t w u a {k} en q h says = done-by-test (remove x budget) a t u k (known.remove-refused t en.reads x budget (λ z. h (q ∙ z)) ∙ rw (← q) refl) h says

-- ---- the call on what is live

remove-known : (x budget : ℕ) (s : State) (c : Constraint) → find_constraint x s.constraints ≡ some c → gone_full c.terms s ≡ false
    → remove x budget s ≡ conclude s (remove_steps budget c.tag c.strength c.terms (begin s)) (λ w. finish w (drop_constraint x s.constraints) s.edits)
unfolding remove remove_stored unless_full
remove-known x budget s c a g = rw (a, g, remove, unless_full) refl

module _ (x budget : ℕ) (t w : Sparse) (en : Entered t w) (k : ℕ) (passes : refusals.remove_refusal x t.words t.bytes t.reals ≡ 0) (placed : k ≡ place_from t.words constraint_numbers_at (constraint_count t) x) where
  live : live_in t.words constraint_numbers_at (constraint_count t) x ≡ true
  live = (known.remove-passed x t.words t.bytes t.reals passes).0

  abbrev marker : ℕ
  marker = get_or t.bytes (constraint_markers_at + k) 0

  abbrev other : ℕ
  other = get_or t.bytes (constraint_others_at + k) 0

  abbrev strength : Float
  strength = get_or t.reals (constraint_strengths_at + k) nan

  pub in-range : k < constraint_count t
  in-range = (constraint-placed t x k placed live).0

  number_is : (constraint_of t k).number ≡ x
  number_is = (constraint-placed t x k placed live).1

  form : Form t
  form = reads-form t en.reads

  pub removal-live : (1 ≤ marker) × (marker ≤ symbol_count w) × (other ≤ symbol_count w)
  removal-live =
      let l = form.markers k in-range in
      let o = form.others k in-range in
      let b = l.1 in
      (l.0, omega (arith, b, symbols-same t w en), omega (arith, o, symbols-same t w en))

  tag_is : tag_at w marker other ≡ (constraint_of t k).tag
  tag_is = tag-kept t w en marker other removal-live.0 removal-live.1 removal-live.2 ∙ (unfold tag_at constraint_of in refl)

  strength-is : strength ≡ (constraint_of t k).strength
  unfolding constraint_of
  strength-is = refl

  found : find_constraint x (read t).constraints ≡ some (constraint_of t k)
  found = subst (λ (n : ℕ). find_constraint n (read t).constraints ≡ some (constraint_of t k)) number_is (constraint-found t (reads-at-start t w en) k in-range)

  -- 25 is not given
  room : gone_full (constraint_of t k).terms (read t) ≡ false
  room = known.remove-room t en.reads x (known.remove-passed x t.words t.bytes t.reals passes).1 found

  pub removal-room : (before : Wrote) → mark_of before ≡ stored_mark t.words → (p : Pack) → terms_of p ≡ (constraint_of t k).terms → Room (terms_of p) (read w).changes
  removal-room before begun p terms = room-begins (terms_of p) (read t) (mark_of before) w (begun-is t w en before begun) (reads-at-start t w en) (rw terms room)

  call-is : remove x budget (read t) ≡ conclude (read t) (remove_steps budget (constraint_of t k).tag (constraint_of t k).strength (constraint_of t k).terms (begin (read t))) (λ w. finish w (drop_constraint x (read t).constraints) (read t).edits)
  call-is = remove-known x budget (read t) (constraint_of t k) found room

  stored-tag : tag_at t marker other ≡ (constraint_of t k).tag
  unfolding tag_at constraint_of
  stored-tag = refl

  kinds : tag_kinds (constraint_of t k).strength (constraint_of t k).tag ≡ true
  kinds = all-at (λ (c : Constraint). tag_kinds c.strength c.tag ≡ true) (constraint_of t) (constraint_count t) (rw (constraints-read t) at (reads-at-start t w en).constraint-kinds) k in-range

  owned : (n : ℕ) → tag_code n (constraint_of t k).tag ≤ times n (codes (read t).tableau.symbols)
  owned n = let a = (reads-at-start t w en).owns n in let b = drop-total con_number (λ (d : Constraint). tag_code n d.tag) x (read t).constraints (constraint_of t k) (sym (find_constraint-is x (read t).constraints) ∙ found) in omega (arith, a, b)

  pub removal-tag : TagLives marker other w
  removal-tag = tag-lives t w en (reads-at-start t w en) marker other removal-live.0 removal-live.1 removal-live.2 (constraint_of t k).strength (ap (tag_kinds (constraint_of t k).strength) stored-tag ∙ kinds) (λ n. rw stored-tag (owned n))

  again : readable (remove x budget (read t)).state ≡ true
  again = remove-reads x budget (read t) (reads-readable t en.reads)

  module _ (before : Wrote) (begun : mark_of before ≡ stored_mark t.words) (p : Pack) (terms : terms_of p ≡ (constraint_of t k).terms) (e : Ended) (u : Sparse)
      (ends : outcome_of false e u ≡ remove_steps budget (tag_at w marker other) strength (terms_of p) (work_of false (mark_of before) 0 w)) where
    outcome : outcome_of false e u ≡ remove_steps budget (constraint_of t k).tag (constraint_of t k).strength (constraint_of t k).terms (begin (read t))
    outcome = ends ∙ rw (tag_is, strength-is, terms, begun-is t w en before begun) refl

    removal-comes : Goes false e u → e.number ≡ 0 → (Comes t (closed e.wrote u)) × (readable (brought (drop_constraint (constraint_of t k).number (read t).constraints) (read t).edits (closed e.wrote u)) ≡ true)
    removal-comes goes on =
        let st = went e u goes on in
        let q = accepted-reads (remove x budget) t e u again on st _ (drop_constraint x (read t).constraints) (read t).edits call-is outcome in
        (closed-comes e.wrote u st t en.reads (drop_constraint x (read t).constraints) (read t).edits q, rw number_is q)

    pub removal-stores : Goes false e u → e.number ≡ 0 → (Stores t.words t.bytes) × (Stores (closed_words e.wrote u.words) u.bytes)
    removal-stores goes on = stores_both t (closed e.wrote u) (removal-comes goes on).0

    module _ (a : code.Answer) (says : answer_of a ≡ answered e) where
      pub removal-refused : (e.number ≡ 0 → ⊥) → (v : Sparse) → Done (remove x budget) a t v
      removal-refused n v = done_refused (remove x budget) t v a e u says _ _ call-is outcome n

      -- the records came over, all but this constraint
      pub removal-accepted : Goes false e u → e.number ≡ 0 → (uw ub : List ℕ) (ur : List Float) (m : ℕ)
          → Moved (without k (constraint_count t)) (all_of (edit_count t)) 0 t.words t.bytes t.reals (closed_words e.wrote u.words) u.bytes u.reals uw ub ur m
          → Done (remove x budget) a t (room_of (closed e.wrote u) uw ub ur)
      removal-accepted goes on uw ub ur m raw =
          let c = removal-comes goes on in
          let h = constraint-behind t (closed e.wrote u) c.0 uw ub ur m k in-range c.1 raw in
          done-accepted (remove x budget) t (room_of (closed e.wrote u) uw ub ur) a e u says _ (drop_constraint x (read t).constraints) (read t).edits call-is outcome on (went e u goes on) h (ap (λ (n : ℕ). drop_constraint n (read t).constraints) number_is) refl
