-- A suggestion made where the records stand: the calls put together, over variables.
-- Assumes nothing.
use Rattle.std.specs.Prelude.{ℕ, ◌+◌, ◌≤◌, ◌<◌, ◌≡◌, refl, Bool, true, false, cond, eqb, Float}
use Rattle.std.proofs.Common.{sym, ◌∙◌, subst, arith, eq-eqb, ne_eqb}
use Rattle.std.proofs.Math.Path.{ap}
use Rattle.steps.specs.Number.{is_finite}
use Rattle.steps.specs.State.{Edit, State}
use Rattle.steps.specs.Work.{Work}
use Rattle.steps.specs.Edit.{suggest_steps}
use Rattle.steps.specs.Tests.{keep_edit, drop_edit}
use Rattle.steps.specs.Calls.{Answer, Result, begin, finish, suggest}
use Rattle.steps.specs.Changing.{Changing, made, suggests}
use Rattle.keeps.specs.Passes as passes
use Rattle.keeps.specs.Good.{begin-good}
use Rattle.keeps.specs.Suggest.{suggest-ends}
use Rattle.layout.specs.cells.Names.{cell_room}
use Rattle.sparse.specs.Places.{cell_count_at, should_clear_at, suggestions_at}
use Rattle.sparse.specs.Sparse.{Sparse, cell_count, constraint_count, edit_count, terms_from, edit_of, read}
use Rattle.sparse.specs.Fits.{Lengths}
use Rattle.sparse.specs.Form.{Form}
use Rattle.sparse.specs.Copy.{put_over}
use Rattle.lending.specs.sparse_copy.Over.{cleared}
use Rattle.sparse_test.specs.Reads.{reads}
use Rattle.sparse_test.specs.Meaning.{reads-form}
use Rattle.sparse_test.specs.narrow.Holds.{made-written}
use Rattle.rows.specs.Marks.{mark_of}
use Rattle.waist.specs.Working.{work_of}
use Rattle.waist.specs.Standing.{Standing}
use Rattle.waist.specs.Ending.{Ended, outcome_of, Goes, is-going}
use Rattle.stored.specs.Ended.{Kept}
use Rattle.stored.specs.Suggested.{with_real, suggestion-kept}
use Rattle.lending.specs.declared.Answer as code
use Rattle.lending.specs.Lending.{Called, answer_of, called, refused18, call_in, call_of, whole-call}
use Rattle.lending.specs.Entered.{zero_room, cleared-is, Entered}
use Rattle.refusals.specs.Refusals.{edited_in}
use Rattle.solver.specs.Bringing.{Comes, Ends}
use Rattle.solver.specs.Begin.{reads-at-start}
use Rattle.solver.specs.Closing.{closed, closed-finish, closed-word, closed-mark}
use Rattle.solver.specs.Concluding.{Done, answered, went}
use Rattle.solver.specs.Placed.{edit_place}
use Rattle.solver.specs.Suggesting.{suggested, in-range, drag-comes, drag-accepted}
use Rattle.solver.specs.Brings.{ends_of, lent-apart, edits-up}
use Rattle.solver.specs.Change.{keeps}
use Rattle.solver.specs.Back.{Stays, Back, edit-is, back-kept}
use Rattle.solver.specs.Backed.{back_over, backed, back-lengths, back-becomes}

-- ---- a call that leaves its state in the tables themselves

done-in : (f : Changing) (t v : Sparse) (a : code.Answer) {z : Sparse} → reads t ≡ true → Done (made f) a t v → z ≡ cond (eqb a.number 0) (put_over v t) t → called (answer_of a) z ≡ call_in (made f) t
done-in f t v a r d e = whole-call (made f) t t v (keeps f) (sym r) d.0 refl d.1 d.2 e ∙ (unfold call_of in rw r refl)

-- the suggestion made in place: t is lent, z what is left
abbrev pub InPlace : ℕ → Float → ℕ → code.Answer → Sparse → Sparse → Type 0
InPlace x new budget a t z = called (answer_of a) z ≡ call_in (suggest x new budget) t

module _ (x budget : ℕ) (new : Float) (t : Sparse) (a : code.Answer) (r : reads t ≡ true) where
  -- refused: no table changes
  pub in-refused : (v : Sparse) → (a.number ≡ 0 → ⊥) → Done (suggest x new budget) a t v → InPlace x new budget a t t
  in-refused v n d = done-in (suggests x new budget) t v a r d (rw (ne_eqb a.number 0 n) refl)

  -- accepted: z is t but for live places
  in-accepted : (z : Sparse) → a.number ≡ 0 → Done (suggest x new budget) a t z → put_over z t ≡ z → InPlace x new budget a t z
  in-accepted z y d same = done-in (suggests x new budget) t z a r d (rw (eq-eqb a.number 0 y) (sym same))

  -- what is left reads as a state
  pub in-reads : (z : Sparse) → Lengths t → InPlace x new budget a t z → reads z ≡ true
  unfolding call_in
  in-reads z len e = ap (λ (c : Called). reads c.tables) e ∙ (made-written (suggests x new budget) t tt r len).reads

-- ---- what the steps leave as it was

stays_by : (t v : Sparse) (w : Work) → passes.After (begin (read t)) w → (read v).tableau ≡ w.tableau → (read v).changes ≡ w.changes → Stays t v
unfolding begin
stays_by t v w a p q =
    record {
      symbols = rw p a.frame.symbols;
      next = rw p a.frame.next;
      cutoff = rw p a.frame.cutoff;
      rows = rw p a.count;
      variables = rw q a.frame.variables;
      gone = rw q a.frame.gone;
    }

module _ (x budget : ℕ) (new : Float) (t w : Sparse) (en : Entered t w) (k : ℕ) (finite : is_finite new ≡ true) (live : edited_in t.words t.bytes x ≡ true) (placed : k ≡ edit_place t.words t.bytes x)
    (e : Ended) (u : Sparse) (outcome : outcome_of false e u ≡ suggest_steps budget (edit_of t k) new (begin (read t))) (goes : Goes false e u) (on : e.number ≡ 0) where
  inside : k < edit_count t
  inside = in-range x budget new t w en k finite live placed

  st : Standing false (mark_of e.wrote) u
  st = went e u goes on

  abbrev v : Sparse
  v = closed e.wrote u

  comes : Comes t v
  comes = (drag-comes x budget new t w en k finite live placed e u outcome goes on).0

  after : passes.After (begin (read t)) (work_of false (mark_of e.wrote) e.pivots u)
  after = subst (passes.Ends (passes.After (begin (read t)))) (sym outcome ∙ is-going false e u (eq-eqb e.number 0 on)) (suggest-ends budget (edit_of t k) new (begin (read t)) (begin-good (read t) (reads-at-start t w en)).fits)

  tableau-is : (read v).tableau ≡ (work_of false (mark_of e.wrote) e.pivots u).tableau
  unfolding finish work_of
  tableau-is = ap (λ (s : State). s.tableau) (closed-finish e.wrote u st e.pivots (read t).constraints (read t).edits)

  changes-are : (read v).changes ≡ (work_of false (mark_of e.wrote) e.pivots u).changes
  unfolding finish work_of
  changes-are = ap (λ (s : State). s.changes) (closed-finish e.wrote u st e.pivots (read t).constraints (read t).edits)

  stays : Stays t v
  stays = stays_by t v (work_of false (mark_of e.wrote) e.pivots u) after tableau-is changes-are

  count : cell_count v ≡ cell_count u
  count = closed-word e.wrote u st cell_count_at (omega arith) (omega arith) (omega arith)

  -- what the code needs to put it back
  pub back_fits : cell_count u ≤ cell_room
  back_fits = rw count at comes.form.counts.cells

  module _ (len : Lengths t) where
    form : Form t
    form = reads-form t en.reads

    abbrev z : Sparse
    z = back_over e.wrote u t

    abbrev s : Sparse
    s = with_real z (suggestions_at + k) new

    is-back : Back t v z
    is-back = backed e.wrote t u len form.counts back_fits v.words count (closed-word e.wrote u st should_clear_at (omega arith) (omega arith) (omega arith)) (closed-mark e.wrote u st)

    kept : Kept v z (read t).constraints (read t).edits (terms_from z (constraint_count z))
    kept = back-kept t v z form comes.form stays is-back (lent-apart t v comes) (back-lengths e.wrote t u len form.counts back_fits)

    ends : Ends v (read t).constraints (keep_edit (suggested new (edit_of t k)) (drop_edit (edit_of t k).variable (read t).edits)) s
    ends =
        let same : edit_of z k ≡ edit_of t k = edit-is t v z form comes.form stays is-back k inside in
        let n : edit_count z ≡ edit_count t = is-back.words 6 (omega arith) (omega arith) (omega arith) in
        let q = suggestion-kept v z (read t).constraints (read t).edits (terms_from z (constraint_count z)) kept k new (rw n inside) (edit_of t k).variable (sym (ap (λ (d : Edit). d.variable) same)) (edits-up t v comes) in
        ends_of v s (read t).constraints (keep_edit (suggested new (edit_of t k)) (drop_edit (edit_of t k).variable (read t).edits)) (rw same at q)

    -- p is what the code leaves
    pub back-accepted : (a : code.Answer) → answer_of a ≡ answered e → {p : Sparse} → p ≡ s → InPlace x new budget a t p
    back-accepted a says q =
        rw q (in-accepted x budget new t a en.reads s (ap (λ (b : Answer). b.number) says ∙ on) (drag-accepted x budget new t w en k finite live placed e u outcome a says goes on s ends)
        (back-becomes e.wrote t u len form.counts back_fits k new inside))

-- ---- on any tables

pub if-left : (f : State → Result) (t : Sparse) (ok : Bool) {a : Answer} → ok ≡ false → a ≡ refused18 → called a t ≡ cond ok (call_in f t) (called refused18 t)
if-left f t ok e h = rw (e, h) refl

pub if-in : (f : State → Result) (t z : Sparse) (ok : Bool) (a : Answer) → ok ≡ true → called a z ≡ call_in f t → called a z ≡ cond ok (call_in f t) (called refused18 t)
if-in f t z ok a e h = rw e h

pub tested-in : (f : State → Result) (t w z : Sparse) (a : Answer) {ok : Bool} {c : Sparse} → Lengths w → ok ≡ reads t → called a z ≡ cond ok (call_in f t) (called refused18 t) → c ≡ zero_room → (called a z ≡ call_of f w t) × (c ≡ cleared w)
unfolding call_of
tested-in f t w z a l e h q = (rw (← e) h, q ∙ cleared-is w l)
