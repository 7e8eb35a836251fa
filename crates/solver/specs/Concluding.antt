-- How a call ends: refused by a test, by the steps, or accepted, with what it answers and leaves.
-- Assumes nothing.
use Rattle.std.specs.Prelude.{ℕ, ◌≤◌, ◌≡◌, Bool, ◌&&◌, cond, List, eqb, Float, get_or}
use Rattle.std.proofs.Math.Path.{refl, sym, ap}
use Rattle.std.proofs.Common.{◌∙◌, eqb-true, eq-eqb, ne_eqb}
use Rattle.std.proofs.Math.Bool.{true, false}
use Rattle.std.proofs.lemmas.Bool.{false≢true}
use Rattle.laws.specs.Given.{Then, then-given}
use Rattle.steps.specs.Number.{says_whole}
use Rattle.steps.specs.State.{Tag, Constraint, Edit, State}
use Rattle.steps.specs.Work.{Work, Outcome, refused, going}
use Rattle.steps.specs.Add.{Added}
use Rattle.steps.specs.Calls.{Answer, Result, finish, refused_by, accepted_as, conclude, conclude_add}
use Rattle.steps.specs.Readable.{readable}
use Rattle.sparse.specs.Places.{whole_at}
use Rattle.sparse.specs.Sparse.{Sparse, symbol_count, read}
use Rattle.sparse.specs.Form.{Form}
use Rattle.rows.specs.Marks.{mark_of}
use Rattle.waist.specs.Working.{sparse, work_of}
use Rattle.waist.specs.Standing.{Standing}
use Rattle.sparse.specs.declared.refusal.Refusal.{Refusal}
use Rattle.sparse.specs.Refusals.{refusal_number}
use Rattle.waist.specs.Ending.{Ended, outcome_of, Goes, refuses}
use Rattle.lending.specs.declared.Answer as code
use Rattle.lending.specs.Lending.{answer_of, refused18, Left}
use Rattle.lending.specs.Entered.{Entered}
use Rattle.solver.specs.Bringing.{brought, Ends}
use Rattle.solver.specs.Closing.{closed, closed-finish, closed-symbols}

-- ---- what a call's steps ensure, f being the steps' call

abbrev pub Done : (State → Result) → code.Answer → Sparse → Sparse → Type 0
Done f r t u = (answer_of r ≡ (f (read t)).answer) × (Then (eqb r.number 0) (read u ≡ (f (read t)).state)) × (Then (eqb r.number 0) (Left u))

-- the same where the lent tables read as a state, and 18 where they don't
abbrev pub DoneIf : Bool → (State → Result) → code.Answer → Sparse → Sparse → Type 0
DoneIf ok f r t u = (answer_of r ≡ cond ok (f (read t)).answer refused18) × (Then (ok && eqb r.number 0) (read u ≡ (f (read t)).state)) × (Then (ok && eqb r.number 0) (Left u))

-- of the tables that the room was entered from a removal reads the words, bytes and reals alone: it is done for all cells that they may have had
abbrev pub EnteredFrom : List ℕ → List ℕ → List Float → Sparse → Type 0
EnteredFrom words bytes reals w = (k : List ℕ) × (v : List Float) × Entered (sparse words k bytes reals v) w

abbrev pub DoneFrom : (State → Result) → code.Answer → List ℕ → List ℕ → List Float → Sparse → Sparse → Type 0
DoneFrom f r words bytes reals w u = (k : List ℕ) (v : List Float) → Entered (sparse words k bytes reals v) w → Done f r (sparse words k bytes reals v) u

pub if-not : (f : State → Result) (r : code.Answer) (t u : Sparse) (ok : Bool) → ok ≡ false → answer_of r ≡ refused18 → DoneIf ok f r t u
if-not f r t u ok e h = rw e (h, tt, tt)

pub if-done : (f : State → Result) (r : code.Answer) (t u : Sparse) (ok : Bool) → ok ≡ true → Done f r t u → DoneIf ok f r t u
if-done f r t u ok e h = rw e h

-- the room may be worked on where the flag is set
pub entered-if : (t w : Sparse) (ok : Bool) → ok ≡ true → Then ok (Entered t w) → Entered t w
entered-if t w ok e h = then-given (Entered t w) e h

-- ---- refused by a test: the stored mark is answered

abbrev pub by_test : ℕ → List ℕ → Answer
by_test k w = record { number = k; pivots = 0; whole = eqb (get_or w whole_at 0) 1 }

pub done-by-test : (f : State → Result) (r : code.Answer) (t u : Sparse) (k : ℕ) → f (read t) ≡ refused_by k 0 (read t).whole (read t) → (k ≡ 0 → ⊥) → answer_of r ≡ by_test k t.words → Done f r t u
unfolding refused_by read
done-by-test f r t u k e h q =
    let b : eqb r.number 0 ≡ false = ap (λ (a : Answer). eqb a.number 0) q ∙ ne_eqb k 0 h in
    (rw e q, rw b tt, rw b tt)

-- ---- the answer of the steps

abbrev pub answered : Ended → Answer
answered e = record { number = e.number; pivots = e.pivots; whole = says_whole (mark_of e.wrote) }

module _ (s : State) (e : Ended) (u : Sparse) where
  abbrev work : Work
  work = work_of false (mark_of e.wrote) e.pivots u

  -- an outcome over tables, concluded
  ended_by : (b : Bool) → eqb e.number 0 ≡ b → (next : Work → State)
      → (answered e ≡ (conclude s (cond b (going work) (refused e.number e.pivots (mark_of e.wrote))) next).answer)
      × (b ≡ true → (conclude s (cond b (going work) (refused e.number e.pivots (mark_of e.wrote))) next).state ≡ next work)
  unfolding conclude accepted_as refused_by work_of
  ended_by true q next = (ap (λ (k : ℕ). record { number = k; pivots = e.pivots; whole = says_whole (mark_of e.wrote) }) (eqb-true e.number 0 q), λ _. refl)
  ended_by false q next = (refl, λ z. absurd (false≢true z))

  added-by : (tag : Tag) (b : Bool) → eqb e.number 0 ≡ b → (next : Added → State)
      → (answered e ≡ (conclude_add s (cond b (going (record { work = work; tag = tag })) (refused e.number e.pivots (mark_of e.wrote))) next).answer)
      × (b ≡ true → (conclude_add s (cond b (going (record { work = work; tag = tag })) (refused e.number e.pivots (mark_of e.wrote))) next).state ≡ next (record { work = work; tag = tag }))
  unfolding conclude_add accepted_as refused_by work_of
  added-by tag true q next = (ap (λ (k : ℕ). record { number = k; pivots = e.pivots; whole = says_whole (mark_of e.wrote) }) (eqb-true e.number 0 q), λ _. refl)
  added-by tag false q next = (refl, λ z. absurd (false≢true z))

-- ---- refused by the steps, or accepted

module _ (f : State → Result) (t v : Sparse) (a : code.Answer) (e : Ended) (u : Sparse) (same : answer_of a ≡ answered e) where
  -- z is the state that the steps store
  settled : (z : State) (b : Bool) → eqb e.number 0 ≡ b → (b ≡ true → (f (read t)).state ≡ z) → Then b ((read v ≡ z) × Form v)
      → (Then (eqb a.number 0) (read v ≡ (f (read t)).state)) × (Then (eqb a.number 0) (Left v))
  settled z true q k h =
      let n : eqb a.number 0 ≡ true = ap (λ (x : Answer). eqb x.number 0) same ∙ q in
      let w : read v ≡ (f (read t)).state = h.0 ∙ sym (k refl) in
      rw n (w, h.1)
  settled z false q k h =
      let n : eqb a.number 0 ≡ false = ap (λ (x : Answer). eqb x.number 0) same ∙ q in
      rw n (tt, tt)

  pub done-ended : (o : Outcome Work) (next : Work → State) → f (read t) ≡ conclude (read t) o next → outcome_of false e u ≡ o
      → Then (eqb e.number 0) ((read v ≡ next (work_of false (mark_of e.wrote) e.pivots u)) × Form v) → Done f a t v
  unfolding outcome_of
  done-ended o next q p h =
      let x = ended_by (read t) e u (eqb e.number 0) refl next in
      let r : f (read t) ≡ conclude (read t) (outcome_of false e u) next = q ∙ ap (λ (y : Outcome Work). conclude (read t) y next) (sym p) in
      let d = settled (next (work_of false (mark_of e.wrote) e.pivots u)) (eqb e.number 0) refl (λ z. ap (λ (y : Result). y.state) r ∙ x.1 z) h in
      (same ∙ x.0 ∙ sym (ap (λ (y : Result). y.answer) r), d.0, d.1)

  pub done-added : (tag : Tag) (o : Outcome Added) (next : Added → State) → f (read t) ≡ conclude_add (read t) o next
      → cond (eqb e.number 0) (going (record { work = work_of false (mark_of e.wrote) e.pivots u; tag = tag })) (refused e.number e.pivots (mark_of e.wrote)) ≡ o
      → Then (eqb e.number 0) ((read v ≡ next (record { work = work_of false (mark_of e.wrote) e.pivots u; tag = tag })) × Form v) → Done f a t v
  done-added tag o next q p h =
      let x = added-by (read t) e u tag (eqb e.number 0) refl next in
      let r : f (read t) ≡ conclude_add (read t) (cond (eqb e.number 0) (going (record { work = work_of false (mark_of e.wrote) e.pivots u; tag = tag })) (refused e.number e.pivots (mark_of e.wrote))) next = q ∙ ap (λ (y : Outcome Added). conclude_add (read t) y next) (sym p) in
      let d = settled (next (record { work = work_of false (mark_of e.wrote) e.pivots u; tag = tag })) (eqb e.number 0) refl (λ z. ap (λ (y : Result). y.state) r ∙ x.1 z) h in
      (same ∙ x.0 ∙ sym (ap (λ (y : Result). y.answer) r), d.0, d.1)

  pub done_refused : (o : Outcome Work) (next : Work → State) → f (read t) ≡ conclude (read t) o next → outcome_of false e u ≡ o → (e.number ≡ 0 → ⊥) → Done f a t v
  done_refused o next q p h = done-ended o next q p (rw (ne_eqb e.number 0 h) tt)

  pub done-accepted : (o : Outcome Work) (cs : List Constraint) (es : List Edit) → f (read t) ≡ conclude (read t) o (λ w. finish w cs es) → outcome_of false e u ≡ o → e.number ≡ 0
      → Standing false (mark_of e.wrote) u → {ds : List Constraint} {gs : List Edit} → Ends (closed e.wrote u) ds gs v → ds ≡ cs → gs ≡ es → Done f a t v
  done-accepted o cs es q p h st k i j =
      done-ended o (λ w. finish w cs es) q p
      (rw (eq-eqb e.number 0 h) (k.0 ∙ rw (i, j) (closed-finish e.wrote u st e.pivots cs es), k.1))

  pub added-refused : (tag : Tag) (o : Outcome Added) (next : Added → State) → f (read t) ≡ conclude_add (read t) o next
      → cond (eqb e.number 0) (going (record { work = work_of false (mark_of e.wrote) e.pivots u; tag = tag })) (refused e.number e.pivots (mark_of e.wrote)) ≡ o
      → (e.number ≡ 0 → ⊥) → Done f a t v
  added-refused tag o next q p h = done-added tag o next q p (rw (ne_eqb e.number 0 h) tt)

  -- the constraints and edits that are stored know of the tag
  pub added-accepted : (tag : Tag) (o : Outcome Added) (cs : Tag → List Constraint) (es : Tag → List Edit) → f (read t) ≡ conclude_add (read t) o (λ x. finish x.work (cs x.tag) (es x.tag))
      → cond (eqb e.number 0) (going (record { work = work_of false (mark_of e.wrote) e.pivots u; tag = tag })) (refused e.number e.pivots (mark_of e.wrote)) ≡ o
      → e.number ≡ 0 → Standing false (mark_of e.wrote) u → {ds : List Constraint} {gs : List Edit} → Ends (closed e.wrote u) ds gs v → ds ≡ cs tag → gs ≡ es tag → Done f a t v
  added-accepted tag o cs es q p h st k i j =
      done-added tag o (λ x. finish x.work (cs x.tag) (es x.tag)) q p
      (rw (eq-eqb e.number 0 h) (k.0 ∙ rw (i, j) (closed-finish e.wrote u st e.pivots (cs tag) (es tag)), k.1))

-- ---- "a state that reads as one still does after every call": so do the records that come over

module _ (f : State → Result) (t : Sparse) (e : Ended) (u : Sparse) (again : readable (f (read t)).state ≡ true) (on : e.number ≡ 0) (st : Standing false (mark_of e.wrote) u) where
  pub accepted-reads : (o : Outcome Work) (cs : List Constraint) (es : List Edit) → f (read t) ≡ conclude (read t) o (λ w. finish w cs es) → outcome_of false e u ≡ o → readable (brought cs es (closed e.wrote u)) ≡ true
  unfolding outcome_of
  accepted-reads o cs es q p =
      let x = ended_by (read t) e u (eqb e.number 0) refl (λ w. finish w cs es) in
      let r : f (read t) ≡ conclude (read t) (outcome_of false e u) (λ w. finish w cs es) = q ∙ ap (λ (y : Outcome Work). conclude (read t) y (λ w. finish w cs es)) (sym p) in
      let z : (f (read t)).state ≡ finish (work_of false (mark_of e.wrote) e.pivots u) cs es = ap (λ (y : Result). y.state) r ∙ x.1 (eq-eqb e.number 0 on) in
      rw (closed-finish e.wrote u st e.pivots cs es, ← z) again

  pub added-reads : (tag : Tag) (o : Outcome Added) (cs : Tag → List Constraint) (es : Tag → List Edit) → f (read t) ≡ conclude_add (read t) o (λ x. finish x.work (cs x.tag) (es x.tag))
      → cond (eqb e.number 0) (going (record { work = work_of false (mark_of e.wrote) e.pivots u; tag = tag })) (refused e.number e.pivots (mark_of e.wrote)) ≡ o
      → readable (brought (cs tag) (es tag) (closed e.wrote u)) ≡ true
  added-reads tag o cs es q p =
      let next : Added → State = λ x. finish x.work (cs x.tag) (es x.tag) in
      let x = added-by (read t) e u tag (eqb e.number 0) refl next in
      let r : f (read t) ≡ conclude_add (read t) (cond (eqb e.number 0) (going (record { work = work_of false (mark_of e.wrote) e.pivots u; tag = tag })) (refused e.number e.pivots (mark_of e.wrote))) next = q ∙ ap (λ (y : Outcome Added). conclude_add (read t) y next) (sym p) in
      let z : (f (read t)).state ≡ finish (work_of false (mark_of e.wrote) e.pivots u) (cs tag) (es tag) = ap (λ (y : Result). y.state) r ∙ x.1 (eq-eqb e.number 0 on) in
      rw (closed-finish e.wrote u st e.pivots (cs tag) (es tag), ← z) again

-- no refusal's number is 0
pub never-zero : (k : Refusal) → refusal_number k ≡ 0 → ⊥
never-zero k z = false≢true (sym (refuses k) ∙ eq-eqb (refusal_number k) 0 z)

-- where the steps go on, the room stands
pub went : (e : Ended) (u : Sparse) → Goes false e u → e.number ≡ 0 → Standing false (mark_of e.wrote) u
went e u goes on = then-given _ (eq-eqb e.number 0 on) goes

-- the places of the tag that an accepted addition gives are live in the closed room
pub tag-live : (e : Ended) (u : Sparse) (m o : ℕ) → Standing false (mark_of e.wrote) u → Then (eqb e.number 0) ((1 ≤ m) × (m ≤ symbol_count u) × (o ≤ symbol_count u)) → e.number ≡ 0
    → (1 ≤ m) × (m ≤ symbol_count (closed e.wrote u)) × (o ≤ symbol_count (closed e.wrote u))
tag-live e u m o st h on = let q = then-given _ (eq-eqb e.number 0 on) h in rw (closed-symbols e.wrote u st) q
