-- The three ways in which a changing call answers, on every input. Assumes nothing.
use Prim.Native.Nat.{ℕ, zero, suc, ◌+◌, ◌-◌}
use native.Mathlib.Omega.{arith}
use mathlib.Core.Path.{◌≡◌, refl, ap, ◌∙◌, subst}
use mathlib.Core.Bool.{Bool, true, false, cond}
use mathlib.Core.List.{List, [], ◌∷◌}
use mathlib.Core.Option.{Option, none, some}
use lib.Dec.{T, eqb, eqb-suc-zero}
use lib.Ieee.{Float}
use Rattle.steps.specs.Number.{is_finite, Mark, all_whole, not_whole, says_whole}
use Rattle.steps.specs.Strength.{clip}
use Rattle.steps.specs.State.{Term, Relation, equal, Constraint, Edit, State}
use Rattle.steps.specs.Work.{Work, Outcome}
use Rattle.steps.specs.Add.{Added}
use Rattle.steps.specs.Remove.{remove_steps}
use Rattle.steps.specs.Edit.{edit_terms, add_edit_steps}
use Rattle.steps.specs.Tests.{member, first_refusal, has_constraint, has_edit, gone_full, add_tests, add_edit_tests, remove_tests, remove_edit_tests, drop_tests, group_of, find_constraint, drop_constraint, find_edit}
use Rattle.steps.specs.Calls.{Result, begin, finish, refused_by, accepted_as, conclude, conclude_add, add, remove_stored, unless_full, remove, onward, remove_all, all_or_none, drop_group, add_edit, remove_edit_stored, remove_edit, suggest}
use Rattle.steps.specs.Changing.{Changing, adds, removes, drops, drop_each, adds_edit, removes_edit, suggests, made, budget_of, tests, step_numbers, Stores}
use Rattle.steps.proofs.Told.{shed-refl, shed-trans}
use Rattle.steps.proofs.After.{says-whole}
use Rattle.steps.proofs.Ends.{Bounds, Within, Stopped, Ends, stops, goes}
use Rattle.steps.proofs.Steps.{add_steps-ends, remove_steps-ends, suggest_steps-ends}

-- what its steps are held to
abbrev pub bounds : Changing → State → Bounds
bounds c s = record { budget = budget_of c; stored = s.whole; cutoff = s.tableau.cutoff; changes = s.changes; numbers = step_numbers c }

-- how a changing call comes to its answer
pub data Answered (c : Changing) (s : State) : Result → Type 0 where
  -- a test failed, and no step was taken
  by_test : (n : ℕ) → first_refusal (tests c s) ≡ some n → Answered c s (refused_by n 0 s.whole s)
  -- the steps met a refusal, with p pivots made and the mark m
  by_steps : (n p : ℕ) (m : Mark) → first_refusal (tests c s) ≡ none → Stopped (bounds c s) n p m
      → Answered c s (refused_by n p (says_whole m) s)
  -- accepted: what the steps came to is stored
  accepts : (w : Work) (cs : List Constraint) (es : List Edit) → first_refusal (tests c s) ≡ none → Within (bounds c s) w → Stores c s cs es
      → Answered c s (accepted_as w (finish w cs es))

-- the steps begin with no pivot, and with the stored mark
begins : (c : Changing) (s : State) → Within (bounds c s) (begin s)
unfolding begin says_whole
begins c s = record { spent = omega arith; mark = go s.whole; cutoff = refl; told = shed-refl s.changes }
  where
    go : (b : Bool) → cond b all_whole not_whole ≡ all_whole → b ≡ true
    go true e = refl
    go false e = ap says_whole e

-- steps that end so give such an answer
concluded : (c : Changing) (s : State) (o : Outcome Work) (cs : List Constraint) (es : List Edit) → first_refusal (tests c s) ≡ none → Stores c s cs es
    → Ends (bounds c s) (Within (bounds c s)) o → Answered c s (conclude s o λ w. finish w cs es)
unfolding conclude
concluded c s o cs es e k (stops {n = n} {p = p} {m = m} h) = by_steps n p m e h
concluded c s o cs es e k (goes {a = w} h) = accepts w cs es e h k

-- the same of Add's steps, where the tag decides what is stored
concluded_add : (c : Changing) (s : State) (o : Outcome Added) (cs : Added → List Constraint) (es : Added → List Edit) → first_refusal (tests c s) ≡ none → ((a : Added) → Stores c s (cs a) (es a))
    → Ends (bounds c s) (λ (a : Added). Within (bounds c s) a.work) o
    → Answered c s (conclude_add s o λ a. finish a.work (cs a) (es a))
unfolding conclude_add
concluded_add c s o cs es e k (stops {n = n} {p = p} {m = m} h) = by_steps n p m e h
concluded_add c s o cs es e k (goes {a = a} h) = accepts a.work (cs a) (es a) e h (k a)

-- a call that answers by its first test that fails, or else by its steps
tested : (c : Changing) (s : State) (o : Option ℕ) → first_refusal (tests c s) ≡ o → (r : Result) → (first_refusal (tests c s) ≡ none → Answered c s r)
    → Answered c s (elim o [ some n ↦ refused_by n 0 s.whole s | none ↦ r ])
tested c s none e r h = h e
tested c s (some n) e r h = by_test n e

-- ---- the five calls

add-answered : (g n : ℕ) (ts : List Term) (k : Float) (r : Relation) (b : ℕ) (s : State) → Answered (adds g n ts k r b) s (add g n ts k r b s)
unfolding add member
add-answered g n ts k r b s =
    tested (adds g n ts k r b) s (first_refusal (add_tests g n ts k r s)) refl _
    λ e. concluded_add (adds g n ts k r b) s _ _ _ e (λ a. (a.tag, refl, refl)) (add_steps-ends {lim = bounds (adds g n ts k r b) s} tt tt tt tt ts k r (begin s) (begins (adds g n ts k r b) s))

-- a live number is one that is found
constraint-test : (n : ℕ) (s : State) (o : Option Constraint) → find_constraint n s.constraints ≡ o → has_constraint n s ≡ elim o [ none ↦ false | some c ↦ true ]
unfolding has_constraint
constraint-test n s o e = rw (e, has_constraint)

edit-test : (n : ℕ) (s : State) (o : Option Edit) → find_edit n s.edits ≡ o → has_edit n s ≡ elim o [ none ↦ false | some c ↦ true ]
unfolding has_edit
edit-test n s o e = rw (e, has_edit)

remove-answered : (n b : ℕ) (s : State) → Answered (removes n b) s (remove n b s)
unfolding remove remove_stored unless_full remove_tests first_refusal member
remove-answered n b s = go (find_constraint n s.constraints) refl
  where
    full : (c : Constraint) → find_constraint n s.constraints ≡ some c → (f : Bool) → gone_full c.terms s ≡ f → Answered (removes n b) s (remove n b s)
    full c e true g = rw (e, g, remove, unless_full) (by_test 25 (rw (constraint-test n s (some c) e, e, g)))
    full c e false g =
        rw (e, g, remove, unless_full) (concluded (removes n b) s _ _ _ (rw (constraint-test n s (some c) e, e, g)) (refl, refl) (remove_steps-ends {lim = bounds (removes n b) s} tt tt tt tt c.tag c.strength c.terms (begin s) (begins (removes n b) s)))

    go : (o : Option Constraint) → find_constraint n s.constraints ≡ o → Answered (removes n b) s (remove n b s)
    go none e = rw (e, remove) (by_test 5 (rw (constraint-test n s none e)))
    go (some c) e = full c e (gone_full c.terms s) refl

-- ---- removals one after the other

-- what the steps of a removal with this budget are held to
abbrev pub limits : ℕ → State → Bounds
limits b s = record { budget = b; stored = s.whole; cutoff = s.tableau.cutoff; changes = s.changes; numbers = 13 ∷ 14 ∷ 15 ∷ 17 ∷ [] }

pub starts : (b : ℕ) (s : State) → Within (limits b s) (begin s)
unfolding begin says_whole
starts b s = record { spent = omega arith; mark = go s.whole; cutoff = refl; told = shed-refl s.changes }
  where
    go : (b : Bool) → cond b all_whole not_whole ≡ all_whole → b ≡ true
    go true e = refl
    go false e = ap says_whole e

finish-begin : (s : State) → finish (begin s) s.constraints s.edits ≡ s
unfolding finish begin
finish-begin s = ap (λ (b : Bool). record { tableau = s.tableau; changes = s.changes; constraints = s.constraints; edits = s.edits; whole = b }) (go s.whole)
  where
    go : (b : Bool) → says_whole (cond b all_whole not_whole) ≡ b
    go true = unfold says_whole in refl
    go false = unfold says_whole in refl

-- how they end: one refuses, or all are made, and what the last one's steps came to is stored, with all their pivots
data AllRemoved (b : ℕ) (ds : List Constraint) (s : State) : Result → Type 0 where
  stopped : (n p : ℕ) (m : Mark) (t : State) → Stopped (limits b s) n p m → AllRemoved b ds s (refused_by n p (says_whole m) t)
  went : (w : Work) → Within (limits b s) w → AllRemoved b ds s (accepted_as w (finish w (drop_each ds s.constraints) s.edits))

pub steps-above-zero : (n : ℕ) → T (member n (13 ∷ 14 ∷ 15 ∷ 17 ∷ [])) → eqb n 0 ≡ false
unfolding member
steps-above-zero zero t = absurd t
steps-above-zero (suc n) t = eqb-suc-zero n

-- a removal, then the others from the state that it leaves
removed-then : (d : Constraint) (ds : List Constraint) (b : ℕ) (s : State) (w : Work) → Within (limits b s) w → {q : Result}
    → AllRemoved (b - w.pivots) ds (finish w (drop_constraint d.number s.constraints) s.edits) q
    → AllRemoved b (d ∷ ds) s (record { answer = record { number = q.answer.number; pivots = w.pivots + q.answer.pivots; whole = q.answer.whole }; state = q.state })
unfolding refused_by accepted_as finish drop_each
removed-then d ds b s w h (stopped n p m t k) =
    stopped n (w.pivots + p) m t (record {
      listed = k.listed;
      spent = omega (arith, h.spent, k.spent);
      used = λ e. omega (arith, h.spent, k.used e);
      lost = k.lost;
      mark = λ e. h.mark (says-whole w.mark (k.mark e));
    })
removed-then d ds b s w h (went v k) =
    went (record { tableau = v.tableau; changes = v.changes; artificial = v.artificial; mark = v.mark; pivots = w.pivots + v.pivots })
    (record { spent = omega (arith, h.spent, k.spent); mark = λ e. h.mark (says-whole w.mark (k.mark e)); cutoff = k.cutoff ∙ h.cutoff; told = shed-trans h.told k.told })

removes-all : (ds : List Constraint) (b : ℕ) (s : State) → AllRemoved b ds s (remove_all ds b s)
unfolding remove_all remove_stored onward conclude refused_by accepted_as finish begin drop_each member
removes-all [] b s = subst (AllRemoved b [] s) (ap (λ (t : State). record { answer = record { number = 0; pivots = 0; whole = t.whole }; state = t }) (finish-begin s)) (went (begin s) (starts b s))
removes-all (d ∷ ds) b s = go (remove_steps b d.tag d.strength d.terms (begin s)) (remove_steps-ends {lim = limits b s} tt tt tt tt d.tag d.strength d.terms (begin s) (starts b s)) (λ c t. removes-all ds c t)
  where
    next : Work → State
    next w = finish w (drop_constraint d.number s.constraints) s.edits

    after : Outcome Work → Result
    after o = onward (conclude s o next) (remove_all ds (b - (conclude s o next).answer.pivots) (conclude s o next).state)

    go : (o : Outcome Work) → Ends (limits b s) (Within (limits b s)) o → ((c : ℕ) (t : State) → AllRemoved c ds t (remove_all ds c t)) → AllRemoved b (d ∷ ds) s (after o)
    go o (stops {n = n} {p = p} {m = m} h) on = rw (steps-above-zero n h.listed, onward) (stopped n p m s h)
    go o (goes {a = w} h) on = removed-then d ds b s w h (on (b - w.pivots) (next w))

drop-answered : (g b : ℕ) (s : State) → Answered (drops g b) s (drop_group g b s)
unfolding drop_group all_or_none refused_by accepted_as
drop-answered g b s = tested (drops g b) s (first_refusal (drop_tests g s)) refl _ λ e. go e (removes-all (group_of g s.constraints) b s)
  where
    go : first_refusal (drop_tests g s) ≡ none → {r : Result} → AllRemoved b (group_of g s.constraints) s r
        → Answered (drops g b) s (elim (eqb r.answer.number 0) as (λ _. Result) [ true ↦ r | false ↦ refused_by r.answer.number r.answer.pivots r.answer.whole s ])
    go e (stopped n p m t h) = rw (steps-above-zero n h.listed) (by_steps n p m e h)
    go e (went w h) = accepts w (drop_each (group_of g s.constraints) s.constraints) s.edits e h (refl, refl)

add_edit-answered : (n : ℕ) (k : Float) (b : ℕ) (s : State) → Answered (adds_edit n k b) s (add_edit n k b s)
unfolding add_edit add_edit_steps member
add_edit-answered n k b s =
    tested (adds_edit n k b) s (first_refusal (add_edit_tests n (clip k) s)) refl _
    λ e. concluded_add (adds_edit n k b) s _ _ _ e (λ a. (a.tag, refl, refl)) (add_steps-ends {lim = bounds (adds_edit n k b) s} tt tt tt tt (edit_terms n) _ (equal (clip k)) (begin s) (begins (adds_edit n k b) s))

remove_edit-answered : (n b : ℕ) (s : State) → Answered (removes_edit n b) s (remove_edit n b s)
unfolding remove_edit remove_edit_stored unless_full remove_edit_tests first_refusal member
remove_edit-answered n b s = go (find_edit n s.edits) refl
  where
    full : (c : Edit) → find_edit n s.edits ≡ some c → (f : Bool) → gone_full (edit_terms n) s ≡ f → Answered (removes_edit n b) s (remove_edit n b s)
    full c e true g = rw (e, g, remove_edit, unless_full) (by_test 25 (rw (edit-test n s (some c) e, g)))
    full c e false g =
        rw (e, g, remove_edit, unless_full) (concluded (removes_edit n b) s _ _ _ (rw (edit-test n s (some c) e, g)) (refl, refl) (remove_steps-ends {lim = bounds (removes_edit n b) s} tt tt tt tt c.tag c.strength (edit_terms n) (begin s) (begins (removes_edit n b) s)))

    go : (o : Option Edit) → find_edit n s.edits ≡ o → Answered (removes_edit n b) s (remove_edit n b s)
    go none e = rw (e, remove_edit) (by_test 8 (rw (edit-test n s none e)))
    go (some c) e = full c e (gone_full (edit_terms n) s) refl

suggest-answered : (n : ℕ) (x : Float) (b : ℕ) (s : State) → Answered (suggests n x b) s (suggest n x b s)
unfolding suggest first_refusal member begin
suggest-answered n x b s = go (is_finite x) refl (find_edit n s.edits) refl
  where
    go : (f : Bool) → is_finite x ≡ f → (o : Option Edit) → find_edit n s.edits ≡ o → Answered (suggests n x b) s (suggest n x b s)
    go false p o e = rw (p, suggest) (by_test 1 (rw p))
    go true p none e = rw (p, e, suggest) (by_test 8 (rw (p, edit-test n s none e)))
    go true p (some c) e =
        rw (p, e, suggest) (concluded (suggests n x b) s _ _ _ (rw (p, edit-test n s (some c) e)) (c, e, refl, refl) (suggest_steps-ends {lim = bounds (suggests n x b) s} tt tt tt c x (begin s) refl (begins (suggests n x b) s)))

-- every changing call answers in one of the three ways
pub answered : (c : Changing) (s : State) → Answered c s (made c s)
answered (adds g n ts k r b) s = add-answered g n ts k r b s
answered (removes n b) s = remove-answered n b s
answered (drops g b) s = drop-answered g b s
answered (adds_edit n k b) s = add_edit-answered n k b s
answered (removes_edit n b) s = remove_edit-answered n b s
answered (suggests n x b) s = suggest-answered n x b s
