-- The passes of a call are its own, and demand 3 for a call each of whose passes starts from a good tableau. Assumes nothing.
use Prim.Native.Nat.{ℕ, suc, ◌+◌, ◌-◌, ◌<◌}
use native.Mathlib.Omega.{arith}
use mathlib.Core.Path.{◌≡◌, refl, sym, ap, ◌∙◌, subst}
use mathlib.Core.Logic.{inl, inr}
use mathlib.Core.Bool.{Bool, true, false, not}
use mathlib.Core.List.{List, [], ◌∷◌, ◌++◌}
use mathlib.Core.Option.{Option, none, some}
use lib.Dec.{T, eqb, eqb-suc-zero}
use lib.Ieee.{Float}
use Rattle.simplex.specs.Choose.{All}
use Rattle.steps.specs.Number.{zero64, is_finite}
use Rattle.steps.specs.Strength.{clip}
use Rattle.steps.specs.State.{Term, Relation, equal, Constraint, Edit, State}
use Rattle.steps.specs.Work.{Work, Outcome, refused, going}
use Rattle.steps.specs.Add.{Added, add_steps}
use Rattle.steps.specs.Remove.{remove_steps}
use Rattle.steps.specs.Edit.{edit_terms, add_edit_steps, suggest_steps}
use Rattle.steps.specs.Tests.{first_refusal, add_tests, add_edit_tests, drop_tests, group_of, find_constraint, find_edit, keep_constraint, drop_constraint, keep_edit, drop_edit, kept_terms, gone_full}
use Rattle.steps.specs.Calls.{Answer, Result, begin, finish, refused_by, accepted_as, conclude, conclude_add, add, remove, remove_stored, onward, remove_all, all_or_none, drop_group, add_edit, remove_edit, suggest, unless_full, remove_edit_stored}
use Rattle.steps.specs.Changing.{Changing}
use Rattle.steps.proofs.After.{says-whole}
use Rattle.steps.proofs.Numbers.{of_steps, test-number}
use Rattle.simplex.specs.bridge.Finds.{none≢some, some-injective}
use Rattle.simplex.specs.bridge.Runs.{mark_of}
use Rattle.run.specs.Demand.{Call, resets, fetches, adds, removes, drops, adds_edit, removes_edit, suggests, make}
use Rattle.run.specs.Drop.{onward-refused, onward-accepted}
use Rattle.run.specs.RecutDrop.{Ending, refuses, accepts, stored-ending, remove_all-yes}
use Rattle.run.specs.stall.Stall.{PassStart, outcome_of, pivots_of, all_pivots, all_ways, add_passes, remove_passes, drop_passes, suggest_passes, passes_of, budget_of, NoReturn, Level, Fewer, SomeWay, Demand3, Counted, moment, refusal_of, UsedUp, Some, Shares, TheCalls, passes_unless}
use Rattle.run.proofs.stall.Turns.{pivots_at, moments, all-used}
use Rattle.run.proofs.stall.Pass.{Starts, Unmarred, returns-not, level, fewer}
use Rattle.run.proofs.stall.Accounts.{Told, work_of, add-told, remove-told, suggest-told}

-- ---- what the passes ps tell of an answer
record Answers (b : ℕ) (ps : List PassStart) (r : Result) : Type 0 where
  shares : Shares b ps
  pivots : r.answer.pivots ≡ all_pivots ps
  used-up : r.answer.number ≡ 14 → Some UsedUp ps
  unmarred : r.answer.whole ≡ true → All Unmarred ps

-- a test refused
tested : (b n : ℕ) (s : State) → (n ≡ 14 → ⊥) → Answers b [] (refused_by n 0 s.whole s)
unfolding refused_by all_pivots
tested b n s d = record { shares = tt; pivots = refl; used-up = d; unmarred = λ m. tt }

concluded : (b : ℕ) (ps : List PassStart) (s : State) (o : Outcome Work) (next : Work → State) → Told b ps o → Answers b ps (conclude s o next)
unfolding conclude refused_by accepted_as pivots_at refusal_of mark_of
concluded b ps s (refused n p m) next t = record { shares = t.shares; pivots = t.pivots; used-up = t.used-up; unmarred = λ e. t.unmarred (says-whole m e) }
concluded b ps s (going w) next t = record { shares = t.shares; pivots = t.pivots; used-up = t.used-up; unmarred = λ e. t.unmarred (says-whole w.mark e) }

concluded-add : (b : ℕ) (ps : List PassStart) (s : State) (o : Outcome Added) (next : Added → State) → Told b ps (work_of o) → Answers b ps (conclude_add s o next)
unfolding conclude_add refused_by accepted_as work_of pivots_at refusal_of mark_of
concluded-add b ps s (refused n p m) next t = record { shares = t.shares; pivots = t.pivots; used-up = t.used-up; unmarred = λ e. t.unmarred (says-whole m e) }
concluded-add b ps s (going a) next t = record { shares = t.shares; pivots = t.pivots; used-up = t.used-up; unmarred = λ e. t.unmarred (says-whole a.work.mark e) }

-- ---- call by call
fresh : (s : State) → (begin s).pivots ≡ 0
unfolding begin
fresh s = refl

add-answers : (g n : ℕ) (ts : List Term) (k : Float) (r : Relation) (b : ℕ) (s : State) → Answers b (passes_of (adds g n ts k r b) s) (make (adds g n ts k r b) s)
unfolding passes_of make add
add-answers g n ts k r b s = go (first_refusal (add_tests g n ts k r s)) refl
  where
    next : Added → State
    next a = finish a.work (keep_constraint (record { number = n; group = g; comparison = Rattle.steps.specs.State.comparison_of r; strength = Rattle.steps.specs.State.strength_of r; constant = k; terms = kept_terms s.tableau.cutoff ts; tag = a.tag }) s.constraints) s.edits

    go : (o : Option ℕ) → first_refusal (add_tests g n ts k r s) ≡ o
        → Answers b (elim o [ some x ↦ [] | none ↦ add_passes b ts k r (begin s) ]) (elim o [ some x ↦ refused_by x 0 s.whole s | none ↦ conclude_add s (add_steps b ts k r (begin s)) next ])
    go none e = concluded-add b (add_passes b ts k r (begin s)) s (add_steps b ts k r (begin s)) next (add-told b ts k r (begin s) (fresh s))
    go (some x) e = tested b x s (λ q. subst (λ (k : ℕ). T (not (of_steps k))) q (test-number (Changing.adds g n ts k r b) s x e).1)

edit-answers : (v : ℕ) (k : Float) (b : ℕ) (s : State) → Answers b (passes_of (adds_edit v k b) s) (make (adds_edit v k b) s)
unfolding passes_of make add_edit add_edit_steps
edit-answers v k b s = go (first_refusal (add_edit_tests v (clip k) s)) refl
  where
    next : Added → State
    next a = finish a.work s.constraints (keep_edit (record { variable = v; strength = clip k; tag = a.tag; suggestion = zero64 }) s.edits)

    go : (o : Option ℕ) → first_refusal (add_edit_tests v (clip k) s) ≡ o
        → Answers b (elim o [ some x ↦ [] | none ↦ add_passes b (edit_terms v) zero64 (equal (clip k)) (begin s) ])
        (elim o [ some x ↦ refused_by x 0 s.whole s | none ↦ conclude_add s (add_steps b (edit_terms v) zero64 (equal (clip k)) (begin s)) next ])
    go none e = concluded-add b (add_passes b (edit_terms v) zero64 (equal (clip k)) (begin s)) s (add_steps b (edit_terms v) zero64 (equal (clip k)) (begin s)) next (add-told b (edit_terms v) zero64 (equal (clip k)) (begin s) (fresh s))
    go (some x) e = tested b x s (λ q. subst (λ (k : ℕ). T (not (of_steps k))) q (test-number (Changing.adds_edit v k b) s x e).1)

remove-answers : (n b : ℕ) (s : State) → Answers b (passes_of (removes n b) s) (make (removes n b) s)
unfolding passes_of passes_unless make remove remove_stored unless_full
remove-answers n b s = go (find_constraint n s.constraints)
  where
    next : Work → State
    next w = finish w (drop_constraint n s.constraints) s.edits

    full : (c : Constraint) (t : Bool)
        → Answers b (elim t [ true ↦ [] | false ↦ remove_passes b c.tag c.strength (begin s) ])
        (elim t [ true ↦ refused_by 25 0 s.whole s | false ↦ conclude s (remove_steps b c.tag c.strength c.terms (begin s)) next ])
    full c true = tested b 25 s (λ q. omega (arith, q))
    full c false = concluded b (remove_passes b c.tag c.strength (begin s)) s (remove_steps b c.tag c.strength c.terms (begin s)) next (remove-told b c.tag c.strength c.terms (begin s) (fresh s))

    go : (o : Option Constraint)
        → Answers b (elim o [ none ↦ [] | some c ↦ passes_unless c.terms s (remove_passes b c.tag c.strength (begin s)) ])
        (elim o [ none ↦ refused_by 5 0 s.whole s | some c ↦ unless_full c.terms s (conclude s (remove_steps b c.tag c.strength c.terms (begin s)) next) ])
    go none = tested b 5 s (λ q. omega (arith, q))
    go (some c) = full c (gone_full c.terms s)

unedit-answers : (v b : ℕ) (s : State) → Answers b (passes_of (removes_edit v b) s) (make (removes_edit v b) s)
unfolding passes_of passes_unless make remove_edit remove_edit_stored unless_full
unedit-answers v b s = go (find_edit v s.edits)
  where
    next : Work → State
    next w = finish w s.constraints (drop_edit v s.edits)

    full : (e : Edit) (t : Bool)
        → Answers b (elim t [ true ↦ [] | false ↦ remove_passes b e.tag e.strength (begin s) ])
        (elim t [ true ↦ refused_by 25 0 s.whole s | false ↦ conclude s (remove_steps b e.tag e.strength (edit_terms v) (begin s)) next ])
    full e true = tested b 25 s (λ q. omega (arith, q))
    full e false = concluded b (remove_passes b e.tag e.strength (begin s)) s (remove_steps b e.tag e.strength (edit_terms v) (begin s)) next (remove-told b e.tag e.strength (edit_terms v) (begin s) (fresh s))

    go : (o : Option Edit)
        → Answers b (elim o [ none ↦ [] | some e ↦ passes_unless (edit_terms v) s (remove_passes b e.tag e.strength (begin s)) ])
        (elim o [ none ↦ refused_by 8 0 s.whole s | some e ↦ unless_full (edit_terms v) s (conclude s (remove_steps b e.tag e.strength (edit_terms v) (begin s)) next) ])
    go none = tested b 8 s (λ q. omega (arith, q))
    go (some e) = full e (gone_full (edit_terms v) s)

-- ---- a drop: its removals one after the other

some_right : (Q : PassStart → Type 0) (ps qs : List PassStart) → Some Q qs → Some Q (ps ++ qs)
some_right Q [] qs q = q
some_right Q (p ∷ ps) qs q = inr (some_right Q ps qs q)

all_both : (Q : PassStart → Type 0) (ps qs : List PassStart) → All Q ps → All Q qs → All Q (ps ++ qs)
all_both Q [] qs a c = c
all_both Q (p ∷ ps) qs a c = (a.0, all_both Q ps qs a.1 c)

pivots-both : (ps qs : List PassStart) → all_pivots (ps ++ qs) ≡ all_pivots ps + all_pivots qs
unfolding all_pivots
pivots-both [] qs = omega arith
pivots-both (p ∷ ps) qs = omega (arith, pivots-both ps qs)

shares-both : (b : ℕ) (ps qs : List PassStart) → Shares b ps → Shares (b - all_pivots ps) qs → Shares b (ps ++ qs)
unfolding all_pivots
shares-both b [] qs s t = subst (λ (c : ℕ). Shares c qs) (omega arith) t
shares-both b (p ∷ ps) qs s t = (s.0, shares-both (b - pivots_of p) ps qs s.1 (subst (λ (c : ℕ). Shares c qs) (omega arith) t))

no_more : {A : Type 0} (l : List A) → l ++ [] ≡ l
no_more [] = refl
no_more (x ∷ l) = ap (λ t. x ∷ t) (no_more l)

stored-answers : (n : ℕ) (c : Constraint) (b : ℕ) (s : State) → Answers b (remove_passes b c.tag c.strength (begin s)) (remove_stored n c b s)
unfolding remove_stored
stored-answers n c b s =
    concluded b (remove_passes b c.tag c.strength (begin s)) s (remove_steps b c.tag c.strength c.terms (begin s)) (λ w. finish w (drop_constraint n s.constraints) s.edits) (remove-told b c.tag c.strength c.terms (begin s) (fresh s))

-- a removal that is accepted, and those after it
joined : (b : ℕ) (ps qs : List PassStart) (r q : Result) → Answers b ps r → Answers (b - r.answer.pivots) qs q → (q.answer.whole ≡ true → r.answer.whole ≡ true) → r.answer.number ≡ 0 → Answers b (ps ++ qs) (onward r q)
joined b ps qs r q A B says e = record {
  shares = shares-both b ps qs A.shares (subst (λ (k : ℕ). Shares (b - k) qs) A.pivots B.shares);
  pivots = ap (λ (x : Result). x.answer.pivots) o ∙ ap (λ (k : ℕ). k + q.answer.pivots) A.pivots ∙ ap (λ (k : ℕ). all_pivots ps + k) B.pivots ∙ sym (pivots-both ps qs);
  used-up = λ u. some_right UsedUp ps qs (B.used-up (sym (ap (λ (x : Result). x.answer.number) o) ∙ u));
  unmarred = λ w. let v : q.answer.whole ≡ true = sym (ap (λ (x : Result). x.answer.whole) o) ∙ w in all_both Unmarred ps qs (A.unmarred (says v)) (B.unmarred v);
}
  where
    o : onward r q ≡ record { answer = record { number = q.answer.number; pivots = r.answer.pivots + q.answer.pivots; whole = q.answer.whole }; state = q.state }
    o = onward-accepted r q e

all-answers : (ds : List Constraint) (b : ℕ) (s : State) → Answers b (drop_passes ds b s) (remove_all ds b s)
unfolding drop_passes remove_all all_pivots
all-answers [] b s = record { shares = tt; pivots = refl; used-up = λ q. omega (arith, q); unmarred = λ m. tt }
all-answers (d ∷ ds) b s = go (stored-ending d.number d b s) (all-answers ds (b - one.answer.pivots) one.state)
  where
    one : Result
    one = remove_stored d.number d b s

    rest : Result
    rest = remove_all ds (b - one.answer.pivots) one.state

    own : List PassStart
    own = remove_passes b d.tag d.strength (begin s)

    later : List PassStart
    later = drop_passes ds (b - one.answer.pivots) one.state

    go : Ending s one → Answers (b - one.answer.pivots) later rest → Answers b (own ++ elim (eqb one.answer.number 0) as (λ _. List PassStart) [ false ↦ [] | true ↦ later ]) (onward one rest)
    go (refuses k e h) on =
        subst (λ (l : List PassStart). Answers b (own ++ l) (onward one rest)) (ap (λ (n : ℕ). elim (eqb n 0) as (λ _. List PassStart) [ false ↦ [] | true ↦ later ]) (sym e) ∙ refl)
        (subst (λ (l : List PassStart). Answers b l (onward one rest)) (sym (append-to own k)) (subst (Answers b own) (sym (onward-refused one rest k e)) (stored-answers d.number d b s)))
      where
        append-to : (ps : List PassStart) (k : ℕ) → ps ++ elim (eqb (suc k) 0) as (λ _. List PassStart) [ false ↦ [] | true ↦ later ] ≡ ps
        append-to ps k = ap (λ (t : Bool). ps ++ elim t as (λ _. List PassStart) [ false ↦ [] | true ↦ later ]) (eqb-suc-zero k) ∙ no_more ps
    go (accepts e q h) on =
        subst (λ (n : ℕ). Answers b (own ++ elim (eqb n 0) as (λ _. List PassStart) [ false ↦ [] | true ↦ later ]) (onward one rest)) (sym e)
        (joined b own later one rest (stored-answers d.number d b s) on (λ w. q ∙ remove_all-yes ds (b - one.answer.pivots) one.state w) e)

drop-answers : (g b : ℕ) (s : State) → Answers b (passes_of (drops g b) s) (make (drops g b) s)
unfolding passes_of make drop_group
drop-answers g b s = go (first_refusal (drop_tests g s)) refl
  where
    ds : List Constraint
    ds = group_of g s.constraints

    kept : (r : Result) {ps : List PassStart} → Answers b ps r → Answers b ps (all_or_none s r)
    kept r A = record {
      shares = A.shares;
      pivots = ap (λ (a : Answer). a.pivots) (same_answer r) ∙ A.pivots;
      used-up = λ u. A.used-up (sym (ap (λ (a : Answer). a.number) (same_answer r)) ∙ u);
      unmarred = λ w. A.unmarred (sym (ap (λ (a : Answer). a.whole) (same_answer r)) ∙ w);
    }
      where
        same_answer : (r : Result) → (all_or_none s r).answer ≡ r.answer
        same_answer r = unfold all_or_none refused_by in by (eqb r.answer.number 0)
          where
            by : (t : Bool) → (elim t as (λ _. Result) [ true ↦ r | false ↦ refused_by r.answer.number r.answer.pivots r.answer.whole s ]).answer ≡ r.answer
            by true = refl
            by false = unfold refused_by in refl

    go : (o : Option ℕ) → first_refusal (drop_tests g s) ≡ o
        → Answers b (elim o as (λ _. List PassStart) [ some x ↦ [] | none ↦ drop_passes ds b s ]) (elim o as (λ _. Result) [ some x ↦ refused_by x 0 s.whole s | none ↦ all_or_none s (remove_all ds b s) ])
    go none e = kept (remove_all ds b s) (all-answers ds b s)
    go (some x) e = tested b x s (λ q. subst (λ (k : ℕ). T (not (of_steps k))) q (test-number (Changing.drops g b) s x e).1)

suggest-answers : (v : ℕ) (x : Float) (b : ℕ) (s : State) → Answers b (passes_of (suggests v x b) s) (make (suggests v x b) s)
unfolding passes_of make suggest
suggest-answers v x b s = go (is_finite x) (find_edit v s.edits)
  where
    next : Edit → Work → State
    next e w = finish w s.constraints (keep_edit (record { variable = v; strength = e.strength; tag = e.tag; suggestion = x }) (drop_edit v s.edits))

    go : (f : Bool) (o : Option Edit)
        → Answers b (elim f [ false ↦ [] | true ↦ elim o [ none ↦ [] | some e ↦ suggest_passes b e x (begin s) ] ])
        (elim f [ false ↦ refused_by 1 0 s.whole s | true ↦ elim o [ none ↦ refused_by 8 0 s.whole s | some e ↦ conclude s (suggest_steps b e x (begin s)) (next e) ] ])
    go false o = tested b 1 s (λ q. omega (arith, q))
    go true none = tested b 8 s (λ q. omega (arith, q))
    go true (some e) = concluded b (suggest_passes b e x (begin s)) s (suggest_steps b e x (begin s)) (next e) (suggest-told b e x (begin s) (fresh s))

answers : (b : ℕ) (c : Call) (s : State) → budget_of c ≡ some b → Answers b (passes_of c s) (make c s)
unfolding budget_of
answers b (resets z) s e = absurd (none≢some e)
answers b fetches s e = absurd (none≢some e)
answers b (adds g n ts k r x) s e = subst (λ (y : ℕ). Answers y (passes_of (adds g n ts k r x) s) (make (adds g n ts k r x) s)) (some-injective e) (add-answers g n ts k r x s)
answers b (removes n x) s e = subst (λ (y : ℕ). Answers y (passes_of (removes n x) s) (make (removes n x) s)) (some-injective e) (remove-answers n x s)
answers b (drops g x) s e = subst (λ (y : ℕ). Answers y (passes_of (drops g x) s) (make (drops g x) s)) (some-injective e) (drop-answers g x s)
answers b (adds_edit v k x) s e = subst (λ (y : ℕ). Answers y (passes_of (adds_edit v k x) s) (make (adds_edit v k x) s)) (some-injective e) (edit-answers v k x s)
answers b (removes_edit v x) s e = subst (λ (y : ℕ). Answers y (passes_of (removes_edit v x) s) (make (removes_edit v x) s)) (some-injective e) (unedit-answers v x s)
answers b (suggests v k x) s e = subst (λ (y : ℕ). Answers y (passes_of (suggests v k x) s) (make (suggests v k x) s)) (some-injective e) (suggest-answers v k x s)

each-counted : (ps : List PassStart) → All Counted ps
unfolding moment pivots_of
each-counted [] = tt
each-counted (p ∷ ps) = ((λ i. moments i p.left p.rule p.work), each-counted ps)

-- THE PASSES ARE THE CALL'S, whatever its mark
pub passes-are-the-calls : (b : ℕ) (c : Call) (s : State) → budget_of c ≡ some b → TheCalls b c s
passes-are-the-calls b c s e = let a = answers b c s e in record { counted = each-counted (passes_of c s); shares = a.shares; pivots = a.pivots; used-up = a.used-up }

-- a call that answers yes has its mark whole at the end of each pass
pub unmarred : (b : ℕ) (c : Call) (s : State) → budget_of c ≡ some b → (make c s).answer.whole ≡ true → All Unmarred (passes_of c s)
unmarred b c s e m = (answers b c s e).unmarred m

-- ---- the budget
spent : (p : PassStart) → UsedUp p → pivots_of p ≡ p.left
unfolding outcome_of pivots_of
spent p u = all-used p.left p.rule p.work u

-- a budget that is used up is below the ways
pub below-ways : (b : ℕ) (ps : List PassStart) → Shares b ps → All Fewer ps → Some UsedUp ps → b < all_ways ps
unfolding all_ways
below-ways b [] s f u = absurd u
below-ways b (p ∷ ps) s f (inl u) = omega (arith, s.0, f.0, spent p u)
below-ways b (p ∷ ps) s f (inr u) = omega (arith, f.0, below-ways (b - pivots_of p) ps s.1 f.1 u)

-- ---- DEMAND 3 FOR A CALL
pub all-returns : (ps : List PassStart) → All Starts ps → All Unmarred ps → All NoReturn ps
all-returns [] a m = tt
all-returns (p ∷ ps) a m = (returns-not p a.0 m.0, all-returns ps a.1 m.1)

all-level : (ps : List PassStart) → All Starts ps → All Unmarred ps → All Level ps
all-level [] a m = tt
all-level (p ∷ ps) a m = (level p a.0 m.0, all-level ps a.1 m.1)

all-fewer : (ps : List PassStart) → All Starts ps → All Unmarred ps → All Fewer ps
all-fewer [] a m = tt
all-fewer (p ∷ ps) a m = (fewer p a.0 m.0, all-fewer ps a.1 m.1)

pub demand-3 : (b : ℕ) (c : Call) (s : State) → budget_of c ≡ some b → (make c s).answer.whole ≡ true → All Starts (passes_of c s) → SomeWay c s → Demand3 b c s
demand-3 b c s e m a way =
    let u : All Unmarred (passes_of c s) = unmarred b c s e m in
    let f : All Fewer (passes_of c s) = all-fewer (passes_of c s) a u in
    let t : TheCalls b c s = passes-are-the-calls b c s e in
    record {
      no_return = all-returns (passes_of c s) a u;
      level = all-level (passes_of c s) a u;
      fewer = f;
      enough = λ l q. omega (arith, l, below-ways b (passes_of c s) t.shares f (t.used-up q));
      some-way = way;
    }
