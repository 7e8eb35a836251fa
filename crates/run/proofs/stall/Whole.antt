-- DEMAND 3. In a whole run no pass of an add, a removal, a drop or a suggestion holds the same basic symbols twice, each makes fewer pivots than there are ways to choose r of n, these ways are budget enough, and 16 is not given. Assumes nothing.
use Prim.Native.Nat.{ℕ, ◌≤◌}
use mathlib.Core.Path.{◌≡◌, refl}
use mathlib.Core.Bool.{true, false}
use mathlib.Core.List.{List, []}
use mathlib.Core.Option.{Option, none, some}
use lib.ListN.{length}
use lib.Ieee.{Float}
use Rattle.simplex.specs.Choose.{All}
use Rattle.steps.specs.Number.{zero64, cutoff_fits, below_zero, all_whole}
use Rattle.steps.specs.Strength.{clip}
use Rattle.steps.specs.State.{Term, Relation, equal, strength_of, comparison_of, State}
use Rattle.steps.specs.Add.{Added, add_steps}
use Rattle.steps.specs.Edit.{edit_terms, add_edit_steps}
use Rattle.steps.specs.Tests.{first_refusal, add_tests, add_edit_tests, keep_constraint, keep_edit, kept_terms}
use Rattle.steps.specs.Calls.{Result, begin, finish, refused_by, conclude_add, add, add_edit}
use Rattle.steps.specs.Changing as changing
use Rattle.simplex.specs.bridge.Finds.{none≢some}
use Rattle.run.specs.Demand.{of_constraint, of_edit, Call, resets, fetches, adds, removes, drops, adds_edit, removes_edit, suggests, make, Moment, after}
use Rattle.run.specs.Inv.{Inv}
use Rattle.run.specs.AddMarks.{mark_added, whole-steps}
use Rattle.run.proofs.Add.{passed, not-above, ids-left, added-whole}
use Rattle.run.proofs.Run.{after-reads, inv-before, marked-numbers}
use Rattle.run.proofs.AddEdit.{clip-up, whole-strength, one-term}
use Rattle.run.specs.stall.Stall.{PassStart, add_passes, passes_of, budget_of, Demand3, NeverStalls}
use Rattle.run.proofs.stall.Pass.{Starts}
use Rattle.run.proofs.stall.Calls.{unmarred, demand-3}
use Rattle.run.proofs.stall.AddStarts.{add-starts}
use Rattle.run.proofs.stall.SuggestStarts.{suggest-starts}
use Rattle.run.proofs.stall.RemoveStarts.{remove-starts, remove_edit-starts}
use Rattle.run.proofs.stall.DropStarts.{drop-starts}

-- ---- an add
record Passes (ts : List Term) (r : Relation) (s : State) : Type 0 where
  strength : below_zero (strength_of r) ≡ false
  few : length ts ≤ 16
  low : s.tableau.next_id ≤ 4_294_900_000

passes : (g n : ℕ) (ts : List Term) (k : Float) (r : Relation) (s : State) → first_refusal (add_tests g n ts k r s) ≡ none → Passes ts r s
unfolding add_tests
passes g n ts k r s e =
    let t₀ = passed _ _ e in
    let t₁ = passed _ _ t₀.1 in
    let t₂ = passed _ _ t₁.1 in
    let t₃ = passed _ _ t₂.1 in
    let t₄ = passed _ _ t₃.1 in
    let t₅ = passed _ _ t₄.1 in
    let t₆ = passed _ _ t₅.1 in
    let t₇ = passed _ _ t₆.1 in
    record { strength = t₂.0; few = not-above 16 (length ts) t₃.0; low = ids-left s t₇.0 }

adds-start : (m : Moment) → Inv m → (g n : ℕ) (ts : List Term) (k : Float) (r : Relation) (b : ℕ) → (make (adds g n ts k r b) m.state).answer.whole ≡ true → All Starts (passes_of (adds g n ts k r b) m.state)
unfolding passes_of make add
adds-start m I g n ts k r b = go (first_refusal (add_tests g n ts k r m.state)) refl
  where
    next : Added → State
    next a = finish a.work (keep_constraint (record { number = n; group = g; comparison = comparison_of r; strength = strength_of r; constant = k; terms = kept_terms m.state.tableau.cutoff ts; tag = a.tag }) m.state.constraints) m.state.edits

    go : (o : Option ℕ) → first_refusal (add_tests g n ts k r m.state) ≡ o
        → (elim o as (λ x. Result) [ some x ↦ refused_by x 0 m.state.whole m.state | none ↦ conclude_add m.state (add_steps b ts k r (begin m.state)) next ]).answer.whole ≡ true
        → All Starts (elim o as (λ x. List PassStart) [ some x ↦ [] | none ↦ add_passes b ts k r (begin m.state) ])
    go (some x) e w = tt
    go none e w =
        let P = passes g n ts k r m.state e in
        add-starts m I (record { key = of_constraint n; group = g; terms = ts; constant = k; relation = r }) b P.strength P.few P.low (added-whole m.state (add_steps b ts k r (begin m.state)) next w)

-- ---- an add edit

edit-low : (v : ℕ) (k : Float) (s : State) → first_refusal (add_edit_tests v k s) ≡ none → s.tableau.next_id ≤ 4_294_900_000
unfolding add_edit_tests
edit-low v k s e =
    let t₁ = passed _ _ e in
    let t₂ = passed _ _ t₁.1 in
    let t₃ = passed _ _ t₂.1 in
    let t₄ = passed _ _ t₃.1 in
    let t₅ = passed _ _ t₄.1 in
    ids-left s t₅.0

edit-start : (m : Moment) → Inv m → (v : ℕ) (k : Float) (b : ℕ) → (make (adds_edit v k b) m.state).answer.whole ≡ true → All Starts (passes_of (adds_edit v k b) m.state)
unfolding passes_of make add_edit add_edit_steps strength_of
edit-start m I v k b = go (first_refusal (add_edit_tests v (clip k) m.state)) refl
  where
    next : Added → State
    next a = finish a.work m.state.constraints (keep_edit (record { variable = v; strength = clip k; tag = a.tag; suggestion = zero64 }) m.state.edits)

    go : (o : Option ℕ) → first_refusal (add_edit_tests v (clip k) m.state) ≡ o
        → (elim o as (λ x. Result) [ some x ↦ refused_by x 0 m.state.whole m.state | none ↦ conclude_add m.state (add_steps b (edit_terms v) zero64 (equal (clip k)) (begin m.state)) next ]).answer.whole ≡ true
        → All Starts (elim o as (λ x. List PassStart) [ some x ↦ [] | none ↦ add_passes b (edit_terms v) zero64 (equal (clip k)) (begin m.state) ])
    go (some x) e w = tt
    go none e w =
        let q : mark_added (add_steps b (edit_terms v) zero64 (equal (clip k)) (begin m.state)) ≡ all_whole = added-whole m.state (add_steps b (edit_terms v) zero64 (equal (clip k)) (begin m.state)) next w in
        add-starts m I (record { key = of_edit v; group = 0; terms = edit_terms v; constant = zero64; relation = equal (clip k) }) b
        (clip-up k (whole-strength (edit_terms v) zero64 (clip k) (whole-steps b (edit_terms v) zero64 (equal (clip k)) (begin m.state) q).inputs)) (one-term v) (edit-low v (clip k) m.state e) q

-- ---- every call's passes start well, if its answer says yes
module _ (cut : Float) (fits : cutoff_fits cut ≡ true) where
  pub starts : (cs : List Call) (c : Call) (b : ℕ) → budget_of c ≡ some b → (make c (after cut cs).state).answer.whole ≡ true → All Starts (passes_of c (after cut cs).state)
  unfolding budget_of make
  starts cs (resets z) b e w = absurd (none≢some e)
  starts cs fetches b e w = absurd (none≢some e)
  starts cs (adds g n ts k r x) b e w = adds-start (after cut cs) (inv-before cut fits (changing.adds g n ts k r x) cs w) g n ts k r x w
  starts cs (removes n x) b e w = remove-starts (after cut cs) (inv-before cut fits (changing.removes n x) cs w) n x (unmarred b (removes n x) (after cut cs).state e w)
  starts cs (drops g x) b e w = drop-starts (after cut cs) (inv-before cut fits (changing.drops g x) cs w) (after-reads cut fits cs) g x w (unmarred b (drops g x) (after cut cs).state e w)
  starts cs (adds_edit v k x) b e w = edit-start (after cut cs) (inv-before cut fits (changing.adds_edit v k x) cs w) v k x w
  starts cs (removes_edit v x) b e w = remove_edit-starts (after cut cs) (inv-before cut fits (changing.removes_edit v x) cs w) v x (unmarred b (removes_edit v x) (after cut cs).state e w)
  starts cs (suggests v k x) b e w = suggest-starts (after cut cs) (inv-before cut fits (changing.suggests v k x) cs w) v k x (unmarred b (suggests v k x) (after cut cs).state e w)

  -- the mark of the call's own answer is enough
  pub marked-never-stalls : (cs : List Call) (c : Call) (b : ℕ) → budget_of c ≡ some b → (make c (after cut cs).state).answer.whole ≡ true → Demand3 b c (after cut cs).state
  marked-never-stalls cs c b e w = demand-3 b c (after cut cs).state e w (starts cs c b e w) (marked-numbers cut fits c cs w).1.1.0

-- DEMAND 3
pub never-stalls : NeverStalls
never-stalls cut fits cs c b e w = marked-never-stalls cut fits cs c b e w.1
