-- Every pass of a drop in a whole run starts from a good tableau: each of its removals is one of a whole run. Assumes nothing.
use Prim.Native.Nat.{ℕ, ◌-◌}
use mathlib.Core.Path.{◌≡◌, refl, sym, ◌∙◌, subst}
use mathlib.Core.List.{List, [], ◌∷◌, ◌++◌}
use mathlib.Core.Option.{Option, none, some}
use mathlib.Core.Bool.{Bool, true, false}
use lib.Dec.{eqb, eqb-suc-zero}
use Rattle.simplex.specs.Choose.{All}
use Rattle.steps.specs.State.{Constraint}
use Rattle.steps.specs.Tests.{first_refusal, drop_tests, group_of}
use Rattle.steps.specs.Calls.{Result, begin, remove_stored, remove_all, all_or_none, drop_group}
use Rattle.steps.specs.Readable.{readable}
use Rattle.keeps.specs.Tested.{reads_in}
use Rattle.keeps.specs.Groups.{Removable, group-removable, first_found, others-removable}
use Rattle.run.specs.Demand.{of_constraint, without, drops, make, Moment}
use Rattle.run.specs.Inv.{Inv}
use Rattle.run.specs.Drop.{onward-whole, none-whole}
use Rattle.run.proofs.Drop.{removed-inv, removed-reads}
use Rattle.run.specs.RecutDrop.{Ending, refuses, accepts, stored-ending, remove_all-yes}
use Rattle.run.specs.stall.Stall.{PassStart, remove_passes, drop_passes, passes_of}
use Rattle.run.proofs.stall.Pass.{Starts, Unmarred}
use Rattle.run.proofs.stall.RemoveStarts.{stored-starts}

left : (Q : PassStart → Type 0) (ps qs : List PassStart) → All Q (ps ++ qs) → All Q ps
left Q [] qs a = tt
left Q (p ∷ ps) qs a = (a.0, left Q ps qs a.1)

right : (Q : PassStart → Type 0) (ps qs : List PassStart) → All Q (ps ++ qs) → All Q qs
right Q [] qs a = a
right Q (p ∷ ps) qs a = right Q ps qs a.1

both : (Q : PassStart → Type 0) (ps qs : List PassStart) → All Q ps → All Q qs → All Q (ps ++ qs)
both Q [] qs a c = c
both Q (p ∷ ps) qs a c = (a.0, both Q ps qs a.1 c)

all_start : (ds : List Constraint) (b : ℕ) (m : Moment) → Inv m → readable m.state ≡ true → Removable ds m.state → (remove_all ds b m.state).answer.whole ≡ true
    → All Unmarred (drop_passes ds b m.state) → All Starts (drop_passes ds b m.state)
unfolding drop_passes remove_all
all_start [] b m I R f w u = tt
all_start (d ∷ ds) b m I R f w u =
    both Starts own rest-passes (stored-starts m I d.number b d (first_found d ds b m.state f) (left Unmarred own rest-passes u)) (go (stored-ending d.number d b m.state) (all_start ds (b - one.answer.pivots) after) (right Unmarred own rest-passes u))
  where
    one : Result
    one = remove_stored d.number d b m.state

    rest : Result
    rest = remove_all ds (b - one.answer.pivots) one.state

    own : List PassStart
    own = remove_passes b d.tag d.strength (begin m.state)

    later : List PassStart
    later = drop_passes ds (b - one.answer.pivots) one.state

    at : Bool → List PassStart
    at t = elim t as (λ _. List PassStart) [ false ↦ [] | true ↦ later ]

    rest-passes : List PassStart
    rest-passes = at (eqb one.answer.number 0)

    after : Moment
    after = record { state = one.state; live = without (of_constraint d.number) m.live }

    go : Ending m.state one → (Inv after → readable one.state ≡ true → Removable ds one.state → rest.answer.whole ≡ true → All Unmarred later → All Starts later) → All Unmarred rest-passes → All Starts rest-passes
    go (refuses k e _) on v = subst (λ (n : ℕ). All Starts (at (eqb n 0))) (sym e) (subst (λ (t : Bool). All Starts (at t)) (sym (eqb-suc-zero k)) tt)
    go (accepts e q _) on v =
        let went : rest.answer.whole ≡ true = sym (onward-whole one rest e) ∙ w in
        let I' : Inv after = removed-inv m d ds b I R f e (q ∙ remove_all-yes ds (b - one.answer.pivots) one.state went) in
        subst (λ (n : ℕ). All Starts (at (eqb n 0))) (sym e)
        (on I' (removed-reads d ds b m.state R f) (others-removable d ds b m.state f (reads_in m.state R) e) went
        (subst (λ (n : ℕ). All Unmarred (at (eqb n 0))) e v))

pub drop-starts : (m : Moment) → Inv m → readable m.state ≡ true → (g b : ℕ) → (make (drops g b) m.state).answer.whole ≡ true → All Unmarred (passes_of (drops g b) m.state) → All Starts (passes_of (drops g b) m.state)
unfolding passes_of make drop_group
drop-starts m I R g b = go (first_refusal (drop_tests g m.state)) refl
  where
    ds : List Constraint
    ds = group_of g m.state.constraints

    go : (o : Option ℕ) → first_refusal (drop_tests g m.state) ≡ o
        → (elim o as (λ _. Result) [ some x ↦ Rattle.steps.specs.Calls.refused_by x 0 m.state.whole m.state | none ↦ all_or_none m.state (remove_all ds b m.state) ]).answer.whole ≡ true
        → All Unmarred (elim o as (λ _. List PassStart) [ some x ↦ [] | none ↦ drop_passes ds b m.state ]) → All Starts (elim o as (λ _. List PassStart) [ some x ↦ [] | none ↦ drop_passes ds b m.state ])
    go (some x) e w u = tt
    go none e w u = all_start ds b m I R (group-removable g m.state (reads_in m.state R) e) (sym (none-whole m.state (remove_all ds b m.state)) ∙ w) u
