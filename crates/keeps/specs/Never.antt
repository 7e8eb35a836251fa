-- 25 is given by no call of a run: "every fetch empties the entries, and between two fetches only variables that were live at the first can make one". Assumes nothing.
use Rattle.std.specs.Prelude.{◌≡◌, ◌≢◌, List, [], ◌∷◌, Bool, true, false, not, cond, ◌&&◌, ℕ, ◌+◌, ◌≤◌, T, length, Float}
use Rattle.std.proofs.Math.Path.{refl}
use Rattle.std.proofs.Common.{sym, ap, ◌∙◌, subst, arith}
use Rattle.std.proofs.Math.Option.{some}
use Rattle.steps.specs.Number.{cutoff_fits}
use Rattle.steps.specs.State.{Term, Variable, Changes, State}
use Rattle.steps.specs.Changes.{member, never_reported, fetch_changes}
use Rattle.steps.specs.Tests.{◌if◌, first_refusal, goes_with, makes_entry, entries_made, gone_full, remove_tests, remove_edit_tests, drop_tests}
use Rattle.steps.specs.Calls.{empty, reset, refused_by}
use Rattle.steps.specs.Changing as changing
use Rattle.steps.proofs.Told.{reported_count}
use Rattle.steps.proofs.Stands.{told-stands}
use Rattle.steps.proofs.Cutoff.{reset-refused, reset-taken}
use Rattle.steps.proofs.Numbers.{of_steps, test-listed, given-by-test}
use Rattle.keeps.specs.Lists.{none≢some, some-injective, no_both}
use Rattle.keeps.specs.Tested.{reads_in}
use Rattle.keeps.specs.Waits.{has_room}
use Rattle.keeps.specs.Keeps.{Run, starts, resets, adds, removes, drops, adds_edit, removes_edit, suggests, fetches, run-reads, fetch-reads}

-- the gone entries, and the live variables that could make one
abbrev pub Roomy : Changes → Type 0
Roomy c = length c.gone + reported_count c.variables ≤ 32

-- no more are reported than are live
reported-live : (vs : List Variable) → reported_count vs ≤ length vs
unfolding reported_count
reported-live [] = omega arith
reported-live (v ∷ vs) = go (never_reported v) (reported-live vs)
  where
    go : (b : Bool) → reported_count vs ≤ length vs → cond b 0 1 + reported_count vs ≤ length (v ∷ vs)
    go true l = omega (arith, l)
    go false l = omega (arith, l)

-- a removal makes entries of reported variables alone
made-reported : (gone : List ℕ) (ts : List Term) (vs : List Variable) → entries_made gone ts vs ≤ reported_count vs
unfolding entries_made makes_entry reported_count
made-reported gone ts [] = omega arith
made-reported gone ts (v ∷ vs) = omega (arith, go (goes_with ts v) (never_reported v) (not (member v.number gone)), made-reported gone ts vs)
  where
    go : (a b c : Bool) → cond (a && not b && c) 1 0 ≤ cond b 0 1
    go true true c = omega arith
    go true false true = omega arith
    go true false false = omega arith
    go false true c = omega arith
    go false false c = omega arith

pub roomy-not-full : (ts : List Term) (s : State) → Roomy s.changes → gone_full ts s ≡ false
roomy-not-full ts s r = has_room ts s (omega (arith, made-reported s.changes.gone ts s.changes.variables, r))

-- ---- every state of a run has the room

empty-roomy : (cutoff : Float) → Roomy (empty cutoff).changes
unfolding empty reported_count
empty-roomy cutoff = omega arith

fetched-roomy : (s : State) → length (fetch_changes s).state.changes.variables ≤ 32 → Roomy (fetch_changes s).state.changes
fetched-roomy s l = omega (arith, reported-live (fetch_changes s).state.changes.variables, l, none_left)
  where
    none_left : length (fetch_changes s).state.changes.gone ≡ 0
    none_left = unfold fetch_changes in refl

made-roomy : (c : changing.Changing) (s : State) → Roomy s.changes → Roomy (changing.made c s).state.changes
made-roomy c s r = omega (arith, (told-stands c s).count, r)

pub run-roomy : {s : State} → Run s → Roomy s.changes
run-roomy (starts cutoff fits) = empty-roomy cutoff
run-roomy (resets {s} cutoff h) = go (cutoff_fits cutoff) refl (run-roomy h)
  where
    go : (b : Bool) → cutoff_fits cutoff ≡ b → Roomy s.changes → Roomy (reset cutoff s).state.changes
    go true e r = rw (reset-taken cutoff s e) (empty-roomy cutoff)
    go false e r = rw (reset-refused cutoff s e) (unfold refused_by in r)
run-roomy (adds {s} g n ts k r b h) = made-roomy (changing.adds g n ts k r b) s (run-roomy h)
run-roomy (removes {s} n b h) = made-roomy (changing.removes n b) s (run-roomy h)
run-roomy (drops {s} g b h) = made-roomy (changing.drops g b) s (run-roomy h)
run-roomy (adds_edit {s} n k b h) = made-roomy (changing.adds_edit n k b) s (run-roomy h)
run-roomy (removes_edit {s} n b h) = made-roomy (changing.removes_edit n b) s (run-roomy h)
run-roomy (suggests {s} n x b h) = made-roomy (changing.suggests n x b) s (run-roomy h)
run-roomy (fetches {s} h) = fetched-roomy s (reads_in (fetch_changes s).state (fetch-reads s (run-reads h))).few-variables

-- ---- so no call is refused with 25

-- a first refusal by 25 is that of the last test
two-tests : (k : ℕ) (a b : Bool) → k ≢ 25 → first_refusal (k if a ∷ 25 if b ∷ []) ≡ some 25 → b ≡ true
unfolding first_refusal
two-tests k true b d e = absurd (d (some-injective e))
two-tests k false true d e = refl
two-tests k false false d e = absurd (none≢some e)

three-tests : (a b c : Bool) → first_refusal (26 if a ∷ 27 if b ∷ 25 if c ∷ []) ≡ some 25 → c ≡ true
unfolding first_refusal
three-tests true b c e = absurd (omega (arith, some-injective e))
three-tests false b c e = two-tests 27 b c (λ q. omega (arith, q)) e

not_tested : (c : changing.Changing) (s : State) → Roomy s.changes → first_refusal (changing.tests c s) ≡ some 25 → ⊥
unfolding member remove_tests remove_edit_tests drop_tests
not_tested (changing.adds g n ts k r b) s room e = test-listed (changing.adds g n ts k r b) s 25 e
not_tested (changing.removes n b) s room e = no_both (two-tests 5 _ _ (λ q. omega (arith, q)) e) (roomy-not-full _ s room)
not_tested (changing.drops g b) s room e = no_both (three-tests _ _ _ e) (roomy-not-full _ s room)
not_tested (changing.adds_edit n k b) s room e = test-listed (changing.adds_edit n k b) s 25 e
not_tested (changing.removes_edit n b) s room e = no_both (two-tests 8 _ _ (λ q. omega (arith, q)) e) (roomy-not-full _ s room)
not_tested (changing.suggests n x b) s room e = test-listed (changing.suggests n x b) s 25 e

-- "25 a removal would make a 33rd gone entry": of a run, whatever its calls and its numbers, none would
pub never-25 : (c : changing.Changing) {s : State} → Run s → (changing.made c s).answer.number ≢ 25
never-25 c {s} h e =
    not_tested c s (run-roomy h)
    (given-by-test c s (λ z. omega (arith, e, z)) (subst (λ (k : ℕ). T (not (of_steps k))) (sym e) tt) ∙ ap (λ (k : ℕ). some k) e)
