-- DEMAND 2. After every call of a whole run the values are whole, meet every required demand exactly, and no assignment by fractions that meets them
-- has less weighted error; and a call that answers 12 asked for something that nothing meets together with what is live. Whole runs are more than it
-- takes: the stored mark, and the mark of the answer 12, are enough. Assumes nothing.
use Rattle.std.specs.Prelude.{◌≡◌, ◌⊎◌, ◌≢◌, Bool, true, false, not, ℕ, zero, suc, T, eqb, Float}
use Rattle.std.proofs.Math.Path.{refl}
use Rattle.std.proofs.Common.{sym, ◌∙◌, subst, inl, inr, true≢false, arith}
use mathlib.Core.List.{List, [], ◌∷◌, ◌++◌}
use Rattle.std.proofs.Math.Dec.{eqb-suc-zero}
use Rattle.steps.specs.Number.{cutoff_fits}
use Rattle.steps.specs.State.{State}
use Rattle.steps.specs.Tests.{member}
use Rattle.steps.specs.Changes.{fetch_changes}
use Rattle.steps.specs.Changing as changing
use Rattle.steps.specs.Changing.{Changing, made, test_numbers, step_numbers}
use Rattle.steps.proofs.Cutoff.{reset-refused, reset-taken}
use Rattle.steps.proofs.Numbers.{number-listed}
use Rattle.steps.proofs.Refusals.{refusal-keeps}
use Rattle.steps.proofs.Marks.{yes-only-if-stored, accepted-mark, lost-until-reset, yes-stays, not-finite-says-no}
use Rattle.simplex.specs.Choose.{All}
use Rattle.steps.specs.Calls.{empty, reset, refused_by}
use Rattle.steps.specs.Readable.{readable}
use Rattle.keeps.specs.Keeps.{empty-reads, reset-reads, add_reads, remove-reads, drop-reads, add_edit-reads, remove_edit-reads, suggest-reads, fetch-reads}
use Rattle.run.specs.Demand.{Call, resets, fetches, adds, removes, drops, adds_edit, removes_edit, suggests, make, accepted, live_after, Moment, next, start, after, Whole, Best, None}
use Rattle.run.specs.Inv.{Inv}
use Rattle.run.proofs.AtRest.{at_rest}
use Rattle.run.specs.Start.{start-inv, reset-inv, fetch-inv}
use Rattle.run.specs.Artificial.{artificial-ends}
use Rattle.run.proofs.Add.{add-inv, add-12, add-15}
use Rattle.run.proofs.AddEdit.{add_edit-inv, add_edit-12, add_edit-15}
use Rattle.run.specs.Remove.{remove-inv, remove_edit-inv, remove-refusals, remove_edit-refusals}
use Rattle.run.proofs.Drop.{drop-inv, drop-refusals}
use Rattle.run.proofs.Suggested.{suggest-inv, suggest-16}

-- ---- each call keeps what a run rests on

pub reads-next : (c : Call) (s : State) → readable s ≡ true → readable (make c s).state ≡ true
unfolding make
reads-next (resets z) s h = reset-reads z s h
reads-next fetches s h = fetch-reads s h
reads-next (adds g n ts k r b) s h = add_reads g n ts k r b s h
reads-next (removes n b) s h = remove-reads n b s h
reads-next (drops g b) s h = drop-reads g b s h
reads-next (adds_edit v k b) s h = add_edit-reads v k b s h
reads-next (removes_edit v b) s h = remove_edit-reads v b s h
reads-next (suggests v x b) s h = suggest-reads v x b s h

-- a reset begins anew with its cutoff, or is refused and changes nothing
reset-next : (z : Float) (m : Moment) → Inv m → Inv (next (resets z) m)
unfolding next make live_after refused_by
reset-next z m I = go (cutoff_fits z) refl
  where
    go : (b : Bool) → cutoff_fits z ≡ b → Inv (next (resets z) m)
    go true e = reset-inv z e m
    go false e = rw (reset-refused z m.state e) I

pub inv-next : (c : Call) (m : Moment) → Inv m → readable m.state ≡ true → (make c m.state).answer.whole ≡ true → Inv (next c m)
inv-next (resets z) m I h w = reset-next z m I
inv-next fetches m I h w = fetch-inv m I
inv-next (adds g n ts k r b) m I h w = add-inv artificial-ends m g n ts k r b I w
inv-next (removes n b) m I h w = remove-inv m n b I h w
inv-next (drops g b) m I h w = drop-inv m g b I h w
inv-next (adds_edit v k b) m I h w = add_edit-inv artificial-ends m v k b I w
inv-next (removes_edit v b) m I h w = remove_edit-inv m v b I h w
inv-next (suggests v x b) m I h w = suggest-inv m v x b I h w

-- ---- the stored mark: what a refused call answers is not stored

-- a call is a reset, a fetch, or a changing call of the steps
data Sort (c : Call) : Type 0 where
  anew : (z : Float) → c ≡ resets z → Sort c
  looks : c ≡ fetches → Sort c
  changes : (d : Changing) → ((s : State) → make c s ≡ made d s) → Sort c

sort : (c : Call) → Sort c
unfolding make
sort (resets z) = anew z refl
sort fetches = looks refl
sort (adds g n ts k r b) = changes (changing.adds g n ts k r b) (λ s. refl)
sort (removes n b) = changes (changing.removes n b) (λ s. refl)
sort (drops g b) = changes (changing.drops g b) (λ s. refl)
sort (adds_edit v k b) = changes (changing.adds_edit v k b) (λ s. refl)
sort (removes_edit v b) = changes (changing.removes_edit v b) (λ s. refl)
sort (suggests v x b) = changes (changing.suggests v x b) (λ s. refl)

-- after an answer that says yes the stored mark is yes
pub yes-stored : (c : Call) (s : State) → (make c s).answer.whole ≡ true → (make c s).state.whole ≡ true
unfolding make fetch_changes empty refused_by
yes-stored c s = go (sort c)
  where
    begun : (z : Float) (b : Bool) → cutoff_fits z ≡ b → (reset z s).answer.whole ≡ true → (reset z s).state.whole ≡ true
    begun z true e w = rw (reset-taken z s e) refl
    begun z false e w = rw (reset-refused z s e) (rw (reset-refused z s e) at w)

    go : Sort c → (make c s).answer.whole ≡ true → (make c s).state.whole ≡ true
    go (anew z e) w = rw e (begun z (cutoff_fits z) refl (rw e at w))
    go (looks e) w = rw e (rw e at w)
    go (changes d e) w = rw (e s) (yes-stays d s (rw (e s) at w))

-- a refused call leaves the state, and what is live
refused-inv : (c : Call) (m : Moment) → eqb (make c m.state).answer.number 0 ≡ false → (make c m.state).state ≡ m.state → Inv m → Inv (next c m)
unfolding next live_after
refused-inv c m n e I = rw (n, e) I

-- a call that leaves the mark yes: it was yes before, and if the call is accepted its answer says yes
marked_next : (c : Call) (m : Moment) → (m.state.whole ≡ true → Inv m) → readable m.state ≡ true → (make c m.state).state.whole ≡ true → Inv (next c m)
unfolding make fetch_changes
marked_next c m I h = go (sort c)
  where
    ends : (d : Changing) (k : ℕ) → make c m.state ≡ made d m.state → (made d m.state).answer.number ≡ k → (made d m.state).state.whole ≡ true → Inv (next c m)
    ends d zero e n w = inv-next c m (I (lost-until-reset d m.state w)) h (rw e (accepted-mark d m.state n ∙ w))
    ends d (suc k) e n w = refused-inv c m (rw (e, n) (eqb-suc-zero k)) (rw e (refusal-keeps d m.state (λ z. omega (arith, z, n)))) (I (lost-until-reset d m.state w))

    begun : (z : Float) (b : Bool) → cutoff_fits z ≡ b → (reset z m.state).state.whole ≡ true → Inv (next (resets z) m)
    begun z true e w = reset-inv z e m
    begun z false e w = reset-next z m (I (unfold refused_by in rw (reset-refused z m.state e) at w))

    go : Sort c → (make c m.state).state.whole ≡ true → Inv (next c m)
    go (anew z e) w = rw e (begun z (cutoff_fits z) refl (rw e at w))
    go (looks e) w = rw e (fetch-inv m (I (rw e at w)))
    go (changes d e) w = ends d (made d m.state).answer.number (e m.state) refl (rw (e m.state) at w)

-- what a reset answers: 0 or 24
reset-number : (z : Float) (s : State) (Q : ℕ → Type 0) → Q 0 → Q 24 → Q (reset z s).answer.number
unfolding refused_by
reset-number z s Q taken refused = go (cutoff_fits z) refl
  where
    go : (b : Bool) → cutoff_fits z ≡ b → Q (reset z s).answer.number
    go true e = rw (reset-taken z s e) taken
    go false e = rw (reset-refused z s e) refused

-- ---- "from a reset with this cutoff"

module _ (cut : Float) (fits : cutoff_fits cut ≡ true) where
  -- every state of a run reads as one, whatever the marks
  pub after-reads : (cs : List Call) → readable (after cut cs).state ≡ true
  unfolding after next start
  after-reads [] = empty-reads cut fits
  after-reads (c ∷ cs) = reads-next c (after cut cs).state (after-reads cs)

  marked-inv : (cs : List Call) → (after cut cs).state.whole ≡ true → Inv (after cut cs)
  unfolding after next start
  marked-inv [] w = start-inv cut fits
  marked-inv (c ∷ cs) w = marked_next c (after cut cs) (marked-inv cs) (after-reads cs) w

  -- a changing call that answers yes, refused or not, found what a run rests on
  pub inv-before : (d : Changing) (cs : List Call) → (made d (after cut cs).state).answer.whole ≡ true → Inv (after cut cs)
  inv-before d cs w = marked-inv cs (yes-only-if-stored d (after cut cs).state w)

  -- ---- the theorems

  -- "The mark says whether every step so far was in whole numbers within bounds; while it says yes, the values are exact and the best that any fractions give."
  pub marked-best : (cs : List Call) → (after cut cs).state.whole ≡ true → Best (after cut cs)
  marked-best cs w = at_rest (after cut cs) (marked-inv cs w)

  whole-marked : (cs : List Call) → Whole cut cs → (after cut cs).state.whole ≡ true
  unfolding after next start empty
  whole-marked [] w = refl
  whole-marked (c ∷ cs) w = yes-stored c (after cut cs).state w.1

  -- "In a whole run (document 01) the values meet every required constraint exactly, no assignment by fractions that meets them has less weighted error"
  pub whole-run-best : (cs : List Call) → Whole cut cs → Best (after cut cs)
  whole-run-best cs w = marked-best cs (whole-marked cs w)

  -- a number that a call does not have
  other-number : (k : ℕ) (c : Changing) (s : State) → T (not (member k (0 ∷ test_numbers c ++ step_numbers c))) → (made c s).answer.number ≡ k → ⊥
  other-number k c s n e = go (member k (0 ∷ test_numbers c ++ step_numbers c)) n (subst (λ (k : ℕ). T (member k (0 ∷ test_numbers c ++ step_numbers c))) e (number-listed c s))
    where
      go : (b : Bool) → T (not b) → T b → ⊥
      go true n m = n
      go false n m = m

  -- a whole answer is none of 13
  finite-yes : (c : Changing) (s : State) → (made c s).answer.whole ≡ true → (made c s).answer.number ≢ 13
  finite-yes c s w e = true≢false (sym w ∙ not-finite-says-no c s e)

  none_of : (k j : ℕ) → k ≢ 0 → k ≢ j → k ≢ 25 → k ≢ 14 → (k ≡ 0) ⊎ ((k ≡ j) ⊎ ((k ≡ 25) ⊎ (k ≡ 14))) → ⊥
  none_of k j a b c d (inl p) = a p
  none_of k j a b c d (inr (inl p)) = b p
  none_of k j a b c d (inr (inr (inl p))) = c p
  none_of k j a b c d (inr (inr (inr p))) = d p

  zero≢12 : ◌≡◌ {A = ℕ} 0 12 → ⊥
  zero≢12 p = omega arith

  -- "and "cannot be met" (12) is said only when none meets them": the live demands with the one that the call asked for, where the answer says yes
  pub marked-12 : (c : Call) (cs : List Call) → (make c (after cut cs).state).answer.whole ≡ true → (make c (after cut cs).state).answer.number ≡ 12 → None (accepted c (after cut cs).live)
  unfolding make accepted member
  marked-12 (resets z) cs w e = absurd (reset-number z (after cut cs).state (λ k. k ≢ 12) (λ p. omega arith) (λ p. omega arith) e)
  marked-12 fetches cs w e = absurd (zero≢12 e)
  marked-12 (adds g n ts k r b) cs w e = add-12 artificial-ends (after cut cs) g n ts k r b (inv-before (changing.adds g n ts k r b) cs w) w e
  marked-12 (removes n b) cs w e = absurd (other-number 12 (changing.removes n b) (after cut cs).state tt e)
  marked-12 (drops g b) cs w e = absurd (other-number 12 (changing.drops g b) (after cut cs).state tt e)
  marked-12 (adds_edit v k b) cs w e = add_edit-12 artificial-ends (after cut cs) v k b (inv-before (changing.adds_edit v k b) cs w) w e
  marked-12 (removes_edit v b) cs w e = absurd (other-number 12 (changing.removes_edit v b) (after cut cs).state tt e)
  marked-12 (suggests v x b) cs w e = absurd (other-number 12 (changing.suggests v x b) (after cut cs).state tt e)

  pub whole-run-12 : (c : Call) (cs : List Call) → Whole cut (c ∷ cs) → (make c (after cut cs).state).answer.number ≡ 12 → None (accepted c (after cut cs).live)
  whole-run-12 c cs w = marked-12 c cs w.1

  each : {n : ℕ} → n ≢ 13 → n ≢ 15 → n ≢ 16 → n ≢ 17 → All (λ (k : ℕ). n ≢ k) (13 ∷ 15 ∷ 16 ∷ 17 ∷ [])
  each a b c d = (a, (b, (c, (d, tt))))

  -- Beyond the demand: where the answer says yes, as in a whole run, it is none of 13, 15, 16 and 17.
  pub marked-numbers : (c : Call) (cs : List Call) → (make c (after cut cs).state).answer.whole ≡ true → All (λ (k : ℕ). (make c (after cut cs).state).answer.number ≢ k) (13 ∷ 15 ∷ 16 ∷ 17 ∷ [])
  unfolding make member
  marked-numbers (resets z) cs w = reset-number z (after cut cs).state (λ n. All (λ (k : ℕ). n ≢ k) (13 ∷ 15 ∷ 16 ∷ 17 ∷ [])) (each (λ e. omega arith) (λ e. omega arith) (λ e. omega arith) (λ e. omega arith)) (each (λ e. omega arith) (λ e. omega arith) (λ e. omega arith) (λ e. omega arith))
  marked-numbers fetches cs w = each (λ e. omega arith) (λ e. omega arith) (λ e. omega arith) (λ e. omega arith)
  marked-numbers (adds g n ts k r b) cs w =
      let c : Changing = changing.adds g n ts k r b in
      each (finite-yes c (after cut cs).state w) (add-15 artificial-ends (after cut cs) g n ts k r b (inv-before c cs w) w) (other-number 16 c (after cut cs).state tt) (other-number 17 c (after cut cs).state tt)
  marked-numbers (removes n b) cs w =
      let c : Changing = changing.removes n b in
      each (finite-yes c (after cut cs).state w) (away 15 (λ p. omega arith) (λ p. omega arith) (λ p. omega arith) (λ p. omega arith)) (other-number 16 c (after cut cs).state tt) (away 17 (λ p. omega arith) (λ p. omega arith) (λ p. omega arith) (λ p. omega arith))
    where
      away : (k : ℕ) → k ≢ 0 → k ≢ 5 → k ≢ 25 → k ≢ 14 → (make (removes n b) (after cut cs).state).answer.number ≢ k
      away k p q r s e = none_of k 5 p q r s (subst (λ (j : ℕ). (j ≡ 0) ⊎ ((j ≡ 5) ⊎ ((j ≡ 25) ⊎ (j ≡ 14)))) e (remove-refusals (after cut cs) n b (inv-before (changing.removes n b) cs w) (after-reads cs) w))
  marked-numbers (drops g b) cs w =
      let c : Changing = changing.drops g b in
      let N = drop-refusals (after cut cs) g b (inv-before c cs w) (after-reads cs) w in
      each (finite-yes c (after cut cs).state w) (N 15 (λ p. omega arith) (λ p. omega arith) ((λ p. omega arith), (λ p. omega arith), λ p. omega arith)) (other-number 16 c (after cut cs).state tt) (N 17 (λ p. omega arith) (λ p. omega arith) ((λ p. omega arith), (λ p. omega arith), λ p. omega arith))
  marked-numbers (adds_edit v k b) cs w =
      let c : Changing = changing.adds_edit v k b in
      each (finite-yes c (after cut cs).state w) (add_edit-15 artificial-ends (after cut cs) v k b (inv-before c cs w) w) (other-number 16 c (after cut cs).state tt) (other-number 17 c (after cut cs).state tt)
  marked-numbers (removes_edit v b) cs w =
      let c : Changing = changing.removes_edit v b in
      each (finite-yes c (after cut cs).state w) (away 15 (λ p. omega arith) (λ p. omega arith) (λ p. omega arith) (λ p. omega arith)) (other-number 16 c (after cut cs).state tt) (away 17 (λ p. omega arith) (λ p. omega arith) (λ p. omega arith) (λ p. omega arith))
    where
      away : (k : ℕ) → k ≢ 0 → k ≢ 8 → k ≢ 25 → k ≢ 14 → (make (removes_edit v b) (after cut cs).state).answer.number ≢ k
      away k p q r s e = none_of k 8 p q r s (subst (λ (j : ℕ). (j ≡ 0) ⊎ ((j ≡ 8) ⊎ ((j ≡ 25) ⊎ (j ≡ 14)))) e (remove_edit-refusals (after cut cs) v b (inv-before (changing.removes_edit v b) cs w) (after-reads cs) w))
  marked-numbers (suggests v x b) cs w =
      let c : Changing = changing.suggests v x b in
      each (finite-yes c (after cut cs).state w) (other-number 15 c (after cut cs).state tt) (suggest-16 (after cut cs) v x b (inv-before c cs w) w) (other-number 17 c (after cut cs).state tt)
