-- "The whole run keeps its meaning, since the cutoff is below 1.": two runs of the same calls, from resets with two cutoffs, answer the same while one of them is
-- whole, and so is the other then: numbers, pivots and marks, values and lists of changes. Their states are equal but for the cutoff, bit by bit.
-- The coefficients that are handed in are whole here, those of refused adds too. Those that reach the steps are so in a whole run, but 9 looks at them before the
-- steps: 5E-7 x, with x new beside 32 variables, is refused by 9 at 1E-8, which answers the stored mark, and skipped at 1E-6. Assumes nothing.
use Rattle.std.specs.Prelude.{◌≡◌, Bool, true, false, Float}
use Rattle.std.proofs.Math.Path.{refl}
use Rattle.std.proofs.Common.{sym, ap, ◌∙◌, subst}
use mathlib.Core.List.{List, [], ◌∷◌}
use Rattle.simplex.specs.Choose.{All}
use Rattle.steps.specs.Number.{cutoff_fits, is_whole}
use Rattle.steps.specs.State.{Term, State}
use Rattle.steps.specs.Changes.{value, fetch_changes}
use Rattle.steps.specs.Tests.{has_constraint, has_edit}
use Rattle.steps.specs.Calls.{Answer, Result, empty, reset, begin, refused_by}
use Rattle.steps.proofs.Cutoff.{reset-refused, reset-taken}
use Rattle.run.specs.Demand.{Call, resets, fetches, adds, removes, drops, adds_edit, removes_edit, suggests, make, next, start, after, Whole}
use Rattle.run.specs.RecutRows.{whole-unbroken}
use Rattle.run.specs.RecutAdd.{TermsU}
use Rattle.run.specs.RecutDrop.{drop-twin}
use Rattle.run.specs.RecutCalls.{recut_s, Sound, Twin, add-twin, remove-twin, add_edit-twin, remove_edit-twin, suggest-twin}
use Rattle.run.specs.Unseen.{Given, Alike, SameSeen}

-- ---- one call

terms-u : (ts : List Term) → All (λ (t : Term). is_whole t.coefficient ≡ true) ts → TermsU ts
terms-u [] h = tt
terms-u (t ∷ ts) h = (whole-unbroken t.coefficient h.0, terms-u ts h.1)

-- the answer is the same, and the states after it are alike
abbrev Answers : Result → Result → Type 0
Answers r q = (q.answer ≡ r.answer) × Alike r.state q.state

empty-sound : (z : Float) → cutoff_fits z ≡ true → Sound (empty z)
unfolding empty begin
empty-sound z fz = record { plain = record { rows = tt; objective = tt; artificial = tt; fits = fz }; strengths = tt; edits = tt }

empty-alike : (y z : Float) → cutoff_fits y ≡ true → cutoff_fits z ≡ true → Alike (empty y) (empty z)
unfolding empty
empty-alike y z fy fz = record { cutoff = z; fits = fz; is = refl; sound = empty-sound y fy }

fetch-sound : (s : State) → Sound s → Sound (fetch_changes s).state
unfolding fetch_changes begin
fetch-sound s h = record { plain = record { rows = h.plain.rows; objective = h.plain.objective; artificial = tt; fits = h.plain.fits }; strengths = h.strengths; edits = h.edits }

twins : (z : Float) → cutoff_fits z ≡ true → (r q : Result) → Twin z r q → Answers r q
twins z fz r q t = (ap (λ (x : Result). x.answer) t.0, record { cutoff = z; fits = fz; is = ap (λ (x : Result). x.state) t.0; sound = t.1 })

reset-alike : (k z : Float) → cutoff_fits z ≡ true → (s : State) → Sound s → Answers (reset k s) (reset k (recut_s z s))
unfolding refused_by
reset-alike k z fz s h = go (cutoff_fits k) refl
  where
    go : (b : Bool) → cutoff_fits k ≡ b → Answers (reset k s) (reset k (recut_s z s))
    go true e = rw (reset-taken k s e, reset-taken k (recut_s z s) e) (refl, empty-alike k k e e)
    go false e = rw (reset-refused k s e, reset-refused k (recut_s z s) e) (refl, record { cutoff = z; fits = fz; is = refl; sound = h })

recut-next : (c : Call) → Given c → (z : Float) → cutoff_fits z ≡ true → (s : State) → Sound s → (make c s).answer.whole ≡ true → Answers (make c s) (make c (recut_s z s))
unfolding make
recut-next (resets k) g z fz s h w = reset-alike k z fz s h
recut-next fetches g z fz s h w = (refl, record { cutoff = z; fits = fz; is = unfold fetch_changes in refl; sound = fetch-sound s h })
recut-next (adds j n ts k r b) g z fz s h w = twins z fz (make (adds j n ts k r b) s) (make (adds j n ts k r b) (recut_s z s)) (add-twin z fz s h j n ts k r b (terms-u ts g) w)
recut-next (removes n b) g z fz s h w = twins z fz (make (removes n b) s) (make (removes n b) (recut_s z s)) (remove-twin z fz s h n b w)
recut-next (drops j b) g z fz s h w = twins z fz (make (drops j b) s) (make (drops j b) (recut_s z s)) (drop-twin z fz s h j b w)
recut-next (adds_edit v k b) g z fz s h w = twins z fz (make (adds_edit v k b) s) (make (adds_edit v k b) (recut_s z s)) (add_edit-twin z fz s h v k b w)
recut-next (removes_edit v b) g z fz s h w = twins z fz (make (removes_edit v b) s) (make (removes_edit v b) (recut_s z s)) (remove_edit-twin z fz s h v b w)
recut-next (suggests v x b) g z fz s h w = twins z fz (make (suggests v x b) s) (make (suggests v x b) (recut_s z s)) (suggest-twin z fz s h v x b w)

-- on states that are alike a call whose answer says yes on one answers the same on the other, and leaves states that are alike
pub alike_next : (c : Call) → Given c → (s t : State) → Alike s t → (make c s).answer.whole ≡ true → ((make c t).answer ≡ (make c s).answer) × Alike (make c s).state (make c t).state
alike_next c g s t a w = subst (λ (x : State). Answers (make c s) (make c x)) (sym a.is) (recut-next c g a.cutoff a.fits s a.sound w)

pub alike-seen : (s t : State) → Alike s t → SameSeen s t
alike-seen s t a = subst (SameSeen s) (sym a.is) (seen a.cutoff)
  where
    seen : (z : Float) → SameSeen s (recut_s z s)
    seen z = unfold value fetch_changes has_constraint has_edit in record { values = λ v. refl; changes = refl; constraints = λ n. refl; edits = λ v. refl; mark = refl }

-- ---- runs

module _ (y z : Float) (fy : cutoff_fits y ≡ true) (fz : cutoff_fits z ≡ true) where
  pub alike-after : (cs : List Call) → All Given cs → Whole y cs → Alike (after y cs).state (after z cs).state
  unfolding after start next
  alike-after [] g w = empty-alike y z fy fz
  alike-after (c ∷ cs) g w = (alike_next c g.0 (after y cs).state (after z cs).state (alike-after cs g.1 w.0) w.1).1

  -- THE CUTOFF IS UNSEEN: the next call of a whole run answers the same from either reset: number, pivots and mark
  pub cutoff-unseen : (c : Call) (cs : List Call) → All Given (c ∷ cs) → Whole y (c ∷ cs) → (make c (after z cs).state).answer ≡ (make c (after y cs).state).answer
  cutoff-unseen c cs g w = (alike_next c g.0 (after y cs).state (after z cs).state (alike-after cs g.1 w.0) w.1).0

  -- and so the other run is whole too
  pub whole-unseen : (cs : List Call) → All Given cs → Whole y cs → Whole z cs
  whole-unseen [] g w = tt
  whole-unseen (c ∷ cs) g w = (whole-unseen cs g.1 w.0, ap (λ (a : Answer). a.whole) (cutoff-unseen c cs g w) ∙ w.1)

  -- after it the values are the same, what is there is, and a fetch lists the same changes
  pub same_seen : (cs : List Call) → All Given cs → Whole y cs → SameSeen (after y cs).state (after z cs).state
  same_seen cs g w = alike-seen (after y cs).state (after z cs).state (alike-after cs g w)
