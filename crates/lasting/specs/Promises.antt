-- What the contracts of the public calls give, over any tables and any working room; that a changing call leaves tables that read as a state is the crate `solver`'s. Assumes nothing.
use Rattle.std.specs.Prelude.{◌≤◌, ◌≡◌, refl, ◌≢◌, Bool, cond, Float}
use Rattle.std.proofs.Common.{sym, ◌∙◌, arith}
use Rattle.std.proofs.Math.Path.{ap}
use Rattle.std.proofs.Math.Bool.{true, false}
use Rattle.steps.specs.Number.{cutoff_fits}
use Rattle.steps.specs.State.{State}
use Rattle.steps.specs.Changes.{fetch_changes}
use Rattle.steps.specs.Calls.{Result, empty, reset, refused_by}
use Rattle.steps.specs.Changing.{Changing, made, budget_of}
use Rattle.steps.proofs.Cutoff.{reset-refused, reset-taken}
use Rattle.steps.proofs.Refusals.{refusal-keeps}
use Rattle.steps.proofs.Budgets.{within-budget}
use Rattle.keeps.specs.Keeps.{empty-reads, fetch-reads}
use Rattle.sparse_test.specs.zeros.PlainCalls.{empty-plain, fetch-plain}
use Rattle.sparse.specs.Sparse.{Sparse, read}
use Rattle.sparse.specs.Fits.{Lengths}
use Rattle.sparse.specs.Write.{write}
use Rattle.sparse.proofs.Written.{write_read}
use Rattle.sparse_test.specs.Reads.{reads}
use Rattle.sparse_test.specs.Meaning.{reads-form, reads-readable}
use Rattle.lending.specs.Lending.{Called, called, refused18, call_in, call_of}
use Rattle.lending.specs.Reset.{refused24, reset_of, reset-read}
use Rattle.fetches.specs.Fetch.{fetch_of, fetch_in}
use Rattle.sparse_test.specs.narrow.Narrow.{fetch-narrow, empty-narrow}
use Rattle.sparse_test.specs.narrow.Tabled.{narrow-of, plain_of}
use Rattle.sparse_test.specs.narrow.Holds.{Holds, written-holds}

-- two answers that the contract permits are one
pub one_answer : (f : State → Result) (w t : Sparse) {x y : Called} → x ≡ call_of f w t → y ≡ call_of f w t → x ≡ y
one_answer f w t p q = p ∙ sym q

-- "A refusal changes no table"
pub refused-leaves : (c : Changing) (w t : Sparse) → (call_of (made c) w t).answer.number ≢ 0 → (call_of (made c) w t).tables ≡ t
unfolding call_of call_in
refused-leaves c w t = go (reads t) refl
  where
    go : (b : Bool) → reads t ≡ b → (cond b (called (made c (read t)).answer (write (made c (read t)).state t)) (called refused18 t)).answer.number ≢ 0
        → (cond b (called (made c (read t)).answer (write (made c (read t)).state t)) (called refused18 t)).tables ≡ t
    go true e h = ap (λ (s : State). write s t) (refusal-keeps c (read t) h) ∙ write_read t (reads-form t e)
    go false e h = refl

-- "Every call ends within its budget"
pub pivots-within : (c : Changing) (w t : Sparse) → (call_of (made c) w t).answer.pivots ≤ budget_of c
unfolding call_of call_in
pivots-within c w t = go (reads t)
  where
    go : (b : Bool) → (cond b (called (made c (read t)).answer (write (made c (read t)).state t)) (called refused18 t)).answer.pivots ≤ budget_of c
    go true = within-budget c (read t)
    go false = omega arith

-- ---- tables that read as a state still do

pub fetch-holds : (s : State) (t : Sparse) → Holds s t → Holds (fetch_changes s).state (fetch_of t).tables
unfolding fetch_of fetch_in
fetch-holds s t h =
    let e : read t ≡ s = h.state in
    rw (h.reads, ← e) (written-holds (fetch_changes (read t)).state t (fetch-reads (read t) (reads-readable t h.reads)) (fetch-narrow (read t) (narrow-of t h.reads)) (fetch-plain (read t) (plain_of t h.reads)) h.lengths)

-- a reset of any tables of the right lengths, with a cutoff in its range
pub reset-holds : (cutoff : Float) → cutoff_fits cutoff ≡ true → (t : Sparse) → Lengths t → Holds (empty cutoff) (reset_of cutoff t).tables
unfolding reset_of call_in
reset-holds cutoff fits t l =
    rw (fits, reset-taken cutoff (read t) fits) (written-holds (empty cutoff) t (empty-reads cutoff fits) (empty-narrow cutoff) (empty-plain cutoff) l)

-- with one outside it, "24": no table changes, whatever the tables hold
pub reset-leaves : (cutoff : Float) → cutoff_fits cutoff ≡ false → (t : Sparse) → reset_of cutoff t ≡ called (refused24 t) t
unfolding reset_of
reset-leaves cutoff out t = rw out refl

-- on tables that hold a state, either way: the steps' answer, and tables that hold the steps' state
pub reset-made : (cutoff : Float) (s : State) (t : Sparse) → Holds s t → ((reset_of cutoff t).answer ≡ (reset cutoff s).answer) × Holds (reset cutoff s).state (reset_of cutoff t).tables
reset-made cutoff s t h = (ap (λ (c : Called). c.answer) (reset-read cutoff t h.reads) ∙ (unfold call_in in ap (λ (x : State). (reset cutoff x).answer) h.state), go (cutoff_fits cutoff) refl)
  where
    go : (b : Bool) → cutoff_fits cutoff ≡ b → Holds (reset cutoff s).state (reset_of cutoff t).tables
    go true e = rw (reset-taken cutoff s e) (reset-holds cutoff e t h.lengths)
    go false e = unfold refused_by in rw (reset-refused cutoff s e, reset-leaves cutoff e t) h
