-- THE SECOND DOOR GIVES WHAT THE FIRST GIVES: on tables that hold a state a call behind the test answers as the tested call does, and the set of tables that is in hand after it, the room where the call is accepted and
-- the tables where it is refused, holds the state that the tested call leaves. So every promise of runs of the public calls holds of it, call by call. Assumes nothing.
use Rattle.std.specs.Prelude.{ℕ, ◌≡◌, refl, Bool, true, false, cond, List, eqb}
use Rattle.std.proofs.Common.{sym, ap, ◌∙◌, eqb-true}
use Rattle.std.proofs.lemmas.Bool.{eqb-false}
use Rattle.steps.specs.State.{State}
use Rattle.steps.specs.Changes.{fetch_changes}
use Rattle.steps.specs.Calls.{Result}
use Rattle.steps.specs.Changing.{Changing, made}
use Rattle.steps.proofs.Refusals.{refusal-keeps}
use Rattle.sparse.specs.Sparse.{Sparse, read}
use Rattle.sparse.specs.Fits.{Lengths}
use Rattle.sparse_test.specs.narrow.Narrow.{Typed}
use Rattle.sparse_test.specs.narrow.Holds.{Holds}
use Rattle.lending.specs.Lending.{call_in, call_of}
use Rattle.fetches.specs.Fetch.{fetch_of, fetch_in}
use Rattle.fetches.specs.Done.{fetch-accepted}
use Rattle.solver.specs.Change.{call-holds}
use Rattle.knobharbor.specs.Places.{in_places}
use Rattle.knobharbor.specs.Held.{HeldBy}
use Rattle.lasting.specs.Promises.{fetch-holds}
use Rattle.lasting.specs.Held.{in_hand}

-- a changing call with numbers of its types, beside what `call-holds` says of the tested one
module _ (c : Changing) (s : State) (p : List ℕ) (t u : Sparse) (typed : Typed c) (holds : Holds s t) (len : Lengths u) (held : HeldBy (made c) p t u) where
  pub held-answers : (w : Sparse) → p ≡ in_places (call_of (made c) w t).answer
  held-answers w = held.answers ∙ ap (λ (x : State). in_places (made c x).answer) holds.state ∙ ap in_places (sym (call-holds c s w t typed holds).0)

  pub held-holds : Holds (made c s).state (in_hand (made c s).answer.number t u)
  held-holds = go (eqb (made c s).answer.number 0) refl
    where
      go : (b : Bool) → eqb (made c s).answer.number 0 ≡ b → Holds (made c s).state (cond b u t)
      go true e =
          let q = held.accepted (ap (λ (x : State). (made c x).answer.number) holds.state ∙ eqb-true (made c s).answer.number 0 e) in
          record { lengths = len; reads = q.1; state = q.0 ∙ ap (λ (x : State). (made c x).state) holds.state }
      go false e = rw (refusal-keeps c s (eqb-false (made c s).answer.number 0 e)) holds

  pub held-state : (w : Sparse) → read (in_hand (made c s).answer.number t u) ≡ read (call_of (made c) w t).tables
  held-state w = held-holds.state ∙ sym (call-holds c s w t typed holds).1.state

-- a suggestion behind the test is made where the state stands: it answers and leaves the very tables that the tested one does
pub held-suggests : (f : State → Result) (s : State) (w t : Sparse) → Holds s t → call_in f t ≡ call_of f w t
unfolding call_of
held-suggests f s w t h = rw h.reads refl

-- a fetch behind the test is the tested one
pub held-fetch : (s : State) (t : Sparse) → Holds s t → fetch_in t ≡ fetch_of t
held-fetch s t h = fetch-accepted t (sym h.reads) refl

pub held-fetch-holds : (s : State) (t : Sparse) → Holds s t → Holds (fetch_changes s).state (fetch_in t).tables
held-fetch-holds s t h = rw (held-fetch s t h) (fetch-holds s t h)
