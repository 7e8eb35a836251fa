-- The one changing call: the change that is known, the room entered and left, and that tables which hold a state still do. Assumes nothing.
use Rattle.std.specs.Prelude.{ℕ, ◌≡◌, refl, ◌≢◌, Bool, true, false, ◌&&◌, cond, eqb}
use Rattle.std.proofs.Common.{ap, ◌∙◌}
use Rattle.std.proofs.lemmas.Bool.{eqb-false}
use Rattle.steps.specs.State.{State}
use Rattle.steps.specs.Calls.{Answer, Result}
use Rattle.steps.specs.Changing.{Changing, made}
use Rattle.steps.proofs.Refusals.{refusal-keeps}
use Rattle.sparse.specs.Sparse.{Sparse, read}
use Rattle.sparse.specs.Fits.{Lengths}
use Rattle.sparse.specs.Copy.{put_over}
use Rattle.lending.specs.sparse_copy.Over.{cleared}
use Rattle.sparse_test.specs.Reads.{reads}
use Rattle.sparse_test.specs.narrow.Narrow.{Typed}
use Rattle.sparse_test.specs.narrow.Holds.{Holds, made-written}
use Rattle.lending.specs.declared.Answer as code
use Rattle.lending.specs.Lending.{Called, answer_of, called, refused18, call_in, call_of, whole-call}
use Rattle.lending.specs.Entered.{zero_room, cleared-is}
use Rattle.changes.specs.declared.terms.Pack.{Pack}
use Rattle.changes.specs.declared.Change.{Change}
use Rattle.changes.specs.Change.{changing_of}
use Rattle.solver.specs.Concluding.{Done, DoneIf}

pub known-done : (c : Change) (p : Pack) (budget : ℕ) (r : code.Answer) (t u : Sparse) {d : Change} → c ≡ d → Done (made (changing_of d p budget)) r t u → Done (made (changing_of c p budget)) r t u
known-done c p budget r t u e h = rw e h

pub known-called : (c : Change) (p : Pack) (budget : ℕ) (w t z : Sparse) (a : Answer) {d : Change} → c ≡ d → called a z ≡ call_of (made (changing_of d p budget)) w t → called a z ≡ call_of (made (changing_of c p budget)) w t
known-called c p budget w t z a e h = rw e h

-- "A refusal changes no table"
pub keeps : (f : Changing) (s : State) → eqb (made f s).answer.number 0 ≡ false → (made f s).state ≡ s
keeps f s e = refusal-keeps f s (eqb-false (made f s).answer.number 0 e)

-- t and w are the lent tables and the room, w₂ the room after the steps
pub call-done : (f : Changing) (t w w₂ : Sparse) (a : code.Answer) {t₂ z : Sparse} {ok : Bool}
    → Lengths w
    → ok ≡ reads t
    → DoneIf ok (made f) a t w₂
    → t₂ ≡ cond (ok && eqb a.number 0) (put_over w₂ t) t
    → z ≡ zero_room
    → (called (answer_of a) t₂ ≡ call_of (made f) w t) × (z ≡ cleared w)
call-done f t w w₂ a {t₂} {z} {ok} l e₁ d e₃ e₄ = (
  whole-call (made f) t w w₂ (keeps f) e₁ d.0 refl d.1 d.2 e₃,
  e₄ ∙ cleared-is w l,
)

-- a call with numbers of its types, with any working room: the steps' answer, and tables that hold the steps' state
pub call-holds : (c : Changing) (s : State) (w t : Sparse) → Typed c → Holds s t → ((call_of (made c) w t).answer ≡ (made c s).answer) × Holds (made c s).state (call_of (made c) w t).tables
unfolding call_of call_in
call-holds c s w t typed h =
    let e : read t ≡ s = h.state in
    rw (h.reads, ← e) (refl, made-written c t typed h.reads h.lengths)

unread-call : (f : State → Result) (w t : Sparse) → reads t ≡ false → call_of f w t ≡ called refused18 t
unfolding call_of
unread-call f w t e = rw e refl

-- what was not answered 18 left tables that read as a state
pub call-reads : (c : Changing) (w t : Sparse) → Typed c → Lengths t → (call_of (made c) w t).answer.number ≢ 18 → reads (call_of (made c) w t).tables ≡ true
call-reads c w t typed len fit = go (reads t) refl
  where
    go : (b : Bool) → reads t ≡ b → reads (call_of (made c) w t).tables ≡ true
    go true e = (call-holds c (read t) w t typed (record { lengths = len; reads = e; state = refl })).1.reads
    go false e = absurd (fit (ap (λ (x : Called). x.answer.number) (unread-call (made c) w t e)))
