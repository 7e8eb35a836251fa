-- What a changing call answers and leaves, for any call of the steps: proved once.
-- Assumes nothing.
use Rattle.std.specs.Prelude.{◌≡◌, refl, Bool, true, false, ◌&&◌, cond, T, eqb}
use Rattle.std.proofs.Common.{sym, ap, ◌∙◌, subst}
use Rattle.laws.specs.Given.{Then}
use Rattle.steps.specs.State.{State}
use Rattle.steps.specs.Calls.{Answer, Result}
use Rattle.sparse.specs.Sparse.{Sparse, read}
use Rattle.sparse.specs.Write.{write}
use Rattle.sparse.specs.Form.{Form, Counts}
use Rattle.sparse.specs.Copy.{put_over}
use Rattle.sparse.proofs.Written.{written_is, write_read}
use Rattle.sparse_test.specs.Reads.{reads}
use Rattle.sparse_test.specs.Meaning.{reads-form}
use Rattle.lending.specs.declared.Answer as code

-- "Each changing call answers: accepted or a number below, pivots made, whole mark." 0 is accepted.
abbrev pub answer_of : code.Answer → Answer
answer_of r = record { number = r.number; pivots = r.pivots; whole = r.whole }

-- what a call leaves: its answer and the tables
pub record Called : Type 0 where
  pub answer : Answer
  pub tables : Sparse

abbrev pub called : Answer → Sparse → Called
called a t = record { answer = a; tables = t }

-- "18 | a lent table has the wrong length or doesn't read as a state": no table changes, the mark is no
abbrev pub refused18 : Answer
refused18 = record { number = 18; pivots = 0; whole = false }

-- a changing call on tables that read as a state
unfoldable pub call_in : (State → Result) → Sparse → Called
call_in f t = called (f (read t)).answer (write (f (read t)).state t)

-- a changing call on any tables: arrays, whose types say their lengths, the working room's too
unfoldable pub call_of : (State → Result) → Sparse → Sparse → Called
call_of f work t = cond (reads t) (call_in f t) (called refused18 t)

-- what the steps leave in the room of an accepted call
abbrev pub Left : Sparse → Type 0
Left w = Form w

pub left-counts : (w : Sparse) (on : Bool) → Then on (Left w) → Then on (Counts w)
left-counts w true h = h.counts
left-counts w false h = tt

-- ---- leaving: over variables, for any call f of the steps that leaves the state as it is where it refuses

-- t is lent, w₂ the room after the steps
pub whole-call : (f : State → Result) (t w w₂ : Sparse) {t₂ : Sparse} {a : Answer} {ok on : Bool}
    → ((s : State) → eqb (f s).answer.number 0 ≡ false → (f s).state ≡ s)
    → ok ≡ reads t
    → a ≡ cond ok (f (read t)).answer refused18
    → on ≡ ok && eqb a.number 0
    → Then on (read w₂ ≡ (f (read t)).state)
    → Then on (Left w₂)
    → t₂ ≡ cond on (put_over w₂ t) t
    → called a t₂ ≡ call_of f w t
unfolding call_of call_in
whole-call f t w w₂ {t₂} {a} {ok} {on} keeps e₁ e₃ e₄ e₅ e₆ e₇ = go ok on e₁ e₃ e₄ e₅ e₆ e₇
  where
    go : (x y : Bool) → x ≡ reads t → a ≡ cond x (f (read t)).answer refused18 → y ≡ x && eqb a.number 0 → Then y (read w₂ ≡ (f (read t)).state) → Then y (Left w₂) → t₂ ≡ cond y (put_over w₂ t) t
        → called a t₂ ≡ cond (reads t) (called (f (read t)).answer (write (f (read t)).state t)) (called refused18 t)
    go true true h j k m n o = rw (← h, j, o, written_is w₂ n t, m) refl
    go true false h j k m n o =
        let same : (f (read t)).state ≡ read t = keeps (read t) (sym (k ∙ ap (λ (x : Answer). eqb x.number 0) j)) in
        rw (← h, j, o, same, write_read t (reads-form t (sym h))) refl
    go false true h j k m n o = absurd (subst T k tt)
    go false false h j k m n o = rw (← h, j, o) refl
