-- The calls behind the test that tables read as a state, for "tables that nobody else can reach": what replaces the test there is "privacy in safe Rust". The caller owns two sets of tables, one of which reads as a state,
-- made by reset and changed by these calls alone; the other is the room. Assumes nothing.
use Rattle.std.specs.Prelude.{◌≡◌, ℕ, true, List, ◌==◌, nat_eq, Float}
use Rattle.std.proofs.Common.{ap, ◌∙◌, eq-eqb}
use Rattle.laws.specs.Given.{Then, then-given}
use Rattle.steps.specs.State.{State}
use Rattle.steps.specs.Calls.{Answer, Result, add}
use Rattle.sparse.specs.Sparse.{Sparse, read}
use Rattle.sparse_test.specs.Reads.{reads}
use Rattle.lending.specs.declared.Answer as code
use Rattle.lending.specs.Lending.{answer_of}
use Rattle.changes.specs.declared.tags.Relation.{Relation}
use Rattle.changes.specs.tags.Tags.{relation_of}
use Rattle.changes.specs.declared.terms.Term.{Term}
use Rattle.changes.specs.declared.terms.Pack.{Pack}
use Rattle.changes.specs.terms.Terms.{pack_of, terms_in, listed}
use Rattle.solver.specs.Concluding.{Done}
use Rattle.solver.specs.Listed.{listed-adds}
use Rattle.knobharbor.specs.Given.{relation_by}
use Rattle.knobharbor.specs.Places.{in_places}

-- a changing call f on tables t that read as a state, which it only reads: the answer is the steps', in its places; an accepted call leaves the steps' state in the room u, which reads as one, so that the two may change places.
-- Of a refused call's room nothing is said: the tables hold their state still.
pub record HeldBy (f : State → Result) (answer : List ℕ) (t u : Sparse) : Type 0 where
  pub answers : answer ≡ in_places (f (read t)).answer
  pub accepted : (f (read t)).answer.number ≡ 0 → (read u ≡ (f (read t)).state) × (reads u ≡ true)

-- the steps' add of what C hands in; a kind past 1 is at least
abbrev pub held_add : ℕ → ℕ → List Term → Float → ℕ → Float → ℕ → State → Result
held_add g n ts constant kind strength budget = add g n (terms_in ts) constant (relation_by kind strength) budget

-- the same of the list that a pack stands for
abbrev pub held_packed : ℕ → ℕ → Pack → Float → ℕ → Float → ℕ → State → Result
held_packed g n p = held_add g n (listed p)

-- ---- the code

pub held_by : (f : State → Result) (t u : Sparse) (r : code.Answer) {p : List ℕ} → p ≡ in_places (answer_of r) → Done f r t u → Then (r.number == 0) (reads u ≡ true) → HeldBy f p t u
held_by f t u r e d again =
    record {
      answers = e ∙ ap in_places d.0;
      accepted = λ z.
          let on : nat_eq r.number 0 ≡ true = ap (λ (a : Answer). nat_eq a.number 0) d.0 ∙ eq-eqb (f (read t)).answer.number 0 z in
          (then-given (read u ≡ (f (read t)).state) on d.1, then-given (reads u ≡ true) on again);
    }

-- a call of the same steps on these tables
held-as : (f g : State → Result) (p : List ℕ) (t u : Sparse) → f (read t) ≡ g (read t) → HeldBy f p t u → HeldBy g p t u
held-as f g p t u e h =
    record {
      answers = h.answers ∙ ap (λ (r : Result). in_places r.answer) e;
      accepted = λ z. let q = h.accepted (ap (λ (r : Result). r.answer.number) e ∙ z) in (q.0 ∙ ap (λ (r : Result). r.state) e, q.1);
    }

module _ (g n : ℕ) (constant : Float) (kind : ℕ) (strength : Float) (budget : ℕ) (a : List ℕ) (t u : Sparse) where
  pub held-packed : (p : Pack) (r : Relation) → relation_of r ≡ relation_by kind strength → HeldBy (add g n (terms_in (listed p)) constant (relation_of r) budget) a t u → HeldBy (held_packed g n p constant kind strength budget) a t u
  held-packed p r e h = rw e at h

  pub held-list : (ts : List Term) (p : Pack) → p ≡ pack_of ts → HeldBy (held_packed g n p constant kind strength budget) a t u → HeldBy (held_add g n ts constant kind strength budget) a t u
  held-list ts p e h = held-as (held_packed g n (pack_of ts) constant kind strength budget) (held_add g n ts constant kind strength budget) a t u (listed-adds g n budget constant (relation_by kind strength) (read t) ts) (rw e at h)
