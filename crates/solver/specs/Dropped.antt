-- A drop in the room: its group is found by place, its first constraint goes, and what is left of the drop comes to the same.
-- Assumes nothing.
use Rattle.std.specs.Prelude.{ℕ, ◌+◌, ◌-◌, ◌≤◌, ◌<◌, ◌≡◌, Bool, true, false, not, List, [], ◌∷◌, eqb, length, get_or}
use Rattle.std.proofs.Math.Path.{refl, sym, ap}
use Rattle.std.proofs.Common.{◌∙◌, zero-add, arith}
use Rattle.std.proofs.lemmas.Bool.{false≢true}
use Rattle.std.proofs.Math.Option.{none}
use Rattle.std.proofs.Math.Nat.{sub-zero}
use Rattle.std.proofs.Math.Dec.{eqb-suc-zero}
use borrow.Author.Tests.{ltb-true, eq-eqb, ne_eqb}
use Rattle.laws.specs.Given.{Then, then-given}
use Rattle.laws.specs.Lists.{tab, list_of}
use Rattle.steps.specs.State.{Constraint, State}
use Rattle.steps.specs.Tests.{group_of, first_refusal, drop_tests}
use Rattle.steps.specs.Calls.{Answer, Result, remove, drop_group}
use Rattle.keeps.specs.Reads.{Reads}
use Rattle.keeps.specs.Tested.{reads_in}
use Rattle.keeps.specs.Groups.{Removable, group-removable}
use Rattle.rows.specs.places.Finding.{place_in}
use Rattle.layout.specs.cells.Seek.{first-elim}
use Rattle.sparse.specs.Places.{whole_at, constraint_numbers_at, constraint_groups_at}
use Rattle.sparse.specs.Lookup.{place_from}
use Rattle.sparse.specs.Sparse.{Sparse, constraint_count, constraint_of, read}
use Rattle.sparse_test.specs.Stretch.{most}
use Rattle.sparse_test.specs.Reads.{greatest_u32, reads}
use Rattle.sparse_test.specs.Meaning.{reads-form, reads-readable, reads-parts}
use Rattle.lending.specs.declared.Answer as code
use Rattle.lending.specs.Lending.{answer_of}
use Rattle.refusals.specs.Refusals.{live_in, group_place, group_in, remove_refusal, drop_refusal}
use Rattle.refusals.specs.Tested.{number_or0}
use Rattle.refusals.specs.Known.{remove-refusal}
use Rattle.refusals.specs.Groups.{no-group, drop-refused}
use Rattle.solver.specs.Begin.{constraints-count}
use Rattle.solver.specs.Concluding.{Done, by_test, done-by-test}
use Rattle.solver.specs.Dropping.{dropping, later, turn-tested, turn-refused, turn-accepted, turn-removable, turn-fewer, turn-spent, dropping-ended, group-first, drop-accepted, drop-answers}

-- the number of the group's first constraint
abbrev pub number-first : Sparse → ℕ → ℕ
number-first t g = get_or t.words (constraint_numbers_at + group_place t.words (constraint_count t) g) 0

nil-of : (cs : List Constraint) → eqb (length cs) 0 ≡ true → cs ≡ []
nil-of [] e = refl
nil-of (c ∷ cs) e = absurd (false≢true (sym (eqb-suc-zero (length cs)) ∙ e))

module _ (t : Sparse) (g : ℕ) where
  abbrev in_group : ℕ → Bool
  in_group k = eqb g (get_or t.words (constraint_groups_at + k) 0)

  constraints-are : (read t).constraints ≡ tab (constraint_of t) 0 (constraint_count t)
  unfolding read list_of
  constraints-are = refl

  group-is : (k : ℕ) → eqb g (constraint_of t k).group ≡ in_group k
  unfolding constraint_of
  group-is k = refl

  number_is : (k : ℕ) → (constraint_of t k).number ≡ get_or t.words (constraint_numbers_at + k) 0
  unfolding constraint_of
  number_is k = refl

  -- by the walk that finds it
  first-in : group_place t.words (constraint_count t) g < constraint_count t
      → (in_group (group_place t.words (constraint_count t) g) ≡ true) × ((k : ℕ) → k < group_place t.words (constraint_count t) g → in_group k ≡ false)
  unfolding place_from place_in
  first-in =
      first-elim in_group (λ j. j) (constraint_count t) (λ (z : ℕ). z < constraint_count t → (in_group z ≡ true) × ((k : ℕ) → k < z → in_group k ≡ false)) 0 (constraint_count t) (omega arith)
      (λ r a b e f l. (e, λ k q. f k (omega arith) q)) (λ f l. absurd (omega (arith, l)))

  module _ (live : group_in t.words (constraint_count t) g ≡ true) where
    pub place-in : group_place t.words (constraint_count t) g < constraint_count t
    place-in = unfold live_in in ltb-true _ _ live

    head_of : (ds : List Constraint) × (group_of g (read t).constraints ≡ constraint_of t (group_place t.words (constraint_count t) g) ∷ ds)
    head_of =
        let f = first-in place-in in
        rw constraints-are (group-first g (constraint_of t) 0 (constraint_count t) (group_place t.words (constraint_count t) g) (omega arith) (omega (arith, place-in)) (λ k a b. group-is k ∙ f.1 k b) (group-is _ ∙ f.0))

  none_of : group_in t.words (constraint_count t) g ≡ false → group_of g (read t).constraints ≡ []
  none_of gone = nil-of (group_of g (read t).constraints) (no-group t g ∙ ap not gone)

-- ---- the group's first constraint goes

module _ (g : ℕ) (u : Sparse) (good : reads u ≡ true) (live : group_in u.words (constraint_count u) g ≡ true) where
  facts : Reads (read u)
  facts = reads_in (read u) (reads-readable u good)

  pub first_small : number-first u g ≤ greatest_u32
  first_small = most u.words constraint_numbers_at (constraint_count u) greatest_u32 (reads-parts u good).constraints _ (place-in u g live)

  module _ (can : Removable (group_of g (read u).constraints) (read u)) (b : ℕ) where
    abbrev first : Constraint
    first = constraint_of u (group_place u.words (constraint_count u) g)

    abbrev rest : List Constraint
    rest = (head_of u g live).0

    abbrev one : Result
    one = remove (number-first u g) b (read u)

    one-is : remove first.number b (read u) ≡ one
    one-is = ap (λ (n : ℕ). remove n b (read u)) (number_is u g (group_place u.words (constraint_count u) g))

    -- it is live, and may go
    pub first-free : remove_refusal (number-first u g) u.words u.bytes u.reals ≡ 0
    unfolding number_or0
    first-free =
        let q = rw (number_is u g (group_place u.words (constraint_count u) g)) at (turn-tested g b (read u) facts first rest (head_of u g live).1 can) in
        sym (remove-refusal u good (number-first u g)) ∙ ap number_or0 q

    first-spent : one.answer.pivots ≤ b
    first-spent = rw one-is at (turn-spent g b (read u) facts first rest (head_of u g live).1 can)

    pub first-within : (a : code.Answer) {j : ℕ} → j ≡ group_place u.words (constraint_count u) g → answer_of a ≡ (remove (get_or u.words (constraint_numbers_at + j) 0) b (read u)).answer → a.pivots ≤ b
    first-within a e says = let s = rw e at says in omega (arith, ap (λ (x : Answer). x.pivots) s, first-spent)

    first-refused : eqb one.answer.number 0 ≡ false → dropping g b (read u) ≡ one
    first-refused = rw one-is at (turn-refused g b (read u) facts first rest (head_of u g live).1 can)

    first-accepted : eqb one.answer.number 0 ≡ true → dropping g b (read u) ≡ later one.answer.pivots (dropping g (b - one.answer.pivots) one.state)
    first-accepted = rw one-is at (turn-accepted g b (read u) facts first rest (head_of u g live).1 can)

    first-others : eqb one.answer.number 0 ≡ true → Removable (group_of g one.state.constraints) one.state
    first-others = rw one-is at (turn-removable g b (read u) facts first rest (head_of u g live).1 can)

    first-fewer : eqb one.answer.number 0 ≡ true → length one.state.constraints < length (read u).constraints
    first-fewer = rw one-is at (turn-fewer g b (read u) facts first rest (head_of u g live).1 can)

-- what its removal ensures, after p pivots
abbrev pub Went : ℕ → ℕ → ℕ → code.Answer → Sparse → Sparse → Type 0
Went g budget p r t u = (Done (λ s. later p (remove (number-first t g) (budget - p) s)) r t u) × (Then (eqb r.number 0) (reads u ≡ true))

pub went-by : (g budget p : ℕ) (t u : Sparse) (a r : code.Answer) {j : ℕ} → j ≡ group_place t.words (constraint_count t) g → Done (remove (get_or t.words (constraint_numbers_at + j) 0) (budget - p)) a t u
    → Then (eqb a.number 0) (reads u ≡ true) → answer_of r ≡ record { number = a.number; pivots = p + a.pivots; whole = a.whole } → Went g budget p r t u
went-by g budget p t u a r e d good says =
    let f = rw e at d in
    let n : r.number ≡ a.number = ap (λ (x : Answer). x.number) says in
    ((says ∙ ap (λ (x : Answer). record { number = x.number; pivots = p + x.pivots; whole = x.whole }) f.0, rw n f.1, rw n f.2), rw n good)

-- ---- between two removals

-- p pivots are made: what is left of the drop in the room u comes to what the drop comes to that started on t
pub record Halfway (g budget : ℕ) (t u : Sparse) (p : ℕ) : Type 0 where
  pub reads : reads u ≡ true
  pub spent : p ≤ budget
  pub removable : Removable (group_of g (read u).constraints) (read u)
  pub same : later p (dropping g (budget - p) (read u)) ≡ dropping g budget (read t)

pub at-start : (g budget : ℕ) (t : Sparse) → reads t ≡ true → first_refusal (drop_tests g (read t)) ≡ none → Halfway g budget t t 0
at-start g budget t good passed =
    record {
      reads = good;
      spent = omega arith;
      removable = group-removable g (read t) (reads_in (read t) (reads-readable t good)) passed;
      same = rw (sub-zero budget, zero-add (dropping g budget (read t)).answer.pivots) refl;
    }

module _ (g budget : ℕ) (t u : Sparse) (p : ℕ) (half : Halfway g budget t u p) (live : group_in u.words (constraint_count u) g ≡ true) (r : code.Answer) (v : Sparse) (went : Went g budget p r u v) where
  abbrev gone : Result
  gone = remove (number-first u g) (budget - p) (read u)

  number_same : r.number ≡ gone.answer.number
  number_same = ap (λ (a : Answer). a.number) went.0.0

  pivots-same : r.pivots ≡ p + gone.answer.pivots
  pivots-same = ap (λ (a : Answer). a.pivots) went.0.0

  pub halfway-refused : (r.number ≡ 0 → ⊥) → Done (dropping g budget) r t v
  halfway-refused off =
      let q = first-refused g u half.reads live half.removable (budget - p) (ne_eqb _ 0 (λ e. off (number_same ∙ e))) in
      let e : dropping g budget (read t) ≡ later p gone = sym half.same ∙ ap (later p) q in
      let b : eqb r.number 0 ≡ false = ne_eqb r.number 0 off in
      (went.0.0 ∙ sym (ap (λ (x : Result). x.answer) e), rw b tt, rw b tt)

  module _ (on : r.number ≡ 0) where
    yes : eqb r.number 0 ≡ true
    yes = eq-eqb r.number 0 on

    taken : eqb gone.answer.number 0 ≡ true
    taken = eq-eqb _ 0 (sym number_same ∙ on)

    state-is : read v ≡ gone.state
    state-is = then-given _ yes went.0.1

    pub halfway-fewer : constraint_count v < constraint_count u
    halfway-fewer =
        let l = first-fewer g u half.reads live half.removable (budget - p) taken in
        omega (arith, l, constraints-count v, constraints-count u, ap (λ (s : State). length s.constraints) state-is)

    pub halfway-on : Halfway g budget t v r.pivots
    halfway-on =
        let q = first-accepted g u half.reads live half.removable (budget - p) taken in
        let m : ℕ = gone.answer.pivots in
        let x : Result = dropping g (budget - p - m) gone.state in
        let a : p + m + x.answer.pivots ≡ p + (m + x.answer.pivots) = omega arith in
        let d : budget - (p + m) ≡ budget - p - m = omega arith in
        record {
          reads = then-given _ yes went.1;
          spent = omega (arith, pivots-same, first-spent g u half.reads live half.removable (budget - p), half.spent);
          removable = rw state-is (first-others g u half.reads live half.removable (budget - p) taken);
          same = rw (pivots-same, state-is, d, a) (sym (ap (later p) q) ∙ half.same);
        }

-- the last is gone
pub halfway-ended : (g budget : ℕ) (t u : Sparse) (p : ℕ) → Halfway g budget t u p → group_in u.words (constraint_count u) g ≡ false
    → (r : code.Answer) → answer_of r ≡ record { number = 0; pivots = p; whole = eqb (get_or u.words whole_at 0) 1 } → Done (dropping g budget) r t u
halfway-ended g budget t u p half gone r says =
    let q = dropping-ended g (budget - p) (read u) (none_of u g gone) in
    let e : dropping g budget (read t) ≡ record { answer = record { number = 0; pivots = p + 0; whole = (read u).whole }; state = read u } = sym half.same ∙ ap (later p) q in
    let z : p + 0 ≡ p = omega arith in
    let b : eqb r.number 0 ≡ true = eq-eqb r.number 0 (ap (λ (a : Answer). a.number) says) in
    (rw (e, z) (says ∙ (unfold read in refl)), rw (b, e) refl, rw b (reads-form u half.reads))

-- ---- the call

pub drop-by-test : (g budget : ℕ) (t u : Sparse) (a : code.Answer) {k : ℕ} → reads t ≡ true → k ≡ drop_refusal g t.words t.bytes t.reals → (k ≡ 0 → ⊥) → answer_of a ≡ by_test k t.words → Done (drop_group g budget) a t u
drop-by-test g budget t u a {k} good q h says = done-by-test (drop_group g budget) a t u k (drop-refused t g good budget (λ z. h (q ∙ z)) ∙ rw (← q) refl) h says

-- t is lent, w the room with all its records
pub drop-done : (g budget : ℕ) (t w u : Sparse) (r : code.Answer) → read w ≡ read t → first_refusal (drop_tests g (read t)) ≡ none → Done (dropping g budget) r w u → Done (drop_group g budget) r t u
drop-done g budget t w u r e passed d =
    (d.0 ∙ rw e (sym (drop-answers g budget (read t) passed)), go (eqb r.number 0) refl d.1, d.2)
  where
    go : (b : Bool) → eqb r.number 0 ≡ b → Then b (read u ≡ (dropping g budget (read w)).state) → Then b (read u ≡ (drop_group g budget (read t)).state)
    go true q h =
        let n : eqb (dropping g budget (read t)).answer.number 0 ≡ true = sym (ap (λ (a : Answer). eqb a.number 0) (rw e at d.0)) ∙ q in
        h ∙ rw e (ap (λ (x : Result). x.state) (sym (drop-accepted g budget (read t) passed n)))
    go false q h = tt
