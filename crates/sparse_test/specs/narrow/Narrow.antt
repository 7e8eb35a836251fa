-- Numbers that a u32 holds stay so: the next id, the variables' numbers, the gone ones' and the constraints'. Assumes nothing.
use Rattle.std.specs.Prelude.{ℕ, ◌+◌, ◌-◌, ◌≤◌, ◌≡◌, Bool, cond, List, [], ◌∷◌, eqb, length, Float}
use Rattle.std.proofs.Math.Path.{refl}
use Rattle.std.proofs.Math.Bool.{true, false}
use Rattle.std.proofs.Math.Option.{Option, none, some}
use Rattle.std.proofs.Common.{arith}
use borrow.Author.Tests.{leb-true, le-leb, ltb-false}
use Rattle.steps.specs.Number.{is_finite, zero64}
use Rattle.steps.specs.Strength.{clip}
use Rattle.steps.specs.State.{Term, Relation, equal, strength_of, comparison_of, Tag, Variable, Constraint, Edit, State}
use Rattle.steps.specs.Work.{Work, Outcome, refused, going}
use Rattle.steps.specs.Changes.{clear_changed, with_flag, reported, fetch_changes}
use Rattle.steps.specs.Edit.{edit_terms, add_edit_steps, suggest_steps}
use Rattle.steps.specs.Tests.{first_refusal, ids_used, add_tests, add_edit_tests, drop_tests, gone_full, group_of, kept_terms, find_constraint, find_edit, keep_constraint, drop_constraint, keep_edit, drop_edit}
use Rattle.steps.specs.Add.{Added, add_steps}
use Rattle.steps.specs.Remove.{remove_steps}
use Rattle.steps.specs.Calls.{Result, begin, finish, refused_by, accepted_as, conclude, conclude_add, empty, add, remove_stored, unless_full, remove, onward, remove_all, all_or_none, drop_group, add_edit, remove_edit_stored, remove_edit, suggest}
use Rattle.steps.specs.Changing.{Changing, adds, removes, drops, adds_edit, removes_edit, suggests, made}
use Rattle.keeps.specs.Lists.{All}
use Rattle.keeps.specs.Keys.{keep_all, drop_all, keep_constraint-is, drop_constraint-is}
use Rattle.keeps.specs.Fits.{all_map}
use Rattle.keeps.specs.Passes.{Ends}
use Rattle.keeps.specs.Addition.{passed}
use Rattle.layout.specs.Layout.{term_room}
use Rattle.sparse_test.specs.narrow.Numbers.{is_u32}
use Rattle.sparse_test.specs.narrow.Near.{Near, suggest-near, remove-near}
use Rattle.sparse_test.specs.narrow.NearAdd.{TermNamed, add-near}

pub record Narrow (s : State) : Type 0 where
  pub next : is_u32 s.tableau.next_id ≡ true
  pub variables : All (λ (v : Variable). is_u32 v.number ≡ true) s.changes.variables
  pub constraints : All (λ (c : Constraint). is_u32 c.number ≡ true) s.constraints
  pub gone : All (λ (n : ℕ). is_u32 n ≡ true) s.changes.gone

-- what the types of the public calls say of their numbers
abbrev pub Typed : Changing → Type 0
Typed (adds g n terms constant relation budget) = (is_u32 n ≡ true) × All (TermNamed is_u32) terms
Typed (removes n budget) = Unit {0}
Typed (drops g budget) = Unit {0}
Typed (adds_edit n strength budget) = is_u32 n ≡ true
Typed (removes_edit n budget) = Unit {0}
Typed (suggests n new budget) = Unit {0}

held : (n m : ℕ) → n ≤ m → m ≤ 4294967295 → is_u32 n ≡ true
unfolding is_u32
held n m a b = le-leb n 4294967295 (omega arith)

small : (n : ℕ) → is_u32 n ≡ true → n ≤ 4294967295
unfolding is_u32
small n e = leb-true n 4294967295 e

module _ (s : State) (h : Narrow s) where
  -- the steps took at most k ids
  after : (k : ℕ) (w : Work) (cs : List Constraint) (es : List Edit) → s.tableau.next_id + k ≤ 4294967295 → All (λ (c : Constraint). is_u32 c.number ≡ true) cs → Near is_u32 k (begin s) w → Narrow (finish w cs es)
  unfolding finish begin
  after k w cs es room c a = record { next = held w.tableau.next_id (s.tableau.next_id + k) a.next room; variables = (a.numbers (h.variables, h.gone)).0; constraints = c; gone = (a.numbers (h.variables, h.gone)).1 }

  concluded : (o : Outcome Work) (next : Work → State) → Ends (λ w. Narrow (next w)) o → Narrow (conclude s o next).state
  unfolding conclude refused_by accepted_as
  concluded (refused n p m) next e = h
  concluded (going w) next e = e

  concluded-add : (o : Outcome Added) (next : Added → State) → Ends (λ a. Narrow (next a)) o → Narrow (conclude_add s o next).state
  unfolding conclude_add refused_by accepted_as
  concluded-add (refused n p m) next e = h
  concluded-add (going a) next e = e

  from : {A : Type 0} (P Q : A → Type 0) (o : Outcome A) → Ends P o → ((a : A) → P a → Q a) → Ends Q o
  from P Q (refused n p m) e f = tt
  from P Q (going a) e f = f a e

  same-ids : s.tableau.next_id + 0 ≤ 4294967295
  same-ids = omega (arith, small s.tableau.next_id h.next)

  not-used : ids_used s ≡ false → s.tableau.next_id ≤ 4294900000
  unfolding ids_used
  not-used e = ltb-false 4294900000 s.tableau.next_id e

  add-narrow : (g n : ℕ) (ts : List Term) (k : Float) (r : Relation) (budget : ℕ) → is_u32 n ≡ true → All (TermNamed is_u32) ts → Narrow (add g n ts k r budget s).state
  unfolding add refused_by
  add-narrow g n ts k r budget e q = go (first_refusal (add_tests g n ts k r s)) refl
    where
      new : Tag → Constraint
      new tag = record { number = n; group = g; comparison = comparison_of r; strength = strength_of r; constant = k; terms = kept_terms s.tableau.cutoff ts; tag = tag }

      kept : (tag : Tag) → All (λ (c : Constraint). is_u32 c.number ≡ true) (keep_constraint (new tag) s.constraints)
      kept tag = rw keep_constraint-is (keep_all (λ (c : Constraint). c.number) _ (new tag) s.constraints e h.constraints)

      room : first_refusal (add_tests g n ts k r s) ≡ none → s.tableau.next_id + (length ts + 3) ≤ 4294967295
      room pass = unfold add_tests in
          let b = passed _ _ (passed _ _ (passed _ _ pass).1).1 in
          let c = passed _ _ b.1 in
          let f = passed _ _ (passed _ _ (passed _ _ (passed _ _ c.1).1).1).1 in
          omega (arith, not-used f.0, ltb-false term_room (length ts) c.0)

      go : (o : Option ℕ) → first_refusal (add_tests g n ts k r s) ≡ o → Narrow (add g n ts k r budget s).state
      go (some z) p = rw (p, add) h
      go none p =
          rw (p, add) (concluded-add (add_steps budget ts k r (begin s)) (λ a. finish a.work (keep_constraint (new a.tag) s.constraints) s.edits)
          (from _ _ (add_steps budget ts k r (begin s)) (add-near is_u32 budget ts k r (begin s) q) (λ a z. after (length ts + 3) a.work (keep_constraint (new a.tag) s.constraints) s.edits (room p) (kept a.tag) z)))

  add-edit-narrow : (n : ℕ) (k : Float) (budget : ℕ) → is_u32 n ≡ true → Narrow (add_edit n k budget s).state
  unfolding add_edit add_edit_steps refused_by edit_terms
  add-edit-narrow n k budget e = go (first_refusal (add_edit_tests n (clip k) s)) refl
    where
      new : Tag → Edit
      new tag = record { variable = n; strength = clip k; tag = tag; suggestion = zero64 }

      room : first_refusal (add_edit_tests n (clip k) s) ≡ none → s.tableau.next_id + 4 ≤ 4294967295
      room pass = unfold add_edit_tests in
          let f = passed _ _ (passed _ _ (passed _ _ (passed _ _ (passed _ _ pass).1).1).1).1 in
          omega (arith, not-used f.0)

      go : (o : Option ℕ) → first_refusal (add_edit_tests n (clip k) s) ≡ o → Narrow (add_edit n k budget s).state
      go (some z) p = rw (p, add_edit) h
      go none p =
          rw (p, add_edit) (concluded-add (add_steps budget (edit_terms n) zero64 (equal (clip k)) (begin s)) (λ a. finish a.work s.constraints (keep_edit (new a.tag) s.edits))
          (from _ _ (add_steps budget (edit_terms n) zero64 (equal (clip k)) (begin s)) (add-near is_u32 budget (edit_terms n) zero64 (equal (clip k)) (begin s) (e, tt))
          (λ a z. after 4 a.work s.constraints (keep_edit (new a.tag) s.edits) (room p) h.constraints z)))

  stored-narrow : (n : ℕ) (c : Constraint) (budget : ℕ) → Narrow (remove_stored n c budget s).state
  unfolding remove_stored
  stored-narrow n c budget =
      concluded (remove_steps budget c.tag c.strength c.terms (begin s)) (λ w. finish w (drop_constraint n s.constraints) s.edits)
      (from _ _ (remove_steps budget c.tag c.strength c.terms (begin s)) (remove-near is_u32 budget c.tag c.strength c.terms (begin s)) (λ w z. after 0 w (drop_constraint n s.constraints) s.edits same-ids left z))
    where
      left : All (λ (c : Constraint). is_u32 c.number ≡ true) (drop_constraint n s.constraints)
      left = rw drop_constraint-is (drop_all (λ (c : Constraint). c.number) _ n s.constraints h.constraints)

  -- 25 leaves the state as it is
  unless-full-narrow : (ts : List Term) (r : Result) → Narrow r.state → Narrow (unless_full ts s r).state
  unfolding unless_full refused_by
  unless-full-narrow ts r k = go (gone_full ts s)
    where
      go : (z : Bool) → Narrow (elim z as (λ _. Result) [ true ↦ refused_by 25 0 s.whole s | false ↦ r ]).state
      go true = h
      go false = k

  remove-narrow : (n budget : ℕ) → Narrow (remove n budget s).state
  unfolding remove refused_by
  remove-narrow n budget = go (find_constraint n s.constraints)
    where
      go : (o : Option Constraint) → Narrow (elim o as (λ _. Result) [ none ↦ refused_by 5 0 s.whole s | some c ↦ unless_full c.terms s (remove_stored n c budget s) ]).state
      go none = h
      go (some c) = unless-full-narrow c.terms (remove_stored n c budget s) (stored-narrow n c budget)

  remove-edit-narrow : (n budget : ℕ) → Narrow (remove_edit n budget s).state
  unfolding remove_edit refused_by
  remove-edit-narrow n budget = go (find_edit n s.edits)
    where
      go : (o : Option Edit) → Narrow (elim o as (λ _. Result) [ none ↦ refused_by 8 0 s.whole s | some e ↦ unless_full (edit_terms n) s (remove_edit_stored n e budget s) ]).state
      go none = h
      go (some e) =
          unless-full-narrow (edit_terms n) (remove_edit_stored n e budget s) (unfold remove_edit_stored in concluded (remove_steps budget e.tag e.strength (edit_terms n) (begin s)) (λ w. finish w s.constraints (drop_edit n s.edits))
          (from _ _ (remove_steps budget e.tag e.strength (edit_terms n) (begin s)) (remove-near is_u32 budget e.tag e.strength (edit_terms n) (begin s)) (λ w z. after 0 w s.constraints (drop_edit n s.edits) same-ids h.constraints z)))

  suggest-narrow : (n : ℕ) (new : Float) (budget : ℕ) → Narrow (suggest n new budget s).state
  unfolding suggest refused_by
  suggest-narrow n new budget = go (is_finite new) (find_edit n s.edits)
    where
      edit : Edit → Edit
      edit e = record { variable = n; strength = e.strength; tag = e.tag; suggestion = new }

      go : (b : Bool) (o : Option Edit) → Narrow (elim b as (λ _. Result) [ false ↦ refused_by 1 0 s.whole s | true ↦ elim o as (λ _. Result) [ none ↦ refused_by 8 0 s.whole s | some e ↦ conclude s (suggest_steps budget e new (begin s)) λ w. finish w s.constraints (keep_edit (edit e) (drop_edit n s.edits)) ] ]).state
      go false o = h
      go true none = h
      go true (some e) =
          concluded (suggest_steps budget e new (begin s)) (λ w. finish w s.constraints (keep_edit (edit e) (drop_edit n s.edits)))
          (from _ _ (suggest_steps budget e new (begin s)) (suggest-near is_u32 budget e new (begin s)) (λ w z. after 0 w s.constraints (keep_edit (edit e) (drop_edit n s.edits)) same-ids h.constraints z))

  pub fetch-narrow : Narrow (fetch_changes s).state
  unfolding fetch_changes reported clear_changed with_flag
  fetch-narrow = record { next = h.next; variables = all_map (reported s.changes.gone s.tableau.rows) U32 (cond s.changes.should_clear (clear_changed s.changes.variables) s.changes.variables) (go s.changes.should_clear); constraints = h.constraints; gone = tt }
    where
      U32 : Variable → Type 0
      U32 v = is_u32 v.number ≡ true

      go : (b : Bool) → All U32 (cond b (clear_changed s.changes.variables) s.changes.variables)
      go true = unfold clear_changed with_flag in all_map (with_flag false) U32 s.changes.variables h.variables
      go false = h.variables

-- ---- a drop: removals one after the other

onward-narrow : (r q : Result) → Narrow r.state → Narrow q.state → Narrow (onward r q).state
unfolding onward
onward-narrow r q h k = go (eqb r.answer.number 0)
  where
    go : (z : Bool)
        → Narrow (elim z as (λ _. Result) [ false ↦ r | true ↦ record { answer = record { number = q.answer.number; pivots = r.answer.pivots + q.answer.pivots; whole = q.answer.whole }; state = q.state } ]).state
    go false = h
    go true = k

all-narrow : (cs : List Constraint) (b : ℕ) (s : State) → Narrow s → Narrow (remove_all cs b s).state
unfolding remove_all
all-narrow [] b s h = h
all-narrow (c ∷ cs) b s h =
    let r : Result = remove_stored c.number c b s in
    let k = stored-narrow s h c.number c b in
    onward-narrow r (remove_all cs (b - r.answer.pivots) r.state) k (all-narrow cs (b - r.answer.pivots) r.state k)

drop-narrow : (g b : ℕ) (s : State) → Narrow s → Narrow (drop_group g b s).state
unfolding drop_group
drop-narrow g b s h = go (first_refusal (drop_tests g s))
  where
    r : Result
    r = remove_all (group_of g s.constraints) b s

    kept : (z : Bool) → Narrow (elim z as (λ _. Result) [ true ↦ r | false ↦ refused_by r.answer.number r.answer.pivots r.answer.whole s ]).state
    kept true = all-narrow (group_of g s.constraints) b s h
    kept false = unfold refused_by in h

    go : (o : Option ℕ) → Narrow (elim o as (λ _. Result) [ some q ↦ refused_by q 0 s.whole s | none ↦ all_or_none s r ]).state
    go (some q) = unfold refused_by in h
    go none = unfold all_or_none in kept (eqb r.answer.number 0)

pub made-narrow : (s : State) → Narrow s → (c : Changing) → Typed c → Narrow (made c s).state
made-narrow s h (adds g n ts k r b) t = add-narrow s h g n ts k r b t.0 t.1
made-narrow s h (removes n b) t = remove-narrow s h n b
made-narrow s h (drops g b) t = drop-narrow g b s h
made-narrow s h (adds_edit n k b) t = add-edit-narrow s h n k b t
made-narrow s h (removes_edit n b) t = remove-edit-narrow s h n b
made-narrow s h (suggests n x b) t = suggest-narrow s h n x b

pub empty-narrow : (cutoff : Float) → Narrow (empty cutoff)
unfolding empty is_u32
empty-narrow cutoff = record { next = refl; variables = tt; constraints = tt; gone = tt }
