-- A REMOVAL KEEPS THE INVARIANT of a whole run, of a constraint and of an edit, accepted or refused; and it is refused 5 (8 for an edit), 25 or 14 only. Assumes nothing.
use Rattle.std.specs.Prelude.{◌≡◌, ◌⊎◌, Bool, ℕ, ◌+◌, ◌<◌, Float}
use Rattle.std.proofs.Math.Path.{refl, sym, ap, subst}
use Rattle.std.proofs.Common.{◌∙◌}
use Rattle.std.proofs.Math.Logic.{inl, inr}
use Rattle.std.proofs.Math.Bool.{true, false}
use mathlib.Core.List.{List, map}
use Rattle.std.proofs.Math.Option.{Option, none, some}
use Rattle.std.proofs.Math.Dec.{eqb}
use Rattle.steps.specs.Number.{all_whole, says_whole}
use Rattle.steps.specs.State.{Term, strength_of, Tag, Constraint, Edit}
use Rattle.steps.specs.Work.{Work, Outcome, refused, going}
use Rattle.steps.specs.Edit.{edit_terms}
use Rattle.steps.specs.Tests.{find_constraint, drop_constraint, find_edit, drop_edit, gone_full}
use Rattle.steps.specs.Remove.{remove_steps}
use Rattle.steps.specs.Calls.{Result, begin, finish, refused_by, accepted_as, conclude, unless_full, remove, remove_edit_stored, remove_edit, remove_stored}
use Rattle.steps.specs.Readable.{readable, uses_in}
use Rattle.steps.proofs.After.{says-whole}
use Rattle.keeps.specs.Lists.{Up}
use Rattle.keeps.specs.Uses.{var_number, uses_of}
use Rattle.keeps.specs.Reads.{Reads, used_by}
use Rattle.keeps.specs.Tested.{reads_in}
use Rattle.simplex.specs.bridge.Runs.{mark_of}
use Rattle.run.specs.Demand.{Key, of_constraint, of_edit, Demand, Call, removes, removes_edit, make, accepted, without, Moment, next}
use Rattle.run.specs.Inv.{non_zero_terms, Held, form_of, Shaped, find_held, ConstraintAt, EditAt, WholeDemand, Inv}
use Rattle.run.specs.Suggest.{unchanged, changed}
use Rattle.run.specs.Perm.{without_held, without_is, all-out, once-out}
use Rattle.run.specs.RemoveUses.{Unnamed}
use Rattle.run.specs.RemoveEnds.{Removed, Ends, steps-end}
use Rattle.run.specs.RemoveStored.{edit-terms, split-constraint, split-edit, unnamed, constraints-less, edits-beside, edits-less, constraints-beside}

-- what is known of a call that removes: `tested` is the refusal of its own test before the steps, and 25 that of both
pub record After (c : Call) (tested : ℕ) (m : Moment) : Type 0 where
  pub inv : Inv (next c m)
  pub number : ((make c m.state).answer.number ≡ 0) ⊎ (((make c m.state).answer.number ≡ tested) ⊎ (((make c m.state).answer.number ≡ 25) ⊎ ((make c m.state).answer.number ≡ 14)))

-- ---- the moment after: cs and es are what is stored then
module _ (m : Moment) (I : Inv m) (k : Key) (h : Held) (found : find_held k I.held ≡ some h) (cs : List Constraint) (es : List Edit)
    (split : (x : ℕ) → uses_of x m.state.changes.variables ≡ uses_in x (non_zero_terms h.demand.terms) + used_by x cs es) (unused : (x : ℕ) → used_by x cs es ≡ 0 → Unnamed x (without_held k I.held))
    (up : Up 0 (map var_number m.state.changes.variables))
    (con : (n : ℕ) → ConstraintAt (find_constraint n cs) (find_held (of_constraint n) (without_held k I.held))) (edi : (u : ℕ) → EditAt u (find_edit u es) (find_held (of_edit u) (without_held k I.held))) (budget : ℕ) where
  abbrev uses : ℕ → ℕ
  uses x = used_by x cs es

  after-inv : (x : Work) → Removed m I k h found uses split unused up budget x → x.mark ≡ all_whole → Inv (record { state = finish x cs es; live = without k m.live })
  unfolding finish begin says_whole
  after-inv x E mark =
      let U = E.left in
      let H = U.read.reads in
      record {
        kind = E.kind';
        table = E.table;
        sym = I.sym;
        name = I.name;
        held = without_held k I.held;
        good = U.read.good;
        rest = U.rest;
        models = U.read.models;
        whole = ap says_whole mark;
        reads = record {
          up = H.up;
          kinds = H.kinds;
          unknown = H.unknown;
          rows-up = H.rows-up;
          rows-live = H.rows-live;
          rows = H.rows;
          objective = H.objective;
          beyond = H.beyond;
          cutoff = H.cutoff;
          artificial = tt;
        };
        first = subst (λ (i : ℕ). 0 < i) (sym E.next_id) I.first;
        room = U.room;
        ids = U.ids;
        live = ap (without k) I.live ∙ without_is k I.held;
        once = once-out k I.held I.once;
        inputs = all-out WholeDemand k I.held I.inputs;
        shaped = all-out (λ (h : Held). Shaped (form_of h.demand.relation) h.tag) k I.held I.shaped;
        constraints = con;
        edits = edi;
        vars = U.vars;
        names = U.names;
        known = U.known;
      }

  -- ---- what the call answers
  module _ (c : Call) (tested : ℕ) (gone : accepted c m.live ≡ without k m.live)
      (is : make c m.state ≡ conclude m.state (remove_steps budget h.tag (strength_of h.demand.relation) (non_zero_terms h.demand.terms) (begin m.state)) (λ w. finish w cs es)) where
    ended : (t : Outcome Work) → make c m.state ≡ conclude m.state t (λ w. finish w cs es) → Ends m I k h found uses split unused up budget t → mark_of t ≡ all_whole → After c tested m
    unfolding conclude mark_of refused_by accepted_as
    ended (refused n p q) e z w = record {
      inv = unchanged c m n p (says_whole q) e (ap (λ (i : ℕ). eqb i 0) z.0) I;
      number = inr (inr (inr (ap (λ (r : Result). r.answer.number) e ∙ z.0)));
    }
    ended (going x) e z w = record {
      inv = changed c m x (finish x cs es) e (subst (λ (l : List Demand). Inv (record { state = finish x cs es; live = l })) (sym gone) (after-inv x z w));
      number = inl (ap (λ (r : Result). r.answer.number) e);
    }

    whole-steps : (t : Outcome Work) → make c m.state ≡ conclude m.state t (λ w. finish w cs es) → (make c m.state).answer.whole ≡ true → mark_of t ≡ all_whole
    unfolding conclude mark_of refused_by accepted_as
    whole-steps (refused n p q) e w = says-whole q (sym (ap (λ (r : Result). r.answer.whole) e) ∙ w)
    whole-steps (going x) e w = says-whole x.mark (sym (ap (λ (r : Result). r.answer.whole) e) ∙ w)

    answered : (make c m.state).answer.whole ≡ true → After c tested m
    answered w =
        let t : Outcome Work = remove_steps budget h.tag (strength_of h.demand.relation) (non_zero_terms h.demand.terms) (begin m.state) in
        let q : mark_of t ≡ all_whole = whole-steps t is w in
        ended t is (steps-end m I k h found uses split unused up budget q) q

-- the same steps, given by equal parts
steps-same : (budget : ℕ) (s : Work) {t u : Tag} {a b : Float} {ts us : List Term} → t ≡ u → a ≡ b → ts ≡ us → remove_steps budget t a ts s ≡ remove_steps budget u b us s
steps-same budget s {t} {u} {a} {b} {ts} {us} p q r = ap (λ (t : Tag). remove_steps budget t a ts s) p ∙ ap (λ (a : Float). remove_steps budget u a ts s) q ∙ ap (λ (l : List Term). remove_steps budget u b l s) r

-- ---- a constraint
remove-after : (m : Moment) (n b : ℕ) → Inv m → readable m.state ≡ true → (make (removes n b) m.state).answer.whole ≡ true → After (removes n b) 5 m
unfolding make remove remove_stored unless_full accepted
remove-after m n b I R = at (find_constraint n m.state.constraints) refl (find_held (of_constraint n) I.held) refl (I.constraints n)
  where
    r : Reads m.state
    r = reads_in m.state R

    at : (d : Option Constraint) → find_constraint n m.state.constraints ≡ d → (g : Option Held) → find_held (of_constraint n) I.held ≡ g → ConstraintAt d g → (make (removes n b) m.state).answer.whole ≡ true → After (removes n b) 5 m
    at none q none f a w = record { inv = unchanged (removes n b) m 5 0 m.state.whole e refl I; number = inr (inl (ap (λ (r : Result). r.answer.number) e ∙ unfold refused_by in refl)) }
      where
        e : make (removes n b) m.state ≡ refused_by 5 0 m.state.whole m.state
        e = rw (q, remove) refl
    at none q (some h) f a w = absurd a
    at (some d) q none f a w = absurd a
    at (some d) q (some h) f a w = full (gone_full d.terms m.state) refl
      where
        refused_full : gone_full d.terms m.state ≡ true → make (removes n b) m.state ≡ refused_by 25 0 m.state.whole m.state
        refused_full g = rw (q, g, remove, unless_full) refl

        con : (i : ℕ) → ConstraintAt (find_constraint i (drop_constraint n m.state.constraints)) (find_held (of_constraint i) (without_held (of_constraint n) I.held))
        con = constraints-less m.state.constraints m.state.edits I.held I.once I.constraints I.edits n r.constraints-up

        edi : (u : ℕ) → EditAt u (find_edit u m.state.edits) (find_held (of_edit u) (without_held (of_constraint n) I.held))
        edi = edits-beside m.state.constraints m.state.edits I.held I.once I.constraints I.edits n

        split : (x : ℕ) → uses_of x m.state.changes.variables ≡ uses_in x (non_zero_terms h.demand.terms) + used_by x (drop_constraint n m.state.constraints) m.state.edits
        split x =
            r.uses x ∙ split-constraint x n m.state.constraints m.state.edits d q
            ∙ ap (λ (ts : List Term). uses_in x ts + used_by x (drop_constraint n m.state.constraints) m.state.edits) a.terms

        is : gone_full d.terms m.state ≡ false → make (removes n b) m.state ≡ conclude m.state (remove_steps b h.tag (strength_of h.demand.relation) (non_zero_terms h.demand.terms) (begin m.state)) (λ w. finish w (drop_constraint n m.state.constraints) m.state.edits)
        is g = rw (q, g, remove, unless_full) (ap (λ (t : Outcome Work). conclude m.state t (λ w. finish w (drop_constraint n m.state.constraints) m.state.edits)) (steps-same b (begin m.state) a.tag a.strength a.terms))

        full : (t : Bool) → gone_full d.terms m.state ≡ t → After (removes n b) 5 m
        full true g = record { inv = unchanged (removes n b) m 25 0 m.state.whole (refused_full g) refl I; number = inr (inr (inl (ap (λ (r : Result). r.answer.number) (refused_full g) ∙ unfold refused_by in refl))) }
        full false g = answered m I (of_constraint n) h f (drop_constraint n m.state.constraints) m.state.edits split
            (unnamed (drop_constraint n m.state.constraints) m.state.edits (without_held (of_constraint n) I.held) (once-out (of_constraint n) I.held I.once) con edi) r.variables-up con edi b (removes n b) 5 refl (is g) w

-- ---- an edit
remove_edit-after : (m : Moment) (u b : ℕ) → Inv m → readable m.state ≡ true → (make (removes_edit u b) m.state).answer.whole ≡ true → After (removes_edit u b) 8 m
unfolding make remove_edit remove_edit_stored unless_full accepted
remove_edit-after m u b I R = at (find_edit u m.state.edits) refl (find_held (of_edit u) I.held) refl (I.edits u)
  where
    r : Reads m.state
    r = reads_in m.state R

    at : (d : Option Edit) → find_edit u m.state.edits ≡ d → (g : Option Held) → find_held (of_edit u) I.held ≡ g → EditAt u d g → (make (removes_edit u b) m.state).answer.whole ≡ true → After (removes_edit u b) 8 m
    at none q none f a w = record { inv = unchanged (removes_edit u b) m 8 0 m.state.whole e refl I; number = inr (inl (ap (λ (r : Result). r.answer.number) e ∙ unfold refused_by in refl)) }
      where
        e : make (removes_edit u b) m.state ≡ refused_by 8 0 m.state.whole m.state
        e = rw (q, remove_edit) refl
    at none q (some h) f a w = absurd a
    at (some d) q none f a w = absurd a
    at (some d) q (some h) f a w = full (gone_full (edit_terms u) m.state) refl
      where
        refused_full : gone_full (edit_terms u) m.state ≡ true → make (removes_edit u b) m.state ≡ refused_by 25 0 m.state.whole m.state
        refused_full g = rw (q, g, remove_edit, unless_full) refl

        con : (i : ℕ) → ConstraintAt (find_constraint i m.state.constraints) (find_held (of_constraint i) (without_held (of_edit u) I.held))
        con = constraints-beside m.state.constraints m.state.edits I.held I.once I.constraints I.edits u

        edi : (i : ℕ) → EditAt i (find_edit i (drop_edit u m.state.edits)) (find_held (of_edit i) (without_held (of_edit u) I.held))
        edi = edits-less m.state.constraints m.state.edits I.held I.once I.constraints I.edits u r.edits-up

        own-terms : edit_terms u ≡ non_zero_terms h.demand.terms
        own-terms = sym (ap non_zero_terms a.terms ∙ edit-terms u)

        split : (x : ℕ) → uses_of x m.state.changes.variables ≡ uses_in x (non_zero_terms h.demand.terms) + used_by x m.state.constraints (drop_edit u m.state.edits)
        split x =
            r.uses x ∙ split-edit x u m.state.constraints m.state.edits d q
            ∙ ap (λ (ts : List Term). uses_in x ts + used_by x m.state.constraints (drop_edit u m.state.edits)) own-terms

        own-strength : d.strength ≡ strength_of h.demand.relation
        own-strength = sym (ap strength_of a.relation ∙ unfold strength_of in refl)

        is : gone_full (edit_terms u) m.state ≡ false → make (removes_edit u b) m.state ≡ conclude m.state (remove_steps b h.tag (strength_of h.demand.relation) (non_zero_terms h.demand.terms) (begin m.state)) (λ w. finish w m.state.constraints (drop_edit u m.state.edits))
        is g = rw (q, g, remove_edit, unless_full) (ap (λ (t : Outcome Work). conclude m.state t (λ w. finish w m.state.constraints (drop_edit u m.state.edits))) (steps-same b (begin m.state) a.tag own-strength own-terms))

        full : (t : Bool) → gone_full (edit_terms u) m.state ≡ t → After (removes_edit u b) 8 m
        full true g = record { inv = unchanged (removes_edit u b) m 25 0 m.state.whole (refused_full g) refl I; number = inr (inr (inl (ap (λ (r : Result). r.answer.number) (refused_full g) ∙ unfold refused_by in refl))) }
        full false g = answered m I (of_edit u) h f m.state.constraints (drop_edit u m.state.edits) split
            (unnamed m.state.constraints (drop_edit u m.state.edits) (without_held (of_edit u) I.held) (once-out (of_edit u) I.held I.once) con edi) r.variables-up con edi b (removes_edit u b) 8 refl (is g) w

-- ---- A REMOVAL KEEPS THE INVARIANT
pub remove-inv : (m : Moment) (n b : ℕ) → Inv m → readable m.state ≡ true → (make (removes n b) m.state).answer.whole ≡ true → Inv (next (removes n b) m)
remove-inv m n b I R w = (remove-after m n b I R w).inv

pub remove_edit-inv : (m : Moment) (u b : ℕ) → Inv m → readable m.state ≡ true → (make (removes_edit u b) m.state).answer.whole ≡ true → Inv (next (removes_edit u b) m)
remove_edit-inv m u b I R w = (remove_edit-after m u b I R w).inv

-- ---- and answers nothing but these
pub remove-refusals : (m : Moment) (n b : ℕ) → Inv m → readable m.state ≡ true → (make (removes n b) m.state).answer.whole ≡ true
    → ((make (removes n b) m.state).answer.number ≡ 0) ⊎ (((make (removes n b) m.state).answer.number ≡ 5) ⊎ (((make (removes n b) m.state).answer.number ≡ 25) ⊎ ((make (removes n b) m.state).answer.number ≡ 14)))
remove-refusals m n b I R w = (remove-after m n b I R w).number

pub remove_edit-refusals : (m : Moment) (u b : ℕ) → Inv m → readable m.state ≡ true → (make (removes_edit u b) m.state).answer.whole ≡ true
    → ((make (removes_edit u b) m.state).answer.number ≡ 0) ⊎ (((make (removes_edit u b) m.state).answer.number ≡ 8) ⊎ (((make (removes_edit u b) m.state).answer.number ≡ 25) ⊎ ((make (removes_edit u b) m.state).answer.number ≡ 14)))
remove_edit-refusals m u b I R w = (remove_edit-after m u b I R w).number
