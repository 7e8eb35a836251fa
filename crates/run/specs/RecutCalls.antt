-- The calls with another cutoff: on states that hold no fraction, a call whose answer says yes answers the same and stores the same, but for the cutoff.
-- Assumes nothing.
use Rattle.std.specs.Prelude.{◌≡◌, Bool, true, false, ◌&&◌, ℕ, eqb, ltb, Float}
use Rattle.std.proofs.Math.Path.{refl, subst}
use Rattle.std.proofs.Common.{sym, ap, ap₂, ◌∙◌}
use mathlib.Core.List.{List, [], ◌∷◌}
use Rattle.std.proofs.Math.Option.{Option, none, some}
use Rattle.simplex.specs.Choose.{All}
use Rattle.laws.specs.exact.Unbroken.{Unbroken}
use Rattle.steps.specs.Number.{zero64, constant_bound, cutoff_fits, is_finite, is_whole, within, all_whole, whole_if, says_whole}
use Rattle.steps.specs.Strength.{clip}
use Rattle.steps.specs.State.{Term, Relation, equal, strength_of, comparison_of, Tag, Constraint, Edit, State}
use Rattle.steps.specs.Work.{Work, Outcome, refused, going, check_finite, marking}
use Rattle.steps.specs.Add.{whole_within, whole_terms, whole_inputs, Added, add_steps}
use Rattle.steps.specs.Remove.{remove_steps}
use Rattle.steps.specs.Edit.{edit_terms, add_edit_steps, shift_constants, suggest_steps}
use Rattle.steps.specs.Tests.{gone_full, Test, first_refusal, add_tests, add_edit_tests, kept_terms, variables_full, constraints_full, ids_used, has_constraint, has_edit, find_constraint, keep_constraint, drop_constraint, find_edit, keep_edit, drop_edit}
use Rattle.steps.specs.Calls.{Result, begin, finish, refused_by, accepted_as, conclude, conclude_add, add, unless_full, remove, add_edit, remove_edit_stored, remove_edit, suggest, remove_stored}
use Rattle.steps.proofs.After.{says-whole}
use Rattle.steps.proofs.AfterRemove.{shift-after}
use Rattle.simplex.specs.bridge.Nums.{whole-if}
use Rattle.simplex.specs.bridge.Runs.{mark_of}
use Rattle.simplex.proofs.bridge.Runs.{dual-mark}
use Rattle.run.specs.Words.{and_left, and_right}
use Rattle.run.specs.AddMarks.{marked, finite-mark, bound-mark, mark_added, whole-steps}
use Rattle.run.specs.RecutRows.{whole-unbroken, zero-unbroken, one-unbroken, near_same}
use Rattle.run.specs.Recut.{recut, Plain, Same}
use Rattle.run.specs.RecutAdd.{TermsU}
use Rattle.run.specs.RecutPlace.{recut_a, PlainAdded, add_steps-same}
use Rattle.run.specs.RecutRemove.{remove_steps-same, suggest_steps-same}

-- the state with another cutoff
abbrev pub recut_s : Float → State → State
recut_s z s = record {
  tableau = record { cutoff = z; symbols = s.tableau.symbols; next_id = s.tableau.next_id; rows = s.tableau.rows; objective = s.tableau.objective };
  changes = s.changes;
  constraints = s.constraints;
  edits = s.edits;
  whole = s.whole;
}

-- no fraction is stored, and the cutoff is one that reset takes
pub record Sound (s : State) : Type 0 where
  pub plain : Plain (begin s)
  pub strengths : All (λ (c : Constraint). Unbroken c.strength) s.constraints
  pub edits : All (λ (e : Edit). Unbroken e.strength × Unbroken e.suggestion) s.edits

-- a call's result, and the same with another cutoff
abbrev pub Twin : Float → Result → Result → Type 0
Twin z r q = (q ≡ record { answer = r.answer; state = recut_s z r.state }) × Sound r.state

-- ---- stored records

keep_c-u : (P : Constraint → Type 0) (c : Constraint) (cs : List Constraint) → P c → All P cs → All P (keep_constraint c cs)
unfolding keep_constraint
keep_c-u P c [] h a = (h, tt)
keep_c-u P c (x ∷ xs) h a = go (ltb c.number x.number) (keep_c-u P c xs h a.1)
  where
    go : (t : Bool) → All P (keep_constraint c xs) → All P (elim t as (λ _. List Constraint) [ true ↦ c ∷ x ∷ xs | false ↦ x ∷ keep_constraint c xs ])
    go true ih = (h, a)
    go false ih = (a.0, ih)

drop_c-u : (P : Constraint → Type 0) (n : ℕ) (cs : List Constraint) → All P cs → All P (drop_constraint n cs)
unfolding drop_constraint
drop_c-u P n [] a = tt
drop_c-u P n (x ∷ xs) a = go (eqb n x.number) (drop_c-u P n xs a.1)
  where
    go : (t : Bool) → All P (drop_constraint n xs) → All P (elim t as (λ _. List Constraint) [ true ↦ xs | false ↦ x ∷ drop_constraint n xs ])
    go true ih = a.1
    go false ih = (a.0, ih)

abbrev HoldsC : (Constraint → Type 0) → Option Constraint → Type 0
HoldsC P none = Unit
HoldsC P (some c) = P c

find_c-u : (P : Constraint → Type 0) (n : ℕ) (cs : List Constraint) → All P cs → HoldsC P (find_constraint n cs)
unfolding find_constraint
find_c-u P n [] a = tt
find_c-u P n (x ∷ xs) a = go (eqb n x.number) (find_c-u P n xs a.1)
  where
    go : (t : Bool) → HoldsC P (find_constraint n xs) → HoldsC P (elim t as (λ _. Option Constraint) [ true ↦ some x | false ↦ find_constraint n xs ])
    go true ih = a.0
    go false ih = ih

keep_e-u : (P : Edit → Type 0) (e : Edit) (es : List Edit) → P e → All P es → All P (keep_edit e es)
unfolding keep_edit
keep_e-u P e [] h a = (h, tt)
keep_e-u P e (x ∷ xs) h a = go (ltb e.variable x.variable) (keep_e-u P e xs h a.1)
  where
    go : (t : Bool) → All P (keep_edit e xs) → All P (elim t as (λ _. List Edit) [ true ↦ e ∷ x ∷ xs | false ↦ x ∷ keep_edit e xs ])
    go true ih = (h, a)
    go false ih = (a.0, ih)

drop_e-u : (P : Edit → Type 0) (n : ℕ) (es : List Edit) → All P es → All P (drop_edit n es)
unfolding drop_edit
drop_e-u P n [] a = tt
drop_e-u P n (x ∷ xs) a = go (eqb n x.variable) (drop_e-u P n xs a.1)
  where
    go : (t : Bool) → All P (drop_edit n xs) → All P (elim t as (λ _. List Edit) [ true ↦ xs | false ↦ x ∷ drop_edit n xs ])
    go true ih = a.1
    go false ih = (a.0, ih)

abbrev HoldsE : (Edit → Type 0) → Option Edit → Type 0
HoldsE P none = Unit
HoldsE P (some e) = P e

find_e-u : (P : Edit → Type 0) (n : ℕ) (es : List Edit) → All P es → HoldsE P (find_edit n es)
unfolding find_edit
find_e-u P n [] a = tt
find_e-u P n (x ∷ xs) a = go (eqb n x.variable) (find_e-u P n xs a.1)
  where
    go : (t : Bool) → HoldsE P (find_edit n xs) → HoldsE P (elim t as (λ _. Option Edit) [ true ↦ some x | false ↦ find_edit n xs ])
    go true ih = a.0
    go false ih = ih

-- ---- what a call begins and ends with

begin-plain : (s : State) → Sound s → Plain (begin s)
begin-plain s h = h.plain

finish-sound : (w : Work) (cs : List Constraint) (es : List Edit) → Plain w → All (λ (c : Constraint). Unbroken c.strength) cs → All (λ (e : Edit). Unbroken e.strength × Unbroken e.suggestion) es → Sound (finish w cs es)
unfolding finish begin
finish-sound w cs es p a b = record { plain = record { rows = p.rows; objective = p.objective; artificial = tt; fits = p.fits }; strengths = a; edits = b }

-- the inputs of an add that reach the steps of a whole run
record Inputs (k : Float) (r : Relation) : Type 0 where
  constant : Unbroken k
  strength : Unbroken (strength_of r)

inputs-of : (ts : List Term) (k : Float) (r : Relation) → whole_inputs ts k r ≡ true → Inputs k r
unfolding whole_inputs whole_within
inputs-of ts k r e =
    let a : whole_terms ts && whole_within constant_bound k ≡ true = and_left (whole_terms ts && whole_within constant_bound k) (is_whole (strength_of r)) e in
    record {
      constant = whole-unbroken k (and_left (is_whole k) (within constant_bound k) (and_right (whole_terms ts) (whole_within constant_bound k) a));
      strength = whole-unbroken (strength_of r) (and_right (whole_terms ts && whole_within constant_bound k) (is_whole (strength_of r)) e);
    }

-- a suggestion that reaches the steps of a whole run
suggested-whole : (budget : ℕ) (e : Edit) (new : Float) (w : Work) → mark_of (suggest_steps budget e new w) ≡ all_whole → Unbroken new
unfolding suggest_steps whole_within
suggested-whole budget e new w m =
    let w₁ : Work = marking (whole_if (whole_within constant_bound new)) w in
    let x : Work = shift_constants e.tag _ w₁ in
    let q : w₁.mark ≡ all_whole = (shift-after e.tag _ w₁).mark (finite-mark x (bound-mark (check_finite x) _ (dual-mark budget) m)) in
    whole-unbroken new (and_left (is_whole new) (within constant_bound new) (whole-if (whole_within constant_bound new) (marked (whole_if (whole_within constant_bound new)) w q).1))

-- ---- the terms that count

kept_same : (y z : Float) → cutoff_fits y ≡ true → cutoff_fits z ≡ true → (ts : List Term) → TermsU ts → kept_terms z ts ≡ kept_terms y ts
unfolding kept_terms
kept_same y z fy fz [] h = refl
kept_same y z fy fz (t ∷ ts) h =
    ap₂ (λ (b : Bool) (us : List Term). elim b as (λ _. List Term) [ true ↦ us | false ↦ t ∷ us ]) (near_same y z fy fz t.coefficient h.0) (kept_same y z fy fz ts h.1)

edit-terms : (n : ℕ) → TermsU (edit_terms n)
unfolding edit_terms
edit-terms n = (one-unbroken, tt)

module _ (z : Float) (fz : cutoff_fits z ≡ true) (s : State) (h : Sound s) where
  abbrev y : Float
  y = s.tableau.cutoff

  fy : cutoff_fits y ≡ true
  unfolding begin
  fy = h.plain.fits

  full-same : (ts : List Term) → TermsU ts → variables_full ts (recut_s z s) ≡ variables_full ts s
  unfolding variables_full
  full-same ts u = rw (kept_same y z fy fz ts u) refl

  add_tests-same : (g n : ℕ) (ts : List Term) (k : Float) (r : Relation) → TermsU ts → add_tests g n ts k r (recut_s z s) ≡ add_tests g n ts k r s
  unfolding add_tests has_constraint constraints_full ids_used
  add_tests-same g n ts k r u = rw (full-same ts u) refl

  edit_tests-same : (n : ℕ) (k : Float) → add_edit_tests n k (recut_s z s) ≡ add_edit_tests n k s
  unfolding add_edit_tests has_edit constraints_full ids_used
  edit_tests-same n k = rw (full-same (edit_terms n) (edit-terms n)) refl

  refused-twin : (n p : ℕ) (b : Bool) → Twin z (refused_by n p b s) (refused_by n p b (recut_s z s))
  unfolding refused_by
  refused-twin n p b = (refl, h)

  concluded : (o q : Outcome Work) → Same z o q → (f g : Work → State) → ((w : Work) → g (recut z w) ≡ recut_s z (f w)) → ((w : Work) → Plain w → Sound (f w)) → Twin z (conclude s o f) (conclude (recut_s z s) q g)
  unfolding conclude accepted_as refused_by
  concluded (refused n p m) q t f g e k = subst (λ (x : Outcome Work). Twin z (conclude s (refused n p m) f) (conclude (recut_s z s) x g)) (sym t.0) (refl, h)
  concluded (going w) q t f g e k = subst (λ (x : Outcome Work). Twin z (conclude s (going w) f) (conclude (recut_s z s) x g)) (sym t.0) (ap (λ (x : State). record { answer = record { number = 0; pivots = w.pivots; whole = says_whole w.mark }; state = x }) (e w), k w t.1)

  concluded_add : (o q : Outcome Added) → (q ≡ recut_a z o) × PlainAdded o → (f g : Added → State) → ((a : Added) → g (record { work = recut z a.work; tag = a.tag }) ≡ recut_s z (f a)) → ((a : Added) → Plain a.work → Sound (f a))
      → Twin z (conclude_add s o f) (conclude_add (recut_s z s) q g)
  unfolding conclude_add accepted_as refused_by
  concluded_add (refused n p m) q t f g e k = subst (λ (x : Outcome Added). Twin z (conclude_add s (refused n p m) f) (conclude_add (recut_s z s) x g)) (sym t.0) (refl, h)
  concluded_add (going a) q t f g e k = subst (λ (x : Outcome Added). Twin z (conclude_add s (going a) f) (conclude_add (recut_s z s) x g)) (sym t.0) (ap (λ (x : State). record { answer = record { number = 0; pivots = a.work.pivots; whole = says_whole a.work.mark }; state = x }) (e a), k a t.1)

  -- an answer that says yes is of steps whose mark is whole
  steps-mark : (o : Outcome Work) (f : Work → State) → (conclude s o f).answer.whole ≡ true → mark_of o ≡ all_whole
  unfolding conclude accepted_as refused_by mark_of
  steps-mark (refused n p m) f w = says-whole m w
  steps-mark (going v) f w = says-whole v.mark w

  add-mark : (o : Outcome Added) (f : Added → State) → (conclude_add s o f).answer.whole ≡ true → mark_added o ≡ all_whole
  unfolding conclude_add accepted_as refused_by mark_added
  add-mark (refused n p m) f w = says-whole m w
  add-mark (going a) f w = says-whole a.work.mark w

  -- ---- the calls

  begun : begin (recut_s z s) ≡ recut z (begin s)
  unfolding begin
  begun = refl

  added_by-same : (b : ℕ) (ts : List Term) (k : Float) (r : Relation) → TermsU ts → mark_added (add_steps b ts k r (begin s)) ≡ all_whole
      → ((add_steps b ts k r (begin (recut_s z s)) ≡ recut_a z (add_steps b ts k r (begin s))) × PlainAdded (add_steps b ts k r (begin s))) × Inputs k r
  added_by-same b ts k r u m =
      let I : Inputs k r = inputs-of ts k r (whole-steps b ts k r (begin s) m).inputs in
      let A = add_steps-same z fz b ts k r u I.constant I.strength (begin s) h.plain m in
      ((ap (add_steps b ts k r) begun ∙ A.0, A.1), I)

  removed : (b : ℕ) (tag : Tag) (k : Float) → Unbroken k → (ts : List Term) → mark_of (remove_steps b tag k ts (begin s)) ≡ all_whole → Same z (remove_steps b tag k ts (begin s)) (remove_steps b tag k ts (begin (recut_s z s)))
  removed b tag k u ts m = subst (λ (x : Work). Same z (remove_steps b tag k ts (begin s)) (remove_steps b tag k ts x)) (sym begun) (remove_steps-same z fz b tag k u ts (begin s) h.plain m)

  finished : (w : Work) (cs : List Constraint) (es : List Edit) → finish (recut z w) cs es ≡ recut_s z (finish w cs es)
  unfolding finish
  finished w cs es = refl

  pub add-twin : (g n : ℕ) (ts : List Term) (k : Float) (r : Relation) (b : ℕ) → TermsU ts → (add g n ts k r b s).answer.whole ≡ true → Twin z (add g n ts k r b s) (add g n ts k r b (recut_s z s))
  unfolding add
  add-twin g n ts k r b u w =
      subst (λ (t : List Test). Twin z (at (first_refusal (add_tests g n ts k r s)) s) (at (first_refusal t) (recut_s z s))) (sym (add_tests-same g n ts k r u)) (go (first_refusal (add_tests g n ts k r s)) w)
    where
      stores : State → Added → State
      stores s a = finish a.work (keep_constraint (record { number = n; group = g; comparison = comparison_of r; strength = strength_of r; constant = k; terms = kept_terms s.tableau.cutoff ts; tag = a.tag }) s.constraints) s.edits

      at : Option ℕ → State → Result
      at o s = elim o as (λ _. Result) [ some x ↦ refused_by x 0 s.whole s | none ↦ conclude_add s (add_steps b ts k r (begin s)) (stores s) ]

      stored : (a : Added) → stores (recut_s z s) (record { work = recut z a.work; tag = a.tag }) ≡ recut_s z (stores s a)
      stored a = ap (λ (us : List Term). finish (recut z a.work) (keep_constraint (record { number = n; group = g; comparison = comparison_of r; strength = strength_of r; constant = k; terms = us; tag = a.tag }) s.constraints) s.edits) (kept_same y z fy fz ts u) ∙ finished a.work _ s.edits

      go : (o : Option ℕ) → (at o s).answer.whole ≡ true → Twin z (at o s) (at o (recut_s z s))
      go (some x) w = refused-twin x 0 s.whole
      go none w =
          let A = added_by-same b ts k r u (add-mark (add_steps b ts k r (begin s)) (stores s) w) in
          concluded_add (add_steps b ts k r (begin s)) (add_steps b ts k r (begin (recut_s z s))) A.0 (stores s) (stores (recut_s z s)) stored
          (λ a p. finish-sound a.work _ s.edits p (keep_c-u (λ (c : Constraint). Unbroken c.strength) _ s.constraints A.1.strength h.strengths) h.edits)

  pub stored-twin : (n : ℕ) (c : Constraint) → Unbroken c.strength → (b : ℕ) → (remove_stored n c b s).answer.whole ≡ true → Twin z (remove_stored n c b s) (remove_stored n c b (recut_s z s))
  unfolding remove_stored
  stored-twin n c u b w =
      concluded (remove_steps b c.tag c.strength c.terms (begin s)) (remove_steps b c.tag c.strength c.terms (begin (recut_s z s)))
      (removed b c.tag c.strength u c.terms (steps-mark (remove_steps b c.tag c.strength c.terms (begin s)) stores w)) stores (λ v. finish v (drop_constraint n s.constraints) s.edits) (λ v. finished v _ _)
      (λ v p. finish-sound v (drop_constraint n s.constraints) s.edits p (drop_c-u (λ (c : Constraint). Unbroken c.strength) n s.constraints h.strengths) h.edits)
    where
      stores : Work → State
      stores w = finish w (drop_constraint n s.constraints) s.edits

  pub remove-twin : (n b : ℕ) → (remove n b s).answer.whole ≡ true → Twin z (remove n b s) (remove n b (recut_s z s))
  unfolding remove unless_full gone_full
  remove-twin n b = go (find_constraint n s.constraints) (find_c-u (λ (c : Constraint). Unbroken c.strength) n s.constraints h.strengths)
    where
      at : Option Constraint → State → Result
      at o s = elim o as (λ _. Result) [ none ↦ refused_by 5 0 s.whole s | some c ↦ unless_full c.terms s (remove_stored n c b s) ]

      go : (o : Option Constraint) → HoldsC (λ (c : Constraint). Unbroken c.strength) o → (at o s).answer.whole ≡ true → Twin z (at o s) (at o (recut_s z s))
      go none u w = refused-twin 5 0 s.whole
      go (some c) u w = full (gone_full c.terms s) w
        where
          full : (f : Bool) → (elim f as (λ _. Result) [ true ↦ refused_by 25 0 s.whole s | false ↦ remove_stored n c b s ]).answer.whole ≡ true
              → Twin z (elim f as (λ _. Result) [ true ↦ refused_by 25 0 s.whole s | false ↦ remove_stored n c b s ]) (elim f as (λ _. Result) [ true ↦ refused_by 25 0 s.whole (recut_s z s) | false ↦ remove_stored n c b (recut_s z s) ])
          full true w = refused-twin 25 0 s.whole
          full false w = stored-twin n c u b w

  pub add_edit-twin : (n : ℕ) (k : Float) (b : ℕ) → (add_edit n k b s).answer.whole ≡ true → Twin z (add_edit n k b s) (add_edit n k b (recut_s z s))
  unfolding add_edit add_edit_steps strength_of
  add_edit-twin n k b w =
      subst (λ (t : List Test). Twin z (at (first_refusal (add_edit_tests n (clip k) s)) s) (at (first_refusal t) (recut_s z s))) (sym (edit_tests-same n (clip k))) (go (first_refusal (add_edit_tests n (clip k) s)) w)
    where
      stores : State → Added → State
      stores s a = finish a.work s.constraints (keep_edit (record { variable = n; strength = clip k; tag = a.tag; suggestion = zero64 }) s.edits)

      at : Option ℕ → State → Result
      at o s = elim o as (λ _. Result) [ some x ↦ refused_by x 0 s.whole s | none ↦ conclude_add s (add_steps b (edit_terms n) zero64 (equal (clip k)) (begin s)) (stores s) ]

      go : (o : Option ℕ) → (at o s).answer.whole ≡ true → Twin z (at o s) (at o (recut_s z s))
      go (some x) w = refused-twin x 0 s.whole
      go none w =
          let A = added_by-same b (edit_terms n) zero64 (equal (clip k)) (edit-terms n) (add-mark (add_steps b (edit_terms n) zero64 (equal (clip k)) (begin s)) (stores s) w) in
          concluded_add (add_steps b (edit_terms n) zero64 (equal (clip k)) (begin s)) (add_steps b (edit_terms n) zero64 (equal (clip k)) (begin (recut_s z s))) A.0 (stores s) (stores (recut_s z s)) (λ a. finished a.work _ _)
          (λ a p. finish-sound a.work s.constraints _ p h.strengths (keep_e-u (λ (e : Edit). Unbroken e.strength × Unbroken e.suggestion) _ s.edits (A.1.strength, zero-unbroken) h.edits))

  pub remove_edit-twin : (n b : ℕ) → (remove_edit n b s).answer.whole ≡ true → Twin z (remove_edit n b s) (remove_edit n b (recut_s z s))
  unfolding remove_edit remove_edit_stored unless_full gone_full
  remove_edit-twin n b = go (find_edit n s.edits) (find_e-u (λ (e : Edit). Unbroken e.strength × Unbroken e.suggestion) n s.edits h.edits)
    where
      stores : State → Work → State
      stores s w = finish w s.constraints (drop_edit n s.edits)

      at : Option Edit → State → Result
      at o s = elim o as (λ _. Result) [ none ↦ refused_by 8 0 s.whole s | some e ↦ unless_full (edit_terms n) s (remove_edit_stored n e b s) ]

      go : (o : Option Edit) → HoldsE (λ (e : Edit). Unbroken e.strength × Unbroken e.suggestion) o → (at o s).answer.whole ≡ true → Twin z (at o s) (at o (recut_s z s))
      go none u w = refused-twin 8 0 s.whole
      go (some e) u w = full (gone_full (edit_terms n) s) w
        where
          made : Unbroken e.strength → (remove_edit_stored n e b s).answer.whole ≡ true → Twin z (remove_edit_stored n e b s) (remove_edit_stored n e b (recut_s z s))
          made u w =
              concluded (remove_steps b e.tag e.strength (edit_terms n) (begin s)) (remove_steps b e.tag e.strength (edit_terms n) (begin (recut_s z s)))
              (removed b e.tag e.strength u (edit_terms n) (steps-mark (remove_steps b e.tag e.strength (edit_terms n) (begin s)) (stores s) w)) (stores s) (stores (recut_s z s)) (λ v. finished v _ _)
              (λ v p. finish-sound v s.constraints (drop_edit n s.edits) p h.strengths (drop_e-u (λ (e : Edit). Unbroken e.strength × Unbroken e.suggestion) n s.edits h.edits))

          full : (f : Bool) → (elim f as (λ _. Result) [ true ↦ refused_by 25 0 s.whole s | false ↦ remove_edit_stored n e b s ]).answer.whole ≡ true
              → Twin z (elim f as (λ _. Result) [ true ↦ refused_by 25 0 s.whole s | false ↦ remove_edit_stored n e b s ]) (elim f as (λ _. Result) [ true ↦ refused_by 25 0 s.whole (recut_s z s) | false ↦ remove_edit_stored n e b (recut_s z s) ])
          full true w = refused-twin 25 0 s.whole
          full false w = made u.0 w

  pub suggest-twin : (n : ℕ) (x : Float) (b : ℕ) → (suggest n x b s).answer.whole ≡ true → Twin z (suggest n x b s) (suggest n x b (recut_s z s))
  unfolding suggest
  suggest-twin n x b = by_number (is_finite x)
    where
      stores : Edit → State → Work → State
      stores e s w = finish w s.constraints (keep_edit (record { variable = n; strength = e.strength; tag = e.tag; suggestion = x }) (drop_edit n s.edits))

      at-edit : Option Edit → State → Result
      at-edit o s = elim o as (λ _. Result) [ none ↦ refused_by 8 0 s.whole s | some e ↦ conclude s (suggest_steps b e x (begin s)) (stores e s) ]

      at : Bool → State → Result
      at f s = elim f as (λ _. Result) [ false ↦ refused_by 1 0 s.whole s | true ↦ at-edit (find_edit n s.edits) s ]

      by-edit : (o : Option Edit) → HoldsE (λ (e : Edit). Unbroken e.strength × Unbroken e.suggestion) o → (at-edit o s).answer.whole ≡ true → Twin z (at-edit o s) (at-edit o (recut_s z s))
      by-edit none u w = refused-twin 8 0 s.whole
      by-edit (some e) u w =
          let m : mark_of (suggest_steps b e x (begin s)) ≡ all_whole = steps-mark (suggest_steps b e x (begin s)) (stores e s) w in
          let hx : Unbroken x = suggested-whole b e x (begin s) m in
          concluded (suggest_steps b e x (begin s)) (suggest_steps b e x (begin (recut_s z s)))
          (subst (λ (v : Work). Same z (suggest_steps b e x (begin s)) (suggest_steps b e x v)) (sym begun) (suggest_steps-same z fz b e x hx u.1 (begin s) h.plain m)) (stores e s) (stores e (recut_s z s)) (λ v. finished v _ _)
          (λ v p. finish-sound v s.constraints _ p h.strengths (keep_e-u (λ (e : Edit). Unbroken e.strength × Unbroken e.suggestion) _ (drop_edit n s.edits) (u.0, hx) (drop_e-u (λ (e : Edit). Unbroken e.strength × Unbroken e.suggestion) n s.edits h.edits)))

      by_number : (f : Bool) → (at f s).answer.whole ≡ true → Twin z (at f s) (at f (recut_s z s))
      by_number false w = refused-twin 1 0 s.whole
      by_number true w = by-edit (find_edit n s.edits) (find_e-u (λ (e : Edit). Unbroken e.strength × Unbroken e.suggestion) n s.edits h.edits) w
