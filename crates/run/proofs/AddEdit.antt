-- An add edit keeps the invariant of a whole run, whatever it answers; where it is refused 12, no assignment meets the required demands. Assumes nothing.
use Rattle.std.specs.Prelude.{ℕ, ◌≤◌, ◌≡◌, ◌≢◌, Bool, true, false, ◌&&◌, cond, List, ◌∷◌, T, length, Float}
use Rattle.std.proofs.Common.{arith, sym, ap₂, ◌∙◌, true≢false, eqb→eq}
use Rattle.std.proofs.Math.Path.{refl, ap, subst}
use Rattle.std.proofs.Math.Option.{Option, none, some}
use Rattle.std.proofs.Math.Dec.{eqb, eqb_refl}
use Rattle.std.specs.Int.Signed.{lt_z, lt_z_yes}
use Rattle.std.specs.Float.Ieee.{neg, lt, le, eq}
use Rattle.laws.specs.exact.Whole.{IsZ, val, isz-val, neg-z}
use Rattle.laws.specs.exact.Compare.{le-z}
use Rattle.simplex.specs.Ord.{0ℤ, ≺→≼}
use Rattle.simplex.specs.Choose.{All}
use Rattle.simplex.specs.Look.{both}
use Rattle.steps.specs.Number.{zero64, constant_bound, below_zero, is_whole, within}
use Rattle.steps.specs.Strength.{required, clip}
use Rattle.steps.specs.State.{Term, Relation, equal, strength_of, Edit, State}
use Rattle.steps.specs.Add.{whole_within, whole_terms, whole_inputs, Added, add_steps}
use Rattle.steps.specs.Edit.{edit_terms, add_edit_steps}
use Rattle.steps.specs.Tests.{find_constraint, find_edit, keep_edit, has_edit, Test, first_refusal, add_edit_tests}
use Rattle.steps.specs.Calls.{Result, begin, finish, refused_by, conclude_add, add_edit}
use Rattle.keeps.specs.Keys.{find_by, keep_by, find_edit-is, keep_edit-is}
use Rattle.keeps.specs.Addition.{clip-below}
use Rattle.simplex.specs.bridge.Nums.{zero64-z, constant_bound-z, below_zero-z, magnitude-z}
use Rattle.run.specs.Demand.{of_constraint, of_edit, same_key, Demand, aim, adds_edit, make, accepted, Moment, next, None}
use Rattle.run.specs.Inv.{Held, find_held, ConstraintAt, EditAt, Inv}
use Rattle.run.specs.Words.{whole-z}
use Rattle.keeps.specs.Lookup.{find-keep-same, find-keep-other}
use Rattle.run.specs.Perm.{found-hit, found-miss}
use Rattle.run.specs.Suggest.{unchanged}
use Rattle.run.specs.Inputs.{z-whole, required-z}
use Rattle.run.specs.AddEnds.{ArtificialEnds}
use Rattle.run.specs.AddMarks.{created_of, whole-steps}
use Rattle.run.proofs.AddInv.{W, none-meet, after-add}
use Rattle.run.proofs.Add.{passed, refused-by, ids-left, added-whole, steps-whole, kept-inv, unmet-12, step-number}

-- ---- a clipped strength
zero-up : below_zero zero64 ≡ false
zero-up = below_zero-z zero64-z

required-up : below_zero required ≡ false
required-up = below_zero-z required-z

kept-up : (s : Float) → IsZ s (val s) → le s zero64 ≡ false → below_zero s ≡ false
kept-up s h e = go (lt_z (val s) 0ℤ) refl
  where
    go : (b : Bool) → lt_z (val s) 0ℤ ≡ b → below_zero s ≡ false
    go true q = absurd (subst T (sym (le-z h zero64-z) ∙ e) (≺→≼ {a = val s} {b = 0ℤ} (lt_z_yes (subst T (sym q) tt))).le)
    go false q = below_zero-z h ∙ q

pub clip-up : (s : Float) → is_whole (clip s) ≡ true → below_zero (clip s) ≡ false
unfolding clip
clip-up s = go (le s zero64) refl (lt s required)
  where
    go : (a : Bool) → le s zero64 ≡ a → (b : Bool) → is_whole (cond a zero64 (cond b s required)) ≡ true → below_zero (cond a zero64 (cond b s required)) ≡ false
    go true e b w = zero-up
    go false e true w = kept-up s (whole-z s w) e
    go false e false w = required-up

-- ---- the constant of a new edit: -0.0 is as good as 0.0
pub same-zero : val (neg zero64) ≡ val zero64
same-zero = isz-val (neg-z zero64-z) ∙ sym (isz-val zero64-z)

zero-within : whole_within constant_bound (neg zero64) ≡ true
unfolding whole_within within
zero-within = ap₂ (λ (a b : Bool). a && b) (z-whole (neg-z zero64-z)) (le-z (magnitude-z (neg-z zero64-z)) constant_bound-z)

edit-inputs : (ts : List Term) (r : Relation) → whole_inputs ts zero64 r ≡ true → whole_inputs ts (neg zero64) r ≡ true
unfolding whole_inputs
edit-inputs ts r e =
    let h = both (whole_terms ts && whole_within constant_bound zero64) (is_whole (strength_of r)) e in
    let g = both (whole_terms ts) (whole_within constant_bound zero64) h.0 in
    ap₂ (λ (a b : Bool). a && b) (ap₂ (λ (a b : Bool). a && b) g.0 zero-within) h.1

pub whole-strength : (ts : List Term) (k s : Float) → whole_inputs ts k (equal s) ≡ true → is_whole s ≡ true
unfolding whole_inputs strength_of
whole-strength ts k s e = (both (whole_terms ts && whole_within constant_bound k) (is_whole s) e).1

-- ---- tests
record Passes (n : ℕ) (strength : Float) (s : State) : Type 0 where
  new : find_edit n s.edits ≡ none
  soft : eq strength required ≡ false
  low : s.tableau.next_id ≤ 4_294_900_000

no-edit : (n : ℕ) (s : State) → has_edit n s ≡ false → find_edit n s.edits ≡ none
unfolding has_edit
no-edit n s e = go (find_edit n s.edits) refl e
  where
    go : (o : Option Edit) → find_edit n s.edits ≡ o → elim o as (λ _. Bool) [ none ↦ false | some c ↦ true ] ≡ false → find_edit n s.edits ≡ none
    go none q e = q
    go (some c) q e = absurd (true≢false e)

passes : (n : ℕ) (strength : Float) (s : State) → first_refusal (add_edit_tests n strength s) ≡ none → Passes n strength s
unfolding add_edit_tests
passes n strength s e =
    let t₁ = passed _ _ e in
    let t₂ = passed _ _ t₁.1 in
    let t₃ = passed _ _ t₂.1 in
    let t₄ = passed _ _ t₃.1 in
    let t₅ = passed _ _ t₄.1 in
    record { new = no-edit n s t₁.0; soft = t₂.0; low = ids-left s t₅.0 }

numbers : (Q : ℕ → Type 0) → Q 6 → Q 7 → Q 10 → Q 9 → Q 11 → (n : ℕ) (strength : Float) (s : State) → All (λ (t : Test). Q t.number) (add_edit_tests n strength s)
unfolding add_edit_tests
numbers Q a b c d e n strength s = (a, (b, (c, (d, (e, tt)))))

pub one-term : (n : ℕ) → length (edit_terms n) ≤ 16
unfolding edit_terms
one-term n = omega arith

-- ---- AN ADD EDIT
module _ (art : ArtificialEnds) (m : Moment) (u : ℕ) (k : Float) (b : ℕ) (I : Inv m) (whole : (make (adds_edit u k b) m.state).answer.whole ≡ true) where
  abbrev s : Float
  s = clip k

  abbrev d : Demand
  d = record { key = of_edit u; group = 0; terms = edit_terms u; constant = zero64; relation = equal s }

  abbrev stored : Added → Edit
  stored a = record { variable = u; strength = s; tag = a.tag; suggestion = zero64 }

  abbrev after : Added → State
  after a = finish a.work m.state.constraints (keep_edit (stored a) m.state.edits)

  abbrev held : Added → Held
  held a = record { demand = record { key = of_edit u; group = 0; terms = edit_terms u; constant = neg zero64; relation = equal s }; tag = a.tag }

  not-held : find_edit u m.state.edits ≡ none → find_held (of_edit u) I.held ≡ none
  not-held e = go (find_held (of_edit u) I.held) refl (subst (λ (t : Option Edit). EditAt u t (find_held (of_edit u) I.held)) e (I.edits u))
    where
      go : (t : Option Held) → find_held (of_edit u) I.held ≡ t → EditAt u none t → find_held (of_edit u) I.held ≡ none
      go none q a = q
      go (some h) q a = absurd a

  constraints-after : (a : Added) (j : ℕ) → ConstraintAt (find_constraint j m.state.constraints) (find_held (of_constraint j) (held a ∷ I.held))
  unfolding same_key
  constraints-after a j = subst (ConstraintAt (find_constraint j m.state.constraints)) (sym (found-miss (of_constraint j) (held a) I.held refl)) (I.constraints j)

  edits-after : find_edit u m.state.edits ≡ none → lt s required ≡ true → (a : Added) (j : ℕ) → EditAt j (find_edit j (keep_edit (stored a) m.state.edits)) (find_held (of_edit j) (held a ∷ I.held))
  unfolding same_key
  edits-after new soft a j = go (eqb j u) refl
    where
      kept : find_edit j (keep_edit (stored a) m.state.edits) ≡ find_by (λ (c : Edit). c.variable) j (keep_by (λ (c : Edit). c.variable) (stored a) m.state.edits)
      kept = ap (find_edit j) (keep_edit-is (stored a) m.state.edits) ∙ find_edit-is j (keep_by (λ (c : Edit). c.variable) (stored a) m.state.edits)

      go : (t : Bool) → eqb j u ≡ t → EditAt j (find_edit j (keep_edit (stored a) m.state.edits)) (find_held (of_edit j) (held a ∷ I.held))
      go true e =
          let q : j ≡ u = eqb→eq j u (subst T (sym e) tt) in
          subst (λ (t : Option Edit). EditAt j t (find_held (of_edit j) (held a ∷ I.held)))
          (sym (kept ∙ find-keep-same (λ (c : Edit). c.variable) j (stored a) m.state.edits q (sym (find_edit-is j m.state.edits) ∙ ap (λ (i : ℕ). find_edit i m.state.edits) q ∙ new)))
          (subst (EditAt j (some (stored a))) (sym (found-hit (of_edit j) (held a) I.held e)) (record { group = refl; relation = refl; terms = ap edit_terms (sym q); constant = refl; soft = soft; tag = refl }))
      go false e =
          let q : j ≢ u = λ p. subst T e (subst (λ (y : ℕ). T (eqb j y)) p (eqb_refl j)) in
          subst (λ (t : Option Edit). EditAt j t (find_held (of_edit j) (held a ∷ I.held)))
          (sym (kept ∙ find-keep-other (λ (c : Edit). c.variable) j (stored a) m.state.edits q ∙ sym (find_edit-is j m.state.edits)))
          (subst (EditAt j (find_edit j m.state.edits)) (sym (found-miss (of_edit j) (held a) I.held e)) (I.edits j))

  is-add : first_refusal (add_edit_tests u s m.state) ≡ none → make (adds_edit u k b) m.state ≡ conclude_add m.state (add_steps b (edit_terms u) zero64 (equal s) (begin m.state)) after
  unfolding make add_edit add_edit_steps
  is-add e = rw (e, add_edit) refl

  is-refused : (j : ℕ) → first_refusal (add_edit_tests u s m.state) ≡ some j → make (adds_edit u k b) m.state ≡ refused_by j 0 m.state.whole m.state
  unfolding make add_edit
  is-refused j e = rw (e, add_edit) refl

  -- the clipped strength is whole, and so not below 0
  strong : first_refusal (add_edit_tests u s m.state) ≡ none → below_zero (strength_of (equal s)) ≡ false
  unfolding strength_of
  strong e =
      clip-up k (whole-strength (edit_terms u) zero64 s (whole-steps b (edit_terms u) zero64 (equal s) (begin m.state)
      (added-whole m.state (add_steps b (edit_terms u) zero64 (equal s) (begin m.state)) after (sym (ap (λ (r : Result). r.answer.whole) (is-add e)) ∙ whole))).inputs)

  -- AN ADD EDIT KEEPS THE INVARIANT
  pub add_edit-inv : Inv (next (adds_edit u k b) m)
  unfolding accepted aim
  add_edit-inv = go (first_refusal (add_edit_tests u s m.state)) refl
    where
      go : (t : Option ℕ) → first_refusal (add_edit_tests u s m.state) ≡ t → Inv (next (adds_edit u k b) m)
      go (some j) e =
          unchanged (adds_edit u k b) m j 0 m.state.whole (is-refused j e) (refused-by (λ i. eqb i 0 ≡ false) (add_edit_tests u s m.state) (numbers (λ i. eqb i 0 ≡ false) refl refl refl refl refl u s m.state) j e) I
      go none e =
          let P = passes u s m.state e in
          let S = steps-whole art m I d b (strong e) (one-term u) P.low (adds_edit u k b) after (is-add e) whole in
          kept-inv art m I d b (strong e) (one-term u) P.low (adds_edit u k b) after (is-add e) whole
          (λ x F mark. after-add art m I d b (strong e) (one-term u) P.low S (neg zero64) same-zero (edit-inputs (edit_terms u) (equal s) (W art m I d b (strong e) (one-term u) P.low S).inputs) x F mark (not-held P.new)
          m.state.constraints (keep_edit (stored (record { work = x; tag = (created_of (edit_terms u) zero64 (equal s) (begin m.state)).tag })) m.state.edits)
          (constraints-after (record { work = x; tag = (created_of (edit_terms u) zero64 (equal s) (begin m.state)).tag }))
          (edits-after P.new (clip-below k P.soft) (record { work = x; tag = (created_of (edit_terms u) zero64 (equal s) (begin m.state)).tag })))

  -- A REFUSAL 12 IS RIGHT
  pub add_edit-12 : (make (adds_edit u k b) m.state).answer.number ≡ 12 → None (aim u s zero64 ∷ m.live)
  unfolding refused_by aim
  add_edit-12 h = go (first_refusal (add_edit_tests u s m.state)) refl
    where
      go : (t : Option ℕ) → first_refusal (add_edit_tests u s m.state) ≡ t → None (aim u s zero64 ∷ m.live)
      go (some j) e =
          absurd (refused-by (λ i. i ≢ 12) (add_edit_tests u s m.state) (numbers (λ i. i ≢ 12) (λ p. omega arith) (λ p. omega arith) (λ p. omega arith) (λ p. omega arith) (λ p. omega arith) u s m.state) j e
          (sym (ap (λ (x : Result). x.answer.number) (is-refused j e)) ∙ h))
      go none e =
          let P = passes u s m.state e in
          let S = steps-whole art m I d b (strong e) (one-term u) P.low (adds_edit u k b) after (is-add e) whole in
          none-meet art m I d b (strong e) (one-term u) P.low S (neg zero64) same-zero (edit-inputs (edit_terms u) (equal s) (W art m I d b (strong e) (one-term u) P.low S).inputs)
          (unmet-12 art m I d b (strong e) (one-term u) P.low (adds_edit u k b) after (is-add e) whole h)

  -- 15 IS NEVER GIVEN
  pub add_edit-15 : (make (adds_edit u k b) m.state).answer.number ≢ 15
  unfolding refused_by
  add_edit-15 = go (first_refusal (add_edit_tests u s m.state)) refl
    where
      go : (t : Option ℕ) → first_refusal (add_edit_tests u s m.state) ≡ t → (make (adds_edit u k b) m.state).answer.number ≢ 15
      go (some j) e = λ h.
          refused-by (λ i. i ≢ 15) (add_edit_tests u s m.state) (numbers (λ i. i ≢ 15) (λ p. omega arith) (λ p. omega arith) (λ p. omega arith) (λ p. omega arith) (λ p. omega arith) u s m.state) j e
          (sym (ap (λ (x : Result). x.answer.number) (is-refused j e)) ∙ h)
      go none e =
          let P = passes u s m.state e in
          step-number art m I d b (strong e) (one-term u) P.low (adds_edit u k b) after (is-add e) whole (λ i. i ≢ 15) (λ p. omega arith) (λ p. omega arith) (λ p. omega arith)
