-- An add keeps the invariant of a whole run, whatever it answers; where it is refused 12, no assignment meets the required demands with the new one. Assumes nothing.
use Rattle.std.specs.Prelude.{ℕ, ◌≤◌, ◌≡◌, ◌⊎◌, ◌≢◌, Bool, true, not, ◌&&◌, List, [], ◌∷◌, map, T, ltb, length, Float}
use Rattle.std.proofs.Common.{arith, sym, ◌∙◌, inl, inr, true≢false, lit<, eqb→eq, nltb→le}
use Rattle.std.proofs.Math.Path.{refl, ap, subst}
use Rattle.std.proofs.Math.Bool.{false}
use Rattle.std.proofs.Math.Option.{Option, none, some}
use Rattle.std.proofs.Math.Dec.{eqb, eqb_refl}
use Rattle.simplex.specs.Choose.{All}
use Rattle.steps.specs.Number.{whole_if, below_zero, all_whole, says_whole, is_whole, constant_bound}
use Rattle.steps.specs.State.{Term, Relation, strength_of, comparison_of, Constraint, State}
use Rattle.steps.specs.CreateRow.{Created}
use Rattle.steps.specs.Work.{marking, Work, Outcome, refused, going, ◌>>=◌}
use Rattle.simplex.specs.bridge.Runs.{mark_of}
use Rattle.run.specs.Words.{kept_whole, and_left}
use Rattle.run.specs.Build.{new_held}
use Rattle.steps.specs.Add.{whole_inputs, Added, add_steps, whole_terms, whole_within}
use Rattle.steps.specs.Tests.{find_constraint, keep_constraint, find_edit, has_constraint, Test, first_refusal, ids_used, add_tests, kept_terms}
use Rattle.steps.specs.Calls.{Result, begin, finish, refused_by, accepted_as, conclude_add, add}
use Rattle.steps.proofs.After.{says-whole}
use Rattle.keeps.specs.Keys.{find_constraint-is, keep_constraint-is}
use Rattle.run.specs.Demand.{of_constraint, of_edit, same_key, Demand, Call, adds, make, accepted, Moment, next, None}
use Rattle.run.specs.Inv.{non_zero_terms, columns, con_of, Held, find_held, ConstraintAt, EditAt, Inv}
use Rattle.keeps.specs.Lookup.{find-keep-same, find-keep-other}
use Rattle.run.specs.Perm.{found-hit, found-miss}
use Rattle.run.specs.Suggest.{unchanged, changed}
use Rattle.run.specs.AddEnds.{Unmet, ArtificialEnds}
use Rattle.run.specs.AddMarks.{mark_added, created_of, placed_and_rested, added_by}
use Rattle.run.specs.AddSteps.{Finished, Final}
use Rattle.run.proofs.AddInv.{W, B, room, ends, none-meet, after-add}
use Rattle.run.specs.Add.{Passes}

-- ---- tests
pub passed : (t : Test) (ts : List Test) → first_refusal (t ∷ ts) ≡ none → (t.fails ≡ false) × (first_refusal ts ≡ none)
unfolding first_refusal
passed t ts = go t.fails
  where
    is_none : Option ℕ → Type 0
    is_none none = Unit
    is_none (some k) = ⊥

    go : (b : Bool) → ◌≡◌ {A = Option ℕ} (elim b [ true ↦ some t.number | false ↦ first_refusal ts ]) none → (b ≡ false) × (first_refusal ts ≡ none)
    go true e = absurd (subst is_none (sym e) tt)
    go false e = (refl, e)

-- a refusal by a test has the number of one
pub refused-by : (Q : ℕ → Type 0) (ts : List Test) → All (λ (t : Test). Q t.number) ts → (k : ℕ) → first_refusal ts ≡ some k → Q k
unfolding first_refusal
refused-by Q [] a k e = absurd (Rattle.simplex.specs.bridge.Finds.none≢some e)
refused-by Q (t ∷ ts) a k e = go t.fails e (refused-by Q ts a.1 k)
  where
    go : (b : Bool) → ◌≡◌ {A = Option ℕ} (elim b [ true ↦ some t.number | false ↦ first_refusal ts ]) (some k) → (first_refusal ts ≡ some k → Q k) → Q k
    go true e ih = subst Q (Rattle.simplex.specs.bridge.Finds.some-injective e) a.0
    go false e ih = ih e

pub not-above : (a b : ℕ) → ltb a b ≡ false → b ≤ a
not-above a b e = nltb→le a b (subst (λ (t : Bool). T (not t)) (sym e) tt)

pub ids-left : (s : State) → ids_used s ≡ false → s.tableau.next_id ≤ 4_294_900_000
unfolding ids_used
ids-left s e = not-above 4_294_900_000 s.tableau.next_id e

no-constraint : (n : ℕ) (s : State) → has_constraint n s ≡ false → find_constraint n s.constraints ≡ none
unfolding has_constraint
no-constraint n s e = go (find_constraint n s.constraints) refl e
  where
    go : (o : Option Constraint) → find_constraint n s.constraints ≡ o → elim o as (λ _. Bool) [ none ↦ false | some c ↦ true ] ≡ false → find_constraint n s.constraints ≡ none
    go none q e = q
    go (some c) q e = absurd (true≢false e)

-- a whole answer's steps were all whole
pub added-whole : (s : State) (t : Outcome Added) (f : Added → State) → (conclude_add s t f).answer.whole ≡ true → mark_added t ≡ all_whole
unfolding conclude_add refused_by accepted_as mark_added
added-whole s (refused k p m) f e = says-whole m e
added-whole s (going a) f e = says-whole a.work.mark e

passes : (g n : ℕ) (ts : List Term) (k : Float) (r : Relation) (s : State) → first_refusal (add_tests g n ts k r s) ≡ none → Passes n ts r s
unfolding add_tests
passes g n ts k r s e =
    let t₀ = passed _ _ e in
    let t₁ = passed _ _ t₀.1 in
    let t₂ = passed _ _ t₁.1 in
    let t₃ = passed _ _ t₂.1 in
    let t₄ = passed _ _ t₃.1 in
    let t₅ = passed _ _ t₄.1 in
    let t₆ = passed _ _ t₅.1 in
    let t₇ = passed _ _ t₆.1 in
    record { strength = t₂.0; few = not-above 16 (length ts) t₃.0; new = no-constraint n s t₄.0; low = ids-left s t₇.0 }

numbers : (Q : ℕ → Type 0) → Q 1 → Q 2 → Q 3 → Q 4 → Q 10 → Q 9 → Q 11 → Q 26 → (g n : ℕ) (ts : List Term) (k : Float) (r : Relation) (s : State) → All (λ (t : Test). Q t.number) (add_tests g n ts k r s)
unfolding add_tests
numbers Q a b c d e f g h j n ts k r s = (h, (a, (b, (c, (d, (e, (f, (g, tt))))))))

-- ---- an add or an add edit whose tests pass
module _ (art : ArtificialEnds) (m : Moment) (I : Inv m) (d : Demand) (budget : ℕ) (up : below_zero (strength_of d.relation) ≡ false) (few : length d.terms ≤ 16) (low : m.state.tableau.next_id ≤ 4_294_900_000)
    (call : Call) (f : Added → State) (is : make call m.state ≡ conclude_add m.state (add_steps budget d.terms d.constant d.relation (begin m.state)) f) (whole : (make call m.state).answer.whole ≡ true) where
  pub steps-whole : mark_added (add_steps budget d.terms d.constant d.relation (begin m.state)) ≡ all_whole
  steps-whole = added-whole m.state (add_steps budget d.terms d.constant d.relation (begin m.state)) f (sym (ap (λ (r : Result). r.answer.whole) is) ∙ whole)

  abbrev c : Created
  c = created_of d.terms d.constant d.relation (begin m.state)

  abbrev FinalIn : Outcome Work → Type 0
  FinalIn = Final art columns I.kind I.table I.held d (marking (whole_if (whole_inputs d.terms d.constant d.relation)) (begin m.state)) c (B art m I d budget up few low steps-whole) (lit< tt) (room art m I d budget up few low steps-whole) budget

  abbrev FinishedIn : Work → Type 0
  FinishedIn = Finished art columns I.kind I.table I.held d (marking (whole_if (whole_inputs d.terms d.constant d.relation)) (begin m.state)) c (B art m I d budget up few low steps-whole) (lit< tt) (room art m I d budget up few low steps-whole) budget

  -- the call's answer, from how its steps end
  made : (t : Outcome Work) → placed_and_rested budget c ≡ t → make call m.state ≡ conclude_add m.state (added_by c.tag t) f
  made t e = is ∙ ap (λ (o : Outcome Added). conclude_add m.state o f) ((W art m I d budget up few low steps-whole).steps ∙ ap (added_by c.tag) e)

  pub kept-inv : ((x : Work) → FinishedIn x → x.mark ≡ all_whole → Inv (record { state = f (record { work = x; tag = c.tag }); live = accepted call m.live })) → Inv (next call m)
  unfolding added_by ◌>>=◌ conclude_add mark_of
  kept-inv acc = go (placed_and_rested budget c) refl (ends art m I d budget up few low steps-whole) (W art m I d budget up few low steps-whole).last
    where
      nonzero : (k : ℕ) → (k ≡ 12) ⊎ (k ≡ 14) → eqb k 0 ≡ false
      nonzero k (inl e) = ap (λ (j : ℕ). eqb j 0) e
      nonzero k (inr e) = ap (λ (j : ℕ). eqb j 0) e

      go : (t : Outcome Work) → placed_and_rested budget c ≡ t → FinalIn t → mark_of t ≡ all_whole → Inv (next call m)
      go (refused k p mk) e (inl z) h = unchanged call m k p (says_whole mk) (made (refused k p mk) e) (nonzero k (inl z.0)) I
      go (refused k p mk) e (inr z) h = unchanged call m k p (says_whole mk) (made (refused k p mk) e) (nonzero k (inr z.0)) I
      go (going x) e F h = changed call m x (f (record { work = x; tag = c.tag })) (made (going x) e) (acc x F h)

  pub unmet-12 : (make call m.state).answer.number ≡ 12 → Unmet columns (map (con_of (B art m I d budget up few low steps-whole).column) (new_held d c ∷ I.held))
  unfolding added_by ◌>>=◌ conclude_add refused_by accepted_as
  unmet-12 n = go (placed_and_rested budget c) refl (ends art m I d budget up few low steps-whole)
    where
      go : (t : Outcome Work) → placed_and_rested budget c ≡ t → FinalIn t → Unmet columns (map (con_of (B art m I d budget up few low steps-whole).column) (new_held d c ∷ I.held))
      go (refused k p mk) e (inl z) = z.1
      go (refused k p mk) e (inr z) = absurd (omega (arith, z.0, ap (λ (r : Result). r.answer.number) (made (refused k p mk) e), n))
      go (going x) e F = absurd (omega (arith, ap (λ (r : Result). r.answer.number) (made (going x) e), n))

  -- accepted, 12 or 14: the steps of a whole run give nothing else
  pub step-number : (Q : ℕ → Type 0) → Q 0 → Q 12 → Q 14 → Q (make call m.state).answer.number
  unfolding added_by ◌>>=◌ conclude_add refused_by accepted_as
  step-number Q zero twelve fourteen = go (placed_and_rested budget c) refl (ends art m I d budget up few low steps-whole)
    where
      go : (t : Outcome Work) → placed_and_rested budget c ≡ t → FinalIn t → Q (make call m.state).answer.number
      go (refused k p mk) e (inl z) = subst Q (sym (ap (λ (r : Result). r.answer.number) (made (refused k p mk) e) ∙ z.0)) twelve
      go (refused k p mk) e (inr z) = subst Q (sym (ap (λ (r : Result). r.answer.number) (made (refused k p mk) e) ∙ z.0)) fourteen
      go (going x) e F = subst Q (sym (ap (λ (r : Result). r.answer.number) (made (going x) e))) zero

-- ---- AN ADD
module _ (art : ArtificialEnds) (m : Moment) (g n : ℕ) (ts : List Term) (k : Float) (r : Relation) (b : ℕ) (I : Inv m) (whole : (make (adds g n ts k r b) m.state).answer.whole ≡ true) where
  abbrev d : Demand
  d = record { key = of_constraint n; group = g; terms = ts; constant = k; relation = r }

  abbrev stored : Added → Constraint
  stored a = record { number = n; group = g; comparison = comparison_of r; strength = strength_of r; constant = k; terms = kept_terms m.state.tableau.cutoff ts; tag = a.tag }

  abbrev after : Added → State
  after a = finish a.work (keep_constraint (stored a) m.state.constraints) m.state.edits

  not-held : find_constraint n m.state.constraints ≡ none → find_held (of_constraint n) I.held ≡ none
  not-held e = go (find_held (of_constraint n) I.held) refl (subst (λ (t : Option Constraint). ConstraintAt t (find_held (of_constraint n) I.held)) e (I.constraints n))
    where
      go : (t : Option Held) → find_held (of_constraint n) I.held ≡ t → ConstraintAt none t → find_held (of_constraint n) I.held ≡ none
      go none q a = q
      go (some h) q a = absurd a

  counts : whole_inputs ts k r ≡ true → whole_terms ts ≡ true
  unfolding whole_inputs
  counts e = and_left (whole_terms ts) (whole_within constant_bound k) (and_left (whole_terms ts && whole_within constant_bound k) (is_whole (strength_of r)) e)

  -- the terms that count are stored
  counted : whole_terms ts ≡ true → kept_terms m.state.tableau.cutoff ts ≡ non_zero_terms ts
  unfolding begin
  counted e = kept_whole m.state.tableau.cutoff I.reads.cutoff ts e

  -- what is stored of it, and of the others
  constraints-after : whole_terms ts ≡ true → find_constraint n m.state.constraints ≡ none → (a : Added) (j : ℕ) → ConstraintAt (find_constraint j (keep_constraint (stored a) m.state.constraints)) (find_held (of_constraint j) (record { demand = d; tag = a.tag } ∷ I.held))
  unfolding same_key
  constraints-after whole-ts new a j = go (eqb j n) refl
    where
      kept : find_constraint j (keep_constraint (stored a) m.state.constraints) ≡ Rattle.keeps.specs.Keys.find_by (λ (c : Constraint). c.number) j (Rattle.keeps.specs.Keys.keep_by (λ (c : Constraint). c.number) (stored a) m.state.constraints)
      kept = ap (find_constraint j) (keep_constraint-is (stored a) m.state.constraints) ∙ find_constraint-is j (Rattle.keeps.specs.Keys.keep_by (λ (c : Constraint). c.number) (stored a) m.state.constraints)

      go : (t : Bool) → eqb j n ≡ t → ConstraintAt (find_constraint j (keep_constraint (stored a) m.state.constraints)) (find_held (of_constraint j) (record { demand = d; tag = a.tag } ∷ I.held))
      go true e =
          let q : j ≡ n = eqb→eq j n (subst T (sym e) tt) in
          subst (λ (t : Option Constraint). ConstraintAt t (find_held (of_constraint j) (record { demand = d; tag = a.tag } ∷ I.held)))
          (sym (kept ∙ find-keep-same (λ (c : Constraint). c.number) j (stored a) m.state.constraints q (ap (Rattle.keeps.specs.Keys.find_by (λ (c : Constraint). c.number) j) refl ∙ sym (find_constraint-is j m.state.constraints) ∙ ap (λ (i : ℕ). find_constraint i m.state.constraints) q ∙ new)))
          (subst (ConstraintAt (some (stored a))) (sym (found-hit (of_constraint j) (record { demand = d; tag = a.tag }) I.held e)) (record { group = refl; strength = refl; terms = counted whole-ts; tag = refl }))
      go false e =
          let q : j ≢ n = λ p. subst T e (subst (λ (y : ℕ). T (eqb j y)) p (eqb_refl j)) in
          subst (λ (t : Option Constraint). ConstraintAt t (find_held (of_constraint j) (record { demand = d; tag = a.tag } ∷ I.held)))
          (sym (kept ∙ find-keep-other (λ (c : Constraint). c.number) j (stored a) m.state.constraints q ∙ sym (find_constraint-is j m.state.constraints)))
          (subst (ConstraintAt (find_constraint j m.state.constraints)) (sym (found-miss (of_constraint j) (record { demand = d; tag = a.tag }) I.held e)) (I.constraints j))

  edits-after : (a : Added) (j : ℕ) → EditAt j (find_edit j m.state.edits) (find_held (of_edit j) (record { demand = d; tag = a.tag } ∷ I.held))
  unfolding same_key
  edits-after a j = subst (EditAt j (find_edit j m.state.edits)) (sym (found-miss (of_edit j) (record { demand = d; tag = a.tag }) I.held refl)) (I.edits j)

  is-add : first_refusal (add_tests g n ts k r m.state) ≡ none → make (adds g n ts k r b) m.state ≡ conclude_add m.state (add_steps b ts k r (begin m.state)) after
  unfolding make add
  is-add e = rw (e, add) refl

  is-refused : (j : ℕ) → first_refusal (add_tests g n ts k r m.state) ≡ some j → make (adds g n ts k r b) m.state ≡ refused_by j 0 m.state.whole m.state
  unfolding make add
  is-refused j e = rw (e, add) refl

  -- AN ADD KEEPS THE INVARIANT
  pub add-inv : Inv (next (adds g n ts k r b) m)
  unfolding accepted
  add-inv = go (first_refusal (add_tests g n ts k r m.state)) refl
    where
      go : (t : Option ℕ) → first_refusal (add_tests g n ts k r m.state) ≡ t → Inv (next (adds g n ts k r b) m)
      go (some j) e =
          unchanged (adds g n ts k r b) m j 0 m.state.whole (is-refused j e) (refused-by (λ i. eqb i 0 ≡ false) (add_tests g n ts k r m.state) (numbers (λ i. eqb i 0 ≡ false) refl refl refl refl refl refl refl refl g n ts k r m.state) j e) I
      go none e =
          let P = passes g n ts k r m.state e in
          let S = steps-whole art m I d b P.strength P.few P.low (adds g n ts k r b) after (is-add e) whole in
          kept-inv art m I d b P.strength P.few P.low (adds g n ts k r b) after (is-add e) whole
          (λ x F mark. after-add art m I d b P.strength P.few P.low S k refl (W art m I d b P.strength P.few P.low S).inputs x F mark (not-held P.new)
          (keep_constraint (stored (record { work = x; tag = (created_of ts k r (begin m.state)).tag })) m.state.constraints) m.state.edits
          (constraints-after (counts (W art m I d b P.strength P.few P.low S).inputs) P.new (record { work = x; tag = (created_of ts k r (begin m.state)).tag })) (edits-after (record { work = x; tag = (created_of ts k r (begin m.state)).tag })))

  -- A REFUSAL 12 IS RIGHT
  pub add-12 : (make (adds g n ts k r b) m.state).answer.number ≡ 12 → None (d ∷ m.live)
  unfolding refused_by
  add-12 h = go (first_refusal (add_tests g n ts k r m.state)) refl
    where
      go : (t : Option ℕ) → first_refusal (add_tests g n ts k r m.state) ≡ t → None (d ∷ m.live)
      go (some j) e =
          absurd (refused-by (λ i. i ≢ 12) (add_tests g n ts k r m.state) (numbers (λ i. i ≢ 12) (λ p. omega arith) (λ p. omega arith) (λ p. omega arith) (λ p. omega arith) (λ p. omega arith) (λ p. omega arith) (λ p. omega arith) (λ p. omega arith) g n ts k r m.state) j e
          (sym (ap (λ (x : Result). x.answer.number) (is-refused j e)) ∙ h))
      go none e =
          let P = passes g n ts k r m.state e in
          let S = steps-whole art m I d b P.strength P.few P.low (adds g n ts k r b) after (is-add e) whole in
          none-meet art m I d b P.strength P.few P.low S k refl (W art m I d b P.strength P.few P.low S).inputs
          (unmet-12 art m I d b P.strength P.few P.low (adds g n ts k r b) after (is-add e) whole h)

  -- 15 IS NEVER GIVEN
  pub add-15 : (make (adds g n ts k r b) m.state).answer.number ≢ 15
  unfolding refused_by
  add-15 = go (first_refusal (add_tests g n ts k r m.state)) refl
    where
      go : (t : Option ℕ) → first_refusal (add_tests g n ts k r m.state) ≡ t → (make (adds g n ts k r b) m.state).answer.number ≢ 15
      go (some j) e = λ h.
          refused-by (λ i. i ≢ 15) (add_tests g n ts k r m.state) (numbers (λ i. i ≢ 15) (λ p. omega arith) (λ p. omega arith) (λ p. omega arith) (λ p. omega arith) (λ p. omega arith) (λ p. omega arith) (λ p. omega arith) (λ p. omega arith) g n ts k r m.state) j e
          (sym (ap (λ (x : Result). x.answer.number) (is-refused j e)) ∙ h)
      go none e =
          let P = passes g n ts k r m.state e in
          step-number art m I d b P.strength P.few P.low (adds g n ts k r b) after (is-add e) whole (λ i. i ≢ 15) (λ p. omega arith) (λ p. omega arith) (λ p. omega arith)
