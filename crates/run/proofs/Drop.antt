-- A GROUP DROPPED KEEPS THE INVARIANT: a drop is removals one after the other, each a removal of a whole run. Assumes nothing.
use Rattle.std.specs.Prelude.{◌≡◌, ◌⊎◌, ◌≢◌, Bool, ◌||◌, ℕ, zero, suc, ◌-◌, T}
use Rattle.std.proofs.Math.Path.{refl, sym, ap, subst}
use Rattle.std.proofs.Common.{◌∙◌, inl, inr, arith, eqb→eq}
use mathlib.Core.List.{List, [], ◌∷◌, map}
use Rattle.std.proofs.Math.Option.{Option, none, some}
use Rattle.std.proofs.Math.Bool.{true, false}
use Rattle.std.proofs.Math.Dec.{eqb, eqb-suc-zero}
use Rattle.steps.specs.State.{Constraint, State}
use Rattle.steps.specs.Tests.{first_refusal, drop_tests, group_of, member}
use Rattle.steps.specs.Calls.{Result, refused_by, remove, remove_stored, onward, remove_all, all_or_none, drop_group}
use Rattle.steps.specs.Changing as changing
use Rattle.steps.proofs.Numbers.{test-listed, past-the-tests}
use Rattle.steps.proofs.Marks.{yes-only-if-stored, accepted-mark, lost-until-reset}
use Rattle.steps.specs.Readable.{readable}
use Rattle.keeps.specs.Lists as keeps
use Rattle.keeps.specs.Reads.{con_number}
use Rattle.keeps.specs.Tested.{reads_in, reads-out}
use Rattle.keeps.specs.Groups.{Removable, group-removable, first-tested, remove-found, removed-kept, others-removable}
use Rattle.run.specs.Demand.{of_constraint, Demand, without, without_group, removes, drops, make, accepted, live_after, Moment, next}
use Rattle.run.specs.Inv.{Inv}
use Rattle.run.specs.Suggest.{unchanged}
use Rattle.run.specs.Remove.{remove-inv, remove-refusals}
use Rattle.run.specs.DropLive.{without_each, group-live}
use Rattle.run.specs.Drop.{onward-refused, onward-accepted, onward-whole, onward-state, none-whole}

-- ---- a result, and what comes after it

onward-number : (r q : Result) → r.answer.number ≡ 0 → (onward r q).answer.number ≡ q.answer.number
onward-number r q e = ap (λ (x : Result). x.answer.number) (onward-accepted r q e)

-- ---- the marks of removals one after the other

pub removed-reads : (d : Constraint) (ds : List Constraint) (b : ℕ) (s : State) → readable s ≡ true → Removable (d ∷ ds) s → readable (remove_stored d.number d b s).state ≡ true
removed-reads d ds b s R f = reads-out (remove_stored d.number d b s).state (removed-kept d ds b s f (reads_in s R))

remove_all-stored : (ds : List Constraint) (b : ℕ) (s : State) → readable s ≡ true → Removable ds s → (remove_all ds b s).answer.whole ≡ true → s.whole ≡ true
unfolding remove_all
remove_all-stored [] b s R f w = w
remove_all-stored (d ∷ ds) b s R f w = go one.answer.number refl (remove_all-stored ds (b - one.answer.pivots) one.state) w
  where
    one : Result
    one = remove_stored d.number d b s

    is : remove d.number b s ≡ one
    is = remove-found d ds b s f

    rest : Result
    rest = remove_all ds (b - one.answer.pivots) one.state

    go : (k : ℕ) → one.answer.number ≡ k → (readable one.state ≡ true → Removable ds one.state → rest.answer.whole ≡ true → one.state.whole ≡ true) → (onward one rest).answer.whole ≡ true → s.whole ≡ true
    go zero e on w =
        lost-until-reset (changing.removes d.number b) s (ap (λ (r : Result). r.state.whole) is
        ∙ on (removed-reads d ds b s R f) (others-removable d ds b s f (reads_in s R) e) (sym (onward-whole one rest e) ∙ w))
    go (suc k) e on w = yes-only-if-stored (changing.removes d.number b) s (ap (λ (r : Result). r.answer.whole) is ∙ sym (ap (λ (r : Result). r.answer.whole) (onward-refused one rest k e)) ∙ w)

-- ---- each keeps the invariant

-- all are made, or one needs a pivot and the budget is used
abbrev Ended : List Constraint → ℕ → Moment → Type 0
Ended ds b m =
    ((remove_all ds b m.state).answer.number ≡ 14)
    ⊎ (((remove_all ds b m.state).answer.number ≡ 0) × Inv (record { state = (remove_all ds b m.state).state; live = without_each ds m.live }))

-- no test of the removal refuses
not_tested : (d : Constraint) (ds : List Constraint) (b : ℕ) (s : State) → Removable (d ∷ ds) s → ((remove d.number b s).answer.number ≢ 5) × ((remove d.number b s).answer.number ≢ 25)
unfolding member
not_tested d ds b s f = (λ e. subst (λ (k : ℕ). T (member k (0 ∷ 13 ∷ 14 ∷ 15 ∷ 17 ∷ []))) e past, λ e. subst (λ (k : ℕ). T (member k (0 ∷ 13 ∷ 14 ∷ 15 ∷ 17 ∷ []))) e past)
  where
    past : T (member (remove d.number b s).answer.number (0 ∷ 13 ∷ 14 ∷ 15 ∷ 17 ∷ []))
    past = past-the-tests (changing.removes d.number b) s (first-tested d ds b s f)

pub removed-inv : (m : Moment) (d : Constraint) (ds : List Constraint) (b : ℕ) → Inv m → readable m.state ≡ true → Removable (d ∷ ds) m.state → (remove_stored d.number d b m.state).answer.number ≡ 0
    → (remove_stored d.number d b m.state).answer.whole ≡ true → Inv (record { state = (remove_stored d.number d b m.state).state; live = without (of_constraint d.number) m.live })
removed-inv m d ds b I R f e w = subst Inv stepped (remove-inv m d.number b I R (unfold make in ap (λ (r : Result). r.answer.whole) is ∙ w))
  where
    is : remove d.number b m.state ≡ remove_stored d.number d b m.state
    is = remove-found d ds b m.state f

    stepped : next (removes d.number b) m ≡ record { state = (remove_stored d.number d b m.state).state; live = without (of_constraint d.number) m.live }
    stepped = unfold next make live_after accepted in rw (is, e) refl

remove_all-inv : (ds : List Constraint) (b : ℕ) (m : Moment) → Inv m → readable m.state ≡ true → Removable ds m.state → (remove_all ds b m.state).answer.whole ≡ true → Ended ds b m
unfolding remove_all without_each
remove_all-inv [] b m I R f w = inr (refl, I)
remove_all-inv (d ∷ ds) b m I R f w = go one.answer.number refl (remove_all-inv ds (b - one.answer.pivots) after) w
  where
    n : ℕ
    n = d.number

    one : Result
    one = remove_stored n d b m.state

    after : Moment
    after = record { state = one.state; live = without (of_constraint n) m.live }

    is : remove n b m.state ≡ one
    is = remove-found d ds b m.state f

    rest : Result
    rest = remove_all ds (b - one.answer.pivots) one.state

    left : one.answer.number ≡ 0 → Removable ds one.state
    left e = others-removable d ds b m.state f (reads_in m.state R) e

    kept : one.answer.number ≡ 0 → one.answer.whole ≡ true → Inv after
    kept e w = removed-inv m d ds b I R f e w

    reads : readable one.state ≡ true
    reads = removed-reads d ds b m.state R f

    go : (k : ℕ) → one.answer.number ≡ k → (Inv after → readable one.state ≡ true → Removable ds one.state → rest.answer.whole ≡ true → Ended ds (b - one.answer.pivots) after)
        → (onward one rest).answer.whole ≡ true
        → ((onward one rest).answer.number ≡ 14) ⊎ (((onward one rest).answer.number ≡ 0) × Inv (record { state = (onward one rest).state; live = without_each ds (without (of_constraint n) m.live) }))
    go zero e on w = joined (on (kept e yes) reads (left e) went)
      where
        went : rest.answer.whole ≡ true
        went = sym (onward-whole one rest e) ∙ w

        yes : one.answer.whole ≡ true
        yes =
            let stored : one.state.whole ≡ true = remove_all-stored ds (b - one.answer.pivots) one.state reads (left e) went in
            ap (λ (r : Result). r.answer.whole) (sym is) ∙ accepted-mark (changing.removes n b) m.state (ap (λ (r : Result). r.answer.number) is ∙ e) ∙ ap (λ (r : Result). r.state.whole) is ∙ stored

        joined : Ended ds (b - one.answer.pivots) after
            → ((onward one rest).answer.number ≡ 14) ⊎ (((onward one rest).answer.number ≡ 0) × Inv (record { state = (onward one rest).state; live = without_each ds (without (of_constraint n) m.live) }))
        joined (inl x) = inl (onward-number one rest e ∙ x)
        joined (inr x) = inr (onward-number one rest e ∙ x.0, subst (λ (s : State). Inv (record { state = s; live = without_each ds (without (of_constraint n) m.live) })) (sym (onward-state one rest e)) x.1)
    go (suc k) e on w = inl (ap (λ (r : Result). r.answer.number) (onward-refused one rest k e) ∙ which (remove-refusals m n b I R (unfold make in ap (λ (r : Result). r.answer.whole) (is ∙ sym (onward-refused one rest k e)) ∙ w)))
      where
        same : make (removes n b) m.state ≡ one
        same = unfold make in is

        which : ((make (removes n b) m.state).answer.number ≡ 0) ⊎ (((make (removes n b) m.state).answer.number ≡ 5) ⊎ (((make (removes n b) m.state).answer.number ≡ 25) ⊎ ((make (removes n b) m.state).answer.number ≡ 14))) → one.answer.number ≡ 14
        which (inl z) = absurd (omega (arith, e, ap (λ (r : Result). r.answer.number) (sym same) ∙ z))
        which (inr (inl z)) = absurd ((not_tested d ds b m.state f).0 (ap (λ (r : Result). r.answer.number) (is ∙ sym same) ∙ z))
        which (inr (inr (inl z))) = absurd ((not_tested d ds b m.state f).1 (ap (λ (r : Result). r.answer.number) (is ∙ sym same) ∙ z))
        which (inr (inr (inr z))) = ap (λ (r : Result). r.answer.number) (sym same) ∙ z

-- ---- the drop

-- what a drop of a whole run leaves, and the numbers that it gives
record After (g b : ℕ) (m : Moment) : Type 0 where
  inv : Inv (next (drops g b) m)
  number : (k : ℕ) → k ≢ 0 → k ≢ 14 → (k ≡ 25 → ⊥) × (k ≡ 26 → ⊥) × (k ≡ 27 → ⊥) → (make (drops g b) m.state).answer.number ≢ k

one_of_three : (x : ℕ) → T (member x (26 ∷ 27 ∷ 25 ∷ [])) → (x ≡ 26) ⊎ ((x ≡ 27) ⊎ (x ≡ 25))
unfolding member
one_of_three x t = go (eqb x 26) refl (eqb x 27) refl (eqb x 25) refl t
  where
    go : (p : Bool) → eqb x 26 ≡ p → (q : Bool) → eqb x 27 ≡ q → (r : Bool) → eqb x 25 ≡ r → T (p || (q || (r || false))) → (x ≡ 26) ⊎ ((x ≡ 27) ⊎ (x ≡ 25))
    go true e q f r g t = inl (eqb→eq x 26 (subst T (sym e) tt))
    go false e true f r g t = inr (inl (eqb→eq x 27 (subst T (sym f) tt)))
    go false e false f true g t = inr (inr (eqb→eq x 25 (subst T (sym g) tt)))
    go false e false f false g t = absurd t

tests-passed : (g : ℕ) (s : State) → first_refusal (drop_tests g s) ≡ none → g ≢ 0
tests-passed g s e p = keeps.none≢some (sym e ∙ zero-refused)
  where
    zero-refused : first_refusal (drop_tests g s) ≡ some 26
    zero-refused = unfold drop_tests first_refusal in rw p refl

-- all or none: the result as it is, or its refusal of the state
none-refused : (s : State) (r : Result) (k : ℕ) → r.answer.number ≡ suc k → all_or_none s r ≡ refused_by r.answer.number r.answer.pivots r.answer.whole s
none-refused s r k e = unfold all_or_none in ap (λ (b : Bool). elim b as (λ _. Result) [ true ↦ r | false ↦ refused_by r.answer.number r.answer.pivots r.answer.whole s ]) (ap (λ (n : ℕ). eqb n 0) e ∙ eqb-suc-zero k)

all-accepted : (s : State) (r : Result) → r.answer.number ≡ 0 → all_or_none s r ≡ r
all-accepted s r e = unfold all_or_none in ap (λ (n : ℕ). elim (eqb n 0) as (λ _. Result) [ true ↦ r | false ↦ refused_by r.answer.number r.answer.pivots r.answer.whole s ]) e

drop-after : (m : Moment) (g b : ℕ) → Inv m → readable m.state ≡ true → (make (drops g b) m.state).answer.whole ≡ true → After g b m
drop-after m g b I R = go (first_refusal (drop_tests g m.state)) refl
  where
    s : State
    s = m.state

    all : Result
    all = remove_all (group_of g s.constraints) b s

    up : keeps.Up 0 (map con_number s.constraints)
    up = (reads_in s R).constraints-up

    go : (o : Option ℕ) → first_refusal (drop_tests g s) ≡ o → (make (drops g b) s).answer.whole ≡ true → After g b m
    go (some x) e w = refuses (one_of_three x (test-listed (changing.drops g b) s x e))
      where
        is : make (drops g b) s ≡ refused_by x 0 s.whole s
        is = unfold make drop_group in rw (e, drop_group) refl

        refused : eqb x 0 ≡ false → ((k : ℕ) → (k ≡ 25 → ⊥) × (k ≡ 26 → ⊥) × (k ≡ 27 → ⊥) → x ≢ k) → After g b m
        refused z d = record { inv = unchanged (drops g b) m x 0 s.whole is z I; number = λ k a c f y. d k f (sym (ap (λ (r : Result). r.answer.number) is ∙ unfold refused_by in refl) ∙ y) }

        refuses : (x ≡ 26) ⊎ ((x ≡ 27) ⊎ (x ≡ 25)) → After g b m
        refuses (inl q) = refused (rw q refl) (λ k f y. f.1 (sym y ∙ q))
        refuses (inr (inl q)) = refused (rw q refl) (λ k f y. f.2 (sym y ∙ q))
        refuses (inr (inr q)) = refused (rw q refl) (λ k f y. f.0 (sym y ∙ q))
    go none e w = ended (remove_all-inv (group_of g s.constraints) b m I R (group-removable g s (reads_in s R) e) (sym (none-whole s all) ∙ sym (ap (λ (r : Result). r.answer.whole) is) ∙ w))
      where
        is : make (drops g b) s ≡ all_or_none s all
        is = unfold make drop_group in rw (e, drop_group) refl

        ended : Ended (group_of g s.constraints) b m → After g b m
        ended (inl z) =
            let q : make (drops g b) s ≡ refused_by all.answer.number all.answer.pivots all.answer.whole s = is ∙ none-refused s all 13 z in
            record { inv = unchanged (drops g b) m all.answer.number all.answer.pivots all.answer.whole q (rw z refl) I; number = λ k a c f y. c (sym y ∙ ap (λ (r : Result). r.answer.number) q ∙ (unfold refused_by in z)) }
        ended (inr z) =
            let q : make (drops g b) s ≡ all = is ∙ all-accepted s all z.0 in
            record {
              inv = subst Inv (sym (stepped q z.0)) (subst (λ (l : List Demand). Inv (record { state = all.state; live = l })) (group-live m I up g (tests-passed g s e)) z.1);
              number = λ k a c f y. a (sym y ∙ ap (λ (r : Result). r.answer.number) q ∙ z.0);
            }
          where
            stepped : make (drops g b) s ≡ all → all.answer.number ≡ 0 → next (drops g b) m ≡ record { state = all.state; live = without_group g m.live }
            stepped q z = unfold next live_after accepted in rw (q, z) refl

pub drop-inv : (m : Moment) (g b : ℕ) → Inv m → readable m.state ≡ true → (make (drops g b) m.state).answer.whole ≡ true → Inv (next (drops g b) m)
drop-inv m g b I R w = (drop-after m g b I R w).inv

-- and answers nothing but 0, 14, 25, 26 and 27
pub drop-refusals : (m : Moment) (g b : ℕ) → Inv m → readable m.state ≡ true → (make (drops g b) m.state).answer.whole ≡ true
    → (k : ℕ) → k ≢ 0 → k ≢ 14 → (k ≡ 25 → ⊥) × (k ≡ 26 → ⊥) × (k ≡ 27 → ⊥) → (make (drops g b) m.state).answer.number ≢ k
drop-refusals m g b I R w = (drop-after m g b I R w).number
