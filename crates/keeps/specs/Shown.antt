-- What is read back is what was added: an accepted add is shown with the terms that are not near zero; every other call leaves it so, until it is removed or its group is dropped. Assumes nothing.
use Rattle.std.specs.Prelude.{◌≡◌, ◌≢◌, Bool, true, false, ◌||◌, T, eqb, Float}
use Rattle.std.proofs.Math.Path.{refl, ap}
use Rattle.std.proofs.Common.{sym, ◌∙◌, subst, true≢false, arith, eqb→eq}
use mathlib.Core.List.{List, [], ◌∷◌, map}
use Rattle.std.proofs.Math.Option.{Option, none, some}
use Prim.Native.Nat.{ℕ, zero, suc, ◌≤◌}
use Rattle.steps.specs.State.{Term, Relation, at_most, equal, at_least, strength_of, comparison_of, related, Tag, Constraint, Edit, State}
use Rattle.steps.specs.Changes.{member, fetch_changes}
use Rattle.steps.specs.Tests.{add_tests, group_of, kept_terms, has_constraint, find_constraint, keep_constraint, drop_constraint}
use Rattle.steps.specs.Calls.{Result, finish, refused_by, accepted_as, add, remove, drop_group}
use Rattle.steps.specs.Changing.{Changing, adds, removes, drops, adds_edit, removes_edit, suggests, made, drop_each, Stores}
use Rattle.steps.specs.Shown.{Given, given_of, shown}
use Rattle.steps.proofs.Answered.{Answered, by_test, by_steps, accepts, answered}
use Rattle.steps.proofs.Numbers.{test-number, step-number}
use Rattle.steps.proofs.Refusals.{refusal-keeps}
use Rattle.steps.proofs.Stored.{accepted-stores}
use Rattle.steps.proofs.Queries.{fetch-keeps}
use Rattle.keeps.specs.Lists.{All, all-to, Up, none≢some, some-injective}
use Rattle.keeps.specs.Keys.{drop-up, keep_constraint-is, drop_constraint-is, find_constraint-is}
use Rattle.keeps.specs.Lookup.{eq_no, eq_yes, find-keep-same, find-keep-other, find-drop-other, find-drop-same}
use Rattle.keeps.specs.Reads.{Reads, con_number}
use Rattle.keeps.specs.Addition.{passed}
use Rattle.keeps.specs.Groups.{group-all, above}

-- the strength and which of the three are the whole relation
pub related-back : (r : Relation) → related (comparison_of r) (strength_of r) ≡ r
unfolding related comparison_of strength_of
related-back (at_most s) = refl
related-back (equal s) = refl
related-back (at_least s) = refl

abbrev shown_in : Option Constraint → Option Given
shown_in o = elim o [ none ↦ none | some c ↦ some (given_of c) ]

abbrev pub is_shown : Option Given → Bool
is_shown o = elim o [ none ↦ false | some x ↦ true ]

-- a number that is shown is a live one's, and every live one's is
pub shown-lives : (n : ℕ) (s : State) → has_constraint n s ≡ is_shown (shown n s)
unfolding has_constraint shown
shown-lives n s = go (find_constraint n s.constraints)
  where
    go : (o : Option Constraint) → elim o [ none ↦ false | some c ↦ true ] ≡ is_shown (shown_in o)
    go none = refl
    go (some c) = refl

-- ---- an accepted add

-- its number was not live
add-new : (g n : ℕ) (ts : List Term) (k : Float) (r : Relation) (b : ℕ) (s : State) → (made (adds g n ts k r b) s).answer.number ≡ 0 → has_constraint n s ≡ false
unfolding refused_by accepted_as finish add_tests
add-new g n ts k r b s = go (answered (adds g n ts k r b) s)
  where
    go : {q : Result} → Answered (adds g n ts k r b) s q → q.answer.number ≡ 0 → has_constraint n s ≡ false
    go (by_test m e) h = absurd (omega (arith, h, (test-number (adds g n ts k r b) s m e).0))
    go (by_steps m p w e x) h = absurd (omega (arith, h, (step-number (adds g n ts k r b) m x.listed).0))
    go (accepts v cs es e w j) h =
        let a = passed _ _ (passed _ _ e).1 in
        let c = passed _ _ (passed _ _ a.1).1 in
        (passed _ _ c.1).0

unknown : (n : ℕ) (s : State) → has_constraint n s ≡ false → find_constraint n s.constraints ≡ none
unfolding has_constraint
unknown n s = go (find_constraint n s.constraints)
  where
    go : (o : Option Constraint) → elim o [ none ↦ false | some c ↦ true ] ≡ false → o ≡ none
    go none e = refl
    go (some c) e = absurd (true≢false e)

pub add-shown : (g n : ℕ) (ts : List Term) (k : Float) (r : Relation) (b : ℕ) (s : State) → (add g n ts k r b s).answer.number ≡ 0
    → shown n (add g n ts k r b s).state ≡ some (record { group = g; terms = kept_terms s.tableau.cutoff ts; constant = k; relation = r })
unfolding shown given_of
add-shown g n ts k r b s h = go (accepted-stores (adds g n ts k r b) s h)
  where
    con : Tag → Constraint
    con tag = record { number = n; group = g; comparison = comparison_of r; strength = strength_of r; constant = k; terms = kept_terms s.tableau.cutoff ts; tag = tag }

    as-given : Relation → Option Given
    as-given q = some (record { group = g; terms = kept_terms s.tableau.cutoff ts; constant = k; relation = q })

    free : find_constraint n s.constraints ≡ none
    free = unknown n s (add-new g n ts k r b s h)

    is : (tag : Tag) → find_constraint n (keep_constraint (con tag) s.constraints) ≡ some (con tag)
    is tag = find_constraint-is n _ ∙ rw keep_constraint-is (find-keep-same con_number n (con tag) s.constraints refl (sym (find_constraint-is n s.constraints) ∙ free))

    go : Stores (adds g n ts k r b) s (add g n ts k r b s).state.constraints (add g n ts k r b s).state.edits
        → shown_in (find_constraint n (add g n ts k r b s).state.constraints) ≡ some (record { group = g; terms = kept_terms s.tableau.cutoff ts; constant = k; relation = r })
    go (tag, e, _) =
        ap (λ (cs : List Constraint). shown_in (find_constraint n cs)) e ∙ ap shown_in (is tag)
        ∙ ap as-given (related-back r)

-- ---- dropped, one after the other

drop-find : (n m : ℕ) (cs : List Constraint) → n ≢ m → find_constraint n (drop_constraint m cs) ≡ find_constraint n cs
drop-find n m cs h = ap (find_constraint n) (drop_constraint-is m cs) ∙ find_constraint-is n _ ∙ find-drop-other con_number n m cs h ∙ sym (find_constraint-is n cs)

drop-gone : (n : ℕ) (cs : List Constraint) → Up 0 (map con_number cs) → find_constraint n (drop_constraint n cs) ≡ none
drop-gone n cs u = ap (find_constraint n) (drop_constraint-is n cs) ∙ find_constraint-is n _ ∙ find-drop-same con_number n cs u

each-find : (n : ℕ) (ds cs : List Constraint) → All (λ (d : Constraint). n ≢ d.number) ds → find_constraint n (drop_each ds cs) ≡ find_constraint n cs
unfolding drop_each
each-find n [] cs a = refl
each-find n (d ∷ ds) cs a = each-find n ds (drop_constraint d.number cs) a.1 ∙ drop-find n d.number cs a.0

-- none of that number is left, whether it was among those dropped or not there at all
none_left : (n : ℕ) (ds cs : List Constraint) → Up 0 (map con_number cs) → find_constraint n cs ≡ none → find_constraint n (drop_each ds cs) ≡ none
unfolding drop_each
none_left n [] cs u e = e
none_left n (d ∷ ds) cs u e = none_left n ds (drop_constraint d.number cs) (rw drop_constraint-is (drop-up con_number 0 d.number cs u)) (go (eqb n d.number) refl)
  where
    go : (t : Bool) → eqb n d.number ≡ t → find_constraint n (drop_constraint d.number cs) ≡ none
    go true q = subst (λ (m : ℕ). find_constraint n (drop_constraint m cs) ≡ none) (eqb→eq n d.number (subst T (sym q) tt)) (drop-gone n cs u)
    go false q = drop-find n d.number cs (λ p. true≢false (sym (eq_yes n) ∙ ap (eqb n) p ∙ q)) ∙ e

each-gone : (n : ℕ) (ds cs : List Constraint) → Up 0 (map con_number cs) → member n (map con_number ds) ≡ true → find_constraint n (drop_each ds cs) ≡ none
unfolding drop_each member
each-gone n [] cs u h = absurd (true≢false (sym h))
each-gone n (d ∷ ds) cs u h = go (eqb n d.number) refl h (each-gone n ds _ left)
  where
    left : Up 0 (map con_number (drop_constraint d.number cs))
    left = rw drop_constraint-is (drop-up con_number 0 d.number cs u)

    go : (t : Bool) → eqb n d.number ≡ t → t || member n (map con_number ds) ≡ true → (member n (map con_number ds) ≡ true → find_constraint n (drop_each ds (drop_constraint d.number cs)) ≡ none)
        → find_constraint n (drop_each ds (drop_constraint d.number cs)) ≡ none
    go true q e ih = none_left n ds _ left (subst (λ (m : ℕ). find_constraint n (drop_constraint m cs) ≡ none) (eqb→eq n d.number (subst T (sym q) tt)) (drop-gone n cs u))
    go false q e ih = ih e

-- ---- those of a group

-- a live number is one of the group's if its constraint is in it
group-member : (g n i : ℕ) (cs : List Constraint) (c : Constraint) → Up i (map con_number cs) → find_constraint n cs ≡ some c → member n (map con_number (group_of g cs)) ≡ eqb g c.group
unfolding find_constraint group_of member
group-member g n i [] c u e = absurd (none≢some e)
group-member g n i (x ∷ xs) c u e = by_number (eqb n x.number) refl e (group-member g n (suc x.number) xs c u.1)
  where
    at : Bool → List Constraint
    at t = elim t as (λ _. List Constraint) [ true ↦ x ∷ group_of g xs | false ↦ group_of g xs ]

    absent : (ds : List Constraint) → All (λ (d : Constraint). n ≢ d.number) ds → member n (map con_number ds) ≡ false
    absent [] a = refl
    absent (d ∷ ds) a = ap (λ (b : Bool). b || member n (map con_number ds)) (eq_no n d.number a.0) ∙ absent ds a.1

    own : eqb n x.number ≡ true → (t : Bool) → member n (map con_number (at t)) ≡ t
    own q true = ap (λ (b : Bool). b || member n (map con_number (group_of g xs))) q
    own q false =
        let p : n ≡ x.number = eqb→eq n x.number (subst T (sym q) tt) in
        absent (group_of g xs) (group-all (λ (d : Constraint). n ≢ d.number) g xs (all-to (λ (d : Constraint). suc x.number ≤ d.number) (λ (d : Constraint). n ≢ d.number) (λ d h z. omega (arith, h, z, p)) xs (above (suc x.number) xs u.1)))

    other : eqb n x.number ≡ false → (t : Bool) → member n (map con_number (at t)) ≡ member n (map con_number (group_of g xs))
    other q true = ap (λ (b : Bool). b || member n (map con_number (group_of g xs))) q
    other q false = refl

    by_number : (t : Bool) → eqb n x.number ≡ t → elim t [ true ↦ some x | false ↦ find_constraint n xs ] ≡ some c
        → (find_constraint n xs ≡ some c → member n (map con_number (group_of g xs)) ≡ eqb g c.group) → member n (map con_number (at (eqb g x.group))) ≡ eqb g c.group
    by_number true q e ih = own q (eqb g x.group) ∙ ap (λ (y : Constraint). eqb g y.group) (some-injective e)
    by_number false q e ih = other q (eqb g x.group) ∙ ih e

-- none of these has the number
apart : (n : ℕ) (ds : List Constraint) → member n (map con_number ds) ≡ false → All (λ (d : Constraint). n ≢ d.number) ds
unfolding member
apart n [] e = tt
apart n (d ∷ ds) e = go (eqb n d.number) refl e (apart n ds)
  where
    go : (t : Bool) → eqb n d.number ≡ t → t || member n (map con_number ds) ≡ false → (member n (map con_number ds) ≡ false → All (λ (d : Constraint). n ≢ d.number) ds) → All (λ (d : Constraint). n ≢ d.number) (d ∷ ds)
    go true q f ih = absurd (true≢false f)
    go false q f ih = ((λ p. true≢false (sym (eq_yes n) ∙ ap (eqb n) p ∙ q)), ih f)

-- ---- every other call

-- a call that leaves it: no removal of this number, no drop of its group
abbrev pub Leaves : ℕ → Given → Changing → Type 0
Leaves n x (adds g m terms constant relation budget) = Unit {0}
Leaves n x (removes m budget) = n ≢ m
Leaves n x (drops g budget) = g ≢ x.group
Leaves n x (adds_edit v strength budget) = Unit {0}
Leaves n x (removes_edit v budget) = Unit {0}
Leaves n x (suggests v new budget) = Unit {0}

-- what is shown is found
found : (n : ℕ) (s : State) (x : Given) → shown n s ≡ some x → (c : Constraint) × (find_constraint n s.constraints ≡ some c) × (given_of c ≡ x)
unfolding shown
found n s x = go (find_constraint n s.constraints)
  where
    go : (o : Option Constraint) → shown_in o ≡ some x → (c : Constraint) × (o ≡ some c) × (given_of c ≡ x)
    go none e = absurd (none≢some e)
    go (some c) e = (c, refl, some-injective e)

module _ (s : State) (r : Reads s) (n : ℕ) (x : Given) (e : shown n s ≡ some x) where
  abbrev con : Constraint
  con = (found n s x e).0

  group-is : con.group ≡ x.group
  unfolding given_of
  group-is = ap (λ (y : Given). y.group) (found n s x e).2

  -- an add of the same number is refused
  other-number : (g m : ℕ) (ts : List Term) (k : Float) (q : Relation) (b : ℕ) → (made (adds g m ts k q b) s).answer.number ≡ 0 → n ≢ m
  other-number g m ts k q b h z =
      none≢some (sym (unknown m s (add-new g m ts k q b s h)) ∙ ap (λ (i : ℕ). find_constraint i s.constraints) (sym z) ∙ (found n s x e).1)

  still : (c : Changing) (cs : List Constraint) (es : List Edit) → (made c s).answer.number ≡ 0 → Stores c s cs es → Leaves n x c → find_constraint n cs ≡ find_constraint n s.constraints
  still (adds g m ts k q b) cs es h (tag, y, _) l =
      ap (find_constraint n) (y ∙ keep_constraint-is _ s.constraints) ∙ find_constraint-is n _ ∙ find-keep-other con_number n _ s.constraints (other-number g m ts k q b h) ∙ sym (find_constraint-is n s.constraints)
  still (removes m b) cs es h (y, _) l = ap (find_constraint n) y ∙ drop-find n m s.constraints l
  still (drops g b) cs es h (y, _) l =
      ap (find_constraint n) y
      ∙ each-find n (group_of g s.constraints) s.constraints (apart n (group_of g s.constraints) (group-member g n 0 s.constraints con r.constraints-up (found n s x e).1 ∙ eq_no g con.group (λ z. l (z ∙ group-is))))
  still (adds_edit v k b) cs es h (tag, y, _) l = ap (find_constraint n) y
  still (removes_edit v b) cs es h (y, _) l = ap (find_constraint n) y
  still (suggests v k b) cs es h (w, f, y, _) l = ap (find_constraint n) y

  -- a refused call leaves everything
  pub stays-shown : (c : Changing) → Leaves n x c → shown n (made c s).state ≡ some x
  unfolding shown
  stays-shown c l = go (made c s).answer.number refl
    where
      go : (k : ℕ) → (made c s).answer.number ≡ k → shown_in (find_constraint n (made c s).state.constraints) ≡ some x
      go zero h = ap shown_in (still c (made c s).state.constraints (made c s).state.edits h (accepted-stores c s h) l) ∙ e
      go (suc k) h = ap (λ (t : State). shown_in (find_constraint n t.constraints)) (refusal-keeps c s (λ z. omega (arith, h, z))) ∙ e

  -- a dropped group is shown no more
  pub drop-unshown : (b : ℕ) → (drop_group x.group b s).answer.number ≡ 0 → shown n (drop_group x.group b s).state ≡ none
  unfolding shown
  drop-unshown b h =
      let y = accepted-stores (drops x.group b) s h in
      ap (λ (cs : List Constraint). shown_in (find_constraint n cs)) y.0
      ∙ ap shown_in (each-gone n (group_of x.group s.constraints) s.constraints r.constraints-up
      (group-member x.group n 0 s.constraints con r.constraints-up (found n s x e).1 ∙ ap (eqb x.group) group-is ∙ eq_yes x.group))

-- nor is a removed constraint
pub remove-unshown : (n b : ℕ) (s : State) → Reads s → (remove n b s).answer.number ≡ 0 → shown n (remove n b s).state ≡ none
unfolding shown
remove-unshown n b s r h =
    let y = accepted-stores (removes n b) s h in
    ap (λ (cs : List Constraint). shown_in (find_constraint n cs)) y.0 ∙ ap shown_in (drop-gone n s.constraints r.constraints-up)

-- a fetch leaves every constraint
pub fetch-shown : (n : ℕ) (s : State) → shown n (fetch_changes s).state ≡ shown n s
unfolding shown
fetch-shown n s = ap (λ (cs : List Constraint). shown_in (find_constraint n cs)) (fetch-keeps s).1
