-- The removals of a drop, over states: each takes the first constraint of the group in the state that the one before it left.
-- Assumes nothing.
use Prim.Native.Nat.{ℕ, zero, suc, ◌+◌, ◌-◌, ◌≤◌, ◌<◌}
use Rattle.std.specs.Prelude.{◌≡◌, ◌≢◌, Bool, false, length}
use Rattle.std.proofs.Math.Path.{refl}
use Rattle.std.proofs.Common.{sym, ap, ◌∙◌, subst, arith, eqb-true}
use Rattle.std.proofs.Math.Bool.{true}
use Rattle.std.proofs.lemmas.Bool.{false≢true}
use mathlib.Core.List.{List, [], ◌∷◌, map}
use Rattle.std.proofs.Math.Option.{none}
use Rattle.std.proofs.Math.Dec.{eqb}
use Rattle.laws.specs.Lists.{tab}
use Rattle.steps.specs.State.{Constraint, State}
use Rattle.steps.specs.Tests.{group_of, drop_constraint, remove_tests, drop_tests, first_refusal}
use Rattle.steps.specs.Calls.{Result, refused_by, remove, remove_stored, onward, remove_all, all_or_none, drop_group}
use Rattle.steps.specs.Changing.{removes}
use Rattle.steps.proofs.Budgets.{within-budget}
use Rattle.keeps.specs.Lists.{Same?, is, isnt, same?, Up}
use Rattle.keeps.specs.Keys.{drop-length, drop_constraint-is, find_constraint-is}
use Rattle.keeps.specs.Lookup.{eq_no, eq_yes}
use Rattle.keeps.specs.Reads.{Reads, con_number}
use Rattle.keeps.specs.Groups.{Removable, first_found, remove-found, first-tested, removed-constraints, others-removable}

-- the whole removals of the group's constraints
abbrev pub dropping : ℕ → ℕ → State → Result
dropping g b s = remove_all (group_of g s.constraints) b s

-- what comes after p pivots
abbrev pub later : ℕ → Result → Result
later p q = record { answer = record { number = q.answer.number; pivots = p + q.answer.pivots; whole = q.answer.whole }; state = q.state }

-- ---- the group's first constraint

drop-first : (c : Constraint) (cs : List Constraint) → drop_constraint c.number (c ∷ cs) ≡ cs
unfolding drop_constraint
drop-first c cs = rw (eq_yes c.number, drop_constraint) refl

drop_past : (n : ℕ) (c : Constraint) (cs : List Constraint) → n ≢ c.number → drop_constraint n (c ∷ cs) ≡ c ∷ drop_constraint n cs
unfolding drop_constraint
drop_past n c cs h = rw (eq_no n c.number h, drop_constraint) refl

group-in : (g : ℕ) (c : Constraint) (cs : List Constraint) → eqb g c.group ≡ true → group_of g (c ∷ cs) ≡ c ∷ group_of g cs
unfolding group_of
group-in g c cs e = rw (e, group_of) refl

group-out : (g : ℕ) (c : Constraint) (cs : List Constraint) → eqb g c.group ≡ false → group_of g (c ∷ cs) ≡ group_of g cs
unfolding group_of
group-out g c cs e = rw (e, group_of) refl

head-is : {A : Type 0} {x y : A} {xs ys : List A} → x ∷ xs ≡ y ∷ ys → x ≡ y
head-is {A} {x} e = ap (λ (l : List A). elim l [ [] ↦ x | z ∷ zs ↦ z ]) e

tail-is : {A : Type 0} {x y : A} {xs ys : List A} → x ∷ xs ≡ y ∷ ys → xs ≡ ys
tail-is {A} {x} {y} {xs} e = ap (λ (l : List A). elim l [ [] ↦ xs | z ∷ zs ↦ zs ]) e

no-first : {A : Type 0} {x : A} {xs : List A} → [] ≡ x ∷ xs → ⊥
no-first {A} e = false≢true (sym (ap (λ (l : List A). elim l as (λ _. Bool) [ [] ↦ true | z ∷ zs ↦ false ]) e))

-- numbers ascend, so none before the group's first has its number
first_above : (g i : ℕ) (cs : List Constraint) (d : Constraint) (ds : List Constraint) → Up i (map con_number cs) → group_of g cs ≡ d ∷ ds → i ≤ d.number
unfolding group_of
first_above g i [] d ds u e = absurd (no-first e)
first_above g i (c ∷ cs) d ds u e = go (eqb g c.group) refl (first_above g (suc c.number) cs d ds u.1)
  where
    go : (b : Bool) → eqb g c.group ≡ b → (group_of g cs ≡ d ∷ ds → suc c.number ≤ d.number) → i ≤ d.number
    go true q ih = let n : c.number ≡ d.number = ap con_number (head-is (sym (group-in g c cs q) ∙ e)) in omega (arith, u.0, n)
    go false q ih = omega (arith, u.0, ih (sym (group-out g c cs q) ∙ e))

-- without it the rest of the group is left
pub group-rest : (g i : ℕ) (cs : List Constraint) (d : Constraint) (ds : List Constraint) → Up i (map con_number cs) → group_of g cs ≡ d ∷ ds → group_of g (drop_constraint d.number cs) ≡ ds
unfolding group_of
group-rest g i [] d ds u e = absurd (no-first e)
group-rest g i (c ∷ cs) d ds u e = go (eqb g c.group) refl (group-rest g (suc c.number) cs d ds u.1)
  where
    go : (b : Bool) → eqb g c.group ≡ b → (group_of g cs ≡ d ∷ ds → group_of g (drop_constraint d.number cs) ≡ ds) → group_of g (drop_constraint d.number (c ∷ cs)) ≡ ds
    go true q ih =
        let r = sym (group-in g c cs q) ∙ e in
        let n : d.number ≡ c.number = sym (ap con_number (head-is r)) in
        ap (λ (m : ℕ). group_of g (drop_constraint m (c ∷ cs))) n ∙ ap (group_of g) (drop-first c cs) ∙ tail-is r
    go false q ih =
        let r = sym (group-out g c cs q) ∙ e in
        let h = first_above g (suc c.number) cs d ds u.1 r in
        ap (group_of g) (drop_past d.number c cs (λ n. omega (arith, h, n))) ∙ group-out g c (drop_constraint d.number cs) q ∙ ih r

-- ---- one turn

module _ (g b : ℕ) (s : State) (r : Reads s) (d : Constraint) (ds : List Constraint) (group : group_of g s.constraints ≡ d ∷ ds) (can : Removable (group_of g s.constraints) s) where
  abbrev one : Result
  one = remove d.number b s

  first : Removable (d ∷ ds) s
  first = subst (λ (cs : List Constraint). Removable cs s) group can

  one-is : one ≡ remove_stored d.number d b s
  one-is = remove-found d ds b s first

  -- 25 was tested once for all of them: the one removal's own tests pass
  pub turn-tested : first_refusal (remove_tests d.number s) ≡ none
  turn-tested = first-tested d ds b s first

  turn_is : dropping g b s ≡ onward one (remove_all ds (b - one.answer.pivots) one.state)
  turn_is = rw group (unfold remove_all in rw one-is refl)

  pub turn-refused : eqb one.answer.number 0 ≡ false → dropping g b s ≡ one
  turn-refused e = turn_is ∙ (unfold onward in rw (e, onward) refl)

  pub turn-spent : one.answer.pivots ≤ b
  turn-spent = within-budget (removes d.number b) s

  module _ (on : eqb one.answer.number 0 ≡ true) where
    stored_on : (remove_stored d.number d b s).answer.number ≡ 0
    stored_on = ap (λ (r : Result). r.answer.number) (sym one-is) ∙ eqb-true one.answer.number 0 on

    left : one.state.constraints ≡ drop_constraint d.number s.constraints
    left = ap (λ (r : Result). r.state.constraints) one-is ∙ removed-constraints d ds b s first stored_on

    rest : group_of g one.state.constraints ≡ ds
    rest = ap (group_of g) left ∙ group-rest g 0 s.constraints d ds r.constraints-up group

    -- the others find room still
    pub turn-removable : Removable (group_of g one.state.constraints) one.state
    turn-removable = rw rest (subst (λ (q : Result). Removable ds q.state) (sym one-is) (others-removable d ds b s first r stored_on))

    pub turn-accepted : dropping g b s ≡ later one.answer.pivots (dropping g (b - one.answer.pivots) one.state)
    turn-accepted = turn_is ∙ rw rest (unfold onward in rw (on, onward) refl)

    -- a constraint less is left
    pub turn-fewer : length one.state.constraints < length s.constraints
    turn-fewer =
        let n = drop-length con_number d.number s.constraints d (sym (find_constraint-is d.number s.constraints) ∙ first_found d ds b s first) in
        let m : length one.state.constraints ≡ length (drop_constraint d.number s.constraints) = ap length left in
        omega (arith, n, m, ap length (drop_constraint-is d.number s.constraints))

-- none of the group is left
pub dropping-ended : (g b : ℕ) (s : State) → group_of g s.constraints ≡ [] → dropping g b s ≡ record { answer = record { number = 0; pivots = 0; whole = s.whole }; state = s }
dropping-ended g b s e = rw e (unfold remove_all in refl)

-- ---- the group in a list that is read place by place

module _ (g : ℕ) (f : ℕ → Constraint) where
  pub group-first : (i n j : ℕ) → i ≤ j → j < i + n → ((k : ℕ) → i ≤ k → k < j → eqb g (f k).group ≡ false) → eqb g (f j).group ≡ true → (ds : List Constraint) × (group_of g (tab f i n) ≡ f j ∷ ds)
  unfolding tab
  group-first i zero j a b h e = absurd (omega (arith, a, b))
  group-first i (suc n) j a b h e = go (same? i j) (group-first (suc i) n j)
    where
      go : Same? i j
          → (suc i ≤ j → j < suc i + n → ((k : ℕ) → suc i ≤ k → k < j → eqb g (f k).group ≡ false) → eqb g (f j).group ≡ true → (ds : List Constraint) × (group_of g (tab f (suc i) n) ≡ f j ∷ ds))
          → (ds : List Constraint) × (group_of g (f i ∷ tab f (suc i) n) ≡ f j ∷ ds)
      go (is _ q _) ih = (group_of g (tab f (suc i) n), group-in g (f i) (tab f (suc i) n) (rw q e) ∙ rw q refl)
      go (isnt _ q _) ih =
          let r = ih (omega (arith, a, q)) (omega (arith, b)) (λ k x y. h k (omega (arith, x)) y) e in
          (r.0, group-out g (f i) (tab f (suc i) n) (h i (omega arith) (omega (arith, a, q))) ∙ r.1)

-- ---- the call

pub drop-passed : (g b : ℕ) (s : State) → first_refusal (drop_tests g s) ≡ none → drop_group g b s ≡ all_or_none s (dropping g b s)
drop-passed g b s e = unfold drop_group in rw (e, drop_group) refl

pub drop-accepted : (g b : ℕ) (s : State) → first_refusal (drop_tests g s) ≡ none → eqb (dropping g b s).answer.number 0 ≡ true → drop_group g b s ≡ dropping g b s
drop-accepted g b s e on = drop-passed g b s e ∙ (unfold all_or_none in rw (on, all_or_none) refl)

pub drop-answers : (g b : ℕ) (s : State) → first_refusal (drop_tests g s) ≡ none → (drop_group g b s).answer ≡ (dropping g b s).answer
unfolding all_or_none
drop-answers g b s e = ap (λ (r : Result). r.answer) (drop-passed g b s e) ∙ go (eqb (dropping g b s).answer.number 0)
  where
    go : (t : Bool) → (elim t as (λ _. Result) [ true ↦ dropping g b s | false ↦ refused_by (dropping g b s).answer.number (dropping g b s).answer.pivots (dropping g b s).answer.whole s ]).answer ≡ (dropping g b s).answer
    go true = refl
    go false = unfold refused_by in refl
