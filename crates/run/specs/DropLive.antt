-- What is live after a drop: taking away each constraint of the group, one after the other, leaves what is live without the group. Assumes nothing.
use Rattle.std.specs.Prelude.{◌≡◌, refl, ◌≢◌, List, [], ◌∷◌, map, Bool, true, false, ◌||◌, ℕ, suc, ◌≤◌, T, eqb}
use Rattle.std.proofs.Common.{sym, ap, ◌∙◌, subst, arith, eqb→eq}
use Rattle.std.proofs.Math.Option.{Option, none, some}
use Rattle.std.proofs.Math.Dec.{eqb_refl}
use Rattle.simplex.specs.Choose.{All, all_map}
use Rattle.steps.specs.State.{Constraint, Edit}
use Rattle.steps.specs.Tests.{group_of, find_constraint, find_edit}
use Rattle.keeps.specs.Lists as keeps
use Rattle.keeps.specs.Lookup.{eq_no, eq_yes}
use Rattle.keeps.specs.Reads.{con_number}
use Rattle.keeps.specs.Groups.{group-all}
use Rattle.run.specs.Demand.{Key, of_constraint, of_edit, same_key, Demand, without, without_group, Moment}
use Rattle.run.specs.Inv.{Held, find_held, Once, ConstraintAt, EditAt, Inv}
use Rattle.run.specs.Perm.{each-found}

-- each of these taken away
unfoldable pub without_each : List Constraint → List Demand → List Demand
without_each [] cs = cs
without_each (d ∷ ds) cs = without_each ds (without (of_constraint d.number) cs)

-- one of these has the key
named : List Constraint → Key → Bool
named [] k = false
named (d ∷ ds) k = same_key (of_constraint d.number) k || named ds k

-- those that none of these has the key of
out_each : List Constraint → List Demand → List Demand
out_each ds [] = []
out_each ds (c ∷ cs) = elim (named ds c.key) [ true ↦ out_each ds cs | false ↦ c ∷ out_each ds cs ]

-- no two have one key
abbrev OnceD : List Demand → Type 0
OnceD [] = Unit
OnceD (c ∷ cs) = All (λ (d : Demand). same_key c.key d.key ≡ false) cs × OnceD cs

-- ---- one after the other is all at once

same_keys : (j k : Key) → same_key j k ≡ true → j ≡ k
unfolding same_key
same_keys (of_constraint m) (of_constraint n) e = ap of_constraint (eqb→eq m n (subst T (sym e) tt))
same_keys (of_constraint m) (of_edit n) e = absurd (subst T (sym e) tt)
same_keys (of_edit m) (of_constraint n) e = absurd (subst T (sym e) tt)
same_keys (of_edit m) (of_edit n) e = ap of_edit (eqb→eq m n (subst T (sym e) tt))

out_none : (cs : List Demand) → out_each [] cs ≡ cs
unfolding out_each named
out_none [] = refl
out_none (c ∷ cs) = ap (λ (x : List Demand). c ∷ x) (out_none cs)

-- one that no demand has the key of
out-other : (d : Constraint) (ds : List Constraint) (cs : List Demand) → All (λ (c : Demand). same_key (of_constraint d.number) c.key ≡ false) cs → out_each (d ∷ ds) cs ≡ out_each ds cs
unfolding out_each named
out-other d ds [] a = refl
out-other d ds (c ∷ cs) a =
    ap (λ (b : Bool). elim (b || named ds c.key) as (λ _. List Demand) [ true ↦ out_each (d ∷ ds) cs | false ↦ c ∷ out_each (d ∷ ds) cs ]) a.0
    ∙ ap (λ (x : List Demand). elim (named ds c.key) as (λ _. List Demand) [ true ↦ x | false ↦ c ∷ x ]) (out-other d ds cs a.1)

out_first : (d : Constraint) (ds : List Constraint) (cs : List Demand) → OnceD cs → out_each ds (without (of_constraint d.number) cs) ≡ out_each (d ∷ ds) cs
unfolding out_each named without
out_first d ds [] o = refl
out_first d ds (c ∷ cs) o = go (same_key (of_constraint d.number) c.key) refl (out_first d ds cs o.1)
  where
    k : Key
    k = of_constraint d.number

    go : (b : Bool) → same_key k c.key ≡ b → out_each ds (without k cs) ≡ out_each (d ∷ ds) cs
        → out_each ds (elim b as (λ _. List Demand) [ true ↦ cs | false ↦ c ∷ without k cs ]) ≡ elim (b || named ds c.key) as (λ _. List Demand) [ true ↦ out_each (d ∷ ds) cs | false ↦ c ∷ out_each (d ∷ ds) cs ]
    go true e ih = sym (out-other d ds cs (subst (λ (j : Key). All (λ (x : Demand). same_key j x.key ≡ false) cs) (sym (same_keys k c.key e)) o.0))
    go false e ih = ap (λ (x : List Demand). elim (named ds c.key) as (λ _. List Demand) [ true ↦ x | false ↦ c ∷ x ]) ih

without_all : (P : Demand → Type 0) (k : Key) (cs : List Demand) → All P cs → All P (without k cs)
unfolding without
without_all P k [] a = tt
without_all P k (c ∷ cs) a = go (same_key k c.key) (without_all P k cs a.1)
  where
    go : (b : Bool) → All P (without k cs) → All P (elim b as (λ _. List Demand) [ true ↦ cs | false ↦ c ∷ without k cs ])
    go true ih = a.1
    go false ih = (a.0, ih)

without-once : (k : Key) (cs : List Demand) → OnceD cs → OnceD (without k cs)
unfolding without
without-once k [] o = tt
without-once k (c ∷ cs) o = go (same_key k c.key) (without-once k cs o.1)
  where
    go : (b : Bool) → OnceD (without k cs) → OnceD (elim b as (λ _. List Demand) [ true ↦ cs | false ↦ c ∷ without k cs ])
    go true ih = o.1
    go false ih = (without_all (λ (d : Demand). same_key c.key d.key ≡ false) k cs o.0, ih)

each-out : (ds : List Constraint) (cs : List Demand) → OnceD cs → without_each ds cs ≡ out_each ds cs
unfolding without_each
each-out [] cs o = sym (out_none cs)
each-out (d ∷ ds) cs o = each-out ds (without (of_constraint d.number) cs) (without-once (of_constraint d.number) cs o) ∙ out_first d ds cs o

-- ---- those of a group are named by it

group-out : (g : ℕ) (ds : List Constraint) (cs : List Demand) → All (λ (c : Demand). named ds c.key ≡ eqb g c.group) cs → out_each ds cs ≡ without_group g cs
unfolding out_each without_group
group-out g ds [] a = refl
group-out g ds (c ∷ cs) a =
    ap (λ (b : Bool). elim b as (λ _. List Demand) [ true ↦ out_each ds cs | false ↦ c ∷ out_each ds cs ]) a.0
    ∙ ap (λ (x : List Demand). elim (eqb g c.group) as (λ _. List Demand) [ true ↦ x | false ↦ c ∷ x ]) (group-out g ds cs a.1)

-- no constraint has an edit's key
edit-unnamed : (ds : List Constraint) (v : ℕ) → named ds (of_edit v) ≡ false
unfolding named same_key
edit-unnamed [] v = refl
edit-unnamed (d ∷ ds) v = edit-unnamed ds v

unnamed : (n : ℕ) (ds : List Constraint) → keeps.All (λ (e : Constraint). n ≢ e.number) ds → named ds (of_constraint n) ≡ false
unfolding named same_key
unnamed n [] a = refl
unnamed n (d ∷ ds) a = ap (λ (b : Bool). b || named ds (of_constraint n)) (eq_no d.number n (λ e. a.0 (sym e))) ∙ unnamed n ds a.1

above : (i n : ℕ) (cs : List Constraint) → n ≤ i → keeps.Up (suc i) (map con_number cs) → keeps.All (λ (c : Constraint). n ≢ c.number) cs
above i n [] l u = tt
above i n (c ∷ cs) l u = ((λ e. omega (arith, u.0, e)), above c.number n cs (omega (arith, u.0)) u.1)

group-named : (g n i : ℕ) (cs : List Constraint) (c : Constraint) → keeps.Up i (map con_number cs) → find_constraint n cs ≡ some c → named (group_of g cs) (of_constraint n) ≡ eqb g c.group
unfolding find_constraint group_of named same_key
group-named g n i [] c u e = absurd (keeps.none≢some e)
group-named g n i (x ∷ xs) c u e = by_number (eqb n x.number) refl e (group-named g n (suc x.number) xs c u.1)
  where
    at : Bool → List Constraint
    at t = elim t as (λ _. List Constraint) [ true ↦ x ∷ group_of g xs | false ↦ group_of g xs ]

    own : n ≡ x.number → (t : Bool) → named (at t) (of_constraint n) ≡ t
    own p true = ap (λ (b : Bool). b || named (group_of g xs) (of_constraint n)) (ap (λ (k : ℕ). eqb x.number k) p ∙ eq_yes x.number)
    own p false = unnamed n (group_of g xs) (group-all (λ (e : Constraint). n ≢ e.number) g xs (above x.number n xs (omega (arith, p)) u.1))

    other : n ≢ x.number → (t : Bool) → named (at t) (of_constraint n) ≡ named (group_of g xs) (of_constraint n)
    other p true = ap (λ (b : Bool). b || named (group_of g xs) (of_constraint n)) (eq_no x.number n (λ q. p (sym q)))
    other p false = refl

    by_number : (b : Bool) → eqb n x.number ≡ b → elim b as (λ _. Option Constraint) [ true ↦ some x | false ↦ find_constraint n xs ] ≡ some c
        → (find_constraint n xs ≡ some c → named (group_of g xs) (of_constraint n) ≡ eqb g c.group) → named (at (eqb g x.group)) (of_constraint n) ≡ eqb g c.group
    by_number true q e ih = own (eqb→eq n x.number (subst T (sym q) tt)) (eqb g x.group) ∙ ap (λ (y : Constraint). eqb g y.group) (keeps.some-injective e)
    by_number false q e ih = other (λ p. subst T q (subst (λ (k : ℕ). T (eqb n k)) p (eqb_refl n))) (eqb g x.group) ∙ ih e

-- ---- what is live

once-live : (hs : List Held) → Once hs → OnceD (map (λ (h : Held). h.demand) hs)
once-live [] o = tt
once-live (h ∷ hs) o = (go hs o.0, once-live hs o.1)
  where
    go : (xs : List Held) → All (λ (x : Held). same_key h.demand.key x.demand.key ≡ false) xs → All (λ (d : Demand). same_key h.demand.key d.key ≡ false) (map (λ (x : Held). x.demand) xs)
    go [] a = tt
    go (x ∷ xs) a = (a.0, go xs a.1)

over-held : (P : Demand → Type 0) (hs : List Held) → All (λ (h : Held). P h.demand) hs → All P (map (λ (h : Held). h.demand) hs)
over-held P [] a = tt
over-held P (h ∷ hs) a = (a.0, over-held P hs a.1)

pub group-live : (m : Moment) → Inv m → keeps.Up 0 (map con_number m.state.constraints) → (g : ℕ) → g ≢ 0 → without_each (group_of g m.state.constraints) m.live ≡ without_group g m.live
group-live m I u g nz =
    subst (λ (l : List Demand). without_each ds l ≡ without_group g l) (sym I.live)
    (each-out ds (map (λ (h : Held). h.demand) I.held) (once-live I.held I.once) ∙ group-out g ds (map (λ (h : Held). h.demand) I.held) (over-held (λ (c : Demand). named ds c.key ≡ eqb g c.group) I.held (all_map (λ (h : Held) f. is h h.demand.key f) I.held (each-found I.held I.once))))
  where
    cs : List Constraint
    cs = m.state.constraints

    ds : List Constraint
    ds = group_of g cs

    is : (h : Held) (k : Key) → find_held k I.held ≡ some h → named ds k ≡ eqb g h.demand.group
    is h (of_constraint n) f = stored (find_constraint n cs) refl (subst (ConstraintAt (find_constraint n cs)) f (I.constraints n))
      where
        stored : (o : Option Constraint) → find_constraint n cs ≡ o → ConstraintAt o (some h) → named ds (of_constraint n) ≡ eqb g h.demand.group
        stored none e a = absurd a
        stored (some c) e a = group-named g n 0 cs c u e ∙ ap (eqb g) a.group
    is h (of_edit v) f = edited (find_edit v m.state.edits) (subst (EditAt v (find_edit v m.state.edits)) f (I.edits v))
      where
        edited : (o : Option Edit) → EditAt v o (some h) → named ds (of_edit v) ≡ eqb g h.demand.group
        edited none a = absurd a
        edited (some e) a = edit-unnamed ds v ∙ sym (ap (eqb g) a.group ∙ eq_no g 0 nz)
