-- What calls that name no group but 1 leave: constraints of group 1 alone. Assumes nothing.
use Rattle.std.specs.Prelude.{ℕ, zero, suc, ◌≡◌, refl, List, [], ◌∷◌}
use Rattle.std.proofs.Common.{subst, sym, arith}
use Rattle.laws.specs.Lists.{tab, list_of}
use Rattle.steps.specs.State.{Constraint, Edit, State, strength_of, comparison_of}
use Rattle.steps.specs.Tests.{group_of, kept_terms}
use Rattle.steps.specs.Changing.{Changing, adds, removes, drops, adds_edit, removes_edit, suggests, made, drop_each, Stores}
use Rattle.steps.proofs.Refusals.{refusal-keeps}
use Rattle.steps.proofs.Stored.{accepted-stores}
use Rattle.keeps.specs.Lists.{All}
use Rattle.keeps.specs.Keys.{keep_all, drop_all, keep_constraint-is, drop_constraint-is}
use Rattle.keeps.specs.Reads.{con_number}
use Rattle.lasting.specs.layouts.Written.{OneGroup}

all-from : {A : Type 0} (P : A → Type 0) (f : ℕ → A) → ((j : ℕ) → P (f j)) → (i m : ℕ) → All P (tab f i m)
unfolding tab
all-from P f h i zero = tt
all-from P f h i (suc m) = (h i, all-from P f h (suc i) m)

pub all_listed : {A : Type 0} (P : A → Type 0) (n : ℕ) (f : ℕ → A) → ((j : ℕ) → P (f j)) → All P (list_of n f)
unfolding list_of
all_listed P n f h = all-from P f h 0 n

-- an add names group 1; a drop may name any
abbrev pub NamesOne : Changing → Type 0
NamesOne (adds g n terms constant relation budget) = g ≡ 1
NamesOne (removes n budget) = Unit {0}
NamesOne (drops g budget) = Unit {0}
NamesOne (adds_edit n strength budget) = Unit {0}
NamesOne (removes_edit n budget) = Unit {0}
NamesOne (suggests n new budget) = Unit {0}

abbrev InOne : Constraint → Type 0
InOne c = c.group ≡ 1

each-dropped : (ds cs : List Constraint) → All InOne cs → All InOne (drop_each ds cs)
unfolding drop_each
each-dropped [] cs h = h
each-dropped (d ∷ ds) cs h = each-dropped ds _ (rw drop_constraint-is (drop_all con_number InOne d.number cs h))

stored : (c : Changing) (s : State) (cs : List Constraint) (es : List Edit) → NamesOne c → OneGroup s → Stores c s cs es → All InOne cs
stored (adds g n terms constant relation budget) s cs es one h (tag, e, _) =
    rw (e, keep_constraint-is) (keep_all con_number InOne (record { number = n; group = g; comparison = comparison_of relation; strength = strength_of relation; constant = constant; terms = kept_terms s.tableau.cutoff terms; tag = tag }) s.constraints one h)
stored (removes n budget) s cs es one h (e, _) = rw (e, drop_constraint-is) (drop_all con_number InOne n s.constraints h)
stored (drops g budget) s cs es one h (e, _) = rw e (each-dropped (group_of g s.constraints) s.constraints h)
stored (adds_edit n strength budget) s cs es one h (tag, e, _) = rw e h
stored (removes_edit n budget) s cs es one h (e, _) = rw e h
stored (suggests n new budget) s cs es one h (x, f, e, _) = rw e h

pub group-stays : (c : Changing) (s : State) → NamesOne c → OneGroup s → OneGroup (made c s).state
group-stays c s one h = go (made c s).answer.number refl
  where
    go : (k : ℕ) → (made c s).answer.number ≡ k → OneGroup (made c s).state
    go zero e = stored c s (made c s).state.constraints (made c s).state.edits one h (accepted-stores c s e)
    go (suc k) e = subst OneGroup (sym (refusal-keeps c s (λ z. omega (arith, e, z)))) h
