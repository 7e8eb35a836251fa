-- A group dropped: each of its constraints is found where its removal comes, and the state that is left reads. Assumes nothing.
use Rattle.std.specs.Prelude.{◌≡◌, ◌≢◌, Bool, true, false, ℕ, zero, suc, ◌-◌, ◌≤◌, eqb, length}
use Rattle.std.proofs.Math.Path.{refl, subst}
use Rattle.std.proofs.Common.{sym, ap, ◌∙◌, arith}
use mathlib.Core.List.{List, [], ◌∷◌, map}
use Rattle.std.proofs.Math.Option.{Option, none, some}
use Rattle.std.proofs.Math.Dec.{eqb-suc-zero}
use Rattle.steps.specs.State.{Constraint, State}
use Rattle.steps.specs.Tests.{◌if◌, first_refusal, has_constraint, remove_tests, drop_tests, group_of, terms_of, gone_full, find_constraint, drop_constraint}
use Rattle.steps.specs.Calls.{Result, refused_by, unless_full, remove, remove_stored, onward, remove_all, all_or_none, drop_group}
use Rattle.steps.specs.Changing.{removes}
use Rattle.steps.proofs.Stored.{accepted-stores}
use Rattle.keeps.specs.Lists.{All, all-to, Up, none≢some}
use Rattle.keeps.specs.Keys.{drop_constraint-is, find_constraint-is}
use Rattle.keeps.specs.Lookup.{eq_no, eq_yes, find-drop-other}
use Rattle.keeps.specs.Reads.{Reads, con_number}
use Rattle.keeps.specs.Waits.{entries_by, entries-more, not_full, has_room}
use Rattle.keeps.specs.Removal.{stored-kept, stored-entries}

-- the constraint is the one that is found by its number
abbrev pub Found : List Constraint → Constraint → Type 0
Found cs d = find_constraint d.number cs ≡ some d

-- no other of the list has its number
abbrev pub Apart : List Constraint → Type 0
Apart [] = Unit
Apart (d ∷ ds) = All (λ (e : Constraint). d.number ≢ e.number) ds × Apart ds

-- ---- a list by ascending number

pub above : (i : ℕ) (cs : List Constraint) → Up i (map con_number cs) → All (λ (c : Constraint). i ≤ c.number) cs
above i [] u = tt
above i (c ∷ cs) u = (u.0, all-to (λ (d : Constraint). suc c.number ≤ d.number) (λ (d : Constraint). i ≤ d.number) (λ d h. omega (arith, h, u.0)) cs (above (suc c.number) cs u.1))

found-later : (c : Constraint) (cs ds : List Constraint) → All (λ (d : Constraint). suc c.number ≤ d.number) ds → All (Found cs) ds → All (Found (c ∷ cs)) ds
unfolding find_constraint
found-later c cs [] a h = tt
found-later c cs (d ∷ ds) a h = (rw (eq_no d.number c.number (λ e. omega (arith, a.0, e)), find_constraint) h.0, found-later c cs ds a.1 h.1)

found-each : (i : ℕ) (cs : List Constraint) → Up i (map con_number cs) → All (Found cs) cs
unfolding find_constraint
found-each i [] u = tt
found-each i (c ∷ cs) u = (rw (eq_yes c.number, find_constraint) refl, found-later c cs cs (above (suc c.number) cs u.1) (found-each (suc c.number) cs u.1))

apart-each : (i : ℕ) (cs : List Constraint) → Up i (map con_number cs) → Apart cs
apart-each i [] u = tt
apart-each i (c ∷ cs) u =
    (all-to (λ (d : Constraint). suc c.number ≤ d.number) (λ (d : Constraint). c.number ≢ d.number) (λ d h e. omega (arith, h, e)) cs (above (suc c.number) cs u.1), apart-each (suc c.number) cs u.1)

-- ---- those of a group

pub group-all : (P : Constraint → Type 0) (g : ℕ) (cs : List Constraint) → All P cs → All P (group_of g cs)
unfolding group_of
group-all P g [] a = tt
group-all P g (c ∷ cs) a = go (eqb g c.group) (group-all P g cs a.1)
  where
    go : (t : Bool) → All P (group_of g cs) → All P (elim t as (λ _. List Constraint) [ true ↦ c ∷ group_of g cs | false ↦ group_of g cs ])
    go true ih = (a.0, ih)
    go false ih = ih

group-apart : (g : ℕ) (cs : List Constraint) → Apart cs → Apart (group_of g cs)
unfolding group_of
group-apart g [] a = tt
group-apart g (c ∷ cs) a = go (eqb g c.group) (group-apart g cs a.1)
  where
    go : (t : Bool) → Apart (group_of g cs) → Apart (elim t as (λ _. List Constraint) [ true ↦ c ∷ group_of g cs | false ↦ group_of g cs ])
    go true ih = (group-all (λ (e : Constraint). c.number ≢ e.number) g cs a.0, ih)
    go false ih = ih

find_past : (n m : ℕ) (cs : List Constraint) → n ≢ m → find_constraint n (drop_constraint m cs) ≡ find_constraint n cs
find_past n m cs h = ap (find_constraint n) (drop_constraint-is m cs) ∙ find_constraint-is n _ ∙ find-drop-other con_number n m cs h ∙ sym (find_constraint-is n cs)

-- the others are found still
found-on : (m : ℕ) (cs ds : List Constraint) → All (λ (e : Constraint). m ≢ e.number) ds → All (Found cs) ds → All (Found (drop_constraint m cs)) ds
found-on m cs [] a h = tt
found-on m cs (d ∷ ds) a h = (find_past d.number m cs (λ e. a.0 (sym e)) ∙ h.0, found-on m cs ds a.1 h.1)

group-found : (g : ℕ) (cs : List Constraint) → Up 0 (map con_number cs) → All (Found cs) (group_of g cs) × Apart (group_of g cs)
group-found g cs u = (group-all (Found cs) g cs (found-each 0 cs u), group-apart g cs (apart-each 0 cs u))

-- ---- where removals come: each of these is found, no two are the same, and there is room for the gone entries that all of them make

pub record Removable (ds : List Constraint) (s : State) : Type 0 where
  pub found : All (Found s.constraints) ds
  pub apart : Apart ds
  pub room : entries_by (terms_of ds) s.changes ≤ 32

-- a drop's are, once its tests have passed
pub group-removable : (g : ℕ) (s : State) → Reads s → first_refusal (drop_tests g s) ≡ none → Removable (group_of g s.constraints) s
unfolding drop_tests first_refusal
group-removable g s r e = let f = group-found g s.constraints r.constraints-up in record { found = f.0; apart = f.1; room = not_full (terms_of (group_of g s.constraints)) s (third (eqb g 0) (eqb (length (group_of g s.constraints)) 0) (gone_full (terms_of (group_of g s.constraints)) s) e) }
  where
    third : (a b c : Bool) → first_refusal (26 if a ∷ 27 if b ∷ 25 if c ∷ []) ≡ none → c ≡ false
    third true b c e = absurd (none≢some (sym e))
    third false true c e = absurd (none≢some (sym e))
    third false false true e = absurd (none≢some (sym e))
    third false false false e = refl

module _ (d : Constraint) (ds : List Constraint) (b : ℕ) (s : State) (h : Removable (d ∷ ds) s) where
  pub first_found : find_constraint d.number s.constraints ≡ some d
  first_found = h.found.0

  first-room : entries_by d.terms s.changes ≤ 32
  unfolding terms_of
  first-room = omega (arith, entries-more d.terms (terms_of ds) s.changes, h.room)

  -- 25 is not given, so that the removal is made
  pub remove-found : remove d.number b s ≡ remove_stored d.number d b s
  unfolding remove unless_full
  remove-found = rw (first_found, has_room d.terms s first-room, remove, unless_full) refl

  -- its tests pass
  pub first-tested : first_refusal (remove_tests d.number s) ≡ none
  unfolding remove_tests has_constraint first_refusal
  first-tested = rw (first_found, has_constraint) (rw (has_room d.terms s first-room) refl)

  -- what an accepted removal leaves of the constraints
  pub removed-constraints : (remove_stored d.number d b s).answer.number ≡ 0 → (remove_stored d.number d b s).state.constraints ≡ drop_constraint d.number s.constraints
  removed-constraints e =
      ap (λ (r : Result). r.state.constraints) (sym remove-found) ∙ (accepted-stores (removes d.number b) s (ap (λ (r : Result). r.answer.number) remove-found ∙ e)).0

  pub removed-kept : Reads s → Reads (remove_stored d.number d b s).state
  removed-kept r = stored-kept d.number b s d r first_found first-room

  pub others-removable : Reads s → (remove_stored d.number d b s).answer.number ≡ 0 → Removable ds (remove_stored d.number d b s).state
  unfolding terms_of
  others-removable r e =
      record {
        found = subst (λ (cs : List Constraint). All (Found cs) ds) (sym (removed-constraints e)) (found-on d.number s.constraints ds h.apart.0 h.found.1);
        apart = h.apart.1;
        room = omega (arith, stored-entries d.number b s d r first_found first-room e (terms_of ds), h.room);
      }

-- ---- one removal, and those after it

remove_all-kept : (ds : List Constraint) (b : ℕ) (s : State) → Reads s → Removable ds s → Reads (remove_all ds b s).state
unfolding remove_all
remove_all-kept [] b s r h = r
remove_all-kept (d ∷ ds) b s r h = go one.answer.number refl (λ e. remove_all-kept ds (b - one.answer.pivots) one.state left (others-removable d ds b s h r e))
  where
    one : Result
    one = remove_stored d.number d b s

    left : Reads one.state
    left = removed-kept d ds b s h r

    rest : Result
    rest = remove_all ds (b - one.answer.pivots) one.state

    go : (k : ℕ) → one.answer.number ≡ k → (one.answer.number ≡ 0 → Reads rest.state) → Reads (onward one rest).state
    go zero e on = unfold onward in rw (e, onward) (on e)
    go (suc k) e on = unfold onward in rw (e, eqb-suc-zero k, onward) left

pub drop-kept : (g b : ℕ) (s : State) → Reads s → Reads (drop_group g b s).state
unfolding drop_group all_or_none refused_by
drop-kept g b s r = go (first_refusal (drop_tests g s)) refl
  where
    all : Result
    all = remove_all (group_of g s.constraints) b s

    by : first_refusal (drop_tests g s) ≡ none → (t : Bool) → Reads (elim t as (λ _. Result) [ true ↦ all | false ↦ refused_by all.answer.number all.answer.pivots all.answer.whole s ]).state
    by e true = remove_all-kept (group_of g s.constraints) b s r (group-removable g s r e)
    by e false = r

    go : (o : Option ℕ) → first_refusal (drop_tests g s) ≡ o → Reads (elim o as (λ _. Result) [ some x ↦ refused_by x 0 s.whole s | none ↦ all_or_none s all ]).state
    go (some x) e = r
    go none e = by e (eqb all.answer.number 0)
