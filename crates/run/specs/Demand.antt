-- Demand 2 in document 01's words, for a reader who knows Cassowary and not antt. A run is a list of calls, made one after the other from a reset
-- with some cutoff on. What is live is read off the calls alone: each accepted add or add edit puts one demand in front, each accepted removal takes it away, an accepted drop
-- those of its group, each accepted suggestion moves the aim of its edit. A number that a caller hands in is a whole number z when its f64 is worth z. An assignment by
-- fractions gives each variable v the fraction x v / d with one whole denominator d above 0; sums, errors and tests below are taken times d, so
-- that they are whole numbers and nothing is ever divided. Nothing here speaks of rows, symbols or pivots.
use Rattle.std.specs.Prelude.{ℕ, ◌≡◌, Bool, true, false, not, cond, List, [], ◌∷◌, map, eqb, ℤ, pos, negsuc, neg_ℤ, nat_abs, ◌+ℤ◌, ◌*ℤ◌, Float}
use Rattle.std.specs.Float.Ieee.{neg, lt}
use Rattle.laws.specs.Z.{◌≼◌, ◌≺◌}
use Rattle.laws.specs.exact.Whole.{val}
use Rattle.steps.specs.Number.{zero64, is_whole}
use Rattle.steps.specs.Strength.{required, clip}
use Rattle.steps.specs.State.{Term, Relation, at_most, equal, at_least, strength_of, State}
use Rattle.steps.specs.Edit.{edit_terms}
use Rattle.steps.specs.Changes.{value, fetch_changes}
use Rattle.steps.specs.Calls.{Answer, Result, empty, reset, add, remove, drop_group, add_edit, remove_edit, suggest}

-- ---- what is live

-- whose demand it is: the constraint with this number, or the edit of this variable
pub data Key : Type 0 where
  of_constraint of_edit : ℕ → Key

unfoldable pub same_key : Key → Key → Bool
same_key (of_constraint m) (of_constraint n) = eqb m n
same_key (of_constraint m) (of_edit n) = false
same_key (of_edit m) (of_constraint n) = false
same_key (of_edit m) (of_edit n) = eqb m n

-- a live constraint as it was asked for: "sum of terms plus constant, related to zero"
pub record Demand : Type 0 where
  pub key : Key
  -- "edits are in group 0"
  pub group : ℕ
  pub terms : List Term
  pub constant : Float
  pub relation : Relation

-- "an edit aims at its last suggestion": its variable less the suggestion is to be zero
unfoldable pub aim : ℕ → Float → Float → Demand
aim v strength suggestion = record { key = of_edit v; group = 0; terms = edit_terms v; constant = neg suggestion; relation = equal strength }

unfoldable pub without : Key → List Demand → List Demand
without k [] = []
without k (c ∷ cs) = elim (same_key k c.key) [ true ↦ cs | false ↦ c ∷ without k cs ]

-- the demands of a group go
unfoldable pub without_group : ℕ → List Demand → List Demand
without_group g [] = []
without_group g (c ∷ cs) = elim (eqb g c.group) [ true ↦ without_group g cs | false ↦ c ∷ without_group g cs ]

-- the demand k with another suggestion
unfoldable pub moved : ℕ → Float → Demand → Demand
moved v suggestion c =
    elim (same_key (of_edit v) c.key)
    [ true ↦ record { key = c.key; group = c.group; terms = c.terms; constant = neg suggestion; relation = c.relation } | false ↦ c ]

-- ---- calls and runs

pub data Call : Type 0 where
  -- cutoff
  resets : Float → Call
  fetches : Call
  -- group, number, terms, constant, relation, budget
  adds : ℕ → ℕ → List Term → Float → Relation → ℕ → Call
  -- number, budget
  removes : ℕ → ℕ → Call
  -- group, budget
  drops : ℕ → ℕ → Call
  -- variable, strength, budget
  adds_edit : ℕ → Float → ℕ → Call
  -- variable, budget
  removes_edit : ℕ → ℕ → Call
  -- variable, suggestion, budget
  suggests : ℕ → Float → ℕ → Call

-- what a call answers and leaves; a fetch is no changing call: it answers its list, which counts as accepted here, with the stored mark
unfoldable pub make : Call → State → Result
make (resets z) s = reset z s
make fetches s = record { answer = record { number = 0; pivots = 0; whole = s.whole }; state = (fetch_changes s).state }
make (adds g n ts k r b) s = add g n ts k r b s
make (removes n b) s = remove n b s
make (drops g b) s = drop_group g b s
make (adds_edit v k b) s = add_edit v k b s
make (removes_edit v b) s = remove_edit v b s
make (suggests v x b) s = suggest v x b s

-- what is live after an accepted call
unfoldable pub accepted : Call → List Demand → List Demand
accepted (resets z) cs = []
accepted fetches cs = cs
accepted (adds g n ts k r b) cs = record { key = of_constraint n; group = g; terms = ts; constant = k; relation = r } ∷ cs
accepted (removes n b) cs = without (of_constraint n) cs
accepted (drops g b) cs = without_group g cs
accepted (adds_edit v k b) cs = aim v (clip k) zero64 ∷ cs
accepted (removes_edit v b) cs = without (of_edit v) cs
accepted (suggests v x b) cs = map (moved v x) cs

-- "A refusal changes no table"
unfoldable pub live_after : Call → Answer → List Demand → List Demand
live_after c a cs = cond (eqb a.number 0) (accepted c cs) cs

pub record Moment : Type 0 where
  pub state : State
  pub live : List Demand

unfoldable pub next : Call → Moment → Moment
next c m = record { state = (make c m.state).state; live = live_after c (make c m.state).answer m.live }

-- Demands 2 and 3 read "from a reset with this cutoff".
unfoldable pub start : Float → Moment
start cutoff = record { state = empty cutoff; live = [] }

-- "A "run" starts at a reset and goes on by these calls." The last call stands first in the list.
unfoldable pub after : Float → List Call → Moment
after cutoff [] = start cutoff
after cutoff (c ∷ cs) = next c (after cutoff cs)

-- "A run is whole while every changing call, refused ones too, answers yes."
abbrev pub Whole : Float → List Call → Type 0
Whole cutoff [] = Unit
Whole cutoff (c ∷ cs) = Whole cutoff cs × ((make c (after cutoff cs).state).answer.whole ≡ true)

-- ---- the problem

-- the sum of the terms at x
unfoldable pub sum_of : List Term → (ℕ → ℤ) → ℤ
sum_of [] x = pos 0
sum_of (t ∷ ts) x = val t.coefficient *ℤ x t.variable +ℤ sum_of ts x

-- "sum of terms plus constant", times d
unfoldable pub excess : Demand → ℤ → (ℕ → ℤ) → ℤ
excess c d x = sum_of c.terms x +ℤ val c.constant *ℤ d

unfoldable pub is_required : Relation → Bool
is_required r = not (lt (strength_of r) required)

unfoldable pub Related : Relation → ℤ → Type 0
Related (at_most s) e = e ≼ pos 0
Related (equal s) e = e ≡ pos 0
Related (at_least s) e = pos 0 ≼ e

-- the assignment x / d meets every required demand
abbrev pub Meets : List Demand → ℤ → (ℕ → ℤ) → Type 0
Meets [] d x = Unit
Meets (c ∷ cs) d x = (is_required c.relation ≡ true → Related c.relation (excess c d x)) × Meets cs d x

-- max(0, e)
unfoldable pub above : ℤ → ℤ
above (pos n) = pos n
above (negsuc n) = pos 0

-- "Error is max(0, e) for at most, max(0, -e) for at least, |e| for equal"
unfoldable pub error_of : Relation → ℤ → ℤ
error_of (at_most s) e = above e
error_of (equal s) e = pos (nat_abs e)
error_of (at_least s) e = above (neg_ℤ e)

-- the weighted error of the demands that are not required, times d
unfoldable pub weighted : List Demand → ℤ → (ℕ → ℤ) → ℤ
weighted [] d x = pos 0
weighted (c ∷ cs) d x =
    elim (is_required c.relation)
    [ true ↦ weighted cs d x | false ↦ val (strength_of c.relation) *ℤ error_of c.relation (excess c d x) +ℤ weighted cs d x ]

-- ---- demand 2: the values are whole, meet every required demand exactly, and no assignment by fractions that meets them has less weighted error

unfoldable pub values : State → ℕ → ℤ
values s v = val (value v s)

pub record Best (m : Moment) : Type 0 where
  pub whole : (v : ℕ) → is_whole (value v m.state) ≡ true
  pub meets : Meets m.live (pos 1) (values m.state)
  pub least : (d : ℤ) (x : ℕ → ℤ) → pos 0 ≺ d → Meets m.live d x → weighted m.live (pos 1) (values m.state) *ℤ d ≼ weighted m.live d x

-- no assignment by fractions meets the required demands
abbrev pub None : List Demand → Type 0
None cs = (d : ℤ) (x : ℕ → ℤ) → pos 0 ≺ d → Meets cs d x → ⊥
