-- The invariant of a whole run between two calls: the state reads as a tableau of the theory that is feasible, at rest, and models what is live.
-- Definitions only.
use Rattle.std.specs.Prelude.{ℕ, ◌<◌, ◌≤◌, ◌≡◌, ◌≢◌, true, false, cond, List, [], ◌∷◌, map, ℤ}
use Rattle.std.proofs.Math.Option.{Option, none, some}
use Rattle.std.specs.Float.Ieee.{neg, lt}
use Rattle.laws.specs.Z.{◌≼◌}
use Rattle.laws.specs.exact.Whole.{val}
use Rattle.simplex.specs.Ord.{0ℤ}
use Rattle.simplex.specs.Lin.{Vec, δ, plus}
use Rattle.simplex.specs.Choose.{All}
use Rattle.simplex.specs.Opt.{Kind as KindZ, external, slack}
use Rattle.simplex.specs.Pass.{State as StateZ, Good}
use Rattle.simplex.specs.Form.{Form, le!, eq!, ge!, le, eq, ge}
use Rattle.simplex.specs.Problem.{Con, Models}
use Rattle.steps.specs.Number.{below_zero}
use Rattle.steps.specs.Strength.{required}
use Rattle.steps.specs.Symbol.{External, Slack, Error, Dummy, Symbol, absent}
use Rattle.steps.specs.State.{Term, Relation, at_most, equal, at_least, strength_of, Tag, Variable, Constraint, Edit}
use Rattle.steps.specs.Changes.{find_variable}
use Rattle.steps.specs.Add.{whole_inputs}
use Rattle.steps.specs.Tests.{find_constraint, find_edit}
use Rattle.steps.specs.Calls.{begin}
use Rattle.simplex.specs.bridge.Rows.{In}
use Rattle.simplex.specs.bridge.Table.{ReadsWork}
use Rattle.run.specs.Demand.{Key, of_constraint, of_edit, same_key, Demand, Moment}

-- more columns than ids: 11 is refused long before
abbrev pub columns : ℕ
columns = 4_294_967_296

-- a live demand with the symbols that Add gave it
pub record Held : Type 0 where
  pub demand : Demand
  pub tag : Tag

-- the terms that count in a whole run: those whose coefficient is not 0, whatever the cutoff (`kept_whole` in Words.antt)
unfoldable pub non_zero_terms : List Term → List Term
non_zero_terms [] = []
non_zero_terms (t ∷ ts) = elim (absent t.coefficient) [ true ↦ non_zero_terms ts | false ↦ t ∷ non_zero_terms ts ]

-- ---- a demand as the theory's constraint; sym is the column of a variable

unfoldable pub expr_of : (ℕ → ℕ) → List Term → ℤ → Vec
expr_of sym [] k = plus (λ _. 0ℤ) k (δ 0)
expr_of sym (t ∷ ts) k = plus (expr_of sym ts k) (val t.coefficient) (δ (sym t.variable))

unfoldable pub form_of : Relation → Form
form_of (at_most s) = cond (lt s required) le le!
form_of (equal s) = cond (lt s required) eq eq!
form_of (at_least s) = cond (lt s required) ge ge!

unfoldable pub other_id : Option Symbol → ℕ
other_id none = 0
other_id (some o) = o.id

unfoldable pub con_of : (ℕ → ℕ) → Held → Con
con_of sym h =
    record {
      expr = expr_of sym (non_zero_terms h.demand.terms) (val h.demand.constant);
      form = form_of h.demand.relation;
      weight = val (strength_of h.demand.relation);
      marker = h.tag.marker.id;
      other = other_id h.tag.other;
    }

unfoldable pub find_held : Key → List Held → Option Held
find_held k [] = none
find_held k (h ∷ hs) = elim (same_key k h.demand.key) [ true ↦ some h | false ↦ find_held k hs ]

-- "each tag's kinds are those Add gives"
abbrev pub Shaped : Form → Tag → Type 0
Shaped le! t = (t.marker.kind ≡ Slack) × (t.other ≡ none)
Shaped ge! t = (t.marker.kind ≡ Slack) × (t.other ≡ none)
Shaped eq! t = (t.marker.kind ≡ Dummy) × (t.other ≡ none)
Shaped le t = (t.marker.kind ≡ Slack) × ((o : Symbol) × (t.other ≡ some o) × (o.kind ≡ Error))
Shaped ge t = (t.marker.kind ≡ Slack) × ((o : Symbol) × (t.other ≡ some o) × (o.kind ≡ Error))
Shaped eq t = (t.marker.kind ≡ Error) × ((o : Symbol) × (t.other ≡ some o) × (o.kind ≡ Error))

-- ---- what is stored of a demand

pub record StoredAs (c : Constraint) (h : Held) : Type 0 where
  pub group : c.group ≡ h.demand.group
  pub strength : c.strength ≡ strength_of h.demand.relation
  pub terms : c.terms ≡ non_zero_terms h.demand.terms
  pub tag : c.tag ≡ h.tag

abbrev pub ConstraintAt : Option Constraint → Option Held → Type 0
ConstraintAt none none = Unit
ConstraintAt none (some h) = ⊥
ConstraintAt (some c) none = ⊥
ConstraintAt (some c) (some h) = StoredAs c h

-- an edit aims at its stored suggestion
pub record EditedAs (v : ℕ) (e : Edit) (h : Held) : Type 0 where
  pub group : h.demand.group ≡ 0
  pub relation : h.demand.relation ≡ equal e.strength
  pub terms : h.demand.terms ≡ Rattle.steps.specs.Edit.edit_terms v
  pub constant : h.demand.constant ≡ neg e.suggestion
  pub soft : lt e.strength required ≡ true
  pub tag : e.tag ≡ h.tag

abbrev pub EditAt : ℕ → Option Edit → Option Held → Type 0
EditAt v none none = Unit
EditAt v none (some h) = ⊥
EditAt v (some e) none = ⊥
EditAt v (some e) (some h) = EditedAs v e h

-- a live variable's column is its symbol's, which is External and live
abbrev pub VarAt : (ℕ → KindZ) → List Symbol → Option Variable → ℕ → Type 0
VarAt kind xs none c = Unit
VarAt kind xs (some v) c = (v.symbol.id ≡ c) × (v.symbol.kind ≡ External) × In c xs × (kind c ≡ external)

abbrev pub Once : List Held → Type 0
Once [] = Unit
Once (h ∷ hs) = All (λ (g : Held). same_key h.demand.key g.demand.key ≡ false) hs × Once hs

abbrev pub WholeDemand : Held → Type 0
WholeDemand h = (whole_inputs h.demand.terms h.demand.constant h.demand.relation ≡ true) × (below_zero (strength_of h.demand.relation) ≡ false)

pub record Inv (m : Moment) : Type 0 where
  pub kind : ℕ → KindZ
  pub table : StateZ
  -- the column of a variable, and the variable of a column
  pub sym : ℕ → ℕ
  pub name : ℕ → ℕ
  pub held : List Held
  -- ---- the theory
  pub good : Good columns kind table
  pub rest : (j : ℕ) → kind j ≡ slack → 0ℤ ≼ table.o j
  pub models : Models columns kind table.B table.R table.o (map (con_of sym) held)
  -- ---- the state reads as the theory's tableau
  pub whole : m.state.whole ≡ true
  pub reads : ReadsWork kind (begin m.state) table.B table.R table.o (λ _. 0ℤ)
  pub first : 0 < m.state.tableau.next_id
  pub room : m.state.tableau.next_id ≤ columns
  pub ids : (j : ℕ) → In j m.state.tableau.symbols → j < m.state.tableau.next_id
  -- ---- and its names are those of what is live
  pub live : m.live ≡ map (λ (h : Held). h.demand) held
  pub once : Once held
  pub inputs : All WholeDemand held
  pub shaped : All (λ (h : Held). Shaped (form_of h.demand.relation) h.tag) held
  pub constraints : (n : ℕ) → ConstraintAt (find_constraint n m.state.constraints) (find_held (of_constraint n) held)
  pub edits : (v : ℕ) → EditAt v (find_edit v m.state.edits) (find_held (of_edit v) held)
  pub vars : (v : ℕ) → VarAt kind m.state.tableau.symbols (find_variable v m.state.changes.variables) (sym v)
  pub names : (v : ℕ) → find_variable v m.state.changes.variables ≢ none → name (sym v) ≡ v
  pub known : All (λ (h : Held). All (λ (t : Term). find_variable t.variable m.state.changes.variables ≢ none) (non_zero_terms h.demand.terms)) held
