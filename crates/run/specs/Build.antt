-- What Add's steps 1 to 3 leave in a whole run: the created row is the new demand's, on every solution of the tableau, perhaps with all signs reversed; its symbols are new. Definitions only.
use Rattle.std.specs.Prelude.{ℕ, ◌+◌, ◌≤◌, ◌<◌, ◌≡◌, ◌≢◌, List, ◌∷◌, map, length, ℤ, ◌*ℤ◌}
use Rattle.std.proofs.Math.Option.{none, some}
use Rattle.laws.specs.Z.{◌≼◌}
use Rattle.simplex.specs.Ord.{0ℤ, 1ℤ}
use Rattle.simplex.specs.Lin.{Vec, dot}
use Rattle.simplex.specs.Tab.{Solves}
use Rattle.simplex.specs.Basis.{Clear}
use Rattle.simplex.specs.Choose.{All}
use Rattle.simplex.specs.Opt.{Kind as KindZ, external}
use Rattle.simplex.specs.Pass.{State as StateZ, Good}
use Rattle.simplex.specs.Problem.{Models, Sounds, total}
use Rattle.simplex.specs.Run.{left}
use Rattle.simplex.specs.Temp.{Dead}
use Rattle.steps.specs.Number.{all_whole}
use Rattle.steps.specs.Symbol.{Symbol}
use Rattle.steps.specs.State.{Term}
use Rattle.steps.specs.Work.{Work}
use Rattle.steps.specs.Changes.{find_variable}
use Rattle.steps.specs.CreateRow.{Created}
use Rattle.simplex.specs.bridge.Rows.{In, ReadsRow}
use Rattle.simplex.specs.bridge.Table.{Live, ReadsWork}
use Rattle.run.specs.Demand.{Demand}
use Rattle.run.specs.Inv.{non_zero_terms, Held, con_of, form_of, Shaped, VarAt}

-- the variables of the demand's terms that count have symbols
abbrev pub KnownIn : Work → Held → Type 0
KnownIn w h = All (λ (t : Term). find_variable t.variable w.changes.variables ≢ none) (non_zero_terms h.demand.terms)

-- a symbol of the new demand: live, in the created row with 1 or -1, and in no row of the tableau
pub record NewTag (n : ℕ) (old kind : ℕ → KindZ) (S : StateZ) (w : Work) (r : Vec) (s : Symbol) : Type 0 where
  pub was : old s.id ≡ external
  pub live : Live kind w.tableau.symbols s
  pub dead : Dead S s.id
  pub inside : s.id < n
  pub unit : r s.id *ℤ r s.id ≡ 1ℤ

-- the new demand with its symbols
unfoldable pub new_held : Demand → Created → Held
new_held d c = record { demand = d; tag = c.tag }

-- n columns; the tableau (kind, S) of what is held; the new demand d; the work w before the steps, and what they created
pub record Built (n : ℕ) (old : ℕ → KindZ) (S : StateZ) (held : List Held) (d : Demand) (w : Work) (c : Created) : Type 0 where
  pub kind : ℕ → KindZ
  pub column : ℕ → ℕ
  pub name : ℕ → ℕ
  -- the objective with the new errors, and the created row
  pub o : Vec
  pub r : Vec
  -- 1, or -1 where all signs are reversed
  pub g : ℤ
  -- ---- the theory
  pub good : Good n kind (record { B = S.B; R = S.R; o = o })
  pub models : Models n kind S.B S.R S.o (map (con_of column) held)
  pub sounds : Sounds n kind (map (con_of column) (new_held d c ∷ held))
  pub clear : Clear S.B r
  pub sign : g *ℤ g ≡ 1ℤ
  pub row : (σ : Vec) → Solves n S.R σ → dot n r σ ≡ g *ℤ left n σ (con_of column (new_held d c))
  pub worth : (σ : Vec) → Solves n S.R σ → dot n o σ ≡ total (map (con_of column) (new_held d c ∷ held)) σ
  pub up : 0ℤ ≼ r 0
  -- ---- the work reads so
  pub whole : c.work.mark ≡ all_whole
  pub reads : ReadsWork kind c.work S.B S.R o (λ _. 0ℤ)
  pub line : ReadsRow c.work.tableau.symbols c.row r
  pub shaped : Shaped (form_of d.relation) c.tag
  pub marker : NewTag n old kind S c.work r c.tag.marker
  pub other : (s : Symbol) → c.tag.other ≡ some s → NewTag n old kind S c.work r s
  -- ---- the rest of the work
  pub artificial : c.work.artificial ≡ none
  pub pivots : c.work.pivots ≡ w.pivots
  pub first : 0 < c.work.tableau.next_id
  pub next : c.work.tableau.next_id ≤ w.tableau.next_id + length d.terms + 2
  pub ids : (j : ℕ) → In j c.work.tableau.symbols → j < c.work.tableau.next_id
  pub vars : (v : ℕ) → VarAt kind c.work.tableau.symbols (find_variable v c.work.changes.variables) (column v)
  pub names : (v : ℕ) → find_variable v c.work.changes.variables ≢ none → name (column v) ≡ v
  pub known : All (KnownIn c.work) (new_held d c ∷ held)
