-- How Add's steps 4 to 6 end in a whole run: the new row is in the tableau, which models one demand more; or 12, and nothing meets the demands; or 14. Definitions only.
use Rattle.std.specs.Prelude.{ℕ, ◌+◌, ◌-◌, ◌≤◌, ◌<◌, ◌≡◌, ◌⊎◌, true, false, List, [], ◌∷◌, ◌++◌, map}
use Rattle.std.proofs.Math.Option.{none}
use Rattle.laws.specs.Z.{◌≺◌}
use Rattle.simplex.specs.Ord.{0ℤ}
use Rattle.simplex.specs.Lin.{Vec}
use Rattle.simplex.specs.At.{at}
use Rattle.simplex.specs.Choose.{All}
use Rattle.simplex.specs.Opt.{Kind as KindZ}
use Rattle.simplex.specs.Pass.{State as StateZ, Good}
use Rattle.simplex.specs.Problem.{Con, Meets, Models}
use Rattle.steps.specs.Number.{all_whole}
use Rattle.steps.specs.Symbol.{Slack}
use Rattle.steps.specs.Work.{Work, Outcome, refused, going, new_symbol}
use Rattle.steps.specs.Changes.{clear_changed}
use Rattle.steps.specs.CreateRow.{Created, choose_subject, all_dummies}
use Rattle.steps.specs.Artificial.{add_with_artificial_variable}
use Rattle.simplex.specs.bridge.Table.{ReadsWork}
use Rattle.simplex.specs.bridge.Runs.{mark_of}
use Rattle.run.specs.Demand.{Demand}
use Rattle.run.specs.Inv.{Held, con_of}
use Rattle.run.specs.Passes.{ways_of}
use Rattle.run.specs.Build.{Built, new_held}

-- from the created w to x: the row is in, over the same symbols; the pivots made on the way are fewer than ways
pub record Placed (n : ℕ) (kind : ℕ → KindZ) (cs : List Con) (ways : ℕ) (w x : Work) : Type 0 where
  pub table : StateZ
  pub good : Good n kind table
  pub models : Models n kind table.B table.R table.o cs
  pub reads : ReadsWork kind x table.B table.R table.o (λ _. 0ℤ)
  pub artificial : x.artificial ≡ none
  pub symbols : x.tableau.symbols ≡ w.tableau.symbols
  pub above : w.tableau.next_id ≤ x.tableau.next_id
  pub next : x.tableau.next_id ≤ w.tableau.next_id + 1
  pub variables : clear_changed x.changes.variables ≡ clear_changed w.changes.variables
  pub made : ℕ
  pub count : x.pivots ≡ w.pivots + made
  pub fewer : made < ways

-- no assignment by fractions, by columns, meets the constraints
abbrev pub Unmet : ℕ → List Con → Type 0
Unmet n cs = (x : Vec) → 0ℤ ≺ x 0 → All (Meets n x) cs → ⊥

abbrev pub Ends : (n : ℕ) → (ℕ → KindZ) → List Con → (ways budget : ℕ) → Work → Outcome Work → Type 0
Ends n kind cs ways budget w (going x) = Placed n kind cs ways w x
Ends n kind cs ways budget w (refused k p m) = ((k ≡ 12) × Unmet n cs) ⊎ ((k ≡ 14) × (budget - w.pivots < ways))

-- the ways of the artificial pass: its temporary is a restricted symbol, and basic
unfoldable pub artificial_ways : Created → StateZ → ℕ
artificial_ways c S = ways_of (c.work.tableau.symbols ++ (new_symbol Slack c.work ∷ [])) (at c.work.tableau.next_id true S.B)

-- step 6, as it is to be shown: without a subject, and with a symbol that is no dummy in the row
abbrev pub ArtificialEnds : Type 0
ArtificialEnds =
    (n : ℕ) (old : ℕ → KindZ) (S : StateZ) (held : List Held) (d : Demand) (w : Work) (c : Created) (B : Built n old S held d w c) → c.work.tableau.next_id < n
    → choose_subject c ≡ none → all_dummies c ≡ false → (budget : ℕ) → mark_of (add_with_artificial_variable budget c) ≡ all_whole
    → Ends n B.kind (map (con_of B.column) (new_held d c ∷ held)) (artificial_ways c S) budget c.work (add_with_artificial_variable budget c)
