-- Add's steps 4 to 7 in a whole run: accepted, the tableau is at rest and models one demand more; refused, it is by 12, and nothing meets the demands, or by 14, and the budget was smaller than the ways. Assumes nothing.
use Rattle.std.specs.Prelude.{ℕ, ◌-◌, ◌<◌, ◌≡◌, ◌⊎◌, Bool, List, ◌∷◌, map}
use Rattle.std.proofs.Common.{arith, subst, inl}
use Rattle.std.proofs.Math.Path.{refl}
use Rattle.std.proofs.Math.Logic.{inr}
use Rattle.std.proofs.Math.Bool.{true, false}
use Rattle.std.proofs.Math.Option.{Option, none, some}
use Rattle.simplex.specs.Ord.{0ℤ}
use Rattle.simplex.specs.Opt.{Kind as KindZ}
use Rattle.simplex.specs.Pass.{State as StateZ}
use Rattle.simplex.specs.Problem.{Con}
use Rattle.steps.specs.Number.{near_zero, all_whole}
use Rattle.steps.specs.Symbol.{Symbol}
use Rattle.steps.specs.Work.{Work, Outcome, refused, going, ◌>>=◌, refuse}
use Rattle.steps.specs.Optimise.{the_objective, optimise}
use Rattle.steps.specs.CreateRow.{Created, choose_subject, all_dummies}
use Rattle.steps.specs.Artificial.{add_with_artificial_variable}
use Rattle.steps.specs.Add.{add_with_subject, add_created}
use Rattle.simplex.specs.bridge.Rows.{In}
use Rattle.simplex.specs.bridge.Runs.{mark_of}
use Rattle.run.specs.Demand.{Demand}
use Rattle.run.specs.Inv.{Held, con_of}
use Rattle.run.specs.Passes.{ways_of, Rested, Optimised, optimised}
use Rattle.run.specs.Build.{Built, new_held}
use Rattle.run.specs.Subject.{Subjected, subjected, Dummies, dummies}
use Rattle.run.specs.AddEnds.{Placed, Unmet, Ends, artificial_ways, ArtificialEnds}
use Rattle.run.specs.SubjectEnter.{chosen, flat}
use Rattle.run.specs.AddMarks.{placed_and_rested}

-- the ways of the pass that steps 4 to 6 make: there is one without a subject only
unfoldable pub created_ways : Created → StateZ → ℕ
created_ways c S = elim (choose_subject c) [ some s ↦ 1 | none ↦ elim (all_dummies c) [ true ↦ 1 | false ↦ artificial_ways c S ] ]

module _ (art : ArtificialEnds) (n : ℕ) (old : ℕ → KindZ) (S : StateZ) (held : List Held) (d : Demand) (w : Work) (c : Created) (B : Built n old S held d w c) (in-n : 0 < n) (room : c.work.tableau.next_id < n)
    (budget : ℕ) where
  abbrev cs : List Con
  cs = map (con_of B.column) (new_held d c ∷ held)

  abbrev EndsIn : ℕ → Outcome Work → Type 0
  EndsIn ways x = Ends n B.kind cs ways budget c.work x

  pub created-ends : mark_of (add_created budget c) ≡ all_whole → Ends n B.kind cs (created_ways c S) budget c.work (add_created budget c)
  unfolding add_created created_ways
  created-ends = by-subject (choose_subject c) refl (subjected n old S held d w c B)
    where
      by-dummies : choose_subject c ≡ none → (b : Bool) → all_dummies c ≡ b → Dummies n old S held d w c B b
          → mark_of (elim b as (λ _. Outcome Work) [ false ↦ add_with_artificial_variable budget c | true ↦ elim (near_zero c.work.tableau.cutoff c.row.constant) as (λ _. Outcome Work) [ false ↦ refuse 12 c.work | true ↦ add_with_subject c.tag.marker c ] ]) ≡ all_whole
          → EndsIn (elim b [ true ↦ 1 | false ↦ artificial_ways c S ]) (elim b [ false ↦ add_with_artificial_variable budget c | true ↦ elim (near_zero c.work.tableau.cutoff c.row.constant) [ false ↦ refuse 12 c.work | true ↦ add_with_subject c.tag.marker c ] ])
      by-dummies s false e v m = art n old S held d w c B room s e budget m
      by-dummies s true e v m = flat n old S held d w c B in-n (omega (arith, room)) budget v (near_zero c.work.tableau.cutoff c.row.constant) refl m

      by-subject : (o : Option Symbol) → choose_subject c ≡ o → Subjected n old S held d w c B o
          → mark_of (elim o as (λ _. Outcome Work) [ some s ↦ add_with_subject s c | none ↦ elim (all_dummies c) as (λ _. Outcome Work) [ false ↦ add_with_artificial_variable budget c | true ↦ elim (near_zero c.work.tableau.cutoff c.row.constant) as (λ _. Outcome Work) [ false ↦ refuse 12 c.work | true ↦ add_with_subject c.tag.marker c ] ] ]) ≡ all_whole
          → EndsIn (elim o [ some s ↦ 1 | none ↦ elim (all_dummies c) [ true ↦ 1 | false ↦ artificial_ways c S ] ])
          (elim o [ some s ↦ add_with_subject s c | none ↦ elim (all_dummies c) [ false ↦ add_with_artificial_variable budget c | true ↦ elim (near_zero c.work.tableau.cutoff c.row.constant) [ false ↦ refuse 12 c.work | true ↦ add_with_subject c.tag.marker c ] ] ])
      by-subject (some s) e v m = chosen n old S held d w c B in-n (omega (arith, room)) budget s v m
      by-subject none e v m = by-dummies e (all_dummies c) refl (dummies n old S held d w c B) m

  -- ---- step 7
  -- accepted: from the row that is in to the tableau at rest
  pub record Finished (x : Work) : Type 0 where
    pub middle : Work
    pub placed : Placed n B.kind cs (created_ways c S) c.work middle
    pub rested : Rested n B.kind cs (budget - middle.pivots) (ways_of middle.tableau.symbols placed.table.B) middle x

  -- 14: a pass had less left than its ways
  pub data Spent : Type 0 where
    first-pass : budget - c.work.pivots < created_ways c S → Spent
    second-pass : (v : Work) (P : Placed n B.kind cs (created_ways c S) c.work v) → budget - v.pivots < ways_of v.tableau.symbols P.table.B → Spent

  abbrev pub Final : Outcome Work → Type 0
  Final (going x) = Finished x
  Final (refused k p m) = ((k ≡ 12) × Unmet n cs) ⊎ ((k ≡ 14) × Spent)

  pub final : mark_of (add_created budget c) ≡ all_whole → mark_of (placed_and_rested budget c) ≡ all_whole → Final (placed_and_rested budget c)
  unfolding placed_and_rested ◌>>=◌
  final m₁ m₂ = go (add_created budget c) (created-ends m₁) m₂
    where
      later : (v : Work) (P : Placed n B.kind cs (created_ways c S) c.work v) (t : Outcome Work) → Optimised n B.kind cs (budget - v.pivots) (ways_of v.tableau.symbols P.table.B) v t → Final t
      later v P (going x) o = record { middle = v; placed = P; rested = o }
      later v P (refused k p t) o = inr (o.0, second-pass v P o.1)

      go : (t : Outcome Work) → Ends n B.kind cs (created_ways c S) budget c.work t → mark_of (t >>= λ v. optimise (budget - v.pivots) the_objective v) ≡ all_whole → Final (t >>= λ v. optimise (budget - v.pivots) the_objective v)
      go (refused k p t) (inl e) m = inl e
      go (refused k p t) (inr e) m = inr (e.0, first-pass e.1)
      go (going v) P m =
          later v P (optimise (budget - v.pivots) the_objective v)
          (optimised n B.kind v P.table (λ _. 0ℤ) cs in-n (λ j i. omega (arith, room, B.ids j (subst (In j) P.symbols i))) P.good P.models P.reads P.artificial (budget - v.pivots) m)
