-- Both passes of an add in a whole run start from a good tableau: step 6's with the temporary in it, step 7's with the new row. Assumes nothing.
use Prim.Native.Nat.{ℕ, ◌-◌, ◌≤◌, ◌<◌}
use native.Mathlib.Omega.{arith}
use mathlib.Core.Path.{◌≡◌, refl, subst}
use mathlib.Core.Bool.{Bool, true, false}
use mathlib.Core.List.{List, [], ◌∷◌, ◌++◌, map}
use mathlib.Core.Option.{Option, none, some}
use lib.Dec.{lit<}
use lib.ListN.{length}
use Rattle.simplex.specs.Ord.{0ℤ}
use Rattle.simplex.specs.Choose.{All}
use Rattle.simplex.specs.Opt.{external}
use Rattle.steps.specs.Number.{below_zero, Mark, all_whole, not_whole, not_finite, whole_if}
use Rattle.steps.specs.Symbol.{Slack, Symbol}
use Rattle.steps.specs.State.{strength_of}
use Rattle.steps.specs.Work.{Work, Outcome, refused, going, refuse, check_finite, marking, with_artificial, new_symbol}
use Rattle.steps.specs.CreateRow.{Created, choose_subject, all_dummies}
use Rattle.steps.specs.Optimise.{the_artificial}
use Rattle.steps.specs.Artificial.{stand_temporary}
use Rattle.steps.specs.Add.{whole_inputs, add_created, add_steps}
use Rattle.steps.specs.Calls.{begin}
use Rattle.simplex.specs.bridge.Rows.{In}
use Rattle.simplex.specs.bridge.Runs.{Standing}
use Rattle.run.specs.Demand.{Demand, Moment}
use Rattle.run.specs.Inv.{columns, con_of, Inv}
use Rattle.run.specs.Build.{Built, new_held}
use Rattle.run.specs.Subject.{no-externals}
use Rattle.run.specs.TempStart.{kind₁, S₁, good₁, reads₁}
use Rattle.run.specs.TempPass.{inside₁}
use Rattle.run.specs.AddEnds.{Ends}
use Rattle.run.specs.Artificial.{artificial-ends}
use Rattle.run.specs.AddMarks.{mark_added, created_of}
use Rattle.run.specs.AddSteps.{created_ways, created-ends}
use Rattle.run.proofs.AddInv.{W, B, room}
use Rattle.run.specs.stall.Stall.{optimising, PassStart, objective_pass, artificial_pass, add_passes}
use Rattle.run.proofs.stall.Pass.{Starts}

both : (ps qs : List PassStart) → All Starts ps → All Starts qs → All Starts (ps ++ qs)
both [] qs a b = b
both (p ∷ ps) qs a b = (a.0, both ps qs a.1 b)

module _ (m : Moment) (I : Inv m) (d : Demand) (b : ℕ) (up : below_zero (strength_of d.relation) ≡ false) (few : length d.terms ≤ 16) (low : m.state.tableau.next_id ≤ 4_294_900_000)
    (whole : mark_added (add_steps b d.terms d.constant d.relation (begin m.state)) ≡ all_whole) where
  abbrev w : Work
  w = marking (whole_if (whole_inputs d.terms d.constant d.relation)) (begin m.state)

  abbrev c : Created
  c = created_of d.terms d.constant d.relation (begin m.state)

  Q : Built columns I.kind I.table I.held d w c
  Q = B artificial-ends m I d b up few low whole

  fits : c.work.tableau.next_id < columns
  fits = room artificial-ends m I d b up few low whole

  -- ---- step 6's pass
  abbrev standing : Work
  standing = stand_temporary (new_symbol Slack c.work) (record { work = c.work; row = c.row })

  abbrev first : PassStart
  first = record { rule = optimising the_artificial; left = b - standing.pivots; work = standing }

  temporary-starts : choose_subject c ≡ none → Starts first
  temporary-starts e = record {
    n = columns;
    kind = kind₁ columns I.kind I.table I.held d w c Q fits plain;
    table = S₁ columns I.kind I.table I.held d w c Q fits plain;
    other = Q.o;
    good = good₁ columns I.kind I.table I.held d w c Q fits plain;
    reads = (reads₁ columns I.kind I.table I.held d w c Q fits plain, stands);
    inside = inside₁ columns I.kind I.table I.held d w c Q (lit< tt) fits plain;
  }
    where
      plain : (i : ℕ) → Q.kind i ≡ external → Q.r i ≡ 0ℤ
      plain = no-externals columns I.kind I.table I.held d w c Q e

      stands : Standing standing.artificial
      stands = unfold stand_temporary with_artificial in tt

  artificial-starts : All Starts (artificial_pass b c)
  unfolding artificial_pass
  artificial-starts = by-subject (choose_subject c) refl
    where
      by-dummies : choose_subject c ≡ none → (t : Bool) → All Starts (elim t as (λ x. List PassStart) [ true ↦ [] | false ↦ first ∷ [] ])
      by-dummies e true = tt
      by-dummies e false = (temporary-starts e, tt)

      by-subject : (o : Option Symbol) → choose_subject c ≡ o → All Starts (elim o as (λ x. List PassStart) [ some s ↦ [] | none ↦ elim (all_dummies c) as (λ x. List PassStart) [ true ↦ [] | false ↦ first ∷ [] ] ])
      by-subject (some s) e = tt
      by-subject none e = by-dummies e (all_dummies c)

  -- ---- step 7's
  objective-starts : All Starts (objective_pass b (λ v. v) (add_created b c))
  unfolding objective_pass
  objective-starts =
      go (add_created b c)
      (created-ends artificial-ends columns I.kind I.table I.held d w c Q (lit< tt) fits b (W artificial-ends m I d b up few low whole).middle)
    where
      go : (t : Outcome Work) → Ends columns Q.kind (map (con_of Q.column) (new_held d c ∷ I.held)) (created_ways c I.table) b c.work t
          → All Starts (objective_pass b (λ v. v) t)
      go (refused n p q) e = tt
      go (going v) P = (
        record { n = columns; kind = Q.kind; table = P.table; other = λ _. 0ℤ; good = P.good; reads = P.reads; inside = λ j i. omega (arith, fits, Q.ids j (subst (In j) P.symbols i)) },
        tt,
      )

  -- BOTH
  pub add-starts : All Starts (add_passes b d.terms d.constant d.relation (begin m.state))
  unfolding add_passes check_finite refuse created_of
  add-starts = go c.work.mark
    where
      go : (q : Mark)
          → All Starts (elim (elim q as (λ x. Outcome Work) [ all_whole ↦ going c.work | not_whole ↦ going c.work | not_finite ↦ refused 13 c.work.pivots c.work.mark ]) as (λ x. List PassStart) [
            | refused n p r ↦ []
            | going v ↦ artificial_pass b c ++ objective_pass b (λ v. v) (add_created b c)
          ])
      go all_whole = both (artificial_pass b c) (objective_pass b (λ v. v) (add_created b c)) artificial-starts objective-starts
      go not_whole = both (artificial_pass b c) (objective_pass b (λ v. v) (add_created b c)) artificial-starts objective-starts
      go not_finite = tt
