-- A suggestion's dual pass in a whole run starts from a good tableau, its constants shifted. Assumes nothing.
use Prim.Native.Nat.{ℕ}
use native.Mathlib.Omega.{arith}
use mathlib.Core.Path.{◌≡◌, refl, subst}
use mathlib.Core.Bool.{Bool, true, false}
use mathlib.Core.List.{List, [], ◌∷◌}
use mathlib.Core.Option.{Option, none, some}
use lib.Ieee.{Float}
use Rattle.simplex.specs.Ord.{0ℤ}
use Rattle.simplex.specs.Choose.{All}
use Rattle.steps.specs.Number.{Mark, all_whole, not_whole, not_finite, is_finite}
use Rattle.steps.specs.State.{Edit}
use Rattle.steps.specs.Work.{Work, Outcome, refused, going, refuse, check_finite}
use Rattle.steps.specs.Tests.{find_edit}
use Rattle.steps.specs.Calls.{begin}
use Rattle.simplex.specs.bridge.Rows.{In}
use Rattle.simplex.proofs.bridge.Runs.{dual-mark}
use Rattle.run.specs.Demand.{of_edit, Moment, suggests}
use Rattle.run.specs.Inv.{columns, Held, find_held, EditedAs, EditAt, Inv}
use Rattle.run.specs.Suggest.{work, delta, shifted-work, shifted-table, shifted-starts, shifted-kept}
use Rattle.run.specs.stall.Stall.{dual, PassStart, outcome_by, outcome_of, suggest_passes, passes_of}
use Rattle.run.proofs.stall.Pass.{Starts, Unmarred}

module _ (m : Moment) (I : Inv m) (v : ℕ) (x : Float) (b : ℕ) (e : Edit) (h : Held) (found : find_held (of_edit v) I.held ≡ some h) (E : EditedAs v e h) where
  abbrev y : Work
  y = shifted-work m I v x e h found E

  start : Unmarred (record { rule = dual; left = b; work = y }) → Starts (record { rule = dual; left = b; work = y })
  unfolding outcome_of outcome_by begin
  start u =
      let D = shifted-starts m I v x e h found E (dual-mark b y u) in
      record {
        n = columns;
        kind = I.kind;
        table = shifted-table m I v x e h found E (dual-mark b y u);
        other = λ _. 0ℤ;
        good = D.good;
        reads = D.reads;
        inside = λ j i. omega (arith, I.ids j (subst (In j) (shifted-kept m I v x e h found E).symbols i), I.room);
      }

  steps-start : All Unmarred (suggest_passes b e x (begin m.state)) → All Starts (suggest_passes b e x (begin m.state))
  unfolding suggest_passes check_finite refuse shifted-work work delta
  steps-start = go y.mark
    where
      passes : Mark → List PassStart
      passes q = elim (elim q as (λ x. Outcome Work) [ all_whole ↦ going y | not_whole ↦ going y | not_finite ↦ refused 13 y.pivots y.mark ]) as (λ x. List PassStart) [ refused n p m ↦ [] | going v ↦ record { rule = dual; left = b; work = v } ∷ [] ]

      go : (q : Mark) → All Unmarred (passes q) → All Starts (passes q)
      go all_whole u = (start u.0, tt)
      go not_whole u = (start u.0, tt)
      go not_finite u = tt

pub suggest-starts : (m : Moment) (I : Inv m) (v : ℕ) (x : Float) (b : ℕ) → All Unmarred (passes_of (suggests v x b) m.state) → All Starts (passes_of (suggests v x b) m.state)
unfolding passes_of
suggest-starts m I v x b = by (is_finite x)
  where
    passes : Option Edit → List PassStart
    passes o = elim o [ none ↦ [] | some e ↦ suggest_passes b e x (begin m.state) ]

    go : (o : Option Edit) (g : Option Held) → find_held (of_edit v) I.held ≡ g → EditAt v o g → All Unmarred (passes o) → All Starts (passes o)
    go none g f a u = tt
    go (some e) none f a u = absurd a
    go (some e) (some h) f a u = steps-start m I v x b e h f a u

    by : (f : Bool) → All Unmarred (elim f as (λ x. List PassStart) [ false ↦ [] | true ↦ passes (find_edit v m.state.edits) ]) → All Starts (elim f as (λ x. List PassStart) [ false ↦ [] | true ↦ passes (find_edit v m.state.edits) ])
    by false u = tt
    by true u = go (find_edit v m.state.edits) (find_held (of_edit v) I.held) refl (I.edits v) u
