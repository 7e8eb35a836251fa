-- DEMANDS 2 AND 3 of the public calls: any sequence of calls over lent tables, from a reset with any cutoff in its range on. What a call answers and leaves is what its contract says, whatever
-- the working room held; the tables then read as the state of the run of the steps that the fit calls make, so what is proved of runs
-- (`run`, `stall`) holds of what the firmware has in hand. A call with lists or a kind that are unfit is answered 18 and changes nothing; a line that
-- does not read is answered its own number and changes nothing. Assumes nothing.
use Rattle.std.specs.Prelude.{ℕ, ◌≤◌, ◌≡◌, ◌≢◌, Float}
use Rattle.std.proofs.Math.Path.{refl}
use Rattle.std.proofs.Math.Bool.{true}
use mathlib.Core.List.{List, [], ◌∷◌}
use Rattle.std.proofs.Math.Option.{Option, none, some}
use Rattle.steps.specs.Number.{cutoff_fits}
use Rattle.steps.specs.State.{State}
use Rattle.steps.specs.Changes.{fetch_changes}
use Rattle.steps.specs.Calls.{empty}
use Rattle.keeps.specs.Lists.{All}
use Rattle.sparse.specs.Sparse.{Sparse, read}
use Rattle.sparse.specs.Fits.{Lengths}
use Rattle.sparse_test.specs.Asked.{asked}
use Rattle.fetches.specs.Fetch.{fetch_of}
use Rattle.run.specs.Demand.{Call, drops, make, accepted, next, start, after, Best, None}
use Rattle.run.proofs.Run.{yes-stored, marked-best, marked-12}
use Rattle.run.specs.stall.Stall.{all_ways, passes_of, budget_of, Demand3, NoSetTwice}
use Rattle.run.proofs.stall.Whole.{marked-never-stalls}
use Rattle.run.proofs.stall.DropSets.{marked-never-returns}
use Rattle.sparse_test.specs.narrow.Holds.{Holds}
use Rattle.lasting.specs.Promises.{reset-holds}
use Rattle.lasting.specs.Fetched.{Lists, fetch-lists}
use Rattle.lasting.specs.Public.{public_on, unfit_number, Steps, public-step}
use Rattle.lasting.specs.Runs.{Step, Lent, call_of_step, and_then, calls_of, tables_after, answers, WholeOn}

-- ---- the tables hold the run's state

-- one more call, on tables that hold the state after the calls cs
onward : (cutoff : Float) (s : Step) (cs : List Call) (u : Sparse) → Holds (after cutoff cs).state u → (o : Option Call) → Steps (unfit_number s.call) (after cutoff cs).state u (public_on s.call s.room u) o
    → Holds (after cutoff (and_then o cs)).state (public_on s.call s.room u).tables
unfolding after next
onward cutoff s cs u h (some c) e = e.1
onward cutoff s cs u h none e = rw e.1 h

-- "from a reset with this cutoff"
module _ (cutoff : Float) (fits : cutoff_fits cutoff ≡ true) (t : Sparse) (long : Lengths t) where
  pub tables-hold : (ss : List Step) → All Lent ss → Holds (after cutoff (calls_of ss)).state (tables_after cutoff t ss)
  unfolding tables_after calls_of after start
  tables-hold [] h = reset-holds cutoff fits t long
  tables-hold (s ∷ ss) h =
      let held = tables-hold ss h.1 in
      onward cutoff s (calls_of ss) (tables_after cutoff t ss) held (call_of_step s) (public-step (after cutoff (calls_of ss)).state s.room (tables_after cutoff t ss) held s.call h.0)

  stepped : (s : Step) (ss : List Step) → All Lent (s ∷ ss) → Steps (unfit_number s.call) (after cutoff (calls_of ss)).state (tables_after cutoff t ss) (public_on s.call s.room (tables_after cutoff t ss)) (call_of_step s)
  stepped s ss h = public-step (after cutoff (calls_of ss)).state s.room (tables_after cutoff t ss) (tables-hold ss h.1) s.call h.0

  -- a fit call: its answer is the run's
  pub tables-answer : (s : Step) (ss : List Step) → All Lent (s ∷ ss) → (c : Call) → call_of_step s ≡ some c → answers cutoff t s ss ≡ (make c (after cutoff (calls_of ss)).state).answer
  tables-answer s ss h c e = (rw e at (stepped s ss h)).0

  -- an unfit one: "18 | a lent table has the wrong length ...", or a line that does not read, its own number; and nothing changed
  pub tables-unfit : (s : Step) (ss : List Step) → All Lent (s ∷ ss) → call_of_step s ≡ none → ((answers cutoff t s ss).number ≡ unfit_number s.call) × (tables_after cutoff t (s ∷ ss) ≡ tables_after cutoff t ss)
  unfolding tables_after
  tables-unfit s ss h e = let q = rw e at (stepped s ss h) in (q.0, q.1)

  -- ---- queries and fetch

  -- a query, by its contract (`asked`: of the value, of a constraint or of an edit), gives what the steps' query gives of the run's state
  pub tables-asked : {A : Type 0} (query : State → A) (otherwise : A) (ss : List Step) → All Lent ss → asked query otherwise (tables_after cutoff t ss) ≡ query (after cutoff (calls_of ss)).state
  unfolding asked
  tables-asked query otherwise ss h = let held = tables-hold ss h in rw (held.reads, held.state) refl

  -- "Changes: `fetch_changes` toggles as in the crate": a fetch, by its contract, lists what the steps' fetch lists of the run's state
  pub tables-fetch : (ss : List Step) → All Lent ss → Lists (fetch_changes (after cutoff (calls_of ss)).state).list (fetch_of (tables_after cutoff t ss))
  tables-fetch ss h = fetch-lists (after cutoff (calls_of ss)).state (tables_after cutoff t ss) (tables-hold ss h)

  -- ---- demand 2

  -- an answer that says yes leaves the mark yes in the tables
  pub tables-yes : (s : Step) (ss : List Step) → All Lent (s ∷ ss) → (answers cutoff t s ss).whole ≡ true → (read (tables_after cutoff t (s ∷ ss))).whole ≡ true
  tables-yes s ss h w = unfold tables_after in go (call_of_step s) (stepped s ss h)
    where
      go : (o : Option Call) → Steps (unfit_number s.call) (after cutoff (calls_of ss)).state (tables_after cutoff t ss) (public_on s.call s.room (tables_after cutoff t ss)) o → (read (public_on s.call s.room (tables_after cutoff t ss)).tables).whole ≡ true
      go (some c) e = rw e.1.state (yes-stored c (after cutoff (calls_of ss)).state (rw e.0 at w))
      go none e = rw e.1 (e.2 w)

  -- "while it says yes, the values are exact and the best that any fractions give": the values that the tables give, while their mark says yes
  pub tables-marked-best : (ss : List Step) → All Lent ss → (read (tables_after cutoff t ss)).whole ≡ true → Best (record { state = read (tables_after cutoff t ss); live = (after cutoff (calls_of ss)).live })
  tables-marked-best ss h w = let e = (tables-hold ss h).state in rw e (marked-best cutoff fits (calls_of ss) (rw e at w))

  -- "In a whole run (document 01) the values meet every required constraint exactly, no assignment by fractions that meets them has less weighted error"
  pub tables-best : (ss : List Step) → All Lent ss → WholeOn cutoff t ss → Best (record { state = read (tables_after cutoff t ss); live = (after cutoff (calls_of ss)).live })
  tables-best [] h w = tables-marked-best [] h (unfold calls_of after start empty in rw (tables-hold [] h).state refl)
  tables-best (s ∷ ss) h w = tables-marked-best (s ∷ ss) h (tables-yes s ss h w.1)

  module _ (s : Step) (ss : List Step) (h : All Lent (s ∷ ss)) (c : Call) (is : call_of_step s ≡ some c) (w : (answers cutoff t s ss).whole ≡ true) where
    -- "and "cannot be met" (12) is said only when none meets them": where the answer says yes, as in a whole run
    pub tables-12 : (answers cutoff t s ss).number ≡ 12 → None (accepted c (after cutoff (calls_of ss)).live)
    tables-12 e = let a = tables-answer s ss h c is in marked-12 cutoff fits c (calls_of ss) (rw a at w) (rw a at e)

    -- ---- demand 3, of adds, removals, drops and suggestions, where the answer says yes, as in a whole run

    module _ (b : ℕ) (budget : budget_of c ≡ some b) where
      -- "no optimise pass of an add or a removal holds the same set of basic symbols twice", "a dual pass then never holds the same basic set twice", and the
      -- rest, of the state that the tables read as
      pub tables-never-stalls : Demand3 b c (read (tables_after cutoff t ss))
      tables-never-stalls = rw (tables-hold ss h.1).state (marked-never-stalls cutoff fits (calls_of ss) c b budget (rw (tables-answer s ss h c is) at w))

      -- "a budget no smaller than these ways summed over such a call's passes is never the reason for its refusal"
      pub tables-14 : all_ways (passes_of c (read (tables_after cutoff t ss))) ≤ b → (answers cutoff t s ss).number ≢ 14
      tables-14 l = rw (tables-answer s ss h c is, ← (tables-hold ss h.1).state) (tables-never-stalls.enough l)

      -- "and 16 is never given"
      pub tables-16 : (answers cutoff t s ss).number ≢ 16
      tables-16 = rw (tables-answer s ss h c is, ← (tables-hold ss h.1).state) tables-never-stalls.some-way

  -- "Demand 3 reads over the passes of all the removals together, and demand 2's least error holds at the end of the drop." (`tables-best`): where the drop
  -- answers yes, no set of basic symbols comes twice, within a pass or in two of them
  pub tables-never-returns : (s : Step) (ss : List Step) → All Lent (s ∷ ss) → (g b : ℕ) → call_of_step s ≡ some (drops g b) → (answers cutoff t s ss).whole ≡ true → NoSetTwice (passes_of (drops g b) (read (tables_after cutoff t ss)))
  tables-never-returns s ss h g b is w = rw (tables-hold ss h.1).state (marked-never-returns cutoff fits (calls_of ss) g b (rw (tables-answer s ss h (drops g b) is) at w))
