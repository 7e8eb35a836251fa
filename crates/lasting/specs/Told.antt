-- A reader beside a sequence of the public calls, that is given what each fetch writes into its three lists and nothing else: what it makes of the calls, and when it
-- "holds after each fetch the same numbers, compared as numbers, as asking every live variable one by one".
use Rattle.std.specs.Prelude.{ℕ, ◌≡◌, true, cond, eqb, Float}
use mathlib.Core.List.{List, [], ◌∷◌}
use Rattle.std.proofs.Math.Option.{Option, none, some}
use Rattle.std.specs.Float.Ieee.{eq}
use Rattle.steps.specs.Number.{zero64}
use Rattle.steps.specs.Changes.{find_variable, value}
use Rattle.keeps.specs.suffices.Reader.{Reader, nothing, takes_all, holds}
use Rattle.sparse.specs.Sparse.{Sparse, read}
use Rattle.sparse_test.specs.Asked.{asked}
use Rattle.lending.specs.Reset.{reset_of}
use Rattle.fetches.specs.Fetch.{fetch_of}
use Rattle.run.specs.Demand.{Call, resets, fetches, adds, removes, drops, adds_edit, removes_edit, suggests}
use Rattle.lasting.specs.Fetched.{entries_of}
use Rattle.lasting.specs.Public.{makes}
use Rattle.lasting.specs.Runs.{Step, call_of_step, tables_after}

-- ---- the reader

-- what it makes of a call over the tables u: it "takes each fetched list in order", the entries below the count, and "starts empty at reset", one that answers 0
abbrev pub hears_of : Call → Sparse → Reader → Reader
hears_of fetches u r = takes_all (entries_of (fetch_of u)) r
hears_of (resets cutoff) u r = cond (eqb (reset_of cutoff u).answer.number 0) nothing r
hears_of (adds g n terms constant relation budget) u r = r
hears_of (removes n budget) u r = r
hears_of (drops g budget) u r = r
hears_of (adds_edit v strength budget) u r = r
hears_of (removes_edit v budget) u r = r
hears_of (suggests v x budget) u r = r

-- an unfit call tells it nothing
abbrev pub hears : Option Call → Sparse → Reader → Reader
hears (some c) u r = hears_of c u r
hears none u r = r

-- the reader after a reset and these calls, the last call first
unfoldable pub reader_after : Float → Sparse → List Step → Reader
reader_after cutoff t [] = nothing
reader_after cutoff t (s ∷ ss) = hears (call_of_step s) (tables_after cutoff t ss) (reader_after cutoff t ss)

-- a fetch, with a room that it does not use
abbrev pub fetching : Sparse → Step
fetching room = record { call = makes fetches; room = room }

-- the reader r by the tables u
pub record Told (u : Sparse) (r : Reader) : Type 0 where
  -- "the same numbers, compared as numbers, as asking every live variable one by one", and "takes anything unknown as 0.0": of every number, live or not, what the query gives
  pub same : (n : ℕ) → eq (holds r n) (asked (value n) zero64 u) ≡ true
  -- it knows no number that isn't live
  pub live : (n : ℕ) → find_variable n (read u).changes.variables ≡ none → r n ≡ none
