-- CHANGES SUFFICE, of the public calls: a reader beside any sequence of them over lent tables, from a reset on, that is given what each fetch writes into its three lists and nothing else,
-- "holds after each fetch the same numbers, compared as numbers, as asking every live variable one by one". Calls accepted or refused stand in it, resets, drops, lines of text and fetches; a query may stand
-- anywhere, since it borrows the tables to read them. Assumes nothing.
use Rattle.std.specs.Prelude.{ℕ, ◌≡◌, Bool, true, eqb, Float}
use Rattle.std.proofs.Math.Path.{refl, ap}
use Rattle.std.proofs.Math.Bool.{false}
use mathlib.Core.List.{List, [], ◌∷◌}
use Rattle.std.proofs.Math.Option.{Option, none, some}
use Rattle.std.specs.Float.Ieee.{eq}
use Rattle.steps.specs.Number.{zero64, cutoff_fits}
use Rattle.steps.specs.State.{State}
use Rattle.steps.specs.Changes.{Change, find_variable, value, fetch_changes}
use Rattle.steps.specs.Changing as changing
use Rattle.steps.proofs.Cutoff.{reset-taken}
use Rattle.keeps.specs.Lists.{All}
use Rattle.keeps.specs.suffices.Reader as reader
use Rattle.keeps.specs.suffices.Reader.{Reader, nothing, takes_all, holds, Follows}
use Rattle.keeps.proofs.suffices.Suffice.{changes-suffice}
use Rattle.sparse.specs.Sparse.{Sparse, read}
use Rattle.sparse.specs.Fits.{Lengths}
use Rattle.sparse_test.specs.Asked.{asked}
use Rattle.lending.specs.Lending.{call_in}
use Rattle.lending.specs.Reset.{refused24, reset_of}
use Rattle.fetches.specs.Fetch.{fetch_of}
use Rattle.run.specs.Demand.{Call, resets, fetches, adds, removes, drops, adds_edit, removes_edit, suggests, make, next, start, after}
use Rattle.sparse_test.specs.narrow.Holds.{Holds}
use Rattle.lasting.specs.Promises.{reset-leaves}
use Rattle.lasting.specs.Fetched.{fetch-lists, entries-are}
use Rattle.lasting.specs.Public.{run_call}
use Rattle.lasting.specs.Runs.{Step, Lent, call_of_step, and_then, calls_of, tables_after}
use Rattle.lasting.proofs.Runs.{tables-hold, tables-asked}
use Rattle.lasting.specs.Told.{hears_of, hears, reader_after, fetching, Told}

-- ---- the run that it stands beside

-- a reset is answered 0 where its cutoff is in the range
reset-number : (cutoff : Float) (u : Sparse) → eqb (reset_of cutoff u).answer.number 0 ≡ cutoff_fits cutoff
reset-number cutoff u = go (cutoff_fits cutoff) refl
  where
    go : (b : Bool) → cutoff_fits cutoff ≡ b → eqb (reset_of cutoff u).answer.number 0 ≡ b
    go true e = unfold reset_of call_in in rw (e, reset-taken cutoff (read u) e) refl
    go false e = unfold refused24 in rw (reset-leaves cutoff e u) refl

module _ (s : State) (u : Sparse) (r : Reader) (h : Holds s u) (f : Follows s r) where
  heard : (c : Call) → Follows (make c s).state (hears_of c u r)
  unfolding make
  heard fetches = rw (entries-are (fetch_changes s).list (fetch_of u) (fetch-lists s u h)) (reader.fetches f)
  heard (resets cutoff) = rw (reset-number cutoff u) (reader.resets cutoff f)
  heard (adds g n ts k x b) = reader.calls (changing.adds g n ts k x b) f
  heard (removes n b) = reader.calls (changing.removes n b) f
  heard (drops g b) = reader.calls (changing.drops g b) f
  heard (adds_edit v k b) = reader.calls (changing.adds_edit v k b) f
  heard (removes_edit v b) = reader.calls (changing.removes_edit v b) f
  heard (suggests v x b) = reader.calls (changing.suggests v x b) f

onward : (cutoff : Float) (cs : List Call) (u : Sparse) (r : Reader) → Holds (after cutoff cs).state u → Follows (after cutoff cs).state r → (o : Option Call) → Follows (after cutoff (and_then o cs)).state (hears o u r)
unfolding after next
onward cutoff cs u r h f (some c) = heard (after cutoff cs).state u r h f c
onward cutoff cs u r h f none = f

-- "from a reset with this cutoff"
module _ (cutoff : Float) (fits : cutoff_fits cutoff ≡ true) (t : Sparse) (long : Lengths t) where
  reader-follows : (ss : List Step) → All Lent ss → Follows (after cutoff (calls_of ss)).state (reader_after cutoff t ss)
  unfolding reader_after calls_of after start
  reader-follows [] h = reader.starts cutoff fits
  reader-follows (s ∷ ss) h = onward cutoff (calls_of ss) (tables_after cutoff t ss) (reader_after cutoff t ss) (tables-hold cutoff fits t long ss h.1) (reader-follows ss h.1) (call_of_step s)

  -- "Changes suffice.": after any calls and a fetch; a second fetch straight after is a fetch like any other
  pub tables-suffice : (room : Sparse) (ss : List Step) → All Lent ss → Told (tables_after cutoff t (fetching room ∷ ss)) (reader_after cutoff t (fetching room ∷ ss))
  tables-suffice room ss h = record { same = λ n. same n; live = λ n e. live n e }
    where
      s : State
      s = (after cutoff (calls_of ss)).state

      lent : All Lent (fetching room ∷ ss)
      lent = (tt, h)

      -- the tables after the fetch hold the run's next state, and the reader has the run's list
      state-is : (after cutoff (calls_of (fetching room ∷ ss))).state ≡ (fetch_changes s).state
      state-is = unfold calls_of run_call after next make in refl

      reader-is : reader_after cutoff t (fetching room ∷ ss) ≡ takes_all (fetch_changes s).list (reader_after cutoff t ss)
      reader-is = unfold reader_after run_call in ap (λ (l : List Change). takes_all l (reader_after cutoff t ss)) (entries-are (fetch_changes s).list (fetch_of (tables_after cutoff t ss)) (fetch-lists s (tables_after cutoff t ss) (tables-hold cutoff fits t long ss h)))

      agrees : (n : ℕ) → reader.Agrees (fetch_changes s).state (takes_all (fetch_changes s).list (reader_after cutoff t ss)) n
      agrees n = changes-suffice s (reader_after cutoff t ss) (reader-follows ss h) n

      same : (n : ℕ) → eq (holds (reader_after cutoff t (fetching room ∷ ss)) n) (asked (value n) zero64 (tables_after cutoff t (fetching room ∷ ss))) ≡ true
      same n = rw (reader-is, tables-asked cutoff fits t long (value n) zero64 (fetching room ∷ ss) lent, state-is) (agrees n).0

      live : (n : ℕ) → find_variable n (read (tables_after cutoff t (fetching room ∷ ss))).changes.variables ≡ none → reader_after cutoff t (fetching room ∷ ss) n ≡ none
      live n e = rw reader-is ((agrees n).1 (rw ((tables-hold cutoff fits t long (fetching room ∷ ss) lent).state, state-is) at e))
