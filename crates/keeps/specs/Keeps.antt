-- A reset with a cutoff in its range leaves a state that reads as one, and after every call, accepted or refused, a state that reads still does. Assumes nothing.
use Rattle.std.specs.Prelude.{◌≡◌, refl, List, Bool, true, false, ℕ, Float}
use Rattle.steps.specs.Number.{cutoff_fits}
use Rattle.steps.specs.State.{Term, Relation, State}
use Rattle.steps.specs.Changes.{fetch_changes}
use Rattle.steps.specs.Calls.{empty, reset, refused_by, add, remove, drop_group, add_edit, remove_edit, suggest}
use Rattle.steps.specs.Readable.{readable, open_readable}
use Rattle.steps.proofs.Cutoff.{reset-refused, reset-taken}
use Rattle.keeps.specs.Lists.{both}
use Rattle.keeps.specs.Tested.{reads_in, reads-out}
use Rattle.keeps.specs.Suggest.{suggest-kept, fetch-kept}
use Rattle.keeps.specs.Removal.{remove-kept, remove_edit-kept}
use Rattle.keeps.specs.Groups.{drop-kept}
use Rattle.keeps.specs.Addition.{add_kept, add_edit-kept}

pub empty-reads : (cutoff : Float) → cutoff_fits cutoff ≡ true → readable (empty cutoff) ≡ true
unfolding open_readable
empty-reads cutoff fits = both (both fits refl) refl

-- a reset that is refused leaves the state
pub reset-reads : (cutoff : Float) (s : State) → readable s ≡ true → readable (reset cutoff s).state ≡ true
unfolding refused_by
reset-reads cutoff s e = go (cutoff_fits cutoff) refl
  where
    go : (b : Bool) → cutoff_fits cutoff ≡ b → readable (reset cutoff s).state ≡ true
    go true fits = rw (reset-taken cutoff s fits) (empty-reads cutoff fits)
    go false fits = rw (reset-refused cutoff s fits) e

pub add_reads : (g n : ℕ) (ts : List Term) (k : Float) (r : Relation) (b : ℕ) (s : State) → readable s ≡ true → readable (add g n ts k r b s).state ≡ true
add_reads g n ts k r b s e = reads-out (add g n ts k r b s).state (add_kept g n ts k r b s (reads_in s e))

pub remove-reads : (n b : ℕ) (s : State) → readable s ≡ true → readable (remove n b s).state ≡ true
remove-reads n b s e = reads-out (remove n b s).state (remove-kept n b s (reads_in s e))

pub drop-reads : (g b : ℕ) (s : State) → readable s ≡ true → readable (drop_group g b s).state ≡ true
drop-reads g b s e = reads-out (drop_group g b s).state (drop-kept g b s (reads_in s e))

pub add_edit-reads : (n : ℕ) (k : Float) (b : ℕ) (s : State) → readable s ≡ true → readable (add_edit n k b s).state ≡ true
add_edit-reads n k b s e = reads-out (add_edit n k b s).state (add_edit-kept n k b s (reads_in s e))

pub remove_edit-reads : (n b : ℕ) (s : State) → readable s ≡ true → readable (remove_edit n b s).state ≡ true
remove_edit-reads n b s e = reads-out (remove_edit n b s).state (remove_edit-kept n b s (reads_in s e))

pub suggest-reads : (n : ℕ) (x : Float) (b : ℕ) (s : State) → readable s ≡ true → readable (suggest n x b s).state ≡ true
suggest-reads n x b s e = reads-out (suggest n x b s).state (suggest-kept n x b s (reads_in s e))

pub fetch-reads : (s : State) → readable s ≡ true → readable (fetch_changes s).state ≡ true
fetch-reads s e = reads-out (fetch_changes s).state (fetch-kept s (reads_in s e))

-- "A "run" starts at a reset and goes on by these calls."
pub data Run : State → Type 0 where
  starts : (cutoff : Float) → cutoff_fits cutoff ≡ true → Run (empty cutoff)
  resets : {s : State} (cutoff : Float) → Run s → Run (reset cutoff s).state
  adds : {s : State} (g n : ℕ) (ts : List Term) (k : Float) (r : Relation) (b : ℕ) → Run s → Run (add g n ts k r b s).state
  removes : {s : State} (n b : ℕ) → Run s → Run (remove n b s).state
  drops : {s : State} (g b : ℕ) → Run s → Run (drop_group g b s).state
  adds_edit : {s : State} (n : ℕ) (k : Float) (b : ℕ) → Run s → Run (add_edit n k b s).state
  removes_edit : {s : State} (n b : ℕ) → Run s → Run (remove_edit n b s).state
  suggests : {s : State} (n : ℕ) (x : Float) (b : ℕ) → Run s → Run (suggest n x b s).state
  fetches : {s : State} → Run s → Run (fetch_changes s).state

-- every state of a run reads as one
pub run-reads : {s : State} → Run s → readable s ≡ true
run-reads (starts cutoff fits) = empty-reads cutoff fits
run-reads (resets {s} cutoff h) = reset-reads cutoff s (run-reads h)
run-reads (adds {s} g n ts k r b h) = add_reads g n ts k r b s (run-reads h)
run-reads (removes {s} n b h) = remove-reads n b s (run-reads h)
run-reads (drops {s} g b h) = drop-reads g b s (run-reads h)
run-reads (adds_edit {s} n k b h) = add_edit-reads n k b s (run-reads h)
run-reads (removes_edit {s} n b h) = remove_edit-reads n b s (run-reads h)
run-reads (suggests {s} n x b h) = suggest-reads n x b s (run-reads h)
run-reads (fetches {s} h) = fetch-reads s (run-reads h)
