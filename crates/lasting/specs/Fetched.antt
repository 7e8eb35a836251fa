-- What a fetch of tables that hold a state writes into its three lists, and the entries that are read out of them again. Assumes nothing.
use Rattle.std.specs.Prelude.{ℕ, ◌≤◌, ◌<◌, ◌≡◌, refl, List, map, eqb, length, get_or, replicate}
use Rattle.std.proofs.Common.{◌∙◌, arith}
use Rattle.std.proofs.lemmas.List.{length-map, length-replicate}
use Rattle.laws.specs.Lists.{list_of, list_of-is}
use Rattle.steps.specs.Number.{zero64}
use Rattle.steps.specs.State.{State}
use Rattle.steps.specs.Changes.{Change, gone_entry, fetch_changes}
use Rattle.keeps.specs.Tested.{reads_in}
use Rattle.layout.specs.Layout.{bit_of, over}
use Rattle.layout.specs.Laying.{get_d_map}
use Rattle.layout.proofs.Back.{bit-back, first-at}
use Rattle.sparse.specs.Sparse.{Sparse, read}
use Rattle.sparse_test.specs.Meaning.{reads-readable}
use Rattle.fetches.specs.Fetch.{numbers_of, values_of, flags_of, Fetch, fetch_of, fetch_in, places}
use Rattle.fetches.specs.Few.{fetch-room}
use Rattle.sparse_test.specs.narrow.Holds.{Holds}

-- what a fetch answers with this list: 0, how many are listed, and the three lists, "zero past its count"
pub record Lists (l : List Change) (f : Fetch) : Type 0 where
  pub number : f.number ≡ 0
  pub count : f.count ≡ length l
  pub room : length l ≤ places
  pub numbers : f.numbers ≡ over 0 (numbers_of l) (replicate places 0)
  pub values : f.values ≡ over 0 (values_of l) (replicate places zero64)
  pub gone : f.gone ≡ over 0 (flags_of l) (replicate places 0)

pub fetch-lists : (s : State) (t : Sparse) → Holds s t → Lists (fetch_changes s).list (fetch_of t)
unfolding fetch_of fetch_in
fetch-lists s t h =
    let room : length (fetch_changes (read t)).list ≤ places = fetch-room (read t) (reads_in _ (reads-readable t h.reads)) in
    rw (h.reads, ← h.state) (record { number = refl; count = refl; room = room; numbers = refl; values = refl; gone = refl })

-- ---- read out again

-- entry i: its place in each of the three lists
abbrev pub entry_at : Fetch → ℕ → Change
entry_at f i = record { variable = get_or f.numbers i 0; new = get_or f.values i zero64; gone = eqb (get_or f.gone i 0) 1 }

-- those below the count, and nothing else of the lists
unfoldable pub entries_of : Fetch → List Change
entries_of f = list_of f.count (entry_at f)

module _ {A : Type 0} (g : Change → A) (z : A) (l : List Change) (d : Change) (room : length l ≤ places) where
  written_at : (i : ℕ) → i < length l → get_or (over 0 (map g l) (replicate places z)) i z ≡ g (get_or l i d)
  written_at i h =
      first-at (map g l) (replicate places z) i z (omega (arith, h, length-map l g)) (omega (arith, room, length-map l g, length-replicate places z)) ∙ get_d_map g l i d z h

pub entries-are : (l : List Change) (f : Fetch) → Lists l f → entries_of f ≡ l
unfolding entries_of numbers_of values_of flags_of
entries-are l f h = rw (h.count, h.numbers, h.values, h.gone) (list_of-is _ l (gone_entry 0) at)
  where
    at : (j : ℕ) → j < length l
        → record {
          variable = get_or (over 0 (map (λ (c : Change). c.variable) l) (replicate places 0)) j 0;
          new = get_or (over 0 (map (λ (c : Change). c.new) l) (replicate places zero64)) j zero64;
          gone = eqb (get_or (over 0 (map (λ (c : Change). bit_of c.gone) l) (replicate places 0)) j 0) 1;
        }
        ≡ get_or l j (gone_entry 0)
    at j k =
        rw (written_at (λ (c : Change). c.variable) 0 l (gone_entry 0) h.room j k, written_at (λ (c : Change). c.new) zero64 l (gone_entry 0) h.room j k, written_at (λ (c : Change). bit_of c.gone) 0 l (gone_entry 0) h.room j k, bit-back (get_or l j (gone_entry 0)).gone) refl
