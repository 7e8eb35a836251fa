-- One relation that every call keeps: dense and sparse tables that read as the same state, or neither as one. Dense tables have no place for a cutoff, a group or a gone entry, so both have the usual cutoff, constraints of group 1 alone and no gone entry that waits.
-- Assumes nothing.
use Rattle.std.specs.Prelude.{ℕ, zero, suc, ◌+◌, ◌≡◌, Bool, cond, List, [], ◌∷◌, get_or}
use Rattle.std.proofs.Math.Path.{refl, ap}
use Rattle.std.proofs.Common.{sym, ◌∙◌, subst}
use Rattle.std.proofs.Math.Bool.{true, false}
use Rattle.std.proofs.Math.ListN.{replicate}
use Rattle.laws.specs.Given.{Then, then-given}
use Rattle.laws.specs.Lists.{laid}
use Rattle.steps.specs.Number.{usual_cutoff}
use Rattle.steps.specs.State.{Constraint, State}
use Rattle.steps.specs.Changes.{Change, clear_changed, merged, fetch_changes}
use Rattle.steps.specs.Calls.{empty}
use Rattle.steps.specs.Changing.{Changing, made}
use Rattle.steps.specs.Readable.{readable}
use Rattle.steps.specs.Cutoffs.{usual-fits}
use Rattle.steps.proofs.Cutoff.{reset-taken, cutoff-stays, fetch-keeps-cutoff}
use Rattle.keeps.specs.Keeps.{empty-reads, fetch-reads}
use Rattle.keeps.specs.Lists.{All}
use Rattle.keeps.specs.Tested.{reads_in}
use Rattle.keeps.specs.Listed.{news-values}
use Rattle.layout.specs.Layout.{Tables}
use Rattle.layout.specs.Layout as layout
use Rattle.layout.specs.Rooms as rooms
use Rattle.layout.proofs.Copied.{write-lengths}
use Rattle.sparse.specs.Sparse.{Sparse, read}
use Rattle.sparse.specs.Fits.{Lengths}
use Rattle.sparse_test.specs.Reads.{reads}
use Rattle.sparse_test.specs.Meaning.{reads-readable}
use Rattle.sparse_test.specs.Asked.{asked}
use Rattle.lending.specs.Lending.{call_of, call_in}
use Rattle.lending.specs.Reset.{reset_of}
use Rattle.fetches.specs.Fetch.{Fetch, fetch_of, fetch_in, fetch18, flags_of, places}
use Rattle.sparse_test.specs.narrow.Narrow.{Narrow, Typed, made-narrow, fetch-narrow, empty-narrow}
use Rattle.sparse_test.specs.narrow.Tabled.{narrow-of}
use Rattle.sparse_test.specs.narrow.Holds.{Holds, made_reads}
use Rattle.solver.specs.Change.{call-holds}
use Rattle.lasting.specs.Promises.{fetch-holds, reset-holds}
use Rattle.lasting.specs.layouts.Dense as dense
use Rattle.lasting.specs.layouts.Written.{OneGroup, NoneWaits, Sayable, written-reads, written_read, write-wide}
use Rattle.lasting.specs.layouts.Groups.{NamesOne, all_listed, group-stays}

-- tables as the arrays' types have them; both tests for 18 say the same, and where they say yes the states are one
pub record Related (t : Tables) (u : Sparse) : Type 0 where
  pub lengths : rooms.Lengths t
  pub wide : rooms.Wide t
  pub long : Lengths u
  pub test : dense.reads t ≡ reads u
  pub state : Then (reads u) (layout.read t ≡ read u)

-- a state that the dense tables have a place for written into both
pub related-written : (s : State) (t : Tables) (u : Sparse) → readable s ≡ true → Sayable s → Narrow s → rooms.Lengths t → rooms.Wide t → Holds s u → Related (layout.write s t) u
related-written s t u r y n l w h =
    record {
      lengths = write-lengths s t l;
      wide = write-wide s t l w;
      long = h.lengths;
      test = written_read s t (reads_in s r) y n l w ∙ sym h.reads;
      state = rw h.reads (written-reads s t (reads_in s r) y n l w ∙ sym h.state);
    }

read_one : (t : Tables) → OneGroup (layout.read t)
unfolding layout.read layout.constraints_of layout.constraint_of
read_one t = all_listed (λ (c : Constraint). c.group ≡ 1) (layout.constraint_count t.head) (λ i. layout.constraint_of (get_or t.names (layout.constraints_at + i) []) (get_or t.reals (layout.constraints_at + i) [])) (λ j. refl)

read-sayable : (t : Tables) → Sayable (layout.read t)
read-sayable t = record { usual = unfold layout.read in refl; one = read_one t; none = unfold layout.read in refl }

-- ---- a list in which none is gone

none-gone : (s : State) → NoneWaits s → All (λ (c : Change). c.gone ≡ false) (fetch_changes s).list
unfolding fetch_changes merged
none-gone s e = rw e (news-values [] s.tableau.rows (cond s.changes.should_clear (clear_changed s.changes.variables) s.changes.variables))

no-flags : (l : List Change) → All (λ (c : Change). c.gone ≡ false) l → (m : ℕ) → layout.over 0 (flags_of l) (replicate m 0) ≡ replicate m 0
unfolding layout.over laid flags_of layout.bit_of
no-flags l h zero = refl
no-flags [] h (suc m) = refl
no-flags (c ∷ l) h (suc m) = rw h.0 (ap (λ (r : List ℕ). 0 ∷ r) (no-flags l h.1 m))

module _ (t : Tables) (u : Sparse) (r : Related t u) where
  module _ (e : reads u ≡ true) where
    dense-reads : dense.reads t ≡ true
    dense-reads = r.test ∙ e

    same : layout.read t ≡ read u
    same = then-given (layout.read t ≡ read u) e r.state

    sayable : Sayable (read u)
    sayable = subst Sayable same (read-sayable t)

    held : Holds (read u) u
    held = record { lengths = r.long; reads = e; state = refl }

  -- "Each changing call answers: accepted or a number below, pivots made, whole mark": the same on both, 18 too.
  -- The tables stay related where no gone entry waits after it: of a removal, where no variable goes that a fetch has reported.
  pub related-call : (c : Changing) (v : Tables) (w : Sparse) → Typed c → NamesOne c → rooms.lengths_right v ≡ true
      → ((dense.call_of (made c) v t).answer ≡ (call_of (made c) w u).answer) × (NoneWaits (made c (read u)).state → Related (dense.call_of (made c) v t).tables (call_of (made c) w u).tables)
  unfolding dense.call_of dense.call_in
  related-call c v w typed names room = go (reads u) refl
    where
      go : (b : Bool) → reads u ≡ b → ((dense.call_of (made c) v t).answer ≡ (call_of (made c) w u).answer) × (NoneWaits (made c (read u)).state → Related (dense.call_of (made c) v t).tables (call_of (made c) w u).tables)
      go true e =
          let k = call-holds c (read u) w u typed (held e) in
          let n = made-narrow (read u) (narrow-of u e) c typed in
          let q = made_reads c (read u) (reads-readable u e) in
          rw (dense-reads e, room, same e) (sym k.0, λ none. related-written (made c (read u)).state t (call_of (made c) w u).tables q (record { usual = cutoff-stays c (read u) ∙ (sayable e).usual; one = group-stays c (read u) names (sayable e).one; none = none }) n r.lengths r.wide k.1)
      go false e = unfold call_of in rw (r.test, e) (refl, λ none. r)

  -- the same list on both, in which none is gone
  pub related-fetch :
      ((dense.fetch_of t).number ≡ (fetch_of u).number) × ((dense.fetch_of t).count ≡ (fetch_of u).count) × ((dense.fetch_of t).numbers ≡ (fetch_of u).numbers) × ((dense.fetch_of t).values ≡ (fetch_of u).values) × ((fetch_of u).gone ≡ replicate places 0) × Related (dense.fetch_of t).tables (fetch_of u).tables
  unfolding dense.fetch_of fetch_in
  related-fetch = go (reads u) refl
    where
      go : (b : Bool) → reads u ≡ b
          → ((dense.fetch_of t).number ≡ (fetch_of u).number) × ((dense.fetch_of t).count ≡ (fetch_of u).count) × ((dense.fetch_of t).numbers ≡ (fetch_of u).numbers) × ((dense.fetch_of t).values ≡ (fetch_of u).values) × ((fetch_of u).gone ≡ replicate places 0) × Related (dense.fetch_of t).tables (fetch_of u).tables
      go true e =
          let k : Holds (fetch_changes (read u)).state (fetch_of u).tables = fetch-holds (read u) u (held e) in
          let q = related-written (fetch_changes (read u)).state t (fetch_of u).tables (fetch-reads (read u) (reads-readable u e)) (record { usual = fetch-keeps-cutoff (read u) ∙ (sayable e).usual; one = unfold fetch_changes in (sayable e).one; none = unfold fetch_changes in refl }) (fetch-narrow (read u) (narrow-of u e)) r.lengths r.wide k in
          let made_list : fetch_of u ≡ fetch_in u = unfold fetch_of in rw e refl in
          rw (dense-reads e, same e) (ap (λ (x : Fetch). x.number) (sym made_list), ap (λ (x : Fetch). x.count) (sym made_list), ap (λ (x : Fetch). x.numbers) (sym made_list), ap (λ (x : Fetch). x.values) (sym made_list), ap (λ (x : Fetch). x.gone) made_list ∙ no-flags (fetch_changes (read u)).list (none-gone (read u) (sayable e).none) places, q)
      go false e = unfold fetch_of in unfold fetch18 in rw (r.test, e) (refl, refl, refl, refl, refl, r)

  -- a query answers the same
  pub related-asked : {A : Type 0} (query : State → A) (otherwise : A) → dense.asked query otherwise t ≡ asked query otherwise u
  unfolding dense.asked asked
  related-asked query otherwise = go (reads u) refl
    where
      go : (b : Bool) → reads u ≡ b → dense.asked query otherwise t ≡ asked query otherwise u
      go true e = rw (dense-reads e, same e, e) refl
      go false e = rw (r.test, e) refl

-- a reset with the usual cutoff, of any two tables as the arrays' types have them
pub related-reset : (t : Tables) (u : Sparse) → rooms.Lengths t → rooms.Wide t → Lengths u → ((dense.reset_of t).answer ≡ (reset_of usual_cutoff u).answer) × Related (dense.reset_of t).tables (reset_of usual_cutoff u).tables
unfolding dense.reset_of dense.call_in
related-reset t u l w k =
    let h : Holds (empty usual_cutoff) (reset_of usual_cutoff u).tables = reset-holds usual_cutoff usual-fits u k in
    rw (rooms.lengths-right t l, reset-taken usual_cutoff (layout.read t) usual-fits) (
      unfold reset_of in unfold call_in in rw (usual-fits, reset-taken usual_cutoff (read u) usual-fits) refl,
      related-written (empty usual_cutoff) t (reset_of usual_cutoff u).tables (empty-reads usual_cutoff usual-fits) (record { usual = unfold empty in refl; one = unfold empty in tt; none = unfold empty in refl }) (empty-narrow usual_cutoff) l w h,
    )
