-- "Changes suffice.": the claim of Reader holds. Between fetches the reader holds what was last told of every number that doesn't wait among the gone; a fetch tells the rest. Assumes nothing.
use Rattle.std.specs.Prelude.{◌≡◌, List, map, Bool, ◌&&◌, ◌||◌, ℕ, Float}
use Rattle.std.proofs.Math.Path.{refl, sym, ap, subst}
use Rattle.std.proofs.Common.{◌∙◌, inl, true≢false}
use Rattle.std.proofs.Math.Logic.{inr}
use Rattle.std.proofs.Math.Option.{Option, none, some}
use Rattle.std.proofs.Math.Bool.{true, false, not, cond}
use Rattle.std.specs.Float.Ieee.{eq, ne}
use Rattle.steps.specs.Number.{zero64, is_finite, cutoff_fits}
use Rattle.steps.specs.Row.{Row}
use Rattle.steps.specs.State.{Basic, Variable, State}
use Rattle.steps.specs.Work.{find_row}
use Rattle.steps.specs.Changes.{with_flag, clear_changed, member, never_reported, find_variable, value_of, value, is_news, is_listed, news_of, merged, reported, fetch_changes}
use Rattle.steps.specs.Calls.{empty, reset, refused_by}
use Rattle.steps.specs.Changing.{Changing, adds, removes, drops, adds_edit, removes_edit, suggests, made}
use Rattle.steps.specs.Readable.{readable}
use Rattle.steps.proofs.Told.{told_as, told-map}
use Rattle.steps.proofs.Stands.{told-stands}
use Rattle.steps.proofs.Cutoff.{reset-refused, reset-taken}
use Rattle.keeps.specs.Lists.{All, all-to, Up, none≢some, no_both}
use Rattle.keeps.specs.Keys.{row_id, find-all, find-some, find_variable-is, Row?, no_row, a-row, row?}
use Rattle.keeps.specs.Cells.{zero-finite}
use Rattle.keeps.specs.RowOps.{RowOk}
use Rattle.keeps.specs.Fits.{IsBasic, all_map}
use Rattle.keeps.specs.Uses.{var_number}
use Rattle.keeps.specs.Good.{numbers-map}
use Rattle.keeps.specs.Reads.{Reads}
use Rattle.keeps.specs.Tested.{reads_in}
use Rattle.keeps.specs.Listed.{news-up, news-values}
use Rattle.keeps.specs.Keeps.{empty-reads, reset-reads, add_reads, remove-reads, drop-reads, add_edit-reads, remove_edit-reads, suggest-reads, fetch-reads}
use Rattle.keeps.specs.suffices.Numbers.{Is, is-refl, is-sym, is-trans}
use Rattle.keeps.specs.suffices.Fresh.{held, Fresh}
use Rattle.keeps.specs.suffices.Calls.{Informed, made-informed}
use Rattle.keeps.specs.suffices.Listing.{outcome, news_at, told_by, mapped}
use Rattle.keeps.proofs.suffices.Listing.{takes-merged, listed-news, told-found, find-map}
use Rattle.keeps.specs.suffices.Reader.{Reader, nothing, takes_all, holds, Follows, starts, resets, calls, fetches, Agrees, Suffices}

-- what holds between calls
record Knows (s : State) (r : Reader) : Type 0 where
  informed : Informed s
  held-so : (n : ℕ) → member n s.changes.gone ≡ false → r n ≡ told_as n s.changes.variables

-- ---- a fetch

module _ (s : State) (r : Reader) (reads : Reads s) (k : Knows s r) where
  rows : List Basic
  rows = s.tableau.rows

  gone : List ℕ
  gone = s.changes.gone

  -- the variables as the fetch finds them: their set cleared, or not
  clears : Bool → List Variable
  clears b = cond b (clear_changed s.changes.variables) s.changes.variables

  vs : List Variable
  vs = clears s.changes.should_clear

  after : List Variable
  after = map (reported gone rows) vs

  up : Up 0 (map var_number vs)
  unfolding vs clears clear_changed with_flag
  up = go s.changes.should_clear
    where
      go : (b : Bool) → Up 0 (map var_number (cond b (clear_changed s.changes.variables) s.changes.variables))
      go true = rw (numbers-map (with_flag false) (λ v. refl)) reads.variables-up
      go false = reads.variables-up

  after-up : Up 0 (map var_number after)
  unfolding after reported
  after-up = rw (numbers-map (reported gone rows) (λ v. refl)) up

  same-told : (n : ℕ) → told_as n vs ≡ told_as n s.changes.variables
  unfolding vs clears clear_changed with_flag
  same-told n = go s.changes.should_clear
    where
      go : (b : Bool) → told_as n (cond b (clear_changed s.changes.variables) s.changes.variables) ≡ told_as n s.changes.variables
      go true = told-map (with_flag false) (λ v. refl) (λ v. refl) n s.changes.variables
      go false = refl

  value-finite : (v : Variable) → is_finite (value_of v rows) ≡ true
  unfolding rows
  value-finite v = unfold value_of in go (find_row v.symbol.id s.tableau.rows) (row? v.symbol.id s.tableau.rows)
    where
      go : (o : Option Row) → Row? v.symbol.id s.tableau.rows o → is_finite (elim o [ none ↦ zero64 | some q ↦ q.constant ]) ≡ true
      go o (no_row q) = zero-finite
      go o (a-row b q) = (find-all row_id (λ (b : Basic). RowOk (IsBasic s.tableau.rows) Unit s.tableau.symbols b.row) v.symbol.id s.tableau.rows b q reads.fits.rows).0 tt

  -- one that is listed is reported from then on
  listed-reported : (v : Variable) → is_listed gone rows v ≡ true → (never_reported (reported gone rows v) ≡ false) × ((reported gone rows v).old ≡ value_of v rows)
  unfolding never_reported reported ne
  listed-reported v e = rw e (ap not (is-refl (value_of v rows) (value-finite v)), refl)

  unlisted-same : (v : Variable) → is_listed gone rows v ≡ false → (reported gone rows v).old ≡ v.old
  unfolding reported
  unlisted-same v e = rw e refl

  not-gone : (v : Variable) → is_listed gone rows v ≡ false → (is_news rows v ≡ false) × (member v.number gone ≡ false)
  unfolding is_listed
  not-gone v e = go (is_news rows v) (member v.number gone) e
    where
      go : (a b : Bool) → (a || b) ≡ false → (a ≡ false) × (b ≡ false)
      go true b q = absurd (true≢false q)
      go false b q = (refl, q)

  found_after : (n : ℕ) → find_variable n after ≡ mapped (reported gone rows) (find_variable n vs)
  unfolding after reported
  found_after n = find-map (reported gone rows) (λ v. refl) n vs

  -- after it, all that was told stands by the reader
  told-after : (n : ℕ) → takes_all (merged gone (news_of gone rows vs)) r n ≡ told_as n after
  unfolding gone rows
  told-after n =
      takes-merged n 0 0 gone (news_of gone rows vs) r reads.waits.up (news-up gone rows 0 vs up) (news-values gone rows vs)
      ∙ ap (λ (o : Option Float). outcome o (member n gone) (r n)) (listed-news gone rows n 0 vs up)
      ∙ go (find_variable n vs) refl (member n gone) refl
      ∙ sym (told-found n 0 after after-up ∙ ap told_by (found_after n))
    where
      before : member n gone ≡ false → (o : Option Variable) → find_variable n vs ≡ o → r n ≡ told_by o
      before m o e = k.held-so n m ∙ sym (same-told n) ∙ told-found n 0 vs up ∙ ap told_by e

      -- what the list makes of a variable that is found
      news : (v : Variable) (m t : Bool) → is_listed gone rows v ≡ t → outcome (news_at gone rows (some v)) m (r n) ≡ outcome (cond t (some (value_of v rows)) none) m (r n)
      news v m t l = ap (λ (b : Bool). outcome (cond b (some (value_of v rows)) none) m (r n)) l

      yes : (v : Variable) (m : Bool) → outcome (some (value_of v rows)) m (r n) ≡ some (value_of v rows)
      yes v m = unfold outcome in refl

      no : outcome none false (r n) ≡ r n
      no = unfold outcome in refl

      told : (v u : Variable) → never_reported u ≡ never_reported v → u.old ≡ v.old → told_by (some u) ≡ told_by (some v)
      told v u p q = ap (λ (b : Bool). cond b none (some u.old)) p ∙ ap (λ (x : Float). cond (never_reported v) none (some x)) q

      never : (v : Variable) → is_listed gone rows v ≡ false → never_reported (reported gone rows v) ≡ never_reported v
      never v l = unfold never_reported in ap (λ (x : Float). ne x x) (unlisted-same v l)

      some-found : (v : Variable) → find_variable n vs ≡ some v → (t : Bool) → is_listed gone rows v ≡ t → (m : Bool) → member n gone ≡ m → outcome (news_at gone rows (some v)) m (r n) ≡ told_by (some (reported gone rows v))
      some-found v e true l m g =
          news v m true l ∙ yes v m
          ∙ sym (ap (λ (b : Bool). cond b none (some (reported gone rows v).old)) (listed-reported v l).0 ∙ ap (λ (x : Float). some x) (listed-reported v l).1)
      some-found v e false l true g = absurd (no_both (subst (λ (i : ℕ). member i gone ≡ true) (find-some var_number n vs v (sym (find_variable-is n vs) ∙ e)) g) (not-gone v l).1)
      some-found v e false l false g = news v false false l ∙ no ∙ before g (some v) e ∙ sym (told v (reported gone rows v) (never v l) (unlisted-same v l))

      go : (o : Option Variable) → find_variable n vs ≡ o → (m : Bool) → member n gone ≡ m → outcome (news_at gone rows o) m (r n) ≡ told_by (mapped (reported gone rows) o)
      go (some v) e m g = some-found v e (is_listed gone rows v) refl m g
      go none e true g = unfold outcome in refl
      go none e false g = unfold outcome in before g none e

  -- and every value is the one told
  agreed : (v w : Variable) → w.symbol ≡ v.symbol → w.old ≡ v.old → (s.changes.should_clear ≡ false → w.changed ≡ v.changed) → Fresh s.changes.should_clear rows v → Is (value_of (reported gone rows w) rows) (held (reported gone rows w))
  agreed v w p q c f = go (is_listed gone rows w) refl
    where
      same-value : value_of (reported gone rows w) rows ≡ value_of w rows
      same-value = unfold value_of reported in refl

      held-listed : is_listed gone rows w ≡ true → held (reported gone rows w) ≡ value_of w rows
      held-listed l = ap (λ (b : Bool). cond b zero64 (reported gone rows w).old) (listed-reported w l).0 ∙ (listed-reported w l).1

      held_same : is_listed gone rows w ≡ false → held (reported gone rows w) ≡ held w
      held_same l = unfold never_reported in ap (λ (x : Float). cond (ne x x) zero64 x) (unlisted-same w l)

      -- not news, though in the changed set: the old value is the value
      old-is : is_news rows w ≡ false → w.changed ≡ true → Is w.old (value_of w rows)
      old-is l t = unfold is_news ne in by (eq w.old (value_of w rows)) (ap (λ (b : Bool). b && not (eq w.old (value_of w rows))) (sym t) ∙ l)
        where
          by : (b : Bool) → not b ≡ false → b ≡ true
          by true e = refl
          by false e = absurd (true≢false e)

      -- and so was reported
      was-told : Is w.old (value_of w rows) → held w ≡ w.old
      was-told e = unfold never_reported ne in by (eq w.old w.old) (is-trans w.old (value_of w rows) w.old e (is-sym w.old (value_of w rows) e))
        where
          by : (b : Bool) → b ≡ true → cond (not b) zero64 w.old ≡ w.old
          by true e = refl
          by false e = absurd (true≢false (sym e))

      unlisted : is_news rows w ≡ false → Fresh s.changes.should_clear rows v → Is (value_of w rows) (held w)
      unlisted l (inl h) = let e : Is w.old (value_of w rows) = old-is l (c h.0 ∙ h.1) in subst (Is (value_of w rows)) (sym (was-told e)) (is-sym w.old (value_of w rows) e)
      unlisted l (inr h) = unfold value_of never_reported in rw (p, q) h

      go : (t : Bool) → is_listed gone rows w ≡ t → Is (value_of (reported gone rows w) rows) (held (reported gone rows w))
      go true l = subst (λ (x : Float). Is x (held (reported gone rows w))) (sym same-value) (subst (Is (value_of w rows)) (sym (held-listed l)) (is-refl (value_of w rows) (value-finite w)))
      go false l = subst (λ (x : Float). Is x (held (reported gone rows w))) (sym same-value) (subst (Is (value_of w rows)) (sym (held_same l)) (unlisted (not-gone w l).0 f))

  all-agreed : All (λ (v : Variable). Is (value_of v rows) (held v)) after
  unfolding after vs clears
  all-agreed = all_map (reported gone rows) (λ (v : Variable). Is (value_of v rows) (held v)) (clears s.changes.should_clear) (go s.changes.should_clear refl)
    where
      fresh : All (Fresh s.changes.should_clear rows) s.changes.variables
      fresh = unfold rows in k.informed.aware

      go : (b : Bool) → s.changes.should_clear ≡ b → All (λ (v : Variable). Is (value_of (reported gone rows v) rows) (held (reported gone rows v))) (cond b (clear_changed s.changes.variables) s.changes.variables)
      go true e =
          unfold clear_changed in
          all_map (with_flag false) (λ (v : Variable). Is (value_of (reported gone rows v) rows) (held (reported gone rows v))) s.changes.variables
          (all-to (Fresh s.changes.should_clear rows) _ (λ v f. agreed v (with_flag false v) (unfold with_flag in refl) (unfold with_flag in refl) (λ q. absurd (no_both e q)) f) s.changes.variables fresh)
      go false e = all-to (Fresh s.changes.should_clear rows) _ (λ v f. agreed v v refl refl (λ q. refl) f) s.changes.variables fresh

  fetch-knows : Knows (fetch_changes s).state (takes_all (fetch_changes s).list r)
  unfolding fetch_changes gone rows vs clears after
  fetch-knows =
      record {
        informed = record { aware = all-to (λ (v : Variable). Is (value_of v rows) (held v)) _ (λ v e. inr e) after all-agreed; rounded = k.informed.rounded };
        held-so = λ n _. told-after n;
      }

  fetch-agrees : (n : ℕ) → Agrees (fetch_changes s).state (takes_all (fetch_changes s).list r) n
  unfolding fetch_changes gone rows vs clears after value
  fetch-agrees n = go (find_variable n after) refl
    where
      reader : Reader
      reader = takes_all (merged gone (news_of gone rows vs)) r

      knows : (o : Option Variable) → find_variable n after ≡ o → reader n ≡ told_by o
      knows o e = told-after n ∙ told-found n 0 after after-up ∙ ap told_by e

      holds-told : (v : Variable) (b : Bool) → never_reported v ≡ b → (x : Option Float) → x ≡ cond b none (some v.old) → elim x as (λ _. Float) [ none ↦ zero64 | some y ↦ y ] ≡ cond b zero64 v.old
      holds-told v true e x q = rw q refl
      holds-told v false e x q = rw q refl

      holds-held : (v : Variable) → find_variable n after ≡ some v → holds reader n ≡ held v
      holds-held v e = unfold holds in holds-told v (never_reported v) refl (reader n) (knows (some v) e)

      go : (o : Option Variable) → find_variable n after ≡ o → (eq (holds reader n) (elim o as (λ _. Float) [ none ↦ zero64 | some v ↦ value_of v rows ]) ≡ true) × (o ≡ none → reader n ≡ none)
      go none e = (unfold holds in subst (λ (x : Option Float). Is (elim x as (λ _. Float) [ none ↦ zero64 | some y ↦ y ]) zero64) (sym (knows none e)) (is-refl zero64 zero-finite), λ _. knows none e)
      go (some v) e = (
        subst (λ (x : Float). Is x (value_of v rows)) (sym (holds-held v e)) (is-sym (value_of v rows) (held v) (find-all var_number (λ (v : Variable). Is (value_of v rows) (held v)) n after v (sym (find_variable-is n after) ∙ e) all-agreed)),
        λ q. absurd (none≢some (sym q)),
      )

-- ---- a run

made_reads : (c : Changing) (s : State) → readable s ≡ true → readable (made c s).state ≡ true
made_reads (adds g n ts k r b) s h = add_reads g n ts k r b s h
made_reads (removes n b) s h = remove-reads n b s h
made_reads (drops g b) s h = drop-reads g b s h
made_reads (adds_edit n k b) s h = add_edit-reads n k b s h
made_reads (removes_edit n b) s h = remove_edit-reads n b s h
made_reads (suggests n x b) s h = suggest-reads n x b s h

empty-knows : (cutoff : Float) → Knows (empty cutoff) nothing
unfolding empty nothing told_as
empty-knows cutoff = record { informed = record { aware = tt; rounded = tt }; held-so = λ n e. refl }

made-knows : (c : Changing) (s : State) (r : Reader) → Reads s → Knows s r → Knows (made c s).state r
made-knows c s r reads k =
    record {
      informed = made-informed c s reads k.informed;
      held-so = λ n m. let t = (told-stands c s).told n m in k.held-so n t.0 ∙ sym t.1;
    }

-- every state of a run reads as one, and the reader knows it
follows-knows : {s : State} {r : Reader} → Follows s r → (readable s ≡ true) × Knows s r
follows-knows (starts cutoff fits) = (empty-reads cutoff fits, empty-knows cutoff)
follows-knows (resets {s} {r} cutoff h) = let i = follows-knows h in (reset-reads cutoff s i.0, go (cutoff_fits cutoff) refl i.1)
  where
    go : (b : Bool) → cutoff_fits cutoff ≡ b → Knows s r → Knows (reset cutoff s).state (cond b nothing r)
    go true e k = rw (reset-taken cutoff s e) (empty-knows cutoff)
    go false e k = rw (reset-refused cutoff s e) (unfold refused_by in k)
follows-knows (calls {s} {r} c h) = let i = follows-knows h in (made_reads c s i.0, made-knows c s r (reads_in s i.0) i.1)
follows-knows (fetches {s} {r} h) = let i = follows-knows h in (fetch-reads s i.0, fetch-knows s r (reads_in s i.0) i.1)

-- CHANGES SUFFICE
pub changes-suffice : Suffices
changes-suffice s r h n = let i = follows-knows h in fetch-agrees s r (reads_in s i.0) i.1 n
