-- On tables that read as a state, every call's answer is the text of the steps' reply, and the tables afterwards are the steps' state written back.
use Rattle.std.specs.Prelude.{Some, ℕ, ◌+◌, ◌≤◌, ◌<◌, ◌≡◌, Bool, List, map, get_or, replicate}
use Rattle.std.proofs.Math.Path.{refl, ap}
use Rattle.std.proofs.Common.{sym, ◌∙◌, subst, arith}
use Rattle.std.proofs.Math.Bool.{true, false}
use Rattle.std.proofs.Math.Nat.{zero-add}
use Rattle.std.proofs.Math.Dec.{T, eqb}
use Rattle.std.proofs.Math.ListN.{length, length-replicate, length-map, get_or-map}
use Rattle.std.specs.Float.{nan}
use Rattle.steps.specs.Number.{zero64}
use Rattle.steps.specs.Changes.{Change, fetch_changes}
use Rattle.steps.specs.Session.{Call, turn, answered, resets, adds, removes, drops, adds_edit, removes_edit, suggests, value_of, fetches, has_constraints, has_edits, creates, clips, reads as readsAid, dumps, sets_next}
use Rattle.steps.specs.Shown.{shown}
use Rattle.laws.specs.Lists.{list_of-is, laid_in}
use Rattle.keeps.specs.Tested.{reads_in}
use Rattle.layout.specs.Layout.{bit_of, over}
use Rattle.sparse.specs.Sparse.{Sparse, read}
use Rattle.sparse.specs.Write.{write}
use Rattle.sparse.proofs.Written.{write_read}
use Rattle.sparse_test.specs.Reads.{reads}
use Rattle.sparse_test.specs.Meaning.{reads-form, reads-readable}
use Rattle.sparse_test.specs.Asked.{asked}
use Rattle.lending.specs.Lending.{call_in, call_of}
use Rattle.lending.specs.Reset.{reset-read}
use Rattle.fetches.specs.Fetch.{numbers_of, values_of, flags_of, fetch_of, fetch_in, places}
use Rattle.fetches.specs.Few.{fetch-room}
use Rattle.text.specs.Answers.{listed_at, listed_in, reply_text}
use Rattle.session.specs.Said.{Said, said, fetch_said}
use Rattle.session.specs.Calls.{said_by, reply_of}
use Rattle.session.specs.Shows.{given_reply, shown_reply}

-- the steps' turn, as text and tables
unfoldable pub turn_said : Call → Sparse → Said
turn_said c t = said (reply_text (turn c (read t)).reply) (write (turn c (read t)).state t)

-- every call but the steps' three aids for tests
unfoldable pub of_document : Call → Bool
of_document (resets x) = true
of_document (adds g n ts k r b) = true
of_document (removes n b) = true
of_document (drops g b) = true
of_document (adds_edit v x b) = true
of_document (removes_edit v b) = true
of_document (suggests v x b) = true
of_document (value_of v) = true
of_document fetches = true
of_document (has_constraints n) = true
of_document (has_edits v) = true
of_document (creates a b c w) = true
of_document (clips x) = true
of_document readsAid = false
of_document dumps = false
of_document (sets_next n) = false

-- ---- what a fetch puts at the front of its three lists is its list

module _ (l : List Change) (few : length l ≤ places) where
  abbrev none-at : Change
  none-at = record { variable = 0; new = nan; gone = false }

  -- a part of the entries, over a list of zeros
  part_at : {A : Type 0} (f : Change → A) (z : A) (j : ℕ) → j < length l → get_or (over 0 (map f l) (replicate places z)) j (f none-at) ≡ f (get_or l j none-at)
  unfolding over
  part_at f z j h =
      let e : 0 + j ≡ j = zero-add j in
      let k : length (map f l) ≡ length l = length-map l f in
      let m : length (replicate places z) ≡ places = length-replicate places z in
      rw e at (laid_in (λ x _. x) 0 (map f l) (replicate places z) j (f none-at) (f none-at) (omega (arith, h, k)) (omega (arith, h, few, m, e)))
      ∙ get_or-map f l j none-at

  number-at : (j : ℕ) → j < length l → get_or (over 0 (numbers_of l) (replicate places 0)) j 0 ≡ (get_or l j none-at).variable
  unfolding numbers_of
  number-at = part_at (λ (c : Change). c.variable) 0

  value-at : (j : ℕ) → j < length l → get_or (over 0 (values_of l) (replicate places zero64)) j nan ≡ (get_or l j none-at).new
  unfolding values_of
  value-at = part_at (λ (c : Change). c.new) zero64

  flag-back : (b : Bool) → eqb (bit_of b) 1 ≡ b
  unfolding bit_of
  flag-back true = refl
  flag-back false = refl

  gone_at : (j : ℕ) → j < length l → eqb (get_or (over 0 (flags_of l) (replicate places 0)) j 0) 1 ≡ (get_or l j none-at).gone
  unfolding flags_of bit_of
  gone_at j h = ap (λ (x : ℕ). eqb x 1) (part_at (λ (c : Change). bit_of c.gone) 0 j h) ∙ flag-back (get_or l j none-at).gone

  listed_back : listed_in (length l) (over 0 (numbers_of l) (replicate places 0)) (over 0 (values_of l) (replicate places zero64)) (over 0 (flags_of l) (replicate places 0)) ≡ l
  unfolding listed_in
  listed_back = list_of-is (listed_at (over 0 (numbers_of l) (replicate places 0)) (over 0 (values_of l) (replicate places zero64)) (over 0 (flags_of l) (replicate places 0))) l none-at λ j h. rw (number-at j h, value-at j h, gone_at j h) refl

-- ---- call by call

module _ (t : Sparse) (ok : reads t ≡ true) where
  same : write (read t) t ≡ t
  same = write_read t (reads-form t ok)

  pub reply-turn : (c : Call) → of_document c ≡ true → reply_of (Some c) t ≡ turn_said c t
  unfolding reply_of turn_said turn answered reply_text said_by call_of call_in asked fetch_said fetch_of fetch_in of_document
  reply-turn (resets x) e = rw (reset-read x t ok) refl
  reply-turn (adds g n ts k r b) e = rw ok refl
  reply-turn (removes n b) e = rw ok refl
  reply-turn (drops g b) e = rw ok refl
  reply-turn (adds_edit v x b) e = rw ok refl
  reply-turn (removes_edit v b) e = rw ok refl
  reply-turn (suggests v x b) e = rw ok refl
  reply-turn (value_of v) e = rw (ok, same) refl
  reply-turn fetches e = rw (ok, listed_back (fetch_changes (read t)).list (fetch-room (read t) (reads_in (read t) (reads-readable t ok)))) refl
  reply-turn (has_constraints n) e = rw (ok, same) refl
  reply-turn (has_edits v) e = rw (ok, same) refl
  reply-turn (creates a b c k) e = rw same refl
  reply-turn (clips x) e = rw same refl
  reply-turn readsAid e = absurd (subst T (sym e) tt)
  reply-turn dumps e = absurd (subst T (sym e) tt)
  reply-turn (sets_next n) e = absurd (subst T (sym e) tt)

  -- and `show C` by what the steps show; the tables stay
  pub show-turn : (n : ℕ) → shown_reply n t ≡ given_reply (shown n (read t))
  unfolding shown_reply
  show-turn n = rw ok refl
