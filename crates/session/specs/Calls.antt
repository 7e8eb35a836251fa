-- Every call's answer and what it leaves: `reply_of`, of the call that a line names.
use Rattle.std.specs.Prelude.{ℕ, ◌≤◌, ◌<◌, ◌≡◌, Bool, false, List, [], ◌∷◌, map, length, take, Float, Option, Some, None}
use Rattle.std.proofs.Math.Path.{refl}
use Rattle.std.proofs.Common.{sym, ap, arith, le-leb}
use Rattle.std.proofs.Math.Option.{Option as Held, none, some}
use Rattle.std.proofs.lemmas.Bool.{lt-leb}
use Rattle.std.specs.Float.{binary64}
use Rattle.std.specs.Float.Ieee.{to_bits}
use Rattle.steps.specs.Number.{zero64}
use Rattle.steps.specs.Strength.{create, clip}
use Rattle.steps.specs.State as steps
use Rattle.steps.specs.State.{at_most, equal, at_least}
use Rattle.steps.specs.Calls.{add, remove, drop_group, add_edit, remove_edit, suggest}
use Rattle.steps.specs.Changes.{value}
use Rattle.steps.specs.Changing.{made}
use Rattle.steps.specs.Tests.{has_constraint, has_edit}
use Rattle.steps.specs.Session as session
use Rattle.steps.specs.Session.{resets, adds, removes, drops, adds_edit, removes_edit, suggests, value_of, fetches, has_constraints, has_edits, creates, clips, reads, dumps, sets_next}
use Rattle.sparse.specs.Sparse.{Sparse}
use Rattle.changes.specs.tags.Tags.{relation_of}
use Rattle.sparse_test.specs.Asked.{asked}
use Rattle.lending.specs.Lending.{Called, called, answer_of, call_of}
use Rattle.lending.specs.Reset.{reset_of}
use Rattle.lending.specs.Entered.{zero_room}
use Rattle.lending.specs.declared.Answer as code
use Rattle.fetches.specs.Fetch.{fetch_of}
use Rattle.changes.specs.declared.terms.Pack.{Pack}
use Rattle.changes.specs.terms.Terms.{term_of, terms_in, listed}
use Rattle.changes.specs.declared.Change as changes
use Rattle.changes.specs.declared.Change.TheVariants.{Add, Remove, Drop, AddEdit, RemoveEdit, Suggest}
use Rattle.changes.specs.Change.{changing_of}
use Rattle.solver.specs.Listed.{listed-call}
use Rattle.text.specs.declared.calls.Call.{Call}
use Rattle.text.specs.declared.calls.Call.TheVariants.{Reset, Change, Ask, Fetch}
use Rattle.text.specs.declared.calls.Query.{Query}
use Rattle.text.specs.declared.calls.Query.TheVariants.{Value, HasCon, HasEdit, Create, Clip}
use Rattle.text.specs.declared.calls.Line.{Line}
use Rattle.text.specs.Words.{words_of}
use Rattle.text.specs.Format as format
use Rattle.text.specs.Lines.{as_term, as_relation, line_of}
use Rattle.text.specs.Stream.{held_of, held_in}
use Rattle.text.specs.Answers.{Wrote, answer_text, float_text, flag_text, unread_text, answer-short, hex-length, flag-length}
use Rattle.session.specs.Said.{Said, said, Spoken, fetch_said, fetch-short}

-- the working room of a change: all zero
abbrev pub room : Sparse
room = zero_room

-- "changing calls and reset `REFUSAL PIVOTS MARK`"
unfoldable pub said_by : Called → Said
said_by c = said (answer_text c.answer.number c.answer.pivots c.answer.whole) c.tables

-- the answer to a call over the tables t; the steps' aids for tests are no calls of the format
unfoldable pub reply_of : Option session.Call → Sparse → Said
reply_of None t = said unread_text t
reply_of (Some (resets x)) t = said_by (reset_of x t)
reply_of (Some (adds g n ts k r b)) t = said_by (call_of (add g n ts k r b) room t)
reply_of (Some (removes n b)) t = said_by (call_of (remove n b) room t)
reply_of (Some (drops g b)) t = said_by (call_of (drop_group g b) room t)
reply_of (Some (adds_edit v x b)) t = said_by (call_of (add_edit v x b) room t)
reply_of (Some (removes_edit v b)) t = said_by (call_of (remove_edit v b) room t)
reply_of (Some (suggests v x b)) t = said_by (call_of (suggest v x b) room t)
reply_of (Some (value_of v)) t = said (float_text (asked (value v) zero64 t)) t
reply_of (Some fetches) t = fetch_said (fetch_of t)
reply_of (Some (has_constraints n)) t = said (flag_text (asked (has_constraint n) false t)) t
reply_of (Some (has_edits v)) t = said (flag_text (asked (has_edit v) false t)) t
reply_of (Some (creates a b c k)) t = said (float_text (create a b c k)) t
reply_of (Some (clips x)) t = said (float_text (clip x)) t
reply_of (Some reads) t = said unread_text t
reply_of (Some dumps) t = said unread_text t
reply_of (Some (sets_next n)) t = said unread_text t

-- the answer to a line
unfoldable pub line_reply : List ℕ → Sparse → Said
line_reply line t = reply_of (format.call_of (words_of line)) t

-- to a line that may be too long
unfoldable pub held_reply : Held (List ℕ) → Sparse → Said
held_reply none t = said unread_text t
held_reply (some line) t = line_reply line t

-- ---- the code's call, p being the terms of an add

-- as the steps have it
abbrev pub call_from : Call → Pack → session.Call
call_from (Reset x) p = resets x
call_from (Change (Add g n k r) b) p = adds g n (terms_in (listed p)) k (relation_of r) b
call_from (Change (Remove n) b) p = removes n b
call_from (Change (Drop g) b) p = drops g b
call_from (Change (AddEdit v s) b) p = adds_edit v s b
call_from (Change (RemoveEdit v) b) p = removes_edit v b
call_from (Change (Suggest v x) b) p = suggests v x b
call_from (Ask (Value v)) p = value_of v
call_from (Ask (HasCon c)) p = has_constraints c
call_from (Ask (HasEdit v)) p = has_edits v
call_from (Ask (Create a b c k)) p = creates a b c k
call_from (Ask (Clip s)) p = clips s
call_from Fetch p = fetches

-- the answer to a query
abbrev pub asked_text : Query → Sparse → List ℕ
asked_text (Value v) t = float_text (asked (value v) zero64 t)
asked_text (HasCon c) t = flag_text (asked (has_constraint c) false t)
asked_text (HasEdit v) t = flag_text (asked (has_edit v) false t)
asked_text (Create a b c k) t = float_text (create a b c k)
asked_text (Clip s) t = float_text (clip s)

pub asked-wrote : (a b : List ℕ) (i j : ℕ) (t : Sparse) {q d : Query} {s : List ℕ} → q ≡ d → s ≡ asked_text d t → Wrote a b i j s → Wrote a b i j (asked_text q t)
asked-wrote a b i j t e f w = rw (e, ← f) w

ask-reply : (q : Query) (p : Pack) (t : Sparse) → reply_of (Some (call_from (Ask q) p)) t ≡ said (asked_text q t) t
unfolding reply_of
ask-reply (Value v) p t = refl
ask-reply (HasCon c) p t = refl
ask-reply (HasEdit v) p t = refl
ask-reply (Create a b c k) p t = refl
ask-reply (Clip s) p t = refl

change-reply : (c : changes.Change) (p : Pack) (b : ℕ) (t : Sparse) → reply_of (Some (call_from (Change c b) p)) t ≡ said_by (call_of (made (changing_of c p b)) room t)
unfolding reply_of
change-reply (Add g n k r) p b t = refl
change-reply (Remove n) p b t = refl
change-reply (Drop g) p b t = refl
change-reply (AddEdit v s) p b t = refl
change-reply (RemoveEdit v) p b t = refl
change-reply (Suggest v x) p b t = refl

back : (ts : List steps.Term) → terms_in (map as_term ts) ≡ ts
unfolding terms_in term_of
back [] = refl
back (t ∷ ts) = ap (λ (r : List steps.Term). t ∷ r) (back ts)

related : (r : steps.Relation) → relation_of (as_relation r) ≡ r
unfolding relation_of
related (at_most s) = refl
related (equal s) = refl
related (at_least s) = refl

-- the answer to a line by its call and terms
abbrev pub line_said : Option Line → Sparse → Said
line_said None t = said unread_text t
line_said (Some l) t = reply_of (Some (call_from l.call l.terms)) t

-- a line's call and terms are answered as the call that it names
line_reply_lem : (o : Option session.Call) (t : Sparse) → reply_of o t ≡ line_said (line_of o) t
unfolding reply_of
line_reply_lem None t = refl
line_reply_lem (Some (resets x)) t = refl
line_reply_lem (Some (adds g n ts k r b)) t = rw related (ap said_by (rw back at (sym (listed-call g n b k r room t (map as_term ts) refl))))
line_reply_lem (Some (removes n b)) t = refl
line_reply_lem (Some (drops g b)) t = refl
line_reply_lem (Some (adds_edit v x b)) t = refl
line_reply_lem (Some (removes_edit v b)) t = refl
line_reply_lem (Some (suggests v x b)) t = refl
line_reply_lem (Some (value_of v)) t = refl
line_reply_lem (Some fetches) t = refl
line_reply_lem (Some (has_constraints n)) t = refl
line_reply_lem (Some (has_edits v)) t = refl
line_reply_lem (Some (creates a b c k)) t = refl
line_reply_lem (Some (clips x)) t = refl
line_reply_lem (Some reads) t = refl
line_reply_lem (Some dumps) t = refl
line_reply_lem (Some (sets_next n)) t = refl

-- ---- what each arm of the code says

module _ (call : Call) (p : Pack) (t : Sparse) (a b : List ℕ) (i j : ℕ) where
  abbrev Says : Sparse → Type 0
  Says u = Spoken (reply_of (Some (call_from call p)) t) a b i j u

  answer-said : {u : Sparse} (c : Called) (r : code.Answer) → reply_of (Some (call_from call p)) t ≡ said_by c → called (answer_of r) u ≡ c → Wrote a b i j (answer_text r.number r.pivots r.whole) → Says u
  unfolding said_by
  answer-said c r e f w = rw (e, ← f) (w, refl)

  pub reset-said : {u : Sparse} (r : code.Answer) {x : Float} → call ≡ Reset x → called (answer_of r) u ≡ reset_of x t → Wrote a b i j (answer_text r.number r.pivots r.whole) → Says u
  unfolding reply_of
  reset-said r {x} e = answer-said (reset_of x t) r (rw e refl)

  pub change-said : {u : Sparse} (r : code.Answer) {c : changes.Change} {k : ℕ} → call ≡ Change c k → called (answer_of r) u ≡ call_of (made (changing_of c p k)) room t → Wrote a b i j (answer_text r.number r.pivots r.whole) → Says u
  change-said r {c} {k} e = answer-said (call_of (made (changing_of c p k)) room t) r (rw e (change-reply c p k t))

  pub fetched-said : {u : Sparse} → call ≡ Fetch → Spoken (fetch_said (fetch_of t)) a b i j u → Says u
  unfolding reply_of
  fetched-said e w = rw e w

  pub asked-said : {q : Query} → call ≡ Ask q → Wrote a b i j (asked_text q t) → Says t
  asked-said {q} e w = rw (e, ask-reply q p t) (w, refl)

-- ---- no answer is long

by-short : (c : Called) → length (said_by c).text ≤ 2452
unfolding said_by
by-short c = omega (arith, answer-short c.answer.number c.answer.pivots c.answer.whole)

float-short : (x : Float) → length (float_text x) ≤ 2452
float-short x = omega (arith, hex-length 16 (to_bits binary64 x))

flag-short : (b : Bool) → length (flag_text b) ≤ 2452
flag-short b = omega (arith, flag-length b)

reply-short : (o : Option session.Call) (t : Sparse) → length (reply_of o t).text ≤ 2452
unfolding reply_of
reply-short None t = omega arith
reply-short (Some (resets x)) t = by-short (reset_of x t)
reply-short (Some (adds g n ts k r b)) t = by-short (call_of (add g n ts k r b) room t)
reply-short (Some (removes n b)) t = by-short (call_of (remove n b) room t)
reply-short (Some (drops g b)) t = by-short (call_of (drop_group g b) room t)
reply-short (Some (adds_edit v x b)) t = by-short (call_of (add_edit v x b) room t)
reply-short (Some (removes_edit v b)) t = by-short (call_of (remove_edit v b) room t)
reply-short (Some (suggests v x b)) t = by-short (call_of (suggest v x b) room t)
reply-short (Some (value_of v)) t = float-short (asked (value v) zero64 t)
reply-short (Some fetches) t = fetch-short t
reply-short (Some (has_constraints n)) t = flag-short (asked (has_constraint n) false t)
reply-short (Some (has_edits v)) t = flag-short (asked (has_edit v) false t)
reply-short (Some (creates a b c k)) t = float-short (create a b c k)
reply-short (Some (clips x)) t = float-short (clip x)
reply-short (Some reads) t = omega arith
reply-short (Some dumps) t = omega arith
reply-short (Some (sets_next n)) t = omega arith

-- ---- a line

-- with no number it is too long
pub held-as : (line : List ℕ) (t : Sparse) {o : Option ℕ} {n : ℕ} {s : Said} → o ≡ Some n → held_reply (held_of line n) t ≡ s → held_reply (held_in line o) t ≡ s
unfolding held_in
held-as line t e q = rw e q

pub held-none : (line : List ℕ) (t : Sparse) {o : Option ℕ} → o ≡ None → held_reply (held_in line o) t ≡ reply_of None t
unfolding held_in held_reply reply_of
held-none line t e = rw e refl

module _ (line : List ℕ) (held : ℕ) (t : Sparse) where
  pub held-long : 4096 < held → held_reply (held_of line held) t ≡ reply_of None t
  unfolding held_reply held_of reply_of
  held-long h = rw (lt-leb held 4096 (omega arith)) refl

  pub held-line : {l : Option Line} → held ≤ 4096 → l ≡ line_of (format.call_of (words_of (take held line))) → held_reply (held_of line held) t ≡ line_said l t
  unfolding held_reply held_of line_reply
  held-line h e = rw (le-leb held 4096 h, e) (line_reply_lem (format.call_of (words_of (take held line))) t)

  -- a line that names no call is answered as one that is too long
  pub held-bad : held ≤ 4096 → line_of (format.call_of (words_of (take held line))) ≡ None → held_reply (held_of line held) t ≡ reply_of None t
  unfolding reply_of
  held-bad h e = rw e at (held-line h refl)

-- as it is said, and there is room for it
pub held-said : {s : Said} (o : Option session.Call) (t : Sparse) (a b : List ℕ) (i j : ℕ) {u : Sparse} → s ≡ reply_of o t → i ≤ 5000 → Spoken (reply_of o t) a b i j u → (Spoken s a b i j u) × (j ≤ 8000)
held-said o t a b i j e h p = let q = reply-short o t in (rw e p, omega (arith, p.0.0))
