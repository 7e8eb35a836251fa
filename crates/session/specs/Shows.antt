-- "`show C`: `REL STRENGTH GROUP CONSTANT N V1 K1 ...` or `no 5`": what it is answered, and what a line is, of either kind.
use Rattle.std.specs.Prelude.{ℕ, ◌-◌, ◌≤◌, ◌<◌, ◌≡◌, Bool, true, false, cond, List, length, get_or, take, replicate, Float, Option, Some, None}
use Rattle.std.proofs.Math.Path.{refl}
use Rattle.std.proofs.Common.{ap, ◌∙◌, arith, le-leb}
use Rattle.std.proofs.Math.Option.{Option as Held, none, some}
use Rattle.std.proofs.lemmas.Bool.{lt-leb}
use Rattle.steps.specs.Number.{zero64}
use Rattle.steps.specs.Shown.{Given, shown}
use Rattle.layout.specs.Layout.{term_room}
use Rattle.sparse.specs.Sparse.{Sparse, read}
use Rattle.sparse_test.specs.Reads.{reads}
use Rattle.fetches.specs.shown.Shown.{Line, line, without, line_of, show_of}
use Rattle.fetches.specs.shown.Few.{FewOf, few-shown, show-few}
use Rattle.text.specs.Words.{words_of}
use Rattle.text.specs.Stream.{held_of, held_in}
use Rattle.text.specs.Answers.{Wrote}
use Rattle.text.specs.Put.{Put, wrote-put, put_as}
use Rattle.text.specs.show_text.Show.{asks_for, given_text, no_text, shown_text, given-shown, given-short, no_short}
use Rattle.session.specs.Said.{Said, said, Spoken}
use Rattle.session.specs.Calls.{line_reply, held_reply}

-- the constraint as it was added, or "`no 5`"
unfoldable pub given_reply : Held Given → List ℕ
given_reply none = no_text 5
given_reply (some g) = given_text g.group g.terms g.constant g.relation

-- of tables that do not read as a state, the number that says so
unfoldable pub shown_reply : ℕ → Sparse → List ℕ
shown_reply n t = cond (reads t) (given_reply (shown n (read t))) (no_text 18)

-- the answer to a line
abbrev pub answer_to : Option ℕ → List ℕ → Sparse → Said
answer_to (Some n) l t = said (shown_reply n t) t
answer_to None l t = line_reply l t

-- to a line that may be too long
unfoldable pub held_answer : Held (List ℕ) → Sparse → Said
held_answer none t = held_reply none t
held_answer (some l) t = answer_to (asks_for (words_of l)) l t

-- ---- what the code writes

abbrev text_of : Line → List ℕ
text_of l = shown_text l.words l.reals l.variables l.coefficients

given-reply : (o : Held Given) → text_of (line_of o) ≡ given_reply o
unfolding line_of given_reply shown_text
given-reply none = refl
given-reply (some g) = given-shown g.terms (replicate (term_room - length g.terms) 0) (replicate (term_room - length g.terms) zero64) g.group g.constant g.relation

unread-reply : text_of (without 18) ≡ no_text 18
unfolding shown_text
unread-reply = refl

shown-reply : (n : ℕ) (t : Sparse) → text_of (show_of n t) ≡ shown_reply n t
unfolding show_of shown_reply
shown-reply n t = go (reads t)
  where
    go : (b : Bool) → text_of (cond b (line_of (shown n (read t))) (without 18)) ≡ cond b (given_reply (shown n (read t))) (no_text 18)
    go true = given-reply (shown n (read t))
    go false = unread-reply

-- what stands in the places that the code is lent
module _ (n : ℕ) (t : Sparse) {w v : List ℕ} {x k : List Float} (e : line w x v k ≡ show_of n t) where
  pub few-places : get_or w 4 0 ≤ term_room
  few-places = rw (← e) at (show-few n t)

  pub shown-wrote : (a b : List ℕ) (i j : ℕ) → Put a b i j (shown_text w x v k) → Wrote a b i j (shown_reply n t)
  shown-wrote a b i j p = wrote-put a b i j (put_as (ap text_of e ∙ shown-reply n t) p)

-- ---- no answer is long

shown-short : (n : ℕ) (t : Sparse) → length (shown_reply n t) ≤ 722
unfolding shown_reply given_reply
shown-short n t = go (reads t) refl
  where
    known : (o : Held Given) → FewOf o → length (given_reply o) ≤ 722
    known none f = omega (arith, no_short 5)
    known (some g) f = given-short g.group g.terms g.constant g.relation f

    go : (b : Bool) → reads t ≡ b → length (cond b (given_reply (shown n (read t))) (no_text 18)) ≤ 722
    go true e = known (shown n (read t)) (few-shown t n e)
    go false e = omega (arith, no_short 18)

-- ---- a line

module _ (l : List ℕ) (t : Sparse) {o : Option ℕ} {n : ℕ} (e : o ≡ Some n) where
  pub answer-as : held_reply (held_of l n) t ≡ held_answer (held_of l n) t → held_reply (held_in l (Some n)) t ≡ held_answer (held_in l o) t
  unfolding held_in
  answer-as q = rw e q

  pub answer-in : held_answer (held_of l n) t ≡ held_answer (held_in l o) t
  unfolding held_in
  answer-in = rw e refl

pub none-answer : (l : List ℕ) (t : Sparse) {o : Option ℕ} → o ≡ None → held_reply (held_in l o) t ≡ held_answer (held_in l o) t
unfolding held_answer held_in
none-answer l t e = rw e refl

module _ (l : List ℕ) (held : ℕ) (t : Sparse) where
  pub long-answer : 4096 < held → held_reply (held_of l held) t ≡ held_answer (held_of l held) t
  unfolding held_answer held_of
  long-answer h = rw (lt-leb held 4096 (omega arith)) refl

  pub other-answer : {c : Option ℕ} → held ≤ 4096 → c ≡ asks_for (words_of (take held l)) → c ≡ None → held_reply (held_of l held) t ≡ held_answer (held_of l held) t
  unfolding held_answer held_reply held_of
  other-answer h e q = rw (le-leb held 4096 h, ← e, q) refl

  shown-answer : {c : Option ℕ} {n : ℕ} → held ≤ 4096 → c ≡ asks_for (words_of (take held l)) → c ≡ Some n → said (shown_reply n t) t ≡ held_answer (held_of l held) t
  unfolding held_answer held_of
  shown-answer h e q = rw (le-leb held 4096 h, ← e, q) refl

  -- as it is said, and there is room for it
  pub shown-spoken : {c : Option ℕ} {n : ℕ} (a b : List ℕ) (i j : ℕ) → held ≤ 4096 → c ≡ asks_for (words_of (take held l)) → c ≡ Some n → i ≤ 5000 → Wrote a b i j (shown_reply n t) → (Spoken (held_answer (held_of l held) t) a b i j t) × (j ≤ 8000)
  shown-spoken {c} {n} a b i j h e q k w = let s = shown-short n t in (rw (← shown-answer h e q) (w, refl), omega (arith, w.0, s, k))

-- the same said, by what it equals
pub as-spoken : {s r : Said} (a b : List ℕ) (i j : ℕ) {u : Sparse} → s ≡ r → (Spoken s a b i j u) × (j ≤ 8000) → (Spoken r a b i j u) × (j ≤ 8000)
as-spoken a b i j e p = rw (← e) p
