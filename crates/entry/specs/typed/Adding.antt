-- "A constraint as text" added to lent tables: the line's own refusals first, the solver's then. Assumes nothing.
use Rattle.std.specs.Prelude.{◌≡◌, ℕ, ◌<◌, ◌≤◌, Bool, true, false, cond, ◌&&◌, List, [], length, ◌==◌, ◌≢◌, nat_le, slice_index, unsigned_abs, Float, Result, Ok, Err}
use Rattle.std.proofs.Math.Path.{refl, ap}
use Rattle.std.proofs.lemmas.Bool.{eqb-false}
use Rattle.std.proofs.Common.{sym, ◌∙◌, inl, inr, arith, leb-true, ltb→lt}
use Rattle.grammar.specs.Sums as grammar
use Rattle.grammar.specs.Sums.{Answer, reads, outside, refused, most, small_terms, judged, summed, nothing}
use Rattle.grammar.specs.Reader.{first, left, Outcome, read, halted, whole, run, answered, read_line}
use Rattle.grammar.specs.Prefix.{at-start}
use Rattle.grammar.specs.Complete.{Tells}
use Rattle.grammar.proofs.Complete.{tells}
use Rattle.reader.specs.sums.Held.{value_of}
use Rattle.reader.specs.Sides as sides
use Rattle.reader.specs.Answers.{Reading, mark_of, shown, as_read}
use Rattle.reader.specs.declared.answers.Constraint.{Constraint}
use Rattle.reader.specs.declared.fault.Refusal.{Refusal}
use Rattle.reader.specs.Faults.{refusal_number, offset_of, some-number}
use Rattle.steps.specs.State.{State}
use Rattle.steps.specs.State as steps
use Rattle.steps.specs.Calls as calls
use Rattle.steps.specs.Calls.{add}
use Rattle.layout.specs.Layout.{term_room}
use Rattle.sparse.specs.Places.{whole_at}
use Rattle.sparse.specs.Sparse.{Sparse}
use Rattle.sparse.specs.Sparse as sparse
use Rattle.sparse_test.specs.Reads as reading
use Rattle.sparse_test.specs.Asked.{asked}
use Rattle.lending.specs.Lending.{Called, called, call_of}
use Rattle.changes.specs.declared.tags.Relation.{Relation}
use Rattle.changes.specs.tags.Tags.{relation_of}
use Rattle.changes.specs.declared.terms.Term.{Term}
use Rattle.changes.specs.declared.terms.Pack.{Pack}
use Rattle.changes.specs.terms.Terms.{pack_of, terms_in, listed}
use Rattle.solver.specs.Listed.{listed-call}
use Rattle.entry.specs.declared.typed.add.TextAnswer.{TextAnswer}
use Rattle.entry.specs.typed.Typed.{whole_of, typed_terms, required_by, terms_read, terms-read, value-stands}

-- what a line that is added is answered and leaves; the offset is that of 20, else 0
pub record Text : Type 0 where
  pub offset : ℕ
  pub call : Called

abbrev pub text : ℕ → Called → Text
text at c = record { offset = at; call = c }

-- the stored mark of tables that read as a state, no of others
unfoldable pub mark_in : Sparse → Bool
mark_in t = asked (λ (s : State). s.whole) false t

-- a line that is refused makes no call: no pivots, and no table changes
abbrev pub unread : ℕ → Sparse → Called
unread k t = called (record { number = k; pivots = 0; whole = mark_in t }) t

-- a line that reads is the add of its terms, its constant and its relation: "without it the constraint is required and in group 1"
unfoldable pub add_read : ℕ → Answer → ℕ → Sparse → Sparse → Text
add_read n (reads r) budget work t = text 0 (call_of (add 1 n (terms_in (typed_terms r.terms)) (whole_of r.constant) (required_by r.relation) budget) work t)
add_read n (outside at) budget work t = text at (unread 20 t)
add_read n (refused k) budget work t = text 0 (unread k t)

unfoldable pub text_of : ℕ → List ℕ → ℕ → Sparse → Sparse → Text
text_of n line budget work t = add_read n (read_line line) budget work t

-- the code's answer
abbrev pub text_answer : TextAnswer → calls.Answer
text_answer r = record { number = r.number; pivots = r.pivots; whole = r.whole }

-- ---- what every answer to a line keeps: 0 refuses nothing, and a line that reads has few small numbers

abbrev pub Fit : Answer → Type 0
Fit (reads r) = (unsigned_abs r.constant ≤ most) × (small_terms r.terms ≡ true) × (length r.terms ≤ term_room)
Fit (outside at) = Unit {0}
Fit (refused n) = n ≡ 0 → ⊥

pub judged-fit : (r : grammar.Reading) → Fit (judged r)
unfolding judged
judged-fit r = by (nat_le (unsigned_abs r.constant) most) (small_terms r.terms) (nat_le (length r.terms) term_room) refl refl refl
  where
    by : (a b c : Bool) → nat_le (unsigned_abs r.constant) most ≡ a → small_terms r.terms ≡ b → nat_le (length r.terms) term_room ≡ c → Fit (cond (a && b) (cond c (reads r) (refused 23)) (refused 22))
    by true true true e f g = (leb-true (unsigned_abs r.constant) most e, f, leb-true (length r.terms) term_room g)
    by true true false e f g = λ h. omega arith
    by true false c e f g = λ h. omega arith
    by false b c e f g = λ h. omega arith

answered-fit : (w : List ℕ) (x : Outcome) → Tells w x → Fit (answered x)
answered-fit w (read at t s) h = absurd h
answered-fit w (halted n at) h = by (n == 20) (some_number h)
  where
    some_number : Tells w (halted n at) → n ≢ 0
    some_number (inl (q, _)) e = omega arith
    some_number (inr (t, _)) e = let l : 20 < n = ltb→lt 20 n t in omega arith

    by : (t : Bool) → (n ≢ 0) → Fit (cond t (outside at) (refused n))
    by true z = tt
    by false z = z
answered-fit w (whole r s) h = judged-fit (summed r s)

pub line-fit : (w : List ℕ) → Fit (read_line w)
unfolding read_line
line-fit w = by (nat_le (length w) 4096)
  where
    by : (t : Bool) → Fit (cond t (answered (run w 0 first left nothing)) (refused 19))
    by true = answered-fit w (run w 0 first left nothing) (tells w [] first left nothing at-start)
    by false = λ h. omega arith

-- ---- the code

module _ (t : Sparse) {b : Bool} where
  pub mark-none : b ≡ reading.reads t → b ≡ false → false ≡ mark_in t
  unfolding mark_in asked
  mark-none e f = rw (← e, f)

  pub mark-stored : {m : Bool} → b ≡ reading.reads t → b ≡ true → m ≡ (slice_index t.words whole_at == 1) → m ≡ mark_in t
  unfolding mark_in asked sparse.read
  mark-stored e f q = q ∙ rw (← e, f) refl

mark-back : (r : grammar.Relation) → sides.relation_of (mark_of r) ≡ r
mark-back grammar.at_most = refl
mark-back grammar.equal = refl
mark-back grammar.at_least = refl

module _ (n : ℕ) (line : List ℕ) (budget : ℕ) (work t : Sparse) {r : Reading} (e : r ≡ as_read (read_line line)) where
  pub text-refused : {m : Bool} {u : Sparse} → (r.number ≢ 0) → m ≡ mark_in t → u ≡ t → text r.offset (called (record { number = r.number; pivots = 0; whole = m }) u) ≡ text_of n line budget work t
  unfolding text_of add_read
  text-refused {m} {u} h f g = go (read_line line) e
    where
      go : (a : Answer) → r ≡ as_read a → text r.offset (called (record { number = r.number; pivots = 0; whole = m }) u) ≡ add_read n a budget work t
      go (reads q) d = absurd (h (ap (λ (x : Reading). x.number) d))
      go (outside at) d = rw (d, f, g) refl
      go (refused k) d = rw (d, f, g) refl

  pub text-added : (p : Pack) (k : Float) (x : Relation) (c : Called) → r.number ≡ 0 → p ≡ pack_of (terms_read r) → k ≡ whole_of (value_of r.constant) → relation_of x ≡ required_by (sides.relation_of r.relation)
      → c ≡ call_of (add 1 n (terms_in (listed p)) k (relation_of x) budget) work t → text 0 c ≡ text_of n line budget work t
  unfolding text_of add_read
  text-added p k x c z g h i j = go (read_line line) (line-fit line) e
    where
      go : (a : Answer) → Fit a → r ≡ as_read a → text 0 c ≡ add_read n a budget work t
      go (reads q) (small, all, few) d =
          let ts : List Term = typed_terms q.terms in
          let g' : p ≡ pack_of ts = g ∙ ap pack_of (ap terms_read d ∙ terms-read q few all) in
          let h' : k ≡ whole_of q.constant = h ∙ ap (λ (y : Reading). whole_of (value_of y.constant)) d ∙ ap whole_of (value-stands q.constant small) in
          let i' : relation_of x ≡ required_by q.relation = i ∙ ap (λ (y : Reading). required_by (sides.relation_of y.relation)) d ∙ ap required_by (mark-back q.relation) in
          ap (text 0) (j ∙ listed-call 1 n budget k (relation_of x) work t ts g' ∙ ap (λ (y : Float). call_of (add 1 n (terms_in ts) y (relation_of x) budget) work t) h' ∙ ap (λ (y : steps.Relation). call_of (add 1 n (terms_in ts) (whole_of q.constant) y budget) work t) i')
      go (outside at) f d = let y : r.number ≡ 20 = ap (λ (v : Reading). v.number) d in absurd (omega (arith, z))
      go (refused m) f d = absurd (f (sym (ap (λ (v : Reading). v.number) d) ∙ z))

-- by the code's answer
module _ (n : ℕ) (line : List ℕ) (budget : ℕ) (work t : Sparse) {a : Result Constraint Refusal} (e : shown a ≡ as_read (read_line line)) where
  pub refusal-text : (r : Refusal) → a ≡ Err r → {k o : ℕ} {m : Bool} {u : Sparse} → k ≡ refusal_number r → o ≡ offset_of r → m ≡ mark_in t → u ≡ t → text o (called (record { number = k; pivots = 0; whole = m }) u) ≡ text_of n line budget work t
  refusal-text r f p q x y =
      rw (p, q) (text-refused n line budget work t (rw f at e) (λ z. eqb-false (refusal_number r) 0 (some-number r) z) x y)

  pub added-text : (b : Constraint) → a ≡ Ok b → (p : Pack) (k : Float) (x : Relation) (c : Called) → p ≡ pack_of (terms_read (shown (Ok b))) → k ≡ whole_of (value_of b.constant) → relation_of x ≡ required_by (sides.relation_of b.relation)
      → c ≡ call_of (add 1 n (terms_in (listed p)) k (relation_of x) budget) work t → text 0 c ≡ text_of n line budget work t
  added-text b f p k x c g h i j = text-added n line budget work t (rw f at e) p k x c refl g h i j
