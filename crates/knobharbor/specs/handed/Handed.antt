-- What the service line's readers hand to a caller, in places that the caller lends. Assumes nothing.
use Rattle.std.specs.Prelude.{◌≡◌, ℕ, zero, suc, ◌+◌, ◌-◌, ◌≤◌, Bool, true, false, cond, ◌&&◌, List, [], ◌∷◌, ◌++◌, map, length, replicate, ℤ, pos, ◌==◌, nat_le, slice_set, unsigned_abs, Float, Option as Optional, Some, None, is_some, Result}
use Rattle.std.proofs.Math.Path.{refl, ap}
use Rattle.std.proofs.Common.{sym, ◌∙◌, arith, ne_eqb, leb-true}
use Rattle.std.proofs.Math.Option.{Option, none, some}
use Rattle.std.proofs.Math.Nat.{zero-add, suc-add}
use Rattle.std.specs.Float.Ieee.{of_bits, of_int}
use Rattle.grammar.specs.Sums.{Relation, at_most, equal, at_least, Term, Reading, most, small_terms}
use Rattle.laws.specs.Loops.{zip_in}
use Rattle.laws.specs.streams.Lines.{grown}
use Rattle.reader.specs.sums.Held.{zero_at, value_of}
use Rattle.reader.specs.Sides.{relation_of}
use Rattle.reader.specs.Answers.{stands_as, mark_of, laid, no_coefficients, refusal}
use Rattle.grammar.specs.edition.Endings.{Constraint, Reply, taken, astray, denied}
use Rattle.grammar.specs.edition.Steps.{read_second}
use Rattle.reader.specs.second.Replies.{unread, answered, as_reply}
use Rattle.reader.specs.second.Replies as code
use Rattle.reader.specs.declared.second.Weighted.{Weighted}
use Rattle.reader.specs.declared.fault.Refusal.{Refusal}
use Rattle.cable_lines.specs.Cable.{limit, new, answer_of, Step, further, takes, closes}
use Rattle.cable_lines.specs.Bytes.{bytes_of}
use Rattle.cable_lines.specs.Given.{Taken, told_answer, told, as_taken, Given, given, as_given}
use Rattle.cable_lines.specs.declared.Taken as declared
use Rattle.layout.specs.Rooms.{and_left, and_right}
use Rattle.steps.specs.Number.{zero64}
use Rattle.layout.specs.Layout.{term_room}
use Rattle.entry.specs.typed.Typed.{whole_of, value-stands}
use Rattle.knobharbor.specs.handed.Fits.{Fits, line-fits}

-- 0 is at most, 1 equal, 2 at least, as an add takes it
abbrev pub kind_of : Relation → ℕ
kind_of at_most = 0
kind_of equal = 1
kind_of at_least = 2

-- Whether a line was answered. The words: how many bytes were taken, 0 or the refusal's number, the offset of 20, the kind, how many
-- terms, the group. The reals: constant and strength. The terms' variables and coefficients. And the reader's own bytes.
pub record Handed : Type 0 where
  pub answered : Bool
  pub words : List ℕ
  pub reals : List Float
  pub variables : List ℕ
  pub coefficients : List Float
  pub reader : List ℕ

abbrev pub handed : Bool → List ℕ → List Float → List ℕ → List Float → List ℕ → Handed
handed b w x v k c = record { answered = b; words = w; reals = x; variables = v; coefficients = k; reader = c }

-- what the terms have, each in its place of 16, zeros behind them
abbrev pub placed : {A : Type 0} → A → (Term → A) → List Term → List A
placed z f ts = map f ts ++ replicate (term_room - length ts) z

-- no constraint: of all that one would have zeros
abbrev pub without : Bool → ℕ → ℕ → ℕ → List ℕ → Handed
without b n k at c = handed b (n ∷ k ∷ at ∷ 0 ∷ 0 ∷ 0 ∷ []) (zero64 ∷ zero64 ∷ []) (replicate term_room 0) (replicate term_room zero64) c

-- what a constraint says, each in its place
abbrev pub said : Constraint → ℕ → List ℕ → Handed
said x n c =
    let r : Reading = x.reading in
    handed true (n ∷ 0 ∷ 0 ∷ kind_of r.relation ∷ length r.terms ∷ x.group ∷ []) (whole_of r.constant ∷ whole_of (pos x.strength) ∷ []) (placed 0 (λ t. t.variable) r.terms) (placed zero64 (λ t. whole_of t.coefficient) r.terms) c

unfoldable pub handed_of : Option Reply → ℕ → List ℕ → Handed
handed_of none n c = without false n 0 0 c
handed_of (some (taken x)) n c = said x n c
handed_of (some (astray at)) n c = without true n 20 at c
handed_of (some (denied k)) n c = without true n k 0 c

abbrev pub handed_by : Step → Handed
handed_by s = handed_of s.answer s.taken (bytes_of s.left)

-- of a line by itself: all of it is taken, and no reader is left
abbrev pub read_by : List ℕ → Handed
read_by w = handed_of (some (read_second w)) (length w) []

-- ---- by what the code has

unfoldable pub whole_at : ℕ → Float
whole_at x = whole_of (value_of x)

-- where no line ended, what a refusal of number 0 has
abbrev pub reply_in : Optional code.Reply → code.Reply
reply_in None = unread (refusal 0 0)
reply_in (Some x) = x

-- the same with no refusal
abbrev pub unrefused : code.Reply → code.Reply
unrefused x =
    record {
      reading = record {
        number = 0;
        offset = 0;
        relation = x.reading.relation;
        constant = x.reading.constant;
        count = x.reading.count;
        variables = x.reading.variables;
        coefficients = x.reading.coefficients;
      };
      strength = x.strength;
      group = x.group;
    }

abbrev pub reads_in : Taken → Bool
reads_in t = is_some t.answer && (reply_in t.answer).reading.number == 0

abbrev pub kind_in : Taken → ℕ
kind_in t = cond (reads_in t) (kind_of (relation_of (reply_in t.answer).reading.relation)) 0

abbrev pub words_in : Taken → List ℕ
words_in t =
    let x : code.Reply = reply_in t.answer in
    t.taken ∷ x.reading.number ∷ x.reading.offset ∷ kind_in t ∷ x.reading.count ∷ x.group ∷ []

-- the constant and the strength of one answer
abbrev pub reals_of : code.Reply → List Float
reals_of x = whole_at x.reading.constant ∷ whole_of (pos x.strength) ∷ []

abbrev pub reals_in : Taken → List Float
reals_in t = reals_of (reply_in t.answer)

pub wholes-start : (n : ℕ) (l : List Float) (x : List ℕ) → length l ≡ n → length x ≡ n → zip_in (λ _ y. whole_at y) 0 n l x ≡ map whole_at x
unfolding zip_in
wholes-start n [] [] e f = refl
wholes-start n [] (y ∷ x) e f = absurd (omega arith)
wholes-start n (k ∷ l) [] e f = absurd (omega arith)
wholes-start zero (k ∷ l) (y ∷ x) e f = absurd (omega arith)
wholes-start (suc n) (k ∷ l) (y ∷ x) e f = ap (λ (r : List Float). whole_at y ∷ r) (wholes-start n l x (omega arith) (omega arith))

zero-at : whole_at zero_at ≡ zero64
unfolding whole_at whole_of zero64 of_bits of_int
zero-at = refl

no-strength : whole_of (pos 0) ≡ zero64
unfolding whole_of zero64 of_bits of_int
no-strength = refl

module _ {A : Type 0} (f : Term → A) where
  laid-past : (i : ℕ) (ts : List Term) (x : A) (l : List A) → laid f (suc i) ts (x ∷ l) ≡ x ∷ laid f i ts l
  unfolding laid
  laid-past i [] x l = refl
  laid-past i (t ∷ ts) x l = laid-past (suc i) ts x (slice_set l i (f t))

  laid-front : (z : A) (ts : List Term) (k : ℕ) → laid f 0 ts (replicate (length ts + k) z) ≡ map f ts ++ replicate k z
  unfolding laid
  laid-front z [] k = rw zero-add
  laid-front z (t ∷ ts) k = rw suc-add (laid-past 0 ts (f t) (replicate (length ts + k) z) ∙ ap (λ (r : List A). f t ∷ r) (laid-front z ts k))

  laid-placed : (z : A) (ts : List Term) → length ts ≤ term_room → laid f 0 ts (replicate term_room z) ≡ placed z f ts
  laid-placed z ts h =
      let e : length ts + (term_room - length ts) ≡ term_room = omega arith in
      ap (λ (n : ℕ). laid f 0 ts (replicate n z)) (sym e) ∙ laid-front z ts (term_room - length ts)

map-laid : (f : Term → ℕ) (i : ℕ) (ts : List Term) (l : List ℕ) → map whole_at (laid f i ts l) ≡ laid (λ t. whole_at (f t)) i ts (map whole_at l)
unfolding laid
map-laid f i [] l = refl
map-laid f i (t ∷ ts) l = map-laid f (suc i) ts (slice_set l i (f t)) ∙ ap (laid (λ t. whole_at (f t)) (suc i) ts) (map-set l i (f t))
  where
    map-set : (l : List ℕ) (i x : ℕ) → map whole_at (slice_set l i x) ≡ slice_set (map whole_at l) i (whole_at x)
    map-set [] i x = refl
    map-set (y ∷ l) zero x = refl
    map-set (y ∷ l) (suc i) x = ap (λ (r : List Float). whole_at y ∷ r) (map-set l i x)

small-wholes : (ts : List Term) → small_terms ts ≡ true → map (λ (t : Term). whole_at (stands_as t.coefficient)) ts ≡ map (λ (t : Term). whole_of t.coefficient) ts
unfolding small_terms whole_at
small-wholes [] h = refl
small-wholes (t ∷ ts) h =
    let s : unsigned_abs t.coefficient ≤ most = leb-true (unsigned_abs t.coefficient) most (and_left (nat_le (unsigned_abs t.coefficient) most) (small_terms ts) h) in
    rw (value-stands t.coefficient s, small-wholes ts (and_right (nat_le (unsigned_abs t.coefficient) most) (small_terms ts) h)) refl

whole-stands : (z : ℤ) → unsigned_abs z ≤ most → whole_at (stands_as z) ≡ whole_of z
unfolding whole_at
whole-stands z h = ap whole_of (value-stands z h)

mark-back : (m : Relation) → relation_of (mark_of m) ≡ m
mark-back at_most = refl
mark-back equal = refl
mark-back at_least = refl

coefficients-placed : (ts : List Term) → small_terms ts ≡ true → length ts ≤ term_room → map whole_at (laid (λ t. stands_as t.coefficient) 0 ts no_coefficients) ≡ placed zero64 (λ t. whole_of t.coefficient) ts
coefficients-placed ts small few =
    map-laid (λ t. stands_as t.coefficient) 0 ts no_coefficients
    ∙ (ap (λ (z : Float). laid (λ t. whole_at (stands_as t.coefficient)) 0 ts (replicate term_room z)) zero-at
    ∙ (laid-placed (λ t. whole_at (stands_as t.coefficient)) zero64 ts few
    ∙ ap (λ (l : List Float). l ++ replicate (term_room - length ts) zero64) (small-wholes ts small)))

-- ---- every answer's numbers are few and small

abbrev FitOf : Option Reply → Type 0
FitOf none = Unit {0}
FitOf (some a) = Fits a

answer-fit : (h : Option (List ℕ)) → Fits (answer_of h)
answer-fit none = λ e. omega arith
answer-fit (some w) = line-fits w

pub takes-fit : (h : Option (List ℕ)) (s : List ℕ) → FitOf (takes h s).answer
unfolding takes
takes-fit h [] = tt
takes-fit h (b ∷ s) = test (b == 10) (takes-fit (grown limit h b) s)
  where
    test : (t : Bool) → FitOf (takes (grown limit h b) s).answer → FitOf (cond t (record { answer = some (answer_of h); taken = 1; left = new }) (further (takes (grown limit h b) s))).answer
    test true f = answer-fit h
    test false f = f

pub closes-fit : (h : Option (List ℕ)) → FitOf (closes h).answer
closes-fit none = λ e. omega arith
closes-fit (some []) = tt
closes-fit (some (b ∷ w)) = λ e. omega arith

-- ---- what the code has is what is handed over

abbrev over : Taken → List ℕ → Handed
over t c = handed (is_some t.answer) (words_in t) (reals_in t) (reply_in t.answer).reading.variables (map whole_at (reply_in t.answer).reading.coefficients) c

over-is : (a : Option Reply) (n : ℕ) (c : List ℕ) → FitOf a → over (as_taken a n) c ≡ handed_of a n c
unfolding handed_of
over-is none n c f = rw (zero-at, no-strength) refl
over-is (some (taken x)) n c (small, all, few) =
    let r : Reading = x.reading in
    rw (laid-placed (λ t. t.variable) 0 r.terms few, coefficients-placed r.terms all few, whole-stands r.constant small, mark-back r.relation) refl
over-is (some (astray at)) n c f = rw (zero-at, no-strength) refl
over-is (some (denied k)) n c f = rw (ne_eqb k 0 f, zero-at, no-strength) refl

some-told : (a : Optional (Result Weighted Refusal)) → is_some (told_answer a) ≡ is_some a
some-told None = refl
some-told (Some x) = refl

pub hands-over : (t : declared.Taken) {c : List ℕ} {w : List ℕ} {x : List Float} {v : List ℕ} {k : List Float} (s : Step) → FitOf s.answer → given (told t) c ≡ as_given s → w ≡ words_in (told t) → x ≡ reals_in (told t) → v ≡ (reply_in (told t).answer).reading.variables → k ≡ map whole_at (reply_in (told t).answer).reading.coefficients
    → handed (is_some t.answer) w x v k c ≡ handed_by s
hands-over t s f e p q r z = rw (p, q, r, z, sym (some-told t.answer)) (ap (λ (g : Given). over g.back g.left) e ∙ over-is s.answer s.taken (bytes_of s.left) f)

pub reads_over : (a : Result Weighted Refusal) {w : List ℕ} {y : List Float} {v : List ℕ} {k : List Float} (line : List ℕ) → answered a ≡ as_reply (read_second line) → w ≡ words_in (record { answer = Some (answered a); taken = length line })
    → y ≡ reals_in (record { answer = Some (answered a); taken = length line }) → v ≡ (answered a).reading.variables → k ≡ map whole_at (answered a).reading.coefficients → handed true w y v k [] ≡ read_by line
reads_over a line e p q r z = rw (p, q, r, z) (ap (λ (g : code.Reply). over (record { answer = Some g; taken = length line }) []) e ∙ over-is (some (read_second line)) (length line) [] (line-fits line))
