-- The turns of the loop that keeps terms, and the answer once the whole line reads.
use Rattle.std.specs.Prelude.{ℕ, zero, suc, ◌+◌, ◌≤◌, ◌<◌, ◌≡◌, refl, Bool, true, false, cond, not, List, [], ◌∷◌, leb, eqb, length, get_or, drop, nat_abs, Result, Ok, Err}
use Rattle.std.proofs.Common.{sym, ◌∙◌, not-suc-le-zero, le_of_suc-le-suc, zero-add, add-one, arith, drop_of_length-le}
use Rattle.std.proofs.Math.Path.{ap}
use borrow.Author.Tests.{lt-leb, le-leb}
use Rattle.reader.specs.sums.Held.{zero_at, term_of, value_of, held}
use Rattle.grammar.specs.Sums.{most, kept, small_terms, judged, summed}
use Rattle.grammar.specs.Sums.{nothing}
use Rattle.grammar.specs.Reader.{first, left, run_from, read_line, answered, refuses}
use Rattle.reader.specs.Sides.{relation_of}
use Rattle.reader.specs.Ends.{line_of}
use Rattle.reader.specs.Faults.{number_of, place_of, refused_by}
use Rattle.reader.specs.declared.fault.Fault.{Fault}
use Rattle.reader.specs.declared.fault.Refusal.{Refusal}
use Rattle.reader.specs.Parts.{sums_of}
use Rattle.reader.specs.Answers.{Reading, refusal, shown, as_read, faults, big_at, with_term, kept_with, kept_from, kept_of, none_kept, stands, mark-is, big-stands, big-from, count-from, variables-from, coefficients-from}
use Rattle.reader.specs.declared.parts.Place.{Place}
use Rattle.reader.specs.declared.sides.Mark.{Mark}
use Rattle.reader.specs.declared.answers.Kept.{Kept}

-- ---- the loop

held-drop : (vs xs : List ℕ) (n i : ℕ) → i < n → n ≤ length vs → n ≤ length xs → drop i (held vs xs n) ≡ term_of (get_or vs i 0) (get_or xs i 0) ∷ drop (suc i) (held vs xs n)
unfolding held
held-drop vs xs zero i h p q = absurd (not-suc-le-zero h)
held-drop [] xs (suc n) i h p q = absurd (not-suc-le-zero p)
held-drop (v ∷ vs) [] (suc n) i h p q = absurd (not-suc-le-zero q)
held-drop (v ∷ vs) (x ∷ xs) (suc n) zero h p q = refl
held-drop (v ∷ vs) (x ∷ xs) (suc n) (suc i) h p q = held-drop vs xs n i (le_of_suc-le-suc h) (le_of_suc-le-suc p) (le_of_suc-le-suc q)

length-held : (vs xs : List ℕ) (n : ℕ) → length (held vs xs n) ≤ n
unfolding held
length-held vs xs zero = omega arith
length-held [] xs (suc n) = omega arith
length-held (v ∷ vs) [] (suc n) = omega arith
length-held (v ∷ vs) (x ∷ xs) (suc n) = let k = length-held vs xs n in omega arith

pub keep-next : (vs xs : List ℕ) (n i : ℕ) (k : Kept) {k' z : Kept} → i < n → n ≤ length vs → n ≤ length xs → k' ≡ kept_with k (get_or vs i 0) (get_or xs i 0) → kept_from k (drop i (held vs xs n)) ≡ z → kept_from k' (drop (i + 1) (held vs xs n)) ≡ z
unfolding kept_from
keep-next vs xs n i k h p q e r =
    rw (add-one, e) (ap (λ (x : ℕ). kept_from (kept_with k (get_or vs i 0) x) (drop (suc i) (held vs xs n))) (sym (stands (get_or xs i 0))) ∙ (ap (kept_from k) (sym (held-drop vs xs n i h p q)) ∙ r))

pub keep-last : (vs xs : List ℕ) (n i : ℕ) (k : Kept) {z : Kept} → n ≤ i → kept_from k (drop i (held vs xs n)) ≡ z → k ≡ z
unfolding kept_from
keep-last vs xs n i k h r = rw (drop_of_length-le (held vs xs n) (e (length-held vs xs n))) at r
  where
    e : length (held vs xs n) ≤ n → length (held vs xs n) ≤ i
    e l = omega arith

kept_with-count : (k : Kept) (v x : ℕ) → (kept_with k v x).count ≤ k.count + 1
unfolding kept_with
kept_with-count k v x = by (eqb x zero_at)
  where
    by : (t : Bool) → (cond t k (with_term k v x)).count ≤ k.count + 1
    by true = omega arith
    by false = omega arith

pub count_next : (k : Kept) (v x : ℕ) {k' : Kept} {i : ℕ} → k' ≡ kept_with k v x → k.count ≤ i → k'.count ≤ i + 1
count_next k v x e h = omega (arith, ap (λ (z : Kept). z.count) e, kept_with-count k v x)

-- ---- the answer

not-true : (b : Bool) → not b ≡ true → b ≡ false
not-true true e = sym e
not-true false e = refl

not-false : (b : Bool) → not b ≡ false → b ≡ true
not-false true e = refl
not-false false e = sym e

module _ (vs xs : List ℕ) (m : Mark) (p : Place) where
  small-constant : big_at p.constant ≡ not (leb (nat_abs (value_of p.constant)) most)
  small-constant = ap big_at (sym (stands p.constant)) ∙ big-stands (value_of p.constant)

  pub constant-over : big_at p.constant ≡ true → refusal 22 0 ≡ as_read (judged (summed (relation_of m) (sums_of vs xs p)))
  unfolding judged
  constant-over h = rw (not-true (leb (nat_abs (value_of p.constant)) most) (sym small-constant ∙ h))

  module _ {k : Kept} (e : k ≡ kept_of (held vs xs p.count)) where
    small-terms : k.big ≡ not (small_terms (kept (held vs xs p.count)))
    small-terms = ap (λ (z : Kept). z.big) e ∙ big-from none_kept (held vs xs p.count)

    how-many : k.count ≡ length (kept (held vs xs p.count))
    how-many = ap (λ (z : Kept). z.count) e ∙ (count-from none_kept (held vs xs p.count) ∙ zero-add _)

    pub term-over : big_at p.constant ≡ false → k.big ≡ true → refusal 22 0 ≡ as_read (judged (summed (relation_of m) (sums_of vs xs p)))
    unfolding judged
    term-over c h = rw (not-false (leb (nat_abs (value_of p.constant)) most) (sym small-constant ∙ c), not-true (small_terms (kept (held vs xs p.count))) (sym small-terms ∙ h))

    pub too_many : big_at p.constant ≡ false → k.big ≡ false → 16 < k.count → refusal 23 0 ≡ as_read (judged (summed (relation_of m) (sums_of vs xs p)))
    unfolding judged
    too_many c b h =
        rw (not-false (leb (nat_abs (value_of p.constant)) most) (sym small-constant ∙ c), not-false (small_terms (kept (held vs xs p.count))) (sym small-terms ∙ b), lt-leb (length (kept (held vs xs p.count))) 16 (omega (arith, how-many)))

    pub reads_so : big_at p.constant ≡ false → k.big ≡ false → k.count ≤ 16
        → record { number = 0; offset = 0; relation = m; constant = p.constant; count = k.count; variables = k.variables; coefficients = k.coefficients } ≡ as_read (judged (summed (relation_of m) (sums_of vs xs p)))
    unfolding judged
    reads_so c b h =
        rw (
          not-false (leb (nat_abs (value_of p.constant)) most) (sym small-constant ∙ c),
          not-false (small_terms (kept (held vs xs p.count))) (sym small-terms ∙ b),
          le-leb (length (kept (held vs xs p.count))) 16 (omega (arith, how-many)),
          mark-is m,
          stands p.constant,
          how-many,
          ap (λ (z : Kept). z.variables) e ∙ variables-from none_kept (held vs xs p.count),
          ap (λ (z : Kept). z.coefficients) e ∙ coefficients-from none_kept (held vs xs p.count),
        )

-- ---- the whole line

module _ (w numbers sums : List ℕ) (h : length w ≤ 4096) where
  pub line-answer : (l : Result (Mark × Place) Fault) → run_from w 0 first left nothing ≡ line_of numbers sums l → read_line w ≡ answered (line_of numbers sums l)
  unfolding read_line
  line-answer l o = rw (le-leb (length w) 4096 h) (ap answered o)

  pub read_whole : (m : Mark) (p : Place) {r : Reading} → run_from w 0 first left nothing ≡ line_of numbers sums (Ok (m, p))
      → r ≡ as_read (judged (summed (relation_of m) (sums_of numbers sums p))) → r ≡ as_read (read_line w)
  read_whole m p o q = q ∙ ap as_read (sym (line-answer (Ok (m, p)) o))

  pub read-refused : (x : Fault) {r : Refusal} → run_from w 0 first left nothing ≡ line_of numbers sums (Err x) → r ≡ refused_by x → shown (Err r) ≡ as_read (read_line w)
  read-refused x o q = rw q (faults x ∙ ap as_read (sym (line-answer (Err x) o)))

pub too_long : (w : List ℕ) → 4096 < length w → refusal 19 0 ≡ as_read (read_line w)
unfolding read_line
too_long w h = rw (lt-leb (length w) 4096 h)
