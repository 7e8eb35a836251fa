-- What a line reads as, as the steps of an add take it. Assumes nothing.
use Rattle.std.specs.Prelude.{◌≡◌, ℕ, zero, suc, ◌+◌, ◌-◌, ◌<◌, ◌≤◌, true, List, [], ◌∷◌, map, length, get_or, ℤ, pos, negsuc, nat_le, slice_index, slice_index_or, slice_set, unsigned_abs, Float}
use Rattle.std.proofs.Math.Path.{refl, sym, ap}
use Rattle.std.proofs.Common.{◌∙◌, not-suc-le-zero, le_of_suc-le-suc, leb-true, lt-ltb, le-ltb}
use Rattle.std.proofs.Math.Nat.{sub-zero}
use native.Mathlib.Omega.{arith}
use Rattle.std.proofs.Math.ListN.{length-set}
use Rattle.std.proofs.Math.Seq.{get_or-set_same, get_or-set_other}
use Rattle.std.specs.Float.{binary64}
use Rattle.std.specs.Float.Ieee.{neg, of_int}
use Rattle.laws.specs.Z.{PN-sub, abs_is, ext}
use Rattle.laws.specs.Loops.{run}
use Rattle.laws.specs.Lists.{list_of, list_of-is}
use Rattle.grammar.specs.Sums as grammar
use Rattle.grammar.specs.Sums.{most, small_terms}
use Rattle.reader.specs.sums.Held.{zero_at, value_of}
use Rattle.reader.specs.Answers.{stands_as, laid, no_variables, no_coefficients, Reading, as_read}
use Rattle.laws.specs.exact.Whole.{IsZ, of_int-z, neg-z}
use Rattle.steps.specs.State as steps
use Rattle.steps.specs.Strength.{required}
use Rattle.layout.specs.Copy.{most16}
use Rattle.layout.specs.Rooms.{and_left, and_right}
use Rattle.layout.specs.Laying.{get_d_map}
use Rattle.layout.specs.Layout.{term_room}
use Rattle.changes.specs.declared.terms.Term.{Term}
use Rattle.changes.specs.declared.terms.Pack.{Pack}
use Rattle.changes.specs.terms.Terms.{no_term, no_pack, pushed, pack_of}
use Rattle.changes.specs.terms.Packed.{most-few}
use Rattle.changes.specs.terms.Listed.{gathered}

-- a whole number as an f64
unfoldable pub whole_of : ℤ → Float
whole_of (pos n) = of_int binary64 (pos n)
whole_of (negsuc n) = neg (of_int binary64 (pos (suc n)))

-- it is that number, and not one near it
pub whole-exact : (z : ℤ) → unsigned_abs z ≤ most → IsZ (whole_of z) z
unfolding whole_of
whole-exact (pos n) h = of_int-z (pos n) (omega arith)
whole-exact (negsuc n) h = neg-z (of_int-z (pos (suc n)) (omega arith))

-- a term and the terms of a line
unfoldable pub typed_term : grammar.Term → Term
typed_term t = record { variable = t.variable; coefficient = whole_of t.coefficient }

abbrev pub typed_terms : List grammar.Term → List Term
typed_terms ts = map typed_term ts

-- a line says no strength: its constraint is required
unfoldable pub required_by : grammar.Relation → steps.Relation
required_by grammar.at_most = steps.at_most required
required_by grammar.equal = steps.equal required
required_by grammar.at_least = steps.at_least required

-- ---- as the reader hands them over

unfoldable pub term_read : Reading → ℕ → Term
term_read r i = record { variable = slice_index r.variables i; coefficient = whole_of (value_of (slice_index r.coefficients i)) }

unfoldable pub terms_read : Reading → List Term
terms_read r = list_of (most16 r.count) (term_read r)

-- ---- the code

pub whole_below : (x : ℕ) {f : Float} → x < zero_at → f ≡ of_int binary64 (pos (zero_at - x)) → neg f ≡ whole_of (value_of x)
unfolding whole_of
whole_below x h e =
    let k : zero_at - x ≡ suc (zero_at - suc x) = omega arith in
    rw (lt-ltb x zero_at h, e, k) refl

pub whole_above : (x : ℕ) {f : Float} → zero_at ≤ x → f ≡ of_int binary64 (pos (x - zero_at)) → f ≡ whole_of (value_of x)
unfolding whole_of
whole_above x h e = rw (le-ltb x zero_at h, e) refl

-- the loop that packs the terms
abbrev pub packs : Reading → ℕ → Pack → Pack
packs r i p = pushed p (term_read r i)

pub packs-start : (r : Reading) {n : ℕ} {p : Pack} → n ≡ most16 r.count → p ≡ no_pack → run (packs r) 0 n p ≡ pack_of (terms_read r)
unfolding run pack_of terms_read list_of
packs-start r e f = rw (e, f, sub-zero (most16 r.count)) (gathered (term_read r) (most16 r.count) 0 no_pack)

-- ---- what the reader hands over are the line's terms

module _ {A : Type 0} (f : grammar.Term → A) where
  laid-below : (ts : List grammar.Term) (i j : ℕ) (l : List A) (d : A) → j < i → slice_index_or (laid f i ts l) j d ≡ slice_index_or l j d
  unfolding laid
  laid-below [] i j l d h = refl
  laid-below (t ∷ ts) i j l d h = laid-below ts (suc i) j (slice_set l i (f t)) d (omega arith) ∙ get_or-set_other l i j (f t) d (λ e. omega arith)

  laid-at : (ts : List grammar.Term) (i j : ℕ) (l : List A) (d : A) (t₀ : grammar.Term) → i + length ts ≤ length l → j < length ts → slice_index_or (laid f i ts l) (i + j) d ≡ f (slice_index_or ts j t₀)
  unfolding laid
  laid-at [] i j l d t₀ h k = absurd (not-suc-le-zero k)
  laid-at (t ∷ ts) i zero l d t₀ h k =
      let e : i + 0 ≡ i = omega arith in
      rw e (laid-below ts (suc i) i (slice_set l i (f t)) d (omega arith) ∙ get_or-set_same l i (f t) d (omega arith))
  laid-at (t ∷ ts) i (suc j) l d t₀ h k =
      let e : i + suc j ≡ suc i + j = omega arith in
      rw e (laid-at ts (suc i) j (slice_set l i (f t)) d t₀ (rw length-set (omega arith)) (le_of_suc-le-suc k))

-- a number that is small stands for itself
pub value-stands : (z : ℤ) → unsigned_abs z ≤ most → value_of (stands_as z) ≡ z
value-stands z h = ext (value_of (stands_as z)) z (omega (arith, PN-sub (stands_as z) zero_at, abs_is z))

small_at : (ts : List grammar.Term) (j : ℕ) (t₀ : grammar.Term) → small_terms ts ≡ true → j < length ts → unsigned_abs (get_or ts j t₀).coefficient ≤ most
unfolding small_terms
small_at [] j t₀ h k = absurd (not-suc-le-zero k)
small_at (t ∷ ts) zero t₀ h k = leb-true (unsigned_abs t.coefficient) most (and_left (nat_le (unsigned_abs t.coefficient) most) (small_terms ts) h)
small_at (t ∷ ts) (suc j) t₀ h k = small_at ts j t₀ (and_right (nat_le (unsigned_abs t.coefficient) most) (small_terms ts) h) (le_of_suc-le-suc k)

abbrev none : grammar.Term
none = record { variable = 0; coefficient = pos 0 }

length-typed : (ts : List grammar.Term) → length (typed_terms ts) ≡ length ts
length-typed [] = refl
length-typed (t ∷ ts) = ap suc (length-typed ts)

module _ (r : grammar.Reading) (few : length r.terms ≤ term_room) (small : small_terms r.terms ≡ true) where
  abbrev ts : List grammar.Term
  ts = r.terms

  term-at : (j : ℕ) → j < length (typed_terms ts) → term_read (as_read (grammar.reads r)) j ≡ slice_index_or (typed_terms ts) j no_term
  unfolding term_read typed_term
  term-at j k =
      let i : j < length ts = rw length-typed at k in
      let v : get_or (laid (λ t. t.variable) 0 ts no_variables) (0 + j) 0 ≡ (get_or ts j none).variable = laid-at (λ t. t.variable) ts 0 j no_variables 0 none (omega arith) i in
      let x : get_or (laid (λ t. stands_as t.coefficient) 0 ts no_coefficients) (0 + j) 0 ≡ stands_as (get_or ts j none).coefficient = laid-at (λ t. stands_as t.coefficient) ts 0 j no_coefficients 0 none (omega arith) i in
      let z : 0 + j ≡ j = omega arith in
      rw (get_d_map typed_term ts j none no_term i, rw z at v, rw z at x, value-stands (get_or ts j none).coefficient (small_at ts j none small i)) refl

  pub terms-read : terms_read (as_read (grammar.reads r)) ≡ typed_terms ts
  unfolding terms_read
  terms-read = ap (λ (n : ℕ). list_of n (term_read (as_read (grammar.reads r)))) (most-few (length ts) few ∙ sym (length-typed ts)) ∙ list_of-is (term_read (as_read (grammar.reads r))) (typed_terms ts) no_term term-at
