-- What a line's reader hands over, handed on to the writer. Assumes nothing.
use Rattle.std.specs.Prelude.{◌≡◌, ℕ, zero, suc, ◌-◌, ◌^◌, ◌<◌, ◌≤◌, Bool, true, false, ◌&&◌, T, List, [], ◌∷◌, map, length, take, ℤ, pos, negsuc, int_lt, nat_le, slice_index, slice_index_or, unsigned_abs, Float}
use Rattle.std.proofs.Math.Path.{refl, ap}
use Rattle.std.proofs.Common.{sym, ap₂, ◌∙◌, arith, lt→ltb}
use borrow.Author.Tests.{eq-eqb, le-leb, leb-true}
use Rattle.std.proofs.Math.Dec.{leb→le}
use Rattle.std.specs.Float.{nan, inf, fin}
use Rattle.laws.specs.Lists.{tab, list_of, map-tab}
use Rattle.grammar.specs.Sums.{Relation, at_most, equal, at_least, Term, most, small_terms}
use Rattle.grammar.specs.edition.Endings.{Constraint, required, taken}
use Rattle.grammar.specs.edition.Steps.{read_second}
use Rattle.grammar.specs.plain.Plain.{Written, wrote, write_line}
use Rattle.grammar.specs.plain.Said.{small-terms}
use Rattle.grammar.specs.plain.Theorems.{Says, Plain}
use Rattle.grammar.proofs.plain.Theorems.{writes-back}
use Rattle.grammar.proofs.plain.Unsaid.{read-says}
use Rattle.laws.specs.exact.Whole.{IsZ, val, int, isz-val, lit-z, z-int, of_int-z}
use Rattle.laws.specs.exact.Compare.{lt-z}
use Rattle.layout.specs.Rooms.{and_left, and_right}
use Rattle.layout.specs.Copy.{most16}
use Rattle.steps.specs.Number.{zero64, is_finite, is_whole}
use Rattle.steps.specs.State as steps
use Rattle.steps.specs.Tests.{finite_terms}
use Rattle.layout.specs.Layout.{term_room}
use Rattle.rows.specs.Integral.{small}
use Rattle.changes.specs.declared.terms.Pack.{Pack}
use Rattle.changes.specs.terms.Terms.{pack_of, term_of, terms_in, term_in, terms_of}
use Rattle.changes.specs.terms.Packed.{pack-finite, pack-few, pack-terms, most-few}
use Rattle.writing.specs.Figures.{is_figure}
use Rattle.writing.specs.Given.{term_at, whole_from}
use Rattle.writing.specs.Writes.{relation_in, strength_in, constraint_of, numbers_in, writes}
use Rattle.entry.specs.typed.Typed.{whole_of, whole-exact, typed_term, typed_terms}
use Rattle.knobharbor.specs.handed.Handed.{kind_of, Handed, said, handed_of, read_by}
use Rattle.knobharbor.specs.HandedOn.{front, length-of, given-terms, kind_fits}
use Rattle.knobharbor.specs.Written.{related_by, writes_of}

-- the lists up to the count, the constant, the kind, the strength and the group, as `knobharbor_write_line` takes them
abbrev pub write_handed : Handed → Written
write_handed h =
    writes_of (slice_index h.words 3) (slice_index_or h.reals 1 zero64) (slice_index h.words 5) (slice_index_or h.reals 0 zero64) (take (slice_index h.words 4) h.variables) (take (slice_index h.words 4) h.coefficients)

-- ---- a whole number below 2^53 in size is one that the writer takes

low : IsZ (fin true 1 (pos 53)) (negsuc (2 ^ 53 - 1))
unfolding int val
low = lit-z tt tt

high : IsZ (fin false 1 (pos 53)) (pos (2 ^ 53))
unfolding int val
high = lit-z tt tt

above : (z : ℤ) → unsigned_abs z < 2 ^ 53 → T (int_lt (negsuc (2 ^ 53 - 1)) z)
above (pos n) h = tt
above (negsuc n) h = lt→ltb n (2 ^ 53 - 1) (omega (arith, h))

below : (z : ℤ) → unsigned_abs z < 2 ^ 53 → T (int_lt z (pos (2 ^ 53)))
below (pos n) h = lt→ltb n (2 ^ 53) h
below (negsuc n) h = tt

is-whole : (x : Float) → T (int x) → T (is_whole x)
unfolding int is_whole
is-whole nan h = h
is-whole (inf s) h = h
is-whole (fin s m e) h = h

to-true : (t : Bool) → T t → t ≡ true
to-true true h = refl
to-true false h = absurd h

figure : (x : Float) (z : ℤ) → unsigned_abs z < 2 ^ 53 → IsZ x z → is_figure x ≡ true
unfolding small
figure x z k h = rw (lt-z low h, lt-z h high, to-true (int_lt (negsuc (2 ^ 53 - 1)) z) (above z k), to-true (int_lt z (pos (2 ^ 53))) (below z k), to-true (is_whole x) (is-whole x (z-int h)))

finite : (x : Float) (z : ℤ) → IsZ x z → is_finite x ≡ true
unfolding is_finite
finite nan z h = absurd h.has
finite (inf s) z h = absurd h.has
finite (fin s m e) z h = refl

-- ---- the terms

-- as the writer takes a term
abbrev pub worth : steps.Term → Term
worth t = record { variable = t.variable; coefficient = val t.coefficient }

figures : List steps.Term → Bool
figures [] = true
figures (t ∷ ts) = is_figure t.coefficient && figures ts

figures-from : (p : Pack) (i k : ℕ) → figures (tab (λ j. term_of (term_in p j)) i k) ≡ whole_from p.vars p.coefs i k
unfolding tab whole_from figures term_of term_in
figures-from p i zero = refl
figures-from p i (suc k) = ap (λ (b : Bool). is_figure (slice_index_or p.coefs i nan) && b) (figures-from p (suc i) k)

pub worth-from : (p : Pack) (n : ℕ) → map worth (tab (λ j. term_of (term_in p j)) 0 n) ≡ tab (term_at p.vars p.coefs) 0 n
unfolding term_of term_in
worth-from p n = map-tab worth (λ j. term_of (term_in p j)) 0 n

module _ (t : Term) (ts : List Term) (h : small_terms (t ∷ ts) ≡ true) where
  size : unsigned_abs t.coefficient ≤ most
  unfolding small_terms
  size = leb-true (unsigned_abs t.coefficient) most (and_left (nat_le (unsigned_abs t.coefficient) most) (small_terms ts) h)

  others : small_terms ts ≡ true
  unfolding small_terms
  others = and_right (nat_le (unsigned_abs t.coefficient) most) (small_terms ts) h

  exact : IsZ (whole_of t.coefficient) t.coefficient
  exact = whole-exact t.coefficient size

terms-figures : (ts : List Term) → small_terms ts ≡ true → figures (terms_in (typed_terms ts)) ≡ true
unfolding figures terms_in term_of typed_term
terms-figures [] h = refl
terms-figures (t ∷ ts) h = rw (figure (whole_of t.coefficient) t.coefficient (omega (arith, size t ts h)) (exact t ts h)) (terms-figures ts (others t ts h))

terms-finite : (ts : List Term) → small_terms ts ≡ true → finite_terms (terms_in (typed_terms ts)) ≡ true
unfolding finite_terms terms_in term_of typed_term
terms-finite [] h = refl
terms-finite (t ∷ ts) h = rw (finite (whole_of t.coefficient) t.coefficient (exact t ts h)) (terms-finite ts (others t ts h))

terms-worth : (ts : List Term) → small_terms ts ≡ true → map worth (terms_in (typed_terms ts)) ≡ ts
unfolding terms_in term_of typed_term
terms-worth [] h = refl
terms-worth (t ∷ ts) h = ap₂ (λ (z : ℤ) (r : List Term). record { variable = t.variable; coefficient = z } ∷ r) (isz-val (exact t ts h)) (terms-worth ts (others t ts h))

length-typed : (ts : List Term) → length (typed_terms ts) ≡ length ts
length-typed [] = refl
length-typed (t ∷ ts) = ap suc (length-typed ts)

module _ (ts : List Term) (few : length ts ≤ term_room) (h : small_terms ts ≡ true) where
  abbrev pack : Pack
  pack = pack_of (typed_terms ts)

  held : length (typed_terms ts) ≤ term_room
  held = rw (length-typed ts) few

  counted : pack.count ≡ length ts
  counted = pack-few (typed_terms ts) held ∙ length-typed ts

  tabbed : tab (λ j. term_of (term_in pack j)) 0 (length ts) ≡ terms_in (typed_terms ts)
  unfolding terms_of list_of
  tabbed = ap (λ (n : ℕ). tab (λ j. term_of (term_in pack j)) 0 n) (sym (most-few (length ts) few) ∙ ap most16 (sym counted)) ∙ pack-terms (typed_terms ts) held

  all_whole : whole_from pack.vars pack.coefs 0 pack.count ≡ true
  all_whole = ap (whole_from pack.vars pack.coefs 0) counted ∙ (sym (figures-from pack 0 (length ts)) ∙ (ap figures tabbed ∙ terms-figures ts h))

  all-terms : tab (term_at pack.vars pack.coefs) 0 pack.count ≡ ts
  all-terms = ap (tab (term_at pack.vars pack.coefs) 0) counted ∙ (sym (worth-from pack (length ts)) ∙ (ap (map worth) tabbed ∙ terms-worth ts h))

  all-few : pack.finite && nat_le pack.count term_room ≡ true
  all-few = rw (pack-finite (typed_terms ts), terms-finite ts h, counted, le-leb (length ts) term_room few)

-- ---- the constraint

strength-exact : (n : ℕ) → n ≤ required → IsZ (whole_of (pos n)) (pos n)
unfolding whole_of
strength-exact n h = of_int-z (pos n) (omega (arith, h))

strength-of : (m : Relation) (s : Float) → strength_in (related_by (kind_of m) s) ≡ s
unfolding strength_in
strength-of at_most s = refl
strength-of equal s = refl
strength-of at_least s = refl

relation-of : (m : Relation) (s : Float) → relation_in (related_by (kind_of m) s) ≡ m
relation-of at_most s = refl
relation-of equal s = refl
relation-of at_least s = refl

module _ (x : Constraint) (s : Says x) where
  abbrev ts : List Term
  ts = x.reading.terms

  abbrev strong : Float
  strong = whole_of (pos x.strength)

  abbrev constant : Float
  constant = whole_of x.reading.constant

  few : length ts ≤ term_room
  few = leb→le (length ts) term_room s.few

  small-ones : small_terms ts ≡ true
  small-ones = to-true (small_terms ts) (small-terms ts s.terms)

  strong-exact : IsZ strong (pos x.strength)
  strong-exact = strength-exact x.strength (leb→le x.strength required s.strength)

  constant-small : unsigned_abs x.reading.constant ≤ most
  constant-small = leb→le (unsigned_abs x.reading.constant) most s.constant

  numbers-in : numbers_in (related_by (kind_of x.reading.relation) strong) constant (pack_of (typed_terms ts)) ≡ true
  unfolding numbers_in
  numbers-in =
      rw (
        strength-of x.reading.relation strong,
        all-few ts few small-ones,
        all_whole ts few small-ones,
        figure constant x.reading.constant (omega (arith, constant-small)) (whole-exact x.reading.constant constant-small),
        figure strong (pos x.strength) (omega (arith, leb→le x.strength required s.strength)) strong-exact,
        isz-val strong-exact,
      )
      refl

  numbers-are : constraint_of (related_by (kind_of x.reading.relation) strong) x.group constant (pack_of (typed_terms ts)) ≡ x
  unfolding constraint_of
  numbers-are =
      rw (
        relation-of x.reading.relation strong,
        strength-of x.reading.relation strong,
        isz-val (whole-exact x.reading.constant constant-small),
        isz-val strong-exact,
        all-terms ts few small-ones,
      )
      refl

  pub handed-back : (n : ℕ) (c : List ℕ) → write_handed (said x n c) ≡ write_line x
  unfolding writes_of writes
  handed-back n c =
      rw (
        front (λ t. t.variable) ts,
        front (λ t. whole_of t.coefficient) ts,
        length-of (λ t. t.variable) ts,
        length-of (λ t. whole_of t.coefficient) ts,
        eq-eqb (length ts) (length ts) refl,
        kind_fits x.reading.relation,
        given-terms ts,
        numbers-in,
        numbers-are,
      )
      refl

-- "writing what was read from a plain line gives that line"
pub plain-again : (w : List ℕ) → Plain w → (x : Constraint) → read_second w ≡ taken x → write_handed (read_by w) ≡ wrote w
unfolding handed_of
plain-again w p x e = rw e (handed-back x (read-says x w e) (length w) [] ∙ writes-back w p x e)
