-- What the service line's readers hand over, handed on to an add, is the constraint added that the line says. Assumes nothing.
use Rattle.std.specs.Prelude.{◌≡◌, ℕ, suc, ◌<◌, true, T, List, [], ◌∷◌, ◌++◌, map, length, take, pos, nat_lt, slice_index, slice_index_or, refl, Float}
use Rattle.std.proofs.Common.{sym, ap, ◌∙◌, subst, eq-eqb}
use Rattle.std.proofs.Math.Option.{some}
use Rattle.std.specs.Float.{nan}
use Rattle.std.specs.Float.Ieee.{of_bits, of_int}
use Rattle.laws.specs.Lists.{list_of, list_of-is}
use Rattle.grammar.specs.Sums.{Relation, at_most, equal, at_least, Term, Reading, reads}
use Rattle.grammar.specs.Reader.{read_line}
use Rattle.grammar.proofs.Theorems.{accepts}
use Rattle.grammar.specs.edition.Endings as edition
use Rattle.grammar.specs.edition.Endings.{Constraint, taken}
use Rattle.grammar.specs.edition.Steps.{read_second}
use Rattle.grammar.specs.edition.Follow.{free}
use Rattle.grammar.specs.edition.Free.{free-line}
use Rattle.grammar.specs.edition.OldReaders.{renewed}
use Rattle.grammar.proofs.edition.OldReaders.{as-old}
use Rattle.sparse.specs.Sparse.{Sparse}
use Rattle.layout.specs.Laying.{get_d_map}
use Rattle.steps.specs.Number.{zero64}
use Rattle.steps.specs.Strength.{required}
use Rattle.steps.specs.State as steps
use Rattle.steps.specs.Calls.{add}
use Rattle.lending.specs.Lending.{Called, call_of}
use Rattle.changes.specs.terms.Terms.{no_term, terms_in}
use Rattle.knobharbor.specs.Given.{term_at, given, relation_by}
use Rattle.knobharbor.specs.Adding.{add_of, add_lists_of}
use Rattle.entry.specs.typed.Typed.{whole_of, typed_term, typed_terms, required_by}
use Rattle.entry.specs.typed.Adding.{text, add_read, text_of}
use Rattle.knobharbor.specs.handed.Handed.{kind_of, Handed, said, handed_of}

-- the lists up to the count, the constant, the kind and the strength, as `knobharbor_add_lists` takes them, in group 1
abbrev pub add_handed : ℕ → Handed → ℕ → Sparse → Sparse → Called
add_handed number g budget work t =
    add_lists_of (slice_index g.words 5) number (take (slice_index g.words 4) g.variables) (take (slice_index g.words 4) g.coefficients) (slice_index_or g.reals 0 zero64) (slice_index g.words 3) (slice_index_or g.reals 1 zero64) budget work t

pub front : {A : Type 0} (f : Term → A) (ts : List Term) (l : List A) → take (length ts) (map f ts ++ l) ≡ map f ts
front f [] l = refl
front f (t ∷ ts) l = ap (λ (r : List _). f t ∷ r) (front f ts l)

pub length-of : {A : Type 0} (f : Term → A) (ts : List Term) → length (map f ts) ≡ length ts
length-of f [] = refl
length-of f (t ∷ ts) = ap suc (length-of f ts)

abbrev pub variables : List Term → List ℕ
variables ts = map (λ (t : Term). t.variable) ts

abbrev pub coefficients : List Term → List Float
coefficients ts = map (λ (t : Term). whole_of t.coefficient) ts

abbrev none : Term
none = record { variable = 0; coefficient = pos 0 }

given-at : (ts : List Term) (j : ℕ) → j < length (typed_terms ts) → term_at (variables ts) (coefficients ts) j ≡ slice_index_or (typed_terms ts) j no_term
unfolding term_at typed_term
given-at ts j k =
    let i : j < length ts = rw length-of at k in
    rw (get_d_map (λ t. t.variable) ts j none 0 i, get_d_map (λ t. whole_of t.coefficient) ts j none nan i, get_d_map typed_term ts j none no_term i) refl

pub given-terms : (ts : List Term) → given (variables ts) (coefficients ts) ≡ typed_terms ts
unfolding given
given-terms ts = ap (λ (n : ℕ). list_of n (term_at (variables ts) (coefficients ts))) (length-of (λ t. t.variable) ts ∙ sym (length-of typed_term ts)) ∙ list_of-is (term_at (variables ts) (coefficients ts)) (typed_terms ts) no_term (given-at ts)

pub kind_fits : (m : Relation) → nat_lt (kind_of m) 3 ≡ true
kind_fits at_most = refl
kind_fits equal = refl
kind_fits at_least = refl

-- a relation at this strength
abbrev pub related : Relation → Float → steps.Relation
related at_most s = steps.at_most s
related equal s = steps.equal s
related at_least s = steps.at_least s

kind-related : (m : Relation) (s : Float) → relation_by (kind_of m) s ≡ related m s
unfolding relation_by
kind-related at_most s = refl
kind-related equal s = refl
kind-related at_least s = refl

-- a constraint that a reader hands over, handed on to `knobharbor_add_lists`: its terms, its constant, its relation and its strength, each exactly
pub handed-on : (x : Constraint) (n : ℕ) (c : List ℕ) (number budget : ℕ) (work t : Sparse)
    → add_handed number (said x n c) budget work t ≡ call_of (add x.group number (terms_in (typed_terms x.reading.terms)) (whole_of x.reading.constant) (related x.reading.relation (whole_of (pos x.strength))) budget) work t
unfolding add_lists_of add_of
handed-on x n c number budget work t =
    let ts : List Term = x.reading.terms in
    rw (
      front (λ t. t.variable) ts,
      front (λ t. whole_of t.coefficient) ts,
      length-of (λ t. t.variable) ts,
      length-of (λ t. whole_of t.coefficient) ts,
      eq-eqb (length ts) (length ts) refl,
      kind_fits x.reading.relation,
      kind-related x.reading.relation (whole_of (pos x.strength)),
      given-terms ts,
    )
    refl

-- ---- a line of the first edition

required-whole : whole_of (pos edition.required) ≡ required
unfolding whole_of required of_int of_bits
required-whole = refl

related-required : (m : Relation) → related m required ≡ required_by m
unfolding required_by
related-required at_most = refl
related-required equal = refl
related-required at_least = refl

-- "reads every other line as the new one does": required, and in group 1
usual : Reading → Constraint
usual r = record { reading = r; strength = edition.required; group = 1 }

first-edition : (line : List ℕ) (r : Reading) → read_line line ≡ reads r → read_second line ≡ taken (usual r)
unfolding usual
first-edition line r e =
    let a = (accepts line r).0 e in
    as-old line (subst (λ (w : List ℕ). T (free w)) a.2 (free-line a.0)) ∙ ap renewed e

-- a line that T-01's reader reads, handed over and handed on, is the line added by `knobharbor_add_text`
pub handed-first : (line : List ℕ) (r : Reading) → read_line line ≡ reads r → (n : ℕ) (c : List ℕ) (number budget : ℕ) (work t : Sparse)
    → text 0 (add_handed number (handed_of (some (read_second line)) n c) budget work t) ≡ text_of number line budget work t
unfolding text_of add_read handed_of usual
handed-first line r e n c number budget work t = rw (first-edition line r e, e, handed-on (usual r) n c number budget work t, required-whole, related-required r.relation) refl
