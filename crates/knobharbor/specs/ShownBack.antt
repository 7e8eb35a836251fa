-- A layout read back: a constraint that is shown, handed on to the writer, and its line read again. Assumes nothing.
use Rattle.std.specs.Prelude.{◌≡◌, ℕ, ◌<◌, ◌≤◌, true, List, [], ◌∷◌, ◌++◌, map, length, take, nat_lt, slice_index_or, unsigned_abs, Float}
use Rattle.std.proofs.Math.Path.{refl, ap}
use Rattle.std.proofs.Common.{sym, ◌∙◌}
use Rattle.std.proofs.Math.Option.{some}
use Rattle.std.proofs.lemmas.List.{length-map}
use Rattle.std.specs.Float.{nan}
use Rattle.laws.specs.Lists.{tab, list_of, list_of-is}
use Rattle.steps.specs.State.{Term, Relation, at_most, equal, at_least, strength_of, comparison_of}
use Rattle.steps.specs.Shown.{Given, shown}
use Rattle.layout.specs.Layout.{comparison_code, term_room}
use Rattle.layout.specs.Laying.{get_d_map}
use Rattle.layout.specs.Copy.{most16}
use Rattle.sparse.specs.Sparse.{Sparse, read}
use Rattle.sparse_test.specs.Reads.{reads}
use Rattle.grammar.specs.Sums as line
use Rattle.grammar.specs.edition.Endings.{Constraint}
use Rattle.laws.specs.exact.Whole.{val}
use Rattle.grammar.specs.plain.Plain.{Written, wrote}
use Rattle.changes.specs.declared.tags.Relation as tags
use Rattle.changes.specs.declared.terms.Term as code
use Rattle.changes.specs.declared.terms.Pack.{Pack}
use Rattle.changes.specs.terms.Terms.{pack_of, term_of, terms_in, term_in, terms_of, no_term}
use Rattle.changes.specs.terms.Packed.{pack-few, pack-terms, most-few}
use Rattle.writing.specs.Given.{term_at}
use Rattle.writing.specs.Writes.{relation_in, strength_in, constraint_of}
use Rattle.knobharbor.specs.handed.Handed.{handed, read_by, said as lineSaid}
use Rattle.fetches.specs.shown.Shown.{Line, said, line_of, show_of}
use Rattle.fetches.specs.shown.Few.{few-shown}
use Rattle.knobharbor.specs.Given.{term_at as givenAt, given}
use Rattle.knobharbor.specs.Written.{related_by, written-reads}
use Rattle.knobharbor.specs.HandedBack.{write_handed, worth, worth-from}

-- what `knobharbor_write_line` writes of what `knobharbor_show` hands over: the lists up to the count
abbrev pub write_shown : Line → Written
write_shown l = write_handed (handed true l.words l.reals l.variables l.coefficients [])

abbrev relation_of : Relation → line.Relation
relation_of (at_most s) = line.at_most
relation_of (equal s) = line.equal
relation_of (at_least s) = line.at_least

-- the constraint as numbers
abbrev pub numbers_of : Given → Constraint
numbers_of g =
    record {
      reading = record { relation = relation_of g.relation; constant = val g.constant; terms = map worth g.terms };
      strength = unsigned_abs (val (strength_of g.relation));
      group = g.group;
    }

-- ---- the terms

abbrev variables : List Term → List ℕ
variables ts = map (λ (t : Term). t.variable) ts

abbrev coefficients : List Term → List Float
coefficients ts = map (λ (t : Term). t.coefficient) ts

front : {A : Type 0} (f : Term → A) (ts : List Term) (l : List A) → take (length ts) (map f ts ++ l) ≡ map f ts
front f [] l = refl
front f (t ∷ ts) l = ap (λ (r : List _). f t ∷ r) (front f ts l)

-- as the code has them
abbrev as_coded : Term → code.Term
as_coded t = record { variable = t.variable; coefficient = t.coefficient }

abbrev coded : List Term → List code.Term
coded ts = map as_coded ts

coded-back : (ts : List Term) → terms_in (coded ts) ≡ ts
unfolding terms_in term_of
coded-back [] = refl
coded-back (t ∷ ts) = ap (λ (r : List Term). t ∷ r) (coded-back ts)

abbrev none : Term
none = record { variable = 0; coefficient = nan }

coded-at : (ts : List Term) (j : ℕ) → j < length (coded ts) → givenAt (variables ts) (coefficients ts) j ≡ slice_index_or (coded ts) j no_term
unfolding givenAt
coded-at ts j k =
    let i : j < length ts = rw length-map at k in
    rw (get_d_map (λ t. t.variable) ts j none 0 i, get_d_map (λ t. t.coefficient) ts j none nan i, get_d_map as_coded ts j none no_term i) refl

given-coded : (ts : List Term) → given (variables ts) (coefficients ts) ≡ coded ts
unfolding given
given-coded ts = ap (λ (n : ℕ). list_of n (givenAt (variables ts) (coefficients ts))) (length-map ts (λ (t : Term). t.variable) ∙ sym (length-map ts as_coded)) ∙ list_of-is (givenAt (variables ts) (coefficients ts)) (coded ts) no_term (coded-at ts)

module _ (ts : List Term) (few : length ts ≤ term_room) where
  abbrev pack : Pack
  pack = pack_of (coded ts)

  held : length (coded ts) ≤ term_room
  held = rw (length-map ts as_coded) few

  counted : pack.count ≡ length ts
  counted = pack-few (coded ts) held ∙ length-map ts as_coded

  tabbed : tab (λ j. term_of (term_in pack j)) 0 (length ts) ≡ ts
  unfolding terms_of list_of
  tabbed = ap (λ (n : ℕ). tab (λ j. term_of (term_in pack j)) 0 n) (sym (most-few (length ts) few) ∙ ap most16 (sym counted)) ∙ (pack-terms (coded ts) held ∙ coded-back ts)

  all-terms : tab (term_at pack.vars pack.coefs) 0 pack.count ≡ map worth ts
  all-terms = ap (tab (term_at pack.vars pack.coefs) 0) counted ∙ (sym (worth-from pack (length ts)) ∙ ap (map worth) tabbed)

-- ---- the constraint

kind_fits : (r : Relation) → nat_lt (comparison_code (comparison_of r)) 3 ≡ true
unfolding comparison_code comparison_of
kind_fits (at_most s) = refl
kind_fits (equal s) = refl
kind_fits (at_least s) = refl

abbrev related_as : Relation → tags.Relation
related_as r = related_by (comparison_code (comparison_of r)) (strength_of r)

relation-as : (r : Relation) → relation_in (related_as r) ≡ relation_of r
unfolding comparison_code comparison_of strength_of
relation-as (at_most s) = refl
relation-as (equal s) = refl
relation-as (at_least s) = refl

strength-as : (r : Relation) → strength_in (related_as r) ≡ strength_of r
unfolding comparison_code comparison_of strength_of strength_in
strength-as (at_most s) = refl
strength-as (equal s) = refl
strength-as (at_least s) = refl

module _ (g : Given) (few : length g.terms ≤ term_room) where
  numbers-are : constraint_of (related_as g.relation) g.group g.constant (pack_of (given (variables g.terms) (coefficients g.terms))) ≡ numbers_of g
  unfolding constraint_of
  numbers-are = rw (given-coded g.terms, all-terms g.terms few, relation-as g.relation, strength-as g.relation) refl

  -- "Reading what is written gives the constraint back as numbers", of what is shown
  pub shown-back : (l : List ℕ) → write_shown (said g) ≡ wrote l → read_by l ≡ lineSaid (numbers_of g) (length l) []
  shown-back l e =
      let v : List ℕ = variables g.terms in
      let k : List Float = coefficients g.terms in
      written-reads (comparison_code (comparison_of g.relation)) (strength_of g.relation) g.group g.constant v k l (rw (front (λ t. t.variable) g.terms, front (λ t. t.coefficient) g.terms) at e)
      ∙ ap (λ (x : Constraint). lineSaid x (length l) []) numbers-are

-- a constraint of tables that read, shown, written and read again
pub layout-back : (t : Sparse) (n : ℕ) (g : Given) (l : List ℕ) → reads t ≡ true → shown n (read t) ≡ some g → write_shown (show_of n t) ≡ wrote l → read_by l ≡ lineSaid (numbers_of g) (length l) []
unfolding show_of line_of
layout-back t n g l ok e w = shown-back g (rw e at (few-shown t n ok)) l (rw (ok, e) at w)
