-- What the writer's C name writes: of two lists, the kind and the rest. Assumes nothing.
use Rattle.std.specs.Prelude.{◌≡◌, ℕ, Bool, true, false, cond, ◌&&◌, List, [], length, replicate, ◌==◌, ◌≢◌, nat_lt, refl, Float}
use Rattle.std.proofs.Common.{sym, ◌∙◌, eq-eqb, ne_eqb}
use Rattle.std.proofs.Math.Path.{ap}
use Rattle.std.proofs.Math.Option.{some}
use Rattle.grammar.proofs.Facts.{never}
use Rattle.steps.specs.State as steps
use Rattle.grammar.specs.edition.Endings.{Constraint, Reply}
use Rattle.grammar.specs.plain.Plain.{Written, wrote, refused, room, write_line}
use Rattle.grammar.proofs.plain.Theorems.{reads-back}
use Rattle.changes.specs.declared.tags.Relation.{Relation}
use Rattle.changes.specs.declared.tags.Relation.TheVariants.{AtMost, Equal, AtLeast}
use Rattle.changes.specs.tags.Tags.{relation_of}
use Rattle.changes.specs.declared.terms.Pack.{Pack}
use Rattle.changes.specs.terms.Terms.{pack_of}
use Rattle.writing.specs.Writes.{constraint_of, numbers_in, writes, Called, called_is, called}
use Rattle.knobharbor.specs.handed.Handed.{said, handed_of, read_by}
use Rattle.knobharbor.specs.Given.{given, relation_by}

-- 0 is at most, 1 equal, 2 at least
abbrev pub related_by : ℕ → Float → Relation
related_by kind s = cond (kind == 0) (AtMost s) (cond (kind == 1) (Equal s) (AtLeast s))

-- "36 for terms not ascending or anything a line can't say": so a kind that is none of the three, and lists of different lengths
unfoldable pub writes_of : ℕ → Float → ℕ → Float → List ℕ → List Float → Written
writes_of kind s g x vars coefs = cond (nat_lt kind 3 && length vars == length coefs) (writes (related_by kind s) g x (pack_of (given vars coefs))) (refused 36)

-- ---- the code

back : steps.Relation → Relation
back (steps.at_most s) = AtMost s
back (steps.equal s) = Equal s
back (steps.at_least s) = AtLeast s

back_is : (r : Relation) → back (relation_of r) ≡ r
unfolding back relation_of
back_is (AtMost s) = refl
back_is (Equal s) = refl
back_is (AtLeast s) = refl

back_by : (kind : ℕ) (s : Float) → back (relation_by kind s) ≡ related_by kind s
unfolding back relation_by
back_by kind s = by (kind == 0) (kind == 1)
  where
    by : (t u : Bool) → back (cond t (steps.at_most s) (cond u (steps.equal s) (steps.at_least s))) ≡ cond t (AtMost s) (cond u (Equal s) (AtLeast s))
    by true u = refl
    by false true = refl
    by false false = refl

related-is : (r : Relation) (kind : ℕ) (s : Float) → relation_of r ≡ relation_by kind s → r ≡ related_by kind s
related-is r kind s e = sym (back_is r) ∙ (ap back e ∙ back_by kind s)

pub unsaid-clears : (o z : List ℕ) → length o ≡ room → z ≡ replicate (length o) 0 → called_is 36 z ≡ called o (refused 36)
unfolding called
unsaid-clears o z size clear = rw (eq-eqb (length o) room size, clear, size)

pub unsaid-other : (o : List ℕ) → (length o ≢ room) → called_is 18 o ≡ called o (refused 36)
unfolding called
unsaid-other o h = rw (ne_eqb (length o) room h)

module _ (kind : ℕ) (s : Float) (g : ℕ) (x : Float) (vars : List ℕ) (coefs : List Float) where
  pub writes-not : (o : List ℕ) {c : Called} → nat_lt kind 3 && (length vars == length coefs) ≡ false → c ≡ called o (refused 36) → c ≡ called o (writes_of kind s g x vars coefs)
  unfolding writes_of
  writes-not o e f = rw e f

  pub writes-fit : (o : List ℕ) {c : Called} (r : Relation) (p : Pack) → nat_lt kind 3 && (length vars == length coefs) ≡ true → relation_of r ≡ relation_by kind s → p ≡ pack_of (given vars coefs)
      → c ≡ called o (writes r g x p) → c ≡ called o (writes_of kind s g x vars coefs)
  unfolding writes_of
  writes-fit o r p e q f h = h ∙ ap (called o) (ap (λ (y : Relation). writes y g x p) (related-is r kind s q) ∙ (ap (writes (related_by kind s) g x) f ∙ rw e))

  -- ---- "Reading what is written gives the constraint back as numbers"

  abbrev numbers : Constraint
  numbers = constraint_of (related_by kind s) g x (pack_of (given vars coefs))

  wrote-numbers : (l : List ℕ) → writes_of kind s g x vars coefs ≡ wrote l → write_line numbers ≡ wrote l
  unfolding writes_of writes
  wrote-numbers l e = by (nat_lt kind 3 && length vars == length coefs) (numbers_in (related_by kind s) x (pack_of (given vars coefs))) e
    where
      by : (t u : Bool) → cond t (cond u (write_line numbers) (refused 36)) (refused 36) ≡ wrote l → write_line numbers ≡ wrote l
      by true true e = e
      by true false e = never (cc)
      by false u e = never (cc)

  pub written-reads : (l : List ℕ) → writes_of kind s g x vars coefs ≡ wrote l → read_by l ≡ said numbers (length l) []
  unfolding handed_of
  written-reads l e = ap (λ (a : Reply). handed_of (some a) (length l) []) (reads-back numbers l (wrote-numbers l e))
