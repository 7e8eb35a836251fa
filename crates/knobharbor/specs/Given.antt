-- What a caller in C hands to add, as the steps take it: two lists as terms, a kind and a strength as a relation. Assumes nothing.
use Rattle.std.specs.Prelude.{◌≡◌, ℕ, cond, List, length, ◌==◌, ◌≢◌, slice_index, slice_index_or, refl, Float}
use Rattle.std.proofs.Math.Nat.{sub-zero}
use Rattle.std.specs.Float.{nan}
use Rattle.std.proofs.Common.{ne_eqb}
use Rattle.laws.specs.Loops.{run}
use Rattle.laws.specs.Lists.{list_of}
use Rattle.steps.specs.State as steps
use Rattle.changes.specs.declared.tags.Relation.TheVariants.{AtMost, Equal, AtLeast}
use Rattle.changes.specs.tags.Tags.{relation_of}
use Rattle.changes.specs.declared.terms.Term.{Term}
use Rattle.changes.specs.declared.terms.Pack.{Pack}
use Rattle.changes.specs.terms.Terms.{no_pack, pushed, pack_of}
use Rattle.changes.specs.terms.Listed.{gathered}

-- the i-th term is the i-th variable times the i-th coefficient
unfoldable pub term_at : List ℕ → List Float → ℕ → Term
term_at vars coefs i = record { variable = slice_index vars i; coefficient = slice_index_or coefs i nan }

unfoldable pub given : List ℕ → List Float → List Term
given vars coefs = list_of (length vars) (term_at vars coefs)

-- 0 is at most, 1 equal, 2 at least
unfoldable pub relation_by : ℕ → Float → steps.Relation
relation_by kind s = cond (kind == 0) (steps.at_most s) (cond (kind == 1) (steps.equal s) (steps.at_least s))

-- ---- the loop that gathers the terms

-- the turn at place i
abbrev pub gathers : List ℕ → List Float → ℕ → Pack → Pack
gathers vars coefs i p = pushed p (term_at vars coefs i)

pub gather-starts : (vars : List ℕ) (coefs : List Float) {p : Pack} → p ≡ no_pack → run (gathers vars coefs) 0 (length vars) p ≡ pack_of (given vars coefs)
unfolding run pack_of given list_of
gather-starts vars coefs e = rw (e, sub-zero (length vars)) (gathered (term_at vars coefs) (length vars) 0 no_pack)

-- ---- the relation

pub at-most-by : (kind : ℕ) (s : Float) → kind ≡ 0 → relation_of (AtMost s) ≡ relation_by kind s
unfolding relation_of relation_by
at-most-by kind s e = rw e refl

pub equal_by : (kind : ℕ) (s : Float) → kind ≡ 1 → relation_of (Equal s) ≡ relation_by kind s
unfolding relation_of relation_by
equal_by kind s e = rw e refl

pub at-least-by : (kind : ℕ) (s : Float) → (kind ≢ 0) → (kind ≢ 1) → relation_of (AtLeast s) ≡ relation_by kind s
unfolding relation_of relation_by
at-least-by kind s e f = rw (ne_eqb kind 0 e, ne_eqb kind 1 f) refl
