-- Add under its C names: of the terms, the kind and the rest; and from the call of a pack. Assumes nothing.
use Rattle.std.specs.Prelude.{◌≡◌, ℕ, true, false, cond, List, length, ◌==◌, nat_lt, Float}
use Rattle.std.proofs.Math.Path.{refl, ap}
use Rattle.std.proofs.Common.{◌∙◌}
use Rattle.steps.specs.Calls.{Answer, add}
use Rattle.sparse.specs.Sparse.{Sparse}
use Rattle.lending.specs.Lending.{Called, called, refused18, call_of}
use Rattle.changes.specs.declared.tags.Relation.{Relation}
use Rattle.changes.specs.tags.Tags.{relation_of}
use Rattle.changes.specs.declared.terms.Term.{Term}
use Rattle.changes.specs.declared.terms.Pack.{Pack}
use Rattle.changes.specs.terms.Terms.{pack_of, terms_in, listed}
use Rattle.solver.specs.Listed.{listed-call}
use Rattle.knobharbor.specs.Given.{given, relation_by}
use Rattle.knobharbor.specs.Places.{Placed, placed_by}

-- a kind that is none of the three is answered as a table that doesn't read
unfoldable pub add_of : ℕ → ℕ → List Term → Float → ℕ → Float → ℕ → Sparse → Sparse → Called
add_of g n ts constant kind strength budget work t = cond (nat_lt kind 3) (call_of (add g n (terms_in ts) constant (relation_by kind strength) budget) work t) (called refused18 t)

-- and so are lists of different lengths
unfoldable pub add_lists_of : ℕ → ℕ → List ℕ → List Float → Float → ℕ → Float → ℕ → Sparse → Sparse → Called
add_lists_of g n vars coefs constant kind strength budget work t = cond (length vars == length coefs) (add_of g n (given vars coefs) constant kind strength budget work t) (called refused18 t)

-- ---- the code

-- the call of the list that a pack stands for
unfoldable pub packed_of : ℕ → ℕ → Pack → Float → ℕ → Float → ℕ → Sparse → Sparse → Called
packed_of g n p = add_of g n (listed p)

pub refused : {a : Answer} {t u : Sparse} → a ≡ refused18 → u ≡ t → called a u ≡ called refused18 t
refused e f = rw (e, f) refl

module _ (g n : ℕ) (constant : Float) (kind : ℕ) (strength : Float) (budget : ℕ) (work t : Sparse) where
  pub packed-unfit : (p : Pack) (c : Called) → nat_lt kind 3 ≡ false → c ≡ called refused18 t → c ≡ packed_of g n p constant kind strength budget work t
  unfolding packed_of add_of
  packed-unfit p c e f = rw (e, f) refl

  pub packed-fit : (p : Pack) (r : Relation) (x : Placed) → nat_lt kind 3 ≡ true → relation_of r ≡ relation_by kind strength → x ≡ placed_by (call_of (add g n (terms_in (listed p)) constant (relation_of r) budget) work t)
      → x ≡ placed_by (packed_of g n p constant kind strength budget work t)
  unfolding packed_of add_of
  packed-fit p r x e f h = h ∙ ap placed_by (rw e (rw f refl))

  pub packed-list : (ts : List Term) {p : Pack} → p ≡ pack_of ts → packed_of g n p constant kind strength budget work t ≡ add_of g n ts constant kind strength budget work t
  unfolding packed_of add_of
  packed-list ts e = ap (λ (c : Called). cond (nat_lt kind 3) c (called refused18 t)) (listed-call g n budget constant (relation_by kind strength) work t ts e)

  pub lists-unfit : (vars : List ℕ) (coefs : List Float) (c : Called) → (length vars == length coefs) ≡ false → c ≡ called refused18 t → c ≡ add_lists_of g n vars coefs constant kind strength budget work t
  unfolding add_lists_of
  lists-unfit vars coefs c e f = rw (e, f) refl

  pub lists-fit : (vars : List ℕ) (coefs : List Float) {p : Pack} (x : Placed) → (length vars == length coefs) ≡ true → p ≡ pack_of (given vars coefs) → x ≡ placed_by (packed_of g n p constant kind strength budget work t)
      → x ≡ placed_by (add_lists_of g n vars coefs constant kind strength budget work t)
  unfolding add_lists_of
  lists-fit vars coefs x e f h = h ∙ ap placed_by (rw e (packed-list (given vars coefs) f))
