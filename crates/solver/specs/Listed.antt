-- The call of a list's pack is the call of the list: what the pack doesn't hold is refused as the list is.
-- Assumes nothing.
use Rattle.std.specs.Prelude.{ℕ, ◌<◌, ◌≡◌, refl, Bool, true, false, not, ◌&&◌, cond, List, ◌∷◌, eqb, leb, ltb, length, Float}
use Rattle.std.proofs.Common.{sym, ap, ◌∙◌}
use Rattle.std.proofs.lemmas.Bool.{false≢true}
use Rattle.std.proofs.Math.Option.{some}
use borrow.Author.Tests.{leb-true, leb-false, lt-ltb, not-false}
use Rattle.steps.specs.Number.{below_zero, is_finite}
use Rattle.steps.specs.State as steps
use Rattle.steps.specs.State.{State, strength_of}
use Rattle.steps.specs.Tests.{Test, ◌if◌, first_refusal, finite_terms, add_tests}
use Rattle.steps.specs.Calls.{Result, add}
use Rattle.layout.specs.Rooms.{and_left}
use Rattle.layout.specs.Layout.{term_room}
use Rattle.sparse.specs.Sparse.{Sparse, read}
use Rattle.sparse.specs.Write.{write}
use Rattle.sparse_test.specs.Reads.{reads}
use Rattle.lending.specs.Lending.{called, refused18, call_in, call_of}
use Rattle.changes.specs.declared.terms.Term.{Term}
use Rattle.changes.specs.declared.terms.Pack.{Pack}
use Rattle.changes.specs.terms.Terms.{pack_of, terms_in, listed}
use Rattle.changes.specs.terms.Packed.{length-terms}
use Rattle.changes.specs.terms.Listed.{listed-finite, listed-few, listed-many}
use Rattle.solver.specs.Adding.{refused-by}

-- the number of the first of three tests that fails, the third failing where the first passes
first-four : (z a b c : Bool) (ts : List Test) → (a ≡ false → c ≡ true) → first_refusal (26 if z ∷ 1 if a ∷ 2 if b ∷ 3 if c ∷ ts) ≡ some (cond z 26 (cond a 1 (cond b 2 3)))
unfolding first_refusal
first-four true a b c ts h = refl
first-four false true b c ts h = refl
first-four false false true c ts h = refl
first-four false false false c ts h = rw (h refl) refl

module _ (g x budget : ℕ) (constant : Float) (relation : steps.Relation) (s : State) where
  abbrev infinite : Bool → Bool
  infinite b = not (b && is_finite constant && is_finite (strength_of relation))

  -- a list that is too long or not finite
  early : (l : List steps.Term) → (finite_terms l ≡ true → term_room < length l) → first_refusal (add_tests g x l constant relation s) ≡ some (cond (eqb g 0) 26 (cond (infinite (finite_terms l)) 1 (cond (below_zero (strength_of relation)) 2 3)))
  unfolding add_tests
  early l h =
      first-four (eqb g 0) (infinite (finite_terms l)) (below_zero (strength_of relation)) (ltb term_room (length l)) _ λ e.
      lt-ltb term_room (length l) (h (and_left (finite_terms l) (is_finite constant) (and_left (finite_terms l && is_finite constant) (is_finite (strength_of relation)) (not-false _ e))))

  module _ (ts : List Term) where
    refused-alike : (finite_terms (terms_in ts) ≡ true → term_room < length ts) → add g x (terms_in (listed (pack_of ts))) constant relation budget s ≡ add g x (terms_in ts) constant relation budget s
    refused-alike h =
        let f = listed-finite ts in
        refused-by g x budget _ (terms_in (listed (pack_of ts))) constant relation s (early _ (λ e. let q = sym f ∙ e in listed-many ts q (h q)))
        ∙ rw f (sym (refused-by g x budget _ (terms_in ts) constant relation s (early _ (λ e. rw (length-terms ts) (h e)))))

    pub listed-adds : add g x (terms_in (listed (pack_of ts))) constant relation budget s ≡ add g x (terms_in ts) constant relation budget s
    listed-adds = go (finite_terms (terms_in ts)) (leb (length ts) term_room) refl refl
      where
        go : (f few : Bool) → finite_terms (terms_in ts) ≡ f → leb (length ts) term_room ≡ few → add g x (terms_in (listed (pack_of ts))) constant relation budget s ≡ add g x (terms_in ts) constant relation budget s
        go true true e q = ap (λ (l : List steps.Term). add g x l constant relation budget s) (listed-few ts e (leb-true (length ts) term_room q))
        go true false e q = refused-alike (λ _. leb-false (length ts) term_room q)
        go false few e q = refused-alike (λ z. absurd (false≢true (sym e ∙ z)))

pub listed-call : (g x budget : ℕ) (constant : Float) (relation : steps.Relation) (w t : Sparse) (ts : List Term) {p : Pack} → p ≡ pack_of ts
    → call_of (add g x (terms_in (listed p)) constant relation budget) w t ≡ call_of (add g x (terms_in ts) constant relation budget) w t
unfolding call_of call_in
listed-call g x budget constant relation w t ts e =
    rw e (ap (λ (r : Result). cond (reads t) (called r.answer (write r.state t)) (called refused18 t)) (listed-adds g x budget constant relation (read t) ts))
