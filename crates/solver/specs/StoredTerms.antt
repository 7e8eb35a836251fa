-- The terms of a stored constraint, gathered into a pack.
-- Assumes nothing.
use Prim.Native.Nat.{ℕ, zero, suc, ◌+◌, ◌≤◌, ◌<◌}
use Rattle.std.specs.Prelude.{◌≡◌, Bool, true, false, cond, List, Float}
use Rattle.std.proofs.Math.Path.{refl}
use Rattle.std.proofs.Common.{ap, ◌∙◌, arith}
use Rattle.std.proofs.Math.Nat.{sub-zero}
use Rattle.std.specs.Float.{nan}
use Rattle.std.proofs.Math.ListN.{get_or}
use Rattle.laws.specs.Loops.{turns, run}
use Rattle.laws.specs.Lists.{list_of, tab-ext}
use Rattle.steps.specs.Number.{near_zero}
use Rattle.layout.specs.Copy.{most16}
use Rattle.layout.proofs.Copied.{length-list_of}
use Rattle.layout.specs.Layout.{term_room}
use Rattle.rows.specs.places.Listed.{map-list}
use Rattle.rows.specs.places.Finding.{place_in}
use Rattle.sparse.specs.Places.{most_variables, most_terms, variable_numbers_at, variable_places_at, term_counts_at, terms_at, coefficients_at}
use Rattle.sparse.specs.Lookup.{place_from}
use Rattle.sparse.specs.Sparse.{Sparse, variable_count, constraint_count, number_at, terms_from, term_of, constraint_of}
use Rattle.sparse.specs.Concat.{sum-in, sum-le, sum-most}
use Rattle.sparse.specs.Form.{index_at, index-named, Form}
use Rattle.sparse_test.specs.Stretch.{most}
use Rattle.sparse_test.specs.Reads.{greatest_u32, reads}
use Rattle.sparse_test.specs.Meaning.{reads-form}
use Rattle.sparse_test.specs.Parts.{parts}
use Rattle.sparse_test.specs.Meant.{tested-is}
use Rattle.sparse_test.specs.Tested.{term_count}
use Rattle.changes.specs.declared.terms.Term.{Term}
use Rattle.changes.specs.declared.terms.Pack.{Pack}
use Rattle.changes.specs.terms.Terms as terms
use Rattle.changes.specs.terms.Terms.{no_pack, pushed, pack_from, pack_of, term_in, terms_of, pushed_kept, kept_of}
use Rattle.changes.specs.terms.Packed.{pushed_room, few-none, pack-terms}
use Rattle.changes.specs.terms.Kept.{most-le}
use Rattle.changes.specs.terms.Listed.{gathered}
use Rattle.refusals.specs.Refusals.{variables_in}

-- the number of the variable whose symbol's place stands at byte q
unfoldable pub variable_at : List ℕ → List ℕ → ℕ → ℕ
variable_at w b q = get_or w (variable_numbers_at + place_from b variable_places_at (variables_in w) (get_or b q 0)) 0

unfoldable pub stored_term : List ℕ → List ℕ → List Float → ℕ → ℕ → Term
stored_term w b r from i = record { variable = variable_at w b (terms_at + (from + i)); coefficient = get_or r (coefficients_at + (from + i)) nan }

-- a variable's place stands at byte q, and its number is one that a u32 holds
pub record Names (w b : List ℕ) (q : ℕ) : Type 0 where
  pub few : variables_in w ≤ most_variables
  pub live : place_from b variable_places_at (variables_in w) (get_or b q 0) < variables_in w
  pub narrow : variable_at w b q ≤ greatest_u32

-- by the place that was found
pub narrow_at : (w b : List ℕ) (q : ℕ) {i : ℕ} → Names w b q → i ≡ place_from b variable_places_at (variables_in w) (get_or b q 0) → get_or w (variable_numbers_at + i) 0 ≤ greatest_u32
narrow_at w b q n e = rw e (unfold variable_at in n.narrow)

-- n terms from the one at place `from` on
pub record Terms (w b : List ℕ) (from n : ℕ) : Type 0 where
  pub few : n ≤ term_room
  pub within : from + n ≤ most_terms
  pub names : (i : ℕ) → i < n → Names w b (terms_at + (from + i))

unfoldable pub stored_pack : List ℕ → List ℕ → List Float → ℕ → ℕ → Pack
stored_pack w b r from n = pack_of (list_of n (stored_term w b r from))

pub pack-gathered : (w b : List ℕ) (r : List Float) (from n : ℕ) {q : Pack} → q ≡ no_pack → run (λ j p. pushed p (stored_term w b r from j)) 0 n q ≡ stored_pack w b r from n
unfolding stored_pack pack_of list_of run
pack-gathered w b r from n e = rw (e, sub-zero n) (gathered (stored_term w b r from) n 0 no_pack)

module _ (t : Sparse) (good : reads t ≡ true) where
  index_is : (p : ℕ) → index_at t p ≡ place_from t.bytes variable_places_at (variable_count t) p
  unfolding index_at place_from place_in
  index_is p = refl

  form : Form t
  form = reads-form t good

  abbrev from : ℕ → ℕ
  from j = term_count t.bytes j

  abbrev count : ℕ → ℕ
  count j = get_or t.bytes (term_counts_at + j) 0

  from_is : (j : ℕ) → from j ≡ terms_from t j
  unfolding term_count terms_from
  from_is j = refl

  inside : (j : ℕ) → j < constraint_count t → (i : ℕ) → i < count j → terms_from t j + i < terms_from t (constraint_count t)
  unfolding terms_from
  inside j h i k = rw (sum-in (λ c. get_or t.bytes (term_counts_at + c) 0) j, sum-in (λ c. get_or t.bytes (term_counts_at + c) 0) (constraint_count t)) (sum-le (λ c. get_or t.bytes (term_counts_at + c) 0) j (constraint_count t) i h k)

  named : (j : ℕ) → j < constraint_count t → (i : ℕ) → i < count j → place_from t.bytes variable_places_at (variable_count t) (get_or t.bytes (terms_at + (from j + i)) 0) < variable_count t
  named j h i k = rw (from_is j, ← index_is (get_or t.bytes (terms_at + (terms_from t j + i)) 0)) (form.named (terms_from t j + i) (inside j h i k))

  few : (j : ℕ) → j < constraint_count t → count j ≤ term_room
  few j h = most t.bytes term_counts_at (constraint_count t) term_room (parts t (tested-is t ∙ good)).term_counts j h

  ends : (j : ℕ) → j < constraint_count t → terms_from t j + count j ≤ most_terms
  unfolding terms_from
  ends j h =
      let a = sum-most (λ c. get_or t.bytes (term_counts_at + c) 0) j (λ c k. few c (omega (arith, h, k))) in
      let b = few j h in
      let n = form.counts.constraints in
      omega (arith, a, b, n, h)

  pub stored-terms : (j : ℕ) → j < constraint_count t → Terms t.words t.bytes (from j) (count j)
  stored-terms j h =
      record {
        few = few j h;
        within = rw (from_is j) (ends j h);
        names = λ i k.
            let l = named j h i k in
            record {
              few = form.counts.variables;
              live = l;
              narrow = unfold variable_at in most t.words variable_numbers_at (variable_count t) greatest_u32 (parts t (tested-is t ∙ good)).numbers _ l;
            };
      }

  term_is : (j : ℕ) → j < constraint_count t → (i : ℕ) → i < count j → terms.term_of (stored_term t.words t.bytes t.reals (from j) i) ≡ term_of t (terms_from t j) i
  unfolding terms.term_of stored_term term_of variable_at
  term_is j h i k =
      let q : ℕ = get_or t.bytes (terms_at + (terms_from t j + i)) 0 in
      let l = rw (from_is j) at (named j h i k) in
      let n : number_at t q ≡ get_or t.words (variable_numbers_at + place_from t.bytes variable_places_at (variable_count t) q) 0 = (index-named t q (rw (index_is q) l)).1 ∙ rw (index_is q) refl in
      rw (from_is j, n) refl

  pub pack-is : (j : ℕ) → j < constraint_count t → {p : Pack} → p ≡ stored_pack t.words t.bytes t.reals (from j) (count j) → terms_of p ≡ (constraint_of t j).terms
  unfolding stored_pack constraint_of terms.terms_in list_of
  pack-is j h e =
      rw e (pack-terms (list_of (count j) (stored_term t.words t.bytes t.reals (from j))) (rw (length-list_of (count j) (stored_term t.words t.bytes t.reals (from j))) (few j h))
      ∙ map-list terms.term_of (count j) (stored_term t.words t.bytes t.reals (from j))
      ∙ tab-ext (λ i. terms.term_of (stored_term t.words t.bytes t.reals (from j) i)) (term_of t (terms_from t j)) 0 (count j) (λ i a b. term_is j h i (omega (arith, b))))

-- ---- the kept terms of a pack are no more than sixteen

kept-turn : (cutoff : Float) (q : Pack) (t : Term) (n : ℕ) → q.count + suc n ≤ term_room → (pushed_kept cutoff q t).count + n ≤ term_room
unfolding pushed_kept
kept-turn cutoff q t n h = go (near_zero cutoff t.coefficient)
  where
    go : (b : Bool) → (cond b q (pushed q t)).count + n ≤ term_room
    go true = omega (arith, h)
    go false =
        let r : (pushed q t).count ≡ q.count + 1 = ap (λ (z : Pack). z.count) (pushed_room q t (omega (arith, h))) in
        omega (arith, r, h)

kept_from : (cutoff : Float) (p : Pack) (n i : ℕ) (q : Pack) → q.count + n ≤ term_room → (turns (λ j r. pushed_kept cutoff r (term_in p j)) n i q).count ≤ term_room
unfolding turns
kept_from cutoff p zero i q h = omega (arith, h)
kept_from cutoff p (suc n) i q h = kept_from cutoff p n (suc i) (pushed_kept cutoff q (term_in p i)) (kept-turn cutoff q (term_in p i) n h)

pub kept-few : (cutoff : Float) (p : Pack) {q : Pack} → q ≡ kept_of cutoff p → q.count ≤ term_room
unfolding kept_of run
kept-few cutoff p e = rw (e, sub-zero (most16 p.count)) (kept_from cutoff p (most16 p.count) 0 no_pack (few-none (most16 p.count) (most-le p.count)))
