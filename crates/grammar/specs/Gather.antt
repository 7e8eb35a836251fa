-- The reader's sums are those of the tree: its constant and coefficients, under the factor that stands over it.
use Rattle.std.specs.Prelude.{ℕ, ◌*◌, ◌≡◌, refl, Bool, not, [], ◌∷◌, eqb, ℤ, neg_ℤ, ◌+ℤ◌, ◌-ℤ◌, ◌*ℤ◌}
use Rattle.std.proofs.Common.{sym, ap, ap₂, ◌∙◌}
use Rattle.std.proofs.Math.Bool.{true, false, cond}
use Rattle.std.proofs.Math.IntN.{pos}
use Rattle.laws.specs.Ring.{ring, v, k, ◌⊞◌, ◌⊠◌, ⊟◌, ◌⊟⊟◌}
use Rattle.grammar.specs.Sums.{Sums, Factor, one, turned, multiplied, signed, nothing, summed, Reading}
use Rattle.grammar.specs.Trees.{Sort, Tree, amount, variable, multiple, negated, bracketed, single, added, subtracted, Line, worth, constant_of, coefficient_of}
use Rattle.grammar.specs.Says.{coefficient_in, Ascending, IsReading}
use Rattle.grammar.specs.Terms.{add-ascending, add-coefficient, kept-ascending, kept-none-zero, kept-coefficient, terms-same}
use Rattle.grammar.specs.Walk.{settled, arrived}
use Rattle.grammar.specs.LineWalk.{sums_of}

-- ---- factors as integers

abbrev of_factor : Factor → ℤ
of_factor f = signed f.negative f.times

scaled : (f : Factor) (n : ℕ) → signed f.negative (f.times * n) ≡ of_factor f *ℤ pos n
scaled f n = by f.negative f.times
  where
    by : (t : Bool) (m : ℕ) → signed t (m * n) ≡ signed t m *ℤ pos n
    by false m = refl
    by true m = ring (pos m ∷ pos n ∷ []) (⊟ (v 0 ⊠ v 1)) (⊟ v 0 ⊠ v 1) tt

turned-is : (f : Factor) → of_factor (turned f) ≡ neg_ℤ (of_factor f)
turned-is f = by f.negative (pos f.times) f.times
  where
    by : (t : Bool) (z : ℤ) (n : ℕ) → signed (not t) n ≡ neg_ℤ (signed t n)
    by false z n = refl
    by true z n = ring (pos n ∷ []) (v 0) (⊟ (⊟ v 0)) tt

-- ---- the constant

constant-is : (f : Factor) {k : Sort} (t : Tree k) (s : Sums) → (settled (arrived f t s)).constant ≡ s.constant +ℤ of_factor f *ℤ constant_of t
unfolding arrived constant_of
constant-is f (amount n) s = ap (λ z. s.constant +ℤ z) (scaled f (worth n))
constant-is f (variable n) s = ring (s.constant ∷ of_factor f ∷ []) (v 0) (v 0 ⊞ v 1 ⊠ k (pos 0)) tt
constant-is f (multiple n g t) s =
    constant-is (multiplied f (worth n)) t s
    ∙ (ap (λ z. s.constant +ℤ z *ℤ constant_of t) (scaled f (worth n))
    ∙ ring (s.constant ∷ of_factor f ∷ pos (worth n) ∷ constant_of t ∷ []) (v 0 ⊞ v 1 ⊠ v 2 ⊠ v 3) (v 0 ⊞ v 1 ⊠ (v 2 ⊠ v 3)) tt)
constant-is f (negated g t) s =
    constant-is (turned f) t s
    ∙ (ap (λ z. s.constant +ℤ z *ℤ constant_of t) (turned-is f) ∙ ring (s.constant ∷ of_factor f ∷ constant_of t ∷ []) (v 0 ⊞ ⊟ v 1 ⊠ v 2) (v 0 ⊞ v 1 ⊠ ⊟ v 2) tt)
constant-is f (bracketed g t h) s = constant-is f t s
constant-is f (single t) s = constant-is f t s
constant-is f (added t g u) s =
    constant-is f u (settled (arrived f t s))
    ∙ (ap (λ z. z +ℤ of_factor f *ℤ constant_of u) (constant-is f t s)
    ∙ ring (s.constant ∷ of_factor f ∷ constant_of t ∷ constant_of u ∷ []) (v 0 ⊞ v 1 ⊠ v 2 ⊞ v 1 ⊠ v 3) (v 0 ⊞ v 1 ⊠ (v 2 ⊞ v 3)) tt)
constant-is f (subtracted t g u) s =
    constant-is (turned f) u (settled (arrived f t s))
    ∙ (ap₂ (λ y z. y +ℤ z *ℤ constant_of u) (constant-is f t s) (turned-is f)
    ∙ ring (s.constant ∷ of_factor f ∷ constant_of t ∷ constant_of u ∷ []) (v 0 ⊞ v 1 ⊠ v 2 ⊞ ⊟ v 1 ⊠ v 3) (v 0 ⊞ v 1 ⊠ (v 2 ⊟⊟ v 3)) tt)

-- ---- the terms

ascends : (f : Factor) {k : Sort} (t : Tree k) (s : Sums) → Ascending s.terms → Ascending (settled (arrived f t s)).terms
unfolding arrived
ascends f (amount n) s a = a
ascends f (variable n) s a = add-ascending (worth n) (of_factor f) s.terms a
ascends f (multiple n g t) s a = ascends (multiplied f (worth n)) t s a
ascends f (negated g t) s a = ascends (turned f) t s a
ascends f (bracketed g t h) s a = ascends f t s a
ascends f (single t) s a = ascends f t s a
ascends f (added t g u) s a = ascends f u (settled (arrived f t s)) (ascends f t s a)
ascends f (subtracted t g u) s a = ascends (turned f) u (settled (arrived f t s)) (ascends f t s a)

module _ (x : ℕ) where
  abbrev of : Sums → ℤ
  of s = coefficient_in x s.terms

  coefficient-is : (f : Factor) {k : Sort} (t : Tree k) (s : Sums) → Ascending s.terms → of (settled (arrived f t s)) ≡ of s +ℤ of_factor f *ℤ coefficient_of x t
  unfolding arrived coefficient_of
  coefficient-is f (amount n) s a = ring (of s ∷ of_factor f ∷ []) (v 0) (v 0 ⊞ v 1 ⊠ k (pos 0)) tt
  coefficient-is f (variable n) s a = add-coefficient (worth n) (of_factor f) x s.terms a ∙ by (eqb x (worth n))
    where
      by : (p : Bool) → of s +ℤ cond p (of_factor f) (pos 0) ≡ of s +ℤ of_factor f *ℤ cond p (pos 1) (pos 0)
      by true = ring (of s ∷ of_factor f ∷ []) (v 0 ⊞ v 1) (v 0 ⊞ v 1 ⊠ k (pos 1)) tt
      by false = ring (of s ∷ of_factor f ∷ []) (v 0 ⊞ k (pos 0)) (v 0 ⊞ v 1 ⊠ k (pos 0)) tt
  coefficient-is f (multiple n g t) s a =
      coefficient-is (multiplied f (worth n)) t s a
      ∙ (ap (λ z. of s +ℤ z *ℤ coefficient_of x t) (scaled f (worth n))
      ∙ ring (of s ∷ of_factor f ∷ pos (worth n) ∷ coefficient_of x t ∷ []) (v 0 ⊞ v 1 ⊠ v 2 ⊠ v 3) (v 0 ⊞ v 1 ⊠ (v 2 ⊠ v 3)) tt)
  coefficient-is f (negated g t) s a =
      coefficient-is (turned f) t s a
      ∙ (ap (λ z. of s +ℤ z *ℤ coefficient_of x t) (turned-is f) ∙ ring (of s ∷ of_factor f ∷ coefficient_of x t ∷ []) (v 0 ⊞ ⊟ v 1 ⊠ v 2) (v 0 ⊞ v 1 ⊠ ⊟ v 2) tt)
  coefficient-is f (bracketed g t h) s a = coefficient-is f t s a
  coefficient-is f (single t) s a = coefficient-is f t s a
  coefficient-is f (added t g u) s a =
      coefficient-is f u (settled (arrived f t s)) (ascends f t s a)
      ∙ (ap (λ z. z +ℤ of_factor f *ℤ coefficient_of x u) (coefficient-is f t s a)
      ∙ ring (of s ∷ of_factor f ∷ coefficient_of x t ∷ coefficient_of x u ∷ []) (v 0 ⊞ v 1 ⊠ v 2 ⊞ v 1 ⊠ v 3) (v 0 ⊞ v 1 ⊠ (v 2 ⊞ v 3)) tt)
  coefficient-is f (subtracted t g u) s a =
      coefficient-is (turned f) u (settled (arrived f t s)) (ascends f t s a)
      ∙ (ap₂ (λ y z. y +ℤ z *ℤ coefficient_of x u) (coefficient-is f t s a) (turned-is f)
      ∙ ring (of s ∷ of_factor f ∷ coefficient_of x t ∷ coefficient_of x u ∷ []) (v 0 ⊞ v 1 ⊠ v 2 ⊞ ⊟ v 1 ⊠ v 3) (v 0 ⊞ v 1 ⊠ (v 2 ⊟⊟ v 3)) tt)

-- ---- the reading

-- left minus right
difference : (y z : ℤ) {p q : ℤ} → p ≡ pos 0 +ℤ pos 1 *ℤ y → q ≡ p +ℤ neg_ℤ (pos 1) *ℤ z → q ≡ y -ℤ z
difference y z e g = g ∙ (ap (λ p. p +ℤ neg_ℤ (pos 1) *ℤ z) e ∙ ring (y ∷ z ∷ []) (k (pos 0) ⊞ k (pos 1) ⊠ v 0 ⊞ ⊟ k (pos 1) ⊠ v 1) (v 0 ⊟⊟ v 1) tt)

pub reading : (l : Line) → IsReading l (summed l.relation (sums_of l))
unfolding sums_of coefficient_in
reading l =
    let t = l.left_side in
    let u = l.right_side in
    let s = settled (arrived one t nothing) in
    let a = ascends one t nothing tt in
    let b = ascends (turned one) u s a in
    let e = (sums_of l).terms in
    record {
      related = refl;
      constant = difference (constant_of t) (constant_of u) (constant-is one t nothing) (constant-is (turned one) u s);
      summed = λ x. kept-coefficient x e b ∙ difference (coefficient_of x t) (coefficient_of x u) (coefficient-is x one t nothing tt) (coefficient-is x (turned one) u s a);
      dropped = kept-none-zero e;
      ascending = kept-ascending e b;
    }

-- there is no other
pub reading-only : (l : Line) (r q : Reading) → IsReading l r → IsReading l q → r ≡ q
reading-only l r q h g =
    let ts = terms-same r.terms q.terms h.ascending g.ascending h.dropped g.dropped (λ x. h.summed x ∙ sym (g.summed x)) in
    let z = h.constant ∙ sym g.constant in
    let y = h.related ∙ sym g.related in
    λ i. record { relation = y i; constant = z i; terms = ts i }
