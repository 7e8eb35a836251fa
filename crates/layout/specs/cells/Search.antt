-- The lower bound on ascending keys, and what stands beside a key.
use Rattle.std.specs.Prelude.{ℕ, zero, suc, ◌≤◌, ◌<◌, ◌≡◌, refl, Bool, true, false, List, [], ◌∷◌, leb, ltb, length, get_or, take}
use Rattle.std.proofs.Common.{sym, ap, ◌∙◌, subst, arith, ltb-true, ltb-false, leb-true, leb-false, not-suc-le-zero, le_of_suc-le-suc}
use Rattle.std.proofs.Math.Seq.{length-take-le, get_or-take}
use borrow.Author.Tests.{lt-ltb}
use Rattle.layout.specs.cells.Seek.{first-elim}
use Rattle.layout.specs.cells.Cells.{Ascending, lower_in}

-- ---- the lower bound

-- r is the first place from a up to e whose key is not below x, or e
abbrev pub Bound : List ℕ → ℕ → ℕ → ℕ → ℕ → Type 0
Bound keys x a e r = (a ≤ r) × (r ≤ e) × ((j : ℕ) → a ≤ j → j < r → get_or keys j 0 < x) × (r < e → x ≤ get_or keys r 0)

pub lower-bound : (keys : List ℕ) (x a e : ℕ) → a ≤ e → Bound keys x a e (lower_in keys x a e)
unfolding lower_in
lower-bound keys x a e h =
    first-elim (λ j. leb x (get_or keys j 0)) (λ j. j) e (λ (r : ℕ). Bound keys x a e r) a e h
    (λ r b c t f. (b, omega arith, (λ j u v. leb-false x (get_or keys j 0) (f j u v)), λ _. leb-true x (get_or keys r 0) t))
    λ f. (h, omega arith, (λ j u v. leb-false x (get_or keys j 0) (f j u v)), λ q. absurd (omega arith))

bound-le : (keys : List ℕ) (x a e r s : ℕ) → Bound keys x a e r → Bound keys x a e s → r < s → ⊥
bound-le keys x a e r s h k q =
    let u = k.2 r h.0 q in
    let v = h.3 (omega (arith, q, k.1)) in
    omega (arith, u, v)

pub bound-one : (keys : List ℕ) (x a e r s : ℕ) → Bound keys x a e r → Bound keys x a e s → r ≡ s
bound-one keys x a e r s h k = both r s (bound-le keys x a e r s h k) (bound-le keys x a e s r k h)
  where
    both : (r s : ℕ) → (r < s → ⊥) → (s < r → ⊥) → r ≡ s
    both r s f g = omega arith

pub lower-is : (keys : List ℕ) (x a e : ℕ) {r : ℕ} → Bound keys x a e r → lower_in keys x a e ≡ r
lower-is keys x a e {r} h = bound-one keys x a e _ r (lower-bound keys x a e (omega (arith, h.0, h.1))) h

-- ---- what the library's halving finds in the first n keys

pub same-at : (l : List ℕ) (j d : ℕ) → j < length l → get_or l j d ≡ get_or l j 0
same-at [] j d h = absurd (not-suc-le-zero h)
same-at (y ∷ l) zero d h = refl
same-at (y ∷ l) (suc j) d h = same-at l j d (le_of_suc-le-suc h)

module _ (keys : List ℕ) (n x : ℕ) (fit : n ≤ length keys) where
  long : length (take n keys) ≡ n
  long = length-take-le n keys fit

  read : (j d : ℕ) → j < n → get_or (take n keys) j d ≡ get_or keys j 0
  read j d h = get_or-take n keys j d h ∙ same-at keys j d (omega (arith, fit, h))

  -- no key below x comes after one that is not
  pub parted : Ascending keys n → (i j d : ℕ) → i ≤ j → j < length (take n keys) → ltb (get_or (take n keys) j d) x ≡ true → ltb (get_or (take n keys) i d) x ≡ true
  unfolding Ascending
  parted up i j d h k q = rw (read i d (omega (arith, h, l))) (lt-ltb (get_or keys i 0) x (go (ltb i j) refl))
    where
      l : j < n
      l = omega (arith, k, long)

      at : get_or keys j 0 < x
      at = ltb-true (get_or keys j 0) x (rw (read j d l) at q)

      go : (b : Bool) → ltb i j ≡ b → get_or keys i 0 < x
      go true e = let v = up i j (ltb-true i j e) l in omega (arith, v, at)
      go false e =
          let c : j ≡ i = omega (arith, h, ltb-false i j e) in
          subst (λ (y : ℕ). get_or keys y 0 < x) c at

  pub point-is : {r : ℕ} → r ≤ n → ((j d : ℕ) → 0 ≤ j → j < r → ltb (get_or (take n keys) j d) x ≡ true) → ((j d : ℕ) → r ≤ j → j < length (take n keys) → ltb (get_or (take n keys) j d) x ≡ false) → r ≡ lower_in keys x 0 n
  point-is {r} h below above =
      sym (lower-is keys x 0 n (
        omega arith,
        h,
        (λ j u v. ltb-true (get_or keys j 0) x (sym (ap (λ (y : ℕ). ltb y x) (read j 0 (omega (arith, v, h)))) ∙ below j 0 u v)),
        λ q. ltb-false (get_or keys r 0) x (sym (ap (λ (y : ℕ). ltb y x) (read r 0 q)) ∙ above r 0 (omega arith) (omega (arith, q, long))),
      ))
