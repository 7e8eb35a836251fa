-- Ascending terms: one more, zero ones dropped, and that their coefficients make them.
use Rattle.std.specs.Prelude.{ℕ, ◌≤◌, ◌<◌, ◌≡◌, Bool, T, ℤ, ◌+ℤ◌}
use Rattle.std.proofs.Math.Path.{refl}
use Rattle.std.proofs.Common.{sym, ap, ◌∙◌, arith}
use Rattle.std.proofs.Math.Bool.{true, false, cond}
use mathlib.Core.List.{List, [], ◌∷◌}
use Rattle.std.proofs.Math.Dec.{ltb, eqb}
use borrow.Author.Tests.{eqb-true, eqb-false, ltb-true, ltb-false, eq-eqb, ne_eqb}
use Rattle.std.proofs.Math.IntN.{pos}
use Rattle.laws.specs.Z.{eq_zb, eq_zb→, ≡→eq_zb}
use Rattle.laws.specs.Ring.{ring, v, k, ◌⊞◌}
use Rattle.grammar.specs.Sums.{Term, add_to, kept}
use Rattle.grammar.specs.Says.{coefficient_in, Above, Ascending, NoneZero}

-- ---- above

above_down : (x y : ℕ) (ts : List Term) → y ≤ x → Above x ts → Above y ts
above_down x y [] h a = tt
above_down x y (t ∷ ts) h a = (omega arith, above_down x y ts h a.1)

above-none : (u x : ℕ) (ts : List Term) → u ≤ x → Above x ts → coefficient_in u ts ≡ pos 0
unfolding coefficient_in
above-none u x [] h a = refl
above-none u x (t ∷ ts) h a = rw (ne_eqb u t.variable (λ e. omega arith)) (above-none u x ts h a.1)

-- ---- one more

abbrev new_term : ℕ → ℤ → Term
new_term u c = record { variable = u; coefficient = c }

module _ (u : ℕ) (c : ℤ) where
  add-above : (x : ℕ) (ts : List Term) → x < u → Above x ts → Above x (add_to u c ts)
  unfolding add_to
  add-above x [] h a = (h, tt)
  add-above x (t ∷ ts) h a = by (ltb u t.variable) (eqb u t.variable) (add-above x ts h a.1)
    where
      by : (p q : Bool) → Above x (add_to u c ts) → Above x (cond p (new_term u c ∷ t ∷ ts) (cond q (new_term u (t.coefficient +ℤ c) ∷ ts) (t ∷ add_to u c ts)))
      by true q r = (h, a)
      by false true r = (h, a.1)
      by false false r = (a.0, r)

  pub add-ascending : (ts : List Term) → Ascending ts → Ascending (add_to u c ts)
  unfolding add_to
  add-ascending [] a = (tt, tt)
  add-ascending (t ∷ ts) a = by (ltb u t.variable) (eqb u t.variable) refl refl (add-ascending ts a.1)
    where
      by : (p q : Bool) → ltb u t.variable ≡ p → eqb u t.variable ≡ q → Ascending (add_to u c ts) → Ascending (cond p (new_term u c ∷ t ∷ ts) (cond q (new_term u (t.coefficient +ℤ c) ∷ ts) (t ∷ add_to u c ts)))
      by true q e g r =
          let h = ltb-true u t.variable e in
          ((h, above_down t.variable u ts (omega arith) a.0), a)
      by false true e g r = (above_down t.variable u ts (omega (arith, eqb-true u t.variable g)) a.0, a.1)
      by false false e g r =
          let h = ltb-false u t.variable e in
          let n = eqb-false u t.variable g in
          (add-above t.variable ts (omega arith) a.0, r)

  pub add-coefficient : (x : ℕ) (ts : List Term) → Ascending ts → coefficient_in x (add_to u c ts) ≡ coefficient_in x ts +ℤ cond (eqb x u) c (pos 0)
  unfolding add_to coefficient_in
  add-coefficient x [] a = ring (cond (eqb x u) c (pos 0) ∷ []) (v 0) (k (pos 0) ⊞ v 0) tt
  add-coefficient x (t ∷ ts) a = by (ltb u t.variable) (eqb u t.variable) refl refl (add-coefficient x ts a.1)
    where
      here : (p q : Bool) → eqb x u ≡ q → (q ≡ true → cond p t.coefficient (coefficient_in x ts) ≡ pos 0) → cond q c (cond p t.coefficient (coefficient_in x ts)) ≡ cond p t.coefficient (coefficient_in x ts) +ℤ cond q c (pos 0)
      here p true e f = rw (f refl) (ring (c ∷ []) (v 0) (k (pos 0) ⊞ v 0) tt)
      here p false e f = ring (cond p t.coefficient (coefficient_in x ts) ∷ []) (v 0) (v 0 ⊞ k (pos 0)) tt

      there : (p : Bool) → cond p (t.coefficient +ℤ c) (coefficient_in x ts) ≡ cond p t.coefficient (coefficient_in x ts) +ℤ cond p c (pos 0)
      there true = refl
      there false = ring (coefficient_in x ts ∷ []) (v 0) (v 0 ⊞ k (pos 0)) tt

      past : (p : Bool) → (p ≡ true → eqb x u ≡ false) → coefficient_in x (add_to u c ts) ≡ coefficient_in x ts +ℤ cond (eqb x u) c (pos 0)
          → cond p t.coefficient (coefficient_in x (add_to u c ts)) ≡ cond p t.coefficient (coefficient_in x ts) +ℤ cond (eqb x u) c (pos 0)
      past true f r = rw (f refl) (ring (t.coefficient ∷ []) (v 0) (v 0 ⊞ k (pos 0)) tt)
      past false f r = r

      by : (p q : Bool) → ltb u t.variable ≡ p → eqb u t.variable ≡ q → coefficient_in x (add_to u c ts) ≡ coefficient_in x ts +ℤ cond (eqb x u) c (pos 0)
          → coefficient_in x (cond p (new_term u c ∷ t ∷ ts) (cond q (new_term u (t.coefficient +ℤ c) ∷ ts) (t ∷ add_to u c ts))) ≡ cond (eqb x t.variable) t.coefficient (coefficient_in x ts) +ℤ cond (eqb x u) c (pos 0)
      by true q e g r = here (eqb x t.variable) (eqb x u) refl (λ f. none_here (eqb-true x u f))
        where
          none_here : x ≡ u → cond (eqb x t.variable) t.coefficient (coefficient_in x ts) ≡ pos 0
          none_here f =
              let h = ltb-true u t.variable e in
              rw (ne_eqb x t.variable (λ g. omega arith)) (above-none x t.variable ts (omega arith) a.0)
      by false true e g r = rw (eqb-true u t.variable g) (there (eqb x t.variable))
      by false false e g r = past (eqb x t.variable) (λ f. apart (eqb-true x t.variable f)) r
        where
          apart : x ≡ t.variable → eqb x u ≡ false
          apart f = ne_eqb x u (λ h. eqb-false u t.variable g (sym h ∙ f))

-- ---- zero ones dropped

kept_above : (x : ℕ) (ts : List Term) → Above x ts → Above x (kept ts)
unfolding kept
kept_above x [] a = tt
kept_above x (t ∷ ts) a = by (eq_zb t.coefficient (pos 0)) (kept_above x ts a.1)
  where
    by : (p : Bool) → Above x (kept ts) → Above x (cond p (kept ts) (t ∷ kept ts))
    by true r = r
    by false r = (a.0, r)

pub kept-ascending : (ts : List Term) → Ascending ts → Ascending (kept ts)
unfolding kept
kept-ascending [] a = tt
kept-ascending (t ∷ ts) a = by (eq_zb t.coefficient (pos 0)) (kept-ascending ts a.1)
  where
    by : (p : Bool) → Ascending (kept ts) → Ascending (cond p (kept ts) (t ∷ kept ts))
    by true r = r
    by false r = (kept_above t.variable ts a.0, r)

pub kept-none-zero : (ts : List Term) → NoneZero (kept ts)
unfolding kept
kept-none-zero [] = tt
kept-none-zero (t ∷ ts) = by (eq_zb t.coefficient (pos 0)) (λ e. ≡→eq_zb e) (kept-none-zero ts)
  where
    by : (p : Bool) → (t.coefficient ≡ pos 0 → T p) → NoneZero (kept ts) → NoneZero (cond p (kept ts) (t ∷ kept ts))
    by true f r = r
    by false f r = (f, r)

pub kept-coefficient : (x : ℕ) (ts : List Term) → Ascending ts → coefficient_in x (kept ts) ≡ coefficient_in x ts
unfolding kept coefficient_in
kept-coefficient x [] a = refl
kept-coefficient x (t ∷ ts) a = by (eq_zb t.coefficient (pos 0)) (λ h. eq_zb→ t.coefficient (pos 0) h) (kept-coefficient x ts a.1)
  where
    dropped : (p : Bool) → eqb x t.variable ≡ p → t.coefficient ≡ pos 0 → coefficient_in x ts ≡ cond p t.coefficient (coefficient_in x ts)
    dropped true e z = above-none x t.variable ts (omega (arith, eqb-true x t.variable e)) a.0 ∙ sym z
    dropped false e z = refl

    by : (p : Bool) → (T p → t.coefficient ≡ pos 0) → coefficient_in x (kept ts) ≡ coefficient_in x ts → coefficient_in x (cond p (kept ts) (t ∷ kept ts)) ≡ cond (eqb x t.variable) t.coefficient (coefficient_in x ts)
    by true f r = r ∙ dropped (eqb x t.variable) refl (f tt)
    by false f r = ap (λ z. cond (eqb x t.variable) t.coefficient z) r

-- ---- one list of terms for given coefficients

abbrev Alike : List Term → List Term → Type 0
Alike xs ys = (x : ℕ) → coefficient_in x xs ≡ coefficient_in x ys

none_first : (t : Term) (ts ys : List Term) → NoneZero (t ∷ ts) → Above t.variable ys → Alike (t ∷ ts) ys → ⊥
unfolding coefficient_in
none_first t ts ys n a e = n.0 (rw (eq-eqb t.variable t.variable refl) at (e t.variable) ∙ above-none t.variable t.variable ys (omega arith) a)

tails : (t s : Term) (xs ys : List Term) → t.variable ≡ s.variable → Above t.variable xs → Above s.variable ys → Alike (t ∷ xs) (s ∷ ys) → Alike xs ys
unfolding coefficient_in
tails t s xs ys q a b e x = by (eqb x t.variable) refl
  where
    by : (p : Bool) → eqb x t.variable ≡ p → coefficient_in x xs ≡ coefficient_in x ys
    by true h =
        let g = eqb-true x t.variable h in
        above-none x t.variable xs (omega arith) a ∙ sym (above-none x s.variable ys (omega arith) b)
    by false h = rw (h, ← q, h) at (e x)

pub terms-same : (xs ys : List Term) → Ascending xs → Ascending ys → NoneZero xs → NoneZero ys → Alike xs ys → xs ≡ ys
unfolding coefficient_in
terms-same [] [] a b n m e = refl
terms-same [] (y ∷ ys) a b n m e = absurd (none_first y ys [] m tt (λ x. sym (e x)))
terms-same (t ∷ xs) [] a b n m e = absurd (none_first t xs [] n tt e)
terms-same (t ∷ xs) (s ∷ ys) a b n m e = by (ltb t.variable s.variable) (ltb s.variable t.variable) refl refl (λ q. terms-same xs ys a.1 b.1 n.1 m.1 (tails t s xs ys q a.0 b.0 e))
  where
    heads : t.variable ≡ s.variable → t.coefficient ≡ s.coefficient
    heads q = rw (eq-eqb t.variable t.variable refl, eq-eqb t.variable s.variable q) at (e t.variable)

    by : (p q : Bool) → ltb t.variable s.variable ≡ p → ltb s.variable t.variable ≡ q → (t.variable ≡ s.variable → xs ≡ ys) → t ∷ xs ≡ s ∷ ys
    by true q f g more =
        let h = ltb-true t.variable s.variable f in
        absurd (none_first t xs (s ∷ ys) n (h, above_down s.variable t.variable ys (omega arith) b.0) e)
    by false true f g more =
        let h = ltb-true s.variable t.variable g in
        absurd (none_first s ys (t ∷ xs) m (h, above_down t.variable s.variable xs (omega arith) a.0) (λ x. sym (e x)))
    by false false f g more =
        let q : t.variable ≡ s.variable = omega (arith, ltb-false t.variable s.variable f, ltb-false s.variable t.variable g) in
        let c = heads q in
        λ i. record { variable = q i; coefficient = c i } ∷ more q i
