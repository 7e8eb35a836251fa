-- Use counts as one function of the variable's number, 0 for one that isn't live. Assumes nothing.
use Rattle.std.specs.Prelude.{◌≡◌, refl, List, [], ◌∷◌, ◌++◌, map, Bool, true, false, cond, ℕ, suc, ◌+◌, ◌≤◌, eqb}
use Rattle.std.proofs.Common.{sym, ap, ◌∙◌, arith}
use Rattle.steps.specs.State.{Term, Variable}
use Rattle.steps.specs.Readable.{uses_in, concat}
use Rattle.keeps.specs.Lists.{All, Same?, is, isnt, same, same?, total, times, Up, up_none}

abbrev pub var_number : Variable → ℕ
var_number v = v.number

unfoldable pub uses_of : ℕ → List Variable → ℕ
uses_of n [] = 0
uses_of n (v ∷ vs) = cond (eqb n v.number) v.uses 0 + uses_of n vs

pub uses-hit : (n : ℕ) (v : Variable) (vs : List Variable) → eqb n v.number ≡ true → uses_of n (v ∷ vs) ≡ v.uses + uses_of n vs
unfolding uses_of
uses-hit n v vs e = ap (λ (t : Bool). cond t v.uses 0 + uses_of n vs) e

pub uses-miss : (n : ℕ) (v : Variable) (vs : List Variable) → eqb n v.number ≡ false → uses_of n (v ∷ vs) ≡ uses_of n vs
unfolding uses_of
uses-miss n v vs e = ap (λ (t : Bool). cond t v.uses 0 + uses_of n vs) e ∙ omega arith

pub uses-none : (n : ℕ) (vs : List Variable) → times n (map var_number vs) ≡ 0 → uses_of n vs ≡ 0
unfolding uses_of times
uses-none n [] z = refl
uses-none n (v ∷ vs) z = go (same? n v.number) (uses-none n vs)
  where
    go : Same? n v.number → (times n (map var_number vs) ≡ 0 → uses_of n vs ≡ 0) → uses_of n (v ∷ vs) ≡ 0
    go (is a b c) ih = absurd (omega arith)
    go (isnt a b c) ih = uses-miss n v vs a ∙ ih (omega arith)

-- with ascending numbers, each variable's count is that of its number
pub uses-in : (U : ℕ → ℕ) (i : ℕ) (vs : List Variable) → Up i (map var_number vs) → All (λ (v : Variable). v.uses ≡ U v.number) vs → (n : ℕ)
    → 1 ≤ times n (map var_number vs) → uses_of n vs ≡ U n
unfolding times
uses-in U i [] u h n l = absurd (omega arith)
uses-in U i (v ∷ vs) u h n l = go (same? n v.number) (uses-in U (suc v.number) vs u.1 h.1 n)
  where
    go : Same? n v.number → (1 ≤ times n (map var_number vs) → uses_of n vs ≡ U n) → uses_of n (v ∷ vs) ≡ U n
    go (is a b c) ih = let z : uses_of n vs ≡ 0 = uses-none n vs (up_none (suc v.number) n (map var_number vs) (omega arith) u.1) in
        uses-hit n v vs a ∙ omega (arith, h.0, ap U b)
    go (isnt a b c) ih = uses-miss n v vs a ∙ ih (omega arith)

pub uses-out : (U : ℕ → ℕ) (i : ℕ) (vs : List Variable) → Up i (map var_number vs) → ((n : ℕ) → i ≤ n → uses_of n vs ≡ U n)
    → All (λ (v : Variable). v.uses ≡ U v.number) vs
uses-out U i [] u h = tt
uses-out U i (v ∷ vs) u h = (here (same? v.number v.number), uses-out U (suc v.number) vs u.1 (λ n l. later n l (same? n v.number)))
  where
    here : Same? v.number v.number → v.uses ≡ U v.number
    here (is a b c) =
        omega (
          arith,
          uses-hit v.number v vs a,
          h v.number u.0,
          uses-none v.number vs
              (up_none (suc v.number) v.number (map var_number vs) (omega arith) u.1),
        )
    here (isnt a b c) = absurd (b refl)

    later : (n : ℕ) → suc v.number ≤ n → Same? n v.number → uses_of n vs ≡ U n
    later n l (is a b c) = absurd (omega arith)
    later n l (isnt a b c) = sym (uses-miss n v vs a) ∙ h n (omega (arith, u.0))

pub uses-live : (n : ℕ) (vs : List Variable) → 1 ≤ uses_of n vs → 1 ≤ times n (map var_number vs)
unfolding uses_of times
uses-live n [] l = absurd (omega arith)
uses-live n (v ∷ vs) l = go (same? n v.number) (uses-live n vs)
  where
    go : Same? n v.number → (1 ≤ uses_of n vs → 1 ≤ times n (map var_number vs)) → 1 ≤ same n v.number + times n (map var_number vs)
    go (is a b c) ih = omega arith
    go (isnt a b c) ih = omega (arith, ih (omega (arith, uses-miss n v vs a)))

-- ---- terms
pub uses-times : (n : ℕ) (ts : List Term) → uses_in n ts ≡ times n (map (λ (t : Term). t.variable) ts)
unfolding uses_in times same
uses-times n [] = refl
uses-times n (t ∷ ts) = ap (λ (k : ℕ). cond (eqb n t.variable) 1 0 + k) (uses-times n ts)

pub uses-append : (n : ℕ) (ts us : List Term) → uses_in n (ts ++ us) ≡ uses_in n ts + uses_in n us
unfolding uses_in
uses-append n [] us = omega arith
uses-append n (t ∷ ts) us = omega (arith, uses-append n ts us)

pub uses-concat : {A : Type 0} (g : A → List Term) (n : ℕ) (xs : List A) → uses_in n (concat (map g xs)) ≡ total (λ (x : A). uses_in n (g x)) xs
unfolding uses_in total concat
uses-concat g n [] = refl
uses-concat g n (x ∷ xs) = uses-append n (g x) (concat (map g xs)) ∙ ap (λ (k : ℕ). uses_in n (g x) + k) (uses-concat g n xs)
