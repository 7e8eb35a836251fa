-- The test on one row's cells, and the cells along the symbols: each says the other. Assumes nothing.
use Rattle.std.specs.Prelude.{◌≡◌, refl, Bool, ℕ, suc, ◌+◌, ◌≤◌, ◌<◌, eqb, length, Float}
use Rattle.std.proofs.Common.{sym, subst, arith, eqb→eq}
use mathlib.Core.List.{List, [], ◌∷◌}
use Rattle.std.proofs.Math.Bool.{true, false}
use Rattle.std.proofs.Math.Dec.{eqb_refl}
use Rattle.steps.specs.Number.{zero64, is_finite}
use Rattle.steps.specs.Symbol.{Symbol, is_symbol, absent, coefficient_for}
use Rattle.steps.specs.State.{State}
use Rattle.steps.specs.Readable.{all, holds_no_basic, basic_ids}
use Rattle.keeps.specs.Lists.{All, all_in_lem, all-out, Same?, is, isnt, same, same?, times, Up, so, truly, both, left, right}
use Rattle.keeps.specs.Along.{Along, ids, along-length, at-coefficient}
use Rattle.keeps.specs.Cells.{Ok, zero-absent, zero-finite}

pub all-times : (P : ℕ → Type 0) (ns : List ℕ) → All P ns → (n : ℕ) → 1 ≤ times n ns → P n
unfolding times
all-times P [] h n l = absurd (omega arith)
all-times P (x ∷ ns) h n l = go (same? n x) (all-times P ns h.1 n)
  where
    go : Same? n x → (1 ≤ times n ns → P n) → P n
    go (is a b c) ih = subst P (sym b) h.0
    go (isnt a b c) ih = ih (omega arith)

pub times-all : (P : ℕ → Type 0) (ns : List ℕ) → ((n : ℕ) → 1 ≤ times n ns → P n) → All P ns
unfolding times
times-all P [] h = tt
times-all P (x ∷ ns) h = (h x (here (same? x x)), times-all P ns (λ n l. h n (omega arith)))
  where
    here : Same? x x → 1 ≤ same x x + times x ns
    here (is a b c) = omega arith
    here (isnt a b c) = absurd (b refl)

pub eqb-in : (m n : ℕ) → eqb m n ≡ true → m ≡ n
eqb-in m n e = eqb→eq m n (so e)

pub eqb-out : (m n : ℕ) → m ≡ n → eqb m n ≡ true
eqb-out m n e = rw e (truly (eqb n n) (eqb_refl n))

-- an id below all has no place
coefficient-none : (n i : ℕ) (xs : List Symbol) (cs : List Float) → n < i → Up i (ids xs) → coefficient_for n xs cs ≡ zero64
unfolding coefficient_for is_symbol
coefficient-none n i [] cs l u = refl
coefficient-none n i (x ∷ xs) [] l u = refl
coefficient-none n i (x ∷ xs) (c ∷ cs) l u = go (same? n x.id) (coefficient-none n (suc x.id) xs cs (omega (arith, u.0)) u.1)
  where
    go : Same? n x.id → coefficient_for n xs cs ≡ zero64 → elim (eqb n x.id) [ true ↦ c | false ↦ coefficient_for n xs cs ] ≡ zero64
    go (is a b d) ih = absurd (omega (arith, u.0))
    go (isnt a b d) ih = rw a ih

module _ (B : ℕ → Type 0) (G : Type 0) where
  pub along-in : (i : ℕ) (xs : List Symbol) (cs : List Float) → Up i (ids xs) → length cs ≡ length xs → All (λ (c : Float). is_finite c ≡ true) cs
      → ((n : ℕ) → B n → absent (coefficient_for n xs cs) ≡ true) → Along (Ok B G) xs cs
  unfolding coefficient_for is_symbol
  along-in i [] [] u l f h = tt
  along-in i [] (c ∷ cs) u l f h = absurd (omega arith)
  along-in i (x ∷ xs) [] u l f h = absurd (omega arith)
  along-in i (x ∷ xs) (c ∷ cs) u l f h = (
    ((λ b. here (same? x.id x.id) (h x.id b)), λ g. f.0),
    along-in (suc x.id) xs cs u.1 (omega arith) f.1
        (λ n b. later n (same? n x.id) (h n b)),
  )
    where
      here : Same? x.id x.id → absent (elim (eqb x.id x.id) [ true ↦ c | false ↦ coefficient_for x.id xs cs ]) ≡ true → absent c ≡ true
      here (is a b d) e = rw a at e
      here (isnt a b d) e = absurd (b refl)

      later : (n : ℕ) → Same? n x.id → absent (elim (eqb n x.id) [ true ↦ c | false ↦ coefficient_for n xs cs ]) ≡ true → absent (coefficient_for n xs cs) ≡ true
      later n (is a b d) e = rw (coefficient-none n (suc x.id) xs cs (omega arith) u.1) zero-absent
      later n (isnt a b d) e = rw a at e

  pub along-absent : (xs : List Symbol) (cs : List Float) → Along (Ok B G) xs cs → (n : ℕ) → B n → absent (coefficient_for n xs cs) ≡ true
  along-absent xs cs h n b = (at-coefficient (Ok B G) n ((λ b. zero-absent), λ g. zero-finite) xs cs h).0 b

  pub along-finite : G → (xs : List Symbol) (cs : List Float) → Along (Ok B G) xs cs → All (λ (c : Float). is_finite c ≡ true) cs
  along-finite g [] [] h = tt
  along-finite g [] (c ∷ cs) h = absurd h
  along-finite g (x ∷ xs) [] h = absurd h
  along-finite g (x ∷ xs) (c ∷ cs) h = (h.0.1 g, along-finite g xs cs h.1)

-- ---- the test on cells
pub cells_in : (s : State) (G : Type 0) (cs : List Float) → Up 1 (ids s.tableau.symbols) → holds_no_basic s cs ≡ true → all is_finite cs ≡ true
    → Along (Ok (λ n. 1 ≤ times n (basic_ids s)) G) s.tableau.symbols cs
unfolding holds_no_basic
cells_in s G cs u e f =
    along-in (λ n. 1 ≤ times n (basic_ids s)) G 1 s.tableau.symbols cs u (eqb-in (length cs) (length s.tableau.symbols) (left size none e)) (all_in_lem is_finite cs f)
    (all-times (λ n. absent (coefficient_for n s.tableau.symbols cs) ≡ true) (basic_ids s) (all_in_lem _ (basic_ids s) (right size none e)))
  where
    size : Bool
    size = eqb (length cs) (length s.tableau.symbols)

    none : Bool
    none = all (λ (n : ℕ). absent (coefficient_for n s.tableau.symbols cs)) (basic_ids s)

pub cells_out : (s : State) (G : Type 0) (cs : List Float) → Along (Ok (λ n. 1 ≤ times n (basic_ids s)) G) s.tableau.symbols cs → holds_no_basic s cs ≡ true
unfolding holds_no_basic
cells_out s G cs h =
    both (eqb-out (length cs) (length s.tableau.symbols) (along-length _ s.tableau.symbols cs h))
    (all-out _ (basic_ids s) (times-all _ (basic_ids s) (along-absent (λ n. 1 ≤ times n (basic_ids s)) G s.tableau.symbols cs h)))
