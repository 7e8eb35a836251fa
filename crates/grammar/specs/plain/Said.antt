-- What the writer's tests say of terms, as the grammar says it.
use Rattle.std.specs.Prelude.{ℕ, ◌≤◌, ◌≡◌, refl, Bool, true, false, cond, not, ◌&&◌, List, [], ◌∷◌, T, leb, eqb, ℤ, pos, nat_abs, ◌+ℤ◌}
use Rattle.std.proofs.Common.{ap, ◌∙◌, arith, eqb-true, ne_eqb, leb→le, ltb→lt, lt→ltb}
use Rattle.laws.specs.Z.{eq_zb, ≡→eq_zb}
use Rattle.laws.specs.Ring.{ring, v, k, ◌⊞◌}
use Rattle.grammar.specs.Sums.{Term, most, most_name, small_terms}
use Rattle.grammar.specs.Says.{coefficient_in, Above, Ascending, NoneZero}
use Rattle.grammar.specs.Pieces.{both}
use Rattle.grammar.specs.edition.Free.{and_both}
use Rattle.grammar.specs.plain.Plain.{below_first, ascends, term_said, terms_said}
use Rattle.grammar.specs.plain.Forms.{AllSaid, total_of}

-- ---- ascending

above_down : (x y : ℕ) (ts : List Term) → x ≤ y → Above y ts → Above x ts
above_down x y [] h a = tt
above_down x y (t ∷ ts) h a = (omega arith, above_down x y ts h a.1)

above-first : (x : ℕ) (ts : List Term) → T (below_first x ts) → Ascending ts → Above x ts
above-first x [] h a = tt
above-first x (t ∷ ts) h a = let l = ltb→lt x t.variable h in (l, above_down x t.variable ts (omega arith) a.0)

pub ascending : (ts : List Term) → T (ascends ts) → Ascending ts
unfolding ascends
ascending [] h = tt
ascending (t ∷ ts) h =
    let g = both (below_first t.variable ts) (ascends ts) h in
    let a = ascending ts g.1 in
    (above-first t.variable ts g.0 a, a)

-- and back
pub ascended : (ts : List Term) → Ascending ts → T (ascends ts)
unfolding ascends
ascended [] a = tt
ascended (t ∷ ts) a = and_both (below_first t.variable ts) (ascends ts) (by ts a.0) (ascended ts a.1)
  where
    by : (ts : List Term) → Above t.variable ts → T (below_first t.variable ts)
    by [] h = tt
    by (u ∷ us) h = lt→ltb t.variable u.variable h.0

-- ---- the coefficients, summed

none_above : (x y : ℕ) (ts : List Term) → x ≤ y → Above y ts → total_of x ts ≡ pos 0
unfolding total_of
none_above x y [] h a = refl
none_above x y (t ∷ ts) h a = rw (ne_eqb x t.variable (λ e. omega arith), none_above x y ts h a.1)

pub totals : (x : ℕ) (ts : List Term) → Ascending ts → total_of x ts ≡ coefficient_in x ts
unfolding total_of coefficient_in
totals x [] a = refl
totals x (t ∷ ts) a = by (eqb x t.variable) (eqb-true x t.variable) (totals x ts a.1)
  where
    by : (b : Bool) → (b ≡ true → x ≡ t.variable) → total_of x ts ≡ coefficient_in x ts → cond b t.coefficient (pos 0) +ℤ total_of x ts ≡ cond b t.coefficient (coefficient_in x ts)
    by true e r =
        let q = e refl in
        ap (λ (z : ℤ). t.coefficient +ℤ z) (none_above x t.variable ts (omega arith) a.0) ∙ ring (t.coefficient ∷ []) (v 0 ⊞ k (pos 0)) (v 0) tt
    by false e r = ring (total_of x ts ∷ []) (k (pos 0) ⊞ v 0) (v 0) tt ∙ r

-- ---- each term

module _ (t : Term) where
  pub term-said : T (term_said t) → T (not (eq_zb t.coefficient (pos 0))) × T (leb (nat_abs t.coefficient) most) × T (leb t.variable most_name)
  term-said h =
      let within = leb (nat_abs t.coefficient) most in
      let named = leb t.variable most_name in
      let g = both (not (eq_zb t.coefficient (pos 0))) (within && named) h in
      let f = both within named g.1 in
      (g.0, f.0, f.1)

not-both : (b : Bool) → T (not b) → T b → ⊥
not-both true h g = h
not-both false h g = g

pub all_said : (ts : List Term) → T (terms_said ts) → AllSaid ts
unfolding terms_said
all_said [] h = tt
all_said (t ∷ ts) h =
    let g = both (term_said t) (terms_said ts) h in
    let f = term-said t g.0 in
    ((leb→le (nat_abs t.coefficient) most f.1, leb→le t.variable most_name f.2), all_said ts g.1)

pub none-zero : (ts : List Term) → T (terms_said ts) → NoneZero ts
unfolding terms_said
none-zero [] h = tt
none-zero (t ∷ ts) h =
    let g = both (term_said t) (terms_said ts) h in
    let f = term-said t g.0 in
    ((λ e. not-both (eq_zb t.coefficient (pos 0)) f.0 (≡→eq_zb e)), none-zero ts g.1)

pub small-terms : (ts : List Term) → T (terms_said ts) → T (small_terms ts)
unfolding terms_said small_terms
small-terms [] h = tt
small-terms (t ∷ ts) h =
    let g = both (term_said t) (terms_said ts) h in
    let f = term-said t g.0 in
    and_both (leb (nat_abs t.coefficient) most) (small_terms ts) f.1 (small-terms ts g.1)
