-- The cell beside a key, by its lower bound; a slide either way.
-- Assumes nothing.
use Rattle.std.specs.Prelude.{ℕ, ◌+◌, ◌-◌, ◌≤◌, ◌<◌, ◌≡◌, refl, Bool, true, false, List, ltb, Float, get_or}
use Rattle.std.proofs.Common.{sym, subst, arith, ltb-true, ltb-false}
use Rattle.std.specs.Float.{nan}
use Rattle.steps.specs.Number.{zero64}
use Rattle.layout.specs.cells.Cells.{Ascending, lower_in, cell_at, moved}
use Rattle.layout.specs.cells.Search.{Bound, lower-bound}
use Rattle.layout.specs.cells.Reads.{ascending-lt, cell-at, cell-absent}

bound_of : (keys : List ℕ) (n key a : ℕ) → a ≡ lower_in keys key 0 n → Bound keys key 0 n a
bound_of keys n key a q = subst (λ (z : ℕ). Bound keys key 0 n z) (sym q) (lower-bound keys key 0 n (omega arith))

pub cell-found : (keys : List ℕ) (vals : List Float) (n key a : ℕ) → a ≡ lower_in keys key 0 n → a < n → get_or keys a 0 ≡ key → get_or vals a nan ≡ cell_at keys vals n key
unfolding cell_at
cell-found keys vals n key a q h e =
    let b = bound_of keys n key a q in
    sym (cell-at keys vals key 0 n a (omega arith) h (sym e) λ i u v w. let x = b.2 i u v in omega (arith, x, w))

pub cell-none : (keys : List ℕ) (vals : List Float) (n key a : ℕ) → Ascending keys n → a ≡ lower_in keys key 0 n → (a < n → get_or keys a 0 ≡ key → ⊥) → zero64 ≡ cell_at keys vals n key
unfolding cell_at
cell-none keys vals n key a up q f = sym (cell-absent keys vals key 0 n (omega arith) λ j u v w. go j u v w (ltb j a) refl (ltb a j) refl)
  where
    b : Bound keys key 0 n a
    b = bound_of keys n key a q

    go : (j : ℕ) → 0 ≤ j → j < n → key ≡ get_or keys j 0 → (s : Bool) → ltb j a ≡ s → (t : Bool) → ltb a j ≡ t → ⊥
    go j u v w true x t y = let z = b.2 j u (ltb-true j a x) in omega (arith, z, w)
    go j u v w false x true y =
        let m = ltb-true a j y in
        let z = ascending-lt keys n a j up m v in
        let g = b.3 (omega (arith, m, v)) in
        omega (arith, z, g, w)
    go j u v w false x false y =
        let o : j ≡ a = omega (arith, ltb-false j a x, ltb-false a j y) in
        f (omega (arith, o, v)) (subst (λ (z : ℕ). get_or keys z 0 ≡ key) o (sym w))

module _ {A : Type 0} where
  pub slid-up : (a b m : ℕ) (l : List A) {r : List A} → a ≤ b → r ≡ moved a (a + (b - a)) m l → r ≡ moved a b m l
  slid-up a b m l h q =
      let e : a + (b - a) ≡ b = omega arith in
      rw e at q

  pub slid-down : (a b m : ℕ) (l : List A) {r : List A} → b < a → r ≡ moved a (a - (a - b)) m l → r ≡ moved a b m l
  slid-down a b m l h q =
      let e : a - (a - b) ≡ b = omega arith in
      rw e at q
