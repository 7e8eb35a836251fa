-- A live place names a live symbol; one that no row is for is not basic.
-- Assumes nothing.
use Rattle.std.specs.Prelude.{ℕ, zero, suc, ◌+◌, ◌≤◌, ◌<◌, ◌≡◌, refl, Bool, true, false, ◌∷◌, get_or}
use Rattle.std.proofs.Math.Path.{sym, ap}
use Rattle.std.proofs.Common.{◌∙◌, inl, inr, arith}
use Rattle.std.proofs.Math.Dec.{eqb}
use borrow.Author.Tests.{eqb-true, eqb-false, eq-eqb}
use Rattle.laws.specs.Lists.{tab}
use Rattle.steps.specs.Symbol.{Symbol}
use Rattle.steps.specs.State.{Basic}
use Rattle.keeps.specs.Lists.{same, same?, Same?, is, isnt, times}
use Rattle.keeps.specs.Along.{Mem}
use Rattle.keeps.specs.Fits.{bids}
use Rattle.sparse.specs.Places.{row_places_at}
use Rattle.sparse.specs.Sparse.{Sparse, symbol_count, row_count, symbol_at, basic_of, symbols_of, basics_of}
use Rattle.waist.specs.substituting.Named.{same_place}
use Rattle.waist.specs.Working.{Sound, id-at, basic-symbol}
use Rattle.waist.specs.Dropping.{Free}

mem-tab : (g : ℕ → Symbol) (k m q : ℕ) → m ≤ q → q < m + k → Mem (g q) (tab g m k)
unfolding tab
mem-tab g zero m q a b = absurd (omega (arith, a, b))
mem-tab g (suc k) m q a b = go (eqb m q) refl (λ d. mem-tab g k (suc m) q d (omega (arith, b)))
  where
    go : (x : Bool) → eqb m q ≡ x → (suc m ≤ q → Mem (g q) (tab g (suc m) k)) → Mem (g q) (g m ∷ tab g (suc m) k)
    go true e r = inl (ap g (sym (eqb-true m q e)))
    go false e r = let d = eqb-false m q e in inr (r (omega (arith, a, d)))

none-times : (g : ℕ → Basic) (s k m : ℕ) → ((j : ℕ) → m ≤ j → j < m + k → s ≡ (g j).symbol.id → ⊥) → times s (bids (tab g m k)) ≡ 0
unfolding times tab
none-times g s zero m f = refl
none-times g s (suc k) m f = go (same? s (g m).symbol.id) (none-times g s k (suc m) (λ j a b. f j (omega (arith, a)) (omega (arith, b))))
  where
    go : Same? s (g m).symbol.id → times s (bids (tab g (suc m) k)) ≡ 0 → same s (g m).symbol.id + times s (bids (tab g (suc m) k)) ≡ 0
    go (is b e z) r = absurd (f m (omega arith) (omega arith) e)
    go (isnt b d z) r = omega (arith, z, r)

module _ (art : Bool) (t : Sparse) (so : Sound art t) (p : ℕ) (low : 1 ≤ p) (high : p ≤ symbol_count t) where
  pub live-symbol : Mem (symbol_at t p) (symbols_of t)
  unfolding symbols_of
  live-symbol = mem-tab (symbol_at t) (symbol_count t) 1 p low (omega (arith, high))

  pub not-basic : Free p t → times (symbol_at t p).id (bids (basics_of t)) ≡ 0
  unfolding basics_of
  not-basic f = none-times (basic_of t) (symbol_at t p).id (row_count t) 1 λ j a b e.
      let l = so.rows j a (omega (arith, b)) in
      let z = sym (id-at t p) ∙ e ∙ ap (λ (x : Symbol). x.id) (basic-symbol t j) ∙ id-at t (get_or t.bytes (row_places_at + j) 0) in
      f j a (omega (arith, b)) (sym (same_by (same_place t.words t.bytes so.named p (get_or t.bytes (row_places_at + j) 0) low high l.0 l.1) z))
    where
      same_by : {x y u v : ℕ} → eqb x y ≡ eqb u v → u ≡ v → x ≡ y
      same_by {x} {y} {u} {v} e f = eqb-true x y (e ∙ eq-eqb u v f)
