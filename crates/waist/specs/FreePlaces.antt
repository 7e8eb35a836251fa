-- A symbol that is chosen is not basic: the cells of basic symbols are absent where the tables stand. And a line of tables that stand reads.
-- Assumes nothing.
use Rattle.std.specs.Prelude.{ℕ, zero, suc, ◌+◌, ◌≤◌, ◌<◌, ◌≡◌, refl, Bool, true, false, eqb}
use Rattle.std.proofs.Common.{sym, ◌∙◌, arith, eqb-true}
use Rattle.std.proofs.Math.Path.{ap}
use Rattle.std.proofs.lemmas.Bool.{eqb-false}
use Rattle.laws.specs.Lists.{tab}
use Rattle.steps.specs.Number.{Mark}
use Rattle.steps.specs.Symbol.{Symbol, is_pivotable, holds}
use Rattle.steps.specs.State.{Basic}
use Rattle.steps.specs.Optimise.{get_entering_symbol, get_dual_entering_symbol}
use Rattle.steps.specs.Artificial.{any_pivotable_symbol}
use Rattle.keeps.specs.Lists.{All, same, same?, Same?, is, isnt, times}
use Rattle.keeps.specs.Along.{first-chosen}
use Rattle.keeps.specs.Cells.{Fine, holds-held}
use Rattle.keeps.specs.RowOps.{RowOk}
use Rattle.keeps.specs.Fits.{bids, IsBasic}
use Rattle.keeps.specs.Passes.{entering-free, dual-entering, held-free}
use Rattle.rows.specs.choose.Choose.{Found}
use Rattle.std.specs.Prelude.{Some}
use Rattle.sparse.specs.Sparse.{Sparse, symbol_count, row_count, symbol_at, basic_of, symbols_of, basics_of, read}
use Rattle.waist.specs.Working.{work_of, basic-symbol}
use Rattle.waist.specs.Standing.{Standing, Chooses}
use Rattle.waist.specs.Dropping.{Free}
use Rattle.waist.specs.Choosing.{goal_of}
use Rattle.waist.specs.Choices.{named}

some-times : (g : ℕ → Basic) (s k m q : ℕ) → m ≤ q → q < m + k → s ≡ (g q).symbol.id → 1 ≤ times s (bids (tab g m k))
unfolding times tab
some-times g s zero m q a b e = absurd (omega (arith, a, b))
some-times g s (suc k) m q a b e = go (eqb m q) refl (same? s (g m).symbol.id) λ d. some-times g s k (suc m) q d (omega (arith, b)) e
  where
    go : (x : Bool) → eqb m q ≡ x → Same? s (g m).symbol.id → (suc m ≤ q → 1 ≤ times s (bids (tab g (suc m) k))) → 1 ≤ same s (g m).symbol.id + times s (bids (tab g (suc m) k))
    go true f (is u v w) r = omega (arith, w)
    go true f (isnt u v w) r = absurd (v (e ∙ ap (λ (j : ℕ). (g j).symbol.id) (sym (eqb-true m q f))))
    go false f z r = let d = eqb-false m q f in let h = r (omega (arith, a, d)) in omega (arith, h)

pub free-times : (t : Sparse) (p : ℕ) → times (symbol_at t p).id (bids (basics_of t)) ≡ 0 → Free p t
unfolding basics_of
free-times t p z q a b e =
    let h = some-times (basic_of t) (symbol_at t p).id (row_count t) 1 q a (omega (arith, b)) (ap (λ (j : ℕ). (symbol_at t j).id) (sym e) ∙ sym (ap (λ (x : Symbol). x.id) (basic-symbol t q))) in
    omega (arith, h, z)

all-tab : (P : Basic → Type 0) (g : ℕ → Basic) (k m q : ℕ) → All P (tab g m k) → m ≤ q → q < m + k → P (g q)
unfolding tab
all-tab P g zero m q h a b = absurd (omega (arith, a, b))
all-tab P g (suc k) m q h a b = go (eqb m q) refl λ d. all-tab P g k (suc m) q h.1 d (omega (arith, b))
  where
    go : (x : Bool) → eqb m q ≡ x → (suc m ≤ q → P (g q)) → P (g q)
    go true f r = let o = eqb-true m q f in rw (← o) h.0
    go false f r = let d = eqb-false m q f in r (omega (arith, a, d))

module _ (art : Bool) (a : Mark) (t : Sparse) (s : Standing art a t) where
  pub row_ok : (i : ℕ) → 1 ≤ i → i ≤ row_count t → RowOk (IsBasic (basics_of t)) (Fine a) (symbols_of t) (basic_of t i).row
  unfolding work_of read basics_of
  row_ok i l h = all-tab (λ (b : Basic). RowOk (IsBasic (basics_of t)) (Fine a) (symbols_of t) b.row) (basic_of t) (row_count t) 1 i s.fits.rows l (omega (arith, h))

  module _ {r : Found} {p : ℕ} (e : r ≡ Some p) where
    pub goal-free : Chooses art (get_entering_symbol (goal_of art)) (symbol_at t) (symbol_count t) t r → Free p t
    unfolding work_of read
    goal-free h = free-times t p (entering-free (goal_of art) (work_of art a 0 t) s.fits (symbol_at t p) (h.is a 0 ∙ ap (named t) e)).free

    pub dual-free : (i : ℕ) → 1 ≤ i → i ≤ row_count t → Chooses art (get_dual_entering_symbol (basic_of t i).row) (symbol_at t) (symbol_count t) t r → Free p t
    unfolding work_of read
    dual-free i l k h = free-times t p (dual-entering (basic_of t i).row (work_of art a 0 t) s.fits (row_ok i l k) (symbol_at t p) (h.is a 0 ∙ ap (named t) e)).free

    pub pivotable-free : (i : ℕ) → 1 ≤ i → i ≤ row_count t → Chooses art (any_pivotable_symbol (basic_of t i).row) (symbol_at t) (symbol_count t) t r → Free p t
    unfolding work_of read any_pivotable_symbol
    pivotable-free i l k h =
        free-times t p
        (held-free (work_of art a 0 t) (Fine a) holds holds-held (symbol_at t p) (first-chosen _ is_pivotable holds (symbols_of t) (basic_of t i).row.cells (symbol_at t p) (row_ok i l k).1 (h.is a 0 ∙ ap (named t) e))).free
