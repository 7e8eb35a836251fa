-- Looks along a dense row: the first symbol of a kind whose cell is below 0, or is there. What they find is what the steps find on what the tables read as.
-- Assumes nothing.
use Prim.Native.Nat.{ℕ, suc, ◌+◌, ◌≤◌}
use Rattle.std.specs.Prelude.{◌≡◌, refl, Bool, true, false, ◌&&◌, ◌||◌, cond, List, eqb, Float, length}
use Rattle.std.proofs.Common.{◌∙◌}
use Rattle.std.proofs.Math.Path.{ap, fun_ext}
use Rattle.std.proofs.Math.Option.{Option, none, some}
use native.Mathlib.Omega.{arith}
use Rattle.std.specs.Float.{nan}
use Rattle.std.proofs.Math.ListN.{get_or}
use Rattle.laws.specs.Loops.{first}
use Rattle.laws.specs.Lists.{tab}
use Rattle.steps.specs.Number.{below_zero}
use Rattle.steps.specs.Symbol.{External, Slack, Error, Dummy, Symbol, is_external, is_dummy, is_pivotable, holds, first_symbol}
use Rattle.layout.specs.Layout.{kind_of, cells_of}
use Rattle.layout.specs.Laying.{tab-from}
use Rattle.rows.specs.choose.Choose.{Found}
use Rattle.std.specs.Prelude.{Some, None}
use Rattle.rows.specs.declared.choose.Want.{Want}
use Rattle.rows.specs.declared.choose.Want.TheVariants as want
use Rattle.rows.specs.choose.Choose.{on_found, wants}
use Rattle.rows.specs.choose.Walk.{first_walk}
use Rattle.sparse.specs.Places.{symbol_count_at, kinds_at}
use Rattle.sparse.specs.Sparse.{Sparse, symbol_count, cell_count, symbol_at, basic_of, symbols_of}
use Rattle.layout.specs.cells.Names.{row_room, cell_room, last_place}
use Rattle.layout.specs.cells.Cells.{Ascending, Narrow, loaded}
use Rattle.layout.specs.cells.Load.{loaded-reads}
use Rattle.waist.specs.substituting.Held.{held-room}
use Rattle.waist.specs.Working.{Sound, lines-few, dense-cells}
use Rattle.waist.specs.Pivoting.{narrow-held}

-- a symbol of the kind with this number
abbrev pub of_kind : ℕ → Symbol
of_kind k = record { id = 0; kind = kind_of k }

-- "a cell below 0"; "A row holds a symbol if its cell isn't 0.0."
unfoldable pub seen : Bool → Float → Bool
seen true x = below_zero x
seen false x = holds x

unfoldable pub look_of : Want → Bool → List ℕ → List ℕ → List Float → Found
look_of want below words bytes row = first (λ p. wants want (of_kind (get_or bytes (kinds_at + p) 0)) && seen below (get_or row p nan)) Some None 1 (1 + get_or words symbol_count_at 0)

-- ---- kinds by number

pub pivotable-kind : (k : ℕ) → is_pivotable (of_kind k) ≡ eqb k 1 || eqb k 2
unfolding kind_of is_pivotable
pivotable-kind k = go (eqb k 2) (eqb k 1) (eqb k 3)
  where
    go : (a b c : Bool) → is_pivotable (record { id = 0; kind = cond a Error (cond b Slack (cond c Dummy External)) }) ≡ b || a
    go true true c = refl
    go true false c = refl
    go false true c = refl
    go false false true = refl
    go false false false = refl

wants-kind : (w : Want) (t : Sparse) (p : ℕ) → wants w (symbol_at t p) ≡ wants w (of_kind (get_or t.bytes (kinds_at + p) 0))
unfolding wants symbol_at is_external is_pivotable is_dummy
wants-kind want.External t p = refl
wants-kind want.Pivotable t p = refl
wants-kind want.NonDummy t p = refl
wants-kind want.Any t p = refl

-- ---- on what the tables read as

both : {R : Type 0} (a b : Bool) (x y : R) → elim a [ false ↦ y | true ↦ elim b [ false ↦ y | true ↦ x ] ] ≡ cond (a && b) x y
both true true x y = refl
both true false x y = refl
both false b x y = refl

module _ (t : Sparse) where
  first-symbol : (p : Symbol → Bool) (q : Float → Bool) (c : ℕ → Float) → first_symbol p q (symbols_of t) (tab c 1 (symbol_count t)) ≡ on_found (λ i. some (symbol_at t i)) none (first (λ i. p (symbol_at t i) && q (c i)) Some None 1 (1 + symbol_count t))
  unfolding symbols_of tab first_symbol
  first-symbol p q c =
      let look : ℕ → ℕ → Option Symbol = λ i k. first_symbol p q (tab (λ j. symbol_at t (1 + j)) i k) (tab (λ j. c (1 + j)) i k) in
      rw (← tab-from (symbol_at t) 1 0 (symbol_count t), ← tab-from c 1 0 (symbol_count t))
      (first_walk (λ i. p (symbol_at t i) && q (c i)) (λ i. some (symbol_at t i)) none look
      (λ i. refl)
      (λ i k.
      let b : 1 + i ≡ suc i = omega arith in
      both (p (symbol_at t (1 + i))) (q (c (1 + i))) (some (symbol_at t (1 + i))) (look (suc i) k) ∙ (rw b refl))
      (symbol_count t))

  pub look-chosen : (w : Want) (below : Bool) (row : List Float) → first_symbol (wants w) (seen below) (symbols_of t) (cells_of (symbol_count t) row) ≡ on_found (λ p. some (symbol_at t p)) none (look_of w below t.words t.bytes row)
  unfolding look_of
  look-chosen w below row =
      ap (first_symbol (wants w) (seen below) (symbols_of t)) (dense-cells (symbol_count t) row)
      ∙ first-symbol (wants w) (seen below) (λ p. get_or row p nan)
      ∙ ap (λ (f : ℕ → Bool). on_found (λ p. some (symbol_at t p)) none (first f Some None 1 (1 + symbol_count t))) (fun_ext λ p. ap (λ (b : Bool). b && seen below (get_or row p nan)) (wants-kind w t p))

-- ---- a line loaded into a dense row

-- what a line is loaded from
pub record Loadable (t : Sparse) : Type 0 where
  pub up : Ascending t.keys (cell_count t)
  pub narrow : Narrow t.keys row_room 0 (cell_count t)
  pub room : cell_count t ≤ cell_room
  pub few : symbol_count t ≤ last_place

pub loadable : (art : Bool) (t : Sparse) → Sound art t → Loadable t
loadable art t so =
    let f = held-room _ _ _ _ so.held (lines-few art t so) in
    record { up = so.held.up; narrow = narrow-held art t so; room = omega (arith, f); few = so.named.few-symbols }

-- the dense row that line i is loaded into reads as the line
abbrev pub Loads : ℕ → Sparse → List Float → Type 0
Loads i t row = cells_of (symbol_count t) row ≡ (basic_of t i).row.cells

pub line-loads : (t : Sparse) (i : ℕ) (row₀ : List Float) {row : List Float} → Loadable t → length row₀ ≡ row_room → row ≡ loaded (cell_count t) i (symbol_count t) t.keys t.values row₀ → Loads i t row
unfolding basic_of
line-loads t i row₀ l w e =
    ap (cells_of (symbol_count t)) e
    ∙ dense-cells (symbol_count t) (loaded (cell_count t) i (symbol_count t) t.keys t.values row₀)
    ∙ loaded-reads (cell_count t) i (symbol_count t) t.keys t.values row₀ l.up (omega (arith, l.few)) (omega (arith, l.few, w))
