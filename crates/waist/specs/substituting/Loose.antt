-- A loose run made of a dense row reads as that row.
-- Assumes nothing.
use Rattle.std.specs.Prelude.{ℕ, ◌+◌, ◌*◌, ◌≤◌, ◌<◌, ◌≡◌, true, false, List, Float, length, set}
use Rattle.std.proofs.Common.{sym, ◌∙◌, subst}
use native.Mathlib.Omega.{arith}
use Rattle.std.specs.Float.{nan}
use Rattle.std.specs.Float.Ieee.{ne}
use Rattle.std.proofs.Math.ListN.{get_or}
use Rattle.laws.specs.Lists.{tab, tab-ext}
use Rattle.steps.specs.Number.{zero64}
use Rattle.steps.specs.Symbol.{absent}
use Rattle.layout.specs.cells.Names.{row_span, row_room, last_place}
use Rattle.layout.specs.cells.Cells.{cells, cell_at, row_of, pack_turn, packed, settled}
use Rattle.layout.specs.cells.Reads.{cell-absent}
use Rattle.layout.specs.cells.Pack.{Packing, compress-reads, put_on, put-off}
use Rattle.waist.specs.merging.Merge.{RunOf, other_cell}

-- ---- a turn of the code, over variables

module _ (p : ℕ) (row : List Float) (ks : List ℕ) (vs : List Float) (n : ℕ) where
  pub loose-on : absent (get_or row p nan) ≡ false → cells (set ks n p) (set vs n (get_or row p nan)) (n + 1) ≡ pack_turn 0 row p (cells ks vs n)
  unfolding pack_turn absent ne
  loose-on h = let o : 0 * row_span + p ≡ p = omega arith in rw o (put_on p (get_or row p nan) (cells ks vs n) (rw h))

  pub loose-off : absent (get_or row p nan) ≡ true → cells ks vs n ≡ pack_turn 0 row p (cells ks vs n)
  unfolding pack_turn absent ne
  loose-off h = put-off (0 * row_span + p) (get_or row p nan) (cells ks vs n) (rw h)

-- the cells of a row are as they are read: none is -0.0
abbrev pub SettledRow : ℕ → List Float → Type 0
SettledRow k row = (p : ℕ) → 1 ≤ p → p ≤ k → settled (get_or row p nan) ≡ get_or row p nan

module _ (k : ℕ) (row : List Float) (cols₀ cols : List ℕ) (others₀ others : List Float) (m : ℕ) (few : k ≤ last_place) (lc : length cols₀ ≡ row_room) (lo : length others₀ ≡ row_room)
    (e : cells cols others m ≡ packed k 0 row (cells cols₀ others₀ 0)) where
  p : Packing 0 0 row cols₀ others₀ (k + 1) (cells cols others m)
  p = subst (Packing 0 0 row cols₀ others₀ (k + 1)) (sym e) (compress-reads k 0 0 row cols₀ others₀ (omega (arith, few, lc)) (omega (arith, few, lo)))

  pub loose-run : RunOf cols 0 0 m
  loose-run = record { up = λ a b u v w. p.up a b u v w; low = λ t u v. p.low t u v; high = λ t u v. let h = p.high t u v in omega (arith, h, few) }

  pub loose_none : (q : ℕ) → k < q → q ≤ last_place → other_cell cols others m q ≡ zero64
  unfolding other_cell
  loose_none q u v = cell-absent cols others (0 * row_span + q) 0 m (omega arith) λ t a b d. let h = p.high t a b in omega (arith, h, d, u)

  pub loose-reads : SettledRow k row → row_of cols others m k 0 ≡ tab (λ q. get_or row q nan) 1 k
  unfolding row_of cell_at
  loose-reads s = tab-ext _ (λ q. get_or row q nan) 1 k λ q u v. p.reads q u (omega (arith, v)) ∙ s q u (omega (arith, v))
