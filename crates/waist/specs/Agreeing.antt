-- Tables that differ past their cells alone: the one may stand for the other.
-- Assumes nothing.
use Rattle.std.specs.Prelude.{ℕ, ◌+◌, ◌*◌, ◌<◌, ◌≡◌, Bool, Float, length}
use Rattle.std.proofs.Math.Path.{refl, ap}
use Rattle.std.proofs.Common.{arith}
use mathlib.Core.List.{List}
use Rattle.std.specs.Float.{nan}
use Rattle.std.proofs.Math.ListN.{get_or}
use Rattle.laws.specs.Lists.{tab-ext}
use Rattle.steps.specs.Number.{Mark}
use Rattle.steps.specs.State.{Basic}
use Rattle.sparse.specs.Places.{cell_count_at, row_places_at, constants_at}
use Rattle.sparse.specs.Sparse.{Sparse, symbol_count, row_count, symbol_at, variable_of, basic_of, symbols_of, basics_of, objective_of, gone_of, read}
use Rattle.layout.specs.cells.Names.{row_span, cell_room}
use Rattle.layout.specs.cells.Cells.{Ascending, Present, cell_at, row_of}
use Rattle.layout.specs.cells.Reads.{cell-within}
use Rattle.waist.specs.merging.Merge.{Placed}
use Rattle.waist.specs.substituting.Held.{Held}
use Rattle.waist.specs.Working.{sparse, artificial_of, work_of, lines_of, Sound}
use Rattle.waist.specs.Owning.{Kept}

module _ (w k k' b : List ℕ) (r v v' : List Float) (same : (j : ℕ) → j < get_or w cell_count_at 0 → get_or k' j 0 ≡ get_or k j 0) (sames : (j : ℕ) → j < get_or w cell_count_at 0 → get_or v' j nan ≡ get_or v j nan) where
  abbrev t : Sparse
  t = sparse w k b r v

  abbrev u : Sparse
  u = sparse w k' b r v'

  abbrev n : ℕ
  n = get_or w cell_count_at 0

  cell_same : (key : ℕ) → cell_at k' v' n key ≡ cell_at k v n key
  unfolding cell_at
  cell_same key =
      cell-within k' k v' v key 0 0 n n (omega arith) (omega arith) (omega arith) (λ j _ l. same j l) (λ j _ l. sames j l) (λ j a c. absurd (omega (arith, a, c))) (λ j a c. absurd (omega (arith, a, c)))

  row_same : (i : ℕ) → basic_of u i ≡ basic_of t i
  unfolding basic_of row_of symbol_at
  row_same i =
      ap {B = Basic} (λ (x : List Float). record { symbol = symbol_at t (get_or b (row_places_at + i) 0); row = record { constant = get_or r (constants_at + i) nan; cells = x } })
      (tab-ext (λ p. cell_at k' v' n (i * row_span + p)) (λ p. cell_at k v n (i * row_span + p)) 1 (symbol_count t) λ p _ _. cell_same (i * row_span + p))

  rows_same : basics_of u ≡ basics_of t
  unfolding basics_of
  rows_same = tab-ext (basic_of u) (basic_of t) 1 (row_count t) λ i _ _. row_same i

  pub work-same : (art : Bool) (a : Mark) (c : ℕ) → work_of art a c u ≡ work_of art a c t
  unfolding work_of read artificial_of symbols_of symbol_at objective_of variable_of gone_of
  work-same art a c = rw (rows_same, row_same (1 + row_count t)) refl

  held_same : (lines : ℕ) → length k' ≡ cell_room → length v' ≡ cell_room → Held lines n k v → Held lines n k' v'
  unfolding Ascending Present Placed
  held_same lines lk lv h =
      record {
        up = λ i j a c. rw (same i (omega (arith, a, c)), same j c) (h.up i j a c);
        present = λ j l. rw (sames j l) (h.present j l);
        placed = λ j l. rw (same j l) (h.placed j l);
        low = λ j l. rw (same j l) (h.low j l);
        high = λ j l. rw (same j l) (h.high j l);
        wide = lk;
        wides = lv;
      }

  pub sound-same : (art : Bool) → length k' ≡ cell_room → length v' ≡ cell_room → Sound art t → Sound art u
  unfolding lines_of
  sound-same art lk lv s = record { named = s.named; held = held_same (lines_of art t) lk lv s.held; few = s.few; rows = s.rows; up = s.up; long = s.long }

  pub kept_same : {s : Sparse} → Kept s t → Kept s u
  kept_same h = record { inside = λ i j l. rw (same j l) (h.inside i j l); owners = λ o. let p = h.owners o in record { up = p.up; external = p.external; apart = p.apart; kinds = p.kinds; changed = p.changed; clear = p.clear } }
