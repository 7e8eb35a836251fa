-- Shares that are left at each place, taken one by one; and numbers that are finite, place by place.
use Rattle.std.specs.Prelude.{ℕ, ◌+◌, ◌-◌, Bool, ◌&&◌, List, set, nat_eq, nat_lt, slice_index, slice_index_or, slice_set, Float}
use Rattle.std.specs.Float.{nan}
use Rattle.steps.specs.Number.{is_finite}
use Rattle.laws.specs.Loops.{run}
use Rattle.laws.specs.Lists.{all_in}

-- how many shares each place has left, and whether there has been one at each place that was asked
pub record Shares : Type 0 where
  pub left : List ℕ
  pub ok : Bool

abbrev pub shares : List ℕ → Bool → Shares
shares l b = record { left = l; ok = b }

unfoldable pub take : ℕ → Shares → Shares
take p s = shares (slice_set s.left p (slice_index s.left p - 1)) (s.ok && nat_lt 0 (slice_index s.left p))

unfoldable pub none_left : List ℕ → ℕ → Bool
none_left l n = all_in (λ j. nat_eq (slice_index l j) 0) 0 n

-- place i has g i shares, for each i below n
unfoldable pub stock : (ℕ → ℕ) → ℕ → List ℕ → List ℕ
stock g n l = run (λ i m. set m i (g i)) 0 n l

-- n places from a on
unfoldable pub finite_in : List Float → ℕ → ℕ → Bool
finite_in row a n = all_in (λ j. is_finite (slice_index_or row (a + j) nan)) 0 n
