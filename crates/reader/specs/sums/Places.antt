-- Where a variable's term stands, or is to stand, among the first places of a table.
use Rattle.std.specs.Prelude.{ℕ, ◌≤◌, ◌<◌, List, get_or}

-- i is the first of the `count` places that holds a number not below v, or `count` if there is none
pub record Place (numbers : List ℕ) (count v i : ℕ) : Type 0 where
  pub within : i ≤ count
  pub below : (j : ℕ) → j < i → get_or numbers j 0 < v
  pub here : i < count → v ≤ get_or numbers i 0
