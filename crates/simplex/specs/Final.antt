-- Demand 2 at the end of an optimise pass: which values are the best.
use Rattle.std.specs.Prelude.{List, ℕ, ◌*ℤ◌}
use Rattle.laws.specs.Z.{◌≼◌, ◌≺◌}
use Rattle.simplex.specs.Ord.{0ℤ}
use Rattle.simplex.specs.Lin.{Vec}
use Rattle.simplex.specs.Choose.{All}
use Rattle.simplex.specs.Problem.{Con, Meets, error}

-- THE OPTIMISED STATE: its values meet every required constraint, and no assignment by fractions that meets them has less weighted error
pub record Best (n : ℕ) (cs : List Con) (β : Vec) : Type 0 where
  pub meets : All (Meets n β) cs
  pub least : (x : Vec) → 0ℤ ≺ x 0 → All (Meets n x) cs → error n cs β *ℤ x 0 ≼ error n cs x
