-- What the code's branches make of a choice: a candidate that counts or does not, a place found.
-- Assumes nothing.
use Rattle.std.specs.Prelude.{◌≡◌, ℕ, ◌≤◌, Bool, true, false, Float}
use Rattle.rows.specs.choose.Choose.{Within, Least, better_of}
use Rattle.rows.specs.choose.Choose.{Found}
use Rattle.std.specs.Prelude.{Some}

pub within : {f : Found} {i n : ℕ} → Within n f → f ≡ Some i → (1 ≤ i) × (i ≤ n)
within b q = rw q at b

module _ (i : ℕ) (x : Float) (b : Least) {on : Bool} where
  pub better-on : {r : Least} → on ≡ true → r ≡ better_of i true x b → r ≡ better_of i on x b
  better-on h q = rw h q

  pub better-off : on ≡ false → b ≡ better_of i on x b
  unfolding better_of
  better-off h = rw h
