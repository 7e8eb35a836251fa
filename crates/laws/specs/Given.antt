-- A fact that holds where a flag is set.
-- Assumes nothing.
use Rattle.std.specs.Prelude.{◌≡◌, refl, Bool, true, false}

-- by cases, not an implication
abbrev pub Then : Bool → Type 0 → Type 0
Then true X = X
Then false X = Unit {0}

pub then-given : (X : Type 0) {b : Bool} → b ≡ true → Then b X → X
then-given X e q = rw e at q

-- from the fact to the flag
pub then-of : (X : Type 0) (b : Bool) → (b ≡ true → X) → Then b X
then-of X true f = f refl
then-of X false f = tt
