-- The steps' branches as conditions.
use Rattle.std.specs.Prelude.{◌≡◌, Bool, true, false, cond, refl}

module _ {R : Type 0} where
  pub as-cond : (b : Bool) (x y : R) → elim b [ true ↦ x | false ↦ y ] ≡ cond b x y
  as-cond true x y = refl
  as-cond false x y = refl
