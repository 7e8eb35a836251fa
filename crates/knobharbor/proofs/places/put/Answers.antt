use Rattle.std.proofs.Common.{◌≡◌, ℕ, Bool, true, false, [], ◌∷◌, refl}
use mir.Val.{bool_byte}
use Rattle.layout.specs.Layout.{bit_of}
use Rattle.knobharbor.specs.Places.{in_places}
use Rattle.knobharbor.proofs.places.put.Goals as goal

bit : (n p : ℕ) (b : Bool) → n ∷ p ∷ bool_byte b ∷ [] ≡ in_places (record { number = n; pivots = p; whole = b })
unfolding in_places bit_of
bit n p true = refl
bit n p false = refl

pub returns : goal.returns
returns c = bit _ _ _
