-- What std's methods of Option and bool give, as the specs have it.
use mathlib.Core.Path.{◌≡◌, refl}
use mathlib.Core.Bool.{Bool, true, false, not, cond, ◌&&◌}
use Prim.Native.Nat.{ℕ}
use Rattle.std.specs.Prelude.{Some, None}
use Rattle.std.specs.Option.{is_some}
use Rattle.std.specs.Bool.{then_some}
use Rattle.std.specs.Prelude.{nat_le}
use Rattle.std.proofs.Common.{leb-true}
use Rattle.rows.specs.choose.Choose.{Found, Within, is_nothing, Least, found_of}

pub none-is : (f : Found) (b : Bool) → is_some f ≡ not b → b ≡ is_nothing f
none-is (Some i) true e = e
none-is (Some i) false e = refl
none-is None true e = refl
none-is None false e = e

pub some-if : (b : Bool) (x : ℕ) → then_some b x ≡ cond b (Some x) None
some-if true x = refl
some-if false x = refl

pub found-within : (n : ℕ) (b : Least) → Within n (found_of n b)
unfolding found_of
found-within n None = tt
found-within n (Some b) = go (nat_le 1 b.at) refl (nat_le b.at n) refl
  where
    go : (x : Bool) → nat_le 1 b.at ≡ x → (y : Bool) → nat_le b.at n ≡ y → Within n (cond (x && y) (Some b.at) None)
    go true e true f = (leb-true _ _ e, leb-true _ _ f)
    go true e false f = tt
    go false e y f = tt
