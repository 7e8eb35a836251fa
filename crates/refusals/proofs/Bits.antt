-- A truth as a number: `u64::from` gives the definitions' `bit_of`.
use Prim.Native.Nat.{ℕ, ◌≤◌}
use mathlib.Core.Path.{◌≡◌, refl}
use mathlib.Core.Bool.{Bool, true, false}
use native.Mathlib.Omega.{arith}
use Rattle.std.specs.Int.{from_bool}
use Rattle.layout.specs.Layout.{bit_of}

pub from-bit : (b : Bool) → from_bool b ≡ bit_of b
unfolding bit_of
from-bit true = refl
from-bit false = refl

pub bit-low : (b : Bool) {x : ℕ} → x ≡ from_bool b → x ≤ 1
bit-low true e = omega (arith, e)
bit-low false e = omega (arith, e)
