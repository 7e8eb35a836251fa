use Rattle.std.proofs.Common.{◌≡◌, ℕ, ◌*◌, Bool, true, false, not, ◌&&◌, ◌||◌, eqb, refl, eq-eqb}
use mathlib.Core.Bool.{beq}
use lib.Ieee.{Float, nan, inf, fin, is_nan, ne, up, down}
use Rattle.rows.proofs.places.old_fits.Goals as goal

beq_same : (s : Bool) (n : ℕ) → not (eqb n n && (beq s s || eqb n 0)) ≡ false
beq_same true n = rw (eq-eqb n n refl) refl
beq_same false n = rw (eq-eqb n n refl) refl

itself : (x : Float) → ne x x ≡ is_nan x
unfolding ne is_nan
itself nan = refl
itself (inf true) = refl
itself (inf false) = refl
itself (fin s m e) = beq_same s (m * up e * down e)

pub returns : goal.returns
returns c = rw (c.is_finite.ensures, itself _) refl
