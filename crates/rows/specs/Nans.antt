-- Which floats are no numbers.
use Rattle.std.specs.Prelude.{◌≡◌, ◌*◌, true, false, not, T, refl, Float}
use Rattle.std.proofs.Common.{sym, subst, eq-eqb}
use Rattle.std.specs.Float.{nan, inf, fin}
use Rattle.std.specs.Float.Ieee.{eq, is_nan, up, down}

pub no_nan : (x : Float) → eq x x ≡ true → T (not (is_nan x))
unfolding eq is_nan
no_nan nan h = subst T (sym h) tt
no_nan (inf s) h = tt
no_nan (fin s m e) h = tt

-- what is not equal to itself
pub is-nan : (x : Float) → eq x x ≡ false → x ≡ nan
unfolding eq
is-nan nan h = refl
is-nan (inf true) h = absurd (subst T h tt)
is-nan (inf false) h = absurd (subst T h tt)
is-nan (fin true m e) h = absurd (subst T (rw (eq-eqb (m * up e * down e) (m * up e * down e) refl) at h) tt)
is-nan (fin false m e) h = absurd (subst T (rw (eq-eqb (m * up e * down e) (m * up e * down e) refl) at h) tt)

pub nan_is : (x : Float) → is_nan x ≡ true → x ≡ nan
unfolding is_nan
nan_is nan h = refl
nan_is (inf s) h = absurd (subst T (sym h) tt)
nan_is (fin s m e) h = absurd (subst T (sym h) tt)
