-- A stream of bytes cut into lines: a newline ends one. A line holds so many bytes at most, the newline apart.
use Rattle.std.specs.Prelude.{ℕ, ◌≡◌, eqb, leb, ltb}
use Rattle.std.proofs.Math.Bool.{false, cond}
use mathlib.Core.List.{List, [], ◌∷◌, ◌++◌}
use Rattle.std.proofs.Math.Option.{Option, none, some}
use Rattle.std.proofs.Math.ListN.{length}

-- A line that has begun: its bytes, up to the limit; none once there were more, and then it is too long whatever they are.
unfoldable pub grown : ℕ → Option (List ℕ) → ℕ → Option (List ℕ)
grown limit none b = none
grown limit (some l) b = cond (ltb (length l) limit) (some (l ++ (b ∷ []))) none

-- the lines that a piece ends, and the line that it leaves begun
pub record Cut : Type 0 where
  pub lines : List (Option (List ℕ))
  pub left : Option (List ℕ)

abbrev pub before : List (Option (List ℕ)) → Cut → Cut
before ls c = record { lines = ls ++ c.lines; left = c.left }

unfoldable pub cut_from : ℕ → Option (List ℕ) → List ℕ → Cut
unfolding grown
cut_from limit h [] = record { lines = []; left = h }
cut_from limit h (b ∷ s) = cond (eqb b 10) (before (h ∷ []) (cut_from limit (some []) s)) (cut_from limit (grown limit h b) s)

-- ---- A line's bytes, none of them a newline: it is held if it keeps to the limit, and else it is too long.

abbrev pub Unbroken : List ℕ → Type 0
Unbroken [] = Unit {0}
Unbroken (b ∷ s) = (eqb b 10 ≡ false) × Unbroken s

abbrev pub within : ℕ → List ℕ → Option (List ℕ)
within limit w = cond (leb (length w) limit) (some w) none
