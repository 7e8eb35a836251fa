-- Tables lent as slices of arrays, each to be lent once: one that is not has the wrong length.
use Rattle.std.specs.Prelude.{ℕ, Bool, ◌&&◌, List, eqb, length, Float}

pub record Lists : Type 0 where
  pub words : List (List ℕ)
  pub keys : List (List ℕ)
  pub bytes : List (List ℕ)
  pub reals : List (List Float)
  pub values : List (List Float)

abbrev pub lists : List (List ℕ) → List (List ℕ) → List (List ℕ) → List (List Float) → List (List Float) → Lists
lists w k b r v = record { words = w; keys = k; bytes = b; reals = r; values = v }

abbrev pub once_each : Lists → Bool
once_each l = eqb (length l.words) 1 && eqb (length l.keys) 1 && eqb (length l.bytes) 1 && eqb (length l.reals) 1 && eqb (length l.values) 1
