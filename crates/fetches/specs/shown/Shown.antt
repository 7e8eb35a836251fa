-- What is shown of lent tables: the steps' `shown` of the state that they read as, in the places in which a line's reader hands a constraint over.
use Rattle.std.specs.Prelude.{ℕ, ◌-◌, cond, List, [], ◌∷◌, ◌++◌, map, length, replicate, Float}
use Rattle.std.proofs.Math.Option.{Option, none, some}
use Rattle.steps.specs.Number.{zero64}
use Rattle.steps.specs.State.{Term, strength_of, comparison_of}
use Rattle.steps.specs.Shown.{Given, shown}
use Rattle.layout.specs.Layout.{comparison_code, term_room}
use Rattle.sparse.specs.Sparse.{Sparse, read}
use Rattle.sparse_test.specs.Reads.{reads}

-- The words: 0, 0 or the refusal's number, 0, the kind, how many terms, the group. The reals: constant and strength. The terms' variables and coefficients.
pub record Line : Type 0 where
  pub words : List ℕ
  pub reals : List Float
  pub variables : List ℕ
  pub coefficients : List Float

abbrev pub line : List ℕ → List Float → List ℕ → List Float → Line
line w x v k = record { words = w; reals = x; variables = v; coefficients = k }

-- what the terms have, each in its place of 16, zeros behind them
abbrev pub placed : {A : Type 0} → A → (Term → A) → List Term → List A
placed z f ts = map f ts ++ replicate (term_room - length ts) z

-- no constraint: of all that one would have zeros
abbrev pub without : ℕ → Line
without k = line (0 ∷ k ∷ 0 ∷ 0 ∷ 0 ∷ 0 ∷ []) (zero64 ∷ zero64 ∷ []) (replicate term_room 0) (replicate term_room zero64)

-- "a live constraint as it was added (skipped terms left out) with its group"; the kind is 0 for at most, 1 for equal, 2 for at least
abbrev pub said : Given → Line
said g =
    line
    (0 ∷ 0 ∷ 0 ∷ comparison_code (comparison_of g.relation) ∷ length g.terms ∷ g.group ∷ [])
    (g.constant ∷ strength_of g.relation ∷ [])
    (placed 0 (λ t. t.variable) g.terms)
    (placed zero64 (λ t. t.coefficient) g.terms)

-- 5 for a number that is not live
unfoldable pub line_of : Option Given → Line
line_of none = without 5
line_of (some g) = said g

-- 18 for tables that do not read as a state
unfoldable pub show_of : ℕ → Sparse → Line
show_of n t = cond (reads t) (line_of (shown n (read t))) (without 18)
