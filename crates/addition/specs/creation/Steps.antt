-- What a term leaves of the counts and of the uses; and the variables that a term's number finds.
-- Assumes nothing.
use Rattle.std.specs.Prelude.{ℕ, zero, suc, ◌+◌, ◌-◌, ◌≤◌, ◌<◌, ◌≡◌, Bool, List, eqb, length, get_or, Float}
use Rattle.std.proofs.Math.Path.{refl}
use Rattle.std.proofs.Common.{ap, ◌∙◌, arith}
use Rattle.std.proofs.Math.Option.{none, some}
use Rattle.laws.specs.Loops.{seek, first}
use Rattle.laws.specs.Lists.{length-tab}
use Rattle.steps.specs.Number.{Mark}
use Rattle.steps.specs.Changes.{find_variable}
use Rattle.std.specs.Prelude.{Some, None}
use Rattle.rows.specs.choose.Choose.{on_found}
use Rattle.sparse.specs.Places.{most_variables, variable_count_at, variable_numbers_at, variable_uses_at}
use Rattle.sparse.specs.Sparse.{Sparse, symbol_count, row_count, variable_count, variable_of, read}
use Rattle.waist.specs.Working.{work_of}
use Rattle.waist.specs.Growing.{next_id}
use Rattle.variables.specs.Variables.{found_in}
use Rattle.variables.specs.Found.{variables-are, variable-found}
use Rattle.addition.specs.creation.Building.{building_of}

-- no variable is used more than b times
abbrev pub Used : ℕ → Sparse → Type 0
Used b t = (v : ℕ) → v < variable_count t → get_or t.words (variable_uses_at + v) 0 ≤ b

-- uses that can grow by the terms of a constraint, and by some more
abbrev pub most_spare : ℕ
most_spare = 4294900016

-- ids, symbols and variables have room for one more, and two symbols for the tag
abbrev pub Room : ℕ → Sparse → Type 0
Room n t = found_in n t.words ≡ None → (next_id t < 4294900016) × (symbol_count t < 126) × (variable_count t < most_variables)

-- at most i ids are taken, each for a new variable, and no use grows by more than m
pub record Steps (i m : ℕ) (t u : Sparse) : Type 0 where
  pub ids : next_id u ≤ next_id t + i
  pub grown : symbol_count u + variable_count t ≡ symbol_count t + variable_count u
  pub rows : row_count u ≡ row_count t
  pub uses : (b : ℕ) → Used b t → Used (b + m) u

pub steps-none : (i m : ℕ) (t : Sparse) → Steps i m t t
steps-none i m t = record { ids = omega arith; grown = omega arith; rows = refl; uses = λ b x v h. let l = x v h in omega (arith, l) }

pub steps_then : {i j m n : ℕ} {t u v : Sparse} → Steps i m t u → Steps j n u v → Steps (i + j) (m + n) t v
steps_then {m = m} a b =
    let p = a.ids in
    let q = b.ids in
    let r = a.grown in
    let s = b.grown in
    record { ids = omega (arith, p, q); grown = omega (arith, r, s); rows = b.rows ∙ a.rows; uses = λ x y v h. let l = b.uses (x + m) (a.uses x y) v h in omega (arith, l) }

-- ---- a variable by its number

seek-ext : (p q : ℕ → Bool) (n i : ℕ) → ((j : ℕ) → i ≤ j → j < i + n → p j ≡ q j) → seek p Some None n i ≡ seek q Some None n i
unfolding seek
seek-ext p q zero i h = refl
seek-ext p q (suc n) i h = rw (h i (omega arith) (omega arith), seek-ext p q n (suc i) (λ j a b. h j (omega (arith, a)) (omega (arith, b)))) refl

pub found-same : (n : ℕ) (w w₁ : List ℕ) → get_or w₁ variable_count_at 0 ≡ get_or w variable_count_at 0 → ((v : ℕ) → v < get_or w variable_count_at 0 → get_or w₁ (variable_numbers_at + v) 0 ≡ get_or w (variable_numbers_at + v) 0) → found_in n w₁ ≡ found_in n w
unfolding found_in first
found-same n w w₁ e h =
    let z : get_or w variable_count_at 0 - 0 ≡ get_or w variable_count_at 0 = omega arith in
    rw (e, z) (seek-ext (λ v. eqb n (get_or w₁ (variable_numbers_at + v) 0)) (λ v. eqb n (get_or w (variable_numbers_at + v) 0)) (get_or w variable_count_at 0) 0 λ j a b. ap (eqb n) (h j (omega (arith, b))))

module _ (a : Mark) (t : Sparse) (row : List Float) where
  pub changes-of : (building_of a t row).work.changes ≡ (read t).changes
  unfolding building_of work_of
  changes-of = refl

  pub find-of : (n : ℕ) → find_variable n (building_of a t row).work.changes.variables ≡ on_found (λ v. some (variable_of t v)) none (found_in n t.words)
  find-of n = rw changes-of (variable-found t n)

  pub count_of : length (building_of a t row).work.changes.variables ≡ variable_count t
  count_of = rw changes-of (rw (variables-are t) (length-tab (variable_of t) 0 (variable_count t)))
