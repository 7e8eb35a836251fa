-- One use of a variable less, over the tables' places: at its last use it goes from its five stretches.
use Rattle.std.specs.Prelude.{ℕ, ◌+◌, ◌-◌, ◌<◌, ◌≡◌, Bool, true, false, cond, List, eqb, get_or, set, Float, Option, Some, None}
use Rattle.std.proofs.Math.Path.{refl}
use Rattle.std.specs.Float.{nan}
use Rattle.std.specs.Float.Ieee.{ne}
use Rattle.steps.specs.Work.{Work, with_changes, purge}
use Rattle.rows.specs.choose.Choose.{Found}
use Rattle.std.specs.Prelude.{Some, None}
use Rattle.rows.specs.choose.Choose.{on_found}
use Rattle.rows.specs.moves.Close.{closed}
use Rattle.sparse.specs.Places.{variable_count_at, variable_numbers_at, variable_uses_at, variable_places_at, changed_at, old_values_at}
use Rattle.sparse.specs.Sparse.{Sparse, symbol_at}
use Rattle.variables.specs.declared.less.Gone.{Gone}
use Rattle.variables.specs.Variables.{Below, found_in}
use Rattle.variables.specs.Alone.{with_gone}
use Rattle.variables.specs.Told.{told_of}

-- the last of the variables
abbrev pub last_in : List ℕ → ℕ
last_in words = get_or words variable_count_at 0 - 1

-- ---- "Gone variables and constraints free their places."

unfoldable pub went_words : ℕ → List ℕ → List ℕ
went_words v words =
    set (closed 0 (variable_uses_at + v) (variable_uses_at + last_in words) (closed 0 (variable_numbers_at + v) (variable_numbers_at + last_in words) words)) variable_count_at (last_in words)

unfoldable pub went_bytes : ℕ → List ℕ → List ℕ → List ℕ
went_bytes v words bytes = closed 0 (changed_at + v) (changed_at + last_in words) (closed 0 (variable_places_at + v) (variable_places_at + last_in words) bytes)

unfoldable pub went_reals : ℕ → List ℕ → List Float → List Float
went_reals v words reals = closed nan (old_values_at + v) (old_values_at + last_in words) reals

unfoldable pub less_words : ℕ → List ℕ → List ℕ
less_words v words = set words (variable_uses_at + v) (get_or words (variable_uses_at + v) 0 - 1)

-- ---- the three tables, and the place of the symbol whose variable went, with whether that was never reported

pub record Loss : Type 0 where
  pub words : List ℕ
  pub bytes : List ℕ
  pub reals : List Float
  pub gone : Option Gone

abbrev pub loss : List ℕ → List ℕ → List Float → Option Gone → Loss
loss w b r g = record { words = w; bytes = b; reals = r; gone = g }

-- a variable went: the place of its symbol, and whether it was never reported
abbrev pub went : ℕ → Bool → Option Gone
went p x = Some (record { place = p; unreported = x })

-- NaN alone does
abbrev pub differs : Float → Bool
differs x = ne x x

-- of the variable v: "a variable at zero goes"
unfoldable pub lost_use : ℕ → Loss → Loss
lost_use v t =
    cond (eqb (get_or t.words (variable_uses_at + v) 0) 1)
    (loss (went_words v t.words) (went_bytes v t.words t.bytes) (went_reals v t.words t.reals) (went (get_or t.bytes (variable_places_at + v) 0) (differs (get_or t.reals (old_values_at + v) nan))))
    (loss (less_words v t.words) t.bytes t.reals None)

-- of the variable of this number: "Use counts fall"
unfoldable pub less_of : ℕ → List ℕ → List ℕ → List Float → Loss
less_of n w b r = on_found (λ v. lost_use v (loss w b r None)) (loss w b r None) (found_in n w)

-- what is left to do for the variable n: one that goes is told, and its symbol purged
unfoldable pub leaving : ℕ → Sparse → Option Gone → Work → Work
leaving n t (Some g) w = purge (symbol_at t g.place).id (with_changes (with_gone (told_of g.unreported n) w.changes) w)
leaving n t None w = w

-- ---- the branches of the code, over variables

module _ (w b : List ℕ) (r : List Float) (v : ℕ) where
  pub lost-went : {w₁ b₁ : List ℕ} {r₁ : List Float} {p : ℕ} {x : Bool} → eqb (get_or w (variable_uses_at + v) 0) 1 ≡ true → w₁ ≡ went_words v w → b₁ ≡ went_bytes v w b → r₁ ≡ went_reals v w r → p ≡ get_or b (variable_places_at + v) 0
      → x ≡ differs (get_or r (old_values_at + v) nan) → loss w₁ b₁ r₁ (went p x) ≡ lost_use v (loss w b r None)
  unfolding lost_use
  lost-went e q q₁ q₂ q₃ q₄ = rw (e, q, q₁, q₂, q₃, q₄) refl

  pub lost-less : {w₁ : List ℕ} → eqb (get_or w (variable_uses_at + v) 0) 1 ≡ false → w₁ ≡ less_words v w → loss w₁ b r None ≡ lost_use v (loss w b r None)
  unfolding lost_use
  lost-less e q = rw (e, q) refl

module _ (n : ℕ) (w b : List ℕ) (r : List Float) {f : Found} (q : f ≡ found_in n w) where
  pub less_none : f ≡ None → loss w b r None ≡ less_of n w b r
  unfolding less_of
  less_none e = rw (← q, e) refl

  pub less-found : {v : ℕ} {l : Loss} → f ≡ Some v → l ≡ lost_use v (loss w b r None) → l ≡ less_of n w b r
  unfolding less_of
  less-found e h = rw (← q, e) h

module _ (v : ℕ) (w : List ℕ) where
  pub went-words : {w₁ w₂ : List ℕ} → w₁ ≡ closed 0 (variable_numbers_at + v) (variable_numbers_at + last_in w) w → w₂ ≡ closed 0 (variable_uses_at + v) (variable_uses_at + last_in w) w₁ → set w₂ variable_count_at (last_in w) ≡ went_words v w
  unfolding went_words
  went-words q q₁ = rw (q₁, q) refl

  pub went-bytes : (b : List ℕ) {b₁ b₂ : List ℕ} → b₁ ≡ closed 0 (variable_places_at + v) (variable_places_at + last_in w) b → b₂ ≡ closed 0 (changed_at + v) (changed_at + last_in w) b₁ → b₂ ≡ went_bytes v w b
  unfolding went_bytes
  went-bytes b q q₁ = rw (← q) q₁

  pub went-reals : (r : List Float) {r₁ : List Float} → r₁ ≡ closed nan (old_values_at + v) (old_values_at + last_in w) r → r₁ ≡ went_reals v w r
  unfolding went_reals
  went-reals r q = q

  pub less-words : {x : ℕ} → x ≡ get_or w (variable_uses_at + v) 0 - 1 → set w (variable_uses_at + v) x ≡ less_words v w
  unfolding less_words
  less-words q = rw q refl

-- the place found is below the count
pub below_at : {f : Found} {n v : ℕ} → Below n f → f ≡ Some v → v < n
below_at b q = rw q at b
