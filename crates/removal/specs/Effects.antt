-- A constraint's errors go out of the objective: the code's calls are the steps' remove_constraint_effects.
-- Assumes nothing.
use Rattle.std.specs.Prelude.{ℕ, ◌+◌, ◌≡◌, refl, Bool, true, cond, eqb, Float, get_or}
use Rattle.std.proofs.Math.Path.{sym, ap}
use Rattle.std.proofs.Common.{◌∙◌}
use Rattle.std.proofs.Math.Bool.{false}
use Rattle.std.proofs.Math.Option.{Option, none, some}
use Rattle.std.specs.Float.Ieee.{neg}
use Rattle.steps.specs.Number.{Mark}
use Rattle.steps.specs.Symbol.{External, Slack, Error, Dummy, Symbol, is_error}
use Rattle.steps.specs.Row.{Row}
use Rattle.steps.specs.Work.{Work, find_row}
use Rattle.steps.specs.CreateRow.{insert_in_objective}
use Rattle.steps.specs.Remove.{insert_row_in_objective, remove_marker_effects, remove_constraint_effects}
use Rattle.layout.specs.Layout.{kind_of}
use Rattle.rows.specs.choose.Choose.{Found}
use Rattle.std.specs.Prelude.{Some, None}
use Rattle.rows.specs.choose.Choose.{on_found}
use Rattle.sparse.specs.Places.{kinds_at}
use Rattle.sparse.specs.Sparse.{Sparse, symbol_at, other_at, basic_of, basics_of}
use Rattle.waist.specs.declared.kinds.Kind.{Kind}
use Rattle.waist.specs.Kinds.{kind_byte, KindOf}
use Rattle.waist.specs.KindsRead.{symbol-read}
use Rattle.waist.specs.Looks.{of_kind}
use Rattle.waist.specs.Working.{work_of}
use Rattle.waist.specs.Standing.{Standing, Makes}
use Rattle.waist.specs.Tags.{tag_at}
use Rattle.removal.specs.Reading.{work-rows, makes-to, makes-then, makes-same}

pub error-at : (t : Sparse) (p : ℕ) → is_error (symbol_at t p) ≡ eqb (get_or t.bytes (kinds_at + p) 0) 2
unfolding symbol_at kind_of is_error
error-at t p = go (eqb (get_or t.bytes (kinds_at + p) 0) 2) (eqb (get_or t.bytes (kinds_at + p) 0) 1) (eqb (get_or t.bytes (kinds_at + p) 0) 3)
  where
    go : (a b d : Bool) → is_error (record { id = 0; kind = cond a Error (cond b Slack (cond d Dummy External)) }) ≡ a
    go true b d = refl
    go false true d = refl
    go false false true = refl
    go false false false = refl

pub error-read : (t : Sparse) (p : ℕ) (k : Kind) {b : Bool} → KindOf (get_or t.bytes (kinds_at + p) 0) k → b ≡ is_error (of_kind (kind_byte k)) → eqb (get_or t.bytes (kinds_at + p) 0) 2 ≡ b
unfolding symbol_at is_error
error-read t p k e q = sym (q ∙ ap is_error (symbol-read _ k e) ∙ error-at t p)

-- ---- one symbol's

module _ (a : Mark) (t : Sparse) (p : ℕ) (strength : Float) where
  abbrev s : Symbol
  s = symbol_at t p

  abbrev by_row : Option Row → Work → Work
  by_row o w = elim o [ none ↦ insert_in_objective s.id (neg strength) w | some r ↦ insert_row_in_objective r (neg strength) w ]

  abbrev effect : Bool → Work → Work
  effect b w = elim b [ false ↦ w | true ↦ by_row (find_row s.id w.tableau.rows) w ]

  pub no-error : Standing false a t → eqb (get_or t.bytes (kinds_at + p) 0) 2 ≡ false → Makes false false a a (remove_marker_effects s strength) t t
  unfolding remove_marker_effects
  no-error st e = makes-to (λ v. sym (ap (λ (b : Bool). effect b (work_of false a v t)) (error-at t p ∙ e))) (makes-same st)

  module _ {b : Mark} {u : Sparse} (e : eqb (get_or t.bytes (kinds_at + p) 0) 2 ≡ true) (f : Found) (found : find_row s.id (basics_of t) ≡ on_found (λ i. some (basic_of t i).row) none f) where
    with_row : (o : Option Row) → on_found (λ i. some (basic_of t i).row) none f ≡ o → Makes false false a b (by_row o) t u → Makes false false a b (remove_marker_effects s strength) t u
    unfolding remove_marker_effects
    with_row o q m = makes-to (λ v. sym (by v)) m
      where
        by : (v : ℕ) → effect (is_error s) (work_of false a v t) ≡ by_row o (work_of false a v t)
        by v = ap (λ (c : Bool). effect c (work_of false a v t)) (error-at t p ∙ e) ∙ ap (λ (c : Option Row). by_row c (work_of false a v t)) (ap (find_row s.id) (work-rows false a v t) ∙ found ∙ q)

    pub not-basic : f ≡ None → Makes false false a b (insert_in_objective s.id (neg strength)) t u → Makes false false a b (remove_marker_effects s strength) t u
    not-basic q m = with_row none (ap (on_found (λ i. some (basic_of t i).row) none) q) m

    pub is-basic : (i : ℕ) → f ≡ Some i → Makes false false a b (insert_row_in_objective (basic_of t i).row (neg strength)) t u → Makes false false a b (remove_marker_effects s strength) t u
    is-basic i q m = with_row (some (basic_of t i).row) (ap (on_found (λ i. some (basic_of t i).row) none) q) m

-- ---- both symbols': "marker's first"

module _ {a b : Mark} (t u : Sparse) (marker other : ℕ) (strength : Float) (m : Makes false false a b (remove_marker_effects (symbol_at t marker) strength) t u) where
  abbrev both : Option Symbol → Work → Work
  both o w = elim o [ none ↦ remove_marker_effects (symbol_at t marker) strength w | some s ↦ remove_marker_effects s strength (remove_marker_effects (symbol_at t marker) strength w) ]

  pub no_other : eqb other 0 ≡ true → Makes false false a b (remove_constraint_effects (tag_at t marker other) strength) t u
  unfolding remove_constraint_effects tag_at other_at
  no_other e = makes-to (λ v. sym (ap (λ (c : Bool). both (cond c none (some (symbol_at t other))) (work_of false a v t)) e)) m

  pub with-other : {c : Mark} {v : Sparse} → eqb other 0 ≡ false → symbol_at u other ≡ symbol_at t other → Makes false false b c (remove_marker_effects (symbol_at u other) strength) u v
      → Makes false false a c (remove_constraint_effects (tag_at t marker other) strength) t v
  unfolding remove_constraint_effects tag_at other_at
  with-other e q n =
      makes-to (λ v. ap (λ (s : Symbol). remove_marker_effects s strength (remove_marker_effects (symbol_at t marker) strength (work_of false a v t))) q ∙ sym (ap (λ (c : Bool). both (cond c none (some (symbol_at t other))) (work_of false a v t)) e))
      (makes-then m n)
