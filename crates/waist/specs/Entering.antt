-- A solved row that enters the basis of the sparse tables: they read as the steps' `enter_basis`.
-- Assumes nothing.
use Rattle.std.specs.Prelude.{ℕ, ◌+◌, ◌≤◌, ◌<◌, ◌≡◌, Bool, ◌&&◌, cond, List, Float, get_or}
use Rattle.std.proofs.Math.Path.{refl}
use Rattle.std.proofs.Common.{sym, ◌∙◌, subst, arith}
use Rattle.std.specs.Float.{nan}
use Rattle.std.specs.Float.Ieee.{ne}
use Rattle.steps.specs.Number.{zero64, Mark, worse}
use Rattle.steps.specs.Symbol.{Symbol, is_external}
use Rattle.steps.specs.Work.{Work, with_rows, keep_row}
use Rattle.steps.specs.Changes.{note}
use Rattle.steps.specs.Substitute.{substitute, enter_basis}
use Rattle.rows.specs.Reading as dense
use Rattle.sparse.specs.Places.{most_rows, most_variables, symbol_count_at, row_count_at, cell_count_at, should_clear_at, ids_at, kinds_at, row_places_at, variable_places_at, changed_at, constraint_strengths_at}
use Rattle.sparse.specs.Sparse.{Sparse, symbol_count, row_count, symbol_at}
use Rattle.layout.specs.cells.Names.{last_place}
use Rattle.waist.specs.substituting.Loose.{SettledRow}
use Rattle.waist.specs.substituting.Notes.{is_external_kind}
use Rattle.waist.specs.Working.{work_of, Sound}
use Rattle.waist.specs.Owning.{Kept, kept_then}
use Rattle.waist.specs.Substitutes.{Stays, Substitutes}
use Rattle.waist.specs.Alone.{RowsAlone}
use Rattle.waist.specs.Dropping.{Free}
use Rattle.waist.specs.Spots.{Keeps}
use Rattle.waist.specs.Noting.{Notes}

-- what no step of the tableau changes: the symbols, the variables but for their flags, and all of the stored constraints and edits
pub record Later (t u : Sparse) : Type 0 where
  pub words : (q : ℕ) → (q ≡ should_clear_at → ⊥) → (q ≡ row_count_at → ⊥) → (q ≡ cell_count_at → ⊥) → get_or u.words q 0 ≡ get_or t.words q 0
  pub kinds : (q : ℕ) → q ≤ row_places_at → get_or u.bytes q 0 ≡ get_or t.bytes q 0
  pub places : (q : ℕ) → variable_places_at ≤ q → q < changed_at → get_or u.bytes q 0 ≡ get_or t.bytes q 0
  pub bytes : (q : ℕ) → changed_at + most_variables ≤ q → get_or u.bytes q 0 ≡ get_or t.bytes q 0
  pub reals : (q : ℕ) → constraint_strengths_at ≤ q → get_or u.reals q nan ≡ get_or t.reals q nan

pub later-then : {t u v : Sparse} → Later t u → Later u v → Later t v
later-then a b = record {
  words = λ q d e f. b.words q d e f ∙ a.words q d e f;
  kinds = λ q d. b.kinds q d ∙ a.kinds q d;
  places = λ q d e. b.places q d e ∙ a.places q d e;
  bytes = λ q d. b.bytes q d ∙ a.bytes q d;
  reals = λ q d. b.reals q d ∙ a.reals q d;
}

pub later-stays : {t u : Sparse} → Stays t u → Later t u
later-stays s = record { words = λ q d e f. s.words q d f; kinds = λ q d. s.bytes q (omega (arith, d)); places = λ q d e. s.bytes q e; bytes = s.later; reals = s.reals }

pub later-alone : {t u : Sparse} → RowsAlone t u → Later t u
later-alone s = record {
  words = λ q d e f. s.words q e f;
  kinds = s.low;
  places = λ q d e. s.later q d;
  bytes = λ q d. s.later q (omega (arith, d));
  reals = λ q d. s.reals q (omega (arith, d));
}

pub later-symbol : {t u : Sparse} → Later t u → (p : ℕ) → p ≤ last_place → symbol_at u p ≡ symbol_at t p
unfolding symbol_at
later-symbol s p h = rw (s.words (ids_at + p) (λ e. omega (arith, e)) (λ e. omega (arith, e)) (λ e. omega (arith, e)), s.kinds (kinds_at + p) (omega (arith, h))) refl

pub later-count : {t u : Sparse} → Later t u → symbol_count u ≡ symbol_count t
later-count s = s.words symbol_count_at (λ e. omega (arith, e)) (λ e. omega (arith, e)) (λ e. omega (arith, e))

stays-rows : {t u : Sparse} → Stays t u → row_count u ≡ row_count t
stays-rows s = s.words row_count_at (λ e. omega (arith, e)) (λ e. omega (arith, e))

pub free_stays : {t u : Sparse} (p : ℕ) → row_count t < most_rows → Stays t u → Free p t → Free p u
free_stays {t} {u} p few s f q a b e =
    let c : q ≤ row_count t = rw (stays-rows s) at b in
    f q a c (sym (s.bytes (row_places_at + q) (omega (arith, c, few))) ∙ e)

-- "substitute, note an External with non-zero constant, keep the row": for the symbol at place `at`
pub record Enters (art : Bool) (at : ℕ) (row : List Float) (t u : Sparse) (m : Mark) : Type 0 where
  pub reads : (a : Mark) (v : ℕ) → work_of art (worse a m) v u ≡ enter_basis (symbol_at t at) (dense.row_of (symbol_count t) row) (work_of art a v t)
  pub sound : Sound art u
  pub later : Later t u
  pub more : row_count u ≡ row_count t + 1
  pub kept : Kept t u

pub external-at : (t : Sparse) (p : ℕ) → is_external (symbol_at t p) ≡ is_external_kind (get_or t.bytes (kinds_at + p) 0)
unfolding symbol_at is_external_kind is_external
external-at t p = refl

module _ (art : Bool) (at : ℕ) (row : List Float) (t : Sparse) (so : Sound art t) (low : 1 ≤ at) (high : at ≤ symbol_count t) (free : Free at t) (fit : row_count t + 1 < most_rows) (ok : SettledRow (symbol_count t) row) where
  near : at ≤ last_place
  near = let f = so.named.few-symbols in omega (arith, high, f)

  module _ {t₁ : Sparse} {m : Mark} (s : Substitutes art at row t t₁ m) where
    pub noted-low : (1 ≤ at) × (at ≤ symbol_count t₁)
    noted-low = (low, rw (later-count (later-stays s.stays)) high)

    pub on-by : (y : Float) {k : ℕ} {b : Bool} → k ≡ get_or t₁.bytes (kinds_at + at) 0 → b ≡ (is_external_kind k && ne y zero64) → b ≡ (is_external (symbol_at t₁ at) && ne y zero64)
    on-by y h e = rw (external-at t₁ at, ← h) e

    module _ {on : Bool} {t₂ : Sparse} (n : Notes art on at t₁ t₂) where
      both : Later t t₂
      both = later-then (later-stays s.stays) (later-stays n.stays)

      rows_same : row_count t₂ ≡ row_count t
      rows_same = stays-rows n.stays ∙ stays-rows s.stays

      pub keep-ready : Sound art t₂ × (1 ≤ at) × (at ≤ symbol_count t₂) × Free at t₂ × (row_count t₂ + 1 < most_rows) × SettledRow (symbol_count t₂) row
      keep-ready = (
        n.sound,
        low,
        rw (later-count both) high,
        free_stays at s.sound.few n.stays (free_stays at so.few s.stays free),
        rw rows_same fit,
        subst (λ (x : ℕ). SettledRow x row) (sym (later-count both)) ok,
      )

      module _ {t₃ : Sparse} (k : Keeps art at row t₂ t₃) (on-is : on ≡ (is_external (symbol_at t₁ at) && ne (get_or row 0 nan) zero64)) where
        abbrev D : ℕ → Symbol → Work → Work
        D c x w = with_rows (keep_row (record { symbol = x; row = dense.row_of c row }) w.tableau.rows) w

        abbrev S : Mark → ℕ → Work
        S a v = substitute (symbol_at t at).id (dense.row_of (symbol_count t) row) (work_of art a v t)

        noted-is : (a : Mark) (v : ℕ) → work_of art (worse a m) v t₂ ≡ cond (is_external (symbol_at t at) && ne (get_or row 0 nan) zero64) (note (symbol_at t at).id (S a v)) (S a v)
        noted-is a v = n.reads (worse a m) v ∙ rw (on-is, s.reads a v, later-symbol (later-stays s.stays) at near) refl

        entered : (a : Mark) (v : ℕ) → D (symbol_count t) (symbol_at t at) (cond (is_external (symbol_at t at) && ne (get_or row 0 nan) zero64) (note (symbol_at t at).id (S a v)) (S a v))
            ≡ enter_basis (symbol_at t at) (dense.row_of (symbol_count t) row) (work_of art a v t)
        unfolding enter_basis dense.row_of
        entered a v = refl

        pub enter-calls : Enters art at row t t₃ m
        enter-calls = record {
          reads = λ a v. k.reads (worse a m) v ∙ rw (later-count both, later-symbol both at near, noted-is a v) (entered a v);
          sound = k.sound;
          later = later-then both (later-alone k.alone);
          more = k.more ∙ rw rows_same refl;
          kept = kept_then s.kept (kept_then n.kept k.kept);
        }
