-- Add's subject, and whether all cells of a new row are dummies, on what the tables read as.
-- Assumes nothing.
use Rattle.std.specs.Prelude.{ℕ, ◌+◌, ◌-◌, ◌≤◌, ◌≡◌, ◌&&◌, List, Float, get_or}
use Rattle.std.proofs.Math.Path.{refl, sym, ap}
use Rattle.std.proofs.Common.{◌∙◌, arith}
use Rattle.std.proofs.Math.Bool.{Bool, true, false, cond}
use Rattle.std.proofs.Math.Option.{Option, none, some}
use Rattle.std.proofs.Math.Dec.{eqb}
use Rattle.std.specs.Float.{nan}
use borrow.Author.Tests.{eqb-false}
use Rattle.steps.specs.Number.{Mark, below_zero}
use Rattle.steps.specs.Symbol.{Symbol, is_pivotable, coefficient_for}
use Rattle.steps.specs.CreateRow.{Created, negative_tag, choose_subject, all_dummies}
use Rattle.layout.specs.Layout.{cells_of}
use Rattle.rows.specs.Reading as dense
use Rattle.rows.specs.choose.Choose.{Found}
use Rattle.std.specs.Prelude.{Some, None}
use Rattle.rows.specs.declared.choose.Want.TheVariants as want
use Rattle.rows.specs.choose.Choose.{Within, on_found, wants, is_nothing, or_else}
use Rattle.rows.specs.choose.Steps.{picked, on_some}
use Rattle.sparse.specs.Places.{kinds_at}
use Rattle.sparse.specs.Sparse.{Sparse, symbol_count, symbol_at, other_at, symbols_of, read}
use Rattle.sparse.specs.Widths.{symbols-read}
use Rattle.waist.specs.substituting.Named.{Named}
use Rattle.waist.specs.Working.{work_of, live-place}
use Rattle.waist.specs.Looks.{of_kind, seen, look_of, look-chosen}
use Rattle.waist.specs.Choices.{named}
use Rattle.waist.specs.Tags.{tag_at}

-- "slack or Error with negative cell", of the tag's symbol at place p
unfoldable pub negative_of : ℕ → List ℕ → List Float → Found
negative_of p bytes row = cond (is_pivotable (of_kind (get_or bytes (kinds_at + p) 0)) && below_zero (get_or row p nan)) (Some p) None

-- "first External; else marker if slack or Error with negative cell; else other likewise"; 0 is no other
unfoldable pub subject_of : ℕ → ℕ → List ℕ → List ℕ → List Float → Found
subject_of marker other words bytes row = or_else (look_of want.External false words bytes row) (or_else (negative_of marker bytes row) (cond (eqb other 0) None (negative_of other bytes row)))

pub negative-within : (p n : ℕ) (bytes : List ℕ) (row : List Float) → 1 ≤ p → p ≤ n → Within n (negative_of p bytes row)
unfolding negative_of
negative-within p n bytes row a b = go (is_pivotable (of_kind (get_or bytes (kinds_at + p) 0)) && below_zero (get_or row p nan))
  where
    go : (c : Bool) → Within n (cond c (Some p) None)
    go true = (a, b)
    go false = tt

-- ---- the code's branches, over variables

module _ (p : ℕ) (bytes : List ℕ) (row : List Float) {b : Bool} (q : b ≡ (is_pivotable (of_kind (get_or bytes (kinds_at + p) 0)) && below_zero (get_or row p nan))) where
  pub tag-is : cond b (Some p) None ≡ negative_of p bytes row
  unfolding negative_of
  tag-is = rw (← q) refl

module _ (marker other : ℕ) (words bytes : List ℕ) (row : List Float) {f : Found} (qf : f ≡ look_of want.External false words bytes row) where
  pub subject-external : {i : ℕ} → f ≡ Some i → f ≡ subject_of marker other words bytes row
  unfolding subject_of
  subject-external e = rw (← qf, e)

  module _ {m : Found} (nf : f ≡ None) (qm : m ≡ negative_of marker bytes row) where
    pub subject-marker : {i : ℕ} → m ≡ Some i → m ≡ subject_of marker other words bytes row
    unfolding subject_of
    subject-marker e = rw (← qf, nf, ← qm, e)

    pub subject-none : m ≡ None → eqb other 0 ≡ true → None ≡ subject_of marker other words bytes row
    unfolding subject_of
    subject-none e t = rw (← qf, nf, ← qm, e, t)

    pub subject-other : {o : Found} → m ≡ None → eqb other 0 ≡ false → o ≡ negative_of other bytes row → o ≡ subject_of marker other words bytes row
    unfolding subject_of
    subject-other e t qo = rw (← qf, nf, ← qm, e, t) qo

-- ---- on what the tables read as

abbrev is_first_of : Option Symbol → Option Symbol → Option Symbol
is_first_of a b = elim a [ some s ↦ some s | none ↦ b ]

abbrev if_so : Bool → Symbol → Option Symbol
if_so b s = elim b [ true ↦ some s | false ↦ none ]

so-first : (b : Bool) (s : Symbol) (o : Option Symbol) → elim b [ true ↦ some s | false ↦ o ] ≡ is_first_of (if_so b s) o
so-first true s o = refl
so-first false s o = refl

module _ (t : Sparse) (n : Named t.words t.bytes) (row : List Float) where
  first-named : (f g : Found) → is_first_of (named t f) (named t g) ≡ named t (on_found Some g f)
  first-named (Some i) g = refl
  first-named None g = refl

  abbrev cell : Symbol → Float
  cell s = coefficient_for s.id (symbols_of t) (cells_of (symbol_count t) row)

  -- the cell of a live symbol stands at its place
  cell-at : (p : ℕ) → 1 ≤ p → p ≤ symbol_count t → cell (symbol_at t p) ≡ get_or row p nan
  cell-at p low high =
      let q : 1 + (p - 1) ≡ p = omega (arith, low) in
      rw q at (dense.coefficient-read (symbol_at t (1 + (p - 1))).id (symbols_of t) (p - 1) (symbol_count t) row (live-place t n (p - 1) (omega (arith, low, high))) (symbols-read t))

  tag-chosen : (p : ℕ) → 1 ≤ p → p ≤ symbol_count t → if_so (is_pivotable (symbol_at t p) && below_zero (cell (symbol_at t p))) (symbol_at t p) ≡ named t (negative_of p t.bytes row)
  unfolding negative_of is_pivotable symbol_at
  tag-chosen p low high = ap (λ (x : Float). if_so (is_pivotable (symbol_at t p) && below_zero x) (symbol_at t p)) (cell-at p low high) ∙ by (is_pivotable (symbol_at t p) && below_zero (get_or row p nan))
    where
      by : (b : Bool) → if_so b (symbol_at t p) ≡ named t (cond b (Some p) None)
      by true = refl
      by false = refl

  abbrev other_taken : Option Symbol → Option Symbol
  other_taken o = picked (λ (s : Symbol). if_so (is_pivotable s && below_zero (cell s)) s) none o

  other-chosen : (o : ℕ) → o ≤ symbol_count t → other_taken (other_at t o) ≡ named t (cond (eqb o 0) None (negative_of o t.bytes row))
  unfolding other_at
  other-chosen o high = by (eqb o 0) refl
    where
      by : (b : Bool) → eqb o 0 ≡ b → other_taken (cond b none (some (symbol_at t o))) ≡ named t (cond b None (negative_of o t.bytes row))
      by true e = refl
      by false e = let d = eqb-false o 0 e in tag-chosen o (omega (arith, d)) high

  module _ (a : Mark) (v marker other : ℕ) where
    abbrev created : Created
    created = record { work = work_of false a v t; row = dense.row_of (symbol_count t) row; tag = tag_at t marker other }

    -- "Subject: first External; else marker if slack or Error with negative cell; else other likewise."
    pub subject-is : 1 ≤ marker → marker ≤ symbol_count t → other ≤ symbol_count t → {r : Found} → r ≡ subject_of marker other t.words t.bytes row → choose_subject created ≡ named t r
    unfolding choose_subject negative_tag subject_of wants seen work_of read dense.row_of tag_at
    subject-is low high high₁ {r} q =
        let m : Found = negative_of marker t.bytes row in
        let o : Found = cond (eqb other 0) None (negative_of other t.bytes row) in
        let e : Found = look_of want.External false t.words t.bytes row in
        let b : Bool = is_pivotable (symbol_at t marker) && below_zero (cell (symbol_at t marker)) in
        let c : Option Symbol = other_taken (other_at t other) in
        ap (λ (z : Option Symbol). is_first_of z (elim b [ true ↦ some (symbol_at t marker) | false ↦ c ])) (look-chosen t want.External false row)
        ∙ ap (λ (z : Option Symbol). is_first_of (named t e) z) (so-first b (symbol_at t marker) c
        ∙ ap (λ (z : Option Symbol). is_first_of z c) (tag-chosen marker low high)
        ∙ ap (λ (z : Option Symbol). is_first_of (named t m) z) (other-chosen other high₁)
        ∙ first-named m o)
        ∙ first-named e (on_found Some o m)
        ∙ ap (named t) (sym q)

    pub all-dummies-is : {r : Found} {b : Bool} → r ≡ look_of want.NonDummy false t.words t.bytes row → b ≡ is_nothing r → b ≡ all_dummies created
    unfolding all_dummies wants seen work_of read dense.row_of
    all-dummies-is q e =
        e ∙ ap is_nothing q
        ∙ sym (ap (λ (o : Option Symbol). picked (λ (s : Symbol). false) true o) (look-chosen t want.NonDummy false row)
        ∙ on_some (λ (s : Symbol). false) true (λ p. symbol_at t p) (look_of want.NonDummy false t.words t.bytes row))
