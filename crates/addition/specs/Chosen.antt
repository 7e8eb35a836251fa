-- Steps 4 to 6: a new row by its subject, and what each way to add it asks.
-- Assumes nothing.
use Rattle.std.specs.Prelude.{ℕ, ◌≤◌, ◌≡◌, Bool, true, List, get_or, Float}
use Rattle.std.proofs.Math.Path.{refl, ap}
use Rattle.std.proofs.Common.{sym, ◌∙◌}
use Rattle.std.proofs.Math.Bool.{false}
use Rattle.std.proofs.Math.Option.{Option, none, some}
use Rattle.std.specs.Float.{nan}
use Rattle.steps.specs.Number.{near_zero, Mark}
use Rattle.steps.specs.Symbol.{Symbol}
use Rattle.steps.specs.Work.{Work, Outcome, refuse}
use Rattle.steps.specs.CreateRow.{Created, choose_subject, all_dummies}
use Rattle.steps.specs.Artificial.{add_with_artificial_variable}
use Rattle.steps.specs.Add.{add_with_subject, add_created}
use Rattle.keeps.specs.Passes as passes
use Rattle.keeps.specs.Creating.{subject-free}
use Rattle.rows.specs.declared.number.Wrote.{Wrote}
use Rattle.rows.specs.Marks.{mark_of}
use Rattle.rows.specs.Reading as dense
use Rattle.rows.specs.choose.Choose.{Found}
use Rattle.std.specs.Prelude.{Some, None}
use Rattle.rows.specs.choose.Better.{within}
use Rattle.rows.specs.choose.Choose.{Within, on_found}
use Rattle.sparse.specs.Sparse.{Sparse, symbol_count, symbol_at, read}
use Rattle.waist.specs.Working.{work_of, cutoff_of}
use Rattle.waist.specs.Ending.{Ended, outcome_of, Goes, ended, is-refused}
use Rattle.waist.specs.FreePlaces.{free-times}
use Rattle.waist.specs.Tags.{tag_at}
use Rattle.addition.specs.Adding.{created_by, Open, Made}
use Rattle.addition.specs.Symbols.{rows_are}

-- ---- the steps, by what is chosen

-- "refuse 12 unless the constant is near zero, else the subject is the marker"
abbrev dummies : Symbol → Created → Bool → Outcome Work
dummies s c b = elim b [ false ↦ refuse 12 c.work | true ↦ add_with_subject s c ]

abbrev pub dummies_of : Symbol → Created → Outcome Work
dummies_of s c = dummies s c (near_zero c.work.tableau.cutoff c.row.constant)

abbrev unchosen : ℕ → Created → Bool → Outcome Work
unchosen budget c b = elim b [ false ↦ add_with_artificial_variable budget c | true ↦ dummies_of c.tag.marker c ]

-- without a subject: "all cells are dummies", or not
abbrev pub unchosen_of : ℕ → Created → Outcome Work
unchosen_of budget c = unchosen budget c (all_dummies c)

abbrev chosen : ℕ → Created → Option Symbol → Outcome Work
chosen budget c o = elim o [ some s ↦ add_with_subject s c | none ↦ unchosen_of budget c ]

created-is : (budget : ℕ) (c : Created) → chosen budget c (choose_subject c) ≡ add_created budget c
unfolding add_created
created-is budget c = refl

module _ (past : Wrote) (t : Sparse) (row : List Float) where
  abbrev a : Mark
  a = mark_of past

  abbrev before : Work
  before = work_of false a 0 t

  open_by : (p : ℕ) → 1 ≤ p → p ≤ symbol_count t → passes.Free before (symbol_at t p) → Open p t
  open_by p low high f = record { low = low; high = high; free = free-times t p (rw (rows_are false a 0 t) at f.free) }

  module _ (marker other : ℕ) where
    abbrev c : Created
    c = created_by a marker other t row

    -- ---- all cells are dummies

    pub dummies-enter : {b : Bool} → b ≡ near_zero (cutoff_of t) (get_or row 0 nan) → b ≡ true → (r : Ended) (z : Sparse) → outcome_of false r z ≡ add_with_subject (symbol_at t marker) c
        → outcome_of false r z ≡ dummies_of (symbol_at t marker) c
    unfolding dense.row_of work_of read
    dummies-enter k on r z o = o ∙ ap (dummies (symbol_at t marker) c) (sym on ∙ k)

    pub dummies-refused : {b : Bool} → b ≡ near_zero (cutoff_of t) (get_or row 0 nan) → b ≡ false → (outcome_of false (ended 12 0 past) t ≡ dummies_of (symbol_at t marker) c) × Goes false (ended 12 0 past) t
    unfolding dense.row_of refuse work_of read
    dummies-refused k off = (is-refused false (ended 12 0 past) t refl ∙ ap (dummies (symbol_at t marker) c) (sym off ∙ k), tt)

    -- ---- no subject

    module _ (budget : ℕ) {b : Bool} (k : b ≡ all_dummies c) (r : Ended) (z : Sparse) where
      pub all-dummies : b ≡ true → outcome_of false r z ≡ dummies_of (symbol_at t marker) c → outcome_of false r z ≡ unchosen_of budget c
      unfolding tag_at
      all-dummies on o = o ∙ ap (unchosen budget c) (sym on ∙ k)

      pub some-other : b ≡ false → outcome_of false r z ≡ add_with_artificial_variable budget c → outcome_of false r z ≡ unchosen_of budget c
      some-other off o = o ∙ ap (unchosen budget c) (sym off ∙ k)

    -- ---- the subject

    module _ (m : Made a marker other t row) where
      pub marker-open : Open marker t
      marker-open = open_by marker m.low m.high (unfold tag_at in m.tagged.marker)

      module _ {f : Found} (q : choose_subject c ≡ on_found (λ p. some (symbol_at t p)) none f) where
        module _ (p : ℕ) (e : f ≡ Some p) where
          chosen_is : choose_subject c ≡ some (symbol_at t p)
          chosen_is = q ∙ ap (on_found (λ p. some (symbol_at t p)) none) e

          pub chosen-open : Within (symbol_count t) f → Open p t
          chosen-open k = let b = within k e in open_by p b.0 b.1 (subject-free m.K m.U m.N m.L c m.tagged (symbol_at t p) chosen_is)

          pub chosen-added : (budget : ℕ) (r : Ended) (z : Sparse) → outcome_of false r z ≡ add_with_subject (symbol_at t p) c → outcome_of false r z ≡ add_created budget c
          chosen-added budget r z o = o ∙ ap (chosen budget c) (sym chosen_is) ∙ created-is budget c

        pub unchosen-added : f ≡ None → (budget : ℕ) (r : Ended) (z : Sparse) → outcome_of false r z ≡ unchosen_of budget c → outcome_of false r z ≡ add_created budget c
        unchosen-added e budget r z o = o ∙ ap (chosen budget c) (sym (q ∙ ap (on_found (λ p. some (symbol_at t p)) none) e)) ∙ created-is budget c
