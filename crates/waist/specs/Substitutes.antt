-- What the code's substitution promises, and that its calls together keep it.
-- Assumes nothing.
use Rattle.std.specs.Prelude.{ℕ, ◌+◌, ◌-◌, ◌≤◌, ◌<◌, ◌≡◌, Bool, List, Float, length, get_or, set}
use Rattle.std.proofs.Math.Path.{refl}
use Rattle.std.proofs.Common.{sym, ap, ◌∙◌, subst, arith}
use Rattle.std.specs.Float.{nan}
use Rattle.laws.specs.Lists.{tab}
use Rattle.steps.specs.Number.{zero64, Mark, all_whole, worse}
use Rattle.steps.specs.Substitute.{substitute}
use Rattle.rows.specs.Reading as dense
use Rattle.sparse.specs.Places.{most_variables, cell_count_at, should_clear_at, changed_at, constraint_strengths_at}
use Rattle.sparse.specs.Sparse.{Sparse, symbol_count, row_count, cell_count, symbol_at}
use Rattle.layout.specs.cells.Names.{cell_room, row_room, last_place}
use Rattle.layout.specs.cells.Cells.{cells, packed, row_of}
use Rattle.waist.specs.merging.Merge.{other_cell}
use Rattle.waist.specs.substituting.Lines.{Lines, lines, lines_in}
use Rattle.waist.specs.substituting.Passed.{Alike}
use Rattle.waist.specs.substituting.Loose.{SettledRow, loose_none, loose-reads}
use Rattle.waist.specs.substituting.Objective.{aim, objective_in}
use Rattle.waist.specs.substituting.Notes.{noted, note_rows}
use Rattle.waist.specs.Working.{sparse, work_of, cutoff_of, lines_of, Sound}
use Rattle.waist.specs.Owning.{Kept}
use Rattle.waist.specs.Agreeing.{work-same, sound-same, kept_same}
use Rattle.waist.specs.SubstituteReads.{substituted_in, substituted_mark, size_is, word, byte, later-byte, later-real, substitute-reads, substitute-keeps, substitute-sound}

-- but for the notes' flag and the count of cells, the words stay; so do the bytes but for the flags, and the reals of the stored constraints and edits
pub record Stays (t u : Sparse) : Type 0 where
  pub words : (q : ℕ) → (q ≡ should_clear_at → ⊥) → (q ≡ cell_count_at → ⊥) → get_or u.words q 0 ≡ get_or t.words q 0
  pub bytes : (q : ℕ) → q < changed_at → get_or u.bytes q 0 ≡ get_or t.bytes q 0
  pub later : (q : ℕ) → changed_at + most_variables ≤ q → get_or u.bytes q 0 ≡ get_or t.bytes q 0
  pub reals : (q : ℕ) → constraint_strengths_at ≤ q → get_or u.reals q nan ≡ get_or t.reals q nan

-- "Do this in all rows, the objective and any artificial objective.": the symbol stands at place `at`, the row is dense
pub record Substitutes (art : Bool) (at : ℕ) (row : List Float) (t u : Sparse) (m : Mark) : Type 0 where
  pub reads : (a : Mark) (v : ℕ) → work_of art (worse a m) v u ≡ substitute (symbol_at t at).id (dense.row_of (symbol_count t) row) (work_of art a v t)
  pub sound : Sound art u
  pub stays : Stays t u
  pub kept : Kept t u

module _ (art : Bool) (at : ℕ) (row : List Float) (t : Sparse) (so : Sound art t) (low : 1 ≤ at) (high : at ≤ symbol_count t) (ok : SettledRow (symbol_count t) row)
    (cols₀ cols : List ℕ) (others₀ others : List Float) (m : ℕ) (lc : length cols₀ ≡ row_room) (lo : length others₀ ≡ row_room) (e : cells cols others m ≡ packed (symbol_count t) 0 row (cells cols₀ others₀ 0)) where
  abbrev j : ℕ
  j = at - 1

  abbrev y : Float
  y = get_or row 0 nan

  from-1 : 1 + j ≡ at
  from-1 = omega (arith, low)

  live : j < symbol_count t
  live = omega (arith, low, high)

  past : (p : ℕ) → symbol_count t < p → p ≤ last_place → other_cell cols others m p ≡ zero64
  past = loose_none (symbol_count t) row cols₀ cols others₀ others m so.named.few-symbols lc lo e

  same : row_of cols others m (symbol_count t) 0 ≡ tab (λ p. get_or row p nan) 1 (symbol_count t)
  same = loose-reads (symbol_count t) row cols₀ cols others₀ others m so.named.few-symbols lc lo e ok

  abbrev u : Sparse
  u = substituted_in art j row t so live m cols others past same

  done : Substitutes art at row t u (substituted_mark art j row t so live m cols others past same)
  done = record {
    reads = λ a v.
        subst (λ (x : ℕ). work_of art (worse a (substituted_mark art j row t so live m cols others past same)) v u ≡ substitute (symbol_at t x).id (dense.row_of (symbol_count t) row) (work_of art a v t)) from-1
        (substitute-reads art j row t so live m cols others past same a v);
    sound = substitute-sound art j row t so live m cols others past same;
    stays = record {
      words = word art j row t so live m cols others past same;
      bytes = byte art j row t so live m cols others past same;
      later = later-byte art j row t so live m cols others past same;
      reals = later-real art j row t so live m cols others past same;
    };
    kept = substitute-keeps art j row t so live m cols others past same;
  }

  abbrev Notes : List ℕ → List ℕ → Type 0
  Notes ws bs = noted ws bs ≡ note_rows at y (cell_count t) t.keys t.values (row_count t) (noted t.words t.bytes)

  abbrev Merges : List ℕ → List Float → ℕ → List Float → Mark → Type 0
  Merges ks vs size rs a = lines ks vs size rs a ≡ lines_in (cutoff_of t) at m y cols others (lines_of art t) (lines t.keys t.values (cell_count t) t.reals all_whole)

  abbrev Aims : List Float → List Float → Mark → Type 0
  Aims rs rs' b = aim rs' b ≡ objective_in (cutoff_of t) at (symbol_count t) row rs

  tables-are : (ws ws' ks bs : List ℕ) (rs rs' vs : List Float) (size : ℕ) (a b : Mark) → Notes ws bs → Merges ks vs size rs a → Aims rs rs' b → ws' ≡ set ws cell_count_at size → sparse ws' ks bs rs' vs ≡ u
  unfolding substituted_in
  tables-are ws ws' ks bs rs rs' vs size a b n l o h = rw (from-1, ← n, ← l, ← o, h) refl

  mark-is : (ks : List ℕ) (rs rs' vs : List Float) (size : ℕ) (a b : Mark) → Merges ks vs size rs a → Aims rs rs' b → worse a b ≡ substituted_mark art j row t so live m cols others past same
  unfolding substituted_mark
  mark-is ks rs rs' vs size a b l o = rw (from-1, ← l, ← o) refl

  -- the lines, as the definitions have them
  abbrev l₁ : Lines
  l₁ = lines_in (cutoff_of t) at m y cols others (lines_of art t) (lines t.keys t.values (cell_count t) t.reals all_whole)

  size-now : cell_count u ≡ l₁.size
  size-now = subst (λ (x : ℕ). cell_count u ≡ (lines_in (cutoff_of t) x m y cols others (lines_of art t) (lines t.keys t.values (cell_count t) t.reals all_whole)).size) from-1 (size_is art j row t so live m cols others past same)

  -- what the code leaves has the same cells, whatever stands past them
  same-substitutes : (ws ks bs : List ℕ) (rs vs : List Float) (c : Mark) → get_or ws cell_count_at 0 ≡ l₁.size → ((q : ℕ) → q < l₁.size → get_or ks q 0 ≡ get_or l₁.keys q 0) → ((q : ℕ) → q < l₁.size → get_or vs q nan ≡ get_or l₁.vals q nan)
      → length ks ≡ cell_room → length vs ≡ cell_room → Substitutes art at row t (sparse ws l₁.keys bs rs l₁.vals) c → Substitutes art at row t (sparse ws ks bs rs vs) c
  same-substitutes ws ks bs rs vs c z k v lk lv d =
      let k₁ : (q : ℕ) → q < get_or ws cell_count_at 0 → get_or ks q 0 ≡ get_or l₁.keys q 0 = λ q l. k q (rw z at l) in
      let v₁ : (q : ℕ) → q < get_or ws cell_count_at 0 → get_or vs q nan ≡ get_or l₁.vals q nan = λ q l. v q (rw z at l) in
      record {
        reads = λ a x. work-same ws l₁.keys ks bs rs l₁.vals vs k₁ v₁ art (worse a c) x ∙ d.reads a x;
        sound = sound-same ws l₁.keys ks bs rs l₁.vals vs k₁ v₁ art lk lv d.sound;
        stays = let w = d.stays in record { words = w.words; bytes = w.bytes; later = w.later; reals = w.reals };
        kept = kept_same ws l₁.keys ks bs rs l₁.vals vs k₁ v₁ d.kept;
      }

  pub substitute-calls : (count : ℕ) (ws ws' ks bs : List ℕ) (rs rs' vs : List Float) (size : ℕ) (a b : Mark) {c : Mark} → count ≡ lines_of art t → Notes ws bs
      → Alike (lines ks vs size rs a) (lines_in (cutoff_of t) at m y cols others count (lines t.keys t.values (cell_count t) t.reals all_whole)) → Aims rs rs' b → ws' ≡ set ws cell_count_at size → c ≡ worse a b → Substitutes art at row t (sparse ws' ks bs rs' vs) c
  substitute-calls count ws ws' ks bs rs rs' vs size a b {c} f n g o h q =
      let l : Alike (lines ks vs size rs a) l₁ = subst (λ (z : ℕ). Alike (lines ks vs size rs a) (lines_in (cutoff_of t) at m y cols others z (lines t.keys t.values (cell_count t) t.reals all_whole))) f g in
      let o₁ : Aims l₁.reals rs' b = subst (λ (z : List Float). Aims z rs' b) l.reals o in
      let h₁ : ws' ≡ set ws cell_count_at l₁.size = h ∙ ap (set ws cell_count_at) l.size in
      let e : sparse ws' l₁.keys bs rs' l₁.vals ≡ u = tables-are ws ws' l₁.keys bs l₁.reals rs' l₁.vals l₁.size l₁.mark b n refl o₁ h₁ in
      let z : get_or ws' cell_count_at 0 ≡ l₁.size = ap (λ (s : Sparse). get_or s.words cell_count_at 0) e ∙ size-now in
      let k : c ≡ substituted_mark art j row t so live m cols others past same = q ∙ ap (λ (x : Mark). worse x b) l.mark ∙ mark-is l₁.keys l₁.reals rs' l₁.vals l₁.size l₁.mark b refl o₁ in
      same-substitutes ws' ks bs rs' vs c z l.keys l.vals l.wide l.wides
      (subst (λ (x : Mark). Substitutes art at row t (sparse ws' l₁.keys bs rs' l₁.vals) x) (sym k)
      (subst (λ (x : Sparse). Substitutes art at row t x (substituted_mark art j row t so live m cols others past same)) (sym e) done))
