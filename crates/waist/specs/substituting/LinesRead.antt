-- The lines after a substitution read as the steps say: each row substituted, and the marks one after the other.
-- Assumes nothing.
use Rattle.std.specs.Prelude.{ℕ, suc, ◌+◌, ◌*◌, ◌≤◌, ◌<◌, ◌≡◌, Bool, List, ltb, Float}
use Rattle.std.proofs.Math.Path.{refl, sym, ap}
use Rattle.std.proofs.Common.{◌∙◌, subst, ltb-true, ltb-false}
use Rattle.std.proofs.Math.Bool.{true, false, cond}
use native.Mathlib.Omega.{arith}
use Rattle.std.specs.Float.Ieee.{nan, ne}
use Rattle.std.proofs.Math.ListN.{length, get_or, length-set}
use Rattle.std.proofs.Math.Seq.{get_or-set_same, get_or-set_other}
use Rattle.laws.specs.Loops.{run, run-next, run-last}
use Rattle.laws.specs.Lists.{tab, length-tab, get_or-tab}
use Rattle.steps.specs.Number.{zero64, ◌*₆₄◌, Mark, worse}
use Rattle.steps.specs.Symbol.{Symbol, absent, coefficient_for}
use Rattle.steps.specs.Row.{Row, Written, untouched}
use Rattle.steps.specs.Substitute.{substitute_in_row}
use Rattle.rows.specs.Marks.{worse-unit}
use Rattle.rows.specs.Place.{PlaceOf, place-below, coefficient-at}
use Rattle.sparse.specs.Places.{most_rows, constants_at, reals_size}
use Rattle.layout.specs.cells.Names.{row_span, last_place}
use Rattle.layout.specs.cells.Cells.{cell_at, row_of}
use Rattle.layout.specs.cells.Seek.{run-inv}
use Rattle.layout.specs.cells.Replaced.{replaced-other}
use Rattle.waist.specs.merging.Merge.{other_cell, merged_row, own_in, merged_into}
use Rattle.waist.specs.merging.Substituted.{substituted}
use Rattle.waist.specs.substituting.Held.{held-room}
use Rattle.waist.specs.substituting.Notes.{changes}
use Rattle.waist.specs.substituting.Lines.{Lines, held_by, total_of, line_with, line_in, lines_in, HeldIn, held-line}

-- line q as the steps have it, along w symbols
unfoldable pub line_of : ℕ → Lines → ℕ → Row
line_of w t q = record { constant = get_or t.reals (constants_at + q) nan; cells = row_of t.keys t.vals t.size w q }

substitute-none : (cutoff : Float) (s : ℕ) (symbols : List Symbol) (other mine : Row) → absent (coefficient_for s symbols mine.cells) ≡ true → substitute_in_row cutoff s symbols other mine ≡ untouched mine
unfolding substitute_in_row
substitute-none cutoff s symbols other mine h = rw (h, substitute_in_row) refl

-- s stands at place 1 + j of w; the row that is inserted is loose, and has no cell past them
module _ (cutoff : Float) (s : ℕ) (symbols : List Symbol) (j w m : ℕ) (y : Float) (cols : List ℕ) (others : List Float) (place : PlaceOf s symbols j) (ls : length symbols ≡ w) (lw : w ≤ last_place)
    (none : (p : ℕ) → w < p → p ≤ last_place → other_cell cols others m p ≡ zero64) where
  abbrev loose : Row
  loose = record { constant = y; cells = row_of cols others m w 0 }

  -- the step on line q
  abbrev pub step_of : Lines → ℕ → Written
  step_of t q = substitute_in_row cutoff s symbols loose (line_of w t q)

  abbrev turn : ℕ → Lines → Lines
  turn = line_in cutoff (1 + j) m y cols others

  below : j < w
  below = rw ls at (place-below s symbols j place)

  module _ (count i : ℕ) (t : Lines) (h : HeldIn count t) (few : count ≤ most_rows) (first : 1 ≤ i) (last : i ≤ count) (long : length t.reals ≡ reals_size) where
    abbrev k : Float
    k = held_by cutoff (1 + j) m y cols others i t

    abbrev with-k : Lines
    with-k = line_with cutoff (1 + j) m y cols others k i t

    held-is : k ≡ coefficient_for s symbols (row_of t.keys t.vals t.size w i)
    unfolding held_by row_of
    held-is =
        sym (coefficient-at s symbols j (tab (λ p. cell_at t.keys t.vals t.size (i * row_span + p)) 1 w) nan place (length-tab _ 1 w ∙ sym ls)
        ∙ get_or-tab (λ p. cell_at t.keys t.vals t.size (i * row_span + p)) 1 w j nan below)

    room : t.size + last_place ≤ length t.keys
    room = let f = held-room count t.size t.keys t.vals h few in let v = h.wide in omega (arith, f, v)

    rooms : t.size + last_place ≤ length t.vals
    rooms = let f = held-room count t.size t.keys t.vals h few in let v = h.wides in omega (arith, f, v)

    in-reals : constants_at + i < length t.reals
    in-reals = omega (arith, long, few, last)

    -- where the line holds s
    step-held : absent k ≡ false → (line_of w with-k i ≡ (step_of t i).row) × (with-k.mark ≡ worse t.mark (step_of t i).mark)
    unfolding line_of line_with total_of
    step-held a =
        let q = substituted cutoff t.size i j m w k t.keys t.vals cols others h.up h.present room rooms lw s symbols place ls (get_or t.reals (constants_at + i) nan) y held-is a none in
        let c = get_or-set_same t.reals (constants_at + i) (total_of cutoff (1 + j) m y cols others k i t.reals) nan in-reals in
        (rw c (ap (λ (z : Written). z.row) q), ap (λ (z : Written). worse t.mark z.mark) q)

    step-none : absent k ≡ true → step_of t i ≡ untouched (line_of w t i)
    unfolding line_of
    step-none a = substitute-none cutoff s symbols loose (line_of w t i) (subst (λ (x : Float). absent x ≡ true) held-is a)

    pub line_row : line_of w (turn i t) i ≡ (step_of t i).row
    unfolding line_in untouched
    line_row = go (absent k) refl
      where
        go : (b : Bool) → absent k ≡ b → line_of w (cond b t with-k) i ≡ (step_of t i).row
        go true a = sym (ap (λ (z : Written). z.row) (step-none a))
        go false a = (step-held a).0

    pub line-mark : (turn i t).mark ≡ worse t.mark (step_of t i).mark
    unfolding line_in untouched
    line-mark = go (absent k) refl
      where
        go : (b : Bool) → absent k ≡ b → (cond b t with-k).mark ≡ worse t.mark (step_of t i).mark
        go true a = sym (ap (λ (z : Written). worse t.mark z.mark) (step-none a) ∙ worse-unit t.mark)
        go false a = (step-held a).1

    -- "Constant changed"
    pub step-changed : (step_of t i).constant_changed ≡ changes k y
    unfolding changes untouched line_of
    step-changed = go (absent k) refl
      where
        go : (b : Bool) → absent k ≡ b → (step_of t i).constant_changed ≡ cond b false (ne (y *₆₄ k) zero64)
        go true a = ap (λ (z : Written). z.constant_changed) (step-none a)
        go false a = sym (ap (λ (z : Written). z.constant_changed) (substituted cutoff t.size i j m w k t.keys t.vals cols others h.up h.present room rooms lw s symbols place ls (get_or t.reals (constants_at + i) nan) y held-is a none))

    pub line-reals : (q : ℕ) → (q ≡ constants_at + i → ⊥) → get_or (turn i t).reals q nan ≡ get_or t.reals q nan
    unfolding line_in line_with
    line-reals q d = go (absent k)
      where
        go : (b : Bool) → get_or (cond b t with-k).reals q nan ≡ get_or t.reals q nan
        go true = refl
        go false = get_or-set_other t.reals (constants_at + i) q (total_of cutoff (1 + j) m y cols others k i t.reals) nan d

    pub line-long : length (turn i t).reals ≡ reals_size
    unfolding line_in line_with
    line-long = go (absent k)
      where
        go : (b : Bool) → length (cond b t with-k).reals ≡ reals_size
        go true = long
        go false = length-set t.reals (constants_at + i) (total_of cutoff (1 + j) m y cols others k i t.reals) ∙ long

    other-cells : (q : ℕ) → (q ≡ i → ⊥) → row_of (turn i t).keys (turn i t).vals (turn i t).size w q ≡ row_of t.keys t.vals t.size w q
    unfolding line_in line_with merged_into
    other-cells q d = go (absent k)
      where
        go : (b : Bool) → row_of (cond b t with-k).keys (cond b t with-k).vals (cond b t with-k).size w q ≡ row_of t.keys t.vals t.size w q
        go true = refl
        go false = replaced-other t.size i last_place (merged_row cutoff k (own_in t.size i (1 + j) t.keys t.vals) (other_cell cols others m)) t.keys t.vals q w d (omega (arith, lw)) (h.up, omega arith, room, rooms)

    pub line_other : (q : ℕ) → (q ≡ i → ⊥) → line_of w (turn i t) q ≡ line_of w t q
    unfolding line_of
    line_other q d = rw (other-cells q d, line-reals (constants_at + q) (λ e. d (omega (arith, e)))) refl

  -- ---- all lines

  module _ (count : ℕ) (t₀ : Lines) (few : count ≤ most_rows) where
    abbrev marked : ℕ → Mark → Mark
    marked q a = worse a (step_of t₀ q).mark

    record Going (i : ℕ) (t : Lines) : Type 0 where
      held : HeldIn count t
      done : (q : ℕ) → 1 ≤ q → q < i → line_of w t q ≡ (step_of t₀ q).row
      rest : (q : ℕ) → i ≤ q → line_of w t q ≡ line_of w t₀ q
      marks : run marked i (count + 1) t.mark ≡ run marked 1 (count + 1) t₀.mark
      beyond : (q : ℕ) → constants_at + count < q → get_or t.reals q nan ≡ get_or t₀.reals q nan
      long : length t.reals ≡ reals_size

    going_on : (i : ℕ) (t : Lines) → 1 ≤ i → i < count + 1 → Going i t → Going (suc i) (turn i t)
    going_on i t u v g =
        let last : i ≤ count = omega (arith, v) in
        let o : i + 1 ≡ suc i = omega arith in
        let same : line_of w t i ≡ line_of w t₀ i = g.rest i (omega arith) in
        record {
          held = held-line cutoff (1 + j) m y cols others count i few u last t g.held;
          done = λ q a b. done q a b (ltb q i) refl;
          rest = λ q b. line_other count i t g.held few u last g.long q (λ e. omega (arith, e, b)) ∙ g.rest q (omega (arith, b));
          marks = subst (λ (z : ℕ). run marked z (count + 1) (turn i t).mark ≡ run marked 1 (count + 1) t₀.mark) o
              (run-next marked i (count + 1) t.mark v (line-mark count i t g.held few u last g.long ∙ ap (λ (r : Row). worse t.mark (substitute_in_row cutoff s symbols loose r).mark) same) g.marks);
          beyond = λ q b. line-reals count i t g.held few u last g.long q (λ e. omega (arith, e, b, last)) ∙ g.beyond q b;
          long = line-long count i t g.held few u last g.long;
        }
      where
        done : (q : ℕ) → 1 ≤ q → q < suc i → (b : Bool) → ltb q i ≡ b → line_of w (turn i t) q ≡ (step_of t₀ q).row
        done q a b true e =
            let l = ltb-true q i e in
            line_other count i t g.held few u (omega (arith, v)) g.long q (λ z. omega (arith, z, l)) ∙ g.done q a l
        done q a b false e =
            let z : i ≡ q = omega (arith, b, ltb-false q i e) in
            subst (λ (x : ℕ). line_of w (turn i t) x ≡ (step_of t₀ x).row) z
            (line_row count i t g.held few u (omega (arith, v)) g.long ∙ ap (λ (r : Row). (substitute_in_row cutoff s symbols loose r).row) (g.rest i (omega arith)))

    module _ (h : HeldIn count t₀) (long₀ : length t₀.reals ≡ reals_size) where
      abbrev t₁ : Lines
      t₁ = lines_in cutoff (1 + j) m y cols others count t₀

      going : Going (count + 1) t₁
      unfolding lines_in
      going =
          run-inv Going turn 1 (count + 1) t₀ (omega arith) going_on
          record { held = h; done = λ q a b. absurd (omega (arith, a, b)); rest = λ q b. refl; marks = refl; beyond = λ q b. refl; long = long₀ }

      pub lines-held : HeldIn count t₁
      lines-held = going.held

      pub lines-row : (q : ℕ) → 1 ≤ q → q ≤ count → line_of w t₁ q ≡ (step_of t₀ q).row
      lines-row q a b = going.done q a (omega (arith, b))

      pub lines-mark : t₁.mark ≡ run marked 1 (count + 1) t₀.mark
      lines-mark = run-last marked (count + 1) (count + 1) t₁.mark (omega arith) going.marks

      pub lines-beyond : (q : ℕ) → constants_at + count < q → get_or t₁.reals q nan ≡ get_or t₀.reals q nan
      lines-beyond = going.beyond

      pub lines_long : length t₁.reals ≡ reals_size
      lines_long = going.long
