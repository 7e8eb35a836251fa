-- "Substitute s" in the objective, place by place; and it reads as the steps' substitute_in_cells.
-- Assumes nothing.
use Prim.Native.Nat.{ℕ, suc, ◌+◌, ◌≤◌, ◌<◌}
use Rattle.std.specs.Prelude.{◌≡◌, Bool, List, map, set}
use Rattle.std.proofs.Math.Path.{refl, sym, ap, subst}
use Rattle.std.proofs.Common.{◌∙◌, get_or-set_same}
use Rattle.std.proofs.Math.Bool.{true, false, cond}
use native.Mathlib.Omega.{arith}
use Rattle.std.proofs.Math.Dec.{ltb, eqb}
use Rattle.std.specs.Float.Ieee.{Float, nan}
use Rattle.std.proofs.Math.ListN.{length, get_or, length-set}
use Rattle.std.proofs.Math.Seq.{get_or-set_other}
use borrow.Author.Tests.{ltb-true, ltb-false, eqb-true, eqb-false}
use Rattle.laws.specs.Loops.{run, run-next, run-last}
use Rattle.laws.specs.Lists.{tab, tab-ext, length-tab, get_or-tab}
use Rattle.steps.specs.Number.{zero64, objective_bound, Mark, all_whole}
use Rattle.steps.specs.Symbol.{Symbol, absent, coefficient_for, clear_cell}
use Rattle.steps.specs.Row.{kept, cell_values, cell_marks, insert_times, insert_cells}
use Rattle.steps.specs.Substitute.{substitute_in_cells}
use Rattle.rows.specs.Place.{PlaceOf, place-below, coefficient-at, clear_at, kept-values, kept-marks}
use Rattle.rows.specs.Table.{inserted_value, inserted_mark}
use Rattle.rows.specs.Cells.{values-tab, insert-tab}
use Rattle.sparse.specs.Places.{objective_at, reals_size}
use Rattle.layout.specs.cells.Names.{last_place}
use Rattle.layout.specs.cells.Seek.{run-inv}
use Rattle.waist.specs.merging.Substituted.{cleared-tab, run-marks, first-mark}
use Rattle.waist.specs.merging.Merge.{own_value, mark_turn}

pub record Aim : Type 0 where
  pub reals : List Float
  pub mark : Mark

abbrev pub aim : List Float → Mark → Aim
aim r a = record { reals = r; mark = a }

-- o times k into the cell at place p
unfoldable pub aim_turn : Float → Float → List Float → ℕ → Aim → Aim
aim_turn cutoff k row p s =
    aim (set s.reals (objective_at + p) (inserted_value cutoff k (get_or s.reals (objective_at + p) nan) (get_or row p nan))) (inserted_mark cutoff objective_bound k s.mark (get_or s.reals (objective_at + p) nan) (get_or row p nan))

unfoldable pub aim_with : Float → Float → ℕ → ℕ → List Float → List Float → Aim
aim_with cutoff k at width row reals = run (aim_turn cutoff k row) 1 (width + 1) (aim (set reals (objective_at + at) zero64) all_whole)

unfoldable pub objective_in : Float → ℕ → ℕ → List Float → List Float → Aim
objective_in cutoff at width row reals = cond (absent (get_or reals (objective_at + at) nan)) (aim reals all_whole) (aim_with cutoff (get_or reals (objective_at + at) nan) at width row reals)

-- a turn of the code, over variables
pub aim-turn : (cutoff k : Float) (row : List Float) (p : ℕ) (r : List Float) (a : Mark) {r' : List Float} {b : Mark} → b ≡ inserted_mark cutoff objective_bound k a (get_or r (objective_at + p) nan) (get_or row p nan)
    → r' ≡ set r (objective_at + p) (inserted_value cutoff k (get_or r (objective_at + p) nan) (get_or row p nan)) → aim r' b ≡ aim_turn cutoff k row p (aim r a)
unfolding aim_turn
aim-turn cutoff k row p r a h e = rw (h, e)

-- the objective along w places, and a dense row along them
unfoldable pub objective_along : ℕ → List Float → List Float
objective_along w reals = tab (λ p. get_or reals (objective_at + p) nan) 1 w

module _ (cutoff k : Float) (w : ℕ) (row r₀ : List Float) (lw : w ≤ last_place) (long : length r₀ ≡ reals_size) where
  abbrev c : ℕ → Float
  c p = get_or r₀ (objective_at + p) nan

  abbrev o : ℕ → Float
  o p = get_or row p nan

  record Aiming (i : ℕ) (t : Aim) : Type 0 where
    done : (p : ℕ) → 1 ≤ p → p < i → get_or t.reals (objective_at + p) nan ≡ inserted_value cutoff k (c p) (o p)
    rest : (q : ℕ) → ((p : ℕ) → 1 ≤ p → p < i → q ≡ objective_at + p → ⊥) → get_or t.reals q nan ≡ get_or r₀ q nan
    marks : run (mark_turn cutoff objective_bound k c o) i (w + 1) t.mark ≡ run (mark_turn cutoff objective_bound k c o) 1 (w + 1) all_whole
    same : length t.reals ≡ reals_size

  aiming-on : (i : ℕ) (t : Aim) → 1 ≤ i → i < w + 1 → Aiming i t → Aiming (suc i) (aim_turn cutoff k row i t)
  unfolding aim_turn mark_turn
  aiming-on i t u v g =
      let here : get_or t.reals (objective_at + i) nan ≡ c i = g.rest (objective_at + i) (λ p a b e. omega (arith, b, e)) in
      let x : Float = inserted_value cutoff k (get_or t.reals (objective_at + i) nan) (o i) in
      let n : i + 1 ≡ suc i = omega arith in
      record {
        done = λ p a b. at p a b (ltb p i) refl;
        rest = λ q d. get_or-set_other t.reals (objective_at + i) q x nan (d i u (omega arith)) ∙ g.rest q (λ p a b. d p a (omega (arith, b)));
        marks = subst (λ (z : ℕ). run (mark_turn cutoff objective_bound k c o) z (w + 1) (inserted_mark cutoff objective_bound k t.mark (get_or t.reals (objective_at + i) nan) (o i)) ≡ run (mark_turn cutoff objective_bound k c o) 1 (w + 1) all_whole) n
            (run-next (mark_turn cutoff objective_bound k c o) i (w + 1) t.mark v (ap (λ (z : Float). inserted_mark cutoff objective_bound k t.mark z (o i)) here) g.marks);
        same = length-set t.reals (objective_at + i) x ∙ g.same;
      }
    where
      at : (p : ℕ) → 1 ≤ p → p < suc i → (b : Bool) → ltb p i ≡ b → get_or (set t.reals (objective_at + i) (inserted_value cutoff k (get_or t.reals (objective_at + i) nan) (o i))) (objective_at + p) nan ≡ inserted_value cutoff k (c p) (o p)
      at p a b true e =
          let l = ltb-true p i e in
          get_or-set_other t.reals (objective_at + i) (objective_at + p) _ nan (λ z. omega (arith, z, l)) ∙ g.done p a l
      at p a b false e =
          let z : i ≡ p = omega (arith, b, ltb-false p i e) in
          subst (λ (x : ℕ). get_or (set t.reals (objective_at + i) (inserted_value cutoff k (get_or t.reals (objective_at + i) nan) (o i))) (objective_at + x) nan ≡ inserted_value cutoff k (c x) (o x)) z
          (get_or-set_same t.reals (objective_at + i) _ nan (omega (arith, g.same, v, lw))
          ∙ ap (λ (y : Float). inserted_value cutoff k y (o i)) (g.rest (objective_at + i) (λ p a b e. omega (arith, b, e))))

  abbrev t₁ : Aim
  t₁ = run (aim_turn cutoff k row) 1 (w + 1) (aim r₀ all_whole)

  aiming : Aiming (w + 1) t₁
  aiming = run-inv Aiming (aim_turn cutoff k row) 1 (w + 1) (aim r₀ all_whole) (omega arith) aiming-on record { done = λ p a b. absurd (omega (arith, a, b)); rest = λ q d. refl; marks = refl; same = long }

  pub aim-cells : objective_along w t₁.reals ≡ cell_values (insert_cells cutoff k (tab o 1 w) (tab c 1 w))
  unfolding objective_along inserted_value
  aim-cells =
      tab-ext _ (λ p. inserted_value cutoff k (c p) (o p)) 1 w (λ p u v. aiming.done p u (omega (arith, v)))
      ∙ sym (ap cell_values (insert-tab cutoff k o c 1 w) ∙ values-tab (λ p. insert_times cutoff k (o p) (c p)) 1 w)

  pub aim-marks : t₁.mark ≡ cell_marks objective_bound (insert_cells cutoff k (tab o 1 w) (tab c 1 w))
  aim-marks =
      run-last (mark_turn cutoff objective_bound k c o) (w + 1) (w + 1) t₁.mark (omega arith) aiming.marks
      ∙ run-marks cutoff objective_bound k c o w all_whole
      ∙ first-mark (cell_marks objective_bound (tab (λ p. insert_times cutoff k (o p) (c p)) 1 w))
      ∙ ap (cell_marks objective_bound) (sym (insert-tab cutoff k o c 1 w))

  pub aim-beyond : (q : ℕ) → ((p : ℕ) → 1 ≤ p → p ≤ w → q ≡ objective_at + p → ⊥) → get_or t₁.reals q nan ≡ get_or r₀ q nan
  aim-beyond q d = aiming.rest q (λ p a b. d p a (omega (arith, b)))

  pub aim-long : length t₁.reals ≡ reals_size
  aim-long = aiming.same

-- ---- the law: s is the symbol at place 1 + j of w

module _ (cutoff : Float) (s : ℕ) (symbols : List Symbol) (j w : ℕ) (row reals : List Float) (place : PlaceOf s symbols j) (ls : length symbols ≡ w) (lw : w ≤ last_place) (long : length reals ≡ reals_size) where
  abbrev mine : List Float
  mine = objective_along w reals

  abbrev other : List Float
  other = tab (λ p. get_or row p nan) 1 w

  abbrev k : Float
  k = get_or reals (objective_at + (1 + j)) nan

  abbrev cleared : List Float
  cleared = set reals (objective_at + (1 + j)) zero64

  abbrev t : Aim
  t = objective_in cutoff (1 + j) w row reals

  below : j < w
  below = rw ls at (place-below s symbols j place)

  along : length mine ≡ length symbols
  unfolding objective_along
  along = length-tab _ 1 w ∙ sym ls

  k-is : k ≡ coefficient_for s symbols mine
  unfolding objective_along
  k-is = sym (coefficient-at s symbols j (tab (λ p. get_or reals (objective_at + p) nan) 1 w) nan place (length-tab _ 1 w ∙ sym ls) ∙ get_or-tab (λ p. get_or reals (objective_at + p) nan) 1 w j nan below)

  cleared-is : tab (λ p. get_or cleared (objective_at + p) nan) 1 w ≡ clear_cell s symbols mine
  unfolding objective_along own_value
  cleared-is =
      tab-ext _ (λ p. own_value (1 + j) p (get_or reals (objective_at + p) nan)) 1 w (λ p u v. one p (omega (arith, v)) (eqb p (1 + j)) refl)
      ∙ cleared-tab (λ p. get_or reals (objective_at + p) nan) w 1 j below
      ∙ sym (clear_at s symbols j mine place along)
    where
      one : (p : ℕ) → p ≤ w → (b : Bool) → eqb p (1 + j) ≡ b → get_or cleared (objective_at + p) nan ≡ cond b zero64 (get_or reals (objective_at + p) nan)
      one p u true e =
          let q : 1 + j ≡ p = sym (eqb-true p (1 + j) e) in
          subst (λ (x : ℕ). get_or cleared (objective_at + x) nan ≡ zero64) q (get_or-set_same reals (objective_at + (1 + j)) zero64 nan (omega (arith, long, below, lw)))
      one p u false e = get_or-set_other reals (objective_at + (1 + j)) (objective_at + p) zero64 nan (λ z. eqb-false p (1 + j) e (omega (arith, z)))

  substitute-none : absent (coefficient_for s symbols mine) ≡ true → substitute_in_cells cutoff s symbols other mine ≡ map kept mine
  unfolding substitute_in_cells
  substitute-none h = rw (h, substitute_in_cells) refl

  substitute-some : absent (coefficient_for s symbols mine) ≡ false → substitute_in_cells cutoff s symbols other mine ≡ insert_cells cutoff (coefficient_for s symbols mine) other (clear_cell s symbols mine)
  unfolding substitute_in_cells
  substitute-some h = rw (h, substitute_in_cells) refl

  cleared-long : length cleared ≡ reals_size
  cleared-long = length-set reals (objective_at + (1 + j)) zero64 ∙ long

  some_is : absent k ≡ false → substitute_in_cells cutoff s symbols other mine ≡ insert_cells cutoff k other (tab (λ p. get_or cleared (objective_at + p) nan) 1 w)
  some_is a =
      substitute-some (subst (λ (x : Float). absent x ≡ false) k-is a)
      ∙ rw (← k-is, ← cleared-is) refl

  pub objective-cells : objective_along w t.reals ≡ cell_values (substitute_in_cells cutoff s symbols other mine)
  unfolding objective_in aim_with
  objective-cells = go (absent k) refl
    where
      go : (b : Bool) → absent k ≡ b → objective_along w (cond b (aim reals all_whole) (aim_with cutoff k (1 + j) w row reals)).reals ≡ cell_values (substitute_in_cells cutoff s symbols other mine)
      go true a = sym (ap cell_values (substitute-none (subst (λ (x : Float). absent x ≡ true) k-is a)) ∙ kept-values mine)
      go false a = aim-cells cutoff k w row cleared lw cleared-long ∙ ap cell_values (sym (some_is a))

  pub objective-mark : t.mark ≡ cell_marks objective_bound (substitute_in_cells cutoff s symbols other mine)
  unfolding objective_in aim_with
  objective-mark = go (absent k) refl
    where
      go : (b : Bool) → absent k ≡ b → (cond b (aim reals all_whole) (aim_with cutoff k (1 + j) w row reals)).mark ≡ cell_marks objective_bound (substitute_in_cells cutoff s symbols other mine)
      go true a = sym (ap (cell_marks objective_bound) (substitute-none (subst (λ (x : Float). absent x ≡ true) k-is a)) ∙ kept-marks objective_bound mine)
      go false a = aim-marks cutoff k w row cleared lw cleared-long ∙ ap (cell_marks objective_bound) (sym (some_is a))

  pub objective-beyond : (q : ℕ) → ((p : ℕ) → 1 ≤ p → p ≤ w → q ≡ objective_at + p → ⊥) → get_or t.reals q nan ≡ get_or reals q nan
  unfolding objective_in aim_with
  objective-beyond q d = go (absent k)
    where
      go : (b : Bool) → get_or (cond b (aim reals all_whole) (aim_with cutoff k (1 + j) w row reals)).reals q nan ≡ get_or reals q nan
      go true = refl
      go false = aim-beyond cutoff k w row cleared lw cleared-long q d ∙ get_or-set_other reals (objective_at + (1 + j)) q zero64 nan (d (1 + j) (omega arith) (omega (arith, below)))

  pub objective-long : length t.reals ≡ reals_size
  unfolding objective_in aim_with
  objective-long = go (absent k)
    where
      go : (b : Bool) → length (cond b (aim reals all_whole) (aim_with cutoff k (1 + j) w row reals)).reals ≡ reals_size
      go true = long
      go false = aim-long cutoff k w row cleared lw cleared-long
