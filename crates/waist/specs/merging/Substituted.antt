-- The merge read as document 01 says it: "Substitute s: s's cell k goes, then insert row times k."
-- Assumes nothing.
use Prim.Native.Nat.{ℕ, zero, suc, ◌+◌, ◌-◌, ◌*◌, ◌≤◌, ◌<◌}
use Rattle.std.specs.Prelude.{◌≡◌, Bool, true, false, cond, List, ◌∷◌, eqb, Float, length, get_or, set}
use Rattle.std.proofs.Math.Path.{refl, sym, ap}
use Rattle.std.proofs.Common.{◌∙◌, subst, not-suc-le-zero, le_of_suc-le-suc, add-zero, eq-eqb, ne_eqb}
use Rattle.std.proofs.Math.Nat.{zero-add}
use native.Mathlib.Omega.{arith}
use Rattle.std.specs.Float.{nan}
use Rattle.std.specs.Float.Ieee.{ne}
use Rattle.laws.specs.Loops.{turns, run}
use Rattle.laws.specs.Lists.{tab, tab-ext, length-tab, get_or-tab}
use Rattle.steps.specs.Number.{zero64, cell_bound, constant_bound, ◌+₆₄◌, ◌*₆₄◌, near_zero, Mark, all_whole, worse, mark_write}
use Rattle.steps.specs.Symbol.{Symbol, absent, coefficient_for, clear_cell}
use Rattle.steps.specs.Row.{Row, kept, wrote, stored, cell_value, cell_values, cell_mark, cell_marks, goes_if_near_zero, insert_cell, insert_times, insert_cells, insert_row}
use Rattle.steps.specs.Substitute.{substitute_in_row}
use Rattle.rows.specs.Marks.{insert_cell-is, insert_times-is, worse-unit, worse-assoc}
use Rattle.rows.specs.Table.{inserted_value, inserted_mark}
use Rattle.rows.specs.Place.{PlaceOf, place-below, clear_at}
use Rattle.rows.specs.Cells.{values-tab, insert-tab}
use Rattle.layout.specs.cells.Names.{row_span, last_place}
use Rattle.layout.specs.cells.Cells.{Ascending, Cells, cell_in, cell_at, row_of, settled, Present}
use Rattle.layout.specs.cells.Seek.{first-elim}
use Rattle.layout.specs.cells.Reads.{cell-run}
use Rattle.layout.specs.cells.Replace.{row-run, run-ordered}
use Rattle.layout.specs.cells.Replaced.{replaced-own}
use Rattle.layout.specs.cells.Column.{zero-absent}
use Rattle.waist.specs.merging.Merge.{own_value, own_cell, own_in, other_cell, merged_row, mark_turn, merged_mark, merged_into, merged_into_mark}
use Rattle.waist.specs.merging.Merging.{row_at, marked-none}

-- ---- what is written reads back: an absent cell is +0.0

pub settled-absent : (c : Float) → absent c ≡ true → settled c ≡ zero64
unfolding settled absent ne
settled-absent c h = rw h

pub settled-there : (c : Float) → absent c ≡ false → settled c ≡ c
unfolding settled absent ne
settled-there c h = rw h

pub settled-stored : (c : Float) → settled (stored c) ≡ stored c
unfolding stored
settled-stored c = go (absent c) refl
  where
    go : (b : Bool) → absent c ≡ b → settled (cond b zero64 c) ≡ cond b zero64 c
    go true q = settled-absent zero64 zero-absent
    go false q = settled-there c q

pub settled-insert : (cutoff c k : Float) → settled c ≡ c → settled (cell_value (insert_cell cutoff c k)) ≡ cell_value (insert_cell cutoff c k)
unfolding cell_value
settled-insert cutoff c k h = rw (insert_cell-is cutoff c k) (go (absent c) (near_zero cutoff k))
  where
    go : (b d : Bool) → settled (cell_value (cond b (cond d (kept c) (wrote k)) (wrote (goes_if_near_zero cutoff (c +₆₄ k))))) ≡ cell_value (cond b (cond d (kept c) (wrote k)) (wrote (goes_if_near_zero cutoff (c +₆₄ k))))
    go true true = h
    go true false = settled-stored k
    go false d = settled-stored (goes_if_near_zero cutoff (c +₆₄ k))

settled-inserted : (cutoff k c o : Float) → settled c ≡ c → settled (inserted_value cutoff k c o) ≡ inserted_value cutoff k c o
unfolding inserted_value cell_value
settled-inserted cutoff k c o h = rw (insert_times-is cutoff k o c) (go (absent o))
  where
    go : (b : Bool) → settled (cell_value (cond b (kept c) (insert_cell cutoff c (o *₆₄ k)))) ≡ cell_value (cond b (kept c) (insert_cell cutoff c (o *₆₄ k)))
    go true = h
    go false = settled-insert cutoff c (o *₆₄ k) h

own-settled : (at p : ℕ) (x : Float) → settled x ≡ x → settled (own_value at p x) ≡ own_value at p x
unfolding own_value
own-settled at p x h = go (eqb p at)
  where
    go : (b : Bool) → settled (cond b zero64 x) ≡ cond b zero64 x
    go true = settled-absent zero64 zero-absent
    go false = h

pub cell-settled : (keys : List ℕ) (vals : List Float) (n key a e : ℕ) → Present vals n → a ≤ e → e ≤ n → settled (cell_in keys vals key a e) ≡ cell_in keys vals key a e
unfolding cell_in Present
cell-settled keys vals n key a e f h k =
    first-elim (λ j. eqb key (get_or keys j 0)) (λ j. get_or vals j nan) zero64 (λ (y : Float). settled y ≡ y) a e h
    (λ r b c t g. settled-there (get_or vals r nan) (f r (omega (arith, c, k)))) λ g. settled-absent zero64 zero-absent

-- ---- a place of a dense row that goes

pub cleared-tab : (g : ℕ → Float) (n s j : ℕ) → j < n → tab (λ p. own_value (s + j) p (g p)) s n ≡ set (tab g s n) j zero64
unfolding tab own_value
cleared-tab g zero s j h = absurd (not-suc-le-zero h)
cleared-tab g (suc n) s zero h =
    let e : eqb s (s + 0) ≡ true = eq-eqb s (s + 0) (sym (add-zero s)) in
    let r : tab (λ p. cond (eqb p (s + 0)) zero64 (g p)) (suc s) n ≡ tab g (suc s) n = tab-ext _ g (suc s) n λ p u v. ap (λ (b : Bool). cond b zero64 (g p)) (ne_eqb p (s + 0) λ q. omega (arith, q, u)) in
    rw (e, r) refl
cleared-tab g (suc n) s (suc j) h =
    let e : eqb s (s + suc j) ≡ false = ne_eqb s (s + suc j) (λ q. omega (arith, q)) in
    let o : suc s + j ≡ s + suc j = omega arith in
    let r = cleared-tab g n (suc s) j (le_of_suc-le-suc h) in
    rw e (ap (λ (l : List Float). g s ∷ l) (rw o at r))

-- ---- marks

module _ {S : Type 0} where
  run_is : (g : ℕ → S → S) (i e : ℕ) (s : S) → run g i e s ≡ turns g (e - i) i s
  unfolding run
  run_is g i e s = refl

  turns-add : (g : ℕ → S → S) (a d i : ℕ) (s : S) → turns g (a + d) i s ≡ turns g d (i + a) (turns g a i s)
  unfolding turns
  turns-add g zero d i s = rw (add-zero i, zero-add d) refl
  turns-add g (suc a) d i s =
      let e : suc i + a ≡ i + suc a = omega arith in
      let o : suc a + d ≡ suc (a + d) = omega arith in
      rw o (turns-add g a d (suc i) (g i s) ∙ ap (λ (z : ℕ). turns g d z (turns g a (suc i) (g i s))) e)

  idle-turns : (g : ℕ → S → S) (d i : ℕ) (t : S) → ((j : ℕ) (z : S) → i ≤ j → j < i + d → g j z ≡ z) → turns g d i t ≡ t
  unfolding turns
  idle-turns g zero i t f = refl
  idle-turns g (suc d) i t f = ap (turns g d (suc i)) (f i t (omega arith) (omega arith)) ∙ idle-turns g d (suc i) t λ j z u v. f j z (omega (arith, u)) (omega (arith, v))

marks-tab : (cutoff bound k : Float) (c o : ℕ → Float) (n i : ℕ) (m : Mark) → turns (mark_turn cutoff bound k c o) n i m ≡ worse m (cell_marks bound (tab (λ p. insert_times cutoff k (o p) (c p)) i n))
unfolding turns mark_turn inserted_mark tab cell_marks
marks-tab cutoff bound k c o zero i m = sym (worse-unit m)
marks-tab cutoff bound k c o (suc n) i m =
    marks-tab cutoff bound k c o n (suc i) (worse m (cell_mark bound (insert_times cutoff k (o i) (c i))))
    ∙ worse-assoc m (cell_mark bound (insert_times cutoff k (o i) (c i))) (cell_marks bound (tab (λ p. insert_times cutoff k (o p) (c p)) (suc i) n))

pub run-marks : (cutoff bound k : Float) (c o : ℕ → Float) (w : ℕ) (m : Mark) → run (mark_turn cutoff bound k c o) 1 (w + 1) m ≡ worse m (cell_marks bound (tab (λ p. insert_times cutoff k (o p) (c p)) 1 w))
unfolding run
run-marks cutoff bound k c o w m =
    let e : w + 1 - 1 ≡ w = omega arith in
    rw e (marks-tab cutoff bound k c o w 1 m)

run-split : {S : Type 0} (g : ℕ → S → S) (w e : ℕ) (s : S) → w ≤ e → ((j : ℕ) (t : S) → w < j → j ≤ e → g j t ≡ t) → run g 1 (e + 1) s ≡ run g 1 (w + 1) s
run-split {S} g w e s h f =
    let o : e + 1 - 1 ≡ w + (e - w) = omega arith in
    let o₁ : w + 1 - 1 ≡ w = omega arith in
    let q : turns g (e + 1 - 1) 1 s ≡ turns g (w + 1 - 1) 1 s = rw (o, o₁) (turns-add g w (e - w) 1 s ∙ idle) in
    run_is g 1 (e + 1) s ∙ q ∙ sym (run_is g 1 (w + 1) s)
  where
    idle : turns g (e - w) (1 + w) (turns g w 1 s) ≡ turns g w 1 s
    idle = idle-turns g (e - w) (1 + w) (turns g w 1 s) λ j z a b. f j z (omega (arith, a)) (omega (arith, b, h))

past-marks : (cutoff bound k : Float) (c o : ℕ → Float) (w : ℕ) (m : Mark) → w ≤ last_place → ((p : ℕ) → w < p → p ≤ last_place → o p ≡ zero64) → run (mark_turn cutoff bound k c o) 1 (last_place + 1) m ≡ run (mark_turn cutoff bound k c o) 1 (w + 1) m
unfolding mark_turn
past-marks cutoff bound k c o w m h f = run-split (mark_turn cutoff bound k c o) w last_place m h λ p z u v. ap (inserted_mark cutoff bound k z (c p)) (f p u v) ∙ marked-none cutoff bound k (c p) z

pub first-mark : (m : Mark) → worse all_whole m ≡ m
unfolding worse
first-mark m = refl

substitute-is : (cutoff : Float) (s : ℕ) (symbols : List Symbol) (other mine : Row) → absent (coefficient_for s symbols mine.cells) ≡ false
    → substitute_in_row cutoff s symbols other mine ≡ insert_row cutoff other (coefficient_for s symbols mine.cells) (record { constant = mine.constant; cells = clear_cell s symbols mine.cells })
unfolding substitute_in_row
substitute-is cutoff s symbols other mine h = rw (h, substitute_in_row) refl

-- ---- the law: s is the symbol at place 1 + j of w

module _ (cutoff : Float) (n i j m w : ℕ) (k : Float) (keys : List ℕ) (vals : List Float) (cols : List ℕ) (others : List Float)
    (up : Ascending keys n) (pr : Present vals n) (lk : n + last_place ≤ length keys) (lv : n + last_place ≤ length vals) (lw : w ≤ last_place) where
  abbrev own : ℕ → Float
  own = own_in n i (1 + j) keys vals

  abbrev other : ℕ → Float
  other = other_cell cols others m

  abbrev t : Cells
  t = merged_into cutoff n i (1 + j) m k keys vals cols others

  own_is : (p : ℕ) → p < row_span → own p ≡ own_value (1 + j) p (cell_at keys vals n (i * row_span + p))
  unfolding own_in own_cell
  own_is p h = ap (own_value (1 + j) p) (sym (cell-run keys vals n i _ _ p up (row-run keys n i refl refl) h))

  own-kept : (p : ℕ) → settled (own p) ≡ own p
  unfolding own_in own_cell
  own-kept p =
      let b = row-run keys n i refl refl in
      own-settled (1 + j) p _ (cell-settled keys vals n (i * row_span + p) _ _ pr (run-ordered keys n i _ _ refl refl) b.1.1)

  wide_read : row_of t.keys t.vals t.size last_place i ≡ tab (λ p. inserted_value cutoff k (own p) (other p)) 1 last_place
  unfolding merged_into
  wide_read =
      replaced-own n i last_place (merged_row cutoff k own other) keys vals (up, omega arith, lk, lv)
      ∙ tab-ext _ (λ p. inserted_value cutoff k (own p) (other p)) 1 last_place λ p u v.
      ap settled (row_at cutoff k own other p u (omega (arith, v))) ∙ settled-inserted cutoff k (own p) (other p) (own-kept p)

  narrow : (f g : ℕ → Float) → tab f 1 last_place ≡ tab g 1 last_place → tab f 1 w ≡ tab g 1 w
  narrow f g q =
      tab-ext f g 1 w λ p u v.
      let o : 1 + (p - 1) ≡ p = omega (arith, u) in
      let l : p - 1 < last_place = omega (arith, u, v, lw) in
      let x : f (1 + (p - 1)) ≡ g (1 + (p - 1)) = sym (get_or-tab f 1 last_place (p - 1) nan l) ∙ ap (λ (z : List Float). get_or z (p - 1) nan) q ∙ get_or-tab g 1 last_place (p - 1) nan l in
      rw o at x

  pub merged-cells : row_of t.keys t.vals t.size w i ≡ cell_values (insert_cells cutoff k (row_of cols others m w 0) (tab own 1 w))
  unfolding row_of inserted_value other_cell cell_at
  merged-cells =
      narrow _ (λ p. inserted_value cutoff k (own p) (other p)) wide_read
      ∙ sym (ap cell_values (insert-tab cutoff k other own 1 w) ∙ values-tab (λ p. insert_times cutoff k (other p) (own p)) 1 w)

  others-are : insert_cells cutoff k (row_of cols others m w 0) (tab own 1 w) ≡ tab (λ p. insert_times cutoff k (other p) (own p)) 1 w
  unfolding row_of other_cell cell_at
  others-are = insert-tab cutoff k other own 1 w

  module _ (s : ℕ) (symbols : List Symbol) (at : PlaceOf s symbols j) (ls : length symbols ≡ w) where
    below : j < w
    below = rw ls at (place-below s symbols j at)

    along : length (row_of keys vals n w i) ≡ length symbols
    unfolding row_of
    along = length-tab (λ p. cell_at keys vals n (i * row_span + p)) 1 w ∙ sym ls

    row-set : tab (λ p. own_value (1 + j) p (cell_at keys vals n (i * row_span + p))) 1 w ≡ set (row_of keys vals n w i) j zero64
    unfolding row_of
    row-set = cleared-tab (λ p. cell_at keys vals n (i * row_span + p)) w 1 j below

    pub own-cleared : tab own 1 w ≡ clear_cell s symbols (row_of keys vals n w i)
    own-cleared =
        tab-ext own (λ p. own_value (1 + j) p (cell_at keys vals n (i * row_span + p))) 1 w (λ p u v. own_is p (omega (arith, v, lw)))
        ∙ row-set
        ∙ sym (clear_at s symbols j (row_of keys vals n w i) at along)

    pub substituted-cells : row_of t.keys t.vals t.size w i ≡ cell_values (insert_cells cutoff k (row_of cols others m w 0) (clear_cell s symbols (row_of keys vals n w i)))
    substituted-cells = merged-cells ∙ ap (λ (l : List Float). cell_values (insert_cells cutoff k (row_of cols others m w 0) l)) own-cleared

    inserted-are : insert_cells cutoff k (row_of cols others m w 0) (clear_cell s symbols (row_of keys vals n w i)) ≡ tab (λ p. insert_times cutoff k (other p) (own p)) 1 w
    inserted-are = ap (insert_cells cutoff k (row_of cols others m w 0)) (sym own-cleared) ∙ others-are

    -- where the loose row has no cell past the live symbols
    pub substituted-mark : ((p : ℕ) → w < p → p ≤ last_place → other p ≡ zero64) → merged_into_mark cutoff n i (1 + j) m cell_bound k keys vals cols others ≡ cell_marks cell_bound (insert_cells cutoff k (row_of cols others m w 0) (clear_cell s symbols (row_of keys vals n w i)))
    unfolding merged_into_mark merged_mark
    substituted-mark none =
        past-marks cutoff cell_bound k own other w all_whole lw none
        ∙ run-marks cutoff cell_bound k own other w all_whole
        ∙ first-mark (cell_marks cell_bound (tab (λ p. insert_times cutoff k (other p) (own p)) 1 w))
        ∙ ap (cell_marks cell_bound) (sym inserted-are)

    -- "Substitute s" as the steps have it, with the constants beside the cells
    pub substituted : (x y : Float) → k ≡ coefficient_for s symbols (row_of keys vals n w i) → absent k ≡ false → ((p : ℕ) → w < p → p ≤ last_place → other p ≡ zero64)
        → record {
          row = record { constant = x +₆₄ (y *₆₄ k); cells = row_of t.keys t.vals t.size w i };
          constant_changed = ne (y *₆₄ k) zero64;
          mark = worse (mark_write constant_bound (x +₆₄ (y *₆₄ k))) (merged_into_mark cutoff n i (1 + j) m cell_bound k keys vals cols others);
        }
        ≡ substitute_in_row cutoff s symbols (record { constant = y; cells = row_of cols others m w 0 }) (record { constant = x; cells = row_of keys vals n w i })
    unfolding insert_row
    substituted x y q a none =
        sym (substitute-is cutoff s symbols (record { constant = y; cells = row_of cols others m w 0 }) (record { constant = x; cells = row_of keys vals n w i }) (subst (λ (z : Float). absent z ≡ false) q a)
        ∙ rw (← q, ← substituted-cells, ← substituted-mark none) refl)
