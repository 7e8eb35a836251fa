-- A pivot tells: every variable whose value it changes is noted. Assumes nothing.
use Rattle.std.specs.Prelude.{◌≡◌, ◌⊎◌, ◌≢◌, Bool, cond, ◌&&◌, ◌||◌, ℕ, ◌≤◌, Float}
use Rattle.std.proofs.Math.Path.{refl, ap, subst}
use Rattle.std.proofs.Common.{sym, ◌∙◌, true≢false, arith}
use Rattle.std.proofs.Math.Logic.{inl, inr}
use mathlib.Core.List.{List, [], ◌∷◌}
use Rattle.std.proofs.Math.Option.{Option, none, some}
use Rattle.std.proofs.Math.Bool.{true, false, not}
use Rattle.std.specs.Float.Ieee.{eq, ne}
use Rattle.std.specs.Float.{binary64}
use Rattle.std.specs.Float.Ieee.Fits.{mul-fits}
use Rattle.steps.specs.Number.{zero64, minus_one64, Mark, ◌/₆₄◌}
use Rattle.steps.specs.Symbol.{Symbol, is_external, coefficient_for}
use Rattle.steps.specs.Row.{Row, Written, solve_for_symbol, solve_for_symbols}
use Rattle.steps.specs.State.{Basic, Variable, Changes}
use Rattle.steps.specs.Work.{Work, with_tableau, with_rows, with_objective, with_changes, with_artificial, marking, find_row, drop_row, keep_row}
use Rattle.steps.specs.Changes.{all_changed, var_changed, note, member, value_of}
use Rattle.steps.specs.Substitute.{Substituted, substitute_in_rows, rows_of, noted_of, substitute, enter_basis, pivot}
use Rattle.keeps.specs.Lists.{All, all-to, all-zip, Same?, is, isnt, same?, times, Up}
use Rattle.keeps.specs.Along.{ids, Mem}
use Rattle.keeps.specs.Keys.{row_id, drop_row-is, drop_all, drop-gone, drop-times, keep_all, keep_row-is}
use Rattle.keeps.specs.Cells.{Fine}
use Rattle.keeps.specs.Fits.{bids, FitsW}
use Rattle.keeps.specs.Frame.{clear-all, pivot-frame}
use Rattle.keeps.specs.Pivots.{bids-sub, pivot-fits}
use Rattle.keeps.specs.Passes.{Free}
use Rattle.keeps.specs.suffices.Numbers.{Is, is-sym, is-trans}
use Rattle.keeps.specs.suffices.Fresh.{held, Flagged, Fresh, Aware, Owing, all_noted}
use Rattle.keeps.specs.suffices.Values.{value_at, Numbered, RoundedAt, Rounded, NotedOr, written, written-noted, written-rounded, substituted, substituted-is, substituted-writes, substituted-rounded, value_none, value-drop, value-keep, value-kept}
use Rattle.keeps.specs.suffices.Placed.{var_id, Named, Placed, placed-flags, external-at, mem_unique}

-- what the steps find before them
pub record Ready (w : Work) : Type 0 where
  pub up : Up 1 (ids w.tableau.symbols)
  pub live : All (λ (b : Basic). Mem b.symbol w.tableau.symbols) w.tableau.rows
  pub numbered : All Numbered w.tableau.rows
  pub placed : Placed w.tableau.symbols w.changes.variables
  pub aware : Aware w.tableau.rows w.changes
  pub rounded : Rounded w.tableau.rows

-- and what they leave
pub record Told (w : Work) : Type 0 where
  pub aware : Aware w.tableau.rows w.changes
  pub rounded : Rounded w.tableau.rows

pub record Sees (w : Work) : Type 0 where
  pub fits : FitsW w
  pub fine : Fine w.mark
  pub placed : Placed w.tableau.symbols w.changes.variables
  pub told : Told w

pub sees-ready : (w : Work) → Sees w → Ready w
sees-ready w h =
    record {
      up = h.fits.up;
      live = h.fits.live;
      numbered = all-to _ _ (λ b k. k.0 h.fine) w.tableau.rows h.fits.rows;
      placed = h.placed;
      aware = h.told.aware;
      rounded = h.told.rounded;
    }

-- ---- values as they are asked

pub value-at : (v : Variable) (bs : List Basic) → value_of v bs ≡ value_at (var_id v) bs
unfolding value_of value_at
value-at v bs = refl

-- the rows change, and the value is noted or the same number
pub owing : (ns : List ℕ) (clears : Bool) (bs cs : List Basic) (v : Variable) → Fresh clears bs v → NotedOr (var_id v) ns (value_at (var_id v) cs) (value_at (var_id v) bs) → Owing ns clears cs v
owing ns clears bs cs v f (inl m) = inl m
owing ns clears bs cs v (inl h) (inr e) = inr (inl h)
owing ns clears bs cs v (inr h) (inr e) = inr (inr (rw (value-at v cs) (is-trans (value_at (var_id v) cs) (value_at (var_id v) bs) (held v) e (rw (value-at v bs) at h))))

pub fresh-same : (clears : Bool) (bs cs : List Basic) (v : Variable) → value_at (var_id v) cs ≡ value_at (var_id v) bs → Fresh clears bs v → Fresh clears cs v
fresh-same clears bs cs v e (inl h) = inl h
fresh-same clears bs cs v e (inr h) = inr (rw (value-at v cs, e) (rw (value-at v bs) at h))

-- ---- a symbol substituted in all rows

module _ (s : ℕ) (r : Row) (w : Work) (h : Ready w) where
  abbrev bs : List Basic
  bs = w.tableau.rows

  abbrev xs : List Symbol
  xs = w.tableau.symbols

  abbrev subs : List Substituted
  subs = substitute_in_rows w.tableau.cutoff s xs r bs

  abbrev sub : Basic → Written
  sub = substituted w.tableau.cutoff s xs r

  noted : All (Owing (noted_of (written sub bs)) w.changes.should_clear (rows_of (written sub bs))) w.changes.variables
  noted =
      all-zip (Fresh w.changes.should_clear bs) (Named xs) _
      (λ v f n. owing (noted_of (written sub bs)) w.changes.should_clear bs (rows_of (written sub bs)) v f (written-noted sub (substituted-writes w.tableau.cutoff s xs r) (var_id v) bs (external-at xs h.up v n bs h.live) h.numbered h.rounded))
      w.changes.variables h.aware h.placed.named

  pub substitute-told : Told (substitute s r w)
  unfolding substitute marking with_artificial with_changes with_objective with_rows with_tableau
  substitute-told =
      record {
        aware = subst (λ (l : List Substituted). Aware (rows_of l) (all_changed (noted_of l) w.changes)) (sym (substituted-is w.tableau.cutoff s xs r bs)) (all_noted (noted_of (written sub bs)) (rows_of (written sub bs)) w.changes noted);
        rounded = subst (λ (l : List Substituted). Rounded (rows_of l)) (sym (substituted-is w.tableau.cutoff s xs r bs)) (written-rounded sub (substituted-rounded w.tableau.cutoff s xs r) bs h.rounded);
      }

-- ---- a symbol enters with its row

module _ (s : Symbol) (r : Row) (ys : List Symbol) (up : Up 1 (ids ys)) (live : Mem s ys) (rows : List Basic) (free : times s.id (bids rows) ≡ 0) where
  abbrev new : Basic
  new = record { symbol = s; row = r }

  -- "note an External with non-zero constant"
  entered : (c : Changes) → Placed ys c.variables → Aware rows c → (t : Bool) → (is_external s && ne r.constant zero64) ≡ t → Aware (keep_row new rows) (cond t (var_changed s.id c) c)
  entered c p a true e = unfold all_changed in all_noted (s.id ∷ []) (keep_row new rows) c (all-to (Fresh c.should_clear rows) _ (λ v f. by v f (same? (var_id v) s.id)) c.variables a)
    where
      by : (v : Variable) → Fresh c.should_clear rows v → Same? (var_id v) s.id → Owing (s.id ∷ []) c.should_clear (keep_row new rows) v
      by v f (is x y z) = inl (unfold member in ap (λ (t : Bool). t || false) x)
      by v f (isnt x y z) = inr (fresh-same c.should_clear rows (keep_row new rows) v (value-keep (var_id v) new rows y) f)
  entered c p a false e = all-zip (Fresh c.should_clear rows) (Named ys) _ (λ v f n. by v f n (same? (var_id v) s.id)) c.variables a p.named
    where
      zero_row : is_external s ≡ true → Is r.constant zero64
      zero_row x = go (eq r.constant zero64) refl (unfold ne in ap (λ (b : Bool). b && ne r.constant zero64) (sym x) ∙ e)
        where
          go : (z : Bool) → eq r.constant zero64 ≡ z → not z ≡ false → z ≡ true
          go true q k = refl
          go false q k = absurd (true≢false k)

      by : (v : Variable) → Fresh c.should_clear rows v → Named ys v → Same? (var_id v) s.id → Fresh c.should_clear (keep_row new rows) v
      by v f n (isnt x y z) = fresh-same c.should_clear rows (keep_row new rows) v (value-keep (var_id v) new rows y) f
      by v (inl f) n (is x y z) = inl f
      by v (inr f) n (is x y z) = inr (subst (λ (k : Float). Is k (held v)) (sym now) (is-trans r.constant zero64 (held v) (zero_row external) (subst (λ (k : Float). Is k (held v)) was f)))
        where
          now : value_of v (keep_row new rows) ≡ r.constant
          now = value-at v (keep_row new rows) ∙ ap (λ (i : ℕ). value_at i (keep_row new rows)) y ∙ value-kept new rows free

          was : value_of v rows ≡ zero64
          was = value-at v rows ∙ ap (λ (i : ℕ). value_at i rows) y ∙ value_none s.id rows free

          external : is_external s ≡ true
          external = ap is_external (sym (mem_unique 1 ys up v.symbol s n.0 live y)) ∙ n.1

-- "substitute, note an External with non-zero constant, keep the row"
pub enter-told : (s : Symbol) (r : Row) (w : Work) → Ready w → times s.id (bids w.tableau.rows) ≡ 0 → Mem s w.tableau.symbols → RoundedAt (record { symbol = s; row = r }) → Told (enter_basis s r w)
unfolding enter_basis substitute marking with_artificial with_changes with_objective with_rows with_tableau note
enter-told s r w h z m q = go (is_external s && ne r.constant zero64) refl
  where
    v : Work
    v = substitute s.id r w

    old : Told v
    old = substitute-told s.id r w h

    free : times s.id (bids v.tableau.rows) ≡ 0
    free = rw bids-sub z

    placed : Placed v.tableau.symbols v.changes.variables
    placed = placed-flags w.tableau.symbols w.changes.variables v.changes.variables (clear-all (noted_of (substitute_in_rows w.tableau.cutoff s.id w.tableau.symbols r w.tableau.rows)) w.changes) h.placed

    rounded : Rounded (keep_row (record { symbol = s; row = r }) v.tableau.rows)
    rounded = rw keep_row-is (keep_all row_id RoundedAt (record { symbol = s; row = r }) v.tableau.rows q old.rounded)

    go : (t : Bool) → (is_external s && ne r.constant zero64) ≡ t → Told (with_rows (keep_row (record { symbol = s; row = r }) (cond t (note s.id v) v).tableau.rows) (cond t (note s.id v) v))
    go true e = record { aware = entered s r w.tableau.symbols h.up m v.tableau.rows free v.changes placed old.aware true e; rounded = rounded }
    go false e = record { aware = entered s r w.tableau.symbols h.up m v.tableau.rows free v.changes placed old.aware false e; rounded = rounded }

-- ---- a row goes

-- the row of l goes: it is no variable's, or the variable is flagged or at 0
abbrev pub Spare : ℕ → Work → Type 0
Spare l w = All (λ (v : Variable). (var_id v ≢ l) ⊎ (Flagged w.changes.should_clear v ⊎ Is (value_of v w.tableau.rows) zero64)) w.changes.variables

pub drop-ready : (l : ℕ) (w : Work) → Ready w → Up 0 (bids w.tableau.rows) → Spare l w → Ready (with_rows (drop_row l w.tableau.rows) w)
unfolding with_rows with_tableau
drop-ready l w h u k =
    record {
      up = h.up;
      live = rw drop_row-is (drop_all row_id _ l w.tableau.rows h.live);
      numbered = rw drop_row-is (drop_all row_id Numbered l w.tableau.rows h.numbered);
      placed = h.placed;
      aware = all-zip (Fresh w.changes.should_clear w.tableau.rows) _ _ (λ v f s. by v f s (same? (var_id v) l)) w.changes.variables h.aware k;
      rounded = rw drop_row-is (drop_all row_id RoundedAt l w.tableau.rows h.rounded);
    }
  where
    rows : List Basic
    rows = w.tableau.rows

    none_left : value_at l (drop_row l rows) ≡ zero64
    none_left = value_none l (drop_row l rows) (rw drop_row-is (drop-gone row_id 0 l rows u))

    by : (v : Variable) → Fresh w.changes.should_clear rows v → (var_id v ≢ l) ⊎ (Flagged w.changes.should_clear v ⊎ Is (value_of v rows) zero64) → Same? (var_id v) l → Fresh w.changes.should_clear (drop_row l rows) v
    by v f s (isnt x y z) = fresh-same w.changes.should_clear rows (drop_row l rows) v (value-drop (var_id v) l rows y) f
    by v f (inl n) (is x y z) = absurd (n y)
    by v f (inr (inl g)) (is x y z) = inl g
    by v (inl f) (inr (inr e)) (is x y z) = inl f
    by v (inr f) (inr (inr e)) (is x y z) =
        inr (subst (λ (k : Float). Is k (held v)) (sym (value-at v (drop_row l rows) ∙ ap (λ (i : ℕ). value_at i (drop_row l rows)) y ∙ none_left)) (is-trans zero64 (value_of v rows) (held v) (is-sym (value_of v rows) zero64 e) f))

pub mark-ready : (m : Mark) (w : Work) → Ready w → Ready (marking m w)
unfolding marking
mark-ready m w h = record { up = h.up; live = h.live; numbered = h.numbered; placed = h.placed; aware = h.aware; rounded = h.rounded }

-- ---- a pivot

-- a row that was solved has a product for its constant
pub solved-rounded : (s : Symbol) (xs : List Symbol) (r : Row) → RoundedAt (record { symbol = s; row = (solve_for_symbol s.id xs r).row })
unfolding solve_for_symbol
solved-rounded s xs r e = mul-fits binary64 r.constant (minus_one64 /₆₄ coefficient_for s.id xs r.cells)

pivoted-rounded : (cut : Float) (l : ℕ) (e : Symbol) (xs : List Symbol) (r : Row) → RoundedAt (record { symbol = e; row = (solve_for_symbols cut l e.id xs r).row })
unfolding solve_for_symbols
pivoted-rounded cut l e xs r x = solved-rounded e xs _ x

pub pivot-told : (l : ℕ) (e : Symbol) (w : Work) → Ready w → Up 0 (bids w.tableau.rows) → Free w e → Spare l w → Told (pivot l e w)
unfolding pivot
pivot-told l e w h u f k = go (find_row l w.tableau.rows)
  where
    left : Work
    left = with_rows (drop_row l w.tableau.rows) w

    after : Row → Work
    after row =
        let solved : Written = solve_for_symbols w.tableau.cutoff l e.id w.tableau.symbols row in
        enter_basis e solved.row (marking solved.mark left)

    ready : Ready left
    ready = drop-ready l w h u k

    go : (o : Option Row) → Told (elim o [ none ↦ w | some row ↦ after row ])
    go none = record { aware = h.aware; rounded = h.rounded }
    go (some row) =
        let solved : Written = solve_for_symbols w.tableau.cutoff l e.id w.tableau.symbols row in
        enter-told e solved.row (marking solved.mark left) (mark-ready solved.mark left ready)
        (unfold marking with_rows with_tableau in omega (arith, f.free, fewer)) (unfold marking with_rows with_tableau in f.live) (pivoted-rounded w.tableau.cutoff l e w.tableau.symbols row)
      where
        fewer : times e.id (bids (drop_row l w.tableau.rows)) ≤ times e.id (bids w.tableau.rows)
        fewer = rw drop_row-is (drop-times row_id e.id l w.tableau.rows)

pub pivot-sees : (l : ℕ) (e : Symbol) (w : Work) → Sees w → Free w e → Spare l w → Fine (pivot l e w).mark → Sees (pivot l e w)
pivot-sees l e w h f k m =
    record {
      fits = pivot-fits l e w h.fits f.free f.live;
      fine = m;
      placed = rw (pivot-frame l e w).symbols (placed-flags w.tableau.symbols w.changes.variables (pivot l e w).changes.variables (pivot-frame l e w).variables h.placed);
      told = pivot-told l e w (sees-ready w h) h.fits.rows-up f k;
    }
