-- Remove's and Suggest's steps with another cutoff: the same, while the mark stays whole. Assumes nothing.
use Rattle.std.specs.Prelude.{◌≡◌, ◌&&◌, cond, ℕ, ◌-◌, Float}
use Rattle.std.proofs.Math.Path.{refl, sym, ap, subst}
use Rattle.std.proofs.Common.{◌∙◌}
use mathlib.Core.List.{List, [], ◌∷◌}
use Rattle.std.proofs.Math.Option.{Option, none, some}
use Rattle.std.proofs.Math.Bool.{Bool, true, false}
use Rattle.std.specs.Float.Ieee.{ne, neg}
use Rattle.laws.specs.exact.Unbroken.{Unbroken, neg-unbroken, add-unbroken, sub-unbroken, mul-unbroken}
use Rattle.steps.specs.Number.{zero64, objective_bound, constant_bound, ◌-₆₄◌, ◌*₆₄◌, cutoff_fits, all_whole, whole_if}
use Rattle.steps.specs.Symbol.{Symbol, is_external, is_error, is_symbol, absent, coefficient_for}
use Rattle.steps.specs.Row.{Row, Cell, cell_values, cell_marks, insert_cells, untouched}
use Rattle.steps.specs.State.{Term, Tag, Basic, Edit, Variable}
use Rattle.steps.specs.Work.{Work, Outcome, going, ◌>>=◌, refuse, check_finite, with_tableau, with_changes, marking, with_rows, with_objective, find_row, drop_row, purge}
use Rattle.steps.specs.Changes.{note, tell_gone}
use Rattle.steps.specs.CreateRow.{insert_in_objective, with_variables}
use Rattle.steps.specs.Substitute.{rows_of, pivot}
use Rattle.steps.specs.Optimise.{the_objective, optimise, dual_optimise}
use Rattle.steps.specs.Add.{whole_within}
use Rattle.steps.specs.Remove.{insert_row_in_objective, remove_marker_effects, remove_constraint_effects, get_marker_leaving_row, note_leaving, drop_marker, purge_tag, use_less, lose, drop_use, drop_uses, remove_steps}
use Rattle.steps.specs.Edit.{is_basic_row, own_shift, cell_shift, shift_of, shift_row, shift_rows, shift_constants, suggest_steps}
use Rattle.simplex.specs.bridge.Runs.{mark_of}
use Rattle.simplex.proofs.bridge.Runs.{optimise-mark, dual-mark}
use Rattle.run.specs.RemoveMarks.{drop-mark, purge-mark, uses-mark}
use Rattle.run.specs.RecutRows.{RowU, values-u, coefficient-u, insert_cells-u, insert_cells-same}
use Rattle.run.specs.Recut.{recut, ArtU, RowsU, Plain, Same, drop-u, find-u, check-same, refuse-same, bind-same, pivoted-same, optimise-same, dual-same}
use Rattle.run.specs.RecutAdd.{plain-mark, plain-objective, plain-purge, objective-twin}

-- the work v, and the same with another cutoff
abbrev Twin : Float → Work → Work → Type 0
Twin z v x = (x ≡ recut z v) × Plain v

unbroken-shift : Option Float → Type 0
unbroken-shift none = Unit
unbroken-shift (some d) = Unbroken d

module _ (z : Float) (fz : cutoff_fits z ≡ true) where
  then : (g : Work → Work) → ((w : Work) → Plain w → Twin z (g w) (g (recut z w))) → {v x : Work} → Twin z v x → Twin z (g v) (g x)
  then g h {v} {x} t = subst (λ (y : Work). Twin z (g v) (g y)) (sym t.0) (h v t.1)

  -- ---- the objective

  row-twin : (r : Row) (k : Float) → RowU r → Unbroken k → (w : Work) → Plain w → Twin z (insert_row_in_objective r k w) (insert_row_in_objective r k (recut z w))
  unfolding insert_row_in_objective
  row-twin r k hr hk w p = (
    ap (λ (cells : List Cell). marking (cell_marks objective_bound cells) (with_objective (cell_values cells) (recut z w))) (insert_cells-same w.tableau.cutoff z p.fits fz k hk r.cells w.tableau.objective hr.1 p.objective)
        ∙ over (insert_cells w.tableau.cutoff k r.cells w.tableau.objective),
    plain-objective _ _ w p (values-u _ (insert_cells-u w.tableau.cutoff k hk r.cells w.tableau.objective hr.1 p.objective)),
  )
    where
      over : (cells : List Cell) → marking (cell_marks objective_bound cells) (with_objective (cell_values cells) (recut z w)) ≡ recut z (marking (cell_marks objective_bound cells) (with_objective (cell_values cells) w))
      over cells = unfold marking with_objective with_tableau in refl

  effect-twin : (s : Symbol) (k : Float) → Unbroken k → (w : Work) → Plain w → Twin z (remove_marker_effects s k w) (remove_marker_effects s k (recut z w))
  unfolding remove_marker_effects
  effect-twin s k hk w p = go (is_error s) (find_row s.id w.tableau.rows) (find-u s.id w.tableau.rows p.rows)
    where
      at : Bool → Option Row → Work → Work
      at b o w = elim b as (λ _. Work) [ false ↦ w | true ↦ elim o as (λ _. Work) [ none ↦ insert_in_objective s.id (neg k) w | some r ↦ insert_row_in_objective r (neg k) w ] ]

      go : (b : Bool) (o : Option Row) → ArtU o → Twin z (at b o w) (at b o (recut z w))
      go false o a = (refl, p)
      go true none a = objective-twin z fz s.id (neg k) (neg-unbroken k hk) w p
      go true (some r) a = row-twin r (neg k) a (neg-unbroken k hk) w p

  effects-twin : (tag : Tag) (k : Float) → Unbroken k → (w : Work) → Plain w → Twin z (remove_constraint_effects tag k w) (remove_constraint_effects tag k (recut z w))
  unfolding remove_constraint_effects
  effects-twin tag k hk w p = go tag.other
    where
      at : Option Symbol → Work → Work
      at o v = elim o as (λ _. Work) [ none ↦ v | some x ↦ remove_marker_effects x k v ]

      go : (o : Option Symbol) → Twin z (at o (remove_marker_effects tag.marker k w)) (at o (remove_marker_effects tag.marker k (recut z w)))
      go none = effect-twin tag.marker k hk w p
      go (some x) = then (remove_marker_effects x k) (effect-twin x k hk) (effect-twin tag.marker k hk w p)

  -- ---- the marker's row

  dropped-same : (s : ℕ) (v : Work) → Plain v → Same z (going (with_rows (drop_row s v.tableau.rows) v)) (going (with_rows (drop_row s v.tableau.rows) (recut z v)))
  unfolding with_rows with_tableau
  dropped-same s v p = (refl, record { rows = drop-u s v.tableau.rows p.rows; objective = p.objective; artificial = p.artificial; fits = p.fits })

  dropped-mark : (s : ℕ) (v : Work) → mark_of (going (with_rows (drop_row s v.tableau.rows) v)) ≡ all_whole → v.mark ≡ all_whole
  unfolding mark_of with_rows with_tableau
  dropped-mark s v m = m

  note-twin : (s : Symbol) (w : Work) → Plain w → Twin z (note_leaving s w) (note_leaving s (recut z w))
  unfolding note_leaving note with_changes
  note-twin s w p = go (find_row s.id w.tableau.rows)
    where
      by : (b : Bool) → Twin z (cond b (note s.id w) w) (cond b (note s.id (recut z w)) (recut z w))
      by true = (refl, record { rows = p.rows; objective = p.objective; artificial = p.artificial; fits = p.fits })
      by false = (refl, p)

      at : Option Row → Work → Work
      at o w = elim o as (λ _. Work) [ none ↦ w | some r ↦ cond (is_external s && ne r.constant zero64) (note s.id w) w ]

      go : (o : Option Row) → Twin z (at o w) (at o (recut z w))
      go none = (refl, p)
      go (some r) = by (is_external s && ne r.constant zero64)

  drop-same : (m : Symbol) (w : Work) → Plain w → mark_of (drop_marker m w) ≡ all_whole → Same z (drop_marker m w) (drop_marker m (recut z w))
  unfolding drop_marker get_marker_leaving_row
  drop-same m w p = go (find_row m.id w.tableau.rows)
    where
      at-leaving : Option Symbol → Work → Outcome Work
      at-leaving t w = elim t as (λ _. Outcome Work) [ none ↦ refuse 17 w | some l ↦ check_finite (pivot l.id m (note_leaving l w)) >>= λ v. going (with_rows (drop_row m.id v.tableau.rows) v) ]

      at_row : Option Row → Work → Outcome Work
      at_row o w = elim o as (λ _. Outcome Work) [ some r ↦ going (with_rows (drop_row m.id w.tableau.rows) w) | none ↦ at-leaving (get_marker_leaving_row m.id w) w ]

      leaving : (t : Option Symbol) → mark_of (at-leaving t w) ≡ all_whole → Same z (at-leaving t w) (at-leaving t (recut z w))
      leaving none k = refuse-same z fz 17 w
      leaving (some l) k =
          let n = note-twin l w p in
          bind-same z fz (check_finite (pivot l.id m (note_leaving l w))) (check_finite (pivot l.id m (note_leaving l (recut z w)))) (λ v. going (with_rows (drop_row m.id v.tableau.rows) v)) (dropped-mark m.id)
          (λ q. subst (λ (x : Work). Same z (check_finite (pivot l.id m (note_leaving l w))) (check_finite (pivot l.id m x))) (sym n.0) (pivoted-same z fz l.id m (note_leaving l w) n.1 q))
          (λ v q _. dropped-same m.id v q) k

      go : (o : Option Row) → mark_of (at_row o w) ≡ all_whole → Same z (at_row o w) (at_row o (recut z w))
      go (some r) k = dropped-same m.id w p
      go none k = leaving (get_marker_leaving_row m.id w) k

  -- ---- symbols and uses

  purge-twin : (s : ℕ) (w : Work) → Plain w → Twin z (purge s w) (purge s (recut z w))
  purge-twin s w p = (unfold purge with_tableau in refl, plain-purge s w p)

  purge_tag-twin : (tag : Tag) (w : Work) → Plain w → Twin z (purge_tag tag w) (purge_tag tag (recut z w))
  unfolding purge_tag
  purge_tag-twin tag w p = go tag.other
    where
      at : Option Symbol → Work → Work
      at o w = purge tag.marker.id (elim o as (λ _. Work) [ none ↦ w | some x ↦ purge x.id w ])

      go : (o : Option Symbol) → Twin z (at o w) (at o (recut z w))
      go none = purge-twin tag.marker.id w p
      go (some x) = then (purge tag.marker.id) (purge-twin tag.marker.id) (purge-twin x.id w p)

  use-twin : (t : Term) (w : Work) → Plain w → Twin z (drop_use t w) (drop_use t (recut z w))
  unfolding drop_use lose with_variables with_changes
  use-twin t w p = go (use_less t.variable w.changes.variables).gone
    where
      v : Work
      v = with_variables (use_less t.variable w.changes.variables).variables w

      q : Plain v
      q = record { rows = p.rows; objective = p.objective; artificial = p.artificial; fits = p.fits }

      at : Option Variable → Work → Work
      at o v = elim o as (λ _. Work) [ none ↦ v | some x ↦ lose x v ]

      told : (x : Variable) → Plain (with_changes (tell_gone x v.changes) v)
      told x = record { rows = p.rows; objective = p.objective; artificial = p.artificial; fits = p.fits }

      go : (o : Option Variable) → Twin z (at o v) (at o (recut z v))
      go none = (refl, q)
      go (some x) = purge-twin x.symbol.id (with_changes (tell_gone x v.changes) v) (told x)

  uses-twin : (ts : List Term) (w : Work) → Plain w → Twin z (drop_uses ts w) (drop_uses ts (recut z w))
  unfolding drop_uses
  uses-twin [] w p = (refl, p)
  uses-twin (t ∷ ts) w p = let u = use-twin t w p in subst (λ (x : Work). Twin z (drop_uses ts (drop_use t w)) (drop_uses ts x)) (sym u.0) (uses-twin ts (drop_use t w) u.1)

  uses-same : (ts : List Term) (v : Work) → Plain v → Same z (going (drop_uses ts v)) (going (drop_uses ts (recut z v)))
  uses-same ts v p = let t = uses-twin ts v p in (ap going t.0, t.1)

  checked-same : (f : Work → Work) → ((w : Work) → Plain w → Twin z (f w) (f (recut z w))) → (w : Work) → Plain w → Same z (check_finite (f w)) (check_finite (f (recut z w)))
  checked-same f h w p = let t = h w p in subst (λ (x : Work). Same z (check_finite (f w)) (check_finite x)) (sym t.0) (check-same z fz (f w) t.1)

  pub remove_steps-same : (budget : ℕ) (tag : Tag) (k : Float) → Unbroken k → (ts : List Term) (w : Work) → Plain w → mark_of (remove_steps budget tag k ts w) ≡ all_whole → Same z (remove_steps budget tag k ts w) (remove_steps budget tag k ts (recut z w))
  unfolding remove_steps
  remove_steps-same budget tag k hk ts w p m =
      bind-same z fz _ _ (λ v. going (drop_uses ts v)) (λ v q. sym (uses-mark ts v) ∙ (unfold mark_of in q))
      (λ a. bind-same z fz _ _ (λ v. optimise (budget - v.pivots) the_objective (purge_tag tag v)) (λ v q. sym (purge-mark tag v) ∙ optimise-mark (budget - v.pivots) the_objective (purge_tag tag v) q)
      (λ b. bind-same z fz _ _ (drop_marker tag.marker) (drop-mark tag.marker) (λ _. checked-same (remove_constraint_effects tag k) (effects-twin tag k hk) w p) (drop-same tag.marker) b) passes a)
      (λ v q _. uses-same ts v q) m
    where
      passes : (v : Work) → Plain v → mark_of (optimise (budget - v.pivots) the_objective (purge_tag tag v)) ≡ all_whole
          → Same z (optimise (budget - v.pivots) the_objective (purge_tag tag v)) (optimise (budget - v.pivots) the_objective (purge_tag tag (recut z v)))
      passes v q a = let t = purge_tag-twin tag v q in subst (λ (x : Work). Same z (optimise (budget - v.pivots) the_objective (purge_tag tag v)) (optimise (budget - v.pivots) the_objective x)) (sym t.0) (optimise-same z fz (budget - v.pivots) the_objective (purge_tag tag v) t.1 a)

  -- ---- suggest

  shifts-u : (tag : Tag) (d : Float) → Unbroken d → (w : Work) (b : Basic) → RowU b.row → unbroken-shift (shift_of tag d w b)
  unfolding shift_of own_shift cell_shift unbroken-shift
  shifts-u tag d hd w b h = by-marker (is_basic_row tag.marker w) tag.other
    where
      own : (e : Float) → Unbroken e → (t : Bool) → unbroken-shift (elim t as (λ _. Option Float) [ true ↦ some e | false ↦ none ])
      own e he true = he
      own e he false = tt

      cell : (t : Bool) → unbroken-shift (elim t as (λ _. Option Float) [ true ↦ none | false ↦ some (d *₆₄ coefficient_for tag.marker.id w.tableau.symbols b.row.cells) ])
      cell true = tt
      cell false = mul-unbroken d (coefficient_for tag.marker.id w.tableau.symbols b.row.cells) hd (coefficient-u tag.marker.id w.tableau.symbols b.row.cells h.1)

      by-other : (t : Bool) (o : Symbol) → unbroken-shift (elim t as (λ _. Option Float) [ true ↦ own_shift o d b | false ↦ cell_shift tag.marker d w.tableau.symbols b ])
      by-other true o = own d hd (is_symbol o.id b.symbol)
      by-other false o = cell (absent (coefficient_for tag.marker.id w.tableau.symbols b.row.cells))

      by-marker : (t : Bool) (o : Option Symbol)
          → unbroken-shift (elim t as (λ _. Option Float) [ true ↦ own_shift tag.marker (neg d) b | false ↦ elim o as (λ _. Option Float) [ none ↦ cell_shift tag.marker d w.tableau.symbols b | some x ↦ elim (is_basic_row x w) as (λ _. Option Float) [ true ↦ own_shift x d b | false ↦ cell_shift tag.marker d w.tableau.symbols b ] ] ])
      by-marker true o = own (neg d) (neg-unbroken d hd) (is_symbol tag.marker.id b.symbol)
      by-marker false none = cell (absent (coefficient_for tag.marker.id w.tableau.symbols b.row.cells))
      by-marker false (some x) = by-other (is_basic_row x w) x

  shifted-u : (shift : Basic → Option Float) → ((b : Basic) → RowU b.row → unbroken-shift (shift b)) → (bs : List Basic) → RowsU bs → RowsU (rows_of (shift_rows shift bs))
  unfolding shift_rows rows_of shift_row untouched unbroken-shift
  shifted-u shift f [] h = tt
  shifted-u shift f (b ∷ bs) h = (go (shift b) (f b h.0), shifted-u shift f bs h.1)
    where
      go : (o : Option Float) → unbroken-shift o → RowU (shift_row b.row o).row
      go none u = h.0
      go (some d) u = (add-unbroken b.row.constant d h.0.0 u, h.0.1)

  shift-twin : (tag : Tag) (d : Float) → Unbroken d → (w : Work) → Plain w → Twin z (shift_constants tag d w) (shift_constants tag d (recut z w))
  unfolding shift_constants shift_of is_basic_row marking with_changes with_rows with_tableau
  shift-twin tag d hd w p = (refl, record { rows = shifted-u (shift_of tag d w) (shifts-u tag d hd w) w.tableau.rows p.rows; objective = p.objective; artificial = p.artificial; fits = p.fits })

  pub suggest_steps-same : (budget : ℕ) (e : Edit) (new : Float) → Unbroken new → Unbroken e.suggestion → (w : Work) → Plain w → mark_of (suggest_steps budget e new w) ≡ all_whole → Same z (suggest_steps budget e new w) (suggest_steps budget e new (recut z w))
  unfolding suggest_steps
  suggest_steps-same budget e new hn he w p m =
      bind-same z fz _ _ (dual_optimise budget) (dual-mark budget)
      (λ _. checked-same (λ w. shift_constants e.tag (new -₆₄ e.suggestion) (marking (whole_if (whole_within constant_bound new)) w)) (λ w p. then (shift_constants e.tag (new -₆₄ e.suggestion)) (shift-twin e.tag (new -₆₄ e.suggestion) (sub-unbroken new e.suggestion hn he)) (over w p)) w p)
      (dual-same z fz budget) m
    where
      over : (w : Work) → Plain w → Twin z (marking (whole_if (whole_within constant_bound new)) w) (marking (whole_if (whole_within constant_bound new)) (recut z w))
      over w p = (unfold marking in refl, plain-mark (whole_if (whole_within constant_bound new)) w p)
