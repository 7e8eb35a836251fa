-- The same of Remove's and Suggest's steps outside their passes. Assumes nothing.
use mathlib.Core.Path.{◌≡◌, refl}
use mathlib.Core.Bool.{Bool, true, false, ◌&&◌, cond}
use mathlib.Core.List.{List, [], ◌∷◌}
use mathlib.Core.Option.{Option, none, some}
use lib.Ieee.{Float, ne, neg}
use Rattle.steps.specs.Number.{zero64}
use Rattle.steps.specs.Symbol.{Symbol, is_external, is_error}
use Rattle.steps.specs.Row.{Row}
use Rattle.steps.specs.State.{Term, Tag, Variable}
use Rattle.steps.specs.Work.{Work, with_tableau, with_changes, marking, with_rows, with_objective, find_row, purge}
use Rattle.steps.specs.Changes.{note}
use Rattle.steps.specs.CreateRow.{insert_in_objective, with_variables}
use Rattle.steps.specs.Remove.{insert_row_in_objective, remove_marker_effects, remove_constraint_effects, note_leaving, purge_tag, use_less, lose, drop_use, drop_uses}
use Rattle.steps.specs.Edit.{shift_constants}
use Rattle.steps.proofs.Told.{shed-refl, all-shed, stays-shed, goes-shed}
use Rattle.steps.proofs.After.{After, after-refl, after-trans, worse-first, same, purge-after, note-after, cond-after}
use Rattle.steps.proofs.AfterAdd.{objective-after}

row_objective-after : (r : Row) (k : Float) (w : Work) → After w (insert_row_in_objective r k w)
unfolding insert_row_in_objective with_objective with_tableau marking
row_objective-after r k w = record { pivots = refl; mark = worse-first w.mark _; cutoff = refl; told = shed-refl w.changes }

effects-after : (s : Symbol) (strength : Float) (w : Work) → After w (remove_marker_effects s strength w)
unfolding remove_marker_effects
effects-after s strength w = go (is_error s) (find_row s.id w.tableau.rows)
  where
    go : (b : Bool) (o : Option Row)
        → After w (elim b [ false ↦ w | true ↦ elim o [ none ↦ insert_in_objective s.id (neg strength) w | some r ↦ insert_row_in_objective r (neg strength) w ] ])
    go false o = after-refl w
    go true none = objective-after s.id (neg strength) w
    go true (some r) = row_objective-after r (neg strength) w

pub remove_effects-after : (tag : Tag) (strength : Float) (w : Work) → After w (remove_constraint_effects tag strength w)
unfolding remove_constraint_effects
remove_effects-after tag strength w = after-trans (effects-after tag.marker strength w) (go tag.other _)
  where
    go : (o : Option Symbol) (v : Work) → After v (elim o [ none ↦ v | some x ↦ remove_marker_effects x strength v ])
    go none v = after-refl v
    go (some x) v = effects-after x strength v

pub note_leaving-after : (s : Symbol) (w : Work) → After w (note_leaving s w)
unfolding note_leaving
note_leaving-after s w = go (find_row s.id w.tableau.rows)
  where
    go : (o : Option Row) → After w (elim o [ none ↦ w | some r ↦ cond (is_external s && ne r.constant zero64) (note s.id w) w ])
    go none = after-refl w
    go (some r) = cond-after (is_external s && ne r.constant zero64) w (note s.id w) w (note-after s.id w) (after-refl w)

pub purge_tag-after : (tag : Tag) (w : Work) → After w (purge_tag tag w)
unfolding purge_tag
purge_tag-after tag w = after-trans (go tag.other) (purge-after tag.marker.id _)
  where
    go : (o : Option Symbol) → After w (elim o [ none ↦ w | some x ↦ purge x.id w ])
    go none = after-refl w
    go (some x) = purge-after x.id w

drop_use-after : (t : Term) (w : Work) → After w (drop_use t w)
unfolding drop_use lose purge with_variables with_changes with_tableau
drop_use-after t w = go (use_less t.variable w.changes.variables).gone refl
  where
    left : Work
    left = with_variables (use_less t.variable w.changes.variables).variables w

    go : (o : Option Variable) → (use_less t.variable w.changes.variables).gone ≡ o → After w (elim o [ none ↦ left | some v ↦ lose v left ])
    go none e = same w left refl refl refl (stays-shed t.variable w.changes w.changes.should_clear e)
    go (some v) e = same w (lose v left) refl refl refl (goes-shed t.variable w.changes w.changes.should_clear v e)

pub drop_uses-after : (ts : List Term) (w : Work) → After w (drop_uses ts w)
unfolding drop_uses
drop_uses-after [] w = after-refl w
drop_uses-after (t ∷ ts) w = after-trans (drop_use-after t w) (drop_uses-after ts (drop_use t w))

-- ---- suggest

pub shift-after : (tag : Tag) (delta : Float) (w : Work) → After w (shift_constants tag delta w)
unfolding shift_constants marking with_changes with_rows with_tableau
shift-after tag delta w = record { pivots = refl; mark = worse-first w.mark _; cutoff = refl; told = all-shed _ w.changes }
