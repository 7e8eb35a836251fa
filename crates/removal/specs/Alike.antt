-- What the steps before the use counts leave: the gone numbers, and the variables but for their flags.
-- Assumes nothing.
use Rattle.std.specs.Prelude.{ℕ, zero, suc, ◌-◌, ◌≡◌, refl, Bool, true, false, cond, ◌&&◌, Float}
use Rattle.std.proofs.Common.{◌∙◌}
use Rattle.std.proofs.Math.Option.{Option, none, some}
use Rattle.std.specs.Float.Ieee.{ne}
use Rattle.steps.specs.Number.{zero64}
use Rattle.steps.specs.Symbol.{Symbol, is_external}
use Rattle.steps.specs.Row.{Row}
use Rattle.steps.specs.State.{Tag}
use Rattle.steps.specs.Work.{Work, Outcome, going, ◌>>=◌, refuse, check_finite, with_tableau, with_rows, count_pivot, find_row, drop_row, purge}
use Rattle.steps.specs.Changes.{clear_changed, note}
use Rattle.steps.specs.Substitute.{pivot}
use Rattle.steps.specs.Optimise.{Goal, Choice, ended, stuck, pivot_on, the_objective, choose_pivot, counted_pivot, optimise}
use Rattle.steps.specs.Remove.{remove_constraint_effects, get_marker_leaving_row, note_leaving, drop_marker, purge_tag}
use Rattle.keeps.specs.Fits.{FitsW}
use Rattle.keeps.specs.Frame.{Frame, note-frame, pivot-frame}
use Rattle.keeps.specs.Passes.{Ends, ends-bind, ends-to, check-ends}
use Rattle.keeps.specs.Leaving.{effects}

pub record Alike (w v : Work) : Type 0 where
  pub gone : v.changes.gone ≡ w.changes.gone
  pub variables : clear_changed v.changes.variables ≡ clear_changed w.changes.variables

same : (w : Work) → Alike w w
same w = record { gone = refl; variables = refl }

then : {w v u : Work} → Alike w v → Alike v u → Alike w u
then a b = record { gone = b.gone ∙ a.gone; variables = b.variables ∙ a.variables }

framed : {w v : Work} → Frame w v → Alike w v
framed f = record { gone = f.gone; variables = f.variables }

-- steps after which it is so, one after the other
bound : (w : Work) (o : Outcome Work) (f : Work → Outcome Work) → Ends (Alike w) o → ((v : Work) → Ends (Alike v) (f v)) → Ends (Alike w) (o >>= f)
bound w o f h g = ends-bind (Alike w) (Alike w) o f h (λ v k. ends-to (Alike v) (Alike w) (f v) (g v) (λ u m. then k m))

checked : (w v : Work) → Alike w v → Ends (Alike w) (check_finite v)
checked w v k = check-ends (Alike w) v (λ _. k)

-- ---- the marker

noted : (s : Symbol) (w : Work) → Alike w (note_leaving s w)
unfolding note_leaving
noted s w = go (find_row s.id w.tableau.rows)
  where
    by : (b : Bool) → Alike w (cond b (note s.id w) w)
    by true = framed (note-frame s.id w)
    by false = same w

    go : (o : Option Row) → Alike w (elim o [ none ↦ w | some r ↦ cond (is_external s && ne r.constant zero64) (note s.id w) w ])
    go none = same w
    go (some r) = by (is_external s && ne r.constant zero64)

dropped : (m : Symbol) (w : Work) → Ends (Alike w) (drop_marker m w)
unfolding drop_marker refuse with_rows with_tableau
dropped m w = go (find_row m.id w.tableau.rows)
  where
    step : Symbol → Outcome Work
    step leaving = check_finite (pivot leaving.id m (note_leaving leaving w)) >>= λ v. going (with_rows (drop_row m.id v.tableau.rows) v)

    leaves : Option Symbol → Outcome Work
    leaves o = elim o [ none ↦ refuse 17 w | some leaving ↦ step leaving ]

    next : Option Row → Outcome Work
    next o = elim o [ some r ↦ going (with_rows (drop_row m.id w.tableau.rows) w) | none ↦ leaves (get_marker_leaving_row m.id w) ]

    by : (o : Option Symbol) → Ends (Alike w) (leaves o)
    by none = tt
    by (some s) =
        bound w (check_finite (pivot s.id m (note_leaving s w))) (λ v. going (with_rows (drop_row m.id v.tableau.rows) v)) (checked w (pivot s.id m (note_leaving s w)) (then (noted s w) (framed (pivot-frame s.id m (note_leaving s w))))) (λ v. record { gone = refl; variables = refl })

    go : (o : Option Row) → Ends (Alike w) (next o)
    go (some r) = record { gone = refl; variables = refl }
    go none = by (get_marker_leaving_row m.id w)

purged : (tag : Tag) (w : Work) → Alike w (purge_tag tag w)
unfolding purge_tag purge with_tableau
purged tag w = go tag.other
  where
    go : (o : Option Symbol) → Alike w (purge tag.marker.id (elim o [ none ↦ w | some x ↦ purge x.id w ]))
    go none = record { gone = refl; variables = refl }
    go (some x) = record { gone = refl; variables = refl }

-- ---- the pass

counted : (l e : Symbol) (w : Work) → Ends (Alike w) (counted_pivot l e w)
unfolding counted_pivot count_pivot
counted l e w = bound w (check_finite (pivot l.id e w)) (λ v. going (count_pivot v)) (checked w (pivot l.id e w) (framed (pivot-frame l.id e w))) (λ v. record { gone = refl; variables = refl })

turned : (w : Work) (next : Work → Outcome Work) → ((v : Work) → Ends (Alike v) (next v)) → (c : Choice) → Ends (Alike w) (elim c [ ended ↦ going w | stuck ↦ refuse 15 w | pivot_on l e ↦ counted_pivot l e w >>= next ])
unfolding refuse
turned w next f ended = same w
turned w next f stuck = tt
turned w next f (pivot_on l e) = bound w (counted_pivot l e w) next (counted l e w) f

last : (w : Work) (c : Choice) → Ends (Alike w) (elim c [ ended ↦ going w | stuck ↦ refuse 15 w | pivot_on l e ↦ refuse 14 w ])
unfolding refuse
last w ended = same w
last w stuck = tt
last w (pivot_on l e) = tt

optimised : (left : ℕ) (g : Goal) (w : Work) → Ends (Alike w) (optimise left g w)
unfolding optimise
optimised zero g w = last w (choose_pivot g w)
optimised (suc left) g w = turned w (λ v. optimise left g v) (λ v. optimised left g v) (choose_pivot g w)

-- ---- all of them

pub passed-alike : (budget : ℕ) (tag : Tag) (strength : Float) (w : Work) → FitsW w → Ends (Alike w) (check_finite (remove_constraint_effects tag strength w) >>= drop_marker tag.marker >>= (λ v. optimise (budget - v.pivots) the_objective (purge_tag tag v)))
passed-alike budget tag strength w f =
    bound w (check_finite (remove_constraint_effects tag strength w) >>= drop_marker tag.marker) (λ v. optimise (budget - v.pivots) the_objective (purge_tag tag v))
    (bound w (check_finite (remove_constraint_effects tag strength w)) (drop_marker tag.marker) (checked w (remove_constraint_effects tag strength w) (framed (effects tag strength w f).frame)) (λ v. dropped tag.marker v))
    (λ v. ends-to (Alike (purge_tag tag v)) (Alike v) (optimise (budget - v.pivots) the_objective (purge_tag tag v)) (optimised (budget - v.pivots) the_objective (purge_tag tag v)) (λ u m. then (purged tag v) m))
