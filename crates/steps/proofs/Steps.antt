-- How the steps of each changing call end. Assumes nothing.
use Prim.Native.Nat.{◌-◌}
use native.Mathlib.Omega.{arith}
use mathlib.Core.Path.{◌≡◌}
use mathlib.Core.Bool.{Bool, true, false}
use mathlib.Core.List.{List}
use mathlib.Core.Option.{Option, none, some}
use lib.Ieee.{Float}
use Rattle.steps.specs.Number.{constant_bound, near_zero, whole_if}
use Rattle.steps.specs.Symbol.{Slack, Symbol}
use Rattle.steps.specs.Row.{Row}
use Rattle.steps.specs.State.{Term, Relation, Tag, Edit}
use Rattle.steps.specs.Work.{Work, going, ◌>>=◌, refuse, check_finite, marking, with_rows, with_artificial, find_row, drop_row, new_symbol, purge}
use Rattle.steps.specs.Substitute.{pivot}
use Rattle.steps.specs.CreateRow.{Created, create_row, choose_subject, all_dummies}
use Rattle.steps.specs.Optimise.{the_objective, the_artificial, optimise, dual_optimise}
use Rattle.steps.specs.Artificial.{any_pivotable_symbol, is_empty_row, remove_temporary, artificial_constant_near_zero, add_with_artificial_variable}
use Rattle.steps.specs.Add.{whole_inputs, whole_within, add_with_subject, add_created, Added, add_steps}
use Rattle.steps.specs.Remove.{get_marker_leaving_row, note_leaving, drop_marker, purge_tag, drop_uses, remove_constraint_effects, remove_steps}
use Rattle.steps.specs.Edit.{suggest_steps}
use Rattle.steps.proofs.After.{after-trans, marking-after, rows-after, artificial-after, purge-after, enter-after, pivot-after}
use Rattle.steps.proofs.AfterAdd.{create_row-after, stand_temporary-after}
use Rattle.steps.proofs.AfterRemove.{remove_effects-after, note_leaving-after, purge_tag-after, drop_uses-after, shift-after}
use Rattle.steps.proofs.Ends.{Bounds, Gives, Within, Ends, goes, within-after, bind, refuses, checked, checks-then, optimises, dual_optimises, passes}

-- ---- Add's steps

-- step 6, once the artificial objective has gone
removes_temporary : {lim : Bounds} → Gives lim 12 → Gives lim 13 → (t : Symbol) (w : Work) → Within lim w → Ends lim (Within lim) (remove_temporary t w)
unfolding remove_temporary
removes_temporary {lim} g12 g13 t w h = go (find_row t.id w.tableau.rows)
  where
    purged : (v : Work) → Within lim v → Ends lim (Within lim) (going (purge t.id v))
    purged v f = goes (within-after (purge-after t.id v) f)

    pivoted : (o : Option Symbol) → Ends lim (Within lim) (elim o [ none ↦ refuse 12 w | some e ↦ check_finite (pivot t.id e w) >>= λ v. going (purge t.id v) ])
    pivoted none = refuses (Within lim) 12 w tt tt g12 h
    pivoted (some e) =
        let f : Within lim (pivot t.id e w) = within-after (pivot-after t.id e w) h in
        checks-then (pivot t.id e w) (λ v. going (purge t.id v)) g13 f (purged (pivot t.id e w) f)

    basic : (r : Row) (b : Bool)
        → Ends lim (Within lim) (elim b [ true ↦ going (purge t.id w) | false ↦ elim (any_pivotable_symbol r w) [ none ↦ refuse 12 w | some e ↦ check_finite (pivot t.id e w) >>= λ v. going (purge t.id v) ] ])
    basic r true = purged w h
    basic r false = pivoted (any_pivotable_symbol r w)

    go : (o : Option Row) → Ends lim (Within lim) (elim o [
      | none ↦ going (purge t.id w)
      | some r ↦
          elim (is_empty_row r w) [
            | true ↦ going (purge t.id w)
            | false ↦ elim (any_pivotable_symbol r w) [ none ↦ refuse 12 w | some e ↦ check_finite (pivot t.id e w) >>= λ v. going (purge t.id v) ]
          ]
    ])
    go none = purged w h
    go (some r) = basic r (is_empty_row r w)

-- step 6
adds_artificial : {lim : Bounds} → Gives lim 12 → Gives lim 13 → Gives lim 14 → Gives lim 15 → (c : Created) → Within lim c.work → Ends lim (Within lim) (add_with_artificial_variable lim.budget c)
unfolding add_with_artificial_variable
adds_artificial {lim} g12 g13 g14 g15 c h = bind _ (passes g13 g14 g15 the_artificial _ (within-after (stand_temporary-after _ _) h)) λ w f. go w (artificial_constant_near_zero w) f
  where
    t : Symbol
    t = new_symbol Slack c.work

    go : (w : Work) (b : Bool) → Within lim w → Ends lim (Within lim) (elim b [ false ↦ refuse 12 w | true ↦ remove_temporary t (with_artificial none w) ])
    go w false f = refuses (Within lim) 12 w tt tt g12 f
    go w true f = removes_temporary g12 g13 t (with_artificial none w) (within-after (artificial-after none w) f)

-- step 5
adds_subject : {lim : Bounds} → Gives lim 13 → (s : Symbol) (c : Created) → Within lim c.work → Ends lim (Within lim) (add_with_subject s c)
unfolding add_with_subject
adds_subject g13 s c h = checked _ g13 (within-after (after-trans (marking-after _ c.work) (enter-after s _ _)) h)

-- steps 4 to 6
adds_created : {lim : Bounds} → Gives lim 12 → Gives lim 13 → Gives lim 14 → Gives lim 15 → (c : Created) → Within lim c.work → Ends lim (Within lim) (add_created lim.budget c)
unfolding add_created
adds_created {lim} g12 g13 g14 g15 c h = go (choose_subject c)
  where
    zeroed : (b : Bool) → Ends lim (Within lim) (elim b [ false ↦ refuse 12 c.work | true ↦ add_with_subject c.tag.marker c ])
    zeroed false = refuses (Within lim) 12 c.work tt tt g12 h
    zeroed true = adds_subject g13 c.tag.marker c h

    without : (b : Bool)
        → Ends lim (Within lim) (elim b [ false ↦ add_with_artificial_variable lim.budget c | true ↦ elim (near_zero c.work.tableau.cutoff c.row.constant) [ false ↦ refuse 12 c.work | true ↦ add_with_subject c.tag.marker c ] ])
    without false = adds_artificial g12 g13 g14 g15 c h
    without true = zeroed (near_zero c.work.tableau.cutoff c.row.constant)

    go : (o : Option Symbol)
        → Ends lim (Within lim) (elim o [
          | some s ↦ add_with_subject s c
          | none ↦
              elim (all_dummies c)
              [ false ↦ add_with_artificial_variable lim.budget c | true ↦ elim (near_zero c.work.tableau.cutoff c.row.constant) [ false ↦ refuse 12 c.work | true ↦ add_with_subject c.tag.marker c ] ]
        ])
    go (some s) = adds_subject g13 s c h
    go none = without (all_dummies c)

-- all seven: 12, 13, 14, 15, or what is stored
pub add_steps-ends : {lim : Bounds} → Gives lim 12 → Gives lim 13 → Gives lim 14 → Gives lim 15 → (ts : List Term) (k : Float) (r : Relation) (w : Work) → Within lim w → Ends lim (λ (a : Added). Within lim a.work) (add_steps lim.budget ts k r w)
unfolding add_steps
add_steps-ends {lim} g12 g13 g14 g15 ts k r w h =
    let v : Work = marking (whole_if (whole_inputs ts k r)) w in
    let c : Created = create_row ts k r v in
    let f : Within lim c.work = within-after (after-trans (marking-after _ w) (create_row-after ts k r v)) h in
    bind {P = Within lim} (λ x. going (record { work = x; tag = c.tag }))
    (bind {P = Within lim} (λ x. optimise (lim.budget - x.pivots) the_objective x) (checks-then c.work (λ _. add_created lim.budget c) g13 f (adds_created g12 g13 g14 g15 c f)) λ x f. passes g13 g14 g15 the_objective x f)
    λ x f. goes f

-- ---- Remove's steps

-- the marker made basic, and dropped
drops_marker : {lim : Bounds} → Gives lim 13 → Gives lim 17 → (m : Symbol) (w : Work) → Within lim w → Ends lim (Within lim) (drop_marker m w)
unfolding drop_marker
drops_marker {lim} g13 g17 m w h = go (find_row m.id w.tableau.rows)
  where
    leaves : (o : Option Symbol)
        → Ends lim (Within lim) (elim o [ none ↦ refuse 17 w | some l ↦ check_finite (pivot l.id m (note_leaving l w)) >>= λ v. going (with_rows (drop_row m.id v.tableau.rows) v) ])
    leaves none = refuses (Within lim) 17 w tt tt g17 h
    leaves (some l) =
        let v : Work = pivot l.id m (note_leaving l w) in
        let f : Within lim v = within-after (after-trans (note_leaving-after l w) (pivot-after l.id m _)) h in
        checks-then v (λ x. going (with_rows (drop_row m.id x.tableau.rows) x)) g13 f (goes (within-after (rows-after _ v) f))

    go : (o : Option Row)
        → Ends lim (Within lim) (elim o [
          | some r ↦ going (with_rows (drop_row m.id w.tableau.rows) w)
          | none ↦
              elim (get_marker_leaving_row m.id w)
              [ none ↦ refuse 17 w | some l ↦ check_finite (pivot l.id m (note_leaving l w)) >>= λ v. going (with_rows (drop_row m.id v.tableau.rows) v) ]
        ])
    go (some r) = goes (within-after (rows-after _ w) h)
    go none = leaves (get_marker_leaving_row m.id w)

-- all: 13, 14, 15, 17, or what is stored
pub remove_steps-ends : {lim : Bounds} → Gives lim 13 → Gives lim 14 → Gives lim 15 → Gives lim 17 → (tag : Tag) (strength : Float) (ts : List Term) (w : Work) → Within lim w → Ends lim (Within lim) (remove_steps lim.budget tag strength ts w)
unfolding remove_steps
remove_steps-ends {lim} g13 g14 g15 g17 tag strength ts w h =
    let v : Work = remove_constraint_effects tag strength w in
    let f : Within lim v = within-after (remove_effects-after tag strength w) h in
    bind {P = Within lim} (λ x. going (drop_uses ts x))
    (bind {P = Within lim} (λ x. optimise (lim.budget - x.pivots) the_objective (purge_tag tag x)) (checks-then v (drop_marker tag.marker) g13 f (drops_marker g13 g17 tag.marker v f))
    λ x f. optimises g13 g14 g15 (lim.budget - x.pivots) the_objective (purge_tag tag x) (rw (purge_tag-after tag x).pivots (omega (arith, f.spent))) (within-after (purge_tag-after tag x) f))
    λ x f. goes (within-after (drop_uses-after ts x) f)

-- ---- suggest's steps

-- all, from a work with no pivot made: 13, 14, 16, or what is stored
pub suggest_steps-ends : {lim : Bounds} → Gives lim 13 → Gives lim 14 → Gives lim 16 → (e : Edit) (new : Float) (w : Work) → w.pivots ≡ 0 → Within lim w → Ends lim (Within lim) (suggest_steps lim.budget e new w)
unfolding suggest_steps
suggest_steps-ends {lim} g13 g14 g16 e new w z h =
    let a = after-trans (marking-after (whole_if (whole_within constant_bound new)) w) (shift-after e.tag _ _) in
    checks-then _ (dual_optimise lim.budget) g13 (within-after a h) (dual_optimises g13 g14 g16 lim.budget _ (rw (a.pivots, z) (omega arith)) (within-after a h))
