-- Steps outside a pass: they count no pivot, never refuse 14, and a mark that is lost stays lost. Assumes nothing.
use Prim.Native.Nat.{ℕ}
use native.Mathlib.Omega.{arith}
use mathlib.Core.Path.{◌≡◌, refl, ◌∙◌}
use mathlib.Core.Logic.{◌≢◌}
use mathlib.Core.Bool.{Bool, true, false}
use mathlib.Core.Option.{Option, none, some}
use Rattle.steps.specs.Number.{Mark, all_whole, not_whole, not_finite}
use Rattle.steps.specs.Symbol.{Symbol}
use Rattle.steps.specs.Row.{Row}
use Rattle.steps.specs.Work.{Work, Outcome, refused, going, ◌>>=◌, refuse, check_finite, with_rows, find_row, drop_row, purge}
use Rattle.steps.specs.CreateRow.{Created}
use Rattle.steps.specs.Substitute.{pivot}
use Rattle.steps.specs.Artificial.{any_pivotable_symbol, is_empty_row, remove_temporary}
use Rattle.steps.specs.Add.{add_with_subject}
use Rattle.steps.specs.Remove.{get_marker_leaving_row, note_leaving, drop_marker}
use Rattle.steps.proofs.After.{After, after-trans, marking-after, rows-after, purge-after, enter-after, pivot-after}
use Rattle.steps.proofs.AfterRemove.{note_leaving-after}
use Rattle.simplex.specs.bridge.Runs.{mark_of}
use Rattle.run.specs.stall.Stall.{refusal_of}
use Rattle.run.proofs.stall.Turns.{pivots_at}

pub record Quiet (v : Work) (o : Outcome Work) : Type 0 where
  pub pivots : pivots_at o ≡ v.pivots
  pub other : refusal_of o ≢ 14
  pub mark : mark_of o ≡ all_whole → v.mark ≡ all_whole

pub goes : {v x : Work} → After v x → Quiet v (going x)
unfolding pivots_at refusal_of mark_of
goes a = record { pivots = a.pivots; other = λ e. omega (arith, e); mark = a.mark }

pub refuses : (n : ℕ) (v : Work) → n ≢ 14 → Quiet v (refuse n v)
unfolding pivots_at refusal_of mark_of refuse
refuses n v d = record { pivots = refl; other = d; mark = λ m. m }

pub checks : {v x : Work} → After v x → Quiet v (check_finite x)
unfolding pivots_at refusal_of mark_of refuse check_finite
checks {v} {x} a = go x.mark
  where
    go : (m : Mark) → Quiet v (elim m [ all_whole ↦ going x | not_whole ↦ going x | not_finite ↦ refused 13 x.pivots x.mark ])
    go all_whole = goes a
    go not_whole = goes a
    go not_finite = record { pivots = a.pivots; other = λ e. omega (arith, e); mark = a.mark }

pub then : {v : Work} (o : Outcome Work) (f : Work → Outcome Work) → Quiet v o → ((x : Work) → Quiet x (f x)) → Quiet v (o >>= f)
unfolding pivots_at refusal_of mark_of ◌>>=◌
then (refused n p m) f q k = q
then (going x) f q k = let r = k x in record { pivots = r.pivots ∙ q.pivots; other = r.other; mark = λ m. q.mark (r.mark m) }

-- ---- Add's steps 5 and 6
pub subject-quiet : (s : Symbol) (c : Created) → Quiet c.work (add_with_subject s c)
unfolding add_with_subject
subject-quiet s c = checks (after-trans (marking-after _ c.work) (enter-after s _ _))

pub temporary-quiet : (t : Symbol) (w : Work) → Quiet w (remove_temporary t w)
unfolding remove_temporary
temporary-quiet t w = go (find_row t.id w.tableau.rows)
  where
    pivoted : (o : Option Symbol) → Quiet w (elim o [ none ↦ refuse 12 w | some e ↦ check_finite (pivot t.id e w) >>= λ v. going (purge t.id v) ])
    pivoted none = refuses 12 w (λ e. omega (arith, e))
    pivoted (some e) = then (check_finite (pivot t.id e w)) (λ v. going (purge t.id v)) (checks (pivot-after t.id e w)) (λ v. goes (purge-after t.id v))

    basic : (r : Row) (b : Bool)
        → Quiet w (elim b [ true ↦ going (purge t.id w) | false ↦ elim (any_pivotable_symbol r w) [ none ↦ refuse 12 w | some e ↦ check_finite (pivot t.id e w) >>= λ v. going (purge t.id v) ] ])
    basic r true = goes (purge-after t.id w)
    basic r false = pivoted (any_pivotable_symbol r w)

    go : (o : Option Row) → Quiet w (elim o [
      | none ↦ going (purge t.id w)
      | some r ↦
          elim (is_empty_row r w) [
            | true ↦ going (purge t.id w)
            | false ↦ elim (any_pivotable_symbol r w) [ none ↦ refuse 12 w | some e ↦ check_finite (pivot t.id e w) >>= λ v. going (purge t.id v) ]
          ]
    ])
    go none = goes (purge-after t.id w)
    go (some r) = basic r (is_empty_row r w)

-- ---- a removal's marker
pub marker-quiet : (m : Symbol) (w : Work) → Quiet w (drop_marker m w)
unfolding drop_marker
marker-quiet m w = go (find_row m.id w.tableau.rows)
  where
    leaves : (o : Option Symbol)
        → Quiet w (elim o [ none ↦ refuse 17 w | some l ↦ check_finite (pivot l.id m (note_leaving l w)) >>= λ v. going (with_rows (drop_row m.id v.tableau.rows) v) ])
    leaves none = refuses 17 w (λ e. omega (arith, e))
    leaves (some l) =
        then (check_finite (pivot l.id m (note_leaving l w))) (λ v. going (with_rows (drop_row m.id v.tableau.rows) v)) (checks (after-trans (note_leaving-after l w) (pivot-after l.id m _)))
        (λ v. goes (rows-after _ v))

    go : (o : Option Row)
        → Quiet w (elim o [
          | some r ↦ going (with_rows (drop_row m.id w.tableau.rows) w)
          | none ↦
              elim (get_marker_leaving_row m.id w)
              [ none ↦ refuse 17 w | some l ↦ check_finite (pivot l.id m (note_leaving l w)) >>= λ v. going (with_rows (drop_row m.id v.tableau.rows) v) ]
        ])
    go (some r) = goes (rows-after _ w)
    go none = leaves (get_marker_leaving_row m.id w)
