-- What the small steps of a removal leave as it is: symbols, ids and the variables but for their flags. Assumes nothing.
use Rattle.std.specs.Prelude.{◌≡◌, refl, List, Bool, true, false, ◌&&◌, cond, Float}
use Rattle.std.proofs.Math.Option.{Option, none, some}
use Rattle.std.specs.Float.Ieee.{ne}
use Rattle.steps.specs.Number.{zero64, Mark}
use Rattle.steps.specs.Symbol.{Symbol, is_external}
use Rattle.steps.specs.Row.{Row}
use Rattle.steps.specs.State.{Basic}
use Rattle.steps.specs.Work.{Work, marking, with_tableau, with_changes, with_rows, with_objective, find_row}
use Rattle.steps.specs.Changes.{note}
use Rattle.steps.specs.Remove.{note_leaving}
use Rattle.keeps.specs.Frame.{clear-changed}
use Rattle.run.specs.Steady.{Kept, kept_refl}

pub kept-marking : (m : Mark) (w : Work) → Kept w (marking m w)
unfolding marking
kept-marking m w = record { symbols = refl; next_id = refl; variables = refl; artificial = λ e. e }

pub kept-rows : (rs : List Basic) (w : Work) → Kept w (with_rows rs w)
unfolding with_rows with_tableau
kept-rows rs w = record { symbols = refl; next_id = refl; variables = refl; artificial = λ e. e }

pub kept-objective : (o : List Float) (w : Work) → Kept w (with_objective o w)
unfolding with_objective with_tableau
kept-objective o w = record { symbols = refl; next_id = refl; variables = refl; artificial = λ e. e }

-- "noted if its constant isn't zero": a note moves flags only
pub record Noted (w v : Work) : Type 0 where
  pub tableau : v.tableau ≡ w.tableau
  pub artificial : v.artificial ≡ w.artificial
  pub mark : v.mark ≡ w.mark
  pub pivots : v.pivots ≡ w.pivots
  pub kept : Kept w v

pub noted : (l : Symbol) (w : Work) → Noted w (note_leaving l w)
unfolding note_leaving note with_changes
noted l w = go (find_row l.id w.tableau.rows)
  where
    still : Noted w w
    still = record { tableau = refl; artificial = refl; mark = refl; pivots = refl; kept = kept_refl w }

    by : (b : Bool) → Noted w (cond b (note l.id w) w)
    by true = record {
      tableau = refl;
      artificial = refl;
      mark = refl;
      pivots = refl;
      kept = record { symbols = refl; next_id = refl; variables = clear-changed l.id w.changes; artificial = λ e. e };
    }
    by false = still

    go : (t : Option Row) → Noted w (elim t [ none ↦ w | some r ↦ cond (is_external l && ne r.constant zero64) (note l.id w) w ])
    go none = still
    go (some r) = by (is_external l && ne r.constant zero64)
