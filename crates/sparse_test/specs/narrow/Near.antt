-- What the steps do to the next id and to the variables' numbers: at most k ids are taken, and a number that is new is a term's. Assumes nothing.
use Prim.Native.Nat.{ℕ, zero, suc, ◌+◌, ◌-◌, ◌≤◌}
use Rattle.std.specs.Prelude.{◌≡◌, Bool, ◌&&◌, cond, Float}
use Rattle.std.proofs.Math.Path.{refl}
use Rattle.std.proofs.Math.Bool.{true, false}
use mathlib.Core.List.{List, [], ◌∷◌}
use Rattle.std.proofs.Math.Option.{Option, none, some}
use Rattle.std.proofs.Common.{arith}
use Rattle.std.specs.Float.Ieee.{ne, neg}
use Rattle.steps.specs.Number.{zero64}
use Rattle.steps.specs.Symbol.{Symbol, is_external, is_error}
use Rattle.steps.specs.Row.{Row}
use Rattle.steps.specs.State.{Term, Tag, Variable, Edit}
use Rattle.steps.specs.Work.{Work, Outcome, refused, going, ◌>>=◌, refuse, check_finite, with_tableau, with_rows, with_objective, with_changes, marking, count_pivot, find_row, drop_row, purge}
use Rattle.steps.specs.Changes.{with_flag, clear_changed, note, keep_number, never_reported, tell_gone}
use Rattle.steps.specs.CreateRow.{with_variables, insert_in_objective}
use Rattle.steps.specs.Substitute.{pivot}
use Rattle.steps.specs.Optimise.{Goal, the_objective, Choice, ended, stuck, pivot_on, choose_pivot, counted_pivot, optimise, choose_dual_pivot, dual_optimise}
use Rattle.steps.specs.Remove.{insert_row_in_objective, remove_marker_effects, remove_constraint_effects, get_marker_leaving_row, note_leaving, drop_marker, purge_tag, Fallen, use_less, lose, drop_use, drop_uses, remove_steps}
use Rattle.steps.specs.Edit.{suggest_steps, shift_constants}
use Rattle.keeps.specs.Lists.{All}
use Rattle.keeps.specs.Reads.{unmap}
use Rattle.keeps.specs.Fits.{all_map}
use Rattle.keeps.specs.Frame.{Frame, pivot-frame, mark-frame, note-frame}
use Rattle.keeps.specs.Suggest.{shift-frame}
use Rattle.keeps.specs.Passes.{Ends, ends-bind, ends-to, check-ends}

module _ (p : ℕ → Bool) where
  abbrev Named : Variable → Type 0
  Named v = p v.number ≡ true

  abbrev Passed : ℕ → Type 0
  Passed n = p n ≡ true

  -- each variable's number passes p, and each gone one's
  abbrev pub Numbered : Work → Type 0
  Numbered w = All Named w.changes.variables × All Passed w.changes.gone

  pub record Near (k : ℕ) (w v : Work) : Type 0 where
    pub next : v.tableau.next_id ≤ w.tableau.next_id + k
    pub numbers : Numbered w → Numbered v

  pub near_same : (w v : Work) → v.tableau.next_id ≡ w.tableau.next_id → v.changes.variables ≡ w.changes.variables → v.changes.gone ≡ w.changes.gone → Near 0 w v
  near_same w v e q g = record { next = omega (arith, e); numbers = λ h. (rw q h.0, rw g h.1) }

  pub near-refl : (w : Work) → Near 0 w w
  near-refl w = near_same w w refl refl refl

  pub near-then : {w v u : Work} {j k l : ℕ} → Near j w v → Near k v u → j + k ≤ l → Near l w u
  near-then a b c = record { next = omega (arith, a.next, b.next); numbers = λ h. b.numbers (a.numbers h) }

  pub near_on : {w v u : Work} {k : ℕ} → Near 0 w v → Near k v u → Near k w u
  near_on a b = record { next = omega (arith, a.next, b.next); numbers = λ h. b.numbers (a.numbers h) }

  -- ---- frames: only flags change

  pub near-frame : {w v : Work} → Frame w v → Near 0 w v
  unfolding clear_changed with_flag
  near-frame {w} {v} f = record {
    next = omega (arith, f.next);
    numbers = λ h. (unmap (with_flag false) Named v.changes.variables (rw f.variables (all_map (with_flag false) Named w.changes.variables h.0)), rw f.gone h.1);
  }

  counted : (o : Outcome Work) (w : Work) → Ends (Near 0 w) o → Ends (Near 0 w) (o >>= λ v. going (count_pivot v))
  unfolding count_pivot
  counted o w h = ends-bind (Near 0 w) (Near 0 w) o (λ v. going (count_pivot v)) h (λ v a. record { next = a.next; numbers = a.numbers })

  pivots : (l : ℕ) (e : Symbol) (w : Work) → Ends (Near 0 w) (check_finite (pivot l e w))
  pivots l e w = check-ends (Near 0 w) (pivot l e w) (λ _. near-frame (pivot-frame l e w))

  -- a turn of either pass, with what it makes of the next work, and one with no budget left; n is the number by which it refuses where it is stuck
  turn_near : (n : ℕ) (w : Work) (on : Work → Outcome Work) → ((v : Work) → Ends (Near 0 v) (on v)) → (c : Choice)
      → Ends (Near 0 w) (elim c [ ended ↦ going w | stuck ↦ refuse n w | pivot_on l e ↦ counted_pivot l e w >>= on ])
  unfolding refuse counted_pivot
  turn_near n w on ih ended = near-refl w
  turn_near n w on ih stuck = tt
  turn_near n w on ih (pivot_on l e) =
      ends-bind (Near 0 w) (Near 0 w) (counted_pivot l e w) on (counted (check_finite (pivot l.id e w)) w (pivots l.id e w))
      (λ v a. ends-to (Near 0 v) (Near 0 w) (on v) (ih v) (λ u b. near_on a b))

  last-near : (n : ℕ) (w : Work) (c : Choice) → Ends (Near 0 w) (elim c [ ended ↦ going w | stuck ↦ refuse n w | pivot_on l e ↦ refuse 14 w ])
  unfolding refuse
  last-near n w ended = near-refl w
  last-near n w stuck = tt
  last-near n w (pivot_on l e) = tt

  pub optimise-near : (left : ℕ) (g : Goal) (w : Work) → Ends (Near 0 w) (optimise left g w)
  unfolding optimise
  optimise-near zero g w = last-near 15 w (choose_pivot g w)
  optimise-near (suc left) g w = turn_near 15 w (λ v. optimise left g v) (λ v. optimise-near left g v) (choose_pivot g w)

  pub dual-near : (left : ℕ) (w : Work) → Ends (Near 0 w) (dual_optimise left w)
  unfolding dual_optimise
  dual-near zero w = last-near 16 w (choose_dual_pivot w)
  dual-near (suc left) w = turn_near 16 w (λ v. dual_optimise left v) (λ v. dual-near left v) (choose_dual_pivot w)

  -- ---- suggest

  shifted : (tag : Tag) (delta : Float) (w : Work) → Near 0 w (shift_constants tag delta w)
  shifted tag delta w = near-frame (shift-frame tag delta w)

  pub suggest-near : (budget : ℕ) (e : Edit) (new : Float) (w : Work) → Ends (Near 0 w) (suggest_steps budget e new w)
  unfolding suggest_steps
  suggest-near budget e new w =
      ends-bind (Near 0 w) (Near 0 w) (check_finite _) (dual_optimise budget)
      (check-ends (Near 0 w) _ (λ _. near_on (near-frame (mark-frame _ w)) (shifted e.tag _ (marking _ w))))
      (λ v a. ends-to (Near 0 v) (Near 0 w) (dual_optimise budget v) (dual-near budget v) (λ u b. near_on a b))

  -- ---- removal

  objective : (s : ℕ) (k : Float) (w : Work) → Near 0 w (insert_in_objective s k w)
  unfolding insert_in_objective marking with_objective with_tableau
  objective s k w = near_same w (insert_in_objective s k w) refl refl refl

  row-objective : (r : Row) (k : Float) (w : Work) → Near 0 w (insert_row_in_objective r k w)
  unfolding insert_row_in_objective marking with_objective with_tableau
  row-objective r k w = near_same w (insert_row_in_objective r k w) refl refl refl

  effect : (s : Symbol) (k : Float) (w : Work) → Near 0 w (remove_marker_effects s k w)
  unfolding remove_marker_effects
  effect s k w = go (is_error s) (find_row s.id w.tableau.rows)
    where
      go : (b : Bool) (o : Option Row) → Near 0 w (elim b [ false ↦ w | true ↦ elim o [ none ↦ insert_in_objective s.id (neg k) w | some r ↦ insert_row_in_objective r (neg k) w ] ])
      go false o = near-refl w
      go true none = objective s.id (neg k) w
      go true (some r) = row-objective r (neg k) w

  effects : (tag : Tag) (k : Float) (w : Work) → Near 0 w (remove_constraint_effects tag k w)
  unfolding remove_constraint_effects
  effects tag k w = go tag.other
    where
      first : Work
      first = remove_marker_effects tag.marker k w

      go : (o : Option Symbol) → Near 0 w (elim o [ none ↦ first | some o ↦ remove_marker_effects o k first ])
      go none = effect tag.marker k w
      go (some o) = near_on (effect tag.marker k w) (effect o k first)

  dropped : (s : ℕ) (w : Work) → Near 0 w (with_rows (drop_row s w.tableau.rows) w)
  unfolding with_rows with_tableau
  dropped s w = near_same w (with_rows (drop_row s w.tableau.rows) w) refl refl refl

  noted : (l : Symbol) (w : Work) → Near 0 w (note_leaving l w)
  unfolding note_leaving
  noted l w = go (find_row l.id w.tableau.rows)
    where
      by : (b : Bool) → Near 0 w (cond b (note l.id w) w)
      by true = near-frame (note-frame l.id w)
      by false = near-refl w

      go : (o : Option Row) → Near 0 w (elim o [ none ↦ w | some r ↦ cond (is_external l && ne r.constant zero64) (note l.id w) w ])
      go none = near-refl w
      go (some r) = by (is_external l && ne r.constant zero64)

  marker : (m : Symbol) (w : Work) → Ends (Near 0 w) (drop_marker m w)
  unfolding drop_marker refuse
  marker m w = go (find_row m.id w.tableau.rows) (get_marker_leaving_row m.id w)
    where
      leave : Option Symbol → Outcome Work
      leave l = elim l [ none ↦ refused 17 w.pivots w.mark | some leaving ↦ check_finite (pivot leaving.id m (note_leaving leaving w)) >>= λ v. going (with_rows (drop_row m.id v.tableau.rows) v) ]

      go : (o : Option Row) (l : Option Symbol) → Ends (Near 0 w) (elim o [ some r ↦ going (with_rows (drop_row m.id w.tableau.rows) w) | none ↦ leave l ])
      go (some r) l = dropped m.id w
      go none none = tt
      go none (some l) =
          ends-bind (Near 0 w) (Near 0 w) (check_finite (pivot l.id m (note_leaving l w))) (λ v. going (with_rows (drop_row m.id v.tableau.rows) v))
          (ends-to (Near 0 (note_leaving l w)) (Near 0 w) (check_finite (pivot l.id m (note_leaving l w))) (pivots l.id m (note_leaving l w)) (λ v a. near_on (noted l w) a))
          (λ v a. near_on a (dropped m.id v))

  pub purged : (s : ℕ) (w : Work) → Near 0 w (purge s w)
  unfolding purge with_tableau
  purged s w = near_same w (purge s w) refl refl refl

  tag-purged : (tag : Tag) (w : Work) → Near 0 w (purge_tag tag w)
  unfolding purge_tag
  tag-purged tag w = go tag.other
    where
      go : (o : Option Symbol) → Near 0 w (purge tag.marker.id (elim o [ none ↦ w | some x ↦ purge x.id w ]))
      go none = purged tag.marker.id w
      go (some x) = near_on (purged x.id w) (purged tag.marker.id (purge x.id w))

  -- the one that goes was among them
  abbrev NamedIf : Option Variable → Type 0
  NamedIf none = Unit {0}
  NamedIf (some v) = Named v

  fewer : (n : ℕ) (vs : List Variable) → All Named vs → All Named (use_less n vs).variables × NamedIf (use_less n vs).gone
  unfolding use_less
  fewer n [] h = (tt, tt)
  fewer n (v ∷ vs) h = go (lib.Dec.eqb n v.number) (lib.Dec.eqb v.uses 1) (fewer n vs h.1)
    where
      rest : Fallen
      rest = use_less n vs

      less : Variable
      less = record { number = v.number; symbol = v.symbol; old = v.old; uses = v.uses - 1; changed = v.changed }

      left : Bool → Bool → Fallen
      left b c = elim b as (λ _. Fallen) [ false ↦ record { variables = v ∷ rest.variables; gone = rest.gone } | true ↦ elim c as (λ _. Fallen) [ true ↦ record { variables = vs; gone = some v } | false ↦ record { variables = less ∷ vs; gone = none } ] ]

      go : (b c : Bool) → All Named rest.variables × NamedIf rest.gone → All Named (left b c).variables × NamedIf (left b c).gone
      go false c ih = ((h.0, ih.0), ih.1)
      go true true ih = (h.1, h.0)
      go true false ih = ((h.0, h.1), tt)

  kept-passed : (n : ℕ) (ns : List ℕ) → Passed n → All Passed ns → All Passed (keep_number n ns)
  unfolding keep_number
  kept-passed n [] e h = (e, tt)
  kept-passed n (x ∷ ns) e h = go (lib.Dec.ltb n x) (lib.Dec.eqb n x) (kept-passed n ns e h.1)
    where
      go : (a b : Bool) → All Passed (keep_number n ns) → All Passed (elim a [ true ↦ n ∷ x ∷ ns | false ↦ elim b [ true ↦ x ∷ ns | false ↦ x ∷ keep_number n ns ] ])
      go true b ih = (e, h)
      go false true ih = h
      go false false ih = (h.0, ih)

  told-passed : (v : Variable) (ns : List ℕ) → Named v → All Passed ns → All Passed (cond (never_reported v) ns (keep_number v.number ns))
  told-passed v ns e h = go (never_reported v)
    where
      go : (b : Bool) → All Passed (cond b ns (keep_number v.number ns))
      go true = h
      go false = kept-passed v.number ns e h

  use-dropped : (t : Term) (w : Work) → Near 0 w (drop_use t w)
  unfolding drop_use lose with_variables with_changes tell_gone purge with_tableau
  use-dropped t w = go fallen.gone (λ h. (fewer t.variable w.changes.variables h).1)
    where
      fallen : Fallen
      fallen = use_less t.variable w.changes.variables

      left : Work
      left = with_variables fallen.variables w

      go : (o : Option Variable) → (All Named w.changes.variables → NamedIf o) → Near 0 w (elim o [ none ↦ left | some v ↦ lose v left ])
      go none f = record { next = omega arith; numbers = λ h. ((fewer t.variable w.changes.variables h.0).0, h.1) }
      go (some v) f = record { next = omega arith; numbers = λ h. ((fewer t.variable w.changes.variables h.0).0, told-passed v w.changes.gone (f h.0) h.1) }

  uses-dropped : (ts : List Term) (w : Work) → Near 0 w (drop_uses ts w)
  unfolding drop_uses
  uses-dropped [] w = near-refl w
  uses-dropped (t ∷ ts) w = near_on (use-dropped t w) (uses-dropped ts (drop_use t w))

  pub remove-near : (budget : ℕ) (tag : Tag) (strength : Float) (terms : List Term) (w : Work) → Ends (Near 0 w) (remove_steps budget tag strength terms w)
  unfolding remove_steps
  remove-near budget tag strength terms w =
      ends-bind (Near 0 w) (Near 0 w) _ (λ v. going (drop_uses terms v))
      (ends-bind (Near 0 w) (Near 0 w) _ (λ v. optimise (budget - v.pivots) the_objective (purge_tag tag v))
      (ends-bind (Near 0 w) (Near 0 w) (check_finite (remove_constraint_effects tag strength w)) (drop_marker tag.marker)
      (check-ends (Near 0 w) (remove_constraint_effects tag strength w) (λ _. effects tag strength w))
      (λ v a. ends-to (Near 0 v) (Near 0 w) (drop_marker tag.marker v) (marker tag.marker v) (λ u b. near_on a b)))
      (λ v a. ends-to (Near 0 (purge_tag tag v)) (Near 0 w) (optimise (budget - v.pivots) the_objective (purge_tag tag v)) (optimise-near (budget - v.pivots) the_objective (purge_tag tag v))
      (λ u b. near_on (near_on a (tag-purged tag v)) b)))
      (λ v a. near_on a (uses-dropped terms v))
