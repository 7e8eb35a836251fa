-- No call leaves a cell that is -0.0, in a state that has none: so a state of a run has one sparse form. Assumes nothing.
use Rattle.std.specs.Prelude.{List, [], ◌∷◌, Bool, false, cond, ◌&&◌, ℕ, ◌+◌, ◌-◌, eqb, Float}
use Rattle.std.proofs.Math.Option.{Option, none, some}
use Rattle.std.proofs.Math.Bool.{true}
use Rattle.std.specs.Float.Ieee.{ne, neg}
use Rattle.steps.specs.Number.{zero64, is_finite, constant_bound, whole_if, ◌-₆₄◌}
use Rattle.steps.specs.Strength.{clip}
use Rattle.steps.specs.Symbol.{Symbol, is_error, is_external}
use Rattle.steps.specs.Row.{Row}
use Rattle.steps.specs.State.{Term, Relation, equal, strength_of, comparison_of, Tag, Basic, Variable, Constraint, Edit, State}
use Rattle.steps.specs.Work.{Work, Outcome, refused, going, ◌>>=◌, refuse, check_finite, with_tableau, with_changes, with_rows, marking, find_row, drop_row, purge}
use Rattle.steps.specs.Changes.{note, tell_gone, fetch_changes}
use Rattle.steps.specs.Substitute.{rows_of, pivot}
use Rattle.steps.specs.Optimise.{optimise, the_objective, dual_optimise}
use Rattle.steps.specs.CreateRow.{with_variables, insert_in_objective}
use Rattle.steps.specs.Add.{whole_within, Added, add_steps}
use Rattle.steps.specs.Remove.{insert_row_in_objective, remove_marker_effects, remove_constraint_effects, get_marker_leaving_row, note_leaving, drop_marker, purge_tag, Fallen, use_less, lose, drop_use, drop_uses, remove_steps}
use Rattle.steps.specs.Edit.{edit_terms, add_edit_steps, shift_of, shift_row, shift_rows, shift_constants, suggest_steps}
use Rattle.steps.specs.Tests.{first_refusal, add_tests, add_edit_tests, drop_tests, group_of, kept_terms, find_constraint, keep_constraint, drop_constraint, find_edit, keep_edit, drop_edit, gone_full}
use Rattle.steps.specs.Calls.{Result, empty, begin, finish, refused_by, accepted_as, conclude, conclude_add, add, remove_stored, unless_full, remove, onward, remove_all, all_or_none, drop_group, add_edit, remove_edit_stored, remove_edit, suggest}
use Rattle.keeps.specs.Passes.{Ends, ends-bind}
use Rattle.sparse_test.specs.zeros.PlainAdding.{marked, aimed, revalued, objective-plain, add-steps-plain}
use Rattle.sparse_test.specs.zeros.Plain.{PlainRow, PlainRows, PlainWork, drop-plain, noted-plain, pivot-plain, purge-plain, checked-plain, optimise-plain, dual-plain}

-- ---- Remove's steps

effect-plain : (s : Symbol) (x : Float) (w : Work) → PlainWork w → PlainWork (remove_marker_effects s x w)
unfolding remove_marker_effects
effect-plain s x w h = go (is_error s)
  where
    by : (o : Option Row) → PlainWork (elim o [ none ↦ insert_in_objective s.id (neg x) w | some r ↦ insert_row_in_objective r (neg x) w ])
    by none = objective-plain s.id (neg x) w h
    by (some r) = unfold insert_row_in_objective in marked _ _ (aimed _ w h)

    go : (z : Bool) → PlainWork (elim z [ false ↦ w | true ↦ elim (find_row s.id w.tableau.rows) [ none ↦ insert_in_objective s.id (neg x) w | some r ↦ insert_row_in_objective r (neg x) w ] ])
    go false = h
    go true = by (find_row s.id w.tableau.rows)

effects-plain : (tag : Tag) (x : Float) (w : Work) → PlainWork w → PlainWork (remove_constraint_effects tag x w)
unfolding remove_constraint_effects
effects-plain tag x w h = go tag.other
  where
    first : Work
    first = remove_marker_effects tag.marker x w

    p : PlainWork first
    p = effect-plain tag.marker x w h

    go : (o : Option Symbol) → PlainWork (elim o [ none ↦ first | some o ↦ remove_marker_effects o x first ])
    go none = p
    go (some o) = effect-plain o x first p

note-leaving-plain : (s : Symbol) (w : Work) → PlainWork w → PlainWork (note_leaving s w)
unfolding note_leaving
note-leaving-plain s w h = go (find_row s.id w.tableau.rows)
  where
    go : (o : Option Row) → PlainWork (elim o [ none ↦ w | some r ↦ cond (is_external s && ne r.constant zero64) (note s.id w) w ])
    go none = h
    go (some r) = noted-plain (is_external s && ne r.constant zero64) s.id w h

without-plain : (s : ℕ) (w : Work) → PlainWork w → PlainWork (with_rows (drop_row s w.tableau.rows) w)
unfolding with_rows with_tableau
without-plain s w h = record { rows = drop-plain s w.tableau.rows h.rows; artificial = h.artificial }

drop-marker-plain : (m : Symbol) (w : Work) → PlainWork w → Ends PlainWork (drop_marker m w)
unfolding drop_marker
drop-marker-plain m w h = go (find_row m.id w.tableau.rows)
  where
    by : (o : Option Symbol) → Ends PlainWork (elim o [ none ↦ refuse 17 w | some leaving ↦ check_finite (pivot leaving.id m (note_leaving leaving w)) >>= λ v. going (with_rows (drop_row m.id v.tableau.rows) v) ])
    by none = unfold refuse in tt
    by (some l) =
        ends-bind PlainWork PlainWork (check_finite (pivot l.id m (note_leaving l w))) (λ v. going (with_rows (drop_row m.id v.tableau.rows) v))
        (checked-plain (pivot l.id m (note_leaving l w)) (pivot-plain l.id m (note_leaving l w) (note-leaving-plain l w h))) (λ v p. without-plain m.id v p)

    go : (o : Option Row)
        → Ends PlainWork (elim o [ some r ↦ going (with_rows (drop_row m.id w.tableau.rows) w) | none ↦ elim (get_marker_leaving_row m.id w) [ none ↦ refuse 17 w | some leaving ↦ check_finite (pivot leaving.id m (note_leaving leaving w)) >>= λ v. going (with_rows (drop_row m.id v.tableau.rows) v) ] ])
    go (some r) = without-plain m.id w h
    go none = by (get_marker_leaving_row m.id w)

purge-tag-plain : (tag : Tag) (w : Work) → PlainWork w → PlainWork (purge_tag tag w)
unfolding purge_tag
purge-tag-plain tag w h = purge-plain tag.marker.id (elim tag.other [ none ↦ w | some o ↦ purge o.id w ]) (go tag.other)
  where
    go : (o : Option Symbol) → PlainWork (elim o [ none ↦ w | some o ↦ purge o.id w ])
    go none = h
    go (some o) = purge-plain o.id w h

drop-use-plain : (t : Term) (w : Work) → PlainWork w → PlainWork (drop_use t w)
unfolding drop_use lose
drop-use-plain t w h = go fallen.gone
  where
    fallen : Fallen
    fallen = use_less t.variable w.changes.variables

    v : Work
    v = with_variables fallen.variables w

    p : PlainWork v
    p = revalued fallen.variables w h

    told : (x : Variable) → PlainWork (with_changes (tell_gone x v.changes) v)
    told x = unfold with_changes in record { rows = p.rows; artificial = p.artificial }

    go : (o : Option Variable) → PlainWork (elim o [ none ↦ v | some x ↦ lose x v ])
    go none = p
    go (some x) = purge-plain x.symbol.id (with_changes (tell_gone x v.changes) v) (told x)

drop-uses-plain : (ts : List Term) (w : Work) → PlainWork w → PlainWork (drop_uses ts w)
unfolding drop_uses
drop-uses-plain [] w h = h
drop-uses-plain (t ∷ ts) w h = drop-uses-plain ts (drop_use t w) (drop-use-plain t w h)

remove-steps-plain : (budget : ℕ) (tag : Tag) (x : Float) (ts : List Term) (w : Work) → PlainWork w → Ends PlainWork (remove_steps budget tag x ts w)
unfolding remove_steps
remove-steps-plain budget tag x ts w h =
    ends-bind PlainWork PlainWork (check_finite (remove_constraint_effects tag x w) >>= drop_marker tag.marker >>= (λ v. optimise (budget - v.pivots) the_objective (purge_tag tag v))) (λ v. going (drop_uses ts v))
    (ends-bind PlainWork PlainWork (check_finite (remove_constraint_effects tag x w) >>= drop_marker tag.marker) (λ v. optimise (budget - v.pivots) the_objective (purge_tag tag v))
    (ends-bind PlainWork PlainWork (check_finite (remove_constraint_effects tag x w)) (drop_marker tag.marker) (checked-plain (remove_constraint_effects tag x w) (effects-plain tag x w h)) (λ v p. drop-marker-plain tag.marker v p))
    (λ v p. optimise-plain (budget - v.pivots) the_objective (purge_tag tag v) (purge-tag-plain tag v p)))
    (λ v p. drop-uses-plain ts v p)

-- ---- a suggestion's

shifted-plain : (shift : Basic → Option Float) (bs : List Basic) → PlainRows bs → PlainRows (rows_of (shift_rows shift bs))
unfolding rows_of shift_rows
shifted-plain shift [] h = tt
shifted-plain shift (b ∷ bs) h = (go (shift b), shifted-plain shift bs h.1)
  where
    go : (o : Option Float) → PlainRow (shift_row b.row o).row
    go none = unfold shift_row Rattle.steps.specs.Row.untouched in h.0
    go (some d) = unfold shift_row in h.0

shift-plain : (tag : Tag) (d : Float) (w : Work) → PlainWork w → PlainWork (shift_constants tag d w)
unfolding shift_constants marking with_changes with_rows with_tableau
shift-plain tag d w h = record { rows = shifted-plain (shift_of tag d w) w.tableau.rows h.rows; artificial = h.artificial }

suggest-steps-plain : (budget : ℕ) (e : Edit) (x : Float) (w : Work) → PlainWork w → Ends PlainWork (suggest_steps budget e x w)
unfolding suggest_steps
suggest-steps-plain budget e x w h =
    ends-bind PlainWork PlainWork (check_finite (shift_constants e.tag (x -₆₄ e.suggestion) w₁)) (dual_optimise budget)
    (checked-plain (shift_constants e.tag (x -₆₄ e.suggestion) w₁) (shift-plain e.tag (x -₆₄ e.suggestion) w₁ (marked (whole_if (whole_within constant_bound x)) w h))) (λ v p. dual-plain budget v p)
  where
    w₁ : Work
    w₁ = marking (whole_if (whole_within constant_bound x)) w

-- ---- the calls

-- no cell of the state is -0.0
abbrev pub PlainState : State → Type 0
PlainState s = PlainRows s.tableau.rows

begin-plain : (s : State) → PlainState s → PlainWork (begin s)
unfolding begin
begin-plain s h = record { rows = h; artificial = tt }

concluded : (s : State) → PlainState s → (o : Outcome Work) (next : Work → State) → ((w : Work) → PlainWork w → PlainState (next w)) → Ends PlainWork o → PlainState (conclude s o next).state
unfolding conclude refused_by accepted_as
concluded s h (refused n p m) next f e = h
concluded s h (going w) next f e = f w e

concluded-add : (s : State) → PlainState s → (o : Outcome Added) (next : Added → State) → ((a : Added) → PlainWork a.work → PlainState (next a)) → Ends (λ (a : Added). PlainWork a.work) o → PlainState (conclude_add s o next).state
unfolding conclude_add refused_by accepted_as
concluded-add s h (refused n p m) next f e = h
concluded-add s h (going a) next f e = f a e

finished : (w : Work) (cs : List Constraint) (es : List Edit) → PlainWork w → PlainState (finish w cs es)
unfolding finish
finished w cs es h = h.rows

pub empty-plain : (cutoff : Float) → PlainState (empty cutoff)
unfolding empty
empty-plain cutoff = tt

pub add-plain : (g n : ℕ) (ts : List Term) (k : Float) (r : Relation) (b : ℕ) (s : State) → PlainState s → PlainState (add g n ts k r b s).state
unfolding add
add-plain g n ts k r b s h = go (first_refusal (add_tests g n ts k r s))
  where
    next : Added → State
    next a = finish a.work (keep_constraint (record { number = n; group = g; comparison = comparison_of r; strength = strength_of r; constant = k; terms = kept_terms s.tableau.cutoff ts; tag = a.tag }) s.constraints) s.edits

    go : (o : Option ℕ) → PlainState (elim o as (λ _. Result) [ some q ↦ refused_by q 0 s.whole s | none ↦ conclude_add s (add_steps b ts k r (begin s)) next ]).state
    go (some q) = unfold refused_by in h
    go none = concluded-add s h (add_steps b ts k r (begin s)) next (λ a p. finished a.work _ s.edits p) (add-steps-plain b ts k r (begin s) (begin-plain s h))

removed-plain : (n : ℕ) (c : Constraint) (b : ℕ) (s : State) → PlainState s → PlainState (remove_stored n c b s).state
unfolding remove_stored
removed-plain n c b s h =
    concluded s h (remove_steps b c.tag c.strength c.terms (begin s)) (λ w. finish w (drop_constraint n s.constraints) s.edits) (λ w p. finished w _ s.edits p)
    (remove-steps-plain b c.tag c.strength c.terms (begin s) (begin-plain s h))

-- 25 leaves the state as it is
unless-full-plain : (ts : List Term) (s : State) (r : Result) → PlainState s → PlainState r.state → PlainState (unless_full ts s r).state
unfolding unless_full refused_by
unless-full-plain ts s r h k = go (gone_full ts s)
  where
    go : (z : Bool) → PlainState (elim z as (λ _. Result) [ true ↦ refused_by 25 0 s.whole s | false ↦ r ]).state
    go true = h
    go false = k

pub remove-plain : (n b : ℕ) (s : State) → PlainState s → PlainState (remove n b s).state
unfolding remove
remove-plain n b s h = go (find_constraint n s.constraints)
  where
    go : (o : Option Constraint) → PlainState (elim o as (λ _. Result) [ none ↦ refused_by 5 0 s.whole s | some c ↦ unless_full c.terms s (remove_stored n c b s) ]).state
    go none = unfold refused_by in h
    go (some c) = unless-full-plain c.terms s (remove_stored n c b s) h (removed-plain n c b s h)

onward-plain : (r q : Result) → PlainState r.state → PlainState q.state → PlainState (onward r q).state
unfolding onward
onward-plain r q h k = go (eqb r.answer.number 0)
  where
    go : (z : Bool)
        → PlainState (elim z as (λ _. Result) [ false ↦ r | true ↦ record { answer = record { number = q.answer.number; pivots = r.answer.pivots + q.answer.pivots; whole = q.answer.whole }; state = q.state } ]).state
    go false = h
    go true = k

all_plain : (cs : List Constraint) (b : ℕ) (s : State) → PlainState s → PlainState (remove_all cs b s).state
unfolding remove_all
all_plain [] b s h = h
all_plain (c ∷ cs) b s h =
    let r : Result = remove_stored c.number c b s in
    let k = removed-plain c.number c b s h in
    onward-plain r (remove_all cs (b - r.answer.pivots) r.state) k (all_plain cs (b - r.answer.pivots) r.state k)

pub drop_group-plain : (g b : ℕ) (s : State) → PlainState s → PlainState (drop_group g b s).state
unfolding drop_group
drop_group-plain g b s h = go (first_refusal (drop_tests g s))
  where
    r : Result
    r = remove_all (group_of g s.constraints) b s

    kept : (z : Bool) → PlainState (elim z as (λ _. Result) [ true ↦ r | false ↦ refused_by r.answer.number r.answer.pivots r.answer.whole s ]).state
    kept true = all_plain (group_of g s.constraints) b s h
    kept false = unfold refused_by in h

    go : (o : Option ℕ) → PlainState (elim o as (λ _. Result) [ some q ↦ refused_by q 0 s.whole s | none ↦ all_or_none s r ]).state
    go (some q) = unfold refused_by in h
    go none = unfold all_or_none in kept (eqb r.answer.number 0)

pub add_edit-plain : (n : ℕ) (x : Float) (b : ℕ) (s : State) → PlainState s → PlainState (add_edit n x b s).state
unfolding add_edit
add_edit-plain n x b s h = go (first_refusal (add_edit_tests n (clip x) s))
  where
    next : Added → State
    next a = finish a.work s.constraints (keep_edit (record { variable = n; strength = clip x; tag = a.tag; suggestion = zero64 }) s.edits)

    go : (o : Option ℕ) → PlainState (elim o as (λ _. Result) [ some q ↦ refused_by q 0 s.whole s | none ↦ conclude_add s (add_edit_steps b n (clip x) (begin s)) next ]).state
    go (some q) = unfold refused_by in h
    go none = concluded-add s h (add_edit_steps b n (clip x) (begin s)) next (λ a p. finished a.work s.constraints _ p) (unfold add_edit_steps in add-steps-plain b (edit_terms n) zero64 (equal (clip x)) (begin s) (begin-plain s h))

pub remove_edit-plain : (n b : ℕ) (s : State) → PlainState s → PlainState (remove_edit n b s).state
unfolding remove_edit
remove_edit-plain n b s h = go (find_edit n s.edits)
  where
    next : Work → State
    next w = finish w s.constraints (drop_edit n s.edits)

    stored : (e : Edit) → PlainState (remove_edit_stored n e b s).state
    stored e = unfold remove_edit_stored in concluded s h (remove_steps b e.tag e.strength (edit_terms n) (begin s)) next (λ w p. finished w s.constraints _ p) (remove-steps-plain b e.tag e.strength (edit_terms n) (begin s) (begin-plain s h))

    go : (o : Option Edit) → PlainState (elim o as (λ _. Result) [ none ↦ refused_by 8 0 s.whole s | some e ↦ unless_full (edit_terms n) s (remove_edit_stored n e b s) ]).state
    go none = unfold refused_by in h
    go (some e) = unless-full-plain (edit_terms n) s (remove_edit_stored n e b s) h (stored e)

pub suggest-plain : (n : ℕ) (x : Float) (b : ℕ) (s : State) → PlainState s → PlainState (suggest n x b s).state
unfolding suggest
suggest-plain n x b s h = go (is_finite x)
  where
    next : Edit → Work → State
    next e w = finish w s.constraints (keep_edit (record { variable = n; strength = e.strength; tag = e.tag; suggestion = x }) (drop_edit n s.edits))

    by : (o : Option Edit) → PlainState (elim o as (λ _. Result) [ none ↦ refused_by 8 0 s.whole s | some e ↦ conclude s (suggest_steps b e x (begin s)) (next e) ]).state
    by none = unfold refused_by in h
    by (some e) = concluded s h (suggest_steps b e x (begin s)) (next e) (λ w p. finished w s.constraints _ p) (suggest-steps-plain b e x (begin s) (begin-plain s h))

    go : (z : Bool) → PlainState (elim z as (λ _. Result) [ false ↦ refused_by 1 0 s.whole s | true ↦ elim (find_edit n s.edits) [ none ↦ refused_by 8 0 s.whole s | some e ↦ conclude s (suggest_steps b e x (begin s)) (next e) ] ]).state
    go false = unfold refused_by in h
    go true = by (find_edit n s.edits)

pub fetch-plain : (s : State) → PlainState s → PlainState (fetch_changes s).state
unfolding fetch_changes
fetch-plain s h = h
