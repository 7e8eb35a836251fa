-- Add's steps tell. Assumes nothing.
use Rattle.std.specs.Prelude.{◌≡◌, refl, ◌≢◌, Bool, true, false, ℕ, ◌+◌, ◌-◌, ◌<◌, length, Float}
use Rattle.std.proofs.Common.{sym, ◌∙◌, subst, inl, inr, arith}
use mathlib.Core.List.{List, [], ◌∷◌}
use Rattle.std.proofs.Math.Option.{Option, none, some}
use Rattle.steps.specs.Number.{is_finite, near_zero, Mark, whole_if}
use Rattle.steps.specs.Symbol.{Slack, Symbol, is_external, is_pivotable, holds}
use Rattle.steps.specs.Row.{Row, Written, solve_for_symbol, append_cell}
use Rattle.steps.specs.State.{Term, Relation, Basic, Variable}
use Rattle.steps.specs.Work.{Work, Outcome, refused, going, ◌>>=◌, refuse, check_finite, with_tableau, with_rows, with_artificial, marking, find_row, keep_row, new_symbol, append_symbol, purge}
use Rattle.steps.specs.Substitute.{enter_basis, pivot}
use Rattle.steps.specs.Optimise.{optimise, the_objective, the_artificial}
use Rattle.steps.specs.CreateRow.{Created, append_to, create_row, choose_subject, all_dummies}
use Rattle.steps.specs.Artificial.{any_pivotable_symbol, is_empty_row, stand_temporary, remove_temporary, artificial_constant_near_zero, add_with_artificial_variable}
use Rattle.steps.specs.Add.{whole_inputs, Added, add_with_subject, add_created, add_steps}
use Rattle.steps.specs.Tests.{kept_terms, new_variables}
use Rattle.steps.specs.Readable.{uses_in}
use Rattle.keeps.specs.Lists.{All, all-to, all-zip, no_both}
use Rattle.keeps.specs.Along.{Mem, first-chosen}
use Rattle.keeps.specs.Keys.{row_id, keep_all, keep_row-is, find-all, Row?, no_row, a-row, row?}
use Rattle.keeps.specs.Cells.{Fine, holds-held}
use Rattle.keeps.specs.RowOps.{RowOk}
use Rattle.keeps.specs.Fits.{IsBasic, fits-plain, fits-worse, mem-append, mem-last, all_map}
use Rattle.keeps.specs.Frame.{Frame, frame-trans, mark-frame, enter-frame, pivot-frame}
use Rattle.keeps.specs.Good.{Good, good-frame}
use Rattle.keeps.specs.Passes.{Ends, ends-bind, check-ends, Free, held-free, After, optimise-ends}
use Rattle.keeps.specs.Creating.{Tagged, create_row-tagged, subject-free}
use Rattle.keeps.specs.Adding.{subject-fits, temporary-fits}
use Rattle.keeps.specs.suffices.Fresh.{Fresh}
use Rattle.keeps.specs.suffices.Values.{RoundedAt, value-keep}
use Rattle.keeps.specs.suffices.Placed.{var_id, Named, placed-flags, good_placed, apart}
use Rattle.keeps.specs.suffices.Pivoting.{Sees, sees-ready, mark-ready, fresh-same, enter-told, solved-rounded, pivot-sees}
use Rattle.keeps.specs.suffices.Passing.{ends-both, others-spare, optimise-sees}
use Rattle.keeps.specs.suffices.Removing.{Other, purge-sees}
use Rattle.keeps.specs.suffices.Building.{Begun, mark-begun, create_row-begun, place_more, place-value}

-- ---- step 5

subject-sees : (s : Symbol) (c : Created) → Sees c.work → RowOk (IsBasic c.work.tableau.rows) (Fine c.work.mark) c.work.tableau.symbols c.row → Free c.work s → Ends Sees (add_with_subject s c)
unfolding add_with_subject
subject-sees s c h r f = check-ends Sees (enter_basis s solved.row w) (λ m. record {
  fits = subject-fits s c.row c.work h.fits r f;
  fine = m;
  placed = rw frame.symbols (placed-flags c.work.tableau.symbols c.work.changes.variables (enter_basis s solved.row w).changes.variables frame.variables h.placed);
  told = enter-told s solved.row w (mark-ready solved.mark c.work (sees-ready c.work h)) (unfold marking in f.free) (unfold marking in f.live) (solved-rounded s c.work.tableau.symbols c.row);
})
  where
    solved : Written
    solved = solve_for_symbol s.id c.work.tableau.symbols c.row

    w : Work
    w = marking solved.mark c.work

    frame : Frame c.work (enter_basis s solved.row w)
    frame = frame-trans (mark-frame solved.mark c.work) (enter-frame s solved.row w)

-- ---- step 6

-- a live symbol is below the next id
below : (next : ℕ) (xs : List Symbol) → All (λ (x : Symbol). x.id < next) xs → (s : Symbol) → Mem s xs → s.id < next
below next [] u s m = absurd m
below next (x ∷ xs) u s (inl e) = subst (λ (y : Symbol). y.id < next) (sym e) u.0
below next (x ∷ xs) u s (inr m) = below next xs u.1 s m

slack-other : (w : Work) → is_external (new_symbol Slack w) ≡ false
unfolding new_symbol is_external
slack-other w = refl

stand-sees : (w : Work) (r : Row) → Sees w → RowOk (IsBasic w.tableau.rows) (Fine w.mark) w.tableau.symbols r → Sees (stand_temporary (new_symbol Slack w) (record { work = w; row = r }))
unfolding stand_temporary append_to append_symbol with_artificial with_rows with_tableau
stand-sees w r h k =
    record {
      fits = temporary-fits w r h.fits k;
      fine = h.fine;
      placed = record { named = all-to (Named xs) _ (λ v n. (mem-append v.symbol xs (t ∷ []) n.0, n.1)) w.changes.variables h.placed.named; alone = h.placed.alone };
      told = record {
        aware = all-zip (Fresh w.changes.should_clear w.tableau.rows) (Named xs) _ (λ v f n. fresh-same w.changes.should_clear w.tableau.rows (keep_row basic (place_more w.tableau.rows)) v (value-keep (var_id v) basic (place_more w.tableau.rows) (apart_from v n) ∙ place-value (var_id v) w.tableau.rows) f) w.changes.variables h.told.aware h.placed.named;
        rounded = rw keep_row-is (keep_all row_id RoundedAt basic (place_more w.tableau.rows) (λ e. absurd (no_both e (slack-other w))) (unfold append_cell in all_map (λ (b : Basic). record { symbol = b.symbol; row = append_cell b.row }) RoundedAt w.tableau.rows h.told.rounded));
      };
    }
  where
    xs : List Symbol
    xs = w.tableau.symbols

    t : Symbol
    t = new_symbol Slack w

    basic : Basic
    basic = record { symbol = t; row = append_cell r }

    apart_from : (v : Variable) → Named xs v → var_id v ≢ t.id
    apart_from v n e = unfold new_symbol in omega (arith, below w.tableau.next_id xs h.fits.under v.symbol n.0, e)

gone-sees : (t : Symbol) (w : Work) → Sees w → w.artificial ≡ none → Other w.tableau.symbols t → Sees (purge t.id w)
gone-sees t w h plain o = purge-sees t.id w h plain (apart w.tableau.symbols h.fits.up t o.0 o.1 w.changes.variables h.placed.named)

temporary-gone : (t : Symbol) (w : Work) → Sees w → w.artificial ≡ none → Other w.tableau.symbols t → Ends Sees (remove_temporary t w)
unfolding remove_temporary refuse
temporary-gone t w h plain o = go (find_row t.id bs) (row? t.id bs)
  where
    bs : List Basic
    bs = w.tableau.rows

    pivoted : Symbol → Outcome Work
    pivoted e = check_finite (pivot t.id e w) >>= λ v. going (purge t.id v)

    Kept : Work → Type 0
    Kept v = Sees v × Frame w v

    by : (r : Row) → RowOk (IsBasic bs) (Fine w.mark) w.tableau.symbols r → (b : Bool) (q : Option Symbol) → any_pivotable_symbol r w ≡ q
        → Ends Sees (elim b [ true ↦ going (purge t.id w) | false ↦ elim q [ none ↦ refused 12 w.pivots w.mark | some e ↦ pivoted e ] ])
    by r k true q e = gone-sees t w h plain o
    by r k false none e = tt
    by r k false (some x) e =
        ends-bind Kept Sees (check_finite (pivot t.id x w)) (λ v. going (purge t.id v)) (check-ends Kept (pivot t.id x w) (λ m. (pivot-sees t.id x w h free (others-spare t w h o.0 o.1) m, pivot-frame t.id x w)))
        (λ v g. gone-sees t v g.0 (g.1.plain plain) (rw g.1.symbols o.0, o.1))
      where
        free : Free w x
        free = held-free w (Fine w.mark) holds holds-held x (first-chosen _ is_pivotable holds w.tableau.symbols r.cells x k.1 (unfold any_pivotable_symbol in e))

    next : Option Row → Outcome Work
    next q = elim q [ none ↦ going (purge t.id w) | some r ↦ elim (is_empty_row r w) [ true ↦ going (purge t.id w) | false ↦ elim (any_pivotable_symbol r w) [ none ↦ refused 12 w.pivots w.mark | some e ↦ pivoted e ] ] ]

    go : (q : Option Row) → Row? t.id bs q → Ends Sees (next q)
    go q (no_row e) = gone-sees t w h plain o
    go q (a-row b e) = by b.row (find-all row_id (λ (b : Basic). RowOk (IsBasic bs) (Fine w.mark) w.tableau.symbols b.row) t.id bs b e h.fits.rows) (is_empty_row b.row w) (any_pivotable_symbol b.row w) refl

plain-sees : (w : Work) → Sees w → Sees (with_artificial none w)
unfolding with_artificial
plain-sees w h = record { fits = fits-plain h.fits; fine = h.fine; placed = h.placed; told = record { aware = h.told.aware; rounded = h.told.rounded } }

artificial-sees : (budget : ℕ) (c : Created) → Sees c.work → RowOk (IsBasic c.work.tableau.rows) (Fine c.work.mark) c.work.tableau.symbols c.row → Ends Sees (add_with_artificial_variable budget c)
unfolding add_with_artificial_variable refuse
artificial-sees budget c h r =
    ends-bind (λ w. Sees w × After standing w) Sees (optimise (budget - standing.pivots) the_artificial standing)
    (λ w. elim (artificial_constant_near_zero w) [ false ↦ refused 12 w.pivots w.mark | true ↦ remove_temporary t (with_artificial none w) ])
    (ends-both Sees (After standing) (optimise (budget - standing.pivots) the_artificial standing) (optimise-sees (budget - standing.pivots) the_artificial standing stands) (optimise-ends (budget - standing.pivots) the_artificial standing stands.fits stands.fine))
    (λ w g. by w g.0 g.1 (artificial_constant_near_zero w))
  where
    t : Symbol
    t = new_symbol Slack c.work

    standing : Work
    standing = stand_temporary t (record { work = c.work; row = c.row })

    stands : Sees standing
    stands = stand-sees c.work c.row h r

    here : Mem t standing.tableau.symbols
    here = unfold stand_temporary append_to append_symbol with_artificial with_rows with_tableau in mem-last t c.work.tableau.symbols

    by : (w : Work) → Sees w → After standing w → (b : Bool) → Ends Sees (elim b [ false ↦ refused 12 w.pivots w.mark | true ↦ remove_temporary t (with_artificial none w) ])
    by w g a false = tt
    by w g a true = temporary-gone t (with_artificial none w) (plain-sees w g) (unfold with_artificial in refl) (unfold with_artificial in (rw a.frame.symbols here, slack-other c.work))

-- ---- all of Add's steps

created-sees : (budget : ℕ) (K U : ℕ → ℕ) (N L : ℕ) (c : Created) → Tagged K U N L c → Sees c.work → Ends Sees (add_created budget c)
unfolding add_created refuse
created-sees budget K U N L c g h = go (choose_subject c) refl
  where
    by : (d z : Bool) → Ends Sees (elim d [ false ↦ add_with_artificial_variable budget c | true ↦ elim z [ false ↦ refused 12 c.work.pivots c.work.mark | true ↦ add_with_subject c.tag.marker c ] ])
    by false z = artificial-sees budget c h g.row
    by true false = tt
    by true true = subject-sees c.tag.marker c h g.row g.marker

    rest : Outcome Work
    rest = elim (all_dummies c) [ false ↦ add_with_artificial_variable budget c | true ↦ elim (near_zero c.work.tableau.cutoff c.row.constant) [ false ↦ refused 12 c.work.pivots c.work.mark | true ↦ add_with_subject c.tag.marker c ] ]

    go : (o : Option Symbol) → choose_subject c ≡ o → Ends Sees (elim o [ some s ↦ add_with_subject s c | none ↦ rest ])
    go (some s) e = subject-sees s c h g.row (subject-free K U N L c g s e)
    go none e = by (all_dummies c) (near_zero c.work.tableau.cutoff c.row.constant)

pub add-sees : (budget : ℕ) (terms : List Term) (constant : Float) (r : Relation) (K U : ℕ → ℕ) (w : Work) → Good K U w → Sees w → w.artificial ≡ none → is_finite constant ≡ true → Ends (λ (a : Added). Sees a.work) (add_steps budget terms constant r w)
unfolding add_steps
add-sees budget terms constant r K U w g h plain fin =
    ends-bind Sees (λ (a : Added). Sees a.work) (check_finite c.work >>= (λ _. add_created budget c) >>= (λ v. optimise (budget - v.pivots) the_objective v)) (λ v. going (record { work = v; tag = c.tag }))
    (ends-bind Sees Sees (check_finite c.work >>= (λ _. add_created budget c)) (λ v. optimise (budget - v.pivots) the_objective v)
    (ends-bind (λ _. Fine c.work.mark) Sees (check_finite c.work) (λ _. add_created budget c) (check-ends _ c.work (λ m. m)) (λ v m. created-sees budget K W (length w.tableau.rows) L c made (created m)))
    (λ v s. optimise-sees (budget - v.pivots) the_objective v s))
    (λ v s. s)
  where
    mark : Mark
    mark = whole_if (whole_inputs terms constant r)

    c : Created
    c = create_row terms constant r (marking mark w)

    W : ℕ → ℕ
    W m = uses_in m (kept_terms w.tableau.cutoff terms) + U m

    L : ℕ
    L = length w.changes.variables + length (new_variables w.changes.variables [] (kept_terms w.tableau.cutoff terms))

    made : Tagged K W (length w.tableau.rows) L c
    made =
        unfold marking in create_row-tagged K U terms constant r (marking mark w)
        (good-frame K U w (marking mark w) g (fits-worse g.fits mark) (mark-frame mark w)) plain fin

    begun : Begun c.work
    begun = create_row-begun terms constant r (marking mark w) (mark-begun mark w (record { under = h.fits.under; live = h.fits.live; aware = h.told.aware; rounded = h.told.rounded }))

    created : Fine c.work.mark → Sees c.work
    created m = record { fits = made.good.fits; fine = m; placed = good_placed _ W c.work made.good; told = record { aware = begun.aware; rounded = begun.rounded } }
