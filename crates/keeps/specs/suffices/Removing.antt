-- Remove's steps tell, and a variable that goes leaves the others as they were. Assumes nothing.
use Rattle.std.specs.Prelude.{◌≡◌, ◌⊎◌, ◌≢◌, List, [], ◌∷◌, map, Bool, cond, ◌&&◌, ◌||◌, ℕ, ◌+◌, ◌-◌, eqb, Float}
use Rattle.std.proofs.Math.Path.{refl, ap, subst}
use Rattle.std.proofs.Common.{sym, ◌∙◌, inl, inr, true≢false, arith}
use Rattle.std.proofs.Math.Option.{Option, none, some}
use Rattle.std.proofs.Math.Bool.{true, false, not}
use Rattle.std.specs.Float.Ieee.{eq, ne, neg}
use Rattle.steps.specs.Number.{zero64}
use Rattle.steps.specs.Symbol.{Symbol, is_external, is_error, delete_cell}
use Rattle.steps.specs.Row.{Row}
use Rattle.steps.specs.State.{Term, Tag, Basic, Variable, Tableau}
use Rattle.steps.specs.Work.{Work, Outcome, refused, going, ◌>>=◌, refuse, check_finite, with_tableau, with_changes, with_rows, with_objective, marking, find_row, drop_row, purge}
use Rattle.steps.specs.Changes.{with_flag, clear_changed, flag_symbol, var_changed, all_changed, note, tell_gone, value_of}
use Rattle.steps.specs.Substitute.{pivot}
use Rattle.steps.specs.Optimise.{optimise, the_objective}
use Rattle.steps.specs.CreateRow.{insert_in_objective, with_variables}
use Rattle.steps.specs.Remove.{insert_row_in_objective, remove_marker_effects, remove_constraint_effects, get_marker_leaving_row, note_leaving, drop_marker, purge_tag, Fallen, use_less, lose, drop_use, drop_uses, remove_steps}
use Rattle.steps.specs.Readable.{tag_symbols}
use Rattle.keeps.specs.Lists.{All, all-to, all-zip, Same?, is, isnt, same, same?, times}
use Rattle.keeps.specs.Along.{Mem}
use Rattle.keeps.specs.Keys.{row_id, find_none, drop_row-is, drop_all, none_has, Row?, no_row, a-row, row?}
use Rattle.keeps.specs.Cells.{Fine, zero-finite}
use Rattle.keeps.specs.Fits.{bids, delete-mem, all_map}
use Rattle.keeps.specs.Frame.{Frame, frame-trans, clear-changed, pivot-frame}
use Rattle.keeps.specs.Passes.{Ends, ends-bind, ends-to, check-ends, After, optimise-ends}
use Rattle.keeps.specs.Fallen.{purge-fits, purge-shrunk}
use Rattle.keeps.specs.Leaving.{OnlyGoal, effects, leaving-all, Dropped, drop_marker-ends}
use Rattle.keeps.specs.suffices.Numbers.{Is, is-refl}
use Rattle.keeps.specs.suffices.Fresh.{Flagged, Fresh, all_noted}
use Rattle.keeps.specs.suffices.Values.{value_at, value-by, RoundedAt, value-drop, value-rerow}
use Rattle.keeps.specs.suffices.Placed.{var_id, Named, Placed, placed-flags, mem_unique, apart}
use Rattle.keeps.specs.suffices.Pivoting.{Ready, Told, Sees, sees-ready, value-at, fresh-same, Spare, drop-ready, pivot-sees}
use Rattle.keeps.specs.suffices.Passing.{ends-both, others-spare, optimise-sees}

-- ---- the objective alone changes

effect-changes : (s : Symbol) (k : Float) (w : Work) → (remove_marker_effects s k w).changes ≡ w.changes
unfolding remove_marker_effects insert_in_objective insert_row_in_objective with_objective with_tableau marking
effect-changes s k w = go (is_error s) (find_row s.id w.tableau.rows)
  where
    go : (b : Bool) (o : Option Row) → (elim b as (λ _. Work) [ false ↦ w | true ↦ elim o [ none ↦ insert_in_objective s.id (neg k) w | some r ↦ insert_row_in_objective r (neg k) w ] ]).changes ≡ w.changes
    go false o = refl
    go true none = refl
    go true (some r) = refl

effects-changes : (tag : Tag) (k : Float) (w : Work) → (remove_constraint_effects tag k w).changes ≡ w.changes
unfolding remove_constraint_effects
effects-changes tag k w = go tag.other
  where
    first : Work
    first = remove_marker_effects tag.marker k w

    go : (o : Option Symbol) → (elim o as (λ _. Work) [ none ↦ first | some o ↦ remove_marker_effects o k first ]).changes ≡ w.changes
    go none = effect-changes tag.marker k w
    go (some o) = effect-changes o k first ∙ effect-changes tag.marker k w

effects-sees : (tag : Tag) (k : Float) (w : Work) → Sees w → Fine (remove_constraint_effects tag k w).mark → Sees (remove_constraint_effects tag k w)
effects-sees tag k w h m =
    let o : OnlyGoal w (remove_constraint_effects tag k w) = effects tag k w h.fits in
    record {
      fits = o.fits;
      fine = m;
      placed = rw (o.frame.symbols, effects-changes tag k w) h.placed;
      told = record { aware = rw (o.rows, effects-changes tag k w) h.told.aware; rounded = rw o.rows h.told.rounded };
    }

-- ---- the leaving row is noted

-- one symbol noted
pub note-sees : (s : ℕ) (w : Work) → Sees w → Sees (note s w)
unfolding note with_changes all_changed
note-sees s w h =
    record {
      fits = h.fits;
      fine = h.fine;
      placed = placed-flags w.tableau.symbols w.changes.variables (var_changed s w.changes).variables (clear-changed s w.changes) h.placed;
      told = record { aware = all_noted (s ∷ []) w.tableau.rows w.changes (all-to (Fresh w.changes.should_clear w.tableau.rows) _ (λ v f. inr f) w.changes.variables h.told.aware); rounded = h.told.rounded };
    }

noted-spare : (s : ℕ) (w : Work) → Spare s (note s w)
unfolding note with_changes var_changed flag_symbol
noted-spare s w = go (cond w.changes.should_clear (clear_changed w.changes.variables) w.changes.variables)
  where
    or-true : (a b : Bool) → b ≡ true → (a || b) ≡ true
    or-true true b e = refl
    or-true false b e = e

    one : (v : Variable) → Same? s (var_id v) → (var_id v ≢ s) ⊎ (((false ≡ false) × ((v.changed || eqb s (var_id v)) ≡ true)) ⊎ Is (value_of v w.tableau.rows) zero64)
    one v (is a b c) = inr (inl (refl, or-true v.changed (eqb s (var_id v)) a))
    one v (isnt a b c) = inl (λ e. b (sym e))

    go : (vs : List Variable) → All (λ (v : Variable). (var_id v ≢ s) ⊎ (Flagged false v ⊎ Is (value_of v w.tableau.rows) zero64)) (map (λ (v : Variable). with_flag (v.changed || eqb s v.symbol.id) v) vs)
    go [] = tt
    go (v ∷ vs) = (unfold with_flag value_of in one v (same? s (var_id v)), go vs)

-- "the last External row holding it, noted if its constant isn't zero"
leaving-noted : (l : Symbol) (w : Work) → Sees w → Mem l w.tableau.symbols → Sees (note_leaving l w) × Spare l.id (note_leaving l w) × ((note_leaving l w).tableau ≡ w.tableau)
unfolding note_leaving
leaving-noted l w h m = go (find_row l.id rows) refl
  where
    rows : List Basic
    rows = w.tableau.rows

    next : Option Row → Work
    next o = elim o [ none ↦ w | some r ↦ cond (is_external l && ne r.constant zero64) (note l.id w) w ]

    at : (x : Float) → value_at l.id rows ≡ x → (is_external l ≡ true → Is x zero64) → Spare l.id w
    at x e z = all-to (Named w.tableau.symbols) _ (λ v n. by v n (same? (var_id v) l.id)) w.changes.variables h.placed.named
      where
        by : (v : Variable) → Named w.tableau.symbols v → Same? (var_id v) l.id → (var_id v ≢ l.id) ⊎ (Flagged w.changes.should_clear v ⊎ Is (value_of v rows) zero64)
        by v n (isnt a b c) = inl b
        by v n (is a b c) =
            inr (inr (subst (λ (k : Float). Is k zero64) (sym (value-at v rows ∙ ap (λ (i : ℕ). value_at i rows) b ∙ e)) (z (ap is_external (sym (mem_unique 1 w.tableau.symbols h.fits.up v.symbol l n.0 m b)) ∙ n.1))))

    zero_row : (x : Float) → (is_external l && ne x zero64) ≡ false → is_external l ≡ true → Is x zero64
    zero_row x e u = go' (eq x zero64) refl (unfold ne in ap (λ (b : Bool). b && ne x zero64) (sym u) ∙ e)
      where
        go' : (z : Bool) → eq x zero64 ≡ z → not z ≡ false → z ≡ true
        go' true q k = refl
        go' false q k = absurd (true≢false k)

    some-row : (r : Row) → find_row l.id rows ≡ some r → (t : Bool) → (is_external l && ne r.constant zero64) ≡ t
        → Sees (cond t (note l.id w) w) × Spare l.id (cond t (note l.id w) w) × ((cond t (note l.id w) w).tableau ≡ w.tableau)
    some-row r e true u = (note-sees l.id w h, noted-spare l.id w, unfold note with_changes in refl)
    some-row r e false u = (h, at r.constant (value-by l.id rows (some r) e) (zero_row r.constant u), refl)

    go : (o : Option Row) → find_row l.id rows ≡ o → Sees (next o) × Spare l.id (next o) × ((next o).tableau ≡ w.tableau)
    go none e = (h, at zero64 (value-by l.id rows none e) (λ _. is-refl zero64 zero-finite), refl)
    go (some r) e = some-row r e (is_external l && ne r.constant zero64) refl

-- ---- the marker's row goes

-- a live symbol that is no variable's
abbrev pub Other : List Symbol → Symbol → Type 0
Other xs s = Mem s xs × (is_external s ≡ false)

dropped-told : (m : Symbol) (v : Work) → Sees v → Other v.tableau.symbols m → Told (with_rows (drop_row m.id v.tableau.rows) v)
dropped-told m v h o = let r : Ready (with_rows (drop_row m.id v.tableau.rows) v) = drop-ready m.id v (sees-ready v h) h.fits.rows-up (others-spare m v h o.0 o.1) in record { aware = r.aware; rounded = r.rounded }

marker-told : (m : Symbol) (w : Work) → Sees w → Other w.tableau.symbols m → Ends Told (drop_marker m w)
unfolding drop_marker refuse
marker-told m w h o = go (find_row m.id w.tableau.rows) (row? m.id w.tableau.rows)
  where
    step : Symbol → Outcome Work
    step leaving = check_finite (pivot leaving.id m (note_leaving leaving w)) >>= λ v. going (with_rows (drop_row m.id v.tableau.rows) v)

    Kept : Work → Type 0
    Kept v = Sees v × (v.tableau.symbols ≡ w.tableau.symbols)

    by : times m.id (bids w.tableau.rows) ≡ 0 → (q : Option Symbol) → get_marker_leaving_row m.id w ≡ q → Ends Told (elim q [ none ↦ refused 17 w.pivots w.mark | some leaving ↦ step leaving ])
    by z none e = tt
    by z (some l) e =
        let live : Mem l w.tableau.symbols = leaving-all (λ s. Mem s w.tableau.symbols) m.id w h.fits.live l e in
        let n : Sees x × Spare l.id x × (x.tableau ≡ w.tableau) = leaving-noted l w h live in
        ends-bind Kept Told (check_finite (pivot l.id m x)) (λ v. going (with_rows (drop_row m.id v.tableau.rows) v))
        (check-ends Kept (pivot l.id m x) (λ f. (pivot-sees l.id m x n.0 (record { live = rw n.2 o.0; free = rw n.2 z }) n.1 f, (pivot-frame l.id m x).symbols ∙ ap (λ (t : Tableau). t.symbols) n.2)))
        (λ v k. dropped-told m v k.0 (rw k.1 o.0, o.1))
      where
        x : Work
        x = note_leaving l w

    next : Option Row → Outcome Work
    next q = elim q [ some r ↦ going (with_rows (drop_row m.id w.tableau.rows) w) | none ↦ elim (get_marker_leaving_row m.id w) [ none ↦ refused 17 w.pivots w.mark | some leaving ↦ step leaving ] ]

    go : (q : Option Row) → Row? m.id w.tableau.rows q → Ends Told (next q)
    go q (no_row e) = by (find_none row_id m.id w.tableau.rows e) (get_marker_leaving_row m.id w) refl
    go q (a-row b e) = dropped-told m w h o

-- ---- a symbol goes with its row and cells

pub purge-sees : (s : ℕ) (w : Work) → Sees w → w.artificial ≡ none → All (λ (v : Variable). var_id v ≢ s) w.changes.variables → Sees (purge s w)
unfolding purge with_tableau
purge-sees s w h plain a =
    record {
      fits = purge-fits s w h.fits plain;
      fine = h.fine;
      placed = record {
        named = all-zip (Named w.tableau.symbols) (λ v. var_id v ≢ s) _ (λ v n d. (delete-mem s v.symbol w.tableau.symbols (λ e. d (sym e)) n.0, n.1)) w.changes.variables h.placed.named a;
        alone = h.placed.alone;
      };
      told = record {
        aware = all-zip (Fresh w.changes.should_clear w.tableau.rows) (λ v. var_id v ≢ s) _ (λ v f d. fresh-same w.changes.should_clear w.tableau.rows _ v (value-rerow cut (λ r. refl) (var_id v) (drop_row s w.tableau.rows) ∙ value-drop (var_id v) s w.tableau.rows d) f) w.changes.variables h.told.aware a;
        rounded = all_map (λ (b : Basic). record { symbol = b.symbol; row = cut b.row }) RoundedAt (drop_row s w.tableau.rows) (rw drop_row-is (drop_all row_id RoundedAt s w.tableau.rows h.told.rounded));
      };
    }
  where
    cut : Row → Row
    cut r = record { constant = r.constant; cells = delete_cell s w.tableau.symbols r.cells }

purge_tag-sees : (tag : Tag) (w : Work) → Sees w → w.artificial ≡ none → All (Other w.tableau.symbols) (tag_symbols tag) → Sees (purge_tag tag w) × ((purge_tag tag w).artificial ≡ none)
unfolding purge_tag tag_symbols
purge_tag-sees tag w h plain o = go tag.other o.1
  where
    away : (s : Symbol) → Other w.tableau.symbols s → All (λ (v : Variable). var_id v ≢ s.id) w.changes.variables
    away s k = apart w.tableau.symbols h.fits.up s k.0 k.1 w.changes.variables h.placed.named

    next : Option Symbol → Work
    next q = purge tag.marker.id (elim q [ none ↦ w | some x ↦ purge x.id w ])

    go : (q : Option Symbol) → All (Other w.tableau.symbols) (elim q as (λ _. List Symbol) [ none ↦ [] | some x ↦ x ∷ [] ]) → Sees (next q) × ((next q).artificial ≡ none)
    go none k = (purge-sees tag.marker.id w h plain (away tag.marker o.0), (purge-shrunk tag.marker.id w).plain ∙ plain)
    go (some x) k =
        let one : Sees (purge x.id w) = purge-sees x.id w h plain (away x k.0) in
        let bare : (purge x.id w).artificial ≡ none = (purge-shrunk x.id w).plain ∙ plain in
        (purge-sees tag.marker.id (purge x.id w) one bare (unfold purge with_tableau in away tag.marker o.0), (purge-shrunk tag.marker.id (purge x.id w)).plain ∙ bare)

-- ---- uses fall

less : Variable → Variable
less x = record { number = x.number; symbol = x.symbol; old = x.old; uses = x.uses - 1; changed = x.changed }

after : ℕ → Variable → List Variable → Bool → Bool → Fallen
after n x vs t r =
    elim t [
      | false ↦ record { variables = x ∷ (use_less n vs).variables; gone = (use_less n vs).gone }
      | true ↦ elim r [ true ↦ record { variables = vs; gone = some x } | false ↦ record { variables = less x ∷ vs; gone = none } ]
    ]

less-all : (P : Variable → Type 0) → ((v : Variable) → P v → P (less v)) → (n : ℕ) (vs : List Variable) → All P vs → All P (use_less n vs).variables
unfolding use_less less after
less-all P f n [] h = tt
less-all P f n (x ∷ vs) h = go (eqb n x.number) (eqb x.uses 1) (less-all P f n vs h.1)
  where
    go : (t r : Bool) → All P (use_less n vs).variables → All P (after n x vs t r).variables
    go false r ih = (h.0, ih)
    go true true ih = h.1
    go true false ih = (f x h.0, h.1)

id_of : ℕ → Option Variable → ℕ
id_of i o = elim o [ none ↦ 0 | some v ↦ same i (var_id v) ]

less-ids : (n i : ℕ) (vs : List Variable) → times i (map var_id vs) ≡ id_of i (use_less n vs).gone + times i (map var_id (use_less n vs).variables)
unfolding use_less less after times id_of
less-ids n i [] = refl
less-ids n i (x ∷ vs) = go (eqb n x.number) (eqb x.uses 1) (less-ids n i vs)
  where
    go : (t r : Bool) → times i (map var_id vs) ≡ id_of i (use_less n vs).gone + times i (map var_id (use_less n vs).variables)
        → same i (var_id x) + times i (map var_id vs) ≡ id_of i (after n x vs t r).gone + times i (map var_id (after n x vs t r).variables)
    go false r ih = omega (arith, ih)
    go true true ih = refl
    go true false ih = omega arith

drop_use-sees : (t : Term) (w : Work) → Sees w → w.artificial ≡ none → Sees (drop_use t w) × ((drop_use t w).artificial ≡ none)
unfolding drop_use lose tell_gone with_variables with_changes
drop_use-sees t w h plain = go fallen.gone refl
  where
    vs : List Variable
    vs = w.changes.variables

    fallen : Fallen
    fallen = use_less t.variable vs

    left : Work
    left = with_variables fallen.variables w

    placed : Placed w.tableau.symbols fallen.variables
    placed = record { named = unfold less in less-all (Named w.tableau.symbols) (λ v n. n) t.variable vs h.placed.named; alone = λ i. omega (arith, less-ids t.variable i vs, h.placed.alone i) }

    aware : All (Fresh w.changes.should_clear w.tableau.rows) fallen.variables
    aware = unfold less Rattle.steps.specs.Changes.never_reported value_of in less-all (Fresh w.changes.should_clear w.tableau.rows) (λ v f. f) t.variable vs h.told.aware

    others : (v : Variable) → fallen.gone ≡ some v → All (λ (u : Variable). var_id u ≢ var_id v) fallen.variables
    others v e = all-to (λ (u : Variable). var_id v ≢ var_id u) _ (λ u d q. d (sym q)) fallen.variables (none_has var_id (var_id v) fallen.variables (by (same? (var_id v) (var_id v)) (unfold id_of in subst (λ (o : Option Variable). times (var_id v) (map var_id vs) ≡ id_of (var_id v) o + times (var_id v) (map var_id fallen.variables)) e (less-ids t.variable (var_id v) vs))))
      where
        by : Same? (var_id v) (var_id v) → times (var_id v) (map var_id vs) ≡ same (var_id v) (var_id v) + times (var_id v) (map var_id fallen.variables) → times (var_id v) (map var_id fallen.variables) ≡ 0
        by (is a b c) q = omega (arith, q, c, h.placed.alone (var_id v))
        by (isnt a b c) q = absurd (b refl)

    go : (o : Option Variable) → fallen.gone ≡ o → Sees (elim o [ none ↦ left | some v ↦ lose v left ]) × ((elim o as (λ _. Work) [ none ↦ left | some v ↦ lose v left ]).artificial ≡ none)
    go none e = (record { fits = h.fits; fine = h.fine; placed = placed; told = record { aware = aware; rounded = h.told.rounded } }, plain)
    go (some v) e = (purge-sees (var_id v) told (record { fits = h.fits; fine = h.fine; placed = placed; told = record { aware = aware; rounded = h.told.rounded } }) plain (others v e), (purge-shrunk (var_id v) told).plain ∙ plain)
      where
        told : Work
        told = with_changes (tell_gone v left.changes) left

drop_uses-sees : (ts : List Term) (w : Work) → Sees w → w.artificial ≡ none → Sees (drop_uses ts w)
unfolding drop_uses
drop_uses-sees [] w h plain = h
drop_uses-sees (t ∷ ts) w h plain = let one = drop_use-sees t w h plain in drop_uses-sees ts (drop_use t w) one.0 one.1

-- ---- all of Remove's steps

module _ (budget : ℕ) (tag : Tag) (k : Float) (terms : List Term) (w : Work) (h : Sees w) (plain : w.artificial ≡ none) (others : All (Other w.tableau.symbols) (tag_symbols tag)) where
  -- on the way, with the symbols of the start
  abbrev Way : Work → Type 0
  Way v = Sees v × Frame w v

  started : Ends Way (check_finite (remove_constraint_effects tag k w))
  started = check-ends Way (remove_constraint_effects tag k w) (λ m. (effects-sees tag k w h m, (effects tag k w h.fits).frame))

  still : (v : Work) → Frame w v → All (Other v.tableau.symbols) (tag_symbols tag)
  still v f = rw f.symbols others

  marker-gone : (v : Work) → Way v → Ends Way (drop_marker tag.marker v)
  unfolding tag_symbols
  marker-gone v g =
      ends-to _ Way (drop_marker tag.marker v)
      (ends-both (Dropped v) Told (drop_marker tag.marker v) (drop_marker-ends tag.marker v g.0.fits g.0.fine (still v g.1).0.0) (marker-told tag.marker v g.0 (still v g.1).0))
      (λ u d. (
        record {
          fits = d.0.fits;
          fine = d.0.fine;
          placed = rw d.0.frame.symbols (placed-flags v.tableau.symbols v.changes.variables u.changes.variables d.0.frame.variables g.0.placed);
          told = d.1;
        },
        frame-trans g.1 d.0.frame,
      ))

  passed : (v : Work) → Way v → Ends (λ u. Sees u × (u.artificial ≡ none)) (optimise (budget - v.pivots) the_objective (purge_tag tag v))
  passed v g =
      let p : Sees (purge_tag tag v) × ((purge_tag tag v).artificial ≡ none) = purge_tag-sees tag v g.0 (g.1.plain plain) (still v g.1) in
      ends-to _ (λ u. Sees u × (u.artificial ≡ none)) (optimise (budget - v.pivots) the_objective (purge_tag tag v))
      (ends-both Sees (After (purge_tag tag v)) (optimise (budget - v.pivots) the_objective (purge_tag tag v)) (optimise-sees (budget - v.pivots) the_objective (purge_tag tag v) p.0) (optimise-ends (budget - v.pivots) the_objective (purge_tag tag v) p.0.fits p.0.fine))
      (λ u a. (a.0, a.1.frame.plain p.1))

  pub remove-sees : Ends Sees (remove_steps budget tag k terms w)
  unfolding remove_steps
  remove-sees =
      ends-bind (λ u. Sees u × (u.artificial ≡ none)) Sees
      (check_finite (remove_constraint_effects tag k w) >>= drop_marker tag.marker >>= (λ v. optimise (budget - v.pivots) the_objective (purge_tag tag v))) (λ v. going (drop_uses terms v))
      (ends-bind Way _ (check_finite (remove_constraint_effects tag k w) >>= drop_marker tag.marker) (λ v. optimise (budget - v.pivots) the_objective (purge_tag tag v))
      (ends-bind Way Way (check_finite (remove_constraint_effects tag k w)) (drop_marker tag.marker) started marker-gone) passed)
      (λ v g. drop_uses-sees terms v g.0 g.1)
