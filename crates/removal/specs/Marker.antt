-- A marker dropped from tables that stand: the code's calls are the steps' drop_marker.
-- Assumes nothing.
use Prim.Native.Nat.{ℕ, ◌+◌, ◌≤◌}
use Rattle.std.specs.Prelude.{◌≡◌, refl, Bool, true, ◌&&◌, Float}
use Rattle.std.proofs.Math.Path.{sym, ap}
use Rattle.std.proofs.Common.{◌∙◌, subst, arith}
use Rattle.std.proofs.Math.Bool.{false, cond}
use mathlib.Core.List.{List, [], ◌∷◌}
use Rattle.std.proofs.Math.Option.{Option, none, some}
use Rattle.std.proofs.Math.Dec.{eqb}
use borrow.Author.Tests.{eq-eqb, ne_eqb}
use Rattle.std.specs.Float.{nan}
use Rattle.std.specs.Float.Ieee.{ne}
use Rattle.std.proofs.Math.ListN.{get_or}
use Rattle.steps.specs.Number.{zero64, Mark}
use Rattle.steps.specs.Symbol.{Symbol, is_symbol, is_external}
use Rattle.steps.specs.Row.{Row}
use Rattle.steps.specs.State.{Basic, Tableau}
use Rattle.steps.specs.Work.{Work, Outcome, going, ◌>>=◌, refuse, check_finite, with_tableau, with_rows, with_changes, find_row, drop_row}
use Rattle.steps.specs.Changes.{note}
use Rattle.steps.specs.Substitute.{pivot}
use Rattle.steps.specs.Remove.{get_marker_leaving_row, note_leaving, drop_marker}
use Rattle.keeps.specs.Lists.{times, none≢some}
use Rattle.keeps.specs.Keys.{row_id, Row?, no_row, a-row, row?, find_none}
use Rattle.keeps.specs.Fits.{bids}
use Rattle.keeps.specs.Frame.{pivot-frame}
use Rattle.keeps.specs.Passes.{Ends, ends-bind, check-ends}
use Rattle.rows.specs.choose.Choose.{Found}
use Rattle.std.specs.Prelude.{Some, None}
use Rattle.rows.specs.choose.Choose.{on_found}
use Rattle.rows.specs.choose.Own.{first-is}
use Rattle.rows.specs.declared.number.Wrote.{Wrote}
use Rattle.rows.specs.Marks.{mark_of}
use Rattle.sparse.specs.Places.{kinds_at, row_places_at, constants_at}
use Rattle.sparse.specs.Sparse.{Sparse, symbol_count, row_count, symbol_at, basic_of, symbols_of, basics_of}
use Rattle.waist.specs.substituting.Notes.{is_external_kind}
use Rattle.waist.specs.Working.{work_of, Sound, basic-symbol}
use Rattle.waist.specs.Dropping.{Free}
use Rattle.waist.specs.LivePlaces.{not-basic}
use Rattle.waist.specs.FreePlaces.{free-times}
use Rattle.waist.specs.Entering.{external-at}
use Rattle.waist.specs.Standing.{Standing, Makes, row_symbol}
use Rattle.waist.specs.Ending.{Ended, outcome_of, ended, checked_of, is-going}
use Rattle.waist.specs.Rows.{row_for, row-found}
use Rattle.removal.specs.Reading.{work-symbols, work-rows, symbol-same, row_same, makes-to, makes-then, makes-same}
use Rattle.removal.specs.Bound.{Reached, reached-is, after-refused, after-going, reached-made, reached-checked}

-- ---- a symbol that has no row may enter

pub free-lone : (t : Sparse) (p : ℕ) → find_row (symbol_at t p).id (basics_of t) ≡ none → Free p t
free-lone t p e = free-times t p (go (find_row (symbol_at t p).id (basics_of t)) (row? (symbol_at t p).id (basics_of t)) e)
  where
    go : (o : Option Row) → Row? (symbol_at t p).id (basics_of t) o → o ≡ none → times (symbol_at t p).id (bids (basics_of t)) ≡ 0
    go o (no_row q) z = find_none row_id (symbol_at t p).id (basics_of t) q
    go o (a-row b q) z = absurd (none≢some (sym z))

-- ---- rows by their symbols' places

module _ (t : Sparse) (so : Sound false t) where
  module _ (p : ℕ) (low : 1 ≤ p) (high : p ≤ symbol_count t) where
    pub no-row-of : row_for p t.words t.bytes ≡ None → find_row (symbol_at t p).id (basics_of t) ≡ none
    no-row-of e = row-found false t so p low high ∙ ap (on_found (λ i. some (basic_of t i).row) none) e

    pub row_of : (i : ℕ) → row_for p t.words t.bytes ≡ Some i → find_row (symbol_at t p).id (basics_of t) ≡ some (basic_of t i).row
    row_of i e = row-found false t so p low high ∙ ap (on_found (λ i. some (basic_of t i).row) none) e

  -- a row is its own symbol's
  row-own : (i : ℕ) → 1 ≤ i → i ≤ row_count t → find_row (row_symbol t i).id (basics_of t) ≡ some (basic_of t i).row
  unfolding row_for
  row-own i low high =
      let l = so.rows i low high in
      ap (λ (s : Symbol). find_row s.id (basics_of t)) (basic-symbol t i)
      ∙ row_of (at i) l.0 l.1 i
      (first-is (λ q. eqb (at i) (at q)) Some None 1 (1 + row_count t) i low (omega (arith, high)) (eq-eqb (at i) (at i) refl) (λ m c d. ne_eqb (at i) (at m) (λ e. let u = so.up m i c d high in omega (arith, u, e))))
    where
      at : ℕ → ℕ
      at q = get_or t.bytes (row_places_at + q) 0

-- ---- the leaving row is noted

note-tableau : (s : Symbol) (w : Work) → (note_leaving s w).tableau ≡ w.tableau
unfolding note_leaving note with_changes
note-tableau s w = go (find_row s.id w.tableau.rows)
  where
    by : (b : Bool) → (cond b (note s.id w) w).tableau ≡ w.tableau
    by true = refl
    by false = refl

    next : Option Row → Work
    next o = elim o [ none ↦ w | some r ↦ cond (is_external s && ne r.constant zero64) (note s.id w) w ]

    go : (o : Option Row) → (next o).tableau ≡ w.tableau
    go none = refl
    go (some r) = by (is_external s && ne r.constant zero64)

module _ (a : Mark) (t u : Sparse) (i : ℕ) where
  abbrev l : Symbol
  l = row_symbol t i

  -- "the last External row holding it, noted if its constant isn't zero"
  pub leaving-noted : (on : Bool) → find_row l.id (basics_of t) ≡ some (basic_of t i).row → on ≡ (is_external l && ne (basic_of t i).row.constant zero64)
      → Makes false false a a (λ w. cond on (note l.id w) w) t u → Makes false false a a (note_leaving l) t u
  unfolding note_leaving
  leaving-noted on own e m = makes-to (λ v. sym (by v)) m
    where
      next : Work → Option Row → Work
      next w o = elim o [ none ↦ w | some r ↦ cond (is_external l && ne r.constant zero64) (note l.id w) w ]

      by : (v : ℕ) → next (work_of false a v t) (find_row l.id (work_of false a v t).tableau.rows) ≡ cond on (note l.id (work_of false a v t)) (work_of false a v t)
      by v = ap (next (work_of false a v t)) (ap (find_row l.id) (work-rows false a v t) ∙ own) ∙ ap (λ (b : Bool). cond b (note l.id (work_of false a v t)) (work_of false a v t)) (sym e)

  -- the code's calls
  pub note-leaves : Sound false t → 1 ≤ i → i ≤ row_count t → (kind : ℕ) (on : Bool) → kind ≡ get_or t.bytes (kinds_at + get_or t.bytes (row_places_at + i) 0) 0 → on ≡ (is_external_kind kind && ne (get_or t.reals (constants_at + i) nan) zero64)
      → Makes false false a a (λ w. cond on (note (symbol_at t (get_or t.bytes (row_places_at + i) 0)).id w) w) t u → Makes false false a a (note_leaving l) t u
  note-leaves so low high kind on e q m =
      leaving-noted on (row-own t so i low high) on-is (makes-to (λ v. ap (λ (s : Symbol). cond on (note s.id (work_of false a v t)) (work_of false a v t)) (sym (basic-symbol t i))) m)
    where
      on-is : on ≡ (is_external l && ne (basic_of t i).row.constant zero64)
      on-is = rw (basic-symbol t i, external-at t (get_or t.bytes (row_places_at + i) 0), ← e) (q ∙ ap (λ (x : Float). is_external_kind kind && ne x zero64) (unfold basic_of in refl))

  module _ (m : Makes false false a a (note_leaving l) t u) where
    noted-tableau : (work_of false a 0 u).tableau ≡ (work_of false a 0 t).tableau
    noted-tableau = ap (λ (w : Work). w.tableau) (m.reads 0) ∙ note-tableau l (work_of false a 0 t)

    pub noted-symbols : symbols_of u ≡ symbols_of t
    noted-symbols = sym (work-symbols false a 0 u) ∙ ap (λ (x : Tableau). x.symbols) noted-tableau ∙ work-symbols false a 0 t

    pub noted-rows : basics_of u ≡ basics_of t
    noted-rows = sym (work-rows false a 0 u) ∙ ap (λ (x : Tableau). x.rows) noted-tableau ∙ work-rows false a 0 t

    pub noted-free : (p : ℕ) → Sound false t → 1 ≤ p → p ≤ symbol_count t → Free p t → Free p u
    noted-free p so low high f = free-times u p (rw (symbol-same t u noted-symbols p low high, noted-rows) (not-basic false t so p low high f))

-- the code's three calls
pub pivots-marker : (a : Mark) (t u v : Sparse) (i p n : ℕ) (x : Wrote) (r : Ended) → 1 ≤ i → i ≤ row_count t → 1 ≤ p → p ≤ symbol_count t
    → Makes false false a a (note_leaving (row_symbol t i)) t u → Makes false false a (mark_of x) (pivot (row_symbol u i).id (symbol_at u p)) u v → r ≡ checked_of n x
    → Reached (check_finite (pivot (row_symbol t i).id (symbol_at t p) (note_leaving (row_symbol t i) (work_of false a n t)))) r v
pivots-marker a t u v i p n x r low high low₁ high₁ m c e =
    reached-checked a x n r t v (λ w. pivot (row_symbol t i).id (symbol_at t p) (note_leaving (row_symbol t i) w)) (makes-then m pivots) e
  where
    row_is : (row_symbol u i).id ≡ (row_symbol t i).id
    row_is = ap (λ (b : Basic). b.symbol.id) (row_same t u (noted-rows a t u i m) i low high)

    symbol-is : symbol_at u p ≡ symbol_at t p
    symbol-is = symbol-same t u (noted-symbols a t u i m) p low₁ high₁

    pivots : Makes false false a (mark_of x) (pivot (row_symbol t i).id (symbol_at t p)) u v
    pivots = makes-to (λ k. ap (λ (s : ℕ). pivot s (symbol_at u p) (work_of false a k u)) row_is ∙ ap (λ (s : Symbol). pivot (row_symbol t i).id s (work_of false a k u)) symbol-is) c

-- ---- what the steps leave: the symbols

abbrev Symbols : Work → Work → Type 0
Symbols w v = v.tableau.symbols ≡ w.tableau.symbols

pivot-symbols : (l : ℕ) (m s : Symbol) (w : Work) → Ends (Symbols w) (check_finite (pivot l m (note_leaving s w)))
pivot-symbols l m s w = check-ends (Symbols w) (pivot l m (note_leaving s w)) (λ _. (pivot-frame l m (note_leaving s w)).symbols ∙ ap (λ (x : Tableau). x.symbols) (note-tableau s w))

pub drop-symbols : (m : Symbol) (w : Work) → Ends (Symbols w) (drop_marker m w)
unfolding drop_marker refuse with_rows with_tableau
drop-symbols m w = go (find_row m.id w.tableau.rows)
  where
    step : Symbol → Outcome Work
    step leaving = check_finite (pivot leaving.id m (note_leaving leaving w)) >>= λ v. going (with_rows (drop_row m.id v.tableau.rows) v)

    leaves : Option Symbol → Outcome Work
    leaves o = elim o [ none ↦ refuse 17 w | some leaving ↦ step leaving ]

    next : Option Row → Outcome Work
    next o = elim o [ some r ↦ going (with_rows (drop_row m.id w.tableau.rows) w) | none ↦ leaves (get_marker_leaving_row m.id w) ]

    by : (o : Option Symbol) → Ends (Symbols w) (leaves o)
    by none = tt
    by (some s) = ends-bind (Symbols w) (Symbols w) (check_finite (pivot s.id m (note_leaving s w))) (λ v. going (with_rows (drop_row m.id v.tableau.rows) v)) (pivot-symbols s.id m s w) (λ v h. h)

    go : (o : Option Row) → Ends (Symbols w) (next o)
    go (some r) = refl
    go none = by (get_marker_leaving_row m.id w)

pub ends-reached : (P : Work → Type 0) (o : Outcome Work) (r : Ended) (u : Sparse) → Ends P o → Reached o r u → eqb r.number 0 ≡ true → P (work_of false (mark_of r.wrote) r.pivots u)
ends-reached P o r u h c e = subst (Ends P) (sym c.0 ∙ is-going false r u e) h

pub reached-symbols : (a : Mark) (n : ℕ) (t u : Sparse) (o : Outcome Work) (r : Ended) → Ends (Symbols (work_of false a n t)) o → Reached o r u → eqb r.number 0 ≡ true → symbols_of u ≡ symbols_of t
reached-symbols a n t u o r h c e = sym (work-symbols false (mark_of r.wrote) r.pivots u) ∙ ends-reached (Symbols (work_of false a n t)) o r u h c e ∙ work-symbols false a n t

-- ---- a row dropped by its symbol

drop-none : (s : ℕ) (bs : List Basic) → find_row s bs ≡ none → drop_row s bs ≡ bs
unfolding find_row drop_row
drop-none s [] e = refl
drop-none s (b ∷ bs) e = go (is_symbol s b.symbol) e (drop-none s bs)
  where
    go : (x : Bool) → ◌≡◌ {A = Option Row} (elim x [ true ↦ some b.row | false ↦ find_row s bs ]) none → (find_row s bs ≡ none → drop_row s bs ≡ bs) → ◌≡◌ {A = List Basic} (elim x [ true ↦ bs | false ↦ b ∷ drop_row s bs ]) (b ∷ bs)
    go true q r = absurd (none≢some (sym q))
    go false q r = ap (λ (l : List Basic). b ∷ l) (r q)

-- the step of a row that goes
abbrev pub without : ℕ → Work → Work
without s w = with_rows (drop_row s w.tableau.rows) w

module _ (a : Mark) (t : Sparse) (s : ℕ) where
  pub none_dropped : Standing false a t → find_row s (basics_of t) ≡ none → Makes false false a a (without s) t t
  unfolding with_rows with_tableau
  none_dropped st e = makes-to (λ v. sym (ap (λ (bs : List Basic). with_rows bs (work_of false a v t)) (ap (drop_row s) (work-rows false a v t) ∙ drop-none s (basics_of t) e ∙ sym (work-rows false a v t)))) (makes-same st)

  pub row-dropped : {u : Sparse} (i : ℕ) → (row_symbol t i).id ≡ s → Makes false false a a (λ w. with_rows (drop_row (row_symbol t i).id w.tableau.rows) w) t u → Makes false false a a (without s) t u
  row-dropped i e m = makes-to (λ v. ap (λ (x : ℕ). without x (work_of false a v t)) e) m

-- the row found for a place is its symbol's
pub row-symbol : (t : Sparse) (i p : ℕ) → get_or t.bytes (row_places_at + i) 0 ≡ p → (row_symbol t i).id ≡ (symbol_at t p).id
row-symbol t i p e = ap (λ (x : Symbol). x.id) (basic-symbol t i) ∙ ap (λ (x : ℕ). (symbol_at t x).id) e

-- ---- the marker, by whether it is basic

module _ (before : Wrote) (t : Sparse) (p pivots : ℕ) where
  abbrev m : Symbol
  m = symbol_at t p

  abbrev a : Mark
  a = mark_of before

  abbrev start : Work
  start = work_of false a pivots t

  -- what the step is to come to
  abbrev pub Drops : Ended → Sparse → Type 0
  Drops r u = Reached (drop_marker m start) r u

  abbrev step : Symbol → Outcome Work
  step leaving = check_finite (pivot leaving.id m (note_leaving leaving start)) >>= λ v. going (without m.id v)

  abbrev leaves : Option Symbol → Outcome Work
  leaves o = elim o [ none ↦ refuse 17 start | some leaving ↦ step leaving ]

  abbrev by_row : Option Row → Outcome Work
  by_row o = elim o [ some r ↦ going (without m.id start) | none ↦ leaves (get_marker_leaving_row m.id start) ]

  drop-by : (o : Option Row) → find_row m.id (basics_of t) ≡ o → drop_marker m start ≡ by_row o
  unfolding drop_marker
  drop-by o e = ap by_row (ap (find_row m.id) (work-rows false a pivots t) ∙ e)

  -- "A basic marker's row is dropped."
  pub dropped-basic : (u : Sparse) (row : Row) → find_row m.id (basics_of t) ≡ some row → Makes false false a a (without m.id) t u → Drops (ended 0 pivots before) u
  dropped-basic u row e d = reached-is (ended 0 pivots before) u (sym (drop-by (some row) e)) (reached-made (ended 0 pivots before) t u (without m.id) refl d)

  -- ---- "Otherwise the leaving row is, in rank: .."

  module _ (lone : find_row m.id (basics_of t) ≡ none) (f : Found) (chosen : get_marker_leaving_row m.id start ≡ on_found (λ i. some (row_symbol t i)) none f) where
    drop-lone : (o : Option Symbol) → on_found (λ i. some (row_symbol t i)) none f ≡ o → drop_marker m start ≡ leaves o
    drop-lone o e = drop-by none lone ∙ ap leaves (chosen ∙ e)

    -- 17: "a removal finds no leaving row"
    pub dropped-stuck : f ≡ None → Drops (ended 17 pivots before) t
    unfolding outcome_of refuse work_of
    dropped-stuck e = (sym (drop-lone none (ap (on_found (λ i. some (row_symbol t i)) none) e)), tt)

    module _ (i : ℕ) (e : f ≡ Some i) (r : Ended) (u : Sparse) (c : Reached (check_finite (pivot (row_symbol t i).id m (note_leaving (row_symbol t i) start))) r u) where
      leaving-is : drop_marker m start ≡ step (row_symbol t i)
      leaving-is = drop-lone (some (row_symbol t i)) (ap (on_found (λ i. some (row_symbol t i)) none) e)

      pub dropped-refused : eqb r.number 0 ≡ false → Drops r u
      dropped-refused q = reached-is r u (sym leaving-is) (after-refused r u (λ v. going (without m.id v)) c q)

      pub entered-symbols : eqb r.number 0 ≡ true → symbols_of u ≡ symbols_of t
      entered-symbols q = reached-symbols a pivots t u _ r (pivot-symbols (row_symbol t i).id m (row_symbol t i) start) c q

      -- "Pivot, drop"
      pub dropped-entered : (v : Sparse) → 1 ≤ p → p ≤ symbol_count t → eqb r.number 0 ≡ true → Makes false false (mark_of r.wrote) (mark_of r.wrote) (without (symbol_at u p).id) u v → Drops r v
      dropped-entered v low high q d =
          let d' : Makes false false (mark_of r.wrote) (mark_of r.wrote) (without m.id) u v = makes-to (λ k. ap (λ (x : Symbol). without x.id (work_of false (mark_of r.wrote) k u)) (symbol-same t u (entered-symbols q) p low high)) d in
          reached-is r v (sym leaving-is) (after-going r u (λ v. going (without m.id v)) c r v q (reached-made r u v (without m.id) q d'))
