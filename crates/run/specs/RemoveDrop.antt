-- A removal's second step: the marker's row is dropped, after a pivot where the marker is not basic. 13 and 17 are not given. Assumes nothing.
use Rattle.std.specs.Prelude.{◌≡◌, ◌≢◌, List, ℕ, ◌<◌, true}
use Rattle.std.proofs.Math.Path.{refl, sym, ap, subst}
use Rattle.std.proofs.Common.{◌∙◌, inl, inr, true≢false}
use Rattle.std.proofs.Math.Option.{Option, none, some}
use Rattle.std.proofs.Math.Bool.{false}
use Rattle.simplex.specs.Ord.{0ℤ}
use Rattle.simplex.specs.At.{at}
use Rattle.simplex.specs.Choose.{all-zip}
use Rattle.simplex.specs.Basis.{swap, Swapped, enters, leaves, stays, swapped}
use Rattle.simplex.specs.Opt.{Kind as KindZ, external}
use Rattle.simplex.specs.Form.{soft}
use Rattle.simplex.specs.Problem.{Con, Sound, Apart, Models, sounds-all}
use Rattle.simplex.specs.Tab.{pivoted, pivot as pivotZ}
use Rattle.simplex.specs.Change.{dropped}
use Rattle.simplex.specs.Pass.{State as StateZ, Good}
use Rattle.simplex.specs.Remove.{Rank, drop-good, remove-good, free-of-marker}
use Rattle.simplex.specs.Gone.{Halfway, half-pivot, half-drop, marker-held, tag-kind, not-variable}
use Rattle.steps.specs.Number.{Mark, all_whole, not_whole, not_finite}
use Rattle.steps.specs.Symbol.{Symbol}
use Rattle.steps.specs.Row.{Row}
use Rattle.steps.specs.State.{Tableau}
use Rattle.steps.specs.Work.{Work, refused, going, ◌>>=◌, refuse, check_finite, with_rows, with_tableau, find_row, drop_row}
use Rattle.steps.specs.Substitute.{pivot}
use Rattle.steps.specs.Remove.{get_marker_leaving_row, note_leaving, drop_marker}
use Rattle.simplex.specs.bridge.Nums.{finite≢}
use Rattle.simplex.specs.bridge.Table.{RowAt, Live, ReadsTable, ReadsWork, in-nonzero}
use Rattle.simplex.proofs.bridge.Table.{pivot-z}
use Rattle.simplex.specs.bridge.Runs.{mark_of}
use Rattle.simplex.proofs.bridge.Runs.{pivot-pivots}
use Rattle.simplex.specs.bridge.Ranks.{Goes}
use Rattle.simplex.proofs.bridge.Ranks.{drop-z}
use Rattle.run.specs.Steady.{Kept, kept_trans, pivot-kept}
use Rattle.run.specs.Passes.{other-artificial}
use Rattle.run.specs.RemoveFrame.{kept-rows, Noted, noted}
use Rattle.run.specs.RanksIs.{Ranked, Found, marker-row}

-- ---- what the step leaves
pub record Dropped (n : ℕ) (kind : ℕ → KindZ) (cs : List Con) (w x : Work) : Type 0 where
  pub table : StateZ
  pub good : Good n kind table
  pub models : Models n kind table.B table.R table.o cs
  pub reads : ReadsWork kind x table.B table.R table.o (λ _. 0ℤ)
  pub kept : Kept w x
  pub pivots : x.pivots ≡ w.pivots

module _ (n : ℕ) (kind : ℕ → KindZ) (w : Work) (S : StateZ) (c : Con) (cs : List Con) (G : Good n kind S) (D : Halfway n kind S.B S.R S.o c cs)
    (H : ReadsWork kind w S.B S.R S.o (λ _. 0ℤ)) (bare : w.artificial ≡ none) (m : Symbol) (own : c.marker ≡ m.id) (live : Live kind w.tableau.symbols m) where
  m≢0 : m.id ≢ 0
  m≢0 = in-nonzero m.id w.tableau.symbols H.up live.0

  in-n : m.id < n
  in-n = subst (λ (p : ℕ). p < n) own D.sounds.0.marker-in

  -- a basic marker's row is dropped
  drops : S.B m.id ≡ true → Dropped n kind cs w (with_rows (drop_row m.id w.tableau.rows) w)
  unfolding with_rows with_tableau
  drops basic = record {
    table = record { B = at m.id false S.B; R = dropped m.id S.R; o = S.o };
    good = drop-good n kind S G m.id basic;
    models = subst (λ (p : ℕ). Models n kind (at p false S.B) (dropped p S.R) S.o cs) own (half-drop n kind S.B S.R S.o c cs D (ap S.B own ∙ basic));
    reads = drop-z kind w S.B S.R S.o (λ _. 0ℤ) H m.id;
    kept = kept-rows (drop_row m.id w.tableau.rows) w;
    pivots = refl;
  }

  -- the objective of the others does not hold the marker where no restricted row does
  cost : ((j : ℕ) → kind j ≢ external → j ≢ m.id → S.R j m.id ≡ 0ℤ) → S.B m.id ≡ false → S.o m.id ≡ 0ℤ
  cost empty free =
      free-of-marker n S.B S.R S.o m.id cs D.shape D.clear free in-n D.worth
      (all-zip {P = Apart c} {Q = Sound n kind} one cs D.sounds.1 (sounds-all n kind cs D.sounds.2))
    where
      one : (d : Con) → Apart c d → Sound n kind d → (S.R d.marker m.id ≡ 0ℤ) × (soft d.form ≡ true → S.R d.other m.id ≡ 0ℤ)
      one d a s = (
        empty d.marker (not-variable kind d.marker (tag-kind n kind d s d.marker (inl refl))) (λ q. a d.marker (inl (q ∙ sym own)) (inl refl)),
        λ b. empty d.other (not-variable kind d.other (tag-kind n kind d s d.other (inr (b, refl)))) (λ q. a d.other (inl (q ∙ sym own)) (inr (b, refl))),
      )

  module _ (free : S.B m.id ≡ false) (l : Symbol) (L : Ranked n kind w S (λ _. 0ℤ) G H m.id in-n m≢0 free (λ h. cost h free) l) where
    abbrev v : Work
    v = note_leaving l w

    N : Noted w (note_leaving l w)
    N = noted l w

    Hv : ReadsWork kind (note_leaving l w) S.B S.R S.o (λ _. 0ℤ)
    Hv =
        subst (λ (t : Tableau). ReadsTable kind t.cutoff t.symbols t.rows t.objective (note_leaving l w).artificial S.B S.R S.o (λ _. 0ℤ)) (sym N.tableau)
        (subst (λ (t : Option Row). ReadsTable kind w.tableau.cutoff w.tableau.symbols w.tableau.rows w.tableau.objective t S.B S.R S.o (λ _. 0ℤ)) (sym N.artificial) H)

    live-v : Live kind v.tableau.symbols m
    live-v = subst (λ (t : Tableau). Live kind t.symbols m) (sym N.tableau) live

    basic-m : swap l.id m.id S.B m.id ≡ true
    basic-m = go (swapped l.id m.id S.B m.id)
      where
        go : Swapped l.id m.id S.B m.id → swap l.id m.id S.B m.id ≡ true
        go (enters p t) = t
        go (leaves p t) = absurd (true≢false (sym L.basic ∙ ap S.B (sym p) ∙ free))
        go (stays p q t) = absurd (p refl)

    abbrev x : Work
    x = pivot l.id m v

    -- else a pivot on the leaving row, and then
    pivots-out : (pivot l.id m (note_leaving l w)).mark ≡ all_whole → Dropped n kind cs w (with_rows (drop_row m.id (pivot l.id m (note_leaving l w)).tableau.rows) (pivot l.id m (note_leaving l w)))
    unfolding with_rows with_tableau
    pivots-out mk =
        let t = pivot-z kind v S.B S.R S.o (λ _. 0ℤ) Hv l.id m L.basic free live-v (G.shape.unit m.id free) mk in
        let K : Rank n kind S l.id m.id = L.rank t.1 in
        let T : StateZ = record { B = at m.id false (swap l.id m.id S.B); R = dropped m.id (pivotZ l.id m.id S.R); o = pivoted l.id m.id S.R S.o } in
        let GT : Good n kind T = remove-good n kind S G l.id m.id K in
        let P = half-pivot n kind S.B S.R S.o c cs l.id m.id D L.basic free in-n m≢0 t.1 in
        let kept-x : Kept w x = kept_trans w v x N.kept (pivot-kept l.id m v) in
        let art : x.artificial ≡ none = kept-x.artificial bare in
        let HT = drop-z kind x (swap l.id m.id S.B) (pivotZ l.id m.id S.R) (pivoted l.id m.id S.R S.o) (λ _. 0ℤ)
        (other-artificial kind x (swap l.id m.id S.B) (pivotZ l.id m.id S.R) (pivoted l.id m.id S.R S.o) (pivoted l.id m.id S.R (λ _. 0ℤ)) (λ _. 0ℤ) art t.2) m.id in
        record {
          table = T;
          good = GT;
          models = subst (λ (p : ℕ). Models n kind (at p false (swap l.id m.id S.B)) (dropped p (pivotZ l.id m.id S.R)) (pivoted l.id m.id S.R S.o) cs) own
              (half-drop n kind (swap l.id m.id S.B) (pivotZ l.id m.id S.R) (pivoted l.id m.id S.R S.o) c cs P (ap (swap l.id m.id S.B) own ∙ basic-m));
          reads = HT;
          kept = kept_trans w x (with_rows (drop_row m.id x.tableau.rows) x) kept-x (kept-rows (drop_row m.id x.tableau.rows) x);
          pivots = pivot-pivots l.id m v ∙ N.pivots;
        }

    after-pivot : mark_of (check_finite (pivot l.id m (note_leaving l w)) >>= λ y. going (with_rows (drop_row m.id y.tableau.rows) y)) ≡ all_whole
        → Goes (Dropped n kind cs w) (check_finite (pivot l.id m (note_leaving l w)) >>= λ y. going (with_rows (drop_row m.id y.tableau.rows) y))
    unfolding check_finite refuse ◌>>=◌ mark_of with_rows with_tableau
    after-pivot = go x.mark refl
      where
        go : (t : Mark) → x.mark ≡ t
            → mark_of ((elim t [ all_whole ↦ going x | not_whole ↦ going x | not_finite ↦ refused 13 x.pivots x.mark ]) >>= λ y. going (with_rows (drop_row m.id y.tableau.rows) y)) ≡ all_whole
            → Goes (Dropped n kind cs w) ((elim t [ all_whole ↦ going x | not_whole ↦ going x | not_finite ↦ refused 13 x.pivots x.mark ]) >>= λ y. going (with_rows (drop_row m.id y.tableau.rows) y))
        go all_whole e = λ k. pivots-out k
        go not_whole e = λ k. pivots-out k
        go not_finite e = λ k. absurd (finite≢ (sym e ∙ k))

  pub drop-marker : mark_of (drop_marker m w) ≡ all_whole → Goes (Dropped n kind cs w) (drop_marker m w)
  unfolding drop_marker refuse mark_of
  drop-marker = go (find_row m.id w.tableau.rows) (H.rows m.id)
    where
      by_row : (free : S.B m.id ≡ false) (t : Option Symbol) → Found n kind w S (λ _. 0ℤ) G H m.id in-n m≢0 free (λ h. cost h free) t
          → mark_of (elim t [ none ↦ refused 17 w.pivots w.mark | some l ↦ check_finite (pivot l.id m (note_leaving l w)) >>= λ y. going (with_rows (drop_row m.id y.tableau.rows) y) ]) ≡ all_whole
          → Goes (Dropped n kind cs w) (elim t [ none ↦ refused 17 w.pivots w.mark | some l ↦ check_finite (pivot l.id m (note_leaving l w)) >>= λ y. going (with_rows (drop_row m.id y.tableau.rows) y) ])
      by_row free none h = λ k. marker-held n kind S.B S.R S.o c cs D (ap S.B own ∙ free) (λ j ne. ap (S.R j) own ∙ h j (λ q. ne (q ∙ sym own)))
      by_row free (some l) h = after-pivot free l h

      go : (t : Option Row) → RowAt w.tableau.symbols t (S.B m.id) (S.R m.id)
          → mark_of (elim t [ some r ↦ going (with_rows (drop_row m.id w.tableau.rows) w) | none ↦ elim (get_marker_leaving_row m.id w) [ none ↦ refused 17 w.pivots w.mark | some l ↦ check_finite (pivot l.id m (note_leaving l w)) >>= λ y. going (with_rows (drop_row m.id y.tableau.rows) y) ] ]) ≡ all_whole
          → Goes (Dropped n kind cs w) (elim t [ some r ↦ going (with_rows (drop_row m.id w.tableau.rows) w) | none ↦ elim (get_marker_leaving_row m.id w) [ none ↦ refused 17 w.pivots w.mark | some l ↦ check_finite (pivot l.id m (note_leaving l w)) >>= λ y. going (with_rows (drop_row m.id y.tableau.rows) y) ] ])
      go none h = by_row h (get_marker_leaving_row m.id w) (marker-row n kind w S (λ _. 0ℤ) G H m.id in-n m≢0 h (λ z. cost z h))
      go (some r) h = λ k. drops h.0
