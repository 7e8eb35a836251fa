-- What every step keeps: no step but a pass counts a pivot, a mark that is lost stays lost, the cutoff stays, and what was told of the variables stands. Assumes nothing.
use Prim.Native.Nat.{ℕ}
use mathlib.Core.Path.{◌≡◌, refl, sym, ap, ◌∙◌}
use mathlib.Core.Bool.{Bool, true, false, ◌&&◌, cond, true≢false}
use mathlib.Core.List.{List}
use mathlib.Core.Option.{Option, none, some}
use lib.Ieee.{ne}
use Rattle.steps.specs.Number.{zero64, Mark, all_whole, not_whole, not_finite, worse, says_whole}
use Rattle.steps.specs.Symbol.{Symbol, is_external}
use Rattle.steps.specs.Row.{Row}
use Rattle.steps.specs.State.{Basic}
use Rattle.steps.specs.Work.{Work, with_tableau, with_changes, with_artificial, marking, with_rows, with_objective, find_row, append_symbol, purge}
use Rattle.steps.specs.Changes.{note}
use Rattle.steps.specs.Substitute.{substitute, enter_basis, pivot}
use Rattle.steps.proofs.Told.{Shed, shed-refl, shed-trans, changed-shed, all-shed}

-- from w the steps came to v: as many pivots are counted, if the mark is whole it was, the cutoff is the same, and what was told stands
pub record After (w v : Work) : Type 0 where
  pub pivots : v.pivots ≡ w.pivots
  pub mark : v.mark ≡ all_whole → w.mark ≡ all_whole
  pub cutoff : v.tableau.cutoff ≡ w.tableau.cutoff
  pub told : Shed w.changes v.changes

pub after-refl : (w : Work) → After w w
after-refl w = record { pivots = refl; mark = λ m. m; cutoff = refl; told = shed-refl w.changes }

pub after-trans : {u v w : Work} → After u v → After v w → After u w
after-trans a b = record { pivots = b.pivots ∙ a.pivots; mark = λ m. a.mark (b.mark m); cutoff = b.cutoff ∙ a.cutoff; told = shed-trans a.told b.told }

-- the answer says yes only of the whole mark
pub says-whole : (m : Mark) → says_whole m ≡ true → m ≡ all_whole
unfolding says_whole
says-whole all_whole h = refl
says-whole not_whole h = absurd (true≢false (sym h))
says-whole not_finite h = absurd (true≢false (sym h))

-- the worse of two marks is whole only if the first is
pub worse-first : (a b : Mark) → worse a b ≡ all_whole → a ≡ all_whole
unfolding worse says_whole
worse-first all_whole b h = refl
worse-first not_whole all_whole h = h
worse-first not_whole not_whole h = h
worse-first not_whole not_finite h = absurd (true≢false (sym (ap says_whole h)))
worse-first not_finite b h = h

-- ---- a Work with one part changed

-- nothing that is counted or marked changes
pub same : (w v : Work) → v.pivots ≡ w.pivots → v.mark ≡ w.mark → v.tableau.cutoff ≡ w.tableau.cutoff → Shed w.changes v.changes → After w v
same w v p e c t = record { pivots = p; mark = λ m. sym e ∙ m; cutoff = c; told = t }

pub marking-after : (m : Mark) (w : Work) → After w (marking m w)
unfolding marking
marking-after m w = record { pivots = refl; mark = worse-first w.mark m; cutoff = refl; told = shed-refl w.changes }

pub rows-after : (rs : List Basic) (w : Work) → After w (with_rows rs w)
unfolding with_rows with_tableau
rows-after rs w = same w (with_rows rs w) refl refl refl (shed-refl w.changes)

pub artificial-after : (a : Option Row) (w : Work) → After w (with_artificial a w)
unfolding with_artificial
artificial-after a w = same w (with_artificial a w) refl refl refl (shed-refl w.changes)

pub append-after : (s : Symbol) (w : Work) → After w (append_symbol s w)
unfolding append_symbol with_tableau
append-after s w = same w (append_symbol s w) refl refl refl (shed-refl w.changes)

pub purge-after : (s : ℕ) (w : Work) → After w (purge s w)
unfolding purge with_tableau
purge-after s w = same w (purge s w) refl refl refl (shed-refl w.changes)

pub note-after : (s : ℕ) (w : Work) → After w (note s w)
unfolding note with_changes
note-after s w = same w (note s w) refl refl refl (changed-shed s w.changes)

-- one of two
pub cond-after : (b : Bool) (w x y : Work) → After w x → After w y → After w (cond b x y)
cond-after true w x y f g = f
cond-after false w x y f g = g

-- ---- substitution and pivots

pub substitute-after : (s : ℕ) (row : Row) (w : Work) → After w (substitute s row w)
unfolding substitute marking with_artificial with_changes with_objective with_rows with_tableau
substitute-after s row w = record { pivots = refl; mark = worse-first w.mark _; cutoff = refl; told = all-shed _ w.changes }

pub enter-after : (s : Symbol) (row : Row) (w : Work) → After w (enter_basis s row w)
unfolding enter_basis
enter-after s row w =
    let v : Work = substitute s.id row w in
    after-trans (substitute-after s.id row w) (after-trans (cond-after (is_external s && ne row.constant zero64) v _ v (note-after s.id v) (after-refl v)) (rows-after _ _))

pub pivot-after : (leaving : ℕ) (entering : Symbol) (w : Work) → After w (pivot leaving entering w)
unfolding pivot
pivot-after leaving entering w = go (find_row leaving w.tableau.rows) refl
  where
    go : (o : Option Row) → find_row leaving w.tableau.rows ≡ o → After w (pivot leaving entering w)
    go none e = rw (e, pivot) (after-refl w)
    go (some row) e = rw (e, pivot) (after-trans (after-trans (rows-after _ w) (marking-after _ _)) (enter-after entering _ _))
