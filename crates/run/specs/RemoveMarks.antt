-- The marks of a removal's steps only get worse, and its strengths fit into the objective. Assumes nothing.
use Rattle.std.specs.Prelude.{◌≡◌, refl, List, [], ◌∷◌, ◌^◌, ◌≤◌, Bool, true, false, cond, T, ℤ, pos, negsuc, nat_abs, Float}
use Rattle.std.proofs.Common.{sym, ◌∙◌, subst, arith, true≢false}
use Rattle.std.proofs.Math.Option.{Option, none, some}
use Rattle.std.specs.Int.Signed.{lt_z_yes}
use Rattle.std.specs.Float.Ieee.{lt}
use Rattle.laws.specs.Z.{◌≼◌, ◌≺◌, lt→N}
use Rattle.laws.specs.exact.Whole.{IsZ, Zb, val}
use Rattle.laws.specs.exact.Compare.{lt-z}
use Rattle.simplex.specs.Ord.{0ℤ}
use Rattle.simplex.specs.Form.{Form, le!, eq!, ge!, le, eq, ge, soft}
use Rattle.steps.specs.Number.{Mark, all_whole, not_whole, not_finite, below_zero}
use Rattle.steps.specs.Strength.{required}
use Rattle.steps.specs.Symbol.{Symbol}
use Rattle.steps.specs.Row.{Row}
use Rattle.steps.specs.State.{Term, Tag, Relation, at_most, equal, at_least, strength_of, Variable}
use Rattle.steps.specs.Work.{Work, Outcome, refused, going, ◌>>=◌, refuse, check_finite, with_rows, with_tableau, with_changes, find_row, drop_row, purge}
use Rattle.steps.specs.CreateRow.{with_variables}
use Rattle.steps.specs.Substitute.{pivot}
use Rattle.steps.specs.Changes.{tell_gone}
use Rattle.steps.specs.Remove.{get_marker_leaving_row, note_leaving, drop_marker, purge_tag, use_less, lose, drop_use, drop_uses}
use Rattle.simplex.specs.bridge.Finds.{none≢some}
use Rattle.simplex.specs.bridge.Runs.{mark_of}
use Rattle.simplex.proofs.bridge.Runs.{pivot-mark}
use Rattle.run.specs.Inv.{form_of, Shaped}
use Rattle.run.specs.Inputs.{required-z, nonneg-z}
use Rattle.run.specs.RemoveFrame.{noted}
use Rattle.run.specs.RemovePurge.{cut}

-- ---- the mark, step by step
finite-mark : (w : Work) (f : Work → Outcome Work) → ((v : Work) → mark_of (f v) ≡ all_whole → v.mark ≡ all_whole) → mark_of (check_finite w >>= f) ≡ all_whole → w.mark ≡ all_whole
unfolding check_finite refuse ◌>>=◌ mark_of
finite-mark w f h = go w.mark refl
  where
    go : (m : Mark) → w.mark ≡ m → mark_of ((elim m [ all_whole ↦ going w | not_whole ↦ going w | not_finite ↦ refused 13 w.pivots w.mark ]) >>= f) ≡ all_whole → w.mark ≡ all_whole
    go all_whole e k = e
    go not_whole e k = h w k
    go not_finite e k = k

pub drop-mark : (m : Symbol) (w : Work) → mark_of (drop_marker m w) ≡ all_whole → w.mark ≡ all_whole
unfolding drop_marker refuse mark_of with_rows with_tableau
drop-mark m w = go (find_row m.id w.tableau.rows)
  where
    leaving : (t : Option Symbol) → mark_of (elim t [ none ↦ refused 17 w.pivots w.mark | some l ↦ check_finite (pivot l.id m (note_leaving l w)) >>= λ v. going (with_rows (drop_row m.id v.tableau.rows) v) ]) ≡ all_whole → w.mark ≡ all_whole
    leaving none = λ k. k
    leaving (some l) = λ k. sym (noted l w).mark ∙ pivot-mark l.id m (note_leaving l w) (finite-mark (pivot l.id m (note_leaving l w)) (λ v. going (with_rows (drop_row m.id v.tableau.rows) v)) (λ v e. e) k)

    go : (t : Option Row) → mark_of (elim t [ some r ↦ going (with_rows (drop_row m.id w.tableau.rows) w) | none ↦ elim (get_marker_leaving_row m.id w) [ none ↦ refused 17 w.pivots w.mark | some l ↦ check_finite (pivot l.id m (note_leaving l w)) >>= λ v. going (with_rows (drop_row m.id v.tableau.rows) v) ] ]) ≡ all_whole → w.mark ≡ all_whole
    go none = leaving (get_marker_leaving_row m.id w)
    go (some r) = λ k. k

pub purge-mark : (tag : Tag) (w : Work) → (purge_tag tag w).mark ≡ w.mark
unfolding purge_tag
purge-mark tag w = go tag.other
  where
    go : (t : Option Symbol) → (purge tag.marker.id (elim t [ none ↦ w | some o ↦ purge o.id w ])).mark ≡ w.mark
    go none = (cut tag.marker.id w).mark
    go (some o) = (cut tag.marker.id (purge o.id w)).mark ∙ (cut o.id w).mark

use-mark : (t : Term) (w : Work) → (drop_use t w).mark ≡ w.mark
unfolding drop_use lose with_variables with_changes
use-mark t w = go (use_less t.variable w.changes.variables).gone
  where
    left : Work
    left = with_variables (use_less t.variable w.changes.variables).variables w

    go : (o : Option Variable) → (elim o as (λ x. Work) [ none ↦ left | some v ↦ lose v left ]).mark ≡ w.mark
    go none = refl
    go (some v) = (cut v.symbol.id (with_changes (tell_gone v left.changes) left)).mark

pub uses-mark : (ts : List Term) (w : Work) → (drop_uses ts w).mark ≡ w.mark
unfolding drop_uses
uses-mark [] w = refl
uses-mark (t ∷ ts) w = uses-mark ts (drop_use t w) ∙ use-mark t w

-- ---- a strength that is not required
pub soft-below : (r : Relation) → soft (form_of r) ≡ true → lt (strength_of r) required ≡ true
unfolding form_of strength_of
soft-below (at_most s) e = go (lt s required) e
  where
    go : (b : Bool) → soft (cond b le le!) ≡ true → b ≡ true
    go true e = refl
    go false e = absurd (true≢false (sym e))
soft-below (equal s) e = go (lt s required) e
  where
    go : (b : Bool) → soft (cond b eq eq!) ≡ true → b ≡ true
    go true e = refl
    go false e = absurd (true≢false (sym e))
soft-below (at_least s) e = go (lt s required) e
  where
    go : (b : Bool) → soft (cond b ge ge!) ≡ true → b ≡ true
    go true e = refl
    go false e = absurd (true≢false (sym e))

pub soft-strength : {s : Float} → IsZ s (val s) → below_zero s ≡ false → lt s required ≡ true → Zb (2 ^ 30) s (val s)
soft-strength {s} h b e = record { isz = h; small = go (val s) (nonneg-z h b) (lt_z_yes (subst T (sym (sym (lt-z h required-z) ∙ e)) tt)) }
  where
    go : (z : ℤ) → 0ℤ ≼ z → z ≺ pos 1_001_001_000 → nat_abs z ≤ 2 ^ 30
    go (pos k) l u = omega (arith, lt→N (pos k) (pos 1_001_001_000) u)
    go (negsuc k) l u = absurd l.le

-- a tag with an other symbol is a soft demand's
pub paired : (f : Form) (tag : Tag) → Shaped f tag → (o : Symbol) → tag.other ≡ some o → soft f ≡ true
paired le! tag h o e = absurd (none≢some (sym h.1 ∙ e))
paired eq! tag h o e = absurd (none≢some (sym h.1 ∙ e))
paired ge! tag h o e = absurd (none≢some (sym h.1 ∙ e))
paired le tag h o e = refl
paired eq tag h o e = refl
paired ge tag h o e = refl
