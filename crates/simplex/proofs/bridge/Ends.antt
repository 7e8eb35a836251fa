-- Demands 2 and 3 for an optimise pass of the steps: where its mark stays whole, an accepted pass leaves the best values, a pass that uses its budget up made fewer pivots than there are bases, and 15 is not given. Assumes nothing.
use Rattle.std.specs.Prelude.{◌≡◌, ◌≢◌, List, ℕ, ◌<◌, Bool, true, false}
use Rattle.std.proofs.Math.Path.{refl}
use Rattle.std.proofs.Common.{sym, ◌∙◌, subst, le_refl}
use Rattle.std.proofs.Math.Option.{Option, none, some}
use Rattle.laws.specs.exact.Whole.{IsZ, isz-to}
use Rattle.laws.specs.Z.{◌≺◌}
use Rattle.simplex.specs.Ord.{0ℤ, clash, ≼-of-eq}
use Rattle.simplex.specs.Lin.{Vec, δ, δ-other}
use Rattle.simplex.specs.Choose.{Distinct}
use Rattle.simplex.specs.Basis.{Mask}
use Rattle.simplex.specs.Opt.{Kind as KindZ, external, slack}
use Rattle.simplex.specs.Pass.{State, Good}
use Rattle.simplex.specs.Bland.{Pass, good}
use Rattle.simplex.specs.Bound.{Mem}
use Rattle.simplex.specs.Search.{Asc}
use Rattle.simplex.specs.Look.{Look, done, no_row, look, after, lv, ev, Pivots, go_on, Looked, at_rest, rowless, chosen}
use Rattle.simplex.proofs.Look.{looked, pass, enough}
use Rattle.simplex.specs.Problem.{Con, Models}
use Rattle.simplex.specs.Never.{never-15}
use Rattle.simplex.proofs.Final.{optimised, models-pass}
use Rattle.steps.specs.Number.{zero64, all_whole}
use Rattle.steps.specs.Row.{Row}
use Rattle.steps.specs.Work.{Work, Outcome, find_row}
use Rattle.steps.specs.Optimise.{the_objective, optimise}
use Rattle.simplex.specs.bridge.Nums.{zero64-z}
use Rattle.simplex.specs.bridge.Table.{RowAt, ReadsWork}
use Rattle.simplex.specs.bridge.Runs.{mark_of, ReadsGoal, carried, Ran, rests, used-up, no-leaving}
use Rattle.simplex.proofs.bridge.Runs.{run}
use Rattle.simplex.specs.bridge.Ends.{value_at}
use Rattle.simplex.specs.bridge.Ends as specs

pub value-z : (kind : ℕ → KindZ) (w : Work) (B : Mask) (R : ℕ → Vec) (o a : Vec) → ReadsWork kind w B R o a → ((j : ℕ) → B j ≡ false → (i : ℕ) → R j i ≡ δ j i)
    → (j : ℕ) → j ≢ 0 → IsZ (value_at j w.tableau.rows) (R j 0)
unfolding value_at
value-z kind w B R o a H unit j n = go (find_row j w.tableau.rows) (H.rows j)
  where
    go : (t : Option Row) → RowAt w.tableau.symbols t (B j) (R j) → IsZ (elim t [ none ↦ zero64 | some r ↦ r.constant ]) (R j 0)
    go none h = isz-to zero64-z (sym (unit j h 0 ∙ δ-other n))
    go (some r) h = h.1.constant.isz

module _ (n : ℕ) (kind : ℕ → KindZ) (ids : List ℕ) (asc : Asc ids) (cover : (j : ℕ) → kind j ≡ slack → Mem j ids) (inside : (j : ℕ) → Mem j ids → j < n) where
  abbrev Verdict : ℕ → State → List Con → List ℕ → Outcome Work → Type 0
  Verdict = specs.Verdict n kind ids asc cover inside

  good-at : (S : State) (m : ℕ) → Good n kind S → ((i : ℕ) → i < m → Pivots (after kind ids S i) (look kind ids (after kind ids S i))) → Good n kind (after kind ids S m)
  good-at S m G f =
      good n kind m (after kind ids S) (λ i. lv (look kind ids (after kind ids S i))) (λ i. ev (look kind ids (after kind ids S i))) (pass n kind ids asc cover inside S m G f) m (le_refl m)

  -- where the look finds no row: never
  no-15 : (S : State) (m : ℕ) (cs : List Con) → Good n kind S → Models n kind S.B S.R S.o cs → ((i : ℕ) → i < m → Pivots (after kind ids S i) (look kind ids (after kind ids S i)))
      → (e : ℕ) → look kind ids (after kind ids S m) ≡ no_row e → ⊥
  unfolding after
  no-15 S m cs G D f e k = go (no_row e) (subst (Looked kind ids (after kind ids S m)) k (looked kind ids asc cover n (after kind ids S m) (good-at S m G f))) e refl
    where
      Q : Pass n kind m (after kind ids S) (λ i. lv (look kind ids (after kind ids S i))) (λ i. ev (look kind ids (after kind ids S i)))
      Q = pass n kind ids asc cover inside S m G f

      DT : Models n kind (after kind ids S m).B (after kind ids S m).R (after kind ids S m).o cs
      DT = models-pass n kind cs m (after kind ids S) (λ i. lv (look kind ids (after kind ids S i))) (λ i. ev (look kind ids (after kind ids S i))) Q D m (le_refl m)

      GT : Good n kind (after kind ids S m)
      GT = good-at S m G f

      free : (e : ℕ) → (after kind ids S m).o e ≺ 0ℤ → (b : Bool) → (after kind ids S m).B e ≡ b → (after kind ids S m).B e ≡ false
      free e c false p = p
      free e c true p = absurd (clash c (≼-of-eq (sym (GT.clear e p))))

      is_rowless : Look → Type 0
      is_rowless done = ⊥
      is_rowless (no_row e) = Unit
      is_rowless (go_on l e) = ⊥

      go : (t : Look) → Looked kind ids (after kind ids S m) t → (e : ℕ) → t ≡ no_row e → ⊥
      go t (at_rest h) e p = subst is_rowless (sym p) tt
      go t (chosen l e' E L) e p = subst is_rowless (sym p) tt
      go t (rowless e' E h) e p =
          never-15 n kind (after kind ids S m).B (after kind ids S m).R (after kind ids S m).o cs e' DT (free e' E.cell ((after kind ids S m).B e') refl) (inside e' (cover e' E.is-slack))
          (λ j d. GT.dummies j e' d E.is-slack) E.cell h

  -- DEMANDS 2 AND 3 FOR A PASS ON THE OBJECTIVE
  -- rs are the restricted columns: demand 3's n is their number, r the number of them that are basic
  pub optimise-whole : (left : ℕ) (w : Work) (S : State) (z : Vec) (cs : List Con) (rs : List ℕ) → 0 < n → Distinct rs → ((j : ℕ) → S.B j ≡ true → kind j ≢ external → Mem j rs)
      → ((j : ℕ) → kind j ≡ slack → Mem j rs) → Good n kind S → Models n kind S.B S.R S.o cs → ReadsGoal the_objective kind w S z → mark_of (optimise left the_objective w) ≡ all_whole → Verdict left S cs rs (optimise left the_objective w)
  optimise-whole left w S z cs rs in-n once all_in_lem all-slacks G D H m = go (optimise left the_objective w) (run n kind ids asc cover inside left the_objective w S z G H m)
    where
      go : (t : Outcome Work) → Ran n kind ids asc cover inside the_objective left w S z t → Verdict left S cs rs t
      go t (rests m l f d y r q) = record {
        values = λ j. (after kind ids S m).R j 0;
        are = value-z kind y (after kind ids S m).B (after kind ids S m).R (after kind ids S m).o (carried kind ids S z m) r (good-at S m G f).shape.unit;
        best = optimised n kind ids asc cover inside in-n cs S m G D f d;
      }
      go t (used-up f p q k) = (refl, enough n kind ids asc cover inside S left G f rs once all_in_lem all-slacks)
      go t (no-leaving m l f e d p q k) = absurd (no-15 S m cs G D f e d)
