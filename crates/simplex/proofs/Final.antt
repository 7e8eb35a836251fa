-- Demand 2 at the end of an optimise pass: the pivots found by the rule, and then none. Assumes nothing.
use Rattle.std.specs.Prelude.{◌≡◌, refl, List, ℕ, zero, suc, ◌≤◌, ◌<◌, Bool, true, false, ◌*ℤ◌}
use Rattle.std.proofs.Common.{sym, ap, ◌∙◌, subst, le_refl, le_of_lt}
use Rattle.laws.specs.Z.{◌≼◌}
use Rattle.simplex.specs.Ord.{0ℤ, ≼-of-eq}
use Rattle.simplex.specs.Lin.{δ-other}
use Rattle.simplex.specs.Opt.{Kind, external, slack, Feasible, Lowest, slack≢const}
use Rattle.simplex.specs.Problem.{Con, Models}
use Rattle.simplex.proofs.Problem.{values-meet, least-error}
use Rattle.simplex.specs.Pass.{State, step, Good, differ}
use Rattle.simplex.specs.Bland.{Pass, good}
use Rattle.simplex.specs.Bound.{Mem}
use Rattle.simplex.specs.Run.{models-pivot}
use Rattle.simplex.specs.Dual
use Rattle.simplex.specs.Search.{Asc}
use Rattle.simplex.specs.Look.{done, look, Looked, at_rest, after, lv, ev, Pivots}
use Rattle.simplex.proofs.Look.{looked, pass}
use Rattle.simplex.specs.Final.{Best}

-- the basic solution of a good state is feasible
pub good-feasible : (n : ℕ) (kind : ℕ → Kind) (S : State) → Good n kind S → Feasible n kind (λ j. S.R j 0)
good-feasible n kind S G = record { slacks = λ j _ s. by j s (S.B j) refl; dummies = λ j _ d. G.still-dummies j d }
  where
    by : (j : ℕ) → kind j ≡ slack → (b : Bool) → S.B j ≡ b → 0ℤ ≼ S.R j 0
    by j s true r = G.feasible j r s
    by j s false r = ≼-of-eq (sym (G.shape.unit j r 0 ∙ δ-other (differ slack≢const kind j 0 s G.zero)))

module _ (n : ℕ) (kind : ℕ → Kind) (cs : List Con) (m : ℕ) (S : ℕ → State) (le en : ℕ → ℕ) (Q : Pass n kind m S le en) (D : Models n kind (S 0).B (S 0).R (S 0).o cs) where
  pub models-pass : (i : ℕ) → i ≤ m → Models n kind (S i).B (S i).R (S i).o cs
  models-pass zero h = D
  models-pass (suc i) h =
      let C = Q.choice i h in
      let G = good n kind m S le en Q i (le_of_lt h) in
      subst (λ (T : State). Models n kind T.B T.R T.o cs) (sym (Q.next i h))
      (models-pivot n kind (S i).B (S i).R (S i).o cs (le i) (en i) (models-pass i (le_of_lt h)) C.l-basic C.e-free C.in-n (differ slack≢const kind (en i) 0 C.e-slack G.zero) (ap (λ z. z *ℤ z) C.l-cell))

resting : (kind : ℕ → Kind) (ids : List ℕ) (S : State) → Looked kind ids S done → (j : ℕ) → kind j ≡ slack → 0ℤ ≼ S.o j
resting kind ids S (at_rest h) = h

module _ (n : ℕ) (kind : ℕ → Kind) (ids : List ℕ) (asc : Asc ids) (cover : (j : ℕ) → kind j ≡ slack → Mem j ids) (inside : (j : ℕ) → Mem j ids → j < n) where
  pub optimised : (in-n : 0 < n) (cs : List Con) (S : State) (m : ℕ) → Good n kind S → Models n kind S.B S.R S.o cs
      → ((i : ℕ) → i < m → Pivots (after kind ids S i) (look kind ids (after kind ids S i)))
      → look kind ids (after kind ids S m) ≡ done
      → Best n cs (λ j. (after kind ids S m).R j 0)
  unfolding after
  optimised in-n cs S m G D all end = record {
    meets = values-meet n kind T.B T.R T.o cs in-n GT.zero DT (good-feasible n kind T GT);
    least = least-error n kind T.B T.R T.o cs in-n GT.zero DT (good-feasible n kind T GT) low;
  }
    where
      T : State
      T = after kind ids S m

      Q : Pass n kind m (after kind ids S) (λ i. lv (look kind ids (after kind ids S i))) (λ i. ev (look kind ids (after kind ids S i)))
      Q = pass n kind ids asc cover inside S m G all

      GT : Good n kind (after kind ids S m)
      GT = good n kind m (after kind ids S) (λ i. lv (look kind ids (after kind ids S i))) (λ i. ev (look kind ids (after kind ids S i))) Q m (le_refl m)

      DT : Models n kind (after kind ids S m).B (after kind ids S m).R (after kind ids S m).o cs
      DT = models-pass n kind cs m (after kind ids S) (λ i. lv (look kind ids (after kind ids S i))) (λ i. ev (look kind ids (after kind ids S i))) Q D m (le_refl m)

      low : Lowest n kind (after kind ids S m).o
      low = record {
        consts = GT.consts;
        externals = λ j _ e. GT.no-var j e;
        slacks = λ j _ s. resting kind ids (after kind ids S m) (subst (Looked kind ids (after kind ids S m)) end (looked kind ids asc cover n (after kind ids S m) GT)) j s;
      }

-- THE DRAGGED STATE: a dual pass keeps the objective at its lowest and what the tableau models, and where no row is left below 0 the state is best
pub dual-models : (n : ℕ) (kind : ℕ → Kind) (cs : List Con) (S : State) (l e : ℕ) → Dual.Good n kind S → Dual.Move n kind S l e
    → Models n kind S.B S.R S.o cs → Models n kind (step l e S).B (step l e S).R (step l e S).o cs
dual-models n kind cs S l e G C D =
    models-pivot n kind S.B S.R S.o cs l e D C.l-basic C.e-free C.in-n (differ slack≢const kind e 0 C.e-slack G.zero) (ap (λ z. z *ℤ z) C.e-cell)

pub dragged : (n : ℕ) (kind : ℕ → Kind) (cs : List Con) (S : State) → 0 < n → Dual.Good n kind S → Models n kind S.B S.R S.o cs
    → ((j : ℕ) → kind j ≡ external → S.o j ≡ 0ℤ)
    → ((j : ℕ) → S.B j ≡ true → kind j ≡ slack → 0ℤ ≼ S.R j 0)
    → Best n cs (λ j. S.R j 0)
dragged n kind cs S in-n G D no-var up = record {
  meets = values-meet n kind S.B S.R S.o cs in-n G.zero D F;
  least = least-error n kind S.B S.R S.o cs in-n G.zero D F (record { consts = G.consts; externals = λ j _ e. no-var j e; slacks = λ j _ s. G.costs j s });
}
  where
    by : (j : ℕ) → kind j ≡ slack → (b : Bool) → S.B j ≡ b → 0ℤ ≼ S.R j 0
    by j s true r = up j r s
    by j s false r = ≼-of-eq (sym (G.shape.unit j r 0 ∙ δ-other (differ slack≢const kind j 0 s G.zero)))

    F : Feasible n kind (λ j. S.R j 0)
    F = record { slacks = λ j _ s. by j s (S.B j) refl; dummies = λ j _ d. G.still-dummies j d }
