-- What an optimise pass of the steps is in the theory: the states that it goes through, and how it ends.
use Rattle.std.specs.Prelude.{◌≡◌, List}
use Rattle.std.proofs.Math.Option.{Option, none, some}
use Prim.Native.Nat.{ℕ, zero, suc, ◌+◌, ◌≤◌, ◌<◌}
use Rattle.simplex.specs.Lin.{Vec}
use Rattle.simplex.specs.Tab.{pivoted}
use Rattle.simplex.specs.Opt.{Kind as KindZ, slack}
use Rattle.simplex.specs.Pass.{State}
use Rattle.simplex.specs.Bound.{Mem}
use Rattle.simplex.specs.Search.{Asc}
use Rattle.simplex.specs.Look.{done, no_row, look, after, lv, ev, Pivots}
use Rattle.steps.specs.Number.{Mark}
use Rattle.steps.specs.Row.{Row}
use Rattle.steps.specs.Work.{Work, Outcome, refused, going}
use Rattle.steps.specs.Optimise.{Goal, the_objective, the_artificial}
use Rattle.simplex.specs.bridge.Table.{ReadsWork}

-- ---- the marks only get worse
unfoldable pub mark_of : Outcome Work → Mark
mark_of (refused n p m) = m
mark_of (going w) = w.mark

-- the artificial objective stands on
abbrev pub Standing : Option Row → Type 0
Standing none = ⊥
Standing (some r) = Unit

-- ---- what the pass works on: the goal's row is the theory's objective, the other objective is carried along
abbrev pub ReadsGoal : Goal → (ℕ → KindZ) → Work → State → Vec → Type 0
ReadsGoal the_objective kind w S z = ReadsWork kind w S.B S.R S.o z
ReadsGoal the_artificial kind w S z = ReadsWork kind w S.B S.R z S.o × Standing w.artificial

unfoldable pub carried : (ℕ → KindZ) → List ℕ → State → Vec → ℕ → Vec
carried kind ids S z zero = z
carried kind ids S z (suc i) = let T = after kind ids S i in pivoted (lv (look kind ids T)) (ev (look kind ids T)) T.R (carried kind ids S z i)

-- ---- the two objectives that a work reads as, the goal's row the theory's
abbrev pub obj_of : Goal → Vec → Vec → Vec
obj_of the_objective q z = q
obj_of the_artificial q z = z

abbrev pub art_of : Goal → Vec → Vec → Vec
art_of the_objective q z = z
art_of the_artificial q z = q

module _ (n : ℕ) (kind : ℕ → KindZ) (ids : List ℕ) (asc : Asc ids) (cover : (j : ℕ) → kind j ≡ slack → Mem j ids) (inside : (j : ℕ) → Mem j ids → j < n) where
  -- ---- what the pass is
  pub data Ran (g : Goal) (left : ℕ) (w : Work) (S : State) (z : Vec) : Outcome Work → Type 0 where
    rests : (m : ℕ) → m ≤ left → ((i : ℕ) → i < m → Pivots (after kind ids S i) (look kind ids (after kind ids S i))) → look kind ids (after kind ids S m) ≡ done
        → (x : Work) → ReadsGoal g kind x (after kind ids S m) (carried kind ids S z m) → x.pivots ≡ w.pivots + m → Ran g left w S z (going x)
    used-up : ((i : ℕ) → i < left → Pivots (after kind ids S i) (look kind ids (after kind ids S i))) → (p : ℕ) → p ≡ w.pivots + left → (t : Mark) → Ran g left w S z (refused 14 p t)
    no-leaving : (m : ℕ) → m ≤ left → ((i : ℕ) → i < m → Pivots (after kind ids S i) (look kind ids (after kind ids S i))) → (e : ℕ) → look kind ids (after kind ids S m) ≡ no_row e
        → (p : ℕ) → p ≡ w.pivots + m → (t : Mark) → Ran g left w S z (refused 15 p t)
