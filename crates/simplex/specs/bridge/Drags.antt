-- The dual pass of a suggestion: what holds before and after every pivot, and how the pass ends.
use Rattle.std.specs.Prelude.{◌≡◌, List, true}
use Prim.Native.Nat.{ℕ, ◌<◌}
use Rattle.laws.specs.Z.{◌≼◌}
use Rattle.simplex.specs.Ord.{0ℤ}
use Rattle.simplex.specs.Lin.{Vec}
use Rattle.simplex.specs.Opt.{Kind as KindZ, external, slack}
use Rattle.simplex.specs.Pass.{State}
use Rattle.simplex.specs.Dual.{Good}
use Rattle.simplex.specs.Problem.{Con, Models}
use Rattle.simplex.specs.Final.{Best}
use Rattle.steps.specs.Work.{Work, Outcome, refused, going}
use Rattle.simplex.specs.bridge.Table.{ReadsWork}

module _ (n : ℕ) (kind : ℕ → KindZ) (inside : (j : ℕ) → kind j ≡ slack → j < n) (cs : List Con) where
  -- ---- what holds before and after every pivot of the dual pass
  pub record Drag (w : Work) (S : State) (z : Vec) : Type 0 where
    pub good : Good n kind S
    pub reads : ReadsWork kind w S.B S.R S.o z
    pub models : Models n kind S.B S.R S.o cs
    pub no-var : (j : ℕ) → kind j ≡ external → S.o j ≡ 0ℤ

  -- ---- a dual pass that is accepted ends in a state that reads as a good one of the theory, no slack's row below 0: so its values are the best
  pub record Dragged (x : Work) : Type 0 where
    pub state : State
    pub other : Vec
    pub good : Good n kind state
    pub reads : ReadsWork kind x state.B state.R state.o other
    pub models : Models n kind state.B state.R state.o cs
    pub no-var : (j : ℕ) → kind j ≡ external → state.o j ≡ 0ℤ
    pub up : (j : ℕ) → state.B j ≡ true → kind j ≡ slack → 0ℤ ≼ state.R j 0
    pub best : Best n cs (λ j. state.R j 0)

  abbrev pub Ends : Outcome Work → Type 0
  Ends (going x) = Dragged x
  Ends (refused k p t) = k ≡ 14
