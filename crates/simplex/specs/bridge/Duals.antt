-- The dual pass: the leaving row and the entering symbol that the steps choose, and what their pivot gives.
use Rattle.std.specs.Prelude.{◌≡◌, ℕ, ◌^◌, ◌≤◌, ◌<◌, nat_abs, ◌*ℤ◌}
use mathlib.Core.List.{List}
use Rattle.std.proofs.Math.Option.{Option, none, some}
use Rattle.std.proofs.Math.Bool.{true, not}
use Rattle.laws.specs.Z.{◌≼◌, ◌≺◌}
use Rattle.simplex.specs.Ord.{0ℤ, 1ℤ}
use Rattle.simplex.specs.Lin.{Vec}
use Rattle.simplex.specs.Choose.{All}
use Rattle.simplex.specs.Tab.{pivoted}
use Rattle.simplex.specs.Opt.{Kind as KindZ, slack}
use Rattle.simplex.specs.Pass.{State, step}
use Rattle.simplex.specs.Dual.{Good, Choice as DualChoice}
use Rattle.steps.specs.Symbol.{Symbol, is_dummy}
use Rattle.steps.specs.State.{Basic}
use Rattle.steps.specs.Work.{Work}
use Rattle.steps.specs.Substitute.{pivot}
use Rattle.steps.specs.Optimise.{Candidate, Choice, ended, stuck, pivot_on}
use Rattle.simplex.specs.bridge.Quot.{Quotient}
use Rattle.simplex.specs.bridge.Rows.{ReadsRow}
use Rattle.simplex.specs.bridge.Table.{ReadsWork}
use Rattle.simplex.specs.bridge.Chosen.{MemS}

-- ---- the walk: f is the leaving row, o the objective
module _ (f o : Vec) where
  pub record From (c : Candidate) : Type 0 where
    pub lively : not (is_dummy c.symbol) ≡ true
    pub cell : 0ℤ ≺ f c.symbol.id
    pub small : nat_abs (o c.symbol.id) ≤ 2 ^ 40
    pub quotient : Quotient c.ratio (o c.symbol.id) (f c.symbol.id)

  -- e's ratio is the least, and e the lowest on a tie
  pub record Before (e i : ℕ) : Type 0 where
    pub least : o e *ℤ f i ≼ o i *ℤ f e
    pub ties : o e *ℤ f i ≡ o i *ℤ f e → e ≤ i

  pub record Enters (xs : List Symbol) (e : Symbol) : Type 0 where
    pub among : MemS e xs
    pub lively : not (is_dummy e) ≡ true
    pub cell : 0ℤ ≺ f e.id
    pub before : f e.id ≡ 1ℤ → All (λ (x : Symbol). not (is_dummy x) ≡ true → 0ℤ ≺ f x.id → Before e.id x.id) xs

  abbrev pub Entering : List Symbol → Option Symbol → Type 0
  Entering xs none = All (λ (x : Symbol). not (is_dummy x) ≡ true → 0ℤ ≺ f x.id → ⊥) xs
  Entering xs (some e) = Enters xs e

module _ (n : ℕ) (kind : ℕ → KindZ) (w : Work) (S : State) (G : Good n kind S) (z : Vec) (H : ReadsWork kind w S.B S.R S.o z) where
  -- the leaving row is a slack's, for a dummy's has the constant 0
  pub record Leaves (b : Basic) : Type 0 where
    pub basic : S.B b.symbol.id ≡ true
    pub is-slack : kind b.symbol.id ≡ slack
    pub low : S.R b.symbol.id 0 ≺ 0ℤ
    pub reads : ReadsRow w.tableau.symbols b.row (S.R b.symbol.id)
    pub lowest : (j : ℕ) → j < b.symbol.id → S.B j ≡ true → kind j ≡ slack → 0ℤ ≼ S.R j 0

  -- what the steps choose
  pub data Dual : Choice → Type 0 where
    at_rest : ((j : ℕ) → S.B j ≡ true → kind j ≡ slack → 0ℤ ≼ S.R j 0) → Dual ended
    no_way : (b : Basic) → Leaves b → Entering (S.R b.symbol.id) S.o w.tableau.symbols none → Dual stuck
    moves : (b : Basic) (e : Symbol) → Leaves b → Enters (S.R b.symbol.id) S.o w.tableau.symbols e → Dual (pivot_on b.symbol e)

  module _ (inside : (j : ℕ) → kind j ≡ slack → j < n) (b : Basic) (L : Leaves b) (e : Symbol) (E : Enters (S.R b.symbol.id) S.o w.tableau.symbols e) where
    abbrev l : ℕ
    l = b.symbol.id

    -- with the mark whole: the theory's choice, on 1, its step, and a good state again
    pub record Moved : Type 0 where
      pub choice : DualChoice n kind S l e.id
      pub good : Good n kind (step l e.id S)
      pub reads : ReadsWork kind (pivot l e w) (step l e.id S).B (step l e.id S).R (step l e.id S).o (pivoted l e.id S.R z)
