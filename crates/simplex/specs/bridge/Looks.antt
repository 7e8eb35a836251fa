-- What the steps choose in a pass: the end, no row, or a pivot.
use Rattle.std.specs.Prelude.{◌≡◌, List, ℕ, ◌<◌, true, false}
use Rattle.laws.specs.Z.{◌≼◌, ◌≺◌}
use Rattle.simplex.specs.Ord.{0ℤ}
use Rattle.simplex.specs.Lin.{Vec}
use Rattle.simplex.specs.Basis.{Mask}
use Rattle.simplex.specs.Opt.{Kind as KindZ, slack}
use Rattle.simplex.specs.Pass.{Good}
use Rattle.steps.specs.Symbol.{Symbol}
use Rattle.steps.specs.Work.{Work}
use Rattle.steps.specs.Optimise.{ended, stuck, pivot_on, Choice as Chosen}
use Rattle.simplex.specs.bridge.Table.{Live, ReadsWork, in-nonzero}
use Rattle.simplex.specs.bridge.Chosen.{Leaves}

module _ (n : ℕ) (kind : ℕ → KindZ) (w : Work) (B : Mask) (R : ℕ → Vec) (o a : Vec) (H : ReadsWork kind w B R o a)
    (q : Vec) (G : Good n kind (record { B = B; R = R; o = q })) where
  abbrev xs : List Symbol
  xs = w.tableau.symbols

  pub record Enters (e : Symbol) : Type 0 where
    pub live : Live kind xs e
    pub is-slack : kind e.id ≡ slack
    pub free : B e.id ≡ false
    pub cell : q e.id ≺ 0ℤ
    pub lowest : (j : ℕ) → j < e.id → kind j ≡ slack → 0ℤ ≼ q j

  -- what the steps chose
  pub data Choose : Chosen → Type 0 where
    at-end : ((j : ℕ) → kind j ≡ slack → 0ℤ ≼ q j) → Choose ended
    row-less : (e : Symbol) → Enters e → ((j : ℕ) → B j ≡ true → kind j ≡ slack → R j e.id ≺ 0ℤ → ⊥) → Choose stuck
    pivots : (l e : Symbol) (E : Enters e)
        → Leaves kind w.tableau.cutoff w.tableau.symbols w.tableau.rows w.tableau.objective w.artificial B R o a H e.id (in-nonzero e.id w.tableau.symbols H.up E.live.0) l → Choose (pivot_on l e)
