-- For removal and add: a tableau with a row more, and what the ratio test over the restricted rows with a positive cell finds.
use Rattle.std.specs.Prelude.{◌≡◌, ◌≢◌, ℕ, ◌*ℤ◌, Float}
use mathlib.Core.List.{List}
use Rattle.std.proofs.Math.Option.{Option, none, some}
use Rattle.std.proofs.Math.Bool.{true}
use Rattle.laws.specs.Z.{◌≼◌, ◌≺◌}
use Rattle.simplex.specs.Ord.{0ℤ, 1ℤ}
use Rattle.simplex.specs.Lin.{Vec}
use Rattle.simplex.specs.At.{at}
use Rattle.simplex.specs.Tab.{out}
use Rattle.simplex.specs.Basis.{Mask}
use Rattle.simplex.specs.Opt.{Kind as KindZ, slack}
use Rattle.steps.specs.Symbol.{Symbol, is_restricted}
use Rattle.steps.specs.Row.{Row}
use Rattle.steps.specs.State.{Basic}
use Rattle.steps.specs.Work.{Work, Outcome, refused, going}
use Rattle.simplex.specs.bridge.Table.{Live, ReadsTable, ReadsWork}

-- ---- step 5 of Add: with the mark whole it goes on, on 1 or -1, and the tableau is the theory's with the row r more
pub record Entered (kind : ℕ → KindZ) (s : Symbol) (B : Mask) (R : ℕ → Vec) (o a r : Vec) (x : Work) : Type 0 where
  pub unit : r s.id *ℤ r s.id ≡ 1ℤ
  pub reads : ReadsWork kind x (at s.id true B) (λ j. out s.id (r s.id) r (R j)) (out s.id (r s.id) r o) (out s.id (r s.id) r a)

abbrev pub Goes : (Work → Type 0) → Outcome Work → Type 0
Goes Q (refused k p m) = ⊥
Goes Q (going x) = Q x

-- ---- "restricted with positive cell, smallest constant/cell"
module _ (kind : ℕ → KindZ) (cut : Float) (xs : List Symbol) (bs : List Basic) (cs : List Float) (art : Option Row) (B : Mask) (R : ℕ → Vec) (o a : Vec) (H : ReadsTable kind cut xs bs cs art B R o a) (e : ℕ) (e≢0 : e ≢ 0) where
  pub record Leaves (l : Symbol) : Type 0 where
    pub live : Live kind xs l
    pub restricted : is_restricted l ≡ true
    pub basic : B l.id ≡ true
    pub cell : 0ℤ ≺ R l.id e
    -- on 1 the ratio is exact: constant times cell, by cross multiplication, for every slack's row
    pub least : R l.id e ≡ 1ℤ → (j : ℕ) → B j ≡ true → kind j ≡ slack → 0ℤ ≺ R j e → R l.id 0 *ℤ R j e ≼ R j 0 *ℤ R l.id e

  abbrev pub Leaving : Option Symbol → Type 0
  Leaving none = (j : ℕ) → B j ≡ true → kind j ≡ slack → 0ℤ ≺ R j e → ⊥
  Leaving (some l) = Leaves l
