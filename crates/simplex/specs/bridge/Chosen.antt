-- What the steps' two walks find on a tableau that reads as the theory's: the first symbol that enters, and the row that leaves.
use Rattle.std.specs.Prelude.{◌≡◌, ◌⊎◌, ◌≢◌, ℕ, ◌^◌, ◌≤◌, ◌<◌, not, negsuc, neg_ℤ, nat_abs, ◌*ℤ◌, Float}
use mathlib.Core.List.{List, [], ◌∷◌}
use Rattle.std.proofs.Math.Option.{Option, none, some}
use Rattle.std.proofs.Math.Bool.{true}
use Rattle.std.specs.Float.Ieee.{neg}
use Rattle.laws.specs.Z.{◌≼◌, ◌≺◌}
use Rattle.simplex.specs.Ord.{0ℤ}
use Rattle.simplex.specs.Lin.{Vec}
use Rattle.simplex.specs.Choose.{All}
use Rattle.simplex.specs.Basis.{Mask}
use Rattle.simplex.specs.Opt.{Kind as KindZ, slack}
use Rattle.steps.specs.Number.{◌/₆₄◌}
use Rattle.steps.specs.Symbol.{Symbol, is_dummy, is_restricted, coefficient_for}
use Rattle.steps.specs.Row.{Row}
use Rattle.steps.specs.State.{Basic}
use Rattle.steps.specs.Optimise.{Candidate}
use Rattle.simplex.specs.bridge.Quot.{Quotient}
use Rattle.simplex.specs.bridge.Rows.{ReadsRow}
use Rattle.simplex.specs.bridge.Table.{Live, ReadsTable}

-- ---- entering: the first symbol that is no dummy and whose cell is below 0
abbrev pub MemS : Symbol → List Symbol → Type 0
MemS x [] = ⊥
MemS x (y ∷ ys) = (x ≡ y) ⊎ MemS x ys

pub data First (q : Vec) (xs : List Symbol) : Option Symbol → Type 0 where
  nobody : All (λ (x : Symbol). not (is_dummy x) ≡ true → 0ℤ ≼ q x.id) xs → First q xs none
  winner : (e : Symbol) → MemS e xs → not (is_dummy e) ≡ true → q e.id ≺ 0ℤ → All (λ (x : Symbol). x.id < e.id → not (is_dummy x) ≡ true → 0ℤ ≼ q x.id) xs → First q xs (some e)

abbrev pub Known : (ℕ → KindZ) → List Symbol → Mask → (ℕ → Vec) → Basic → Type 0
Known kind xs B R b = Live kind xs b.symbol × ((B b.symbol.id ≡ true) × ReadsRow xs b.row (R b.symbol.id))

module _ (kind : ℕ → KindZ) (xs : List Symbol) (B : Mask) (R : ℕ → Vec) (e : ℕ) (e≢0 : e ≢ 0) where
  -- what a candidate comes from
  pub record From (c : Candidate) : Type 0 where
    pub live : Live kind xs c.symbol
    pub restricted : is_restricted c.symbol ≡ true
    pub basic : B c.symbol.id ≡ true
    pub cell : R c.symbol.id e ≺ 0ℤ
    pub small : nat_abs (R c.symbol.id 0) ≤ 2 ^ 30
    pub quotient : Quotient c.ratio (R c.symbol.id 0) (neg_ℤ (R c.symbol.id e))

  abbrev pub cand : Basic → Candidate
  cand b = record { symbol = b.symbol; ratio = neg b.row.constant /₆₄ coefficient_for e xs b.row.cells }

-- ---- what the walk over the rows found
module _ (kind : ℕ → KindZ) (cut : Float) (xs : List Symbol) (bs : List Basic) (cs : List Float) (art : Option Row) (B : Mask) (R : ℕ → Vec) (o a : Vec) (H : ReadsTable kind cut xs bs cs art B R o a) (e : ℕ) (e≢0 : e ≢ 0) where
  pub record Before (l j : ℕ) : Type 0 where
    pub least : R l 0 *ℤ neg_ℤ (R j e) ≼ R j 0 *ℤ neg_ℤ (R l e)
    pub ties : R l 0 *ℤ neg_ℤ (R j e) ≡ R j 0 *ℤ neg_ℤ (R l e) → l ≤ j

  pub record Leaves (l : Symbol) : Type 0 where
    pub live : Live kind xs l
    pub restricted : is_restricted l ≡ true
    pub basic : B l.id ≡ true
    pub cell : R l.id e ≺ 0ℤ
    pub before : R l.id e ≡ negsuc 0 → (j : ℕ) → B j ≡ true → kind j ≡ slack → R j e ≺ 0ℤ → Before l.id j

  abbrev pub Leaving : Option Symbol → Type 0
  Leaving none = (j : ℕ) → B j ≡ true → kind j ≡ slack → R j e ≺ 0ℤ → ⊥
  Leaving (some l) = Leaves l
