-- The steps' ratio test on floats that have ranks: which candidate is chosen before another, and which is the smallest (X6).
use Rattle.std.specs.Prelude.{◌≡◌, ◌⊎◌, List, [], ◌∷◌, ◌≤◌, ◌<◌, false, ℤ}
use Rattle.std.proofs.Math.Option.{Option, none, some}
use Rattle.std.specs.Float.Ieee.{lt}
use Rattle.steps.specs.Symbol.{Symbol}
use Rattle.steps.specs.Optimise.{Candidate}
use Rattle.simplex.specs.Choose.{All}
use Rattle.simplex.specs.bridge.Quot.{Over}

-- a candidate whose ratio has a rank
pub record Ranked (c : Candidate) : Type 0 where
  pub rank : ℤ
  pub over : Over c.ratio rank

-- w is chosen before c
pub record Beats (w c : Candidate) : Type 0 where
  pub least : lt c.ratio w.ratio ≡ false
  pub ties : lt w.ratio c.ratio ≡ false → w.symbol.id ≤ c.symbol.id

-- by ascending id
abbrev pub Rising : List Candidate → Type 0
Rising [] = Unit
Rising (c ∷ cs) = All (λ (d : Candidate). c.symbol.id < d.symbol.id) cs × Rising cs

abbrev pub MemC : Candidate → List Candidate → Type 0
MemC w [] = ⊥
MemC w (c ∷ cs) = (w ≡ c) ⊎ MemC w cs

pub data Smallest (cs : List Candidate) : Option Symbol → Type 0 where
  nobody : cs ≡ [] → Smallest cs none
  winner : (w : Candidate) → MemC w cs → Ranked w → All (Beats w) cs → Smallest cs (some w.symbol)
