-- An optimise pass as a computed rule: what it looks for, what that is when it is found, and the states that it goes through.
use Rattle.std.specs.Prelude.{◌≡◌, List, Bool, true, false, ◌&&◌, ℤ, negsuc, ◌*ℤ◌}
use Rattle.std.proofs.Math.Path.{refl, subst}
use Rattle.std.proofs.Common.{sym, true≢false}
use Prim.Native.Nat.{ℕ, zero, suc, ◌≤◌, ◌<◌}
use Rattle.std.proofs.Math.Dec.{T}
use Rattle.std.proofs.Math.IntN.{neg_ℤ}
use Rattle.std.specs.Int.Signed.{lt_z, lt_z_yes}
use Rattle.laws.specs.Z.{◌≼◌, ◌≺◌}
use Rattle.simplex.specs.Ord.{0ℤ, neg-pos}
use Rattle.simplex.specs.Opt.{Kind, const, external, slack, dummy}
use Rattle.simplex.specs.Pass.{State, step}
use Rattle.simplex.specs.Bound.{Mem}
use Rattle.simplex.specs.Search.{Found, nothing, found, first, smallest}

-- a symbol that is no dummy; a symbol that is no variable
unfoldable pub may_enter : Kind → Bool
may_enter const = false
may_enter external = true
may_enter slack = true
may_enter dummy = false

unfoldable pub restricted : Kind → Bool
restricted const = false
restricted external = false
restricted slack = true
restricted dummy = true

pub both : (a b : Bool) → a && b ≡ true → (a ≡ true) × (b ≡ true)
both true b e = (refl, e)
both false b e = absurd (true≢false (sym e))

pub below : (z : ℤ) → lt_z z 0ℤ ≡ true → z ≺ 0ℤ
below z e = lt_z_yes (subst T (sym e) tt)

-- the tests of the two walks
module _ (kind : ℕ → Kind) (S : State) where
  unfoldable pub cheap : ℕ → Bool
  cheap j = may_enter (kind j) && lt_z (S.o j) 0ℤ

  unfoldable pub loose : ℕ → ℕ → Bool
  loose e j = restricted (kind j) && (S.B j && lt_z (S.R j e) 0ℤ)

  pub loose-above : (e j : ℕ) → loose e j ≡ true → 0ℤ ≺ neg_ℤ (S.R j e)
  unfolding loose
  loose-above e j h = neg-pos (below (S.R j e) (both (S.B j) (lt_z (S.R j e) 0ℤ) (both (restricted (kind j)) (S.B j && lt_z (S.R j e) 0ℤ) h).1).1)

pub data Look : Type 0 where
  done : Look
  no_row : ℕ → Look
  go_on : (l e : ℕ) → Look

unfoldable pub found-row : ℕ → Found → Look
found-row e nothing = no_row e
found-row e (found l) = go_on l e

module _ (kind : ℕ → Kind) (ids : List ℕ) where
  unfoldable pub row-for : State → Found → Look
  row-for S nothing = done
  row-for S (found e) = found-row e (smallest (loose kind S e) (λ j. S.R j 0) (λ j. neg_ℤ (S.R j e)) (loose-above kind S e) ids)

  unfoldable pub look : State → Look
  look S = row-for S (first (cheap kind S) ids)

  -- what the walks found
  pub record Entering (S : State) (e : ℕ) : Type 0 where
    pub listed : Mem e ids
    pub is-slack : kind e ≡ slack
    pub cell : S.o e ≺ 0ℤ
    pub lowest : (j : ℕ) → j < e → kind j ≡ slack → 0ℤ ≼ S.o j

  pub record Leaving (S : State) (e l : ℕ) : Type 0 where
    pub basic : S.B l ≡ true
    pub is-slack : kind l ≡ slack
    pub cell : S.R l e ≺ 0ℤ
    pub least : (j : ℕ) → S.B j ≡ true → kind j ≡ slack → S.R j e ≺ 0ℤ → S.R l 0 *ℤ neg_ℤ (S.R j e) ≼ S.R j 0 *ℤ neg_ℤ (S.R l e)
    pub ties : (j : ℕ) → S.B j ≡ true → kind j ≡ slack → S.R j e ≺ 0ℤ → S.R l 0 *ℤ neg_ℤ (S.R j e) ≡ S.R j 0 *ℤ neg_ℤ (S.R l e) → l ≤ j

  pub data Looked (S : State) : Look → Type 0 where
    at_rest : ((j : ℕ) → kind j ≡ slack → 0ℤ ≼ S.o j) → Looked S done
    rowless : (e : ℕ) → Entering S e → ((j : ℕ) → S.B j ≡ true → kind j ≡ slack → 0ℤ ≼ S.R j e) → Looked S (no_row e)
    chosen : (l e : ℕ) → Entering S e → Leaving S e l → Looked S (go_on l e)

-- ---- a pass, as states: while the look finds a pivot it is made
unfoldable pub next : (ℕ → Kind) → List ℕ → State → Look → State
next kind ids S done = S
next kind ids S (no_row e) = S
next kind ids S (go_on l e) = step l e S

unfoldable pub after : (ℕ → Kind) → List ℕ → State → ℕ → State
after kind ids S zero = S
after kind ids S (suc i) = let T = after kind ids S i in next kind ids T (look kind ids T)

unfoldable pub lv : Look → ℕ
lv done = 0
lv (no_row e) = 0
lv (go_on l e) = l

unfoldable pub ev : Look → ℕ
ev done = 0
ev (no_row e) = 0
ev (go_on l e) = e

-- the look finds a pivot, on -1
abbrev pub Pivots : State → Look → Type 0
Pivots S done = ⊥
Pivots S (no_row e) = ⊥
Pivots S (go_on l e) = S.R l e ≡ negsuc 0
