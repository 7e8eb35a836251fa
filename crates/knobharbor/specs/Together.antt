-- Five references, each lent by itself, and the same five as one: what a call says of the one is said of each. Assumes nothing.
use Rattle.std.specs.Prelude.{◌≡◌, ℕ, List, Float}
use base.Fml.{GName}
use Rattle.steps.specs.State.{State}
use Rattle.steps.specs.Calls.{Result}
use Rattle.sparse.specs.Sparse.{Sparse}
use Rattle.sparse.specs.Tables.{held}
use Rattle.sparse.specs.declared.tables.TablesMut.{TablesMut}
use Rattle.waist.specs.Working.{sparse}
use Rattle.lending.specs.sparse_copy.Over.{cleared}
use Rattle.lending.specs.Lending.{Called}
use Rattle.knobharbor.specs.Places.{placed, placed_by}
use Rattle.knobharbor.specs.Held.{HeldBy}

-- each is that one, so that what is written through the struct is read through it
abbrev pub Named : GName → GName → GName → GName → GName → TablesMut → Type 0
Named w k b r v t = (t.words.ghost_name ≡ w) × (t.keys.ghost_name ≡ k) × (t.bytes.ghost_name ≡ b) × (t.reals.ghost_name ≡ r) × (t.values.ghost_name ≡ v)

-- what is said of the room and the tables as one each is said of them as they were lent
pub of_both : (P : Sparse → Sparse → Type 0) {l m x y : Sparse} → l ≡ x → m ≡ y → P l m → P x y
of_both P p q h = rw (← p, ← q) h

-- ---- what the five hold once the call is over

module _ {w k b : List ℕ} {r v : List Float} (u : TablesMut) (e : (w ≡ u.words.now) × (k ≡ u.keys.now) × (b ≡ u.bytes.now) × (r ≡ u.reals.now) × (v ≡ u.values.now)) where
  pub back : (P : Sparse → Type 0) → P (held u) → P (sparse w k b r v)
  back P p = rw (e.0, e.1, e.2, e.3, e.4) p

  -- f of the room x and the tables y, as they were lent
  pub put-back : (f : Sparse → Sparse → Called) {a : List ℕ} {x y l m : Sparse} → l ≡ x → m ≡ y → placed a (held u) ≡ placed_by (f l m) → placed a (sparse w k b r v) ≡ placed_by (f x y)
  put-back f {a} {x} {y} p q h = back (λ t. placed a t ≡ placed_by (f x y)) (rw (← p, ← q) h)

  pub cleared-back : {x l : Sparse} → l ≡ x → held u ≡ cleared l → sparse w k b r v ≡ cleared x
  cleared-back {x} p h = back (λ t. t ≡ cleared x) (rw (← p) h)

  pub held-back : {f : State → Result} {a : List ℕ} {x l : Sparse} → l ≡ x → HeldBy f a l (held u) → HeldBy f a x (sparse w k b r v)
  held-back {f} {a} {x} p h = back (λ t. HeldBy f a x t) (rw (← p) h)
