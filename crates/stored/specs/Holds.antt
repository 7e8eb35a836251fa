-- Which records tables can hold: each tag symbol is live in them as the same symbol, and each variable is known by its number. What a map makes of a name.
-- Assumes nothing.
use Prim.Native.Nat.{ℕ, zero, suc, ◌+◌, ◌≤◌, ◌<◌}
use Rattle.std.specs.Prelude.{◌≡◌, refl, List, length}
use Rattle.std.proofs.Common.{sym, ◌∙◌, inl, inr}
use Rattle.std.proofs.Math.Path.{ap}
use Rattle.std.proofs.Math.Bool.{false, cond}
use Rattle.std.proofs.Math.Option.{Option, none, some}
use native.Mathlib.Omega.{arith}
use Rattle.std.proofs.Math.Dec.{eqb}
use Rattle.std.proofs.Math.ListN.{get_or}
use borrow.Author.Tests.{ne_eqb}
use Rattle.laws.specs.Lists.{tab}
use Rattle.steps.specs.Symbol.{Symbol}
use Rattle.steps.specs.State.{Constraint, Edit}
use Rattle.keeps.specs.Along.{Mem}
use Rattle.sparse.specs.Places.{ids_at, variable_numbers_at, variable_places_at}
use Rattle.sparse.specs.Sparse.{Sparse, symbol_count, variable_count, symbol_at, other_at, number_at, symbols_of}
use Rattle.sparse.specs.Write.{no_term}
use Rattle.sparse.specs.Form.{index_at, index-named, At, Form}
use Rattle.stored.specs.Maps.{TagPlaces, VariablePlaces}
use Rattle.stored.specs.Beside.{Beside, Own, owner-number, owner-index, symbols-beside, variables-beside, symbol-beside, number-at, number-beside, index-beside}

-- the symbol stands at a live place
abbrev pub Lives : Sparse → Symbol → Type 0
Lives w x = (q : ℕ) × At w q × (symbol_at w q ≡ x)

abbrev pub LivesOther : Sparse → Option Symbol → Type 0
LivesOther w none = Unit {0}
LivesOther w (some x) = Lives w x

-- a variable has this number
abbrev pub Known : Sparse → ℕ → Type 0
Known w n = (v : ℕ) × (v < variable_count w) × (get_or w.words (variable_numbers_at + v) 0 ≡ n)

pub record HoldsC (w : Sparse) (c : Constraint) : Type 0 where
  pub marker : Lives w c.tag.marker
  pub other : LivesOther w c.tag.other
  pub terms : (j : ℕ) → j < length c.terms → Known w (get_or c.terms j no_term).variable

pub record HoldsE (w : Sparse) (e : Edit) : Type 0 where
  pub variable : Known w e.variable
  pub marker : Lives w e.tag.marker
  pub other : LivesOther w e.tag.other

-- ---- a live symbol's place

lives-in : (w : Sparse) (x : Symbol) (n i : ℕ) → 1 ≤ i → i + n ≤ 1 + symbol_count w → Mem x (tab (symbol_at w) i n) → Lives w x
unfolding tab
lives-in w x zero i a b m = absurd m
lives-in w x (suc n) i a b (inl e) = (i, (a, omega (arith, b)), sym e)
lives-in w x (suc n) i a b (inr m) = lives-in w x n (suc i) (omega arith) (omega (arith, b)) m

pub mem-lives : (w : Sparse) (x : Symbol) → Mem x (symbols_of w) → Lives w x
unfolding symbols_of
mem-lives w x m = lives-in w x (symbol_count w) 1 (omega arith) (omega arith) m

-- ---- names carried from t into u, which has w's names

module _ (t w u : Sparse) (form : Form t) (o : Own w) (b : Beside w u) where
  pub tag-carried : {tags : List ℕ} → TagPlaces t.words w.words tags → (p : ℕ) → At t p → Lives w (symbol_at t p) → At u (get_or tags p 0) × (symbol_at u (get_or tags p 0) ≡ symbol_at t p)
  unfolding symbol_at
  tag-carried {tags} m p l (q, a, e) =
      let i : get_or w.words (ids_at + q) 0 ≡ get_or t.words (ids_at + p) 0 = ap (λ (x : Symbol). x.id) e in
      let r = m.at p q l.0 l.1 a.0 a.1 i in
      rw r ((a.0, rw (symbols-beside w u o b) a.1), symbol-beside w u o b q a.1 ∙ e)

  pub other-carried : {tags : List ℕ} → TagPlaces t.words w.words tags → (p : ℕ) → p ≤ symbol_count t → LivesOther w (other_at t p) → (get_or tags p 0 ≤ symbol_count u) × (other_at u (get_or tags p 0) ≡ other_at t p)
  unfolding other_at
  other-carried m zero l h = rw m.none (omega arith, refl)
  other-carried {tags} m (suc p) l h =
      let z : eqb (suc p) 0 ≡ false = ne_eqb (suc p) 0 (λ y. omega (arith, y)) in
      let h' : Lives w (symbol_at t (suc p)) = rw z at h in
      let r = tag-carried m (suc p) (omega arith, l) h' in
      rw z (r.0.1, there (get_or tags (suc p) 0) r.0.0 r.1)
    where
      there : (x : ℕ) → 1 ≤ x → symbol_at u x ≡ symbol_at t (suc p) → cond (eqb x 0) none (some (symbol_at u x)) ≡ some (symbol_at t (suc p))
      there x a e = rw (ne_eqb x 0 (λ z. omega (arith, a, z))) (ap some e)

  -- the place of a known variable's symbol names it
  pub placed-known : (n x : ℕ) → ((j : ℕ) → j < variable_count w → get_or w.words (variable_numbers_at + j) 0 ≡ n → x ≡ get_or w.bytes (variable_places_at + j) 0) → Known w n → (index_at u x < variable_count u) × (number_at u x ≡ n)
  placed-known n x f (v, h, e) =
      let i = owner-index w o v h in
      rw (f v h e) (
        rw (index-beside w u o b (get_or w.bytes (variable_places_at + v) 0), i, variables-beside w u o b) h,
        number-beside w u o b (get_or w.bytes (variable_places_at + v) 0) ∙ owner-number w o v h ∙ e,
      )

  pub variable-carried : {vars : List ℕ} → VariablePlaces t.words t.bytes w.words w.bytes vars → (p : ℕ) → index_at t p < variable_count t → Known w (number_at t p) → (index_at u (get_or vars p 0) < variable_count u) × (number_at u (get_or vars p 0) ≡ number_at t p)
  variable-carried {vars} m p h k =
      let i = index-named t p h in
      placed-known (number_at t p) (get_or vars p 0) (λ j a e. ap (λ (x : ℕ). get_or vars x 0) (sym i.0) ∙ m.at (index_at t p) j h a (e ∙ i.1)) k

-- ---- the same names beside other records

module _ (w v : Sparse) (o : Own w) (b : Beside w v) where
  lives-beside : (x : Symbol) → Lives w x → Lives v x
  lives-beside x (q, a, e) = (q, (a.0, rw (symbols-beside w v o b) a.1), symbol-beside w v o b q a.1 ∙ e)

  other-lives : (x : Option Symbol) → LivesOther w x → LivesOther v x
  other-lives none h = h
  other-lives (some x) h = lives-beside x h

  known-beside : (n : ℕ) → Known w n → Known v n
  known-beside n (i, h, e) = (i, rw (variables-beside w v o b) h, number-at w v o b i h ∙ e)

  pub constraint-beside : (c : Constraint) → HoldsC w c → HoldsC v c
  constraint-beside c h = record { marker = lives-beside c.tag.marker h.marker; other = other-lives c.tag.other h.other; terms = λ j l. known-beside _ (h.terms j l) }

  pub edit-beside : (e : Edit) → HoldsE w e → HoldsE v e
  edit-beside e h = record { variable = known-beside _ h.variable; marker = lives-beside e.tag.marker h.marker; other = other-lives e.tag.other h.other }
