-- The six forms of a constraint, in numbers: e is its expression's value, s its marker's and t its other symbol's. Assumes nothing.
use Rattle.std.specs.Prelude.{◌≡◌, refl, [], ◌∷◌, zero, suc, Bool, true, false, ℤ, pos, negsuc, neg_ℤ, ◌+ℤ◌, ◌-ℤ◌}
use Rattle.std.proofs.Common.{ap, ◌∙◌, arith}
use Rattle.laws.specs.Z.{◌≼◌, le→N, N→le, at, ◌⊕◌, ⊖◌, ◌⊝◌, eq_z, le_z↑, eq_n}
use Rattle.laws.specs.Ring.{ring, v, k, ◌⊞◌, ⊟◌, ◌⊟⊟◌}
use Rattle.simplex.specs.Ord.{0ℤ, ≼_refl, neg-nonneg}

-- at most, equal, at least zero: required (!) or with a strength
pub data Form : Type 0 where
  le! eq! ge! le eq ge : Form

-- has a second symbol
abbrev pub soft : Form → Bool
soft le! = false
soft eq! = false
soft ge! = false
soft le = true
soft eq = true
soft ge = true

-- Add's step 2: the row, which is to be 0
abbrev pub resid : Form → ℤ → ℤ → ℤ → ℤ
resid le! e s t = e +ℤ s
resid eq! e s t = e +ℤ s
resid ge! e s t = e -ℤ s
resid le e s t = e +ℤ s -ℤ t
resid eq e s t = e -ℤ s +ℤ t
resid ge e s t = e -ℤ s +ℤ t

-- what the symbols add to the objective, for each unit of strength
abbrev pub cost : Form → ℤ → ℤ → ℤ
cost le! s t = 0ℤ
cost eq! s t = 0ℤ
cost ge! s t = 0ℤ
cost le s t = t
cost eq s t = s +ℤ t
cost ge s t = t

-- the part above zero
abbrev pub relu : ℤ → ℤ
relu (pos n) = pos n
relu (negsuc n) = 0ℤ

-- the error: max(0, e), |e|, max(0, -e)
abbrev pub viol : Form → ℤ → ℤ
viol le! e = 0ℤ
viol eq! e = 0ℤ
viol ge! e = 0ℤ
viol le e = relu e
viol eq e = relu e +ℤ relu (neg_ℤ e)
viol ge e = relu (neg_ℤ e)

abbrev pub Holds : Form → ℤ → Type 0
Holds le! e = e ≼ 0ℤ
Holds eq! e = e ≡ 0ℤ
Holds ge! e = 0ℤ ≼ e
Holds le e = Unit
Holds eq e = Unit
Holds ge e = Unit

-- the least values of the two symbols
abbrev pub fit-s : Form → ℤ → ℤ
fit-s le! e = neg_ℤ e
fit-s eq! e = 0ℤ
fit-s ge! e = e
fit-s le e = relu (neg_ℤ e)
fit-s eq e = relu e
fit-s ge e = relu e

abbrev pub fit-t : Form → ℤ → ℤ
fit-t le! e = 0ℤ
fit-t eq! e = 0ℤ
fit-t ge! e = 0ℤ
fit-t le e = relu e
fit-t eq e = relu (neg_ℤ e)
fit-t ge e = relu (neg_ℤ e)

-- ---- the part above zero
relu-split : (e : ℤ) → e ≡ relu e -ℤ relu (neg_ℤ e)
relu-split (pos zero) = refl
relu-split (pos (suc n)) = eq_z (at (pos (suc n))) (at (pos (suc n)) ⊝ at 0ℤ) (omega arith)
relu-split (negsuc n) = eq_z (at (negsuc n)) (at 0ℤ ⊝ at (pos (suc n))) (omega arith)

pub relu-nonneg : (e : ℤ) → 0ℤ ≼ relu e
relu-nonneg (pos n) = N→le 0ℤ (pos n) (omega arith)
relu-nonneg (negsuc n) = ≼_refl 0ℤ

relu-least : (e t : ℤ) → e ≼ t → 0ℤ ≼ t → relu e ≼ t
relu-least (pos n) t h q = h
relu-least (negsuc n) t h q = q

-- ---- the fit
pub fit-resid : (f : Form) (e : ℤ) → Holds f e → resid f e (fit-s f e) (fit-t f e) ≡ 0ℤ
fit-resid le! e h = ring (e ∷ []) (v 0 ⊞ ⊟ v 0) (k 0ℤ) tt
fit-resid eq! e h = ap (λ z. z +ℤ 0ℤ) h
fit-resid ge! e h = ring (e ∷ []) (v 0 ⊟⊟ v 0) (k 0ℤ) tt
fit-resid le e h = ap (λ z. z +ℤ relu (neg_ℤ e) -ℤ relu e) (relu-split e) ∙ ring (relu e ∷ relu (neg_ℤ e) ∷ []) (v 0 ⊟⊟ v 1 ⊞ v 1 ⊟⊟ v 0) (k 0ℤ) tt
fit-resid eq e h = ap (λ z. z -ℤ relu e +ℤ relu (neg_ℤ e)) (relu-split e) ∙ ring (relu e ∷ relu (neg_ℤ e) ∷ []) (v 0 ⊟⊟ v 1 ⊟⊟ v 0 ⊞ v 1) (k 0ℤ) tt
fit-resid ge e h = ap (λ z. z -ℤ relu e +ℤ relu (neg_ℤ e)) (relu-split e) ∙ ring (relu e ∷ relu (neg_ℤ e) ∷ []) (v 0 ⊟⊟ v 1 ⊟⊟ v 0 ⊞ v 1) (k 0ℤ) tt

pub fit-s-nonneg : (f : Form) (e : ℤ) → Holds f e → 0ℤ ≼ fit-s f e
fit-s-nonneg le! e h = neg-nonneg h
fit-s-nonneg eq! e h = ≼_refl 0ℤ
fit-s-nonneg ge! e h = h
fit-s-nonneg le e h = relu-nonneg (neg_ℤ e)
fit-s-nonneg eq e h = relu-nonneg e
fit-s-nonneg ge e h = relu-nonneg e

pub fit-t-nonneg : (f : Form) (e : ℤ) → 0ℤ ≼ fit-t f e
fit-t-nonneg le! e = ≼_refl 0ℤ
fit-t-nonneg eq! e = ≼_refl 0ℤ
fit-t-nonneg ge! e = ≼_refl 0ℤ
fit-t-nonneg le e = relu-nonneg e
fit-t-nonneg eq e = relu-nonneg (neg_ℤ e)
fit-t-nonneg ge e = relu-nonneg (neg_ℤ e)

pub fit-cost : (f : Form) (e : ℤ) → cost f (fit-s f e) (fit-t f e) ≡ viol f e
fit-cost le! e = refl
fit-cost eq! e = refl
fit-cost ge! e = refl
fit-cost le e = refl
fit-cost eq e = refl
fit-cost ge e = refl

-- ---- any other values cost at least the error
module _ (e s t : ℤ) (hs : 0ℤ ≼ s) (ht : 0ℤ ≼ t) where
  up : e +ℤ s -ℤ t ≡ 0ℤ → e ≼ t
  up h = le_z↑ (at e) (at t) (omega (arith, eq_n (at e ⊕ at s ⊝ at t) (at 0ℤ) h, le→N 0ℤ s hs))

  up' : e -ℤ s +ℤ t ≡ 0ℤ → e ≼ s
  up' h = le_z↑ (at e) (at s) (omega (arith, eq_n (at e ⊝ at s ⊕ at t) (at 0ℤ) h, le→N 0ℤ t ht))

  down : e -ℤ s +ℤ t ≡ 0ℤ → neg_ℤ e ≼ t
  down h = le_z↑ (⊖ at e) (at t) (omega (arith, eq_n (at e ⊝ at s ⊕ at t) (at 0ℤ) h, le→N 0ℤ s hs))

pub add-mono : {a b c d : ℤ} → a ≼ b → c ≼ d → a +ℤ c ≼ b +ℤ d
add-mono {a} {b} {c} {d} h q = le_z↑ (at a ⊕ at c) (at b ⊕ at d) (omega (arith, le→N a b h, le→N c d q))

pub viol-least : (f : Form) (e s t : ℤ) → 0ℤ ≼ s → (soft f ≡ true → 0ℤ ≼ t) → resid f e s t ≡ 0ℤ → viol f e ≼ cost f s t
viol-least le! e s t hs ht h = ≼_refl 0ℤ
viol-least eq! e s t hs ht h = ≼_refl 0ℤ
viol-least ge! e s t hs ht h = ≼_refl 0ℤ
viol-least le e s t hs ht h = relu-least e t (up e s t hs (ht refl) h) (ht refl)
viol-least eq e s t hs ht h = add-mono (relu-least e s (up' e s t hs (ht refl) h) hs) (relu-least (neg_ℤ e) t (down e s t hs (ht refl) h) (ht refl))
viol-least ge e s t hs ht h = relu-least (neg_ℤ e) t (down e s t hs (ht refl) h) (ht refl)

-- and a required constraint holds
pub holds : (f : Form) (e s t : ℤ) → 0ℤ ≼ s → (f ≡ eq! → s ≡ 0ℤ) → resid f e s t ≡ 0ℤ → Holds f e
holds le! e s t hs d h = le_z↑ (at e) (at 0ℤ) (omega (arith, eq_n (at e ⊕ at s) (at 0ℤ) h, le→N 0ℤ s hs))
holds eq! e s t hs d h = eq_z (at e) (at 0ℤ) (omega (arith, eq_n (at e ⊕ at s) (at 0ℤ) h, eq_n (at s) (at 0ℤ) (d refl)))
holds ge! e s t hs d h = le_z↑ (at 0ℤ) (at e) (omega (arith, eq_n (at e ⊝ at s) (at 0ℤ) h, le→N 0ℤ s hs))
holds le e s t hs d h = tt
holds eq e s t hs d h = tt
holds ge e s t hs d h = tt
