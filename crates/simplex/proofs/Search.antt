-- The walks of an optimise pass, by ascending column: the first cell below 0, and the smallest ratio x / a, the earlier column on a tie. Assumes nothing.
use Rattle.std.specs.Prelude.{◌≡◌, ◌⊎◌, ℕ, ◌≤◌, ◌<◌, Bool, not, ◌&&◌, ℤ, neg_ℤ, ◌+ℤ◌, ◌-ℤ◌, ◌*ℤ◌}
use Rattle.std.proofs.Math.Path.{refl, subst}
use Rattle.std.proofs.Common.{sym, ap, ap₂, ◌∙◌, inl, inr, arith, true≢false}
use mathlib.Core.List.{List, [], ◌∷◌}
use Rattle.std.proofs.Math.Nat.{le_refl}
use Rattle.std.proofs.Math.Bool.{true, false, cond}
use Rattle.std.proofs.Math.Dec.{T}
use Rattle.std.specs.Int.Signed.{lt_z, lt_z_yes, lt_z_no}
use Rattle.laws.specs.Z.{◌≼◌, ◌≺◌, at, ◌⊕◌, ⊖◌, ◌⊝◌, le_z↑, lt_z↑, le_n, lt_n, eq_n, le→N, lt→N}
use Rattle.laws.specs.Ring.{ring, v, ◌⊞◌, ◌⊠◌, ⊟◌, ◌⊟⊟◌}
use Rattle.simplex.specs.Ord.{0ℤ, ≼_refl, ≼-of-eq, ≼_trans, ≺→≼, ≼-or-≺, ≺-or-≼, ≺-irrefl, mul-nonneg, mul-pos, add-nonneg, sub-nonneg, neg-pos, neg-nonneg}
use Rattle.simplex.specs.Lin.{Vec}
use Rattle.simplex.specs.Choose.{All}
use Rattle.simplex.specs.Search.{Found, first, Asc, First, found, nobody, winner}
use Rattle.simplex.specs.Search as specs

-- ---- ratios x / a by cross multiplication, the a above 0
flip : (z b : ℤ) → neg_ℤ z *ℤ b ≡ neg_ℤ (z *ℤ b)
flip z b = ring (z ∷ b ∷ []) ((⊟ v 0) ⊠ v 1) (⊟ (v 0 ⊠ v 1)) tt

cancel-le : (z b : ℤ) → 0ℤ ≺ b → 0ℤ ≼ z *ℤ b → 0ℤ ≼ z
cancel-le z b h q = go (≺-or-≼ z 0ℤ)
  where
    go : (z ≺ 0ℤ) ⊎ (0ℤ ≼ z) → 0ℤ ≼ z
    go (inr y) = y
    go (inl y) = absurd (omega (arith, lt→N 0ℤ (neg_ℤ z *ℤ b) (mul-pos (neg-pos y) h), le→N 0ℤ (z *ℤ b) q, eq_n (at (neg_ℤ z *ℤ b)) (⊖ at (z *ℤ b)) (flip z b)))

cancel-lt : (z b : ℤ) → 0ℤ ≺ b → 0ℤ ≺ z *ℤ b → 0ℤ ≺ z
cancel-lt z b h q = go (≺-or-≼ 0ℤ z)
  where
    go : (0ℤ ≺ z) ⊎ (z ≼ 0ℤ) → 0ℤ ≺ z
    go (inl y) = y
    go (inr y) = absurd (omega (arith, le→N 0ℤ (neg_ℤ z *ℤ b) (mul-nonneg (neg-nonneg y) (≺→≼ h)), lt→N 0ℤ (z *ℤ b) q, eq_n (at (neg_ℤ z *ℤ b)) (⊖ at (z *ℤ b)) (flip z b)))

diff-pos : {a b : ℤ} → a ≺ b → 0ℤ ≺ b -ℤ a
diff-pos {a} {b} h = lt_z↑ (at 0ℤ) (at b ⊝ at a) (omega (arith, lt→N a b h))

from-diff : {a b : ℤ} → 0ℤ ≼ b -ℤ a → a ≼ b
from-diff {a} {b} h = le_z↑ (at a) (at b) (omega (arith, le_n (at 0ℤ) (at b ⊝ at a) h))

from-diff-lt : {a b : ℤ} → 0ℤ ≺ b -ℤ a → a ≺ b
from-diff-lt {a} {b} h = lt_z↑ (at a) (at b) (omega (arith, lt_n (at 0ℤ) (at b ⊝ at a) h))

add-pos-l : {a b : ℤ} → 0ℤ ≺ a → 0ℤ ≼ b → 0ℤ ≺ a +ℤ b
add-pos-l {a} {b} h q = lt_z↑ (at 0ℤ) (at a ⊕ at b) (omega (arith, lt→N 0ℤ a h, le→N 0ℤ b q))

add-pos-r : {a b : ℤ} → 0ℤ ≼ a → 0ℤ ≺ b → 0ℤ ≺ a +ℤ b
add-pos-r {a} {b} h q = lt_z↑ (at 0ℤ) (at a ⊕ at b) (omega (arith, le→N 0ℤ a h, lt→N 0ℤ b q))

module _ (x₁ a₁ x₂ a₂ x₃ a₃ : ℤ) (p₁ : 0ℤ ≺ a₁) (p₂ : 0ℤ ≺ a₂) (p₃ : 0ℤ ≺ a₃) where
  -- the middle denominator goes
  mid : a₁ *ℤ (x₃ *ℤ a₂ -ℤ x₂ *ℤ a₃) +ℤ a₃ *ℤ (x₂ *ℤ a₁ -ℤ x₁ *ℤ a₂) ≡ (x₃ *ℤ a₁ -ℤ x₁ *ℤ a₃) *ℤ a₂
  mid =
      ring (x₁ ∷ a₁ ∷ x₂ ∷ a₂ ∷ x₃ ∷ a₃ ∷ []) (v 1 ⊠ (v 4 ⊠ v 3 ⊟⊟ v 2 ⊠ v 5) ⊞ v 5 ⊠ (v 2 ⊠ v 1 ⊟⊟ v 0 ⊠ v 3)) ((v 4 ⊠ v 1 ⊟⊟ v 0 ⊠ v 5) ⊠ v 3) tt

  le-le : x₁ *ℤ a₂ ≼ x₂ *ℤ a₁ → x₂ *ℤ a₃ ≼ x₃ *ℤ a₂ → x₁ *ℤ a₃ ≼ x₃ *ℤ a₁
  le-le h q = from-diff (cancel-le (x₃ *ℤ a₁ -ℤ x₁ *ℤ a₃) a₂ p₂ (≼_trans (add-nonneg (mul-nonneg (≺→≼ p₁) (sub-nonneg q)) (mul-nonneg (≺→≼ p₃) (sub-nonneg h))) (≼-of-eq mid)))

  le-lt : x₁ *ℤ a₂ ≼ x₂ *ℤ a₁ → x₂ *ℤ a₃ ≺ x₃ *ℤ a₂ → x₁ *ℤ a₃ ≺ x₃ *ℤ a₁
  le-lt h q = from-diff-lt (cancel-lt (x₃ *ℤ a₁ -ℤ x₁ *ℤ a₃) a₂ p₂ (subst (λ z. 0ℤ ≺ z) mid (add-pos-l (mul-pos p₁ (diff-pos q)) (mul-nonneg (≺→≼ p₃) (sub-nonneg h)))))

  lt-le : x₁ *ℤ a₂ ≺ x₂ *ℤ a₁ → x₂ *ℤ a₃ ≼ x₃ *ℤ a₂ → x₁ *ℤ a₃ ≺ x₃ *ℤ a₁
  lt-le h q = from-diff-lt (cancel-lt (x₃ *ℤ a₁ -ℤ x₁ *ℤ a₃) a₂ p₂ (subst (λ z. 0ℤ ≺ z) mid (add-pos-r (mul-nonneg (≺→≼ p₁) (sub-nonneg q)) (mul-pos p₃ (diff-pos h)))))

module _ (cand : ℕ → Bool) (x a : Vec) (above : (j : ℕ) → cand j ≡ true → 0ℤ ≺ a j) where
  abbrev walk : ℕ → List ℕ → ℕ
  walk = specs.walk cand x a above

  abbrev Beats : (l j : ℕ) → Type 0
  Beats = specs.Beats cand x a above

  abbrev smallest : List ℕ → Found
  smallest = specs.smallest cand x a above

  abbrev Smallest : (ids : List ℕ) → Found → Type 0
  Smallest = specs.Smallest cand x a above

  record Won (l : ℕ) (ys : List ℕ) (r : ℕ) : Type 0 where
    is : cand r ≡ true
    over : Beats r l
    all : All (λ j. cand j ≡ true → Beats r j) ys

  take : (l y : ℕ) (ys : List ℕ) (r : ℕ) → cand l ≡ true → cand y ≡ true → x y *ℤ a l ≺ x l *ℤ a y → Won y ys r → Won l (y ∷ ys) r
  take l y ys r cl cy h W = record {
    is = W.is;
    over = record { least = ≺→≼ strict; ties = λ e. absurd (≺-irrefl (subst (λ z. z ≺ x l *ℤ a r) e strict)) };
    all = ((λ _. W.over), W.all);
  }
    where
      strict : x r *ℤ a l ≺ x l *ℤ a r
      strict = le-lt (x r) (a r) (x y) (a y) (x l) (a l) (above r W.is) (above y cy) (above l cl) W.over.least h

  keep : (l y : ℕ) (ys : List ℕ) (r : ℕ) → cand l ≡ true → l < y → x l *ℤ a y ≼ x y *ℤ a l → Won l ys r → Won l (y ∷ ys) r
  keep l y ys r cl lt h W = record { is = W.is; over = W.over; all = (beats, W.all) }
    where
      beats : cand y ≡ true → Beats r y
      beats cy = record { least = le-le (x r) (a r) (x l) (a l) (x y) (a y) (above r W.is) (above l cl) (above y cy) W.over.least h; ties = λ e. go e (≼-or-≺ W.over.least) }
        where
          go : x r *ℤ a y ≡ x y *ℤ a r → (x r *ℤ a l ≡ x l *ℤ a r) ⊎ (x r *ℤ a l ≺ x l *ℤ a r) → r ≤ y
          go e (inl q) = omega (arith, W.over.ties q)
          go e (inr q) = absurd (≺-irrefl (subst (λ z. z ≺ x y *ℤ a r) e (lt-le (x r) (a r) (x l) (a l) (x y) (a y) (above r W.is) (above l cl) (above y cy) q h)))

  walked : (l : ℕ) (ys : List ℕ) → cand l ≡ true → All (λ z. l < z) ys → Asc ys → Won l ys (walk l ys)
  unfolding specs.walk Asc
  walked l [] c up asc = record { is = c; over = record { least = ≼_refl (x l *ℤ a l); ties = λ _. le_refl l }; all = tt }
  walked l (y ∷ ys) c up asc = go (cand y) refl (lt_z (x y *ℤ a l) (x l *ℤ a y)) refl (λ e. walked y ys e asc.0 asc.1) (walked l ys c up.1 asc.1)
    where
      go : (b : Bool) → cand y ≡ b → (t : Bool) → lt_z (x y *ℤ a l) (x l *ℤ a y) ≡ t
          → (cand y ≡ true → Won y ys (walk y ys)) → Won l ys (walk l ys)
          → Won l (y ∷ ys) (cond (cand y && lt_z (x y *ℤ a l) (x l *ℤ a y)) (walk y ys) (walk l ys))
      go true e true t new old = subst (Won l (y ∷ ys)) (sym (ap₂ (λ (p q : Bool). cond (p && q) (walk y ys) (walk l ys)) e t)) (take l y ys (walk y ys) c e (lt_z_yes (subst T (sym t) tt)) (new e))
      go true e false t new old = subst (Won l (y ∷ ys)) (sym (ap₂ (λ (p q : Bool). cond (p && q) (walk y ys) (walk l ys)) e t)) (keep l y ys (walk l ys) c up.0 (lt_z_no (subst (λ (z : Bool). T (not z)) (sym t) tt)) old)
      go false e t' t new old =
          subst (Won l (y ∷ ys)) (sym (ap (λ (p : Bool). cond (p && lt_z (x y *ℤ a l) (x l *ℤ a y)) (walk y ys) (walk l ys)) e))
          (record { is = old.is; over = old.over; all = ((λ cy. absurd (true≢false (sym cy ∙ e))), old.all) })

  pub smallest-is : (ids : List ℕ) → Asc ids → Smallest ids (smallest ids)
  unfolding specs.smallest Asc
  smallest-is [] asc = nobody tt
  smallest-is (y ∷ ys) asc = go (cand y) refl (smallest ys) (smallest-is ys asc.1)
    where
      go : (b : Bool) → cand y ≡ b → (f : Found) → Smallest ys f → Smallest (y ∷ ys) (cond (cand y) (found (walk y ys)) f)
      go true e f h = let W = walked y ys e asc.0 asc.1 in subst (λ (p : Bool). Smallest (y ∷ ys) (cond p (found (walk y ys)) f)) (sym e) (winner (walk y ys) W.is ((λ _. W.over), W.all))
      go false e f h = subst (λ (p : Bool). Smallest (y ∷ ys) (cond p (found (walk y ys)) f)) (sym e) (more f h)
        where
          more : (f : Found) → Smallest ys f → Smallest (y ∷ ys) f
          more f (nobody A) = nobody (e, A)
          more f (winner r c A) = winner r c ((λ cy. absurd (true≢false (sym cy ∙ e))), A)

pub first-is : (c : ℕ → Bool) (ids : List ℕ) → Asc ids → First c ids (first c ids)
unfolding first Asc
first-is c [] asc = nobody tt
first-is c (y ∷ ys) asc = go (c y) refl (first c ys) (first-is c ys asc.1)
  where
    later : (ys : List ℕ) → All (λ z. y < z) ys → All (λ j. j < y → c j ≡ false) ys
    later [] h = tt
    later (z ∷ zs) h = ((λ l. absurd (omega (arith, h.0))), later zs h.1)

    more : c y ≡ false → (f : Found) → First c ys f → First c (y ∷ ys) f
    more e f (nobody A) = nobody (e, A)
    more e f (winner r q A) = winner r q ((λ _. e), A)

    go : (b : Bool) → c y ≡ b → (f : Found) → First c ys f → First c (y ∷ ys) (cond (c y) (found y) f)
    go true e f h = subst (λ (p : Bool). First c (y ∷ ys) (cond p (found y) f)) (sym e) (winner y e ((λ l. absurd (omega arith)), later ys asc.0))
    go false e f h = subst (λ (p : Bool). First c (y ∷ ys) (cond p (found y) f)) (sym e) (more e f h)
