-- Elements that come down, and new ones pasted behind them: what stands where then.
-- Assumes nothing.
use Rattle.std.specs.Prelude.{ℕ, ◌+◌, ◌-◌, ◌≤◌, ◌<◌, ◌≡◌, refl, Bool, true, false, List, ltb, length, get_or}
use Rattle.std.proofs.Common.{sym, ap, ◌∙◌, subst, arith, ltb-true, ltb-false}
use Rattle.layout.specs.cells.Cells.{moved}
use Rattle.layout.specs.cells.Slide.{length_moved, moved_before, moved_in, moved-after}
use Rattle.waist.specs.merging.Merge.{pasted}
use Rattle.waist.specs.substituting.Pasted.{Stands, pasted-stands}

-- those from place s up to a come to place b on, and z new ones stand behind them
module _ {A : Type 0} (d : A) (b s a z : ℕ) (l new k₁ k₂ : List A) (bs : b ≤ s) (sa : s ≤ a) (al : a ≤ length l) (fit : b + (a - s) + z ≤ length l) (h₁ : k₁ ≡ moved s b (a - s) l) (h₂ : k₂ ≡ pasted d (b + (a - s)) z new k₁) where
  ends : (s + (a - s) ≤ length l) × (b + (a - s) ≤ length l)
  ends = (omega (arith, sa, al), omega (arith, fit))

  long₁ : length k₁ ≡ length l
  long₁ = ap length h₁ ∙ length_moved s b (a - s) l ends.0 ends.1

  stands : Stands d (b + (a - s)) new k₁ z k₂
  stands = subst (Stands d (b + (a - s)) new k₁ z) (sym h₂) (pasted-stands d (b + (a - s)) new k₁ z (let w = long₁ in omega (arith, w, fit)))

  pub came-long : length k₂ ≡ length l
  came-long = stands.long ∙ long₁

  came-front : (j : ℕ) → j < b → get_or k₂ j d ≡ get_or l j d
  came-front j u = stands.before j (omega (arith, u)) ∙ ap (λ (x : List A). get_or x j d) h₁ ∙ moved_before s b (a - s) l j d ends.0 ends.1 u

  came_down : (j : ℕ) → j < a - s → get_or k₂ (b + j) d ≡ get_or l (s + j) d
  came_down j u = stands.before (b + j) (omega (arith, u)) ∙ ap (λ (x : List A). get_or x (b + j) d) h₁ ∙ moved_in s b (a - s) l j d ends.0 ends.1 u

  pub stayed : (j : ℕ) → b + (a - s) + z ≤ j → get_or k₂ j d ≡ get_or l j d
  stayed j u = stands.after j u ∙ ap (λ (x : List A). get_or x j d) h₁ ∙ moved-after s b (a - s) l j d ends.0 ends.1 (omega (arith, u))

  -- beside a list t that had the same, and w, which is t with the new ones in place of those from a up to e
  module _ (e top : ℕ) (t w : List A) (ae : a ≤ e) (et : e ≤ top) (fits : b + (a - s) + z ≤ e) (front : (j : ℕ) → j < b → get_or l j d ≡ get_or t j d) (back : (j : ℕ) → s + j < top → get_or l (s + j) d ≡ get_or t (b + j) d)
      (lead : (j : ℕ) → j < b + (a - s) → get_or w j d ≡ get_or t j d) (fresh : (j : ℕ) → j < z → get_or w (b + (a - s) + j) d ≡ get_or new j d) (tail : (j : ℕ) → e + j < top → get_or w (b + (a - s) + z + j) d ≡ get_or t (b + (e - s) + j) d) where
    pub front-now : (j : ℕ) → j < b + (a - s) + z → get_or k₂ j d ≡ get_or w j d
    front-now j u = go (ltb j b) refl (ltb j (b + (a - s))) refl
      where
        go : (x : Bool) → ltb j b ≡ x → (y : Bool) → ltb j (b + (a - s)) ≡ y → get_or k₂ j d ≡ get_or w j d
        go true p y q =
            let v = ltb-true j b p in
            came-front j v ∙ front j v ∙ sym (lead j (omega (arith, v)))
        go false p true q =
            let v = ltb-false j b p in
            let x = ltb-true j (b + (a - s)) q in
            let o : b + (j - b) ≡ j = omega (arith, v) in
            subst (λ (n : ℕ). get_or k₂ n d ≡ get_or w n d) o (came_down (j - b) (omega (arith, v, x)) ∙ back (j - b) (omega (arith, v, x, ae, et)) ∙ sym (lead (b + (j - b)) (omega (arith, v, x))))
        go false p false q =
            let v = ltb-false j (b + (a - s)) q in
            let o : b + (a - s) + (j - (b + (a - s))) ≡ j = omega (arith, v) in
            let x : j - (b + (a - s)) < z = omega (arith, u, v) in
            subst (λ (n : ℕ). get_or k₂ n d ≡ get_or w n d) o (stands.inside (j - (b + (a - s))) x ∙ sym (fresh (j - (b + (a - s))) x))

    pub back-now : (j : ℕ) → e + j < top → get_or k₂ (e + j) d ≡ get_or w (b + (a - s) + z + j) d
    back-now j u =
        let o : s + (e - s + j) ≡ e + j = omega (arith, sa, ae) in
        let o₁ : b + (e - s + j) ≡ b + (e - s) + j = omega arith in
        stayed (e + j) (omega (arith, fits))
        ∙ subst (λ (n : ℕ). get_or l n d ≡ get_or t (b + (e - s) + j) d) o (back (e - s + j) (omega (arith, o, u)) ∙ ap (λ (n : ℕ). get_or t n d) o₁)
        ∙ sym (tail j u)
