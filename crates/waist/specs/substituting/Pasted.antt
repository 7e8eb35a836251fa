-- What stands where after a paste.
-- Assumes nothing.
use Rattle.std.specs.Prelude.{ℕ, suc, ◌+◌, ◌≤◌, ◌<◌, ◌≡◌, Bool, true, false, ltb, length, get_or}
use Rattle.std.proofs.Math.Path.{refl}
use Rattle.std.proofs.Common.{◌∙◌, subst, arith, length-set, get_or-set_same, get_or-set_other, ltb-true, ltb-false}
use mathlib.Core.List.{List}
use Rattle.std.proofs.Math.ListN.{set}
use Rattle.layout.specs.cells.Seek.{run-inv}
use Rattle.waist.specs.merging.Merge.{pasted}

module _ {A : Type 0} (d : A) (a : ℕ) (from l : List A) where
  -- the first m elements of one list stand from place a on, and nothing else has changed
  pub record Stands (m : ℕ) (k : List A) : Type 0 where
    pub inside : (j : ℕ) → j < m → get_or k (a + j) d ≡ get_or from j d
    pub before : (j : ℕ) → j < a → get_or k j d ≡ get_or l j d
    pub after : (j : ℕ) → a + m ≤ j → get_or k j d ≡ get_or l j d
    pub long : length k ≡ length l

  stands-more : (m : ℕ) (k : List A) → a + m < length l → Stands m k → Stands (suc m) (set k (a + m) (get_or from m d))
  stands-more m k c h =
      record {
        inside = λ j u. go j u (ltb j m) refl;
        before = λ j u. get_or-set_other k (a + m) j (get_or from m d) d (λ e. omega (arith, e, u)) ∙ h.before j u;
        after = λ j u. get_or-set_other k (a + m) j (get_or from m d) d (λ e. omega (arith, e, u)) ∙ h.after j (omega (arith, u));
        long = length-set k (a + m) (get_or from m d) ∙ h.long;
      }
    where
      go : (j : ℕ) → j < suc m → (b : Bool) → ltb j m ≡ b → get_or (set k (a + m) (get_or from m d)) (a + j) d ≡ get_or from j d
      go j u true e =
          let v = ltb-true j m e in
          get_or-set_other k (a + m) (a + j) (get_or from m d) d (λ o. omega (arith, o, v)) ∙ h.inside j v
      go j u false e =
          let o : m ≡ j = omega (arith, u, ltb-false j m e) in
          subst (λ (z : ℕ). get_or (set k (a + m) (get_or from m d)) (a + z) d ≡ get_or from z d) o (get_or-set_same k (a + m) (get_or from m d) d (let w = h.long in omega (arith, c, w)))

  pub pasted-stands : (m : ℕ) → a + m ≤ length l → Stands m (pasted d a m from l)
  unfolding pasted
  pasted-stands m h =
      run-inv (λ (j : ℕ) (k : List A). Stands j k) (λ j k. set k (a + j) (get_or from j d)) 0 m l (omega arith) (λ j k u v g. stands-more j k (omega (arith, v, h)) g)
      record { inside = λ j u. absurd (omega (arith, u)); before = λ j u. refl; after = λ j u. refl; long = refl }
