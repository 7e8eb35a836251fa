-- A place goes out of every row: each row reads as before without that place, and the keys still ascend.
-- Assumes nothing.
use Rattle.std.specs.Prelude.{ℕ, zero, suc, ◌+◌, ◌-◌, ◌*◌, ◌%◌, ◌≤◌, ◌<◌, ◌≡◌, refl, Bool, true, false, cond, List, ◌∷◌, ltb, eqb, Float, length, get_or}
use Rattle.std.proofs.Common.{sym, ap, ◌∙◌, subst, zero-add, arith, ltb-true, ltb-false, eqb-true, eq-eqb, ne_eqb, lt-ltb, le-ltb}
use Rattle.std.specs.Float.{nan}
use Rattle.std.proofs.lemmas.Bool.{eqb-false}
use Rattle.laws.specs.Loops.{map_in, delete}
use Rattle.laws.specs.Lists.{tab, tab-ext}
use Rattle.laws.specs.Places.{map_in-at}
use Rattle.steps.specs.Number.{zero64}
use Rattle.layout.specs.cells.Names.{row_span}
use Rattle.layout.specs.cells.Cells.{Ascending, cell_in, cell_at, row_of, nearer_of, Free}
use Rattle.layout.specs.cells.Seek.{first-moved}

nearer-cases : (P : ℕ → Type 0) (p x : ℕ) → (p < x % row_span → P (x - 1)) → (x % row_span ≤ p → P x) → P (nearer_of p x)
unfolding nearer_of
nearer-cases P p x f g = go (ltb p (x % row_span)) refl
  where
    go : (b : Bool) → ltb p (x % row_span) ≡ b → P (cond b (x - 1) x)
    go true q = f (ltb-true p (x % row_span) q)
    go false q = g (ltb-false p (x % row_span) q)

-- neither names place p: the order stays
pub nearer-lt : (p x y : ℕ) → (x % row_span ≡ p → ⊥) → (y % row_span ≡ p → ⊥) → x < y → nearer_of p x < nearer_of p y
nearer-lt p x y f g h =
    nearer-cases (λ (z : ℕ). z < nearer_of p y) p x
    (λ u. nearer-cases (λ (z : ℕ). x - 1 < z) p y (λ v. omega (arith, u, v, h)) λ v. omega (arith, h))
    λ u. nearer-cases (λ (z : ℕ). x < z) p y (λ v. next x y (omega (arith, u, f)) v h) λ v. h
  where
    next : (x y : ℕ) → x % row_span < p → p < y % row_span → x < y → x < y - 1
    next x y u v h = omega arith

nearer-eqb : (p x y : ℕ) → (x % row_span ≡ p → ⊥) → (y % row_span ≡ p → ⊥) → eqb (nearer_of p x) (nearer_of p y) ≡ eqb x y
nearer-eqb p x y f g = go (eqb x y) refl
  where
    go : (b : Bool) → eqb x y ≡ b → eqb (nearer_of p x) (nearer_of p y) ≡ b
    go true q = eq-eqb (nearer_of p x) (nearer_of p y) (ap (nearer_of p) (eqb-true x y q))
    go false q = ne_eqb (nearer_of p x) (nearer_of p y) λ w. side w (eqb-false x y q) (ltb x y) refl
      where
        side : nearer_of p x ≡ nearer_of p y → (x ≡ y → ⊥) → (c : Bool) → ltb x y ≡ c → ⊥
        side w d true z = let l = nearer-lt p x y f g (ltb-true x y z) in omega (arith, w, l)
        side w d false z = let l = nearer-lt p y x g f (omega (arith, d, ltb-false x y z)) in omega (arith, w, l)

pub closed-ascends : (keys : List ℕ) (n p : ℕ) → n ≤ length keys → Ascending keys n → Free keys n p → Ascending (map_in (nearer_of p) 0 n keys) n
unfolding Ascending Free
closed-ascends keys n p l up f a b h k =
    rw (map_in-at (nearer_of p) 0 n keys a 0 (omega arith) (omega arith) (omega arith), map_in-at (nearer_of p) 0 n keys b 0 (omega arith) k (omega arith))
    (nearer-lt p (get_or keys a 0) (get_or keys b 0) (f a (omega arith)) (f b k) (up a b h k))

pub closed-cell : (keys : List ℕ) (vals : List Float) (n p key : ℕ) → n ≤ length keys → Free keys n p → (key % row_span ≡ p → ⊥) → cell_at (map_in (nearer_of p) 0 n keys) vals n (nearer_of p key) ≡ cell_at keys vals n key
unfolding Free cell_at cell_in
closed-cell keys vals n p key l f g =
    let r = first-moved (λ i. eqb (nearer_of p key) (get_or (map_in (nearer_of p) 0 n keys) i 0)) (λ i. eqb key (get_or keys i 0)) (λ i. get_or vals i nan) (λ i. get_or vals i nan) zero64 n 0 0 (λ j h. same j h) (λ j h. refl) in
    rw (zero-add n) at r
  where
    same : (j : ℕ) → j < n → eqb (nearer_of p key) (get_or (map_in (nearer_of p) 0 n keys) (0 + j) 0) ≡ eqb key (get_or keys (0 + j) 0)
    same j h =
        rw (zero-add j) (rw (map_in-at (nearer_of p) 0 n keys j 0 (omega arith) h (omega arith)) (nearer-eqb p key (get_or keys j 0) g (f j h)))

-- ---- a row
delete-tab : {A : Type 0} (g : ℕ → A) (n a i : ℕ) → i < suc n → delete i (tab g a (suc n)) ≡ tab (λ s. cond (ltb s (a + i)) (g s) (g (suc s))) a n
unfolding delete tab
delete-tab {A} g n a zero h = shifted g n a (a + 0) (omega arith)
  where
    shifted : (g : ℕ → A) (n a b : ℕ) → b ≤ a → tab g (suc a) n ≡ tab (λ s. cond (ltb s b) (g s) (g (suc s))) a n
    shifted g zero a b h = refl
    shifted g (suc n) a b h = rw (le-ltb a b h) (ap (λ (r : List A). g (suc a) ∷ r) (shifted g n (suc a) b (omega arith)))
delete-tab g zero a (suc i) h = absurd (omega arith)
delete-tab {A} g (suc n) a (suc i) h =
    let e : suc a + i ≡ a + suc i = omega arith in
    let r = delete-tab g n (suc a) i (omega arith) in
    rw (lt-ltb a (a + suc i) (omega arith)) (ap (λ (r : List A). g a ∷ r) (rw e at r))

pub closed-row : (keys : List ℕ) (vals : List Float) (n p k q : ℕ) → n ≤ length keys → Free keys n p → 1 ≤ p → p ≤ k → k < row_span → row_of (map_in (nearer_of p) 0 n keys) vals n (k - 1) q ≡ delete (p - 1) (row_of keys vals n k q)
unfolding row_of
closed-row keys vals n p k q l f h u w =
    let e : k ≡ suc (k - 1) = omega arith in
    let o : 1 + (p - 1) ≡ p = omega arith in
    let d : delete (p - 1) (tab (λ s. cell_at keys vals n (q * row_span + s)) 1 (suc (k - 1))) ≡ tab (λ s. cond (ltb s (1 + (p - 1))) (cell_at keys vals n (q * row_span + s)) (cell_at keys vals n (q * row_span + suc s))) 1 (k - 1) =
    delete-tab (λ s. cell_at keys vals n (q * row_span + s)) (k - 1) 1 (p - 1) (omega arith) in
    let d₁ : delete (p - 1) (tab (λ s. cell_at keys vals n (q * row_span + s)) 1 k) ≡ tab (λ s. cond (ltb s p) (cell_at keys vals n (q * row_span + s)) (cell_at keys vals n (q * row_span + suc s))) 1 (k - 1) =
    subst (λ (y : ℕ). delete (p - 1) (tab (λ s. cell_at keys vals n (q * row_span + s)) 1 y) ≡ tab (λ s. cond (ltb s p) (cell_at keys vals n (q * row_span + s)) (cell_at keys vals n (q * row_span + suc s))) 1 (k - 1)) (sym e)
    (subst (λ (y : ℕ). delete (p - 1) (tab (λ s. cell_at keys vals n (q * row_span + s)) 1 (suc (k - 1))) ≡ tab (λ s. cond (ltb s y) (cell_at keys vals n (q * row_span + s)) (cell_at keys vals n (q * row_span + suc s))) 1 (k - 1)) o d) in
    tab-ext _ (λ s. cond (ltb s p) (cell_at keys vals n (q * row_span + s)) (cell_at keys vals n (q * row_span + suc s))) 1 (k - 1) (λ s a b. go s a b (ltb s p) refl) ∙ sym d₁
  where
    go : (s : ℕ) → 1 ≤ s → s < 1 + (k - 1) → (b : Bool) → ltb s p ≡ b → cell_at (map_in (nearer_of p) 0 n keys) vals n (q * row_span + s) ≡ cond b (cell_at keys vals n (q * row_span + s)) (cell_at keys vals n (q * row_span + suc s))
    go s a b true z =
        let v = ltb-true s p z in
        let y : nearer_of p (q * row_span + s) ≡ q * row_span + s = nearer-cases (λ (y : ℕ). y ≡ q * row_span + s) p (q * row_span + s) (λ c. absurd (omega (arith, c, v, b, w))) (λ c. refl) in
        subst (λ (y : ℕ). cell_at (map_in (nearer_of p) 0 n keys) vals n y ≡ cell_at keys vals n (q * row_span + s)) y (closed-cell keys vals n p (q * row_span + s) l f (λ c. omega (arith, c, v, b, w)))
    go s a b false z =
        let v = ltb-false s p z in
        let y : nearer_of p (q * row_span + suc s) ≡ q * row_span + s = nearer-cases (λ (y : ℕ). y ≡ q * row_span + s) p (q * row_span + suc s) (λ c. omega arith) (λ c. absurd (omega (arith, c, v, b, w))) in
        subst (λ (y : ℕ). cell_at (map_in (nearer_of p) 0 n keys) vals n y ≡ cell_at keys vals n (q * row_span + suc s)) y (closed-cell keys vals n p (q * row_span + suc s) l f (λ c. omega (arith, c, v, b, w)))
