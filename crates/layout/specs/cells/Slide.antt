-- Elements of a table that move to another place of it: a turn from the last to the first, a turn from the first to the last, and what stands where afterwards.
-- Assumes nothing.
use Prim.Native.Nat.{ℕ, suc, ◌+◌, ◌-◌, ◌≤◌, ◌<◌}
use Rattle.std.specs.Prelude.{◌≡◌, refl}
use Rattle.std.proofs.Math.Path.{sym, ap, subst}
use Rattle.std.proofs.Common.{◌∙◌, length-append, length-set, take-append-drop, get_or-append-add, get_or-set_same}
use mathlib.Core.List.{List, [], ◌∷◌, ◌++◌}
use Rattle.std.proofs.Math.Nat.{add-zero, add-suc}
use native.Mathlib.Omega.{arith}
use Rattle.std.proofs.Math.ListN.{length, get_or, set, take, drop, length-drop, get_or-append}
use Rattle.std.proofs.Math.Seq.{length-take-le, take-suc, drop-cons, append_snoc, take-set-le, drop-set-lt, take-suc-set, get_or-take, get_or-drop}
use Rattle.std.proofs.lemmas.List.{drop-set-add}
use Rattle.layout.specs.cells.Cells.{moved}

module _ {A : Type 0} where
  append_assoc : (x y z : List A) → x ++ y ++ z ≡ x ++ (y ++ z)
  append_assoc [] y z = refl
  append_assoc (a ∷ x) y z = ap (λ (r : List A). a ∷ r) (append_assoc x y z)

  append-nil : (x : List A) → x ++ [] ≡ x
  append-nil [] = refl
  append-nil (a ∷ x) = ap (λ (r : List A). a ∷ r) (append-nil x)

  moved_none : (a b : ℕ) (l : List A) → moved a b 0 l ≡ l
  unfolding moved
  moved_none a b l = rw (append-nil (take b l), add-zero b) (take-append-drop b l)

  -- the last of them first
  moved_up : (a b m : ℕ) (l : List A) (d : A) → a ≤ b → b + suc m ≤ length l → moved a b (suc m) l ≡ moved a b m (set l (b + m) (get_or l (a + m) d))
  unfolding moved
  moved_up a b m l d h k =
      let v : A = get_or l (a + m) d in
      let e₁ : take b (set l (b + m) v) ≡ take b l = take-set-le b l (b + m) v (omega arith) in
      let s : a + (b - a + m) ≡ b + m = omega arith in
      let e₂ : drop a (set l (b + m) v) ≡ set (drop a l) (b - a + m) v = subst (λ (z : ℕ). drop a (set l z v) ≡ set (drop a l) (b - a + m) v) s (drop-set-add a l (b - a + m) v) in
      let e₃ : take m (set (drop a l) (b - a + m) v) ≡ take m (drop a l) = take-set-le m (drop a l) (b - a + m) v (omega arith) in
      let e₄ : drop (b + m) (set l (b + m) v) ≡ v ∷ drop (suc (b + m)) l =
      drop-cons (set l (b + m) v) (b + m) d (rw (length-set l (b + m) v) (omega arith))
      ∙ ap (λ (x : A). x ∷ drop (suc (b + m)) (set l (b + m) v)) (get_or-set_same l (b + m) v d (omega arith))
      ∙ ap (λ (r : List A). v ∷ r) (drop-set-lt (suc (b + m)) l (b + m) v (omega arith)) in
      let g : take (suc m) (drop a l) ≡ take m (drop a l) ++ (v ∷ []) =
      take-suc (drop a l) m d (rw (length-drop a l) (omega arith)) ∙ ap (λ (x : A). take m (drop a l) ++ (x ∷ [])) (get_or-drop a l m d) in
      let o : b + suc m ≡ suc (b + m) = add-suc b m in
      let left : take b l ++ take (suc m) (drop a l) ++ drop (b + suc m) l ≡ take b l ++ take m (drop a l) ++ (v ∷ drop (suc (b + m)) l) =
      rw (g, o) (ap (λ (r : List A). r ++ drop (suc (b + m)) l) (sym (append_assoc (take b l) (take m (drop a l)) (v ∷ []))) ∙ append_snoc (take b l ++ take m (drop a l)) v (drop (suc (b + m)) l)) in
      left ∙ sym (rw (e₁, e₂, e₃, e₄))

  -- the first of them first
  moved_down : (a b m : ℕ) (l : List A) (d : A) → b ≤ a → a + suc m ≤ length l → moved a b (suc m) l ≡ moved (suc a) (suc b) m (set l b (get_or l a d))
  unfolding moved
  moved_down a b m l d h k =
      let v : A = get_or l a d in
      let e₁ : take (suc b) (set l b v) ≡ take b l ++ (v ∷ []) = take-suc-set l b v (omega arith) in
      let e₂ : drop (suc a) (set l b v) ≡ drop (suc a) l = drop-set-lt (suc a) l b v (omega arith) in
      let e₃ : drop (suc b + m) (set l b v) ≡ drop (suc b + m) l = drop-set-lt (suc b + m) l b v (omega arith) in
      let g : take (suc m) (drop a l) ≡ v ∷ take m (drop (suc a) l) = ap (take (suc m)) (drop-cons l a d (omega arith)) in
      let o : b + suc m ≡ suc b + m = omega arith in
      let left : take b l ++ take (suc m) (drop a l) ++ drop (b + suc m) l ≡ take b l ++ (v ∷ []) ++ take m (drop (suc a) l) ++ drop (suc b + m) l =
      rw (g, o) (ap (λ (r : List A). r ++ drop (suc b + m) l) (sym (append_snoc (take b l) v (take m (drop (suc a) l))))) in
      left ∙ sym (rw (e₁, e₂, e₃))

  pub up_next : (a s j : ℕ) (l : List A) (d : A) {z : List A} → a < j → j + s ≤ length l → moved a (a + s) (j - a) l ≡ z → moved a (a + s) (j - 1 - a) (set l (j - 1 + s) (get_or l (j - 1) d)) ≡ z
  up_next a s j l d h k r =
      let e : j - a ≡ suc (j - 1 - a) = omega arith in
      let f : a + s + (j - 1 - a) ≡ j - 1 + s = omega arith in
      let g : a + (j - 1 - a) ≡ j - 1 = omega arith in
      let q = moved_up a (a + s) (j - 1 - a) l d (omega arith) (omega arith) in
      sym (rw (f, g) at q) ∙ (rw e at r)

  pub up-last : (a s j : ℕ) (l : List A) {z : List A} → j ≤ a → moved a (a + s) (j - a) l ≡ z → l ≡ z
  up-last a s j l h r =
      let e : j - a ≡ 0 = omega arith in
      sym (moved_none a (a + s) l) ∙ (rw e at r)

  pub down-next : (j s n : ℕ) (l : List A) (d : A) {z : List A} → j < n → s ≤ j → n ≤ length l → moved j (j - s) (n - j) l ≡ z → moved (j + 1) (j + 1 - s) (n - (j + 1)) (set l (j - s) (get_or l j d)) ≡ z
  down-next j s n l d h k p r =
      let e : n - j ≡ suc (n - (j + 1)) = omega arith in
      let f : suc j ≡ j + 1 = omega arith in
      let g : suc (j - s) ≡ j + 1 - s = omega arith in
      let q = moved_down j (j - s) (n - (j + 1)) l d (omega arith) (omega arith) in
      sym (rw (f, g) at q) ∙ (rw e at r)

  pub down-last : (j s n : ℕ) (l : List A) {z : List A} → n ≤ j → moved j (j - s) (n - j) l ≡ z → l ≡ z
  down-last j s n l h r =
      let e : n - j ≡ 0 = omega arith in
      sym (moved_none j (j - s) l) ∙ (rw e at r)

  -- ---- what stands where
  part : (a m : ℕ) (l : List A) → a + m ≤ length l → length (take m (drop a l)) ≡ m
  part a m l h = length-take-le m (drop a l) (rw (length-drop a l) (omega arith))

  front : (a b m : ℕ) (l : List A) → a + m ≤ length l → b + m ≤ length l → length (take b l ++ take m (drop a l)) ≡ b + m
  front a b m l h k = rw (length-append (take b l) (take m (drop a l)), length-take-le b l (omega arith), part a m l h)

  pub length_moved : (a b m : ℕ) (l : List A) → a + m ≤ length l → b + m ≤ length l → length (moved a b m l) ≡ length l
  unfolding moved
  length_moved a b m l h k = rw (length-append (take b l ++ take m (drop a l)) (drop (b + m) l), front a b m l h k, length-drop (b + m) l) (omega arith)

  pub moved_before : (a b m : ℕ) (l : List A) (j : ℕ) (d : A) → a + m ≤ length l → b + m ≤ length l → j < b → get_or (moved a b m l) j d ≡ get_or l j d
  unfolding moved
  moved_before a b m l j d h k q =
      let f = front a b m l h k in
      let g = length-take-le b l (omega arith) in
      get_or-append (take b l ++ take m (drop a l)) (drop (b + m) l) d j (omega arith)
      ∙ get_or-append (take b l) (take m (drop a l)) d j (omega arith)
      ∙ get_or-take b l j d q

  pub moved_in : (a b m : ℕ) (l : List A) (j : ℕ) (d : A) → a + m ≤ length l → b + m ≤ length l → j < m → get_or (moved a b m l) (b + j) d ≡ get_or l (a + j) d
  unfolding moved
  moved_in a b m l j d h k q =
      let f = front a b m l h k in
      let g : length (take b l) ≡ b = length-take-le b l (omega arith) in
      get_or-append (take b l ++ take m (drop a l)) (drop (b + m) l) d (b + j) (omega arith)
      ∙ subst (λ (z : ℕ). get_or (take b l ++ take m (drop a l)) (z + j) d ≡ get_or (take m (drop a l)) j d) g (get_or-append-add (take b l) (take m (drop a l)) j d)
      ∙ get_or-take m (drop a l) j d q
      ∙ get_or-drop a l j d

  pub moved-after : (a b m : ℕ) (l : List A) (j : ℕ) (d : A) → a + m ≤ length l → b + m ≤ length l → b + m ≤ j → get_or (moved a b m l) j d ≡ get_or l j d
  unfolding moved
  moved-after a b m l j d h k q =
      let f : length (take b l ++ take m (drop a l)) ≡ b + m = front a b m l h k in
      let e : b + m + (j - (b + m)) ≡ j = omega arith in
      let s : get_or (take b l ++ take m (drop a l) ++ drop (b + m) l) (b + m + (j - (b + m))) d ≡ get_or (drop (b + m) l) (j - (b + m)) d =
      subst (λ (z : ℕ). get_or (take b l ++ take m (drop a l) ++ drop (b + m) l) (z + (j - (b + m))) d ≡ get_or (drop (b + m) l) (j - (b + m)) d) f (get_or-append-add (take b l ++ take m (drop a l)) (drop (b + m) l) (j - (b + m)) d) in
      subst (λ (z : ℕ). get_or (take b l ++ take m (drop a l) ++ drop (b + m) l) z d ≡ get_or l z d) e (s ∙ get_or-drop (b + m) l (j - (b + m)) d)
