-- A loose run pasted into the tables is the row laid down there.
-- Assumes nothing.
use Prim.Native.Nat.{ℕ, zero, suc, ◌+◌, ◌-◌, ◌*◌, ◌≤◌, ◌<◌}
use Rattle.std.specs.Prelude.{◌≡◌, Bool, cond, Float, length, get_or}
use Rattle.std.proofs.Math.Path.{refl, sym, ap}
use Rattle.std.proofs.Common.{◌∙◌, add-zero, get_or-set_other}
use Rattle.std.proofs.Math.Bool.{true, false}
use mathlib.Core.List.{List}
use Rattle.std.proofs.Math.Nat.{zero-add}
use native.Mathlib.Omega.{arith}
use Rattle.std.specs.Float.Ieee.{nan, ne}
use Rattle.std.proofs.Math.ListN.{set, length-set}
use Rattle.std.proofs.Math.Seq.{get_or-set_same}
use Rattle.laws.specs.Loops.{turns, run}
use Rattle.steps.specs.Number.{zero64}
use Rattle.layout.specs.cells.Names.{row_span, row_room, last_place}
use Rattle.layout.specs.cells.Cells.{Cells, cells, put_if, pack_turn, packed, counted}
use Rattle.layout.specs.cells.Replace.{packed-size}
use Rattle.layout.specs.cells.Replaced.{counted-le}
use Rattle.waist.specs.merging.Merge.{pasted}

module _ {S : Type 0} where
  turns-snoc : (g : ℕ → S → S) (n i : ℕ) (s : S) → turns g (suc n) i s ≡ g (i + n) (turns g n i s)
  unfolding turns
  turns-snoc g zero i s = rw (add-zero i) refl
  turns-snoc g (suc n) i s =
      let e : suc i + n ≡ i + suc n = omega arith in
      turns-snoc g n (suc i) (g i s) ∙ ap (λ (z : ℕ). g z (turns g n (suc i) (g i s))) e

  turns-ext : (g h : ℕ → S → S) (n i : ℕ) (s : S) → ((j : ℕ) (t : S) → i ≤ j → j < i + n → g j t ≡ h j t) → turns g n i s ≡ turns h n i s
  unfolding turns
  turns-ext g h zero i s q = refl
  turns-ext g h (suc n) i s q =
      ap (λ (t : S). turns g n (suc i) t) (q i s (omega arith) (omega arith))
      ∙ turns-ext g h n (suc i) (h i s) λ j t u v. q j t (omega (arith, u)) (omega (arith, v))

module _ {A : Type 0} (d : A) (a : ℕ) where
  pasted-none : (from l : List A) → pasted d a 0 from l ≡ l
  unfolding pasted run turns
  pasted-none from l = refl

  -- one more
  pasted-more : (n : ℕ) (from l : List A) (x : A) → n < length from → pasted d a (n + 1) (set from n x) l ≡ set (pasted d a n from l) (a + n) x
  unfolding pasted run
  pasted-more n from l x h =
      let o : n + 1 - 0 ≡ suc n = omega arith in
      let o₁ : n - 0 ≡ n = omega arith in
      let z : 0 + n ≡ n = zero-add n in
      let g : ℕ → List A → List A = λ j l. set l (a + j) (get_or from j d) in
      let f : ℕ → List A → List A = λ j l. set l (a + j) (get_or (set from n x) j d) in
      let e : turns f n 0 l ≡ turns g n 0 l = turns-ext f g n 0 l (λ j t u v. ap (set t (a + j)) (get_or-set_other from n j x d λ q. omega (arith, q, v))) in
      let s : turns f (suc n) 0 l ≡ set (turns f n 0 l) (a + (0 + n)) (get_or (set from n x) (0 + n) d) = turns-snoc f n 0 l in
      rw (o, o₁) (s ∙ rw (z, e, get_or-set_same from n x d h) refl)

-- t has what s has, from place a on in these tables
pub record Pasting (a : ℕ) (ks : List ℕ) (vs : List Float) (s t : Cells) : Type 0 where
  pub keyed : t.keys ≡ pasted 0 a s.size s.keys ks
  pub valued : t.vals ≡ pasted nan a s.size s.vals vs
  pub sized : t.size ≡ a + s.size
  pub wide : length s.keys ≡ row_room
  pub wides : length s.vals ≡ row_room

module _ (a i : ℕ) (row : List Float) (ks : List ℕ) (vs : List Float) where
  paste-turn : (p : ℕ) (s t : Cells) → s.size < row_room → Pasting a ks vs s t → Pasting a ks vs (pack_turn i row p s) (pack_turn i row p t)
  unfolding pack_turn put_if
  paste-turn p s t l h = go (ne (get_or row p nan) zero64)
    where
      go : (b : Bool)
          → Pasting a ks vs
          (cond b (cells (set s.keys s.size (i * row_span + p)) (set s.vals s.size (get_or row p nan)) (s.size + 1)) s)
          (cond b (cells (set t.keys t.size (i * row_span + p)) (set t.vals t.size (get_or row p nan)) (t.size + 1)) t)
      go false = h
      go true =
          let hw = h.wide in
          let hv = h.wides in
          let hs = h.sized in
          record {
            keyed = rw (h.keyed, h.sized) (sym (pasted-more 0 a s.size s.keys ks (i * row_span + p) (omega (arith, l, hw))));
            valued = rw (h.valued, h.sized) (sym (pasted-more nan a s.size s.vals vs (get_or row p nan) (omega (arith, l, hv))));
            sized = omega (arith, hs);
            wide = length-set s.keys s.size (i * row_span + p) ∙ h.wide;
            wides = length-set s.vals s.size (get_or row p nan) ∙ h.wides;
          }

  few : (p : ℕ) (s : Cells) → (pack_turn i row p s).size ≤ s.size + 1
  unfolding pack_turn put_if
  few p s = go (ne (get_or row p nan) zero64)
    where
      go : (b : Bool) → (cond b (cells (set s.keys s.size (i * row_span + p)) (set s.vals s.size (get_or row p nan)) (s.size + 1)) s).size ≤ s.size + 1
      go true = omega arith
      go false = omega arith

  paste-turns : (n p : ℕ) (s t : Cells) → s.size + n ≤ row_room → Pasting a ks vs s t → Pasting a ks vs (turns (pack_turn i row) n p s) (turns (pack_turn i row) n p t)
  unfolding turns
  paste-turns zero p s t l h = h
  paste-turns (suc n) p s t l h =
      let f = few p s in
      paste-turns n (suc p) (pack_turn i row p s) (pack_turn i row p t) (omega (arith, l, f)) (paste-turn p s t (omega (arith, l)) h)

  pub packed-pasted : (fk : List ℕ) (fv : List Float) → length fk ≡ row_room → length fv ≡ row_room → Pasting a ks vs (packed last_place i row (cells fk fv 0)) (packed last_place i row (cells ks vs a))
  unfolding packed run
  packed-pasted fk fv h k =
      paste-turns (last_place + 1 - 1) 1 (cells fk fv 0) (cells ks vs a) (omega arith)
      record { keyed = sym (pasted-none 0 a fk ks); valued = sym (pasted-none nan a fv vs); sized = sym (add-zero a); wide = h; wides = k }

  pub packed-few : (fk : List ℕ) (fv : List Float) (fk' : List ℕ) (fv' : List Float) (z : ℕ) → cells fk' fv' z ≡ packed last_place i row (cells fk fv 0) → (z ≡ counted last_place row) × (z ≤ last_place)
  packed-few fk fv fk' fv' z q =
      let e : z ≡ (packed last_place i row (cells fk fv 0)).size = ap (λ (s : Cells). s.size) q in
      let f = packed-size last_place i 0 row fk fv in
      let l = counted-le last_place row in
      (omega (arith, e, f), omega (arith, e, f, l))
