-- A column at one walk: for each row, the cell that names a place.
-- Assumes nothing.
use Rattle.std.specs.Prelude.{ℕ, ◌+◌, ◌*◌, ◌/◌, ◌%◌, ◌≤◌, ◌<◌, ◌≡◌, refl, Bool, true, false, ◌||◌, List, T, eqb, ltb, Float, length, get_or, set, replicate}
use Rattle.std.proofs.Common.{sym, ap, ◌∙◌, subst, get_or-set_same, get_or-set_other, ltb-true, ltb-false, eqb-true}
use native.Mathlib.Omega.{arith}
use Rattle.std.specs.Float.{nan}
use Rattle.std.proofs.Math.ListN.{length-set}
use Rattle.std.proofs.lemmas.List.{length-replicate, get_or-replicate}
use Rattle.std.proofs.lemmas.Bool.{eqb-false}
use Rattle.steps.specs.Number.{zero64}
use Rattle.layout.specs.cells.Names.{row_span, cell_room, lines_room}
use Rattle.layout.specs.cells.Cells.{Ascending, cell_at}
use Rattle.layout.specs.cells.Reads.{ascending-lt, cell-at, cell-absent}

-- the first n keys are of rows below lines_room
unfoldable pub Lined : List ℕ → ℕ → Type 0
Lined keys n = (j : ℕ) → j < n → get_or keys j 0 < lines_room * row_span

-- of the first j keys, s has this one; or s is past the n that are to be looked at, and none of them has
pub record Spot (keys : List ℕ) (n j key s : ℕ) : Type 0 where
  pub here : s < n → (s < j) × (get_or keys s 0 ≡ key)
  pub none : n ≤ s → (t : ℕ) → t < j → get_or keys t 0 ≡ key → ⊥

pub record SpotsTo (keys : List ℕ) (n p j : ℕ) (spots : List ℕ) : Type 0 where
  pub at : (i : ℕ) → i < lines_room → Spot keys n j (i * row_span + p) (get_or spots i 0)
  pub wide : length spots ≡ lines_room

abbrev pub Spots : List ℕ → ℕ → ℕ → List ℕ → Type 0
Spots keys n p spots = SpotsTo keys n p n spots

-- ---- the walk

-- how many keys are looked at together
abbrev pub block_size : ℕ
block_size = 16

-- none of the keys from a on, before e, names the place
unfoldable pub Unnamed : List ℕ → ℕ → ℕ → ℕ → Type 0
Unnamed keys p a e = (t : ℕ) → a ≤ t → t < e → get_or keys t 0 % row_span ≡ p → ⊥

pub unnamed-none : (keys : List ℕ) (p a : ℕ) → Unnamed keys p a (a + 0)
unfolding Unnamed
unnamed-none keys p a t h k = absurd (omega (arith, h, k))

unnamed-more : (keys : List ℕ) (p a j : ℕ) → Unnamed keys p a (a + j) → (get_or keys (a + j) 0 % row_span ≡ p → ⊥) → Unnamed keys p a (a + (j + 1))
unfolding Unnamed
unnamed-more keys p a j u q t h k e = go (ltb t (a + j)) refl
  where
    go : (x : Bool) → ltb t (a + j) ≡ x → ⊥
    go true c = u t h (ltb-true t (a + j) c) e
    go false c =
        let o : t ≡ a + j = omega (arith, k, ltb-false t (a + j) c) in
        q (subst (λ (z : ℕ). get_or keys z 0 % row_span ≡ p) o e)

pub unnamed-next : (keys : List ℕ) (p a j : ℕ) (on : Bool) → (on ≡ false → Unnamed keys p a (a + j)) → (on || eqb (get_or keys (a + j) 0 % row_span) p) ≡ false → Unnamed keys p a (a + (j + 1))
unnamed-next keys p a j true h e = absurd (subst T e tt)
unnamed-next keys p a j false h e = unnamed-more keys p a j (h refl) (eqb-false (get_or keys (a + j) 0 % row_span) p e)

pub unnamed-all : (keys : List ℕ) (p a j : ℕ) → block_size ≤ j → j ≤ block_size → Unnamed keys p a (a + j) → Unnamed keys p a (a + block_size)
unnamed-all keys p a j h k u =
    let e : j ≡ block_size = omega (arith, h, k) in
    subst (λ (z : ℕ). Unnamed keys p a (a + z)) e u

-- keys that name another place are passed over
pub spots-skip : (keys : List ℕ) (n p a e : ℕ) {spots : List ℕ} → p < row_span → a ≤ e → Unnamed keys p a e → SpotsTo keys n p a spots → SpotsTo keys n p e spots
unfolding Unnamed
spots-skip keys n p a e {spots} small l u h = record { at = λ i k. passed i (h.at i k); wide = h.wide }
  where
    passed : (i : ℕ) {s : ℕ} → Spot keys n a (i * row_span + p) s → Spot keys n e (i * row_span + p) s
    passed i {s} g =
        record {
          here = λ c. let b = g.here c in (omega (arith, b.0, l), b.1);
          none = λ c t b d. go c t b d (ltb t a) refl;
        }
      where
        go : n ≤ s → (t : ℕ) → t < e → get_or keys t 0 ≡ i * row_span + p → (x : Bool) → ltb t a ≡ x → ⊥
        go c t b d true q = g.none c t (ltb-true t a q) d
        go c t b d false q = u t (ltb-false t a q) b (omega (arith, d, small))

pub spots-none : (keys : List ℕ) (n p : ℕ) {spots : List ℕ} → n ≤ cell_room → spots ≡ replicate lines_room cell_room → SpotsTo keys n p 0 spots
spots-none keys n p {spots} h e =
    record {
      at = λ i u.
          let v : get_or spots i 0 ≡ cell_room = ap (λ (l : List ℕ). get_or l i 0) e ∙ get_or-replicate lines_room i cell_room 0 u in
          record { here = λ q. absurd (omega (arith, q, v, h)); none = λ q t b. absurd (omega (arith, b)) };
      wide = ap length e ∙ length-replicate lines_room cell_room;
    }

module _ (keys : List ℕ) (n p j : ℕ) (l : j < n) (small : p < row_span) where
  -- of the keys up to j, given what is known of those before it and of j
  upto : (key t : ℕ) → t < j + 1 → get_or keys t 0 ≡ key → (t < j → get_or keys t 0 ≡ key → ⊥) → (get_or keys j 0 ≡ key → ⊥) → ⊥
  upto key t b c f g = go (ltb t j) refl
    where
      go : (x : Bool) → ltb t j ≡ x → ⊥
      go true e = f (ltb-true t j e) c
      go false e =
          let o : t ≡ j = omega (arith, b, ltb-false t j e) in
          g (subst (λ (z : ℕ). get_or keys z 0 ≡ key) o c)

  -- what a key's row and place are
  row_is : (x i : ℕ) → x ≡ i * row_span + p → i ≡ x / row_span
  row_is x i e = omega (arith, e, small)

  place_is : (x i : ℕ) → x ≡ i * row_span + p → x % row_span ≡ p
  place_is x i e = omega (arith, e, small)

  key-is : (x : ℕ) → x % row_span ≡ p → x ≡ x / row_span * row_span + p
  key-is x e = omega (arith, e)

  kept-spot : {key s : ℕ} → (get_or keys j 0 ≡ key → ⊥) → Spot keys n j key s → Spot keys n (j + 1) key s
  kept-spot {key} q h = record { here = λ a. let b = h.here a in (omega (arith, b.0), b.1); none = λ a t b c. upto key t b c (h.none a t) q }

  pub spots-hit : (r : ℕ) {spots : List ℕ} → Lined keys n → r ≡ get_or keys j 0 / row_span → get_or keys j 0 % row_span ≡ p → SpotsTo keys n p j spots → SpotsTo keys n p (j + 1) (set spots r j)
  unfolding Lined
  spots-hit r {spots} b e q h = record { at = λ i u. go i u (eqb i r) refl; wide = length-set spots r j ∙ h.wide }
    where
      own : Spot keys n (j + 1) (r * row_span + p) j
      own = record { here = λ a. (omega arith, rw e (key-is (get_or keys j 0) q)); none = λ a. absurd (omega (arith, a, l)) }

      go : (i : ℕ) → i < lines_room → (x : Bool) → eqb i r ≡ x → Spot keys n (j + 1) (i * row_span + p) (get_or (set spots r j) i 0)
      go i u true c =
          let o : i ≡ r = eqb-true i r c in
          let v : get_or (set spots r j) r 0 ≡ j = get_or-set_same spots r j 0 (let w = h.wide in omega (arith, o, u, w)) in
          subst (λ (z : ℕ). Spot keys n (j + 1) (z * row_span + p) (get_or (set spots r j) z 0)) (sym o) (subst (λ (z : ℕ). Spot keys n (j + 1) (r * row_span + p) z) (sym v) own)
      go i u false c =
          let d = eqb-false i r c in
          subst (λ (z : ℕ). Spot keys n (j + 1) (i * row_span + p) z) (sym (get_or-set_other spots r i j 0 d))
          (kept-spot (λ w. d (row_is (get_or keys j 0) i w ∙ sym e)) (h.at i u))

  pub spots-miss : {spots : List ℕ} → (get_or keys j 0 % row_span ≡ p → ⊥) → SpotsTo keys n p j spots → SpotsTo keys n p (j + 1) spots
  spots-miss q h = record { at = λ i u. kept-spot (λ w. q (place_is (get_or keys j 0) i w)) (h.at i u); wide = h.wide }

pub spots-all : (keys : List ℕ) (n p j e : ℕ) {spots : List ℕ} → e ≤ j → j ≤ e → SpotsTo keys n p j spots → SpotsTo keys n p e spots
spots-all keys n p j e {spots} a b h =
    let q : j ≡ e = omega arith in
    subst (λ (z : ℕ). SpotsTo keys n p z spots) q h

pub lined : (keys : List ℕ) (n e j : ℕ) → Lined keys n → e ≤ n → j < e → get_or keys j 0 / row_span < lines_room
unfolding Lined
lined keys n e j h k l = let b = h j (omega (arith, k, l)) in omega (arith, b)

-- ---- what a spot reads as

pub spot-reads : (keys : List ℕ) (vals : List Float) (n p i : ℕ) (spots : List ℕ) → Ascending keys n → Spots keys n p spots → i < lines_room → get_or spots i 0 < n → get_or vals (get_or spots i 0) nan ≡ cell_at keys vals n (i * row_span + p)
unfolding cell_at
spot-reads keys vals n p i spots up h l q =
    let s : ℕ = get_or spots i 0 in
    let k = ((h.at i l).here q).1 in
    sym (cell-at keys vals (i * row_span + p) 0 n s (omega arith) q (sym k) λ t a b c. let w = ascending-lt keys n t s up b q in omega (arith, w, k, c))

pub spot-absent : (keys : List ℕ) (vals : List Float) (n p i : ℕ) (spots : List ℕ) → Spots keys n p spots → i < lines_room → n ≤ get_or spots i 0 → zero64 ≡ cell_at keys vals n (i * row_span + p)
unfolding cell_at
spot-absent keys vals n p i spots h l q = sym (cell-absent keys vals (i * row_span + p) 0 n (omega arith) λ t a b c. (h.at i l).none q t b (sym c))
