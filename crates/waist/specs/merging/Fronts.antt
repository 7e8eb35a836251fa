-- The front of a run: the cell there, the places before it, and the next front.
-- Assumes nothing.
use Rattle.std.specs.Prelude.{ℕ, ◌+◌, ◌*◌, ◌%◌, ◌≤◌, ◌<◌, ◌≡◌, refl, Bool, true, false, cond, List, ltb, Float, get_or}
use Rattle.std.proofs.Common.{sym, subst, arith, ltb-true, ltb-false}
use Rattle.std.specs.Float.{nan}
use Rattle.steps.specs.Number.{zero64}
use Rattle.layout.specs.cells.Names.{row_span, last_place}
use Rattle.layout.specs.cells.Cells.{cell_in}
use Rattle.layout.specs.cells.Reads.{cell-at, cell-absent}
use Rattle.waist.specs.merging.Merge.{RunOf, front_of, lesser}

pub front-cases : (P : ℕ → Type 0) (keys : List ℕ) (j e : ℕ) → (j < e → P (get_or keys j 0 % row_span)) → (e ≤ j → P row_span) → P (front_of keys j e)
unfolding front_of
front-cases P keys j e f g = go (ltb j e) refl
  where
    go : (b : Bool) → ltb j e ≡ b → P (cond b (get_or keys j 0 % row_span) row_span)
    go true q = f (ltb-true j e q)
    go false q = g (ltb-false j e q)

rest-small : (x : ℕ) → x % row_span < row_span
rest-small x = omega arith

pub front-live : (keys : List ℕ) (j e : ℕ) → front_of keys j e < row_span → j < e
front-live keys j e = front-cases (λ (p : ℕ). p < row_span → j < e) keys j e (λ h _. h) λ h l. absurd (omega (arith, l))

pub front-over : (keys : List ℕ) (j e : ℕ) → row_span ≤ front_of keys j e → e ≤ j
front-over keys j e = front-cases (λ (p : ℕ). row_span ≤ p → e ≤ j) keys j e (λ h l. let s = rest-small (get_or keys j 0) in absurd (omega (arith, l, s))) λ h l. h

pub front-end : (keys : List ℕ) (j e : ℕ) → e ≤ j → front_of keys j e ≡ row_span
front-end keys j e = front-cases (λ (p : ℕ). e ≤ j → p ≡ row_span) keys j e (λ h l. absurd (omega (arith, h, l))) λ h l. refl

pub front-most : (keys : List ℕ) (j e : ℕ) → front_of keys j e ≤ row_span
front-most keys j e = front-cases (λ (p : ℕ). p ≤ row_span) keys j e (λ h. let s = rest-small (get_or keys j 0) in omega (arith, s)) λ h. omega arith

-- the keys of the run's cells before j are below this place
abbrev pub Behind : List ℕ → ℕ → ℕ → ℕ → ℕ → Type 0
Behind keys r a j y = (t : ℕ) → a ≤ t → t < j → get_or keys t 0 < r * row_span + y

module _ (keys : List ℕ) (r a e : ℕ) (R : RunOf keys r a e) where
  pub front-key : (j : ℕ) → a ≤ j → j < e → get_or keys j 0 ≡ r * row_span + front_of keys j e
  front-key j u = front-cases (λ (p : ℕ). j < e → get_or keys j 0 ≡ r * row_span + p) keys j e (λ h _. whole (get_or keys j 0) (R.low j u h) (R.high j u h)) λ h l. absurd (omega (arith, h, l))
    where
      whole : (x : ℕ) → r * row_span < x → x ≤ r * row_span + last_place → x ≡ r * row_span + x % row_span
      whole x h k = omega arith

  pub front_low : (j : ℕ) → a ≤ j → j < e → 1 ≤ front_of keys j e
  front_low j u v = let k = front-key j u v in let l = R.low j u v in omega (arith, k, l)

  pub front-high : (j : ℕ) → a ≤ j → j < e → front_of keys j e ≤ last_place
  front-high j u v = let k = front-key j u v in let l = R.high j u v in omega (arith, k, l)

  pub front-first : (j : ℕ) → a ≤ j → 1 ≤ front_of keys j e
  front-first j u = go (ltb j e) refl
    where
      go : (b : Bool) → ltb j e ≡ b → 1 ≤ front_of keys j e
      go true q = front_low j u (ltb-true j e q)
      go false q = let f = front-end keys j e (ltb-false j e q) in omega (arith, f)

  pub front-up : (j : ℕ) → a ≤ j → j < e → front_of keys j e < front_of keys (j + 1) e
  front-up j u v = go (ltb (j + 1) e) refl
    where
      go : (b : Bool) → ltb (j + 1) e ≡ b → front_of keys j e < front_of keys (j + 1) e
      go true q =
          let w = ltb-true (j + 1) e q in
          let k = front-key j u v in
          let l = front-key (j + 1) (omega (arith, u)) w in
          let o = R.up j (j + 1) u (omega arith) w in
          omega (arith, k, l, o)
      go false q =
          let f = front-end keys (j + 1) e (ltb-false (j + 1) e q) in
          let h = front-high j u v in
          omega (arith, f, h)

  pub behind-next : (j y z : ℕ) → a ≤ j → j < e → Behind keys r a j y → y ≤ z → front_of keys j e < z → Behind keys r a (j + 1) z
  behind-next j y z u v b h l t c d = go (ltb t j) refl
    where
      go : (s : Bool) → ltb t j ≡ s → get_or keys t 0 < r * row_span + z
      go true q = let w = b t c (ltb-true t j q) in omega (arith, w, h)
      go false q =
          let o : j ≡ t = omega (arith, d, ltb-false t j q) in
          let k = front-key j u v in
          subst (λ (x : ℕ). get_or keys x 0 < r * row_span + z) o (omega (arith, k, l))

  pub behind_more : (j y z : ℕ) → Behind keys r a j y → y ≤ z → Behind keys r a j z
  behind_more j y z b h t c d = let w = b t c d in omega (arith, w, h)

  module _ (vals : List Float) where
    pub front-here : (j : ℕ) → a ≤ j → j < e → cell_in keys vals (r * row_span + front_of keys j e) a e ≡ get_or vals j nan
    front-here j u v =
        let k = front-key j u v in
        cell-at keys vals (r * row_span + front_of keys j e) a e j u v (sym k) λ t c d q.
        let o = R.up t j c d v in
        omega (arith, o, k, q)

    pub front-none : (j y : ℕ) → a ≤ j → j ≤ e → Behind keys r a j y → y < front_of keys j e → cell_in keys vals (r * row_span + y) a e ≡ zero64
    front-none j y u v b l = cell-absent keys vals (r * row_span + y) a e (omega (arith, u, v)) λ t c d q. go t c d q (ltb t j) refl (ltb j t) refl
      where
        go : (t : ℕ) → a ≤ t → t < e → r * row_span + y ≡ get_or keys t 0 → (s : Bool) → ltb t j ≡ s → (x : Bool) → ltb j t ≡ x → ⊥
        go t c d q true w x z = let o = b t c (ltb-true t j w) in omega (arith, o, q)
        go t c d q false w true z =
            let h = ltb-true j t z in
            let k = front-key j u (omega (arith, h, d)) in
            let o = R.up j t u h d in
            omega (arith, o, k, q, l)
        go t c d q false w false z =
            let o : t ≡ j = omega (arith, ltb-false t j w, ltb-false j t z) in
            let k = front-key j u (omega (arith, o, d)) in
            let g : r * row_span + y ≡ get_or keys j 0 = subst (λ (x : ℕ). r * row_span + y ≡ get_or keys x 0) o q in
            omega (arith, g, k, l)

-- ---- the lesser of two fronts
pub lesser-left : (p q : ℕ) → p < q → lesser p q ≡ p
unfolding lesser
lesser-left p q h = go (ltb p q) refl
  where
    go : (b : Bool) → ltb p q ≡ b → cond b p q ≡ p
    go true w = refl
    go false w = absurd (omega (arith, h, ltb-false p q w))

pub lesser-right : (p q : ℕ) → q ≤ p → lesser p q ≡ q
unfolding lesser
lesser-right p q h = go (ltb p q) refl
  where
    go : (b : Bool) → ltb p q ≡ b → cond b p q ≡ q
    go true w = absurd (omega (arith, h, ltb-true p q w))
    go false w = refl

pub lesser-le : (p q : ℕ) → (lesser p q ≤ p) × (lesser p q ≤ q)
unfolding lesser
lesser-le p q = go (ltb p q) refl
  where
    go : (b : Bool) → ltb p q ≡ b → (cond b p q ≤ p) × (cond b p q ≤ q)
    go true w = (omega arith, let l = ltb-true p q w in omega (arith, l))
    go false w = (let l = ltb-false p q w in omega (arith, l), omega arith)

pub lesser-above : (x p q : ℕ) → x < p → x < q → x < lesser p q
unfolding lesser
lesser-above x p q h k = go (ltb p q)
  where
    go : (b : Bool) → x < cond b p q
    go true = h
    go false = k
