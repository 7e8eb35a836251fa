-- The lines on the way through one pass: what has come down stands in front, what is still to be read at the far end; together they are the lines so far.
-- Assumes nothing.
use Rattle.std.specs.Prelude.{ℕ, ◌+◌, ◌-◌, ◌*◌, ◌%◌, ◌≤◌, ◌<◌, ◌≡◌, refl, Bool, true, false, List, ltb, length, get_or}
use Rattle.std.proofs.Common.{sym, ◌∙◌, arith, ltb-true, ltb-false}
use Rattle.std.proofs.Math.Path.{subst}
use Rattle.std.specs.Float.{nan}
use Rattle.sparse.specs.Places.{most_rows}
use Rattle.layout.specs.cells.Names.{row_span, cell_room, last_place}
use Rattle.layout.specs.cells.Reads.{ascending-lt}
use Rattle.layout.specs.cells.Edges.{Begins, Ends}
use Rattle.waist.specs.merging.Merge.{RunOf, Placed}
use Rattle.waist.specs.substituting.Held.{held-room}
use Rattle.waist.specs.substituting.Lines.{Lines, HeldIn}

-- how far the cells at the far end, n in all, stand from where they stood
abbrev pub far : ℕ → ℕ
far n = cell_room - n

-- u are the tables, with as many cells in front as u's size, of rows before i, and the rest from place s on; t are the lines that they stand for. keys₀ are the n keys before the pass
pub record Apart (n : ℕ) (keys₀ : List ℕ) (i s : ℕ) (u t : Lines) : Type 0 where
  pub front : (j : ℕ) → j < u.size → get_or u.keys j 0 ≡ get_or t.keys j 0
  pub fronts : (j : ℕ) → j < u.size → get_or u.vals j nan ≡ get_or t.vals j nan
  pub back : (j : ℕ) → s + j < cell_room → get_or u.keys (s + j) 0 ≡ get_or t.keys (u.size + j) 0
  pub backs : (j : ℕ) → s + j < cell_room → get_or u.vals (s + j) nan ≡ get_or t.vals (u.size + j) nan
  pub size : t.size ≡ u.size + (cell_room - s)
  pub most : s ≤ cell_room
  pub least : far n ≤ s
  pub few : n ≤ cell_room
  pub under : (j : ℕ) → j < u.size → get_or t.keys j 0 < i * row_span
  pub kept : (j : ℕ) → j < n → s ≤ j + far n → get_or u.keys (j + far n) 0 ≡ get_or keys₀ j 0
  pub gone : (j : ℕ) → j < n → j + far n < s → get_or keys₀ j 0 < i * row_span
  pub wide : length u.keys ≡ cell_room
  pub wides : length u.vals ≡ cell_room
  pub reals : u.reals ≡ t.reals
  pub mark : u.mark ≡ t.mark

-- cell c of the far end is row i's at place `at`, and there is room in front
pub record Ready (i at b s c : ℕ) (keys : List ℕ) : Type 0 where
  pub up : (x y : ℕ) → s ≤ x → x < y → y < cell_room → get_or keys x 0 < get_or keys y 0
  pub placed : (x : ℕ) → s ≤ x → x < cell_room → (1 ≤ get_or keys x 0 % row_span) × (get_or keys x 0 % row_span ≤ last_place)
  pub here : get_or keys c 0 ≡ i * row_span + at
  pub from : s ≤ c
  pub to : c < cell_room
  pub room : b + last_place ≤ s
  pub place : at ≤ last_place

-- ---- the lines that the tables stand for

module _ (n : ℕ) (keys₀ : List ℕ) (i s : ℕ) (u t : Lines) (p : Apart n keys₀ i s u t) where
  pub at-far : (x : ℕ) → s ≤ x → x < cell_room → get_or u.keys x 0 ≡ get_or t.keys (u.size + (x - s)) 0
  at-far x a b =
      let o : s + (x - s) ≡ x = omega (arith, a) in
      subst (λ (z : ℕ). get_or u.keys z 0 ≡ get_or t.keys (u.size + (x - s)) 0) o (p.back (x - s) (omega (arith, a, b)))

  pub at-fars : (x : ℕ) → s ≤ x → x < cell_room → get_or u.vals x nan ≡ get_or t.vals (u.size + (x - s)) nan
  at-fars x a b =
      let o : s + (x - s) ≡ x = omega (arith, a) in
      subst (λ (z : ℕ). get_or u.vals z nan ≡ get_or t.vals (u.size + (x - s)) nan) o (p.backs (x - s) (omega (arith, a, b)))

  pub inside : (x : ℕ) → s ≤ x → x < cell_room → u.size + (x - s) < t.size
  inside x a b = let z = p.size in omega (arith, z, a, b)

  module _ (count : ℕ) (few : count ≤ most_rows) (h : HeldIn count t) where
    pub apart-room : u.size + last_place ≤ s
    apart-room = let r = held-room count t.size t.keys t.vals h few in let z = p.size in let k = p.most in omega (arith, r, z, k)

    pub far-up : (x y : ℕ) → s ≤ x → x < y → y < cell_room → get_or u.keys x 0 < get_or u.keys y 0
    far-up x y a b c =
        let o = ascending-lt t.keys t.size (u.size + (x - s)) (u.size + (y - s)) h.up (omega (arith, a, b)) (inside y (omega (arith, a, b)) c) in
        let e = at-far x a (omega (arith, b, c)) in
        let f = at-far y (omega (arith, a, b)) c in
        omega (arith, o, e, f)

    far-placed : (x : ℕ) → s ≤ x → x < cell_room → (1 ≤ get_or u.keys x 0 % row_span) × (get_or u.keys x 0 % row_span ≤ last_place)
    unfolding Placed
    far-placed x a b = subst (λ (z : ℕ). (1 ≤ z % row_span) × (z % row_span ≤ last_place)) (sym (at-far x a b)) (h.placed (u.size + (x - s)) (inside x a b))

    -- the cell that stood at place c before the pass is row i's
    pub apart_ready : (at c : ℕ) → at ≤ last_place → c < n → get_or keys₀ c 0 ≡ i * row_span + at → Ready i at u.size s (c + far n) u.keys
    apart_ready at c l a e =
        let f : s ≤ c + far n = stays (ltb (c + far n) s) refl in
        let k = p.few in
        record { up = far-up; placed = far-placed; here = p.kept c a f ∙ e; from = f; to = omega (arith, a, k); room = apart-room; place = l }
      where
        stays : (b : Bool) → ltb (c + far n) s ≡ b → s ≤ c + far n
        stays true q = let g = p.gone c a (ltb-true (c + far n) s q) in absurd (omega (arith, g, e))
        stays false q = ltb-false (c + far n) s q

-- ---- the run of row i at the far end

module _ (i at b s c : ℕ) (keys : List ℕ) (r : Ready i at b s c keys) (a e : ℕ) (f : Begins keys (i * row_span) s c a) (g : Ends keys (i * row_span + row_span) c cell_room e) where
  pub past-cell : c < e
  past-cell = go (ltb c e) refl
    where
      go : (x : Bool) → ltb c e ≡ x → c < e
      go true q = ltb-true c e q
      go false q =
          let l = ltb-false c e q in
          let o : e ≡ c = let m = g.from in omega (arith, l, m) in
          let k = r.here in
          let w = r.place in
          let t = g.after (let v = r.to in omega (arith, o, v)) in
          let t₁ : i * row_span + row_span ≤ get_or keys c 0 = subst (λ (z : ℕ). i * row_span + row_span ≤ get_or keys z 0) o t in
          absurd (omega (arith, t₁, k, w))

  pub run-under : (x : ℕ) → s ≤ x → x < a → get_or keys x 0 < i * row_span
  run-under x u v = go (ltb x (a - 1)) refl
    where
      last : get_or keys (a - 1) 0 < i * row_span
      last = f.before (omega (arith, u, v))

      go : (z : Bool) → ltb x (a - 1) ≡ z → get_or keys x 0 < i * row_span
      go true q =
          let o = r.up x (a - 1) u (ltb-true x (a - 1) q) (let m = f.to in let n = r.to in omega (arith, m, n, v)) in
          omega (arith, o, last)
      go false q =
          let o : a - 1 ≡ x = omega (arith, v, ltb-false x (a - 1) q) in
          subst (λ (z : ℕ). get_or keys z 0 < i * row_span) o last

  pub run-over : (x : ℕ) → s ≤ x → x < e → get_or keys x 0 < i * row_span + row_span
  run-over x u v = go (ltb x c) refl
    where
      go : (z : Bool) → ltb x c ≡ z → get_or keys x 0 < i * row_span + row_span
      go true q =
          let o = r.up x c u (ltb-true x c q) r.to in
          let k = r.here in
          let w = r.place in
          omega (arith, o, k, w)
      go false q = g.inside x (ltb-false x c q) v

  pub run-from : (x : ℕ) → a ≤ x → x < e → i * row_span ≤ get_or keys x 0
  run-from x u v = go (ltb x c) refl (ltb c x) refl
    where
      go : (z : Bool) → ltb x c ≡ z → (y : Bool) → ltb c x ≡ y → i * row_span ≤ get_or keys x 0
      go true q y w = f.inside x u (ltb-true x c q)
      go false q true w =
          let o = r.up c x r.from (ltb-true c x w) (let m = g.to in omega (arith, v, m)) in
          let k = r.here in
          omega (arith, o, k)
      go false q false w =
          let o : c ≡ x = omega (arith, ltb-false x c q, ltb-false c x w) in
          let k = r.here in
          subst (λ (z : ℕ). i * row_span ≤ get_or keys z 0) o (omega (arith, k))

  pub far-run : RunOf keys i a e
  far-run =
      let af = f.from in
      let et = g.to in
      record {
        up = λ x y u v w. r.up x y (omega (arith, u, af)) v (omega (arith, w, et));
        low = λ x u v. above (get_or keys x 0) (run-from x u v) (r.placed x (omega (arith, u, af)) (omega (arith, v, et))).0;
        high = λ x u v. below (get_or keys x 0) (run-from x u v) (run-over x (omega (arith, u, af)) v) (r.placed x (omega (arith, u, af)) (omega (arith, v, et))).1;
      }
    where
      above : (x : ℕ) → i * row_span ≤ x → 1 ≤ x % row_span → i * row_span < x
      above x u v = omega (arith, u, v)

      below : (x : ℕ) → i * row_span ≤ x → x < i * row_span + row_span → x % row_span ≤ last_place → x ≤ i * row_span + last_place
      below x u v w = omega (arith, u, v, w)
