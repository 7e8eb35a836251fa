-- One turn of the merge after the other: what is left from the lesser front on gives the whole.
-- Assumes nothing.
use Rattle.std.specs.Prelude.{ℕ, suc, ◌+◌, ◌-◌, ◌*◌, ◌≤◌, ◌<◌, ◌≡◌, refl, Bool, true, false, cond, List, ◌∷◌, eqb, ltb, Float}
use Rattle.std.proofs.Math.Path.{sym, ap}
use Rattle.std.proofs.Common.{◌∙◌, subst, arith, ltb-true, ltb-false}
use Rattle.std.specs.Float.Ieee.{nan, ne}
use Rattle.std.proofs.Math.ListN.{get_or}
use Rattle.laws.specs.Loops.{run, run-next, run-last}
use Rattle.laws.specs.Lists.{tab, get_or-tab}
use Rattle.steps.specs.Number.{zero64, Mark, all_whole}
use Rattle.steps.specs.Symbol.{open_symbol}
use Rattle.steps.specs.Row.{cell_value}
use Rattle.rows.specs.Marks.{insert_times-is}
use Rattle.rows.specs.Table.{inserted_value, inserted_mark, passed-mark}
use Rattle.layout.specs.cells.Names.{row_span, last_place}
use Rattle.layout.specs.cells.Cells.{Cells, cells, put_if, pack_turn, packed}
use Rattle.layout.specs.cells.Pack.{put-off}
use Rattle.layout.specs.cells.Column.{zero-absent}
use Rattle.waist.specs.merging.Skip.{run-skip}
use Rattle.waist.specs.merging.Merge.{RunOf, front_of, lesser, own_value, own_cell, other_cell, merged_row, mark_turn, merged_mark}
use Rattle.waist.specs.merging.Fronts.{front-live, front-end, front-most, front_low, front-high, front-first, front-up, Behind, behind-next, behind_more, front-here, front-none, lesser-left, lesser-right, lesser-le, lesser-above}

-- ---- a place that the loose row has no cell at
pub inserted-none : (cutoff k c : Float) → inserted_value cutoff k c zero64 ≡ c
unfolding inserted_value cell_value
inserted-none cutoff k c = rw (insert_times-is cutoff k zero64 c, zero-absent) refl

pub marked-none : (cutoff bound k c : Float) (m : Mark) → inserted_mark cutoff bound k m c zero64 ≡ m
marked-none cutoff bound k c m = sym (passed-mark cutoff bound k c zero64 m zero-absent)

zero-off : ne zero64 zero64 ≡ false
unfolding open_symbol
zero-off = refl

own-zero : (at p : ℕ) → own_value at p zero64 ≡ zero64
unfolding own_value
own-zero at p = go (eqb p at)
  where
    go : (b : Bool) → cond b zero64 zero64 ≡ zero64
    go true = refl
    go false = refl

pub row_at : (cutoff k : Float) (c o : ℕ → Float) (p : ℕ) → 1 ≤ p → p ≤ last_place → get_or (merged_row cutoff k c o) p nan ≡ inserted_value cutoff k (c p) (o p)
unfolding merged_row
row_at cutoff k c o p h l =
    let e : p ≡ suc (p - 1) = omega arith in
    let d : 1 + (p - 1) ≡ p = omega arith in
    ap (λ (z : ℕ). get_or (zero64 ∷ tab (λ p. inserted_value cutoff k (c p) (o p)) 1 last_place) z nan) e
    ∙ get_or-tab (λ p. inserted_value cutoff k (c p) (o p)) 1 last_place (p - 1) nan (omega arith)
    ∙ ap (λ (z : ℕ). inserted_value cutoff k (c z) (o z)) d

pub put-value : (key : ℕ) (v v' : Float) (s : Cells) {t : Cells} → t ≡ put_if key v s → v ≡ v' → t ≡ put_if key v' s
put-value key v v' s h q = h ∙ ap (λ (z : Float). put_if key z s) q

pack-is : (i : ℕ) (row : List Float) (y : ℕ) (t : Cells) → pack_turn i row y t ≡ put_if (i * row_span + y) (get_or row y nan) t
unfolding pack_turn
pack-is i row y t = refl

mark-is : (cutoff bound k : Float) (c o : ℕ → Float) (y : ℕ) (w : Mark) → mark_turn cutoff bound k c o y w ≡ inserted_mark cutoff bound k w (c y) (o y)
unfolding mark_turn
mark-is cutoff bound k c o y w = refl

module _ (cutoff : Float) (keys : List ℕ) (vals : List Float) (a e i at : ℕ) (cols : List ℕ) (others : List Float) (m : ℕ) (k bound : Float) where
  abbrev c : ℕ → Float
  c = own_cell keys vals a e i at

  abbrev o : ℕ → Float
  o = other_cell cols others m

  abbrev row : List Float
  row = merged_row cutoff k c o

  abbrev x : ℕ → ℕ → ℕ
  x s j = lesser (front_of keys s e) (front_of cols j m)

  -- s and j cells are done of the two runs: what stands in the loose tables and the mark, with what is left from the lesser front on, are the whole
  pub record Merging (s j : ℕ) (t : Cells) (w : Mark) (u : Cells) : Type 0 where
    pub outs : run (pack_turn i row) (x s j) (last_place + 1) t ≡ packed last_place i row u
    pub marks : run (mark_turn cutoff bound k c o) (x s j) (last_place + 1) w ≡ merged_mark cutoff bound k c o
    pub mine : Behind keys i a s (x s j)
    pub theirs : Behind cols 0 0 j (x s j)
    pub begun : a ≤ s
    pub within : s ≤ e
    pub loose : j ≤ m
    pub few : t.size ≤ x s j

  module _ (R : RunOf keys i a e) (L : RunOf cols 0 0 m) where
    own-none : (s y : ℕ) → a ≤ s → s ≤ e → Behind keys i a s y → y < front_of keys s e → c y ≡ zero64
    unfolding own_cell
    own-none s y u v b l = ap (own_value at y) (front-none keys i a e R vals s y u v b l) ∙ own-zero at y

    other_none : (j y : ℕ) → j ≤ m → Behind cols 0 0 j y → y < front_of cols j m → o y ≡ zero64
    unfolding other_cell
    other_none j y v b l = front-none cols 0 0 m L others j y (omega arith) v b l

    -- nothing is laid down, nothing marked, where neither has a cell
    idle : (y : ℕ) (t : Cells) → 1 ≤ y → y < last_place + 1 → c y ≡ zero64 → o y ≡ zero64 → pack_turn i row y t ≡ t
    unfolding pack_turn
    idle y t h l p q =
        let v : get_or row y nan ≡ zero64 = row_at cutoff k c o y h (omega (arith, l)) ∙ ap (λ (z : Float). inserted_value cutoff k (c y) z) q ∙ inserted-none cutoff k (c y) ∙ p in
        sym (put-off (i * row_span + y) (get_or row y nan) t (ap (λ (z : Float). ne z zero64) v ∙ zero-off))

    idle-mark : (y : ℕ) (w : Mark) → o y ≡ zero64 → mark_turn cutoff bound k c o y w ≡ w
    unfolding mark_turn
    idle-mark y w q = ap (λ (z : Float). inserted_mark cutoff bound k w (c y) z) q ∙ marked-none cutoff bound k (c y) w

    pub merging_start : (u : Cells) → u.size ≡ 0 → a ≤ e → Merging a 0 u all_whole u
    unfolding packed merged_mark
    merging_start u z h =
        let f₁ : 1 ≤ front_of keys a e = front-first keys i a e R a (omega arith) in
        let f₂ : 1 ≤ front_of cols 0 m = front-first cols 0 0 m L 0 (omega arith) in
        let f : 1 ≤ x a 0 = let g = lesser-above 0 (front_of keys a e) (front_of cols 0 m) (omega (arith, f₁)) (omega (arith, f₂)) in omega (arith, g) in
        let le = lesser-le (front_of keys a e) (front_of cols 0 m) in
        let b₁ : (y : ℕ) → Behind keys i a a y = λ y t p q. absurd (omega (arith, p, q)) in
        let b₂ : (y : ℕ) → Behind cols 0 0 0 y = λ y t p q. absurd (omega (arith, q)) in
        record {
          outs = sym (run-skip (pack_turn i row) 1 (x a 0) (last_place + 1) u f λ y p q r. idle y u p r (own-none a y (omega arith) h (b₁ y) (omega (arith, q, le.0))) (other_none 0 y (omega arith) (b₂ y) (omega (arith, q, le.1))));
          marks = sym (run-skip (mark_turn cutoff bound k c o) 1 (x a 0) (last_place + 1) all_whole f λ y p q r. idle-mark y all_whole (other_none 0 y (omega arith) (b₂ y) (omega (arith, q, le.1))));
          mine = b₁ (x a 0);
          theirs = b₂ (x a 0);
          begun = omega arith;
          within = h;
          loose = omega arith;
          few = omega (arith, z);
        }

    -- a turn: the cell at the lesser front y is laid down and marked, and each run whose front it was goes on
    turn : (s j s' j' : ℕ) (t t' : Cells) (w w' : Mark) (u : Cells) → Merging s j t w u → x s j ≤ last_place → 1 ≤ x s j → x s j < x s' j' → a ≤ s' → s' ≤ e → j' ≤ m
        → Behind keys i a s' (x s j + 1) → Behind cols 0 0 j' (x s j + 1)
        → t' ≡ put_if (i * row_span + x s j) (inserted_value cutoff k (c (x s j)) (o (x s j))) t → w' ≡ inserted_mark cutoff bound k w (c (x s j)) (o (x s j)) → t'.size ≤ t.size + 1 → Merging s' j' t' w' u
    turn s j s' j' t t' w w' u g h l n p q r b₁ b₂ e₁ e₂ z =
        let y : ℕ = x s j in
        let le = lesser-le (front_of keys s' e) (front_of cols j' m) in
        let none₁ : (v : ℕ) → y + 1 ≤ v → v < x s' j' → c v ≡ zero64 = λ v d f. own-none s' v p q (behind_more keys i a e R s' (y + 1) v b₁ d) (omega (arith, f, le.0)) in
        let none₂ : (v : ℕ) → y + 1 ≤ v → v < x s' j' → o v ≡ zero64 = λ v d f. other_none j' v r (behind_more cols 0 0 m L j' (y + 1) v b₂ d) (omega (arith, f, le.1)) in
        let few = g.few in
        record {
          outs =
              sym (run-skip (pack_turn i row) (y + 1) (x s' j') (last_place + 1) t' (omega (arith, n)) λ v d f v₁. idle v t' (omega (arith, d)) v₁ (none₁ v d f) (none₂ v d f))
              ∙ run-next (pack_turn i row) y (last_place + 1) t (omega (arith, h)) (laid e₁) g.outs;
          marks =
              sym (run-skip (mark_turn cutoff bound k c o) (y + 1) (x s' j') (last_place + 1) w' (omega (arith, n)) λ v d f v₁. idle-mark v w' (none₂ v d f))
              ∙ run-next (mark_turn cutoff bound k c o) y (last_place + 1) w (omega (arith, h)) (noted e₂) g.marks;
          mine = behind_more keys i a e R s' (y + 1) (x s' j') b₁ (omega (arith, n));
          theirs = behind_more cols 0 0 m L j' (y + 1) (x s' j') b₂ (omega (arith, n));
          begun = p;
          within = q;
          loose = r;
          few = omega (arith, z, few, n);
        }
      where
        laid : t' ≡ put_if (i * row_span + x s j) (inserted_value cutoff k (c (x s j)) (o (x s j))) t → t' ≡ pack_turn i row (x s j) t
        laid e₁ = e₁ ∙ sym (packs (x s j) t l h)
          where
            packs : (y : ℕ) (t : Cells) → 1 ≤ y → y ≤ last_place → pack_turn i row y t ≡ put_if (i * row_span + y) (inserted_value cutoff k (c y) (o y)) t
            packs y t l h = pack-is i row y t ∙ ap (λ (v : Float). put_if (i * row_span + y) v t) (row_at cutoff k c o y l h)

        noted : w' ≡ inserted_mark cutoff bound k w (c (x s j)) (o (x s j)) → w' ≡ mark_turn cutoff bound k c o (x s j) w
        noted e₂ = e₂ ∙ sym (mark-is cutoff bound k c o (x s j) w)

    module _ (s j : ℕ) (t t' : Cells) (w : Mark) (u : Cells) (g : Merging s j t w u) (z : t'.size ≤ t.size + 1) where
      abbrev p : ℕ
      p = front_of keys s e

      abbrev q : ℕ
      q = front_of cols j m

      own_at : s < e → c p ≡ own_value at p (get_or vals s nan)
      unfolding own_cell
      own_at l = ap (own_value at p) (front-here keys i a e R vals s g.begun l)

      other_at : j < m → o q ≡ get_or others j nan
      unfolding other_cell
      other_at l = front-here cols 0 0 m L others j (omega arith) l

      -- the row's own cell alone
      pub merging-own : p < q → t' ≡ put_if (i * row_span + p) (own_value at p (get_or vals s nan)) t → Merging (s + 1) j t' w u
      merging-own h d =
          let ex : x s j ≡ p = lesser-left p q h in
          let l : s < e = front-live keys s e (let v = front-most cols j m in omega (arith, h, v)) in
          let hi = front-high keys i a e R s g.begun l in
          let lo = front_low keys i a e R s g.begun l in
          let up = front-up keys i a e R s g.begun l in
          let b = g.begun in
          let none : o p ≡ zero64 = other_none j p g.loose (subst (λ (y : ℕ). Behind cols 0 0 j y) ex g.theirs) h in
          let value : inserted_value cutoff k (c p) (o p) ≡ own_value at p (get_or vals s nan) = ap (inserted_value cutoff k (c p)) none ∙ inserted-none cutoff k (c p) ∙ own_at l in
          turn s j (s + 1) j t t' w w u g (omega (arith, ex, hi)) (omega (arith, ex, lo))
          (lesser-above (x s j) (front_of keys (s + 1) e) q (omega (arith, ex, up)) (omega (arith, ex, h)))
          (omega (arith, b)) (omega (arith, l)) g.loose
          (behind-next keys i a e R s (x s j) (x s j + 1) g.begun l g.mine (omega arith) (omega (arith, ex)))
          (behind_more cols 0 0 m L j (x s j) (x s j + 1) g.theirs (omega arith))
          (subst (λ (y : ℕ). t' ≡ put_if (i * row_span + y) (inserted_value cutoff k (c y) (o y)) t) (sym ex) (d ∙ ap (λ (v : Float). put_if (i * row_span + p) v t) (sym value)))
          (subst (λ (y : ℕ). w ≡ inserted_mark cutoff bound k w (c y) (o y)) (sym ex) (sym (ap (λ (v : Float). inserted_mark cutoff bound k w (c p) v) none ∙ marked-none cutoff bound k (c p) w)))
          z

      module _ (w' : Mark) where
        abbrev Made : Float → Type 0
        Made v = (t' ≡ put_if (i * row_span + q) (inserted_value cutoff k v (get_or others j nan)) t) × (w' ≡ inserted_mark cutoff bound k w v (get_or others j nan))

        made : (v : Float) → Made v → j < m → c q ≡ v → (t' ≡ put_if (i * row_span + q) (inserted_value cutoff k (c q) (o q)) t) × (w' ≡ inserted_mark cutoff bound k w (c q) (o q))
        made v f l n = rw (other_at l, n) f

        -- the loose row's cell alone
        pub merging-other : q < p → (t' ≡ put_if (i * row_span + q) (inserted_value cutoff k zero64 (get_or others j nan)) t) × (w' ≡ inserted_mark cutoff bound k w zero64 (get_or others j nan)) → Merging s (j + 1) t' w' u
        merging-other h f =
            let ex : x s j ≡ q = lesser-right p q (omega (arith, h)) in
            let l : j < m = front-live cols j m (let v = front-most keys s e in omega (arith, h, v)) in
            let hi = front-high cols 0 0 m L j (omega arith) l in
            let lo = front_low cols 0 0 m L j (omega arith) l in
            let up = front-up cols 0 0 m L j (omega arith) l in
            let none : c q ≡ zero64 = own-none s q g.begun g.within (subst (λ (y : ℕ). Behind keys i a s y) ex g.mine) h in
            let both = made zero64 f l none in
            turn s j s (j + 1) t t' w w' u g (omega (arith, ex, hi)) (omega (arith, ex, lo))
            (lesser-above (x s j) p (front_of cols (j + 1) m) (omega (arith, ex, h)) (omega (arith, ex, up)))
            g.begun g.within (omega (arith, l))
            (behind_more keys i a e R s (x s j) (x s j + 1) g.mine (omega arith))
            (behind-next cols 0 0 m L j (x s j) (x s j + 1) (omega arith) l g.theirs (omega arith) (omega (arith, ex)))
            (subst (λ (y : ℕ). t' ≡ put_if (i * row_span + y) (inserted_value cutoff k (c y) (o y)) t) (sym ex) both.0)
            (subst (λ (y : ℕ). w' ≡ inserted_mark cutoff bound k w (c y) (o y)) (sym ex) both.1)
            z

        -- a cell of each
        pub merging-both : p ≡ q → s < e → j < m → (t' ≡ put_if (i * row_span + q) (inserted_value cutoff k (own_value at p (get_or vals s nan)) (get_or others j nan)) t) × (w' ≡ inserted_mark cutoff bound k w (own_value at p (get_or vals s nan)) (get_or others j nan)) → Merging (s + 1) (j + 1) t' w' u
        merging-both h l₁ l f =
            let ex : x s j ≡ q = lesser-right p q (omega (arith, h)) in
            let hi = front-high cols 0 0 m L j (omega arith) l in
            let lo = front_low cols 0 0 m L j (omega arith) l in
            let up = front-up cols 0 0 m L j (omega arith) l in
            let up₁ = front-up keys i a e R s g.begun l₁ in
            let b₁ = g.begun in
            let both = made (own_value at p (get_or vals s nan)) f l (sym (ap c h) ∙ own_at l₁) in
            turn s j (s + 1) (j + 1) t t' w w' u g (omega (arith, ex, hi)) (omega (arith, ex, lo))
            (lesser-above (x s j) (front_of keys (s + 1) e) (front_of cols (j + 1) m) (omega (arith, ex, h, up₁)) (omega (arith, ex, up)))
            (omega (arith, b₁)) (omega (arith, l₁)) (omega (arith, l))
            (behind-next keys i a e R s (x s j) (x s j + 1) g.begun l₁ g.mine (omega arith) (omega (arith, ex, h)))
            (behind-next cols 0 0 m L j (x s j) (x s j + 1) (omega arith) l g.theirs (omega arith) (omega (arith, ex)))
            (subst (λ (y : ℕ). t' ≡ put_if (i * row_span + y) (inserted_value cutoff k (c y) (o y)) t) (sym ex) both.0)
            (subst (λ (y : ℕ). w' ≡ inserted_mark cutoff bound k w (c y) (o y)) (sym ex) both.1)
            z

    -- both runs are done
    pub merging-end : (s j : ℕ) (t : Cells) (w : Mark) (u : Cells) → Merging s j t w u → e + m ≤ s + j → (t ≡ packed last_place i row u) × (w ≡ merged_mark cutoff bound k c o)
    merging-end s j t w u g h =
        let b = g.within in
        let d = g.loose in
        let f₁ = front-end keys s e (omega (arith, h, b, d)) in
        let f₂ = front-end cols j m (omega (arith, h, b, d)) in
        let v : last_place < x s j = lesser-above last_place (front_of keys s e) (front_of cols j m) (omega (arith, f₁)) (omega (arith, f₂)) in
        (run-last (pack_turn i row) (x s j) (last_place + 1) t (omega (arith, v)) g.outs, run-last (mark_turn cutoff bound k c o) (x s j) (last_place + 1) w (omega (arith, v)) g.marks)

    -- where the fronts meet before the end, both runs have a cell there; and there is room for it
    pub merging-first : (s j p q : ℕ) (t : Cells) (w : Mark) (u : Cells) → Merging s j t w u → p ≡ front_of keys s e → q ≡ front_of cols j m → p < q → (s < e) × (t.size ≤ last_place)
    merging-first s j p q t w u g f₁ f₂ h =
        let v = front-most cols j m in
        let l : s < e = front-live keys s e (omega (arith, f₁, f₂, h, v)) in
        let hi = front-high keys i a e R s g.begun l in
        let few = g.few in
        (l, omega (arith, few, hi, (lesser-le (front_of keys s e) (front_of cols j m)).0))

    pub merging-second : (s j p q : ℕ) (t : Cells) (w : Mark) (u : Cells) → Merging s j t w u → p ≡ front_of keys s e → q ≡ front_of cols j m → q < p → (j < m) × (t.size ≤ last_place)
    merging-second s j p q t w u g f₁ f₂ h =
        let v = front-most keys s e in
        let l : j < m = front-live cols j m (omega (arith, f₁, f₂, h, v)) in
        let hi = front-high cols 0 0 m L j (omega arith) l in
        let few = g.few in
        (l, omega (arith, few, hi, (lesser-le (front_of keys s e) (front_of cols j m)).1))

    pub merging-live : (s j : ℕ) (t : Cells) (w : Mark) (u : Cells) → Merging s j t w u → s + j < e + m → front_of keys s e ≡ front_of cols j m → (s < e) × (j < m)
    merging-live s j t w u g h f = go (ltb s e) refl (ltb j m) refl
      where
        go : (b : Bool) → ltb s e ≡ b → (d : Bool) → ltb j m ≡ d → (s < e) × (j < m)
        go true v true y = (ltb-true s e v, ltb-true j m y)
        go true v false y =
            let l = front-high keys i a e R s g.begun (ltb-true s e v) in
            let f₂ = front-end cols j m (ltb-false j m y) in
            absurd (omega (arith, f, l, f₂))
        go false v true y =
            let l = front-high cols 0 0 m L j (omega arith) (ltb-true j m y) in
            let f₁ = front-end keys s e (ltb-false s e v) in
            absurd (omega (arith, f, l, f₁))
        go false v false y = absurd (omega (arith, h, ltb-false s e v, ltb-false j m y))

    pub merging-third : (s j p q : ℕ) (t : Cells) (w : Mark) (u : Cells) → Merging s j t w u → p ≡ front_of keys s e → q ≡ front_of cols j m → q ≤ p → p ≤ q → s + j < e + m → (s < e) × (j < m) × (t.size ≤ last_place)
    merging-third s j p q t w u g f₁ f₂ h k l =
        let b = merging-live s j t w u g l (omega (arith, f₁, f₂, h, k)) in
        let hi = front-high keys i a e R s g.begun b.0 in
        let few = g.few in
        (b.0, b.1, omega (arith, few, hi, (lesser-le (front_of keys s e) (front_of cols j m)).0))

    -- the three turns, as the code makes them
    module _ (s j p q base n n' : ℕ) (ks ks' : List ℕ) (vs vs' : List Float) (w : Mark) (u : Cells) (g : Merging s j (cells ks vs n) w u) (eb : base ≡ i * row_span) (f₁ : p ≡ front_of keys s e) (f₂ : q ≡ front_of cols j m) (z : n' ≤ n + 1) where
      pub own_turn : (v : Float) → p < q → v ≡ own_value at p (get_or vals s nan) → cells ks' vs' n' ≡ put_if (base + p) v (cells ks vs n) → Merging (s + 1) j (cells ks' vs' n') w u
      own_turn v h ev d = merging-own s j (cells ks vs n) (cells ks' vs' n') w u g z (rw (← f₁, ← f₂) h) (rw (← f₁, ← ev, ← eb) d)

      pub other-turn : (w' : Mark) → q < p → cells ks' vs' n' ≡ put_if (base + q) (inserted_value cutoff k zero64 (get_or others j nan)) (cells ks vs n) → w' ≡ inserted_mark cutoff bound k w zero64 (get_or others j nan) → Merging s (j + 1) (cells ks' vs' n') w' u
      other-turn w' h d r = merging-other s j (cells ks vs n) (cells ks' vs' n') w u g z w' (rw (← f₁, ← f₂) h) (rw (← f₂, ← eb) d, r)

      pub both-turn : (w' : Mark) (v : Float) → q ≤ p → p ≤ q → s + j < e + m → v ≡ own_value at p (get_or vals s nan) → cells ks' vs' n' ≡ put_if (base + q) (inserted_value cutoff k v (get_or others j nan)) (cells ks vs n) → w' ≡ inserted_mark cutoff bound k w v (get_or others j nan) → Merging (s + 1) (j + 1) (cells ks' vs' n') w' u
      both-turn w' v h l b ev d r =
          let live = merging-third s j p q (cells ks vs n) w u g f₁ f₂ h l b in
          merging-both s j (cells ks vs n) (cells ks' vs' n') w u g z w' (omega (arith, f₁, f₂, h, l)) live.0 live.1 (rw (← f₁, ← f₂, ← ev, ← eb) d, rw (← f₁, ← ev) r)
