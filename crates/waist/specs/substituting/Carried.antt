-- One line of the pass: its run, merged, comes down behind what stood before it, and the tables stand for the lines with that line substituted.
-- Assumes nothing.
use Rattle.std.specs.Prelude.{ℕ, ◌+◌, ◌-◌, ◌*◌, ◌≤◌, ◌<◌, ◌≡◌, Bool, true, false, List, ltb, Float, length, set}
use Rattle.std.proofs.Math.Path.{refl, sym, ap, subst, fun_ext}
use Rattle.std.proofs.Common.{◌∙◌, arith, ltb-true, ltb-false}
use Rattle.std.specs.Float.{nan}
use Rattle.std.proofs.Math.ListN.{get_or}
use Rattle.steps.specs.Number.{cell_bound, constant_bound, ◌+₆₄◌, ◌*₆₄◌, Mark, worse, mark_write}
use Rattle.steps.specs.Symbol.{absent}
use Rattle.sparse.specs.Places.{most_rows, constants_at}
use Rattle.layout.specs.cells.Names.{row_span, cell_room, row_room, last_place}
use Rattle.layout.specs.cells.Cells.{Cells, cells, Present, lower_in, cell_in, cell_at, moved, packed, counted, replaced_at, replaced}
use Rattle.layout.specs.cells.Search.{Bound, lower-is}
use Rattle.layout.specs.cells.Slide.{length_moved}
use Rattle.layout.specs.cells.Reads.{cell-here, cell-moved}
use Rattle.layout.specs.cells.Replace.{Replacing, replacing}
use Rattle.layout.specs.cells.Replaced.{counted-le}
use Rattle.layout.specs.cells.Edges.{Begins, Ends}
use Rattle.waist.specs.merging.Merge.{pasted, own_value, own_cell, own_in, other_cell, merged_row, merged_mark, merged_into, merged_into_mark}
use Rattle.waist.specs.merging.Paste.{Pasting, packed-pasted, packed-few}
use Rattle.waist.specs.substituting.Held.{held-room}
use Rattle.waist.specs.substituting.Lines.{Lines, lines, total_of, line_with, held_by, line_in, HeldIn, held-line}
use Rattle.waist.specs.substituting.Pasted.{pasted-stands}
use Rattle.waist.specs.substituting.Descent.{came-long, stayed, front-now, back-now}
use Rattle.waist.specs.substituting.Apart.{far, Apart, Ready, at-far, at-fars, inside, past-cell, run-under, run-over, run-from}

-- whatever lines the tables stand for, they then stand for those with line i substituted
unfoldable pub Carries : (cutoff : Float) (at m : ℕ) (y : Float) (cols : List ℕ) (others : List Float) (i s : ℕ) (u : Lines) (s' : ℕ) (u' : Lines) → Type 0
Carries cutoff at m y cols others i s u s' u' =
    (count n : ℕ) (keys₀ : List ℕ) (t : Lines) → count ≤ most_rows → 1 ≤ i → i ≤ count → HeldIn count t → Apart n keys₀ i s u t → Apart n keys₀ (i + 1) s' u' (line_in cutoff at m y cols others i t)

module _ (cutoff : Float) (at m : ℕ) (y : Float) (cols : List ℕ) (others : List Float) (i s c : ℕ) (u : Lines) (r : Ready i at u.size s c u.keys) (a e : ℕ) (f : Begins u.keys (i * row_span) s c a) (g : Ends u.keys (i * row_span + row_span) c cell_room e)
    (count n : ℕ) (keys₀ : List ℕ) (t : Lines) (few : count ≤ most_rows) (first : 1 ≤ i) (last : i ≤ count) (h : HeldIn count t) (p : Apart n keys₀ i s u t) where
  abbrev b : ℕ
  b = u.size

  -- where the run of row i stands among the lines
  abbrev at₁ : ℕ
  at₁ = b + (a - s)

  abbrev to₁ : ℕ
  to₁ = b + (e - s)

  ordered : (s ≤ a) × (a ≤ c) × (c < e) × (e ≤ cell_room) × (b + last_place ≤ s)
  ordered = (f.from, f.to, past-cell i at b s c u.keys r a e f g, g.to, r.room)

  -- the keys before place z of the lines, where those in front are below x, and so are those of the far end up to z
  below : (x z : ℕ) → s ≤ z → z ≤ cell_room → i * row_span ≤ x → ((q : ℕ) → s ≤ q → q < z → get_or u.keys q 0 < x) → (j : ℕ) → j < b + (z - s) → get_or t.keys j 0 < x
  below x z l k lx w j v = go (ltb j b) refl
    where
      go : (o : Bool) → ltb j b ≡ o → get_or t.keys j 0 < x
      go true q = let d = p.under j (ltb-true j b q) in omega (arith, d, lx)
      go false q =
          let d = ltb-false j b q in
          let o : b + (s + (j - b) - s) ≡ j = omega (arith, d) in
          let k₁ = at-far n keys₀ i s u t p (s + (j - b)) (omega arith) (omega (arith, d, v, k, l)) in
          let k₂ = w (s + (j - b)) (omega arith) (omega (arith, d, v, l)) in
          subst (λ (z : ℕ). get_or t.keys z 0 < x) o (subst (λ (z : ℕ). z < x) k₁ k₂)

  begun : Bound t.keys (i * row_span) 0 t.size at₁
  begun =
      let o = ordered in
      let z = p.size in (
        omega arith,
        omega (arith, o, z),
        (λ j _ v. below (i * row_span) a o.0 (omega (arith, o)) (omega arith) (run-under i at b s c u.keys r a e f g) j v),
        λ _. subst (λ (x : ℕ). i * row_span ≤ x) (at-far n keys₀ i s u t p a o.0 (omega (arith, o))) (run-from i at b s c u.keys r a e f g a (omega arith) (omega (arith, o))),
      )

  ended : Bound t.keys (i * row_span + row_span) 0 t.size to₁
  ended =
      let o = ordered in
      let z = p.size in (
        omega arith,
        omega (arith, o, z),
        (λ j _ v. below (i * row_span + row_span) e (omega (arith, o)) o.3 (omega arith) (run-over i at b s c u.keys r a e f g) j v),
        λ q. let l : e < cell_room = omega (arith, q, o, z) in subst (λ (x : ℕ). i * row_span + row_span ≤ x) (at-far n keys₀ i s u t p e (omega (arith, o)) l) (g.after l),
      )

  starts : lower_in t.keys (i * row_span) 0 t.size ≡ at₁
  starts = lower-is t.keys (i * row_span) 0 t.size begun

  stops : lower_in t.keys (i * row_span + row_span) 0 t.size ≡ to₁
  stops = lower-is t.keys (i * row_span + row_span) 0 t.size ended

  -- ---- the line's cell

  abbrev k : Float
  k = get_or u.vals c nan

  cell-is : k ≡ get_or t.vals (b + (c - s)) nan
  cell-is = let o = ordered in at-fars n keys₀ i s u t p c r.from r.to

  pub held-is : k ≡ held_by cutoff at m y cols others i t
  unfolding held_by cell_at
  held-is =
      let o = ordered in
      let e₁ : get_or t.keys (b + (c - s)) 0 ≡ i * row_span + at = sym (at-far n keys₀ i s u t p c r.from r.to) ∙ r.here in
      cell-is ∙ sym (subst (λ (z : ℕ). cell_at t.keys t.vals t.size z ≡ get_or t.vals (b + (c - s)) nan) e₁ (cell-here t.keys t.vals t.size 0 t.size (b + (c - s)) h.up (omega arith) (inside n keys₀ i s u t p c r.from r.to) (omega arith)))

  present : absent k ≡ false
  unfolding Present
  present = subst (λ (x : Float). absent x ≡ false) (sym cell-is) (h.present (b + (c - s)) (inside n keys₀ i s u t p c r.from r.to))

  abbrev t₁ : Lines
  t₁ = line_with cutoff at m y cols others k i t

  turn_is : line_in cutoff at m y cols others i t ≡ t₁
  unfolding line_in
  turn_is = rw (← held-is, present) refl

  held₁ : HeldIn count t₁
  held₁ = subst (λ (z : Lines). HeldIn count z) turn_is (held-line cutoff at m y cols others count i few first last t h)

  -- ---- the row that comes down

  own_same : own_cell u.keys u.vals a e i at ≡ own_in t.size i at t.keys t.vals
  unfolding own_in own_cell
  own_same =
      rw (starts, stops)
      (fun_ext λ q. ap (own_value at q) (one q))
    where
      one : (q : ℕ) → cell_in u.keys u.vals (i * row_span + q) a e ≡ cell_in t.keys t.vals (i * row_span + q) at₁ to₁
      one q =
          let o = ordered in
          let x : a + (e - a) ≡ e = omega (arith, o) in
          let y : at₁ + (e - a) ≡ to₁ = omega (arith, o) in
          let w = cell-moved u.keys t.keys u.vals t.vals (i * row_span + q) (e - a) a at₁
          (λ j v. at-far n keys₀ i s u t p (a + j) (omega (arith, o)) (omega (arith, o, v)) ∙ ap (λ (z : ℕ). get_or t.keys z 0) (omega (arith, o)))
          (λ j v. at-fars n keys₀ i s u t p (a + j) (omega (arith, o)) (omega (arith, o, v)) ∙ ap (λ (z : ℕ). get_or t.vals z nan) (omega (arith, o))) in
          (rw (x, y) at w)

  module _ (fk fk' k₁ k₂ : List ℕ) (fv fv' v₁ v₂ : List Float) (z : ℕ) (lk : length fk ≡ row_room) (lv : length fv ≡ row_room)
      (q : cells fk' fv' z ≡ packed last_place i (merged_row cutoff k (own_cell u.keys u.vals a e i at) (other_cell cols others m)) (cells fk fv 0))
      (h₁ : k₁ ≡ moved s b (a - s) u.keys) (h₂ : v₁ ≡ moved s b (a - s) u.vals) (h₃ : k₂ ≡ pasted 0 (b + (a - s)) z fk' k₁) (h₄ : v₂ ≡ pasted nan (b + (a - s)) z fv' v₁) where
    abbrev row : List Float
    row = merged_row cutoff k (own_in t.size i at t.keys t.vals) (other_cell cols others m)

    q₁ : cells fk' fv' z ≡ packed last_place i row (cells fk fv 0)
    q₁ = q ∙ ap (λ (o : ℕ → Float). packed last_place i (merged_row cutoff k o (other_cell cols others m)) (cells fk fv 0)) own_same

    abbrev mk : List ℕ
    mk = moved to₁ (at₁ + counted last_place row) (t.size - to₁) t.keys

    abbrev mv : List Float
    mv = moved to₁ (at₁ + counted last_place row) (t.size - to₁) t.vals

    abbrev w : Cells
    w = packed last_place i row (cells mk mv at₁)

    count-is : z ≡ counted last_place row
    count-is = (packed-few at₁ i row mk mv fk fv fk' fv' z q₁).0

    pub few-cells : z ≤ last_place
    few-cells = (packed-few at₁ i row mk mv fk fv fk' fv' z q₁).1

    -- what the line's substitution makes of the cells
    merged : merged_into cutoff t.size i at m k t.keys t.vals cols others ≡ cells w.keys w.vals (t.size - to₁ + (at₁ + counted last_place row))
    unfolding merged_into replaced replaced_at
    merged = rw (starts, stops) refl

    long-enough : (t.size + last_place ≤ length t.keys) × (t.size + last_place ≤ length t.vals)
    long-enough = let f = held-room count t.size t.keys t.vals h few in let x = h.wide in let y = h.wides in (omega (arith, f, x), omega (arith, f, y))

    new : Replacing t.size i last_place at₁ to₁ (counted last_place row) row t.keys t.vals w
    new = let l = long-enough in replacing t.size i last_place at₁ to₁ row t.keys t.vals h.up (begun, ended) (omega arith) l.0 l.1 (counted-le last_place row)

    pastes : Pasting at₁ mk mv (cells fk' fv' z) w
    pastes = subst (λ (x : Cells). Pasting at₁ mk mv x w) (sym q₁) (packed-pasted at₁ i row mk mv fk fv lk lv)

    size₁ : t₁.size ≡ at₁ + z + (cell_room - e)
    unfolding line_with
    size₁ =
        let x : t₁.size ≡ t.size - to₁ + (at₁ + counted last_place row) = ap (λ (x : Cells). x.size) merged in
        let o = ordered in
        let n = p.size in
        let c = count-is in
        omega (arith, x, o, n, c)

    keys₁ : t₁.keys ≡ w.keys
    unfolding line_with
    keys₁ = ap (λ (x : Cells). x.keys) merged

    vals₁ : t₁.vals ≡ w.vals
    unfolding line_with
    vals₁ = ap (λ (x : Cells). x.vals) merged

    fits : at₁ + z ≤ e
    fits = let x = size₁ in let f = held-room count t₁.size t₁.keys t₁.vals held₁ few in let o = ordered in omega (arith, x, f, o)

    tight : (b ≤ s) × (s ≤ a) × (a ≤ length u.keys) × (a ≤ length u.vals) × (at₁ + z ≤ length u.keys) × (at₁ + z ≤ length u.vals)
    tight =
        let o = ordered in
        let x = p.wide in
        let y = p.wides in
        let f = fits in
        (omega (arith, o), o.0, omega (arith, o, x), omega (arith, o, y), omega (arith, o, x, f), omega (arith, o, y, f))

    moves : (to₁ + (t.size - to₁) ≤ cell_room) × (at₁ + counted last_place row + (t.size - to₁) ≤ cell_room)
    moves = let o = ordered in let n = p.size in let c = count-is in let f = fits in (omega (arith, o, n), omega (arith, o, n, c, f))

    mk-long : length mk ≡ cell_room
    mk-long = let m = moves in let x = h.wide in length_moved to₁ (at₁ + counted last_place row) (t.size - to₁) t.keys (omega (arith, m, x)) (omega (arith, m, x)) ∙ x

    mv-long : length mv ≡ cell_room
    mv-long = let m = moves in let x = h.wides in length_moved to₁ (at₁ + counted last_place row) (t.size - to₁) t.vals (omega (arith, m, x)) (omega (arith, m, x)) ∙ x

    fresh-key : (j : ℕ) → j < z → get_or w.keys (at₁ + j) 0 ≡ get_or fk' j 0
    fresh-key j l = ap (λ (x : List ℕ). get_or x (at₁ + j) 0) pastes.keyed ∙ (pasted-stands 0 at₁ fk' mk z (let x = mk-long in let f = fits in let o = ordered in omega (arith, x, f, o))).inside j l

    fresh-val : (j : ℕ) → j < z → get_or w.vals (at₁ + j) nan ≡ get_or fv' j nan
    fresh-val j l = ap (λ (x : List Float). get_or x (at₁ + j) nan) pastes.valued ∙ (pasted-stands nan at₁ fv' mv z (let x = mv-long in let f = fits in let o = ordered in omega (arith, x, f, o))).inside j l

    tail-key : (j : ℕ) → e + j < cell_room → get_or w.keys (at₁ + z + j) 0 ≡ get_or t.keys (to₁ + j) 0
    tail-key j l =
        let o = ordered in
        let n = p.size in
        rw count-is (new.tail j (omega (arith, o, n, l)))

    tail-val : (j : ℕ) → e + j < cell_room → get_or w.vals (at₁ + z + j) nan ≡ get_or t.vals (to₁ + j) nan
    tail-val j l =
        let o = ordered in
        let n = p.size in
        rw count-is (new.tails j (omega (arith, o, n, l)))

    under₁ : (j : ℕ) → j < at₁ + z → get_or w.keys j 0 < (i + 1) * row_span
    under₁ j l = go (ltb j at₁) refl
      where
        go : (x : Bool) → ltb j at₁ ≡ x → get_or w.keys j 0 < (i + 1) * row_span
        go true q = let x = new.under j (ltb-true j at₁ q) in omega (arith, x)
        go false q = let x = new.high j (ltb-false j at₁ q) (let c = count-is in omega (arith, c, l)) in omega (arith, x)

    gone₁ : (j : ℕ) → j < n → j + far n < e → get_or keys₀ j 0 < (i + 1) * row_span
    gone₁ j l v = go (ltb (j + far n) s) refl
      where
        go : (x : Bool) → ltb (j + far n) s ≡ x → get_or keys₀ j 0 < (i + 1) * row_span
        go true q = let x = p.gone j l (ltb-true (j + far n) s q) in omega (arith, x)
        go false q =
            let y = ltb-false (j + far n) s q in
            let x = run-over i at b s c u.keys r a e f g (j + far n) y v in
            let k = p.kept j l y in
            omega (arith, x, k)

    module _ (rs' : List Float) (x : Float) (wm mark' : Mark) (g₁ : x ≡ get_or u.reals (constants_at + i) nan +₆₄ (y *₆₄ k)) (g₂ : rs' ≡ set u.reals (constants_at + i) x)
        (g₃ : wm ≡ merged_mark cutoff cell_bound k (own_cell u.keys u.vals a e i at) (other_cell cols others m)) (g₄ : mark' ≡ worse u.mark (worse (mark_write constant_bound x) wm)) where
      reals₁ : rs' ≡ t₁.reals
      unfolding line_with total_of
      reals₁ = rw (g₂, g₁, p.reals) refl

      mark₁ : mark' ≡ t₁.mark
      unfolding line_with total_of merged_into_mark
      mark₁ = rw (g₄, g₃, g₁, p.reals, p.mark, own_same) refl

      apart₁ : Apart n keys₀ (i + 1) e (lines k₂ v₂ (at₁ + z) rs' mark') t₁
      apart₁ =
          let o = ordered in
          let v = tight in
          let ae : a ≤ e = omega (arith, o) in
          record {
            front = λ j l. front-now 0 b s a z u.keys fk' k₁ k₂ v.0 v.1 v.2 v.4 h₁ h₃ e cell_room t.keys w.keys ae o.3 fits p.front p.back new.lead fresh-key tail-key j l ∙ ap (λ (x : List ℕ). get_or x j 0) (sym keys₁);
            fronts = λ j l. front-now nan b s a z u.vals fv' v₁ v₂ v.0 v.1 v.3 v.5 h₂ h₄ e cell_room t.vals w.vals ae o.3 fits p.fronts p.backs new.leads fresh-val tail-val j l ∙ ap (λ (x : List Float). get_or x j nan) (sym vals₁);
            back = λ j l. back-now 0 b s a z u.keys fk' k₁ k₂ v.0 v.1 v.2 v.4 h₁ h₃ e cell_room t.keys w.keys ae o.3 fits p.front p.back new.lead fresh-key tail-key j l ∙ ap (λ (x : List ℕ). get_or x (at₁ + z + j) 0) (sym keys₁);
            backs = λ j l. back-now nan b s a z u.vals fv' v₁ v₂ v.0 v.1 v.3 v.5 h₂ h₄ e cell_room t.vals w.vals ae o.3 fits p.fronts p.backs new.leads fresh-val tail-val j l ∙ ap (λ (x : List Float). get_or x (at₁ + z + j) nan) (sym vals₁);
            size = size₁;
            most = o.3;
            least = let x = p.least in omega (arith, x, o);
            few = p.few;
            under = λ j l. subst (λ (x : List ℕ). get_or x j 0 < (i + 1) * row_span) (sym keys₁) (under₁ j l);
            kept = λ j l q. stayed 0 b s a z u.keys fk' k₁ k₂ v.0 v.1 v.2 v.4 h₁ h₃ (j + far n) (let x = fits in omega (arith, x, q)) ∙ p.kept j l (omega (arith, o, q));
            gone = gone₁;
            wide = came-long 0 b s a z u.keys fk' k₁ k₂ v.0 v.1 v.2 v.4 h₁ h₃ ∙ p.wide;
            wides = came-long nan b s a z u.vals fv' v₁ v₂ v.0 v.1 v.3 v.5 h₂ h₄ ∙ p.wides;
            reals = reals₁;
            mark = mark₁;
          }

      pub carried : Apart n keys₀ (i + 1) e (lines k₂ v₂ (at₁ + z) rs' mark') (line_in cutoff at m y cols others i t)
      carried = subst (λ (x : Lines). Apart n keys₀ (i + 1) e (lines k₂ v₂ (at₁ + z) rs' mark') x) (sym turn_is) apart₁
