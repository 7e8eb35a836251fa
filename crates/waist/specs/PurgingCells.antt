-- A column that goes from the cells: the cells of place p go, and the places past it come one place down.
-- Assumes nothing.
use Rattle.std.specs.Prelude.{ℕ, suc, ◌+◌, ◌-◌, ◌*◌, ◌%◌, ◌≤◌, ◌<◌, ◌≡◌, Bool, List, ltb, Float, length, set}
use Rattle.std.proofs.Math.Path.{refl, ap, subst}
use Rattle.std.proofs.Common.{sym, ◌∙◌, arith, length-set, get_or-set_same, get_or-set_other}
use Rattle.std.proofs.Math.Bool.{true, false, cond}
use Rattle.std.proofs.Math.Dec.{eqb}
use Rattle.std.specs.Float.{nan}
use Rattle.std.proofs.Math.ListN.{get_or}
use borrow.Author.Tests.{ltb-true, ltb-false, eqb-true, eqb-false}
use Rattle.laws.specs.Loops.{run}
use Rattle.steps.specs.Number.{zero64}
use Rattle.layout.specs.cells.Names.{row_span, last_place}
use Rattle.layout.specs.cells.Cells.{Ascending, Present, Cells, cells, cell_in, cell_at, nearer_of}
use Rattle.layout.specs.cells.Seek.{first-elim, run-inv}
use Rattle.layout.specs.cells.Reads.{ascending-lt, cell-here, cell-absent}
use Rattle.layout.specs.cells.Close.{nearer-lt}
use Rattle.waist.specs.merging.Merge.{Placed}
use Rattle.waist.specs.substituting.Held.{Held}

-- cell j goes if it is of place p, and else comes to the next place kept
unfoldable pub purge_turn : ℕ → ℕ → Cells → Cells
purge_turn p j s =
    cond (eqb p (get_or s.keys j 0 % row_span)) s (cells (set s.keys s.size (nearer_of p (get_or s.keys j 0))) (set s.vals s.size (get_or s.vals j nan)) (s.size + 1))

unfoldable pub purged_cells : ℕ → ℕ → List ℕ → List Float → Cells
purged_cells n p keys vals = run (purge_turn p) 0 n (cells keys vals 0)

-- ---- a turn of the code, over variables

module _ (p j : ℕ) (s : Cells) where
  pub purge-off : p ≡ get_or s.keys j 0 % row_span → s ≡ purge_turn p j s
  unfolding purge_turn
  purge-off e = go (eqb p (get_or s.keys j 0 % row_span)) refl
    where
      go : (b : Bool) → eqb p (get_or s.keys j 0 % row_span) ≡ b → s ≡ cond b s (cells (set s.keys s.size (nearer_of p (get_or s.keys j 0))) (set s.vals s.size (get_or s.vals j nan)) (s.size + 1))
      go true q = refl
      go false q = absurd (eqb-false p (get_or s.keys j 0 % row_span) q e)

  pub purge-on : (p ≡ get_or s.keys j 0 % row_span → ⊥) → {x : ℕ} → x ≡ nearer_of p (get_or s.keys j 0) → cells (set s.keys s.size x) (set s.vals s.size (get_or s.vals j nan)) (s.size + 1) ≡ purge_turn p j s
  unfolding purge_turn
  purge-on d {x} e = go (eqb p (get_or s.keys j 0 % row_span)) refl
    where
      go : (b : Bool) → eqb p (get_or s.keys j 0 % row_span) ≡ b
          → cells (set s.keys s.size x) (set s.vals s.size (get_or s.vals j nan)) (s.size + 1)
          ≡ cond b s (cells (set s.keys s.size (nearer_of p (get_or s.keys j 0))) (set s.vals s.size (get_or s.vals j nan)) (s.size + 1))
      go true q = absurd (d (eqb-true p (get_or s.keys j 0 % row_span) q))
      go false q = rw e refl

-- ---- the key that a cell has once place p is gone

pub nearer-by : (P : ℕ → Type 0) (p x : ℕ) → (p < x % row_span → P (x - 1)) → (x % row_span ≤ p → P x) → P (nearer_of p x)
unfolding nearer_of
nearer-by P p x f g = go (ltb p (x % row_span)) refl
  where
    go : (b : Bool) → ltb p (x % row_span) ≡ b → P (cond b (x - 1) x)
    go true q = f (ltb-true p (x % row_span) q)
    go false q = g (ltb-false p (x % row_span) q)

nearer-one : (p x y : ℕ) → (x % row_span ≡ p → ⊥) → (y % row_span ≡ p → ⊥) → nearer_of p x ≡ nearer_of p y → x ≡ y
nearer-one p x y f g e = go (ltb x y) refl (ltb y x) refl
  where
    go : (b : Bool) → ltb x y ≡ b → (c : Bool) → ltb y x ≡ c → x ≡ y
    go true q c r = let l = nearer-lt p x y f g (ltb-true x y q) in absurd (omega (arith, l, e))
    go false q true r = let l = nearer-lt p y x g f (ltb-true y x r) in absurd (omega (arith, l, e))
    go false q false r = omega (arith, ltb-false x y q, ltb-false y x r)

-- ---- the cells kept are those of the other places, in their order

module _ (n p : ℕ) (keys : List ℕ) (vals : List Float) (in-keys : n ≤ length keys) (in-vals : n ≤ length vals) where
  -- where a cell that was kept stood, among the first j
  record From (j x : ℕ) (y : Float) : Type 0 where
    at : ℕ
    before : at < j
    other : get_or keys at 0 % row_span ≡ p → ⊥
    key : x ≡ nearer_of p (get_or keys at 0)
    value : y ≡ get_or vals at nan

  -- where a cell is kept
  record To (s : Cells) (x : ℕ) (y : Float) : Type 0 where
    at : ℕ
    below : at < s.size
    key : get_or s.keys at 0 ≡ nearer_of p x
    value : get_or s.vals at nan ≡ y

  record Purging (j : ℕ) (s : Cells) : Type 0 where
    few : s.size ≤ j
    wide : length s.keys ≡ length keys
    wides : length s.vals ≡ length vals
    rest : (i : ℕ) → j ≤ i → get_or s.keys i 0 ≡ get_or keys i 0
    rests : (i : ℕ) → j ≤ i → get_or s.vals i nan ≡ get_or vals i nan
    from : (m : ℕ) → m < s.size → From j (get_or s.keys m 0) (get_or s.vals m nan)
    to : (i : ℕ) → i < j → (get_or keys i 0 % row_span ≡ p → ⊥) → To s (get_or keys i 0) (get_or vals i nan)
    up : (a b : ℕ) → a < b → b < s.size → get_or s.keys a 0 < get_or s.keys b 0

  from_more : (j x : ℕ) (y : Float) → From j x y → From (suc j) x y
  from_more j x y f = record { at = f.at; before = let b = f.before in omega (arith, b); other = f.other; key = f.key; value = f.value }

  off : (j : ℕ) (s : Cells) → get_or keys j 0 % row_span ≡ p → Purging j s → Purging (suc j) s
  off j s e h = record {
    few = let f = h.few in omega (arith, f);
    wide = h.wide;
    wides = h.wides;
    rest = λ i a. h.rest i (omega (arith, a));
    rests = λ i a. h.rests i (omega (arith, a));
    from = λ m a. from_more j _ _ (h.from m a);
    to = λ i a d. go i a d (ltb i j) refl;
    up = h.up;
  }
    where
      go : (i : ℕ) → i < suc j → (get_or keys i 0 % row_span ≡ p → ⊥) → (b : Bool) → ltb i j ≡ b → To s (get_or keys i 0) (get_or vals i nan)
      go i a d true q = h.to i (ltb-true i j q) d
      go i a d false q =
          let o : j ≡ i = omega (arith, a, ltb-false i j q) in
          absurd (d (subst (λ (z : ℕ). get_or keys z 0 % row_span ≡ p) o e))

  module _ (up : Ascending keys n) where
    module _ (j : ℕ) (s : Cells) (here : j < n) (d : get_or keys j 0 % row_span ≡ p → ⊥) (h : Purging j s) where
      abbrev x : ℕ
      x = nearer_of p (get_or keys j 0)

      abbrev y : Float
      y = get_or vals j nan

      abbrev ks : List ℕ
      ks = set s.keys s.size x

      abbrev vs : List Float
      vs = set s.vals s.size y

      few : s.size ≤ j
      few = h.few

      same : get_or ks s.size 0 ≡ x
      same = let f = few in let w = h.wide in get_or-set_same s.keys s.size x 0 (omega (arith, f, w, in-keys, here))

      sames : get_or vs s.size nan ≡ y
      sames = let f = few in let w = h.wides in get_or-set_same s.vals s.size y nan (omega (arith, f, w, in-vals, here))

      other : (i : ℕ) → (i ≡ s.size → ⊥) → get_or ks i 0 ≡ get_or s.keys i 0
      other i f = get_or-set_other s.keys s.size i x 0 f

      others : (i : ℕ) → (i ≡ s.size → ⊥) → get_or vs i nan ≡ get_or s.vals i nan
      others i f = get_or-set_other s.vals s.size i y nan f

      -- a kept cell, or the last one
      upto : (P : ℕ → Float → Type 0) → ((m : ℕ) → m < s.size → P (get_or s.keys m 0) (get_or s.vals m nan)) → P x y → (m : ℕ) → m < s.size + 1 → P (get_or ks m 0) (get_or vs m nan)
      upto P f g m a = go (ltb m s.size) refl
        where
          go : (b : Bool) → ltb m s.size ≡ b → P (get_or ks m 0) (get_or vs m nan)
          go true q = let l = ltb-true m s.size q in rw (other m (λ e. omega (arith, e, l)), others m (λ e. omega (arith, e, l))) (f m l)
          go false q =
              let o : s.size ≡ m = omega (arith, a, ltb-false m s.size q) in
              subst (λ (z : ℕ). P (get_or ks z 0) (get_or vs z nan)) o (rw (same, sames) g)

      less : (m : ℕ) → m < s.size → get_or s.keys m 0 < x
      less m a =
          let f = h.from m a in
          let b = f.before in
          rw f.key (nearer-lt p (get_or keys f.at 0) (get_or keys j 0) f.other d (ascending-lt keys n f.at j up b here))

      ups : (a b : ℕ) → a < b → b < s.size + 1 → get_or ks a 0 < get_or ks b 0
      ups a b l m = go (ltb b s.size) refl
        where
          go : (c : Bool) → ltb b s.size ≡ c → get_or ks a 0 < get_or ks b 0
          go true q = let k = ltb-true b s.size q in rw (other a (λ e. omega (arith, e, l, k)), other b (λ e. omega (arith, e, k))) (h.up a b l k)
          go false q =
              let o : s.size ≡ b = omega (arith, m, ltb-false b s.size q) in
              let k : a < s.size = omega (arith, o, l) in
              subst (λ (z : ℕ). get_or ks a 0 < get_or ks z 0) o (rw (other a (λ e. omega (arith, e, k)), same) (less a k))

      tos : (i : ℕ) → i < suc j → (get_or keys i 0 % row_span ≡ p → ⊥) → To (cells ks vs (s.size + 1)) (get_or keys i 0) (get_or vals i nan)
      tos i a c = go (ltb i j) refl
        where
          go : (b : Bool) → ltb i j ≡ b → To (cells ks vs (s.size + 1)) (get_or keys i 0) (get_or vals i nan)
          go true q =
              let f = h.to i (ltb-true i j q) c in
              let b = f.below in
              record { at = f.at; below = omega (arith, b); key = other f.at (λ e. omega (arith, e, b)) ∙ f.key; value = others f.at (λ e. omega (arith, e, b)) ∙ f.value }
          go false q =
              let o : j ≡ i = omega (arith, a, ltb-false i j q) in
              subst (λ (z : ℕ). To (cells ks vs (s.size + 1)) (get_or keys z 0) (get_or vals z nan)) o record { at = s.size; below = omega arith; key = same; value = sames }

      on : Purging (suc j) (cells ks vs (s.size + 1))
      on = record {
        few = let f = few in omega (arith, f);
        wide = length-set s.keys s.size x ∙ h.wide;
        wides = length-set s.vals s.size y ∙ h.wides;
        rest = λ i a. let f = few in other i (λ e. omega (arith, e, a, f)) ∙ h.rest i (omega (arith, a));
        rests = λ i a. let f = few in others i (λ e. omega (arith, e, a, f)) ∙ h.rests i (omega (arith, a));
        from = λ m a. upto (From (suc j)) (λ m b. from_more j _ _ (h.from m b)) record { at = j; before = omega arith; other = d; key = refl; value = refl } m a;
        to = tos;
        up = ups;
      }

    turn : (j : ℕ) (s : Cells) → 0 ≤ j → j < n → Purging j s → Purging (suc j) (purge_turn p j s)
    unfolding purge_turn
    turn j s a b h = rw (h.rest j (omega arith), h.rests j (omega arith)) (go (eqb p (get_or keys j 0 % row_span)) refl)
      where
        go : (c : Bool) → eqb p (get_or keys j 0 % row_span) ≡ c → Purging (suc j) (cond c s (cells (set s.keys s.size (nearer_of p (get_or keys j 0))) (set s.vals s.size (get_or vals j nan)) (s.size + 1)))
        go true q = off j s (sym (eqb-true p (get_or keys j 0 % row_span) q)) h
        go false q = on j s b (λ e. eqb-false p (get_or keys j 0 % row_span) q (sym e)) h

    abbrev c : Cells
    c = purged_cells n p keys vals

    purging : Purging n c
    unfolding purged_cells
    purging = run-inv Purging (purge_turn p) 0 n (cells keys vals 0) (omega arith) turn record {
      few = omega arith;
      wide = refl;
      wides = refl;
      rest = λ i a. refl;
      rests = λ i a. refl;
      from = λ m a. absurd (omega (arith, a));
      to = λ i a d. absurd (omega (arith, a));
      up = λ a b l m. absurd (omega (arith, m));
    }

    -- ---- what is read

    ascends : Ascending c.keys c.size
    unfolding Ascending
    ascends = purging.up

    -- beside another place's key stands what stood beside it
    kept-cell : (z : ℕ) → (z % row_span ≡ p → ⊥) → cell_at c.keys c.vals c.size (nearer_of p z) ≡ cell_at keys vals n z
    unfolding cell_at cell_in
    kept-cell z d =
        first-elim (λ j. eqb z (get_or keys j 0)) (λ j. get_or vals j nan) zero64 (λ (w : Float). cell_in c.keys c.vals (nearer_of p z) 0 c.size ≡ w) 0 n (omega arith)
        (λ i a b e f.
        let o = eqb-true z (get_or keys i 0) e in
        let t = purging.to i b (λ g. d (rw (sym o) at g)) in
        let k : get_or c.keys t.at 0 ≡ nearer_of p z = t.key ∙ ap (nearer_of p) (sym o) in
        subst (λ (w : ℕ). cell_in c.keys c.vals w 0 c.size ≡ get_or vals i nan) k (cell-here c.keys c.vals c.size 0 c.size t.at ascends (omega arith) t.below (omega arith) ∙ t.value))
        (λ f. cell-absent c.keys c.vals (nearer_of p z) 0 c.size (omega arith) λ m a b e.
        let s = purging.from m b in
        eqb-false z (get_or keys s.at 0) (f s.at (omega arith) s.before) (nearer-one p z (get_or keys s.at 0) d s.other (e ∙ s.key)))

    module _ (q s : ℕ) where
      pub purged-before : s < p → s < row_span → cell_at c.keys c.vals c.size (q * row_span + s) ≡ cell_at keys vals n (q * row_span + s)
      purged-before a b =
          let e : nearer_of p (q * row_span + s) ≡ q * row_span + s = nearer-by (λ (y : ℕ). y ≡ q * row_span + s) p (q * row_span + s) (λ l. absurd (omega (arith, l, a, b))) (λ l. refl) in
          subst (λ (y : ℕ). cell_at c.keys c.vals c.size y ≡ cell_at keys vals n (q * row_span + s)) e (kept-cell (q * row_span + s) (λ l. omega (arith, l, a, b)))

      pub purged-after : p ≤ s → suc s < row_span → cell_at c.keys c.vals c.size (q * row_span + s) ≡ cell_at keys vals n (q * row_span + suc s)
      purged-after a b =
          let e : nearer_of p (q * row_span + suc s) ≡ q * row_span + s = nearer-by (λ (y : ℕ). y ≡ q * row_span + s) p (q * row_span + suc s) (λ l. omega arith) (λ l. absurd (omega (arith, l, a, b))) in
          subst (λ (y : ℕ). cell_at c.keys c.vals c.size y ≡ cell_at keys vals n (q * row_span + suc s)) e (kept-cell (q * row_span + suc s) (λ l. omega (arith, l, a, b)))

    -- a key after: one of another place, lowered
    each : (P : ℕ → Type 0) → ((j : ℕ) → j < n → (get_or keys j 0 % row_span ≡ p → ⊥) → P (nearer_of p (get_or keys j 0))) → (m : ℕ) → m < c.size → P (get_or c.keys m 0)
    each P f m a = let s = purging.from m a in rw s.key (f s.at s.before s.other)

    pub purged-inside : (w : ℕ) → p ≤ w → ((j : ℕ) → j < n → get_or keys j 0 % row_span ≤ w) → (m : ℕ) → m < c.size → get_or c.keys m 0 % row_span ≤ w - 1
    purged-inside w l f = each (λ x. x % row_span ≤ w - 1) λ j a d. let g = f j a in nearer-by (λ (y : ℕ). y % row_span ≤ w - 1) p (get_or keys j 0) (λ u. lowered (get_or keys j 0) u g) (λ u. omega (arith, u, d, l))
      where
        lowered : (x : ℕ) → p < x % row_span → x % row_span ≤ w → (x - 1) % row_span ≤ w - 1
        lowered x u g = omega arith

    pub purged-few : c.size ≤ n
    purged-few = purging.few

-- ---- the cells stay such that a call may work on them

module _ (lines n p : ℕ) (keys : List ℕ) (vals : List Float) (h : Held lines n keys vals) (low : 1 ≤ p) (in-keys : n ≤ length keys) (in-vals : n ≤ length vals) where
  abbrev kept : Cells
  kept = purged_cells n p keys vals

  pub held-purged : Held lines kept.size kept.keys kept.vals
  unfolding Placed Present
  held-purged =
      let g = purging n p keys vals in-keys in-vals h.up in
      record {
        up = ascends n p keys vals in-keys in-vals h.up;
        present = λ m a. let s = g.from m a in rw s.value (h.present s.at s.before);
        placed = each n p keys vals in-keys in-vals h.up (λ x. (1 ≤ x % row_span) × (x % row_span ≤ last_place)) λ j a d.
            let k = h.placed j a in
            nearer-by (λ (y : ℕ). (1 ≤ y % row_span) × (y % row_span ≤ last_place)) p (get_or keys j 0) (λ u. lowered (get_or keys j 0) k u) (λ u. k);
        low = each n p keys vals in-keys in-vals h.up (λ x. row_span ≤ x) λ j a d.
            let k = h.low j a in
            nearer-by (λ (y : ℕ). row_span ≤ y) p (get_or keys j 0) (λ u. stays (get_or keys j 0) k u) (λ u. k);
        high = each n p keys vals in-keys in-vals h.up (λ x. x < (lines + 1) * row_span) λ j a d.
            let k = h.high j a in
            nearer-by (λ (y : ℕ). y < (lines + 1) * row_span) p (get_or keys j 0) (λ u. omega (arith, k)) (λ u. k);
        wide = g.wide ∙ h.wide;
        wides = g.wides ∙ h.wides;
      }
    where
      lowered : (x : ℕ) → (1 ≤ x % row_span) × (x % row_span ≤ last_place) → p < x % row_span → (1 ≤ (x - 1) % row_span) × ((x - 1) % row_span ≤ last_place)
      lowered x k u = (omega (arith, k, u, low), omega (arith, k, u, low))

      stays : (x : ℕ) → row_span ≤ x → p < x % row_span → row_span ≤ x - 1
      stays x k u = omega arith
