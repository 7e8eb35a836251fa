-- Cells stay such that a call may work on them where a line goes, or comes.
-- Assumes nothing.
use Rattle.std.specs.Prelude.{ℕ, ◌+◌, ◌-◌, ◌*◌, ◌%◌, ◌≤◌, ◌<◌, ◌≡◌, Bool, true, false, List, ltb, Float, length, get_or}
use Rattle.std.proofs.Math.Path.{refl}
use Rattle.std.proofs.Common.{sym, ◌∙◌, subst, arith, ltb-true, ltb-false}
use Rattle.std.specs.Float.{nan}
use Rattle.laws.specs.Loops.{map_in}
use Rattle.laws.specs.Places.{length-map_in, map_in-at, map_in-before}
use Rattle.steps.specs.Symbol.{absent}
use Rattle.sparse.specs.Places.{most_rows}
use Rattle.layout.specs.cells.Names.{row_span, last_place}
use Rattle.layout.specs.cells.Cells.{Ascending, Present, lower_in, moved, dropped, dropped_at, row_after, opened}
use Rattle.layout.specs.cells.Slide.{length_moved, moved_before, moved_in}
use Rattle.layout.specs.cells.Search.{lower-bound}
use Rattle.layout.specs.cells.Reads.{RowRun, run-le, run_past}
use Rattle.layout.specs.cells.Replace.{row-run}
use Rattle.layout.specs.cells.Drop.{dropped-ascends}
use Rattle.layout.specs.cells.Open.{after_is, Raisable, opened-ascends}
use Rattle.waist.specs.merging.Merge.{Placed}
use Rattle.waist.specs.substituting.Held.{Held, held-few}

module _ (lines n i : ℕ) (keys : List ℕ) (vals : List Float) (h : Held lines n keys vals) (few : lines ≤ most_rows) where
  in-keys : n ≤ length keys
  in-keys = let f = held-few lines n keys vals h in let w = h.wide in omega (arith, f, w, few)

  in-vals : n ≤ length vals
  in-vals = let f = held-few lines n keys vals h in let w = h.wides in omega (arith, f, w, few)

  pub raisable : Raisable keys n
  raisable j l = let g = h.high j l in omega (arith, g, few)

  -- ---- line i goes

  module _ (first : 1 ≤ i) (last : i ≤ lines) where
    abbrev a : ℕ
    a = lower_in keys (i * row_span) 0 n

    abbrev e : ℕ
    e = lower_in keys (i * row_span + row_span) 0 n

    r : RowRun keys n i a e
    r = row-run keys n i refl refl

    ends : (a ≤ e) × (e ≤ n)
    ends = (run-le keys n i a e r, r.1.1)

    c₁ : e + (n - e) ≤ length keys
    c₁ = let f = ends in let l = in-keys in omega (arith, f, l)

    c₂ : a + (n - e) ≤ length keys
    c₂ = let f = ends in let l = in-keys in omega (arith, f, l)

    d₁ : e + (n - e) ≤ length vals
    d₁ = let f = ends in let l = in-vals in omega (arith, f, l)

    d₂ : a + (n - e) ≤ length vals
    d₂ = let f = ends in let l = in-vals in omega (arith, f, l)

    -- a key after: one before the line, or one past it, lowered
    each : (P : ℕ → Type 0) → ((j : ℕ) → j < n → get_or keys j 0 < i * row_span → P (get_or keys j 0)) → ((j : ℕ) → j < n → i * row_span + row_span ≤ get_or keys j 0 → P (get_or keys j 0 - row_span))
        → (j : ℕ) → j < n - e + a → P (get_or (map_in (λ x. x - row_span) a (n - e + a) (moved e a (n - e) keys)) j 0)
    each P old new j l = go (ltb j a) refl
      where
        f : (a ≤ e) × (e ≤ n)
        f = ends

        go : (b : Bool) → ltb j a ≡ b → P (get_or (map_in (λ x. x - row_span) a (n - e + a) (moved e a (n - e) keys)) j 0)
        go true q =
            let u = ltb-true j a q in
            subst P (sym (map_in-before (λ x. x - row_span) a (n - e + a) (moved e a (n - e) keys) j 0 u ∙ moved_before e a (n - e) keys j 0 c₁ c₂ u)) (old j (omega (arith, u, f)) (r.0.2 j (omega arith) u))
        go false q =
            let u = ltb-false j a q in
            let w = length_moved e a (n - e) keys c₁ c₂ in
            let o : a + (j - a) ≡ j = omega (arith, u) in
            let p : get_or (moved e a (n - e) keys) (a + (j - a)) 0 ≡ get_or keys (e + (j - a)) 0 = moved_in e a (n - e) keys (j - a) 0 c₁ c₂ (omega (arith, l, u)) in
            let p₁ : get_or (moved e a (n - e) keys) j 0 ≡ get_or keys (e + (j - a)) 0 = rw o at p in
            subst P (sym (map_in-at (λ x. x - row_span) a (n - e + a) (moved e a (n - e) keys) j 0 u l (omega (arith, l, w, c₂)) ∙ rw p₁ refl))
            (new (e + (j - a)) (omega (arith, l, u, f)) (run_past keys n i a e (e + (j - a)) h.up r (omega arith) (omega (arith, l, u, f))))

    there : (j : ℕ) → j < n - e + a → absent (get_or (moved e a (n - e) vals) j nan) ≡ false
    unfolding Present
    there j l = go (ltb j a) refl
      where
        f : (a ≤ e) × (e ≤ n)
        f = ends

        go : (b : Bool) → ltb j a ≡ b → absent (get_or (moved e a (n - e) vals) j nan) ≡ false
        go true q = let u = ltb-true j a q in rw (moved_before e a (n - e) vals j nan d₁ d₂ u) (h.present j (omega (arith, u, f)))
        go false q =
            let u = ltb-false j a q in
            let o : a + (j - a) ≡ j = omega (arith, u) in
            let p : get_or (moved e a (n - e) vals) (a + (j - a)) nan ≡ get_or vals (e + (j - a)) nan = moved_in e a (n - e) vals (j - a) nan d₁ d₂ (omega (arith, l, u)) in
            let p₁ : get_or (moved e a (n - e) vals) j nan ≡ get_or vals (e + (j - a)) nan = rw o at p in
            rw p₁ (h.present (e + (j - a)) (omega (arith, l, u, f)))

    pub held-dropped : Held (lines - 1) (dropped n i keys vals).size (dropped n i keys vals).keys (dropped n i keys vals).vals
    unfolding dropped dropped_at Placed Present
    held-dropped = record {
      up = ascends;
      present = there;
      placed = each (λ x. (1 ≤ x % row_span) × (x % row_span ≤ last_place)) (λ j l u. h.placed j l) (λ j l u. lowered (get_or keys j 0) (h.placed j l) u);
      low = each (λ x. row_span ≤ x) (λ j l u. h.low j l) (λ j l u. omega (arith, u, first));
      high = each (λ x. x < (lines - 1 + 1) * row_span) (λ j l u. omega (arith, u, last, first)) (λ j l u. let g = h.high j l in omega (arith, g, u, last, first));
      wide = length-map_in (λ x. x - row_span) a (n - e + a) (moved e a (n - e) keys) ∙ length_moved e a (n - e) keys c₁ c₂ ∙ h.wide;
      wides = length_moved e a (n - e) vals d₁ d₂ ∙ h.wides;
    }
      where
        lowered : (x : ℕ) → (1 ≤ x % row_span) × (x % row_span ≤ last_place) → i * row_span + row_span ≤ x → (1 ≤ (x - row_span) % row_span) × ((x - row_span) % row_span ≤ last_place)
        lowered x p u = (omega (arith, p, u), omega (arith, p, u))

        ascends : Ascending (dropped n i keys vals).keys (dropped n i keys vals).size
        ascends = dropped-ascends n i keys vals (h.up, in-keys, in-vals)

    -- no cell comes to stand past place w
    pub within-dropped : (w : ℕ) → ((j : ℕ) → j < n → get_or keys j 0 % row_span ≤ w) → (j : ℕ) → j < (dropped n i keys vals).size → get_or (dropped n i keys vals).keys j 0 % row_span ≤ w
    unfolding dropped dropped_at
    within-dropped w g = each (λ x. x % row_span ≤ w) (λ j l u. g j l) (λ j l u. let p = g j l in omega (arith, p, u))

  -- ---- line i comes, without a cell

  module _ (first : 1 ≤ i) (last : i ≤ lines + 1) where
    abbrev b : ℕ
    b = lower_in keys (i * row_span) 0 n

    raised : (P : ℕ → Type 0) → ((j : ℕ) → j < n → get_or keys j 0 < i * row_span → P (get_or keys j 0)) → ((j : ℕ) → j < n → P (get_or keys j 0 + row_span)) → (j : ℕ) → j < n → P (get_or (map_in row_after b n keys) j 0)
    raised P old new j l = go (ltb j b) refl
      where
        go : (c : Bool) → ltb j b ≡ c → P (get_or (map_in row_after b n keys) j 0)
        go true q = let u = ltb-true j b q in subst P (sym (map_in-before row_after b n keys j 0 u)) (old j l ((lower-bound keys (i * row_span) 0 n (omega arith)).2 j (omega arith) u))
        go false q =
            let f = in-keys in
            subst P (sym (map_in-at row_after b n keys j 0 (ltb-false j b q) l (omega (arith, l, f)) ∙ after_is (get_or keys j 0) (raisable j l))) (new j l)

    pub held-opened : Held (lines + 1) n (opened n i keys) vals
    unfolding opened Placed
    held-opened = record {
      up = ascends;
      present = h.present;
      placed = raised (λ x. (1 ≤ x % row_span) × (x % row_span ≤ last_place)) (λ j l u. h.placed j l) (λ j l. lifted (get_or keys j 0) (h.placed j l));
      low = raised (λ x. row_span ≤ x) (λ j l u. h.low j l) (λ j l. omega arith);
      high = raised (λ x. x < (lines + 1 + 1) * row_span) (λ j l u. let g = h.high j l in omega (arith, g)) (λ j l. let g = h.high j l in omega (arith, g));
      wide = length-map_in row_after b n keys ∙ h.wide;
      wides = h.wides;
    }
      where
        lifted : (x : ℕ) → (1 ≤ x % row_span) × (x % row_span ≤ last_place) → (1 ≤ (x + row_span) % row_span) × ((x + row_span) % row_span ≤ last_place)
        lifted x p = (omega (arith, p), omega (arith, p))

        ascends : Ascending (opened n i keys) n
        ascends = opened-ascends n i keys vals (h.up, in-keys, raisable)

    pub within-opened : (w : ℕ) → ((j : ℕ) → j < n → get_or keys j 0 % row_span ≤ w) → (j : ℕ) → j < n → get_or (opened n i keys) j 0 % row_span ≤ w
    unfolding opened
    within-opened w g = raised (λ x. x % row_span ≤ w) (λ j l u. g j l) (λ j l. let p = g j l in omega (arith, p))
