-- What stands where one table was put over a part of another; and tables put over others that differ from them in the live places alone: they become the first.
-- Assumes nothing.
use Prim.Native.Nat.{ℕ, ◌+◌, ◌-◌, ◌≤◌, ◌<◌}
use Rattle.std.specs.Prelude.{◌≡◌, Bool}
use Rattle.std.proofs.Math.Path.{refl, sym, ap}
use Rattle.std.proofs.Common.{◌∙◌, arith}
use Rattle.std.proofs.Math.Bool.{true, false}
use mathlib.Core.List.{List, [], ◌∷◌}
use Rattle.std.proofs.Math.Dec.{ltb}
use Rattle.std.specs.Float.Ieee.{nan}
use Rattle.std.proofs.Math.ListN.{length, get_or}
use borrow.Author.Tests.{ltb-true, ltb-false}
use Rattle.laws.specs.Lists.{tab, tab-ext, tab-get_or, length-tab, get_or-tab, laid_in, laid-before, laid-after}
use Rattle.layout.specs.Layout.{over}
use Rattle.sparse.specs.Places.{next_id_at, row_places_at, changed_at, constants_at, objective_at, suggestions_at}
use Rattle.sparse.specs.Sparse.{Sparse, symbol_count, row_count, cell_count, variable_count, edit_count}
use Rattle.sparse.specs.Fits.{Lengths}
use Rattle.sparse.specs.Stretches.{Stretch, part, lay, copied, length_over, length-lay}
use Rattle.sparse.specs.Copy.{heading_end, live_words, live_bytes, live_reals, put_over}
use Rattle.lending.specs.sparse_copy.Over.{put_part}

-- no place of the n from a on
abbrev pub Outside : ℕ → ℕ → ℕ → Type 0
Outside a n j = a ≤ j → j < a + n → ⊥

module _ {A : Type 0} (d : A) where
  over-in : (a : ℕ) (l m : List A) (j : ℕ) → a ≤ j → j < a + length l → j < length m → get_or (over a l m) j d ≡ get_or l (j - a) d
  unfolding over
  over-in a l m j h k n =
      let o : a + (j - a) ≡ j = omega (arith, h) in
      rw o at (laid_in (λ x _. x) a l m (j - a) d d (omega (arith, h, k)) (omega (arith, n, o)))

  over-out : (a : ℕ) (l m : List A) (j : ℕ) → Outside a (length l) j → get_or (over a l m) j d ≡ get_or m j d
  unfolding over
  over-out a l m j h = go (ltb j a) refl (ltb j (a + length l)) refl
    where
      go : (x : Bool) → ltb j a ≡ x → (y : Bool) → ltb j (a + length l) ≡ y → get_or (over a l m) j d ≡ get_or m j d
      go true p y q = laid-before (λ x _. x) a l m j d (ltb-true j a p)
      go false p true q = absurd (h (ltb-false j a p) (ltb-true j (a + length l) q))
      go false p false q = laid-after (λ x _. x) a l m j d (ltb-false j (a + length l) q)

  -- ---- a part of one table over another

  pub part_in : (from : List A) (a n : ℕ) (to : List A) (j : ℕ) → a ≤ j → j < a + n → j < length to → get_or (put_part d from a n to) j d ≡ get_or from j d
  unfolding put_part
  part_in from a n to j h k l =
      let g : ℕ → A = λ i. get_or from i d in
      let o : a + (j - a) ≡ j = omega (arith, h) in
      over-in a (tab g a n) to j h (rw (length-tab g a n) k) l ∙ get_or-tab g a n (j - a) d (omega (arith, h, k)) ∙ ap g o

  pub part_out : (from : List A) (a n : ℕ) (to : List A) (j : ℕ) → Outside a n j → get_or (put_part d from a n to) j d ≡ get_or to j d
  unfolding put_part
  part_out from a n to j h = over-out a (tab (λ i. get_or from i d) a n) to j (rw (length-tab (λ i. get_or from i d) a n) h)

  pub part_length : (from : List A) (a n : ℕ) (to : List A) → length (put_part d from a n to) ≡ length to
  unfolding put_part
  part_length from a n to = length_over a (tab (λ i. get_or from i d) a n) to

  -- ---- a table's own stretches over another that has the same everywhere else

  abbrev Off : List (Stretch A) → ℕ → Type 0
  Off [] j = Unit {0}
  Off (s ∷ ss) j = Outside s.at (length s.list) j × Off ss j

  abbrev Own : List A → List (Stretch A) → Type 0
  Own u [] = Unit {0}
  Own u (s ∷ ss) = ((i : ℕ) → i < length s.list → get_or s.list i d ≡ get_or u (s.at + i) d) × Own u ss

  own : (u : List A) (a n i : ℕ) → i < length (tab (λ j. get_or u j d) a n) → get_or (tab (λ j. get_or u j d) a n) i d ≡ get_or u (a + i) d
  own u a n i h = get_or-tab (λ j. get_or u j d) a n i d (rw (length-tab (λ j. get_or u j d) a n) at h)

  lay_at : (u : List A) (ss : List (Stretch A)) (m : List A) (j : ℕ) → j < length m → Own u ss → (Off ss j → get_or m j d ≡ get_or u j d) → get_or (lay ss m) j d ≡ get_or u j d
  unfolding lay
  lay_at u [] m j l o h = h tt
  lay_at u (s ∷ ss) m j l o h = go (ltb j s.at) refl (ltb j (s.at + length s.list)) refl (λ out. lay_at u ss m j l o.1 (λ off. h (out, off)))
    where
      go : (x : Bool) → ltb j s.at ≡ x → (y : Bool) → ltb j (s.at + length s.list) ≡ y → (Outside s.at (length s.list) j → get_or (lay ss m) j d ≡ get_or u j d) → get_or (lay (s ∷ ss) m) j d ≡ get_or u j d
      go true p y q on =
          let a = ltb-true j s.at p in
          let out : Outside s.at (length s.list) j = λ b c. absurd (omega (arith, a, b)) in
          over-out s.at s.list (lay ss m) j out ∙ on out
      go false p true q on =
          let a = ltb-false j s.at p in
          let b = ltb-true j (s.at + length s.list) q in
          let e : s.at + (j - s.at) ≡ j = omega (arith, a) in
          over-in s.at s.list (lay ss m) j a b (omega (arith, l, length-lay ss m)) ∙ o.0 (j - s.at) (omega (arith, a, b)) ∙ ap (λ (i : ℕ). get_or u i d) e
      go false p false q on =
          let a = ltb-false j (s.at + length s.list) q in
          let out : Outside s.at (length s.list) j = λ b c. absurd (omega (arith, a, c)) in
          over-out s.at s.list (lay ss m) j out ∙ on out

  pub same-list : (l m : List A) → length l ≡ length m → ((j : ℕ) → j < length m → get_or l j d ≡ get_or m j d) → l ≡ m
  same-list l m e h =
      let a : tab (λ j. get_or l j d) 0 (length m) ≡ l = rw e at (tab-get_or l d) in
      sym a ∙ tab-ext (λ j. get_or l j d) (λ j. get_or m j d) 0 (length m) (λ j b c. h j (omega (arith, c))) ∙ tab-get_or m d

  lay-becomes : (u : List A) (ss : List (Stretch A)) (m : List A) → length m ≡ length u → Own u ss → ((j : ℕ) → Off ss j → get_or m j d ≡ get_or u j d) → lay ss m ≡ u
  lay-becomes u ss m e o h = same-list (lay ss m) u (length-lay ss m ∙ e) (λ j l. lay_at u ss m j (omega (arith, l, e)) o (h j))

  copied-becomes : (u m : List A) (n : ℕ) → length m ≡ length u → ((j : ℕ) → n ≤ j → get_or m j d ≡ get_or u j d) → copied (λ j. get_or u j d) n m ≡ u
  unfolding copied
  copied-becomes u m n e h = (unfold lay in lay-becomes u (part d u 0 n ∷ []) m e (own u 0 n, tt) (λ j off. h j (past j (rw (length-tab (λ j. get_or u j d) 0 n) at off.0))))
    where
      past : (j : ℕ) → Outside 0 n j → n ≤ j
      past j out = go (ltb j n) refl
        where
          go : (x : Bool) → ltb j n ≡ x → n ≤ j
          go true q = absurd (out (omega arith) (let a = ltb-true j n q in omega (arith, a)))
          go false q = ltb-false j n q

-- u may differ from t in the counts and flags, the rows' symbols and constants, the changed flags, the objective, the suggestions and the cells
pub put-becomes : (t u : Sparse) → Lengths t → Lengths u
    → ((j : ℕ) → heading_end ≤ j → get_or t.words j 0 ≡ get_or u.words j 0)
    → ((j : ℕ) → cell_count u ≤ j → get_or t.keys j 0 ≡ get_or u.keys j 0)
    → ((j : ℕ) → Outside (row_places_at + 1) (row_count u) j → Outside changed_at (variable_count u) j → get_or t.bytes j 0 ≡ get_or u.bytes j 0)
    → ((j : ℕ) → Outside (constants_at + 1) (row_count u) j → Outside (objective_at + 1) (symbol_count u) j → Outside suggestions_at (edit_count u) j → get_or t.reals j nan ≡ get_or u.reals j nan)
    → ((j : ℕ) → cell_count u ≤ j → get_or t.values j nan ≡ get_or u.values j nan)
    → put_over u t ≡ u
unfolding put_over
put-becomes t u lt lu words keys bytes reals values =
    rw (
      words-become,
      copied-becomes 0 u.keys t.keys (cell_count u) (lt.1 ∙ sym lu.1) keys,
      bytes-become,
      reals-become,
      copied-becomes nan u.values t.values (cell_count u) (lt.4 ∙ sym lu.4) values,
    ) refl
  where
    w : (a n i : ℕ) → i < length (tab (λ j. get_or u.words j 0) a n) → get_or (tab (λ j. get_or u.words j 0) a n) i 0 ≡ get_or u.words (a + i) 0
    w = own 0 u.words

    b : (a n i : ℕ) → i < length (tab (λ j. get_or u.bytes j 0) a n) → get_or (tab (λ j. get_or u.bytes j 0) a n) i 0 ≡ get_or u.bytes (a + i) 0
    b = own 0 u.bytes

    r : (a n i : ℕ) → i < length (tab (λ j. get_or u.reals j nan) a n) → get_or (tab (λ j. get_or u.reals j nan) a n) i nan ≡ get_or u.reals (a + i) nan
    r = own nan u.reals

    out : {A : Type 0} (d : A) (l : List A) (a n j : ℕ) → Outside a (length (tab (λ i. get_or l i d) a n)) j → Outside a n j
    out d l a n j h = rw (length-tab (λ i. get_or l i d) a n) at h

    words-become : lay (live_words u) t.words ≡ u.words
    words-become = unfold live_words in
        lay-becomes 0 u.words (live_words u) t.words (lt.0 ∙ sym lu.0) (w _ _, (w _ _, (w _ _, (w _ _, (w _ _, (w _ _, (w _ _, tt)))))))
        (λ j off. words j (past j (out 0 u.words next_id_at heading_end j off.1.1.1.1.1.1.0)))
      where
        past : (j : ℕ) → Outside next_id_at heading_end j → heading_end ≤ j
        past j o = go (ltb j heading_end) refl
          where
            go : (x : Bool) → ltb j heading_end ≡ x → heading_end ≤ j
            go true q = absurd (o (omega arith) (let a = ltb-true j heading_end q in omega (arith, a)))
            go false q = ltb-false j heading_end q

    bytes-become : lay (live_bytes u) t.bytes ≡ u.bytes
    bytes-become = unfold live_bytes in
        lay-becomes 0 u.bytes (live_bytes u) t.bytes (lt.2 ∙ sym lu.2) (b _ _, (b _ _, (b _ _, (b _ _, (b _ _, (b _ _, (b _ _, (b _ _, (b _ _, (b _ _, (b _ _, (b _ _, tt))))))))))))
        (λ j off. bytes j (out 0 u.bytes (row_places_at + 1) (row_count u) j off.1.1.1.1.1.1.1.1.1.1.0) (out 0 u.bytes changed_at (variable_count u) j off.1.1.1.1.1.1.1.1.0))

    reals-become : lay (live_reals u) t.reals ≡ u.reals
    reals-become = unfold live_reals in
        lay-becomes nan u.reals (live_reals u) t.reals (lt.3 ∙ sym lu.3) (r _ _, (r _ _, (r _ _, (r _ _, (r _ _, (r _ _, (r _ _, (r _ _, (r _ _, tt)))))))))
        (λ j off. reals j (out nan u.reals (constants_at + 1) (row_count u) j off.1.1.1.1.1.1.1.1.0) (out nan u.reals (objective_at + 1) (symbol_count u) j off.1.1.1.1.1.1.0) (out nan u.reals suggestions_at (edit_count u) j off.1.1.0))
