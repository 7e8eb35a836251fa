-- Words and bytes that name what they should: ids ascend, and each variable's byte is the place of a live symbol. A note changes flags alone.
-- Assumes nothing.
use Rattle.std.specs.Prelude.{ℕ, suc, ◌+◌, ◌≤◌, ◌<◌, ◌≡◌, Bool, List, eqb, ltb, set}
use Rattle.std.proofs.Math.Path.{refl, sym}
use Rattle.std.proofs.Common.{ap, ◌∙◌, subst, arith, get_or-set_same, ltb-true, ltb-false, eqb-true, eq-eqb, ne_eqb}
use Rattle.std.proofs.Math.Bool.{true, false, cond}
use Rattle.std.proofs.Math.ListN.{length, get_or, length-set}
use Rattle.std.proofs.Math.Seq.{get_or-set_other}
use Rattle.std.proofs.lemmas.Bool.{eqb-false}
use Rattle.laws.specs.Loops.{map_in}
use Rattle.laws.specs.Places.{length-map_in, map_in-at, map_in-before, map_in-after}
use Rattle.sparse.specs.Places.{most_variables, symbol_count_at, variable_count_at, should_clear_at, ids_at, variable_places_at, changed_at, words_size, bytes_size}
use Rattle.layout.specs.cells.Names.{last_place}
use Rattle.layout.specs.cells.Seek.{run-inv}
use Rattle.waist.specs.substituting.Notes.{Noted, flag_turn, flagged_in, cleared_if, var_changed_at, var_changed_if}

pub record Named (words bytes : List ℕ) : Type 0 where
  pub long : length words ≡ words_size
  pub wide : length bytes ≡ bytes_size
  pub few-symbols : get_or words symbol_count_at 0 ≤ last_place
  pub few-variables : get_or words variable_count_at 0 ≤ most_variables
  pub up : (p q : ℕ) → 1 ≤ p → p < q → q ≤ get_or words symbol_count_at 0 → get_or words (ids_at + p) 0 < get_or words (ids_at + q) 0
  pub variables : (v : ℕ) → v < get_or words variable_count_at 0 → (1 ≤ get_or bytes (variable_places_at + v) 0) × (get_or bytes (variable_places_at + v) 0 ≤ get_or words symbol_count_at 0)

-- a place is told by its id
pub same_place : (words bytes : List ℕ) → Named words bytes → (p q : ℕ) → 1 ≤ p → p ≤ get_or words symbol_count_at 0 → 1 ≤ q → q ≤ get_or words symbol_count_at 0 → eqb p q ≡ eqb (get_or words (ids_at + p) 0) (get_or words (ids_at + q) 0)
same_place words bytes n p q a b c d = go (eqb p q) refl
  where
    apart : (x y : ℕ) → 1 ≤ x → x ≤ get_or words symbol_count_at 0 → 1 ≤ y → y ≤ get_or words symbol_count_at 0 → (x ≡ y → ⊥) → get_or words (ids_at + x) 0 ≡ get_or words (ids_at + y) 0 → ⊥
    apart x y a b c d e f = by (ltb x y) refl
      where
        by : (t : Bool) → ltb x y ≡ t → ⊥
        by true z = let u = n.up x y a (ltb-true x y z) d in omega (arith, u, f)
        by false z =
            let l = ltb-false x y z in
            let m : y < x = omega (arith, l, e) in
            let u = n.up y x c m b in
            omega (arith, u, f)

    go : (t : Bool) → eqb p q ≡ t → t ≡ eqb (get_or words (ids_at + p) 0) (get_or words (ids_at + q) 0)
    go true e = sym (eq-eqb _ _ (ap (λ (x : ℕ). get_or words (ids_at + x) 0) (eqb-true p q e)))
    go false e = sym (ne_eqb _ _ (apart p q a b c d (eqb-false p q e)))

-- ---- what a note leaves as it was

pub record NotesKept (s t : Noted) : Type 0 where
  pub words : (q : ℕ) → (q ≡ should_clear_at → ⊥) → get_or t.words q 0 ≡ get_or s.words q 0
  pub before : (q : ℕ) → q < changed_at → get_or t.bytes q 0 ≡ get_or s.bytes q 0
  pub after : (q : ℕ) → changed_at + most_variables ≤ q → get_or t.bytes q 0 ≡ get_or s.bytes q 0
  pub long : length t.words ≡ length s.words
  pub wide : length t.bytes ≡ length s.bytes

pub notes-same : (s : Noted) → NotesKept s s
notes-same s = record { words = λ q d. refl; before = λ q d. refl; after = λ q d. refl; long = refl; wide = refl }

pub notes-then : {s t u : Noted} → NotesKept s t → NotesKept t u → NotesKept s u
notes-then a b =
    record { words = λ q d. b.words q d ∙ a.words q d; before = λ q d. b.before q d ∙ a.before q d; after = λ q d. b.after q d ∙ a.after q d; long = b.long ∙ a.long; wide = b.wide ∙ a.wide }

pub named-kept : {s t : Noted} → NotesKept s t → Named s.words s.bytes → Named t.words t.bytes
named-kept {s} {t} k n =
    let few = n.few-variables in
    let c : get_or t.words symbol_count_at 0 ≡ get_or s.words symbol_count_at 0 = k.words symbol_count_at (λ e. omega (arith, e)) in
    let v : get_or t.words variable_count_at 0 ≡ get_or s.words variable_count_at 0 = k.words variable_count_at (λ e. omega (arith, e)) in
    record {
      long = k.long ∙ n.long;
      wide = k.wide ∙ n.wide;
      few-symbols = rw c n.few-symbols;
      few-variables = rw v few;
      up = λ p q a b d. rw (k.words (ids_at + p) (λ e. omega (arith, e)), k.words (ids_at + q) (λ e. omega (arith, e))) (n.up p q a b (rw c at d));
      variables = λ i a. let l : i < get_or s.words variable_count_at 0 = rw v at a in rw (k.before (variable_places_at + i) (omega (arith, l, few)), c) (n.variables i l);
    }

-- ---- flags

module _ (p count : ℕ) (b : List ℕ) (few : count ≤ most_variables) (wide : length b ≡ bytes_size) where
  record Flagging (i : ℕ) (t : List ℕ) : Type 0 where
    done : (v : ℕ) → v < i → get_or t (changed_at + v) 0 ≡ cond (eqb p (get_or b (variable_places_at + v) 0)) 1 (get_or b (changed_at + v) 0)
    rest : (q : ℕ) → ((v : ℕ) → v < i → q ≡ changed_at + v → ⊥) → get_or t q 0 ≡ get_or b q 0
    same : length t ≡ bytes_size

  flagging-on : (i : ℕ) (t : List ℕ) → 0 ≤ i → i < count → Flagging i t → Flagging (suc i) (flag_turn p i t)
  unfolding flag_turn
  flagging-on i t u l g = rw (g.rest (variable_places_at + i) (λ v a e. omega (arith, e, l, few))) (go (eqb p (get_or b (variable_places_at + i) 0)) refl)
    where
      old : get_or t (changed_at + i) 0 ≡ get_or b (changed_at + i) 0
      old = g.rest (changed_at + i) (λ v a e. omega (arith, a, e))

      -- the flag at place i, and those before it
      by : (v : ℕ) → v < suc i → (x : List ℕ) → ((v : ℕ) → v < i → get_or x (changed_at + v) 0 ≡ get_or t (changed_at + v) 0) → get_or x (changed_at + i) 0 ≡ cond (eqb p (get_or b (variable_places_at + i) 0)) 1 (get_or b (changed_at + i) 0) → get_or x (changed_at + v) 0 ≡ cond (eqb p (get_or b (variable_places_at + v) 0)) 1 (get_or b (changed_at + v) 0)
      by v a x f e = pick (ltb v i) refl
        where
          pick : (c : Bool) → ltb v i ≡ c → get_or x (changed_at + v) 0 ≡ cond (eqb p (get_or b (variable_places_at + v) 0)) 1 (get_or b (changed_at + v) 0)
          pick true z = let m = ltb-true v i z in f v m ∙ g.done v m
          pick false z =
              let o : i ≡ v = omega (arith, a, ltb-false v i z) in
              subst (λ (y : ℕ). get_or x (changed_at + y) 0 ≡ cond (eqb p (get_or b (variable_places_at + y) 0)) 1 (get_or b (changed_at + y) 0)) o e

      go : (c : Bool) → eqb p (get_or b (variable_places_at + i) 0) ≡ c → Flagging (suc i) (cond c (set t (changed_at + i) 1) t)
      go true e = record {
        done = λ v a. by v a (set t (changed_at + i) 1) (λ w m. get_or-set_other t (changed_at + i) (changed_at + w) 1 0 (λ z. omega (arith, z, m))) (get_or-set_same t (changed_at + i) 1 0 (omega (arith, g.same, l, few)) ∙ rw e refl);
        rest = λ q d. get_or-set_other t (changed_at + i) q 1 0 (d i (omega arith)) ∙ g.rest q (λ v a. d v (omega (arith, a)));
        same = length-set t (changed_at + i) 1 ∙ g.same;
      }
      go false e = record {
        done = λ v a. by v a t (λ w m. refl) (old ∙ rw e refl);
        rest = λ q d. g.rest q (λ v a. d v (omega (arith, a)));
        same = g.same;
      }

  flagging : Flagging count (flagged_in p count b)
  unfolding flagged_in
  flagging = run-inv Flagging (flag_turn p) 0 count b (omega arith) flagging-on record { done = λ v a. absurd (omega (arith, a)); rest = λ q d. refl; same = wide }

  pub flagged-at : (v : ℕ) → v < count → get_or (flagged_in p count b) (changed_at + v) 0 ≡ cond (eqb p (get_or b (variable_places_at + v) 0)) 1 (get_or b (changed_at + v) 0)
  flagged-at v a = flagging.done v a

  pub flagged-other : (q : ℕ) → ((v : ℕ) → v < count → q ≡ changed_at + v → ⊥) → get_or (flagged_in p count b) q 0 ≡ get_or b q 0
  flagged-other q d = flagging.rest q d

  pub flagged-wide : length (flagged_in p count b) ≡ bytes_size
  flagged-wide = flagging.same

-- ---- a note

module _ (p : ℕ) (s : Noted) (n : Named s.words s.bytes) where
  abbrev count : ℕ
  count = get_or s.words variable_count_at 0

  abbrev on : Bool
  on = eqb (get_or s.words should_clear_at 0) 1

  abbrev bare : List ℕ
  bare = cleared_if on count s.bytes

  bare-wide : length bare ≡ bytes_size
  unfolding cleared_if
  bare-wide = go on
    where
      go : (b : Bool) → length (cond b (map_in (λ _. 0) changed_at (changed_at + count) s.bytes) s.bytes) ≡ bytes_size
      go true = length-map_in (λ _. 0) changed_at (changed_at + count) s.bytes ∙ n.wide
      go false = n.wide

  bare-at : (v : ℕ) → v < count → get_or bare (changed_at + v) 0 ≡ cond on 0 (get_or s.bytes (changed_at + v) 0)
  unfolding cleared_if
  bare-at v a = go on
    where
      go : (b : Bool) → get_or (cond b (map_in (λ _. 0) changed_at (changed_at + count) s.bytes) s.bytes) (changed_at + v) 0 ≡ cond b 0 (get_or s.bytes (changed_at + v) 0)
      go true = let few = n.few-variables in let w = n.wide in map_in-at (λ _. 0) changed_at (changed_at + count) s.bytes (changed_at + v) 0 (omega arith) (omega (arith, a)) (omega (arith, a, few, w))
      go false = refl

  bare-before : (q : ℕ) → q < changed_at → get_or bare q 0 ≡ get_or s.bytes q 0
  unfolding cleared_if
  bare-before q a = go on
    where
      go : (b : Bool) → get_or (cond b (map_in (λ _. 0) changed_at (changed_at + count) s.bytes) s.bytes) q 0 ≡ get_or s.bytes q 0
      go true = map_in-before (λ _. 0) changed_at (changed_at + count) s.bytes q 0 a
      go false = refl

  bare-after : (q : ℕ) → changed_at + most_variables ≤ q → get_or bare q 0 ≡ get_or s.bytes q 0
  unfolding cleared_if
  bare-after q a = go on
    where
      go : (b : Bool) → get_or (cond b (map_in (λ _. 0) changed_at (changed_at + count) s.bytes) s.bytes) q 0 ≡ get_or s.bytes q 0
      go true = let few = n.few-variables in map_in-after (λ _. 0) changed_at (changed_at + count) s.bytes q 0 (omega (arith, a, few))
      go false = refl

  pub note-kept : NotesKept s (var_changed_at p s)
  unfolding var_changed_at
  note-kept =
      let few = n.few-variables in
      record {
        words = λ q d. get_or-set_other s.words should_clear_at q 0 0 d;
        before = λ q d. flagged-other p count bare few bare-wide q (λ v a e. omega (arith, e, d)) ∙ bare-before q d;
        after = λ q d. flagged-other p count bare few bare-wide q (λ v a e. omega (arith, e, d, a, few)) ∙ bare-after q d;
        long = length-set s.words should_clear_at 0;
        wide = flagged-wide p count bare few bare-wide ∙ sym n.wide;
      }

  pub note-flag : (v : ℕ) → v < count → get_or (var_changed_at p s).bytes (changed_at + v) 0 ≡ cond (eqb p (get_or s.bytes (variable_places_at + v) 0)) 1 (cond on 0 (get_or s.bytes (changed_at + v) 0))
  unfolding var_changed_at
  note-flag v a =
      let few = n.few-variables in
      flagged-at p count bare few bare-wide v a ∙ rw (bare-before (variable_places_at + v) (omega (arith, a, few)), bare-at v a) refl

pub note-if-kept : (on : Bool) (p : ℕ) (s : Noted) → Named s.words s.bytes → NotesKept s (var_changed_if on p s)
unfolding var_changed_if
note-if-kept true p s n = note-kept p s n
note-if-kept false p s n = notes-same s
