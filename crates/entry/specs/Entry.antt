-- Tables lent as slices of arrays, each to be lent once: one that is not has the wrong length. Assumes nothing.
use Rattle.std.specs.Prelude.{◌≡◌, ℕ, suc, ◌<◌, Bool, true, false, cond, not, ◌&&◌, List, [], ◌∷◌, length, replicate, ◌==◌, slice_index_or, slice_set, Float}
use Rattle.std.proofs.Math.Path.{refl}
use Rattle.std.proofs.Common.{sym, ap, ◌∙◌, true≢false, arith}
use borrow.Author.Tests.{eqb-true, not-true, not-false}
use Rattle.laws.specs.Given.{Then}
use Rattle.laws.specs.Loops.{map_in}
use Rattle.steps.specs.Number.{zero64}
use Rattle.steps.specs.State.{State}
use Rattle.steps.specs.Calls.{Answer, Result}
use Rattle.layout.specs.Rooms.{both}
use Rattle.layout.specs.cells.Names.{cell_room}
use Rattle.sparse.specs.Places.{words_size, bytes_size, reals_size}
use Rattle.sparse.specs.Sparse.{Sparse}
use Rattle.lending.specs.sparse_copy.Over.{tables}
use Rattle.sparse.specs.lengths.Lengths.{Lists, lists, once_each}
use Rattle.lending.specs.Lending.{Called, called, refused18, call_of}
use Rattle.lending.specs.Entered.{zero_room}
use Rattle.lending.specs.Reset.{reset_of}

-- the one that is lent; a table that is lent other than once counts as empty
abbrev pub only : {A : Type 0} → List (List A) → List A
only [] = []
only (x ∷ []) = x
only (x ∷ y ∷ l) = []

abbrev pub lent_once : Lists → Sparse
lent_once l = tables (only l.words) (only l.keys) (only l.bytes) (only l.reals) (only l.values)

-- "18 | a lent table has the wrong length or doesn't read as a state"
unfoldable pub call_on : (State → Result) → Lists → Lists → Called
call_on f work t = cond (once_each t && once_each work) (call_of f (lent_once work) (lent_once t)) (called refused18 (lent_once t))

-- "Reset refuses wrong lengths (18) and a cutoff outside the range (24), in that order; nothing else."
unfoldable pub reset_on : Float → Lists → Called
reset_on cutoff t = cond (once_each t) (reset_of cutoff (lent_once t)) (called refused18 (lent_once t))

-- each all zero
unfoldable pub each : {A : Type 0} → (A → A) → List A → List A
each f l = map_in f 0 (length l) l

abbrev pub zeroes : {A : Type 0} → ℕ → A → List A → List A
zeroes n z l = replicate n z

unfoldable pub zeroed : Lists → Lists
zeroed l = lists (each (zeroes words_size 0) l.words) (each (zeroes cell_room 0) l.keys) (each (zeroes bytes_size 0) l.bytes) (each (zeroes reals_size zero64) l.reals) (each (zeroes cell_room zero64) l.values)

-- ---- one that is lent once

module _ {A : Type 0} where
  first : (l : List (List A)) → (length l == 1) ≡ true → only l ≡ slice_index_or l 0 []
  first [] e = refl
  first (x ∷ []) e = refl
  first (x ∷ y ∷ l) e = absurd (omega (arith, eqb-true (suc (suc (length l))) 1 e))

  put : (l : List (List A)) (v : List A) → (length l == 1) ≡ true → only (slice_set l 0 v) ≡ v
  put [] v e = absurd (true≢false (sym e))
  put (x ∷ []) v e = refl
  put (x ∷ y ∷ l) v e = absurd (omega (arith, eqb-true (suc (suc (length l))) 1 e))

  put-each : (l : List (List A)) (f : List A → List A) {v : List A} → (length l == 1) ≡ true → v ≡ f (slice_index_or l 0 []) → slice_set l 0 v ≡ each f l
  unfolding each map_in
  put-each [] f e q = absurd (true≢false (sym e))
  put-each (x ∷ []) f e q = rw q refl
  put-each (x ∷ y ∷ l) f e q = absurd (omega (arith, eqb-true (suc (suc (length l))) 1 e))

abbrev firsts : Lists → Sparse
firsts l = tables (slice_index_or l.words 0 []) (slice_index_or l.keys 0 []) (slice_index_or l.bytes 0 []) (slice_index_or l.reals 0 []) (slice_index_or l.values 0 [])

parts : (l : Lists) → once_each l ≡ true → ((length l.words == 1) ≡ true) × ((length l.keys == 1) ≡ true) × ((length l.bytes == 1) ≡ true) × ((length l.reals == 1) ≡ true) × ((length l.values == 1) ≡ true)
parts l e =
    let d = both _ _ e in
    let c = both _ _ d.0 in
    let b = both _ _ c.0 in
    let a = both _ _ b.0 in
    (a.0, a.1, b.1, c.1, d.1)

only-first : (l : Lists) → once_each l ≡ true → lent_once l ≡ firsts l
only-first l e = let q = parts l e in rw (first l.words q.0, first l.keys q.1, first l.bytes q.2, first l.reals q.3, first l.values q.4) refl

some-place : (l : Lists) → once_each l ≡ true → (0 < length l.words) × (0 < length l.keys) × (0 < length l.bytes) × (0 < length l.reals) × (0 < length l.values)
some-place l e =
    let q = parts l e in
    (omega (arith, eqb-true (length l.words) 1 q.0), omega (arith, eqb-true (length l.keys) 1 q.1), omega (arith, eqb-true (length l.bytes) 1 q.2), omega (arith, eqb-true (length l.reals) 1 q.3), omega (arith, eqb-true (length l.values) 1 q.4))

-- ---- the call

module _ (t w : Lists) {a b : Bool} (p : a ≡ once_each t) (q : b ≡ once_each w) where
  pub fit-by : not (a && b) ≡ false → once_each t && once_each w ≡ true
  fit-by z = rw (← p, ← q) (not-false (a && b) z)

  pub unfit-by : not (a && b) ≡ true → once_each t && once_each w ≡ false
  unfit-by z = rw (← p, ← q) (not-true (a && b) z)

module _ (t w : Lists) where
  pub unfit-call : (f : State → Result) {a : Answer} → a ≡ refused18 → once_each t && once_each w ≡ false → called a (lent_once t) ≡ call_on f w t
  unfolding call_on
  unfit-call f q h = rw (q, h) refl

  pub kept-unfit : once_each t && once_each w ≡ false → Then (not (once_each t && once_each w)) (t ≡ t)
  kept-unfit e = rw e refl

  pub kept-fit : once_each t && once_each w ≡ true → (u : Lists) → Then (not (once_each t && once_each w)) (u ≡ t)
  kept-fit e u = rw e tt

  pub places : once_each t && once_each w ≡ true → ((0 < length t.words) × (0 < length t.keys) × (0 < length t.bytes) × (0 < length t.reals) × (0 < length t.values)) × ((0 < length w.words) × (0 < length w.keys) × (0 < length w.bytes) × (0 < length w.reals) × (0 < length w.values))
  places e = let b = both (once_each t) (once_each w) e in (some-place t b.0, some-place w b.1)

  module _ (fit : once_each t && once_each w ≡ true) {w₁ k₁ b₁ : List ℕ} {r₁ v₁ : List Float} where
    pub fit-call : (f : State → Result) {a : Answer} → called a (tables w₁ k₁ b₁ r₁ v₁) ≡ call_of f (firsts w) (firsts t) → called a (lent_once (lists (slice_set t.words 0 w₁) (slice_set t.keys 0 k₁) (slice_set t.bytes 0 b₁) (slice_set t.reals 0 r₁) (slice_set t.values 0 v₁))) ≡ call_on f w t
    unfolding call_on
    fit-call f e =
        let b = both (once_each t) (once_each w) fit in
        let q = parts t b.0 in
        rw (fit, put t.words w₁ q.0, put t.keys k₁ q.1, put t.bytes b₁ q.2, put t.reals r₁ q.3, put t.values v₁ q.4, only-first t b.0, only-first w b.1) e

    pub fit-room : tables w₁ k₁ b₁ r₁ v₁ ≡ zero_room → lists (slice_set w.words 0 w₁) (slice_set w.keys 0 k₁) (slice_set w.bytes 0 b₁) (slice_set w.reals 0 r₁) (slice_set w.values 0 v₁) ≡ zeroed w
    unfolding zeroed zero_room
    fit-room e =
        let q = parts w (both (once_each t) (once_each w) fit).1 in
        rw (put-each w.words (zeroes words_size 0) q.0 (ap (λ (x : Sparse). x.words) e), put-each w.keys (zeroes cell_room 0) q.1 (ap (λ (x : Sparse). x.keys) e), put-each w.bytes (zeroes bytes_size 0) q.2 (ap (λ (x : Sparse). x.bytes) e), put-each w.reals (zeroes reals_size zero64) q.3 (ap (λ (x : Sparse). x.reals) e), put-each w.values (zeroes cell_room zero64) q.4 (ap (λ (x : Sparse). x.values) e)) refl

-- ---- reset

module _ (t : Lists) {a : Bool} (p : a ≡ once_each t) where
  pub reset-fit-by : not a ≡ false → once_each t ≡ true
  reset-fit-by z = sym p ∙ not-false a z

  pub reset-unfit-by : not a ≡ true → once_each t ≡ false
  reset-unfit-by z = sym p ∙ not-true a z

module _ (cutoff : Float) (t : Lists) where
  pub unfit-reset : {a : Answer} → a ≡ refused18 → once_each t ≡ false → called a (lent_once t) ≡ reset_on cutoff t
  unfolding reset_on
  unfit-reset q h = rw (q, h) refl

  pub unfit-kept : once_each t ≡ false → Then (not (once_each t)) (t ≡ t)
  unfit-kept e = rw e refl

  pub fit-kept : once_each t ≡ true → (u : Lists) → Then (not (once_each t)) (u ≡ t)
  fit-kept e u = rw e tt

  pub first-places : once_each t ≡ true → (0 < length t.words) × (0 < length t.keys) × (0 < length t.bytes) × (0 < length t.reals) × (0 < length t.values)
  first-places e = some-place t e

  pub fit-reset : once_each t ≡ true → {w₁ k₁ b₁ : List ℕ} {r₁ v₁ : List Float} {a : Answer} → called a (tables w₁ k₁ b₁ r₁ v₁) ≡ reset_of cutoff (firsts t) → called a (lent_once (lists (slice_set t.words 0 w₁) (slice_set t.keys 0 k₁) (slice_set t.bytes 0 b₁) (slice_set t.reals 0 r₁) (slice_set t.values 0 v₁))) ≡ reset_on cutoff t
  unfolding reset_on
  fit-reset fit {w₁} {k₁} {b₁} {r₁} {v₁} e =
      let q = parts t fit in
      rw (fit, put t.words w₁ q.0, put t.keys k₁ q.1, put t.bytes b₁ q.2, put t.reals r₁ q.3, put t.values v₁ q.4, only-first t fit) e
