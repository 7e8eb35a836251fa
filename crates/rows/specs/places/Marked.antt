-- Cells under marks, place by place: absent where the mark is 1, finite where it is 0. A row fits if as many places fit as there are.
-- Assumes nothing.
use Rattle.std.specs.Prelude.{◌≡◌, ℕ, zero, suc, ◌+◌, ◌-◌, ◌<◌, ◌≤◌, Bool, true, false, cond, ◌&&◌, T, List, ◌==◌, ◌≢◌, slice_index_or, Float}
use Rattle.std.proofs.Math.Path.{refl}
use Rattle.std.proofs.Common.{◌∙◌}
use native.Mathlib.Omega.{arith}
use Rattle.std.specs.Float.{nan, inf, fin, binary64}
use Rattle.std.specs.Float.Ieee.{of_bits, mul, eq, fits}
use borrow.Author.Tests.{eq-eqb, ne_eqb, eqb-true}
use Rattle.steps.specs.Number.{is_finite, zero64, one64}
use Rattle.steps.specs.Symbol.{absent}
use Rattle.laws.specs.Lists.{all_from, all_in, sum_from, sum_in}
use Rattle.layout.specs.cells.Names.{row_room}
use Rattle.rows.specs.places.Finding.{all-at, at_all}
use Rattle.rows.specs.places.Listed.{same}
use Rattle.rows.specs.places.Products.{by_zero, by_one}

unfoldable pub mark_of : Bool → Float
mark_of b = cond b one64 zero64

unfoldable pub cell_fits : Bool → Float → Bool
cell_fits b x = cond b (absent x) (is_finite x)

unfoldable pub marked : List Float → ℕ → Bool
marked m j = eq (slice_index_or m j nan) one64

-- each place of a row has a mark
abbrev pub Marks : List Float → Type 0
Marks m = (j : ℕ) → j < row_room → slice_index_or m j nan ≡ mark_of (marked m j)

-- the places from a up to e
unfoldable pub fits_in : List Float → List Float → ℕ → ℕ → Bool
fits_in row m a e = all_in (λ j. cell_fits (marked m j) (slice_index_or row j nan)) a e

-- 1 for a place that fits
unfoldable pub hit : Bool → ℕ
hit b = cond b 1 0

-- what n counts of the cell x, if m is a mark
abbrev pub Hits : Float → Float → ℕ → Type 0
Hits m x n = (b : Bool) → m ≡ mark_of b → n ≡ hit (cell_fits b x)

unfoldable pub hits_in : List Float → List Float → ℕ → ℕ → ℕ
hits_in row m a e = sum_in (λ j. hit (cell_fits (marked m j) (slice_index_or row j nan))) a e

-- ---- a mark tells by a product

pub product-fits : (x : Float) (b : Bool) {m : Float} → T (fits binary64 x) → m ≡ mark_of b → eq (mul binary64 x m) zero64 ≡ cell_fits b x
unfolding mark_of cell_fits
product-fits x true t q = rw q (by_one x t)
product-fits x false t q = rw q (by_zero x)

absent-finite : (x : Float) → absent x ≡ true → is_finite x ≡ true
unfolding absent is_finite eq zero64 of_bits
absent-finite nan h = h
absent-finite (inf s) h = h
absent-finite (fin s m e) h = refl

pub fit-finite : (b : Bool) (x : Float) → cell_fits b x ≡ true → is_finite x ≡ true
unfolding cell_fits
fit-finite true x h = absent-finite x h
fit-finite false x h = h

pub fit-absent : {b : Bool} (x : Float) → cell_fits b x ≡ true → b ≡ true → absent x ≡ true
unfolding cell_fits
fit-absent x h e = rw e at h

pub it-fits : (b : Bool) (x : Float) → (b ≡ true → absent x ≡ true) → is_finite x ≡ true → cell_fits b x ≡ true
unfolding cell_fits
it-fits true x f h = f refl
it-fits false x f h = h

pub fits-at : (row m : List Float) (a e : ℕ) → fits_in row m a e ≡ true → (j : ℕ) → a ≤ j → j < e → cell_fits (marked m j) (slice_index_or row j nan) ≡ true
unfolding fits_in
fits-at row m a e q = all-at (λ j. cell_fits (marked m j) (slice_index_or row j nan)) a e q

pub at-fits : (row m : List Float) (a e : ℕ) → ((j : ℕ) → a ≤ j → j < e → cell_fits (marked m j) (slice_index_or row j nan) ≡ true) → fits_in row m a e ≡ true
unfolding fits_in
at-fits row m a e f = at_all (λ j. cell_fits (marked m j) (slice_index_or row j nan)) a e f

pub mark-told : (b : Bool) → eq (mark_of b) one64 ≡ b
unfolding mark_of eq zero64 one64 of_bits
mark-told true = refl
mark-told false = refl

-- ---- all places pass a test if as many do as there are

module _ (p : ℕ → Bool) where
  count-le : (i n : ℕ) → sum_from (λ j. hit (p j)) i n ≤ n
  unfolding sum_from hit
  count-le i zero = omega arith
  count-le i (suc n) = go (p i) (count-le (suc i) n)
    where
      go : (b : Bool) → sum_from (λ j. hit (p j)) (suc i) n ≤ n → hit b + sum_from (λ j. hit (p j)) (suc i) n ≤ suc n
      go true h = omega arith
      go false h = omega arith

  count-from : (i n : ℕ) → (sum_from (λ j. hit (p j)) i n == n) ≡ all_from p i n
  unfolding sum_from all_from hit
  count-from i zero = refl
  count-from i (suc n) = go (p i) (count-le (suc i) n) (count-from (suc i) n)
    where
      go : (b : Bool) → sum_from (λ j. hit (p j)) (suc i) n ≤ n → (sum_from (λ j. hit (p j)) (suc i) n == n) ≡ all_from p (suc i) n → (hit b + sum_from (λ j. hit (p j)) (suc i) n == suc n) ≡ b && all_from p (suc i) n
      go true h q = one_more (sum_from (λ j. hit (p j)) (suc i) n) n ∙ q
        where
          one_more : (s n : ℕ) → (1 + s == suc n) ≡ (s == n)
          one_more s n = same _ _ (λ e. eq-eqb s n (let h = eqb-true (1 + s) (suc n) e in omega arith)) (λ e. eq-eqb (1 + s) (suc n) (let h = eqb-true s n e in omega arith))
      go false h q = ne_eqb _ _ (λ e. too_few (sum_from (λ j. hit (p j)) (suc i) n) n h e)
        where
          too_few : (s n : ℕ) → s ≤ n → 0 + s ≢ suc n
          too_few s n h e = omega arith

pub counted-fits : (row m : List Float) (a e : ℕ) {n : ℕ} → n ≡ hits_in row m a e → (n == e - a) ≡ fits_in row m a e
unfolding hits_in fits_in sum_in all_in
counted-fits row m a e q = rw q (count-from (λ j. cell_fits (marked m j) (slice_index_or row j nan)) a (e - a))
