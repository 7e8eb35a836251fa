-- The place of a symbol among the live ones, and the steps' operations on the cell of a symbol as operations on its place.
use Rattle.std.specs.Prelude.{◌≡◌, ℕ, zero, suc, ◌<◌, true, false, List, [], ◌∷◌, map, length, ◌≢◌, slice_index_or, slice_set, refl, Float}
use Rattle.std.proofs.Common.{sym, ap, not-suc-le-zero, le_of_suc-le-suc, suc-ne-zero, arith}
use Rattle.std.proofs.Math.Nat.{suc_inj}
use Rattle.steps.specs.Number.{zero64, all_whole, worse}
use Rattle.steps.specs.Symbol.{Symbol, is_symbol, coefficient_for, clear_cell}
use Rattle.steps.specs.Row.{Cell, kept, cell_value, cell_values, cell_mark, cell_marks, insert_cell, insert_symbol}
use Rattle.rows.specs.Marks.{worse-unit}

unfoldable pub Missing : ℕ → List Symbol → Type 0
Missing s [] = Unit {0}
Missing s (x ∷ xs) = (is_symbol s x ≡ false) × Missing s xs

-- the j-th symbol has the id s, and no other has it
unfoldable pub PlaceOf : ℕ → List Symbol → ℕ → Type 0
PlaceOf s [] j = ⊥
PlaceOf s (x ∷ xs) zero = (is_symbol s x ≡ true) × Missing s xs
PlaceOf s (x ∷ xs) (suc j) = (is_symbol s x ≡ false) × PlaceOf s xs j

pub place-below : (s : ℕ) (xs : List Symbol) (j : ℕ) → PlaceOf s xs j → j < length xs
unfolding PlaceOf
place-below s [] j p = absurd p
place-below s (x ∷ xs) zero p = omega arith
place-below s (x ∷ xs) (suc j) p =
    let h = place-below s xs j p.1 in
    omega (arith, h)

pub coefficient-at : (s : ℕ) (xs : List Symbol) (j : ℕ) (cs : List Float) (d : Float) → PlaceOf s xs j → length cs ≡ length xs → coefficient_for s xs cs ≡ slice_index_or cs j d
unfolding PlaceOf coefficient_for
coefficient-at s [] j cs d p q = absurd p
coefficient-at s (x ∷ xs) j [] d p q = absurd (suc-ne-zero (length xs) (sym q))
coefficient-at s (x ∷ xs) zero (c ∷ cs) d p q = rw (p.0, coefficient_for)
coefficient-at s (x ∷ xs) (suc j) (c ∷ cs) d p q = rw (p.0, coefficient_for) (coefficient-at s xs j cs d p.1 (suc_inj q))

pub clear_at : (s : ℕ) (xs : List Symbol) (j : ℕ) (cs : List Float) → PlaceOf s xs j → length cs ≡ length xs → clear_cell s xs cs ≡ slice_set cs j zero64
unfolding PlaceOf clear_cell
clear_at s [] j cs p q = absurd p
clear_at s (x ∷ xs) j [] p q = absurd (suc-ne-zero (length xs) (sym q))
clear_at s (x ∷ xs) zero (c ∷ cs) p q = rw (p.0, clear_cell)
clear_at s (x ∷ xs) (suc j) (c ∷ cs) p q = rw (p.0, clear_cell) (ap (λ (r : List Float). c ∷ r) (clear_at s xs j cs p.1 (suc_inj q)))

-- where no symbol has the id, nothing is inserted
pub insert-none : (cutoff : Float) (s : ℕ) (k : Float) (xs : List Symbol) (cs : List Float) → Missing s xs → length cs ≡ length xs → insert_symbol cutoff s k xs cs ≡ map kept cs
unfolding Missing insert_symbol
insert-none cutoff s k [] [] p q = refl
insert-none cutoff s k [] (c ∷ cs) p q = absurd (suc-ne-zero (length cs) q)
insert-none cutoff s k (x ∷ xs) [] p q = absurd (suc-ne-zero (length xs) (sym q))
insert-none cutoff s k (x ∷ xs) (c ∷ cs) p q = rw p.0 (ap (λ (r : List Cell). kept c ∷ r) (insert-none cutoff s k xs cs p.1 (suc_inj q)))

pub kept-values : (cs : List Float) → cell_values (map kept cs) ≡ cs
unfolding cell_values cell_value
kept-values [] = refl
kept-values (c ∷ cs) = ap (λ (r : List Float). c ∷ r) (kept-values cs)

pub kept-marks : (bound : Float) (cs : List Float) → cell_marks bound (map kept cs) ≡ all_whole
unfolding cell_marks cell_mark worse
kept-marks bound [] = refl
kept-marks bound (c ∷ cs) = kept-marks bound cs

pub insert-values : (cutoff : Float) (s : ℕ) (k : Float) (xs : List Symbol) (j : ℕ) (cs : List Float) (d : Float) → PlaceOf s xs j → length cs ≡ length xs → cell_values (insert_symbol cutoff s k xs cs) ≡ slice_set cs j (cell_value (insert_cell cutoff (slice_index_or cs j d) k))
unfolding PlaceOf insert_symbol cell_values cell_value
insert-values cutoff s k [] j cs d p q = absurd p
insert-values cutoff s k (x ∷ xs) j [] d p q = absurd (suc-ne-zero (length xs) (sym q))
insert-values cutoff s k (x ∷ xs) zero (c ∷ cs) d p q = rw (p.0, insert-none cutoff s k xs cs p.1 (suc_inj q), kept-values)
insert-values cutoff s k (x ∷ xs) (suc j) (c ∷ cs) d p q = rw p.0 (ap (λ (r : List Float). c ∷ r) (insert-values cutoff s k xs j cs d p.1 (suc_inj q)))

pub insert-marks : (cutoff : Float) (s : ℕ) (k bound : Float) (xs : List Symbol) (j : ℕ) (cs : List Float) (d : Float) → PlaceOf s xs j → length cs ≡ length xs → cell_marks bound (insert_symbol cutoff s k xs cs) ≡ cell_mark bound (insert_cell cutoff (slice_index_or cs j d) k)
unfolding PlaceOf insert_symbol cell_marks cell_mark worse
insert-marks cutoff s k bound [] j cs d p q = absurd p
insert-marks cutoff s k bound (x ∷ xs) j [] d p q = absurd (suc-ne-zero (length xs) (sym q))
insert-marks cutoff s k bound (x ∷ xs) zero (c ∷ cs) d p q = rw (p.0, insert-none cutoff s k xs cs p.1 (suc_inj q), kept-marks bound) (worse-unit (cell_mark bound (insert_cell cutoff c k)))
insert-marks cutoff s k bound (x ∷ xs) (suc j) (c ∷ cs) d p q = rw p.0 (insert-marks cutoff s k bound xs j cs d p.1 (suc_inj q))

-- ---- a place from what stands at each place

pub missing-from : (s : ℕ) (xs : List Symbol) (d : Symbol) → ((i : ℕ) → i < length xs → is_symbol s (slice_index_or xs i d) ≡ false) → Missing s xs
unfolding Missing
missing-from s [] d q = tt
missing-from s (x ∷ xs) d q = (q 0 (omega arith), missing-from s xs d λ i h. q (suc i) (omega (arith, h)))

pub place-from : (s : ℕ) (xs : List Symbol) (j : ℕ) (d : Symbol) → j < length xs → is_symbol s (slice_index_or xs j d) ≡ true → ((i : ℕ) → i < length xs → (i ≢ j) → is_symbol s (slice_index_or xs i d) ≡ false) → PlaceOf s xs j
unfolding PlaceOf
place-from s [] j d h p q = absurd (not-suc-le-zero h)
place-from s (x ∷ xs) zero d h p q = (p, missing-from s xs d λ i b. q (suc i) (omega (arith, b)) (omega arith))
place-from s (x ∷ xs) (suc j) d h p q = (q 0 (omega arith) (omega arith), place-from s xs j d (le_of_suc-le-suc h) p λ i b c. q (suc i) (omega (arith, b)) λ e. c (suc_inj e))
