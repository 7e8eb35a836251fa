-- What stands at a place after a place was closed up or opened.
-- Assumes nothing.
use Rattle.std.specs.Prelude.{◌≡◌, ℕ, zero, suc, ◌<◌, ◌≤◌, List, [], ◌∷◌, length, get_or, slice_index_or}
use Rattle.std.proofs.Math.Path.{refl}
use Rattle.std.proofs.Common.{◌∙◌, not-suc-le-zero, le_of_suc-le-suc, arith}
use Rattle.laws.specs.Loops.{delete, insert_at}
use Rattle.laws.specs.Places.{length-delete, length-insert_at}
use Rattle.rows.specs.moves.Close.{closed, opened}

module _ {A : Type 0} where
  delete-before : (i : ℕ) (l : List A) (j : ℕ) (x : A) → j < i → slice_index_or (delete i l) j x ≡ slice_index_or l j x
  unfolding delete
  delete-before i [] j x h = refl
  delete-before zero (y ∷ l) j x h = absurd (not-suc-le-zero h)
  delete-before (suc i) (y ∷ l) zero x h = refl
  delete-before (suc i) (y ∷ l) (suc j) x h = delete-before i l j x (le_of_suc-le-suc h)

  delete-after : (i : ℕ) (l : List A) (j : ℕ) (x : A) → i ≤ j → slice_index_or (delete i l) j x ≡ slice_index_or l (suc j) x
  unfolding delete
  delete-after i [] j x h = refl
  delete-after zero (y ∷ l) j x h = refl
  delete-after (suc i) (y ∷ l) zero x h = absurd (not-suc-le-zero h)
  delete-after (suc i) (y ∷ l) (suc j) x h = delete-after i l j x (le_of_suc-le-suc h)

  insert-before : (i : ℕ) (y : A) (l : List A) (j : ℕ) (x : A) → j < i → i ≤ length l → slice_index_or (insert_at i y l) j x ≡ slice_index_or l j x
  unfolding insert_at
  insert-before zero y l j x h k = absurd (not-suc-le-zero h)
  insert-before (suc i) y [] j x h k = absurd (not-suc-le-zero k)
  insert-before (suc i) y (z ∷ l) zero x h k = refl
  insert-before (suc i) y (z ∷ l) (suc j) x h k = insert-before i y l j x (le_of_suc-le-suc h) (le_of_suc-le-suc k)

  insert-at : (i : ℕ) (y : A) (l : List A) (x : A) → i ≤ length l → slice_index_or (insert_at i y l) i x ≡ y
  unfolding insert_at
  insert-at zero y l x k = refl
  insert-at (suc i) y [] x k = absurd (not-suc-le-zero k)
  insert-at (suc i) y (z ∷ l) x k = insert-at i y l x (le_of_suc-le-suc k)

  insert-after : (i : ℕ) (y : A) (l : List A) (j : ℕ) (x : A) → i ≤ j → i ≤ length l → slice_index_or (insert_at i y l) (suc j) x ≡ slice_index_or l j x
  unfolding insert_at
  insert-after zero y l j x h k = refl
  insert-after (suc i) y [] j x h k = absurd (not-suc-le-zero k)
  insert-after (suc i) y (z ∷ l) zero x h k = absurd (not-suc-le-zero h)
  insert-after (suc i) y (z ∷ l) (suc j) x h k = insert-after i y l j x (le_of_suc-le-suc h) (le_of_suc-le-suc k)

  -- ---- place i was closed up, among the places up to e
  module _ (d : A) (i e : ℕ) (l : List A) (below : i ≤ e) (room : e < length l) (x : A) where
    pub closed-before : (j : ℕ) → j < i → slice_index_or (closed d i e l) j x ≡ slice_index_or l j x
    unfolding closed
    closed-before j h =
        let n = length-delete i l (omega arith) in
        insert-before e (slice_index_or l e d) (delete i l) j x (omega arith) (omega arith) ∙ delete-before i l j x h

    pub closed-inside : (j : ℕ) → i ≤ j → j < e → slice_index_or (closed d i e l) j x ≡ slice_index_or l (suc j) x
    unfolding closed
    closed-inside j h k =
        let n = length-delete i l (omega arith) in
        insert-before e (slice_index_or l e d) (delete i l) j x k (omega arith) ∙ delete-after i l j x h

    pub closed_after : (j : ℕ) → e < j → slice_index_or (closed d i e l) j x ≡ slice_index_or l j x
    unfolding closed
    closed_after zero h = absurd (not-suc-le-zero h)
    closed_after (suc j) h =
        let n = length-delete i l (omega arith) in
        insert-after e (slice_index_or l e d) (delete i l) j x (omega arith) (omega arith) ∙ delete-after i l j x (omega arith)

    pub length-closed : length (closed d i e l) ≡ length l
    unfolding closed
    length-closed = length-insert_at e (slice_index_or l e d) (delete i l) ∙ length-delete i l (omega arith)

  -- ---- y came to place i, into the free place e
  module _ (i e : ℕ) (y : A) (l : List A) (below : i ≤ e) (room : e < length l) (x : A) where
    pub opened-before : (j : ℕ) → j < i → slice_index_or (opened i e y l) j x ≡ slice_index_or l j x
    unfolding opened
    opened-before j h =
        let n = length-delete e l room in
        insert-before i y (delete e l) j x h (omega arith) ∙ delete-before e l j x (omega arith)

    pub opened-at : get_or (opened i e y l) i x ≡ y
    unfolding opened
    opened-at =
        let n = length-delete e l room in
        insert-at i y (delete e l) x (omega arith)

    pub opened_inside : (j : ℕ) → i ≤ j → j < e → slice_index_or (opened i e y l) (suc j) x ≡ slice_index_or l j x
    unfolding opened
    opened_inside j h k =
        let n = length-delete e l room in
        insert-after i y (delete e l) j x h (omega arith) ∙ delete-before e l j x k

    pub opened_after : (j : ℕ) → e < j → slice_index_or (opened i e y l) j x ≡ slice_index_or l j x
    unfolding opened
    opened_after zero h = absurd (not-suc-le-zero h)
    opened_after (suc j) h =
        let n = length-delete e l room in
        insert-after i y (delete e l) j x (omega arith) (omega arith) ∙ delete-after e l j x (omega arith)

    pub length-opened : length (opened i e y l) ≡ length l
    unfolding opened
    length-opened = length-insert_at i y (delete e l) ∙ length-delete e l room
