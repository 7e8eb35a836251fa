-- A place closed up and a place opened, among the first places of a table: what the loops that move elements by one do.
-- Assumes nothing.
use Rattle.std.specs.Prelude.{◌≡◌, ℕ, zero, suc, ◌+◌, ◌<◌, List, [], ◌∷◌, length, slice_index_or, slice_set}
use Rattle.std.proofs.Math.Path.{refl, sym, ap}
use Rattle.std.proofs.Common.{◌∙◌, not-suc-le-zero, le_of_suc-le-suc, arith}
use Rattle.std.proofs.Math.Seq.{get_or-set_other}
use Rattle.laws.specs.Loops.{delete, insert_at, delete-up}

module _ {A : Type 0} where
  -- place i goes: the places after it, up to e, move down by one, and place e keeps what it has
  unfoldable pub closed : A → ℕ → ℕ → List A → List A
  closed d i e l = insert_at e (slice_index_or l e d) (delete i l)

  pub close-next : (d : A) (i e : ℕ) (l : List A) {z : List A} → i < e → e < length l → closed d i e l ≡ z → closed d (i + 1) e (slice_set l i (slice_index_or l (i + 1) d)) ≡ z
  unfolding closed
  close-next d i e l h k r =
      rw (delete-up i l d (omega arith), get_or-set_other l i e (slice_index_or l (i + 1) d) d (λ q. omega arith)) r

  again : (i : ℕ) (l : List A) (d : A) → i < length l → insert_at i (slice_index_or l i d) (delete i l) ≡ l
  unfolding insert_at delete
  again i [] d h = absurd (not-suc-le-zero h)
  again zero (x ∷ l) d h = refl
  again (suc i) (x ∷ l) d h = ap (λ (r : List A). x ∷ r) (again i l d (le_of_suc-le-suc h))

  pub close-last : (d : A) (i e : ℕ) (l : List A) {z : List A} → i ≡ e → e < length l → closed d i e l ≡ z → l ≡ z
  unfolding closed
  close-last d i e l q h r = sym (again e l d h) ∙ (rw q at r)

  -- place e, which is free, is filled: y comes to place i, and what stood from there on moves up by one
  unfoldable pub opened : ℕ → ℕ → A → List A → List A
  opened i e y l = insert_at i y (delete e l)
