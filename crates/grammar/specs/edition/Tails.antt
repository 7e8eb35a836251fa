-- The reader over the bytes of an ending.
use Prim.Native.Nat.{ℕ, zero, suc, ◌+◌, ◌-◌, ◌*◌}
use Rattle.std.specs.Prelude.{◌≡◌, Bool, true, false}
use Rattle.std.proofs.Math.Path.{refl, ap}
use Rattle.std.proofs.Common.{sym, ◌∙◌}
use mathlib.Core.List.{List, [], ◌∷◌, ◌++◌, append_assoc, append-nil}
use Rattle.std.proofs.Math.Option.{some}
use Rattle.std.proofs.Math.Nat.{add-zero}
use native.Mathlib.Omega.{arith}
use Rattle.std.proofs.Math.Dec.{T}
use Rattle.std.proofs.Math.ListN.{length}
use Rattle.grammar.specs.Bytes.{is_digit, kind_of}
use Rattle.grammar.specs.Sums.{Relation, Sums, with_variable}
use Rattle.grammar.specs.Reader.{Mode, first, spaced, wanted, lettered, number, numbered, named, closed, apart, half, right, flushed, is_read}
use Rattle.grammar.specs.Trees.{Digits, all_digits, are_digits, worth_from, worth, spaces, around}
use Rattle.grammar.specs.Pieces.{both}
use Rattle.grammar.specs.edition.Endings.{Ending, numbers_of, ending_bytes}
use Rattle.grammar.specs.edition.Steps.{digit, space, mark_at, Tail, opened, strong, rested, parted, grouped, tail_step, head, tail, found, pass}

pub is_true : (t : Bool) → T t → t ≡ true
is_true true h = refl
is_true false h = absurd h

pub mark-digit : (b : ℕ) → T (is_digit b) → mark_at b ≡ digit (b - 48)
mark-digit b h = rw (is_true (is_digit b) h)

module _ (r : Relation) where
  -- spaces and the `@`, behind a part of the right side
  pub walk-mark : (k : ℕ) (z : List ℕ) (at : ℕ) (m : Mode) (s : Sums) → T (is_read m) → pass (spaces k ++ (64 ∷ z)) at (head m (right r) s) ≡ pass z (at + k + 1) (tail r (flushed m s) opened)
  unfolding pass kind_of
  walk-mark zero z at m s h = rw (is_true (is_read m) h) (ap (λ (p : ℕ). pass z p (tail r (flushed m s) opened)) (omega arith))
  walk-mark (suc k) z at first s h = absurd h
  walk-mark (suc k) z at spaced s h = absurd h
  walk-mark (suc k) z at (wanted f) s h = absurd h
  walk-mark (suc k) z at (lettered f) s h = absurd h
  walk-mark (suc k) z at (number f n) s h = walk-mark k z (suc at) (numbered f n) s tt ∙ ap (λ (p : ℕ). pass z p (tail r (flushed (number f n) s) opened)) (omega arith)
  walk-mark (suc k) z at (numbered f n) s h = walk-mark k z (suc at) (numbered f n) s tt ∙ ap (λ (p : ℕ). pass z p (tail r (flushed (numbered f n) s) opened)) (omega arith)
  walk-mark (suc k) z at (named f v) s h = walk-mark k z (suc at) apart (with_variable f v s) tt ∙ ap (λ (p : ℕ). pass z p (tail r (flushed (named f v) s) opened)) (omega arith)
  walk-mark (suc k) z at closed s h = walk-mark k z (suc at) closed s tt ∙ ap (λ (p : ℕ). pass z p (tail r s opened)) (omega arith)
  walk-mark (suc k) z at apart s h = walk-mark k z (suc at) apart s tt ∙ ap (λ (p : ℕ). pass z p (tail r s opened)) (omega arith)
  walk-mark (suc k) z at (half x) s h = absurd h

  module _ (s : Sums) where
    walk-spaces : (t : Tail) → tail_step t space ≡ some t → (k : ℕ) (z : List ℕ) (at : ℕ) → pass (spaces k ++ z) at (tail r s t) ≡ pass z (at + k) (tail r s t)
    unfolding pass
    walk-spaces t e zero z at = rw add-zero
    walk-spaces t e (suc k) z at = rw e (walk-spaces t e k z (suc at) ∙ ap (λ (p : ℕ). pass z p (tail r s t)) (omega arith))

    walk-comma : (n k : ℕ) (z : List ℕ) (at : ℕ) → pass (spaces k ++ (44 ∷ z)) at (tail r s (strong n)) ≡ pass z (at + k + 1) (tail r s (parted n))
    unfolding pass
    walk-comma n zero z at = ap (λ (p : ℕ). pass z p (tail r s (parted n))) (omega arith)
    walk-comma n (suc k) z at = walk-spaces (rested n) refl k (44 ∷ z) (suc at) ∙ ap (λ (p : ℕ). pass z p (tail r s (parted n))) (omega arith)

    module _ (mode : ℕ → Tail) (steps : (v d : ℕ) → tail_step (mode v) (digit d) ≡ some (mode (v * 10 + d))) where
      walk-digits : (bs z : List ℕ) (at v : ℕ) → T (all_digits bs) → pass (bs ++ z) at (tail r s (mode v)) ≡ pass z (at + length bs) (tail r s (mode (worth_from v bs)))
      unfolding pass worth_from all_digits
      walk-digits [] z at v h = rw add-zero
      walk-digits (b ∷ bs) z at v h =
          let d = both (is_digit b) (all_digits bs) h in
          rw (mark-digit b d.0, steps v (b - 48)) (walk-digits bs z (suc at) (v * 10 + (b - 48)) d.1 ∙ ap (λ (p : ℕ). pass z p (tail r s (mode (worth_from (v * 10 + (b - 48)) bs)))) (omega arith))

      walk-number : (t : Tail) → ((d : ℕ) → tail_step t (digit d) ≡ some (mode d)) → (n : Digits) (z : List ℕ) (at : ℕ) → pass (n.bytes ++ z) at (tail r s t) ≡ pass z (at + length n.bytes) (tail r s (mode (worth n)))
      unfolding pass worth_from all_digits
      walk-number t q n z at = by n.bytes n.are-digits
        where
          by : (bs : List ℕ) → T (are_digits bs) → pass (bs ++ z) at (tail r s t) ≡ pass z (at + length bs) (tail r s (mode (worth_from 0 bs)))
          by [] h = absurd h
          by (b ∷ bs) h =
              let d = both (is_digit b) (all_digits bs) h in
              let o : 0 * 10 + (b - 48) ≡ b - 48 = omega arith in
              rw (mark-digit b d.0, q (b - 48), o) (walk-digits bs z (suc at) (b - 48) d.1 ∙ ap (λ (p : ℕ). pass z p (tail r s (mode (worth_from (b - 48) bs)))) (omega arith))

    -- behind the `@`
    walk-numbers : (j : ℕ) (e : Ending) (at : ℕ) → pass (spaces j ++ numbers_of e) at (tail r s opened) ≡ found r s (worth e.strength) (worth e.group)
    unfolding pass
    walk-numbers j e at =
        let d = e.strength in
        let g = e.group in
        let k = e.comma in
        let p = at + j + length d.bytes + k.before + 1 in
        walk-spaces opened refl j (numbers_of e) at
        ∙ (walk-number strong (λ v c. refl) opened (λ c. refl) d (around k (44 ∷ []) ++ g.bytes) (at + j)
        ∙ (ap (λ (l : List ℕ). pass l (at + j + length d.bytes) (tail r s (strong (worth d)))) (comma-assoc k.before k.after)
        ∙ (walk-comma (worth d) k.before (spaces k.after ++ g.bytes) (at + j + length d.bytes)
        ∙ (walk-spaces (parted (worth d)) refl k.after g.bytes p
        ∙ (ap (λ (l : List ℕ). pass l (p + k.after) (tail r s (parted (worth d)))) (sym (append-nil g.bytes))
        ∙ walk-number (grouped (worth d)) (λ v c. refl) (parted (worth d)) (λ c. refl) g [] (p + k.after))))))
      where
        comma-assoc : (b a : ℕ) → (spaces b ++ ((44 ∷ []) ++ spaces a)) ++ e.group.bytes ≡ spaces b ++ (44 ∷ (spaces a ++ e.group.bytes))
        comma-assoc b a = simp append_assoc

  pub walk-ending : (e : Ending) (at : ℕ) (m : Mode) (s : Sums) → T (is_read m) → pass (ending_bytes (some e)) at (head m (right r) s) ≡ found r (flushed m s) (worth e.strength) (worth e.group)
  walk-ending e at m s h =
      let k = e.mark in
      ap (λ (l : List ℕ). pass l at (head m (right r) s)) (mark-assoc k.before k.after (numbers_of e))
      ∙ (walk-mark k.before (spaces k.after ++ numbers_of e) at m s h ∙ walk-numbers (flushed m s) k.after e (at + k.before + 1))
    where
      mark-assoc : (b a : ℕ) (w : List ℕ) → (spaces b ++ ((64 ∷ []) ++ spaces a)) ++ w ≡ spaces b ++ (64 ∷ (spaces a ++ w))
      mark-assoc b a w = simp append_assoc
