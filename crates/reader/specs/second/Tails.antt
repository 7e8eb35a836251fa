-- What the code finds behind an `@`, and how the second edition's reader goes over it.
use Rattle.std.specs.Prelude.{ℕ, ◌+◌, ◌*◌, ◌≤◌, ◌<◌, ◌≡◌, refl, Bool, true, false, List, ltb, length, get_or, Result, Ok, Err}
use Rattle.std.proofs.Common.{sym, ap, ◌∙◌, arith, ltb-true, ltb-false}
use Rattle.std.proofs.lemmas.Bool.{false≢true}
use Rattle.std.proofs.Math.Option.{Option, none, some}
use Rattle.grammar.specs.Bytes.{is_digit}
use Rattle.grammar.specs.Sums.{Relation, Sums}
use Rattle.reader.specs.Scan.{Skips, present}
use Rattle.reader.specs.Run.{behind-spaces, fewer-spaces}
use Rattle.grammar.specs.edition.Endings.{required, most_group}
use Rattle.grammar.specs.edition.Steps.{Mark, digit, space, mark_at, Tail, opened, strong, rested, parted, grouped, tail_step, tail, tailed, tail_end, met, found, onward}
use Rattle.grammar.specs.edition.Descent.{pass_from}
use Rattle.grammar.proofs.edition.Descent.{byte, no_byte}
use Rattle.reader.specs.second.Numbers.{by-mark, Worth, alone, longer, capped, DigitsAre}
use Rattle.reader.specs.Faults.{number_of, place_of}
use Rattle.reader.specs.declared.fault.Fault.{Fault}
use Rattle.reader.specs.declared.fault.Fault.TheVariants.{Astray, TooDeep, TooLarge}
use Rattle.reader.specs.declared.second.endings.Ending.{Ending}

-- behind the comma
abbrev pub GroupIs : List ℕ → ℕ → Result ℕ Fault → Type 0
GroupIs w at (Ok g) = (k : ℕ) × ((r : Relation) (s : Sums) (n : ℕ) → pass_from w at (tail r s (parted n)) ≡ found r s n k) × (g ≡ capped most_group k)
GroupIs w at (Err x) = (r : Relation) (s : Sums) (n : ℕ) → pass_from w at (tail r s (parted n)) ≡ met (number_of x) (place_of x)

-- behind the `@`
abbrev pub EndingIs : List ℕ → ℕ → Result Ending Fault → Type 0
EndingIs w at (Ok x) = (j k : ℕ) × ((r : Relation) (s : Sums) → pass_from w at (tail r s opened) ≡ found r s j k) × (x.strength ≡ capped required j) × (x.group ≡ capped most_group k)
EndingIs w at (Err e) = (r : Relation) (s : Sums) → pass_from w at (tail r s opened) ≡ met (number_of e) (place_of e)

module _ (w : List ℕ) (r : Relation) (s : Sums) where
  -- ---- one byte of the ending

  one : (at : ℕ) (t : Tail) {u : Tail} → at < length w → tail_step t (mark_at (get_or w at 0)) ≡ some u → pass_from w at (tail r s t) ≡ pass_from w (at + 1) (tail r s u)
  one at t h e = byte w at (tail r s t) h ∙ ap (λ (x : Option Tail). onward at (tailed r s x) (λ y. pass_from w (at + 1) y)) e

  no_more : (at : ℕ) (t : Tail) → at ≤ length w → tail_step t (mark_at (get_or w at 0)) ≡ none → tail_end at r s t ≡ met 20 at → pass_from w at (tail r s t) ≡ met 20 at
  no_more at t h e q = by (ltb at (length w)) (ltb-true at (length w)) (ltb-false at (length w))
    where
      by : (x : Bool) → (x ≡ true → at < length w) → (x ≡ false → length w ≤ at) → pass_from w at (tail r s t) ≡ met 20 at
      by true f g = byte w at (tail r s t) (f refl) ∙ ap (λ (x : Option Tail). onward at (tailed r s x) (λ y. pass_from w (at + 1) y)) e
      by false f g = no_byte w at (tail r s t) (g refl) ∙ q

  over-spaces : (t : Tail) → tail_step t space ≡ some t → (at j : ℕ) → Skips w at j → pass_from w at (tail r s t) ≡ pass_from w j (tail r s t)
  over-spaces t q = behind-spaces w (λ i. pass_from w i (tail r s t)) (λ i h e. one i t h (ap (λ (x : ℕ). tail_step t (mark_at x)) e ∙ q))

  over-digits : (t : Tail) (mode : ℕ → Tail) → ((d : ℕ) → tail_step t (digit d) ≡ some (mode d)) → ((k d : ℕ) → tail_step (mode k) (digit d) ≡ some (mode (k * 10 + d)))
      → (at : ℕ) {j k : ℕ} → Worth w at j k → pass_from w at (tail r s t) ≡ pass_from w j (tail r s (mode k))
  over-digits t mode first more at (alone {d} h e) = one at t h (ap (tail_step t) e ∙ first d)
  over-digits t mode first more at (longer {j} {k} {d} q h e) = over-digits t mode first more at q ∙ one j (mode k) h (ap (tail_step (mode k)) e ∙ more k d)

  -- ---- the numbers

  -- no digit where one must stand
  not_opened : (at i : ℕ) → Skips w at i → is_digit (get_or w i 0) ≡ false → pass_from w at (tail r s opened) ≡ met 20 i
  not_opened at i k h =
      over-spaces opened refl at i k
      ∙ no_more i opened k.within (by-mark (λ (x : Mark). tail_step opened x ≡ none) (get_or w i 0) (λ e. absurd (false≢true (sym h ∙ e))) (λ e. absurd (k.stops e)) (λ e. refl) refl) refl

  not-parted : (n at i : ℕ) → Skips w at i → is_digit (get_or w i 0) ≡ false → pass_from w at (tail r s (parted n)) ≡ met 20 i
  not-parted n at i k h =
      over-spaces (parted n) refl at i k
      ∙ no_more i (parted n) k.within (by-mark (λ (x : Mark). tail_step (parted n) x ≡ none) (get_or w i 0) (λ e. absurd (false≢true (sym h ∙ e))) (λ e. absurd (k.stops e)) (λ e. refl) refl) refl

  -- the strength, spaces and a comma
  comma-on : (n next mark : ℕ) → Skips w next mark → get_or w mark 0 ≡ 44 → pass_from w next (tail r s (strong n)) ≡ pass_from w (mark + 1) (tail r s (parted n))
  comma-on n next mark k e = by (ltb next mark) (ltb-true next mark) (ltb-false next mark)
    where
      here : mark < length w
      here = present w mark (omega (arith, e))

      by : (t : Bool) → (t ≡ true → next < mark) → (t ≡ false → mark ≤ next) → pass_from w next (tail r s (strong n)) ≡ pass_from w (mark + 1) (tail r s (parted n))
      by true f g =
          one next (strong n) (omega (arith, f refl, k.within)) (ap (λ (x : ℕ). tail_step (strong n) (mark_at x)) (k.spaces next (omega arith) (f refl)))
          ∙ (over-spaces (rested n) refl (next + 1) mark (fewer-spaces w next mark k (f refl)) ∙ one mark (rested n) here (ap (λ (x : ℕ). tail_step (rested n) (mark_at x)) e))
      by false f g =
          let q : next ≡ mark = omega (arith, g refl, k.from) in
          ap (λ (i : ℕ). pass_from w i (tail r s (strong n))) q ∙ one mark (strong n) here (ap (λ (x : ℕ). tail_step (strong n) (mark_at x)) e)

  comma-not : (n next mark : ℕ) → Skips w next mark → is_digit (get_or w next 0) ≡ false → (get_or w mark 0 ≡ 44 → ⊥) → pass_from w next (tail r s (strong n)) ≡ met 20 mark
  comma-not n next mark k h c = by (ltb next mark) (ltb-true next mark) (ltb-false next mark)
    where
      by : (t : Bool) → (t ≡ true → next < mark) → (t ≡ false → mark ≤ next) → pass_from w next (tail r s (strong n)) ≡ met 20 mark
      by true f g =
          one next (strong n) (omega (arith, f refl, k.within)) (ap (λ (x : ℕ). tail_step (strong n) (mark_at x)) (k.spaces next (omega arith) (f refl)))
          ∙ (over-spaces (rested n) refl (next + 1) mark (fewer-spaces w next mark k (f refl))
          ∙ no_more mark (rested n) k.within (by-mark (λ (x : Mark). tail_step (rested n) x ≡ none) (get_or w mark 0) (λ e. refl) (λ e. absurd (k.stops e)) (λ e. absurd (c e)) refl) refl)
      by false f g =
          let q : next ≡ mark = omega (arith, g refl, k.from) in
          ap (λ (i : ℕ). pass_from w i (tail r s (strong n))) q
          ∙ no_more mark (strong n) k.within (by-mark (λ (x : Mark). tail_step (strong n) x ≡ none) (get_or w mark 0) (λ e. absurd (false≢true (sym (rw q at h) ∙ e))) (λ e. absurd (k.stops e)) (λ e. absurd (c e)) refl) refl

  -- the group, up to the line's end
  ends-grouped : (n v end : ℕ) → end ≡ length w → pass_from w end (tail r s (grouped n v)) ≡ found r s n v
  ends-grouped n v end q = no_byte w end (tail r s (grouped n v)) (omega arith)

  not-grouped : (n v end : ℕ) → end < length w → is_digit (get_or w end 0) ≡ false → pass_from w end (tail r s (grouped n v)) ≡ met 20 end
  not-grouped n v end h d =
      byte w end (tail r s (grouped n v)) h
      ∙ ap (λ (x : Option Tail). onward end (tailed r s x) (λ y. pass_from w (end + 1) y)) (by-mark (λ (x : Mark). tail_step (grouped n v) x ≡ none) (get_or w end 0) (λ e. absurd (false≢true (sym d ∙ e))) (λ e. refl) (λ e. refl) refl)

-- ---- the code

module _ (w : List ℕ) (at i : ℕ) (k : Skips w at i) where
  pub group-is : {g end : ℕ} → DigitsAre w most_group i (Ok (g, end)) → end ≡ length w → GroupIs w at (Ok g)
  group-is {g} {end} d q = (d.0, (λ r s n. over-spaces w r s (parted n) refl at i k ∙ (over-digits w r s (parted n) (grouped n) (λ c. refl) (λ v c. refl) i d.1 ∙ ends-grouped w r s n d.0 end q)), d.2)

  pub group-behind : {g end : ℕ} → DigitsAre w most_group i (Ok (g, end)) → (end ≡ length w → ⊥) → GroupIs w at (Err (Astray end))
  group-behind {g} {end} d q = λ r s n. over-spaces w r s (parted n) refl at i k ∙ (over-digits w r s (parted n) (grouped n) (λ c. refl) (λ v c. refl) i d.1 ∙ not-grouped w r s n d.0 end (other d.3 q) d.4)
    where
      other : end ≤ length w → (end ≡ length w → ⊥) → end < length w
      other l q = omega arith

  pub group-missing : (e : Fault) → DigitsAre w most_group i (Err e) → GroupIs w at (Err e)
  group-missing (Astray b) (q, d) = λ r s n. rw q (not-parted w r s n at i k d)
  group-missing (TooDeep b) h = absurd h
  group-missing (TooLarge b) h = absurd h

  pub ending-missing : (e : Fault) → DigitsAre w required i (Err e) → EndingIs w at (Err e)
  ending-missing (Astray b) (q, d) = λ r s. rw q (not_opened w r s at i k d)
  ending-missing (TooDeep b) h = absurd h
  ending-missing (TooLarge b) h = absurd h

  module _ {n next : ℕ} (d : DigitsAre w required i (Ok (n, next))) (mark : ℕ) (l : Skips w next mark) where
    to-strength : (r : Relation) (s : Sums) → pass_from w at (tail r s opened) ≡ pass_from w next (tail r s (strong d.0))
    to-strength r s = over-spaces w r s opened refl at i k ∙ over-digits w r s opened strong (λ c. refl) (λ v c. refl) i d.1

    pub ending-no-comma : (get_or w mark 0 ≡ 44 → ⊥) → EndingIs w at (Err (Astray mark))
    ending-no-comma c = λ r s. to-strength r s ∙ comma-not w r s d.0 next mark l d.4 c

    module _ (c : get_or w mark 0 ≡ 44) where
      pub ending-is : {g : ℕ} → GroupIs w (mark + 1) (Ok g) → EndingIs w at (Ok (record { strength = n; group = g }))
      ending-is z = (d.0, z.0, (λ r s. to-strength r s ∙ (comma-on w r s d.0 next mark l c ∙ z.1 r s d.0)), d.2, z.2)

      pub ending-no-group : (e : Fault) → GroupIs w (mark + 1) (Err e) → EndingIs w at (Err e)
      ending-no-group e z = λ r s. to-strength r s ∙ (comma-on w r s d.0 next mark l c ∙ z r s d.0)
