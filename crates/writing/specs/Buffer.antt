-- A line that grows at the front of a buffer of 200 bytes.
use Rattle.std.specs.Prelude.{◌≡◌, ℕ, zero, suc, ◌+◌, ◌-◌, ◌/◌, ◌%◌, ◌<◌, ◌≤◌, List, [], ◌∷◌, ◌++◌, length, replicate, ◌≢◌, slice_set, refl}
use Rattle.std.proofs.Common.{sym, ap, ◌∙◌, subst, append_assoc, append-nil, arith, lt-ltb, le-ltb, length-append, length-set}
use Rattle.std.proofs.lemmas.List.{length-replicate}
use Rattle.grammar.specs.plain.Plain.{room}
use Rattle.grammar.specs.plain.Decimal.{decimal_in}

-- "zero past the line"
unfoldable pub padded : List ℕ → List ℕ
padded l = l ++ replicate (room - length l) 0

-- the line so far and the next place; or the line has passed the buffer's end
pub data Holds (o : List ℕ) (at : ℕ) (l : List ℕ) : Type 0 where
  fits : length l ≤ room → at ≡ length l → o ≡ padded l → Holds o at l
  passed : length o ≡ room → at ≡ 201 → room < length l → Holds o at l

-- whatever line stands there, it has the text more
pub record Adds (before after : List ℕ) (at next : ℕ) (text : List ℕ) : Type 0 where
  pub kept : length after ≡ length before
  pub adds : (l : List ℕ) → Holds before at l → Holds after next (l ++ text)

pub padded-length : (l : List ℕ) → length l ≤ room → length (padded l) ≡ room
unfolding padded
padded-length l h = simp (length-append, length-replicate) (omega arith)

set-behind : (l : List ℕ) (x b : ℕ) (z : List ℕ) → slice_set (l ++ (x ∷ z)) (length l) b ≡ l ++ (b ∷ z)
set-behind [] x b z = refl
set-behind (y ∷ l) x b z = ap (λ (r : List ℕ). y ∷ r) (set-behind l x b z)

padded-more : (l : List ℕ) (b : ℕ) → length l < room → slice_set (padded l) (length l) b ≡ padded (l ++ (b ∷ []))
unfolding padded
padded-more l b h =
    let e : room - length l ≡ suc (room - suc (length l)) = omega arith in
    let g : room - length (l ++ (b ∷ [])) ≡ room - suc (length l) = rw length-append (omega arith) in
    rw (e, g) (set-behind l 0 b (replicate (room - suc (length l)) 0) ∙ sym (append_assoc l (b ∷ []) (replicate (room - suc (length l)) 0)))

length_more : (l : List ℕ) (b : ℕ) → length (l ++ (b ∷ [])) ≡ suc (length l)
length_more l b = rw length-append (omega arith)

-- ---- one byte

pub adds-byte : (o : List ℕ) (i b : ℕ) → i < length o → Adds o (slice_set o i b) i (i + 1) (b ∷ [])
adds-byte o i b h = record { kept = length-set o i b; adds = by }
  where
    by : (l : List ℕ) → Holds o i l → Holds (slice_set o i b) (i + 1) (l ++ (b ∷ []))
    by l (fits n e q) =
        let k : length l < room = omega (arith, e, ap length q, padded-length l n) in
        fits (omega (arith, length_more l b)) (omega (arith, length_more l b)) (ap (λ (x : List ℕ). slice_set x i b) q ∙ (ap (λ (j : ℕ). slice_set (padded l) j b) e ∙ padded-more l b k))
    by l (passed n e q) = absurd (omega arith)

pub adds-past : (o : List ℕ) (i b : ℕ) → length o ≤ i → Adds o o i 201 (b ∷ [])
adds-past o i b h = record { kept = refl; adds = by }
  where
    by : (l : List ℕ) → Holds o i l → Holds o 201 (l ++ (b ∷ []))
    by l (fits n e q) =
        let k : length o ≡ room = ap length q ∙ padded-length l n in
        passed k refl (omega (arith, length_more l b))
    by l (passed n e q) = passed n refl (omega (arith, length_more l b))

-- ---- one text after the other

pub adds_then : (a b c : List ℕ) (i j k : ℕ) (s t : List ℕ) → Adds a b i j s → Adds b c j k t → Adds a c i k (s ++ t)
adds_then a b c i j k s t f g = record { kept = g.kept ∙ f.kept; adds = λ l h. subst (λ (z : List ℕ). Holds c k z) (append_assoc l s t) (g.adds (l ++ s) (f.adds l h)) }

pub adds-nothing : (a : List ℕ) (i : ℕ) → Adds a a i i []
adds-nothing a i = record { kept = refl; adds = λ l h. subst (λ (z : List ℕ). Holds a i z) (sym (append-nil l)) h }

-- the same, with all but the facts left out
pub then : {a b c : List ℕ} {i j k : ℕ} {s t : List ℕ} → Adds a b i j s → Adds b c j k t → Adds a c i k (s ++ t)
then {a} {b} {c} {i} {j} {k} {s} {t} f g = adds_then a b c i j k s t f g

pub text-as : {a b : List ℕ} {i j : ℕ} {s t : List ℕ} → t ≡ s → Adds a b i j s → Adds a b i j t
text-as e w = rw e w

-- ---- digit by digit

pub decimal-none : (k n : ℕ) → k ≡ 0 → decimal_in k n ≡ []
unfolding decimal_in
decimal-none k n h = rw h

pub decimal-one : (k n : ℕ) → (k ≢ 0) → n < 10 → decimal_in k n ≡ (48 + n) ∷ []
unfolding decimal_in
decimal-one zero n h q = absurd (h refl)
decimal-one (suc k) n h q = rw (lt-ltb n 10 q)

pub decimal-more : (k n : ℕ) → (k ≢ 0) → 10 ≤ n → decimal_in k n ≡ decimal_in (k - 1) (n / 10) ++ ((48 + n % 10) ∷ [])
unfolding decimal_in
decimal-more zero n h q = absurd (h refl)
decimal-more (suc k) n h q = let e : suc k - 1 ≡ k = omega arith in rw (le-ltb n 10 q, e)
