-- Words that are numbers, digit by digit, and words that are one of the format's own.
use Rattle.std.specs.Prelude.{ℕ, ◌+◌, ◌-◌, ◌*◌, Bool, true, false, cond, ◌&&◌, List, [], ◌∷◌, ◌==◌, nat_le, nat_lt, Option, Some, None}

-- a byte from one to another
abbrev pub is_from : ℕ → ℕ → ℕ → Bool
is_from low high b = nat_le low b && nat_le b high

-- `0` to `9`, then `a` to `f` of either case; 16 for any other byte
unfoldable pub digit_of : ℕ → ℕ
digit_of b = cond (is_from 48 57 b) (b - 48) (cond (is_from 97 102 b) (b - 87) (cond (is_from 65 70 b) (b - 55) 16))

-- the number whose first digits are worth v, if the other bytes are digits of the base
unfoldable pub digits_from : ℕ → ℕ → List ℕ → Option ℕ
unfolding digit_of
digits_from base v [] = Some v
digits_from base v (b ∷ w) = cond (nat_lt (digit_of b) base) (digits_from base (v * base + digit_of b) w) None

-- one digit or more, and nothing else; zeros may lead
unfoldable pub digits_of : ℕ → List ℕ → Option ℕ
unfolding digits_from
digits_of base [] = None
digits_of base (b ∷ w) = digits_from base 0 (b ∷ w)

-- a number that is not too large
unfoldable pub up_to : ℕ → Option ℕ → Option ℕ
up_to most None = None
up_to most (Some n) = cond (nat_le n most) (Some n) None

-- the same bytes in the same order
unfoldable pub same_bytes : List ℕ → List ℕ → Bool
same_bytes [] [] = true
same_bytes [] (y ∷ ys) = false
same_bytes (x ∷ xs) [] = false
same_bytes (x ∷ xs) (y ∷ ys) = x == y && same_bytes xs ys

-- the word begins with these bytes
unfoldable pub starts_with : List ℕ → List ℕ → Bool
starts_with [] w = true
starts_with (m ∷ ms) [] = false
starts_with (m ∷ ms) (b ∷ w) = b == m && starts_with ms w
