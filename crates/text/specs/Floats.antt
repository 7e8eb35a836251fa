-- Words that are ids, budgets and floats.
use Rattle.std.specs.Prelude.{ℕ, cond, List, [], ◌∷◌, length, drop, pos, ◌==◌, from_bits, Float, Option, Some, None, option_map}
use Rattle.std.specs.Float.{binary64, nan}
use Rattle.std.specs.Float.Ieee.{neg, of_int}
use Rattle.steps.specs.Strength.{required}
use Rattle.text.specs.Digits.{digits_of, up_to, same_bytes, starts_with}

-- ---- numbers of variables and constraints are u32, budgets u16

unfoldable pub id_of : List ℕ → Option ℕ
unfolding up_to digits_of
id_of w = up_to 4294967295 (digits_of 10 w)

unfoldable pub budget_of : List ℕ → Option ℕ
unfolding up_to digits_of
budget_of w = up_to 65535 (digits_of 10 w)

-- ---- "Numbers of type f64"

abbrev pub whole_real : Option ℕ → Option Float
whole_real = option_map (λ n. of_int binary64 (pos n))

abbrev pub minus_real : Option ℕ → Option Float
minus_real = option_map (λ n. neg (of_int binary64 (pos n)))

abbrev pub bits_real : Option ℕ → Option Float
bits_real = option_map (from_bits binary64)

-- "a whole decimal number with an optional minus, at most 9,007,199,254,740,992 in size"; `-0` is -0.0
unfoldable pub whole_of : List ℕ → Option ℕ
unfolding up_to digits_of
whole_of w = up_to 9007199254740992 (digits_of 10 w)

-- "`0x` and the 16 hexadecimal digits of the bits": 16 digits always fit
unfoldable pub pattern_of : List ℕ → Option ℕ
unfolding up_to digits_of
pattern_of w = cond (length w == 16) (up_to 18446744073709551615 (digits_of 16 w)) None

-- `inf`, `-inf`, `nan`, `req`, `0x`, `-`
abbrev pub inf_word : List ℕ
inf_word = 105 ∷ 110 ∷ 102 ∷ []

abbrev pub minus_inf_word : List ℕ
minus_inf_word = 45 ∷ 105 ∷ 110 ∷ 102 ∷ []

abbrev pub nan_word : List ℕ
nan_word = 110 ∷ 97 ∷ 110 ∷ []

abbrev pub req_word : List ℕ
req_word = 114 ∷ 101 ∷ 113 ∷ []

abbrev pub hex_mark : List ℕ
hex_mark = 48 ∷ 120 ∷ []

abbrev pub minus_mark : List ℕ
minus_mark = 45 ∷ []

-- a whole number, or bits, by how the word begins
unfoldable pub figure_of : List ℕ → Option Float
unfolding starts_with whole_of pattern_of
figure_of w =
    cond (starts_with hex_mark w) (bits_real (pattern_of (drop 2 w)))
    (cond (starts_with minus_mark w) (minus_real (whole_of (drop 1 w))) (whole_real (whole_of w)))

-- "or `inf`, `-inf`, `nan`, `req` (1,001,001,000)"
unfoldable pub float_of : List ℕ → Option Float
unfolding same_bytes figure_of required
float_of w =
    cond (same_bytes w inf_word) (Some (from_bits binary64 0x7ff0_0000_0000_0000))
    (cond (same_bytes w minus_inf_word) (Some (from_bits binary64 0xfff0_0000_0000_0000))
    (cond (same_bytes w nan_word) (Some nan)
    (cond (same_bytes w req_word) (Some required) (figure_of w))))
