-- The bytes of a line, by what they are in the grammar.
use Rattle.std.specs.Prelude.{ℕ, ◌-◌, Bool, cond, ◌&&◌, leb, eqb}

-- a byte of a line; `strange` is in no line of the grammar
pub data Kind : Type 0 where
  digit : (d : ℕ) → Kind
  letter space plus minus star opening closing less equals more strange : Kind

-- `0` to `9`
abbrev pub is_digit : ℕ → Bool
is_digit b = leb 48 b && leb b 57

-- space ( ) * + - < = > v; and 0, which a place past the end reads as, is strange
abbrev pub mark_of : ℕ → Kind
mark_of b =
    cond (eqb b 32) space
    (cond (eqb b 40) opening
    (cond (eqb b 41) closing
    (cond (eqb b 42) star
    (cond (eqb b 43) plus (cond (eqb b 45) minus (cond (eqb b 60) less (cond (eqb b 61) equals (cond (eqb b 62) more (cond (eqb b 118) letter strange)))))))))

unfoldable pub kind_of : ℕ → Kind
kind_of b = cond (is_digit b) (digit (b - 48)) (mark_of b)
