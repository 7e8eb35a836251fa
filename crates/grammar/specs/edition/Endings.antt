-- T-13 of document 02. "Laptops must send strength and group as well, and read layouts back."
-- "A line may end in `@`, a whole strength up to 1,001,001,000 (required), a comma and a group from 1 to 65,535; without it the constraint is required and in group 1."
-- The lines of the second edition over those of T-01, their bytes and what they say.
use Rattle.std.specs.Prelude.{ℕ, Bool, cond, ◌&&◌, List, [], ◌∷◌, ◌++◌, leb}
use Rattle.std.proofs.Math.Option.{Option, none, some}
use Rattle.grammar.specs.Sums.{Reading, Answer, reads, outside, refused}
use Rattle.grammar.specs.Trees.{Digits, Gap, Line, around, line_bytes, worth}

-- ---- the lines

pub record Ending : Type 0 where
  pub mark : Gap
  pub strength : Digits
  pub comma : Gap
  pub group : Digits

pub record Second : Type 0 where
  pub line : Line
  pub ending : Option Ending

-- behind the `@` and its spaces
abbrev pub numbers_of : Ending → List ℕ
numbers_of e = e.strength.bytes ++ (around e.comma (44 ∷ []) ++ e.group.bytes)

-- @ and ,
abbrev pub ending_bytes : Option Ending → List ℕ
ending_bytes none = []
ending_bytes (some e) = around e.mark (64 ∷ []) ++ numbers_of e

unfoldable pub second_bytes : Second → List ℕ
second_bytes l = line_bytes l.line ++ ending_bytes l.ending

-- ---- what they say

-- a strength: at most this, and required is this
abbrev pub required : ℕ
required = 1001001000

abbrev pub most_group : ℕ
most_group = 65535

-- "without it the constraint is required and in group 1"
abbrev pub strength_of : Option Ending → ℕ
strength_of none = required
strength_of (some e) = worth e.strength

abbrev pub group_of : Option Ending → ℕ
group_of none = 1
group_of (some e) = worth e.group

-- ---- what a line is answered

pub record Constraint : Type 0 where
  pub reading : Reading
  pub strength : ℕ
  pub group : ℕ

-- the constraint that a line reads as; 20 with the offset; or another refusal's number
pub data Reply : Type 0 where
  taken : Constraint → Reply
  astray : (offset : ℕ) → Reply
  denied : (number : ℕ) → Reply

abbrev pub is_group : ℕ → Bool
is_group g = leb 1 g && leb g most_group

-- "34 strength out of range, then 35 group out of range"
abbrev pub ranged : Constraint → Reply
ranged c = cond (leb c.strength required) (cond (is_group c.group) (taken c) (denied 35)) (denied 34)

-- "after T-01's"
abbrev pub behind : Answer → ℕ → ℕ → Reply
behind (reads r) n g = ranged (record { reading = r; strength = n; group = g })
behind (outside at) n g = astray at
behind (refused k) n g = denied k
