-- T-01 of document 02: "Read one line of at most 4,096 bytes: a sum, one of `<=`, `=`, `>=`, a sum." The trees of that grammar, their bytes and
-- what they say. "Accept exactly this grammar": Says.antt has the answer to any bytes in these words.
use Rattle.std.specs.Prelude.{ℕ, zero, suc, pred, ◌+◌, ◌-◌, ◌*◌, Bool, true, false, cond, ◌&&◌, List, [], ◌∷◌, ◌++◌, T, leb, eqb, length, replicate, ℤ, pos, neg_ℤ, ◌+ℤ◌, ◌-ℤ◌, ◌*ℤ◌}
use Rattle.std.proofs.Math.Option.{Option, none, some}
use Rattle.grammar.specs.Bytes.{is_digit}
use Rattle.grammar.specs.Sums.{Relation, at_most, equal, at_least, most, most_name}

-- ---- the trees

unfoldable pub all_digits : List ℕ → Bool
all_digits [] = true
all_digits (b ∷ w) = is_digit b && all_digits w

abbrev pub are_digits : List ℕ → Bool
are_digits [] = false
are_digits (b ∷ w) = is_digit b && all_digits w

-- one digit or more, as they are written: zeros may lead
pub record Digits : Type 0 where
  pub bytes : List ℕ
  pub are-digits : T (are_digits bytes)

-- "Spaces are free around marks": how many stand before a mark, and after it
pub record Gap : Type 0 where
  pub before : ℕ
  pub after : ℕ

pub data Sort : Type 0 where
  a_part a_sum : Sort

pub data Tree : Sort → Type 0 where
  -- "A part is a whole number, a variable `v` with digits, a number `*` a part, `-` a part, or a sum in brackets"
  amount : Digits → Tree a_part
  variable : Digits → Tree a_part
  multiple : Digits → Gap → Tree a_part → Tree a_part
  negated : Gap → Tree a_part → Tree a_part
  bracketed : Gap → Tree a_sum → Gap → Tree a_part
  -- "A sum is parts joined by `+` or `-`"
  single : Tree a_part → Tree a_sum
  added subtracted : Tree a_sum → Gap → Tree a_part → Tree a_sum

-- "a sum, one of `<=`, `=`, `>=`, a sum"
pub record Line : Type 0 where
  pub left_side : Tree a_sum
  pub gap : Gap
  pub relation : Relation
  pub right_side : Tree a_sum

-- ---- their bytes

abbrev pub spaces : ℕ → List ℕ
spaces n = replicate n 32

abbrev pub around : Gap → List ℕ → List ℕ
around g mark = spaces g.before ++ (mark ++ spaces g.after)

-- * - ( ) + v
unfoldable pub bytes_of : {k : Sort} → Tree k → List ℕ
bytes_of (amount n) = n.bytes
bytes_of (variable n) = 118 ∷ n.bytes
bytes_of (multiple n g t) = n.bytes ++ (around g (42 ∷ []) ++ bytes_of t)
bytes_of (negated g t) = around g (45 ∷ []) ++ bytes_of t
bytes_of (bracketed g t h) = around g (40 ∷ []) ++ (bytes_of t ++ around h (41 ∷ []))
bytes_of (single t) = bytes_of t
bytes_of (added s g t) = bytes_of s ++ (around g (43 ∷ []) ++ bytes_of t)
bytes_of (subtracted s g t) = bytes_of s ++ (around g (45 ∷ []) ++ bytes_of t)

-- <= = >=
abbrev pub mark_of : Relation → List ℕ
mark_of at_most = 60 ∷ 61 ∷ []
mark_of equal = 61 ∷ []
mark_of at_least = 62 ∷ 61 ∷ []

unfoldable pub line_bytes : Line → List ℕ
line_bytes l = bytes_of l.left_side ++ (around l.gap (mark_of l.relation) ++ bytes_of l.right_side)

-- ---- what they say

-- the number of digits whose first ones are worth v
unfoldable pub worth_from : ℕ → List ℕ → ℕ
worth_from v [] = v
worth_from v (b ∷ w) = worth_from (v * 10 + (b - 48)) w

abbrev pub worth : Digits → ℕ
worth n = worth_from 0 n.bytes

unfoldable pub constant_of : {k : Sort} → Tree k → ℤ
constant_of (amount n) = pos (worth n)
constant_of (variable n) = pos 0
constant_of (multiple n g t) = pos (worth n) *ℤ constant_of t
constant_of (negated g t) = neg_ℤ (constant_of t)
constant_of (bracketed g t h) = constant_of t
constant_of (single t) = constant_of t
constant_of (added s g t) = constant_of s +ℤ constant_of t
constant_of (subtracted s g t) = constant_of s -ℤ constant_of t

-- of the variable v
unfoldable pub coefficient_of : ℕ → {k : Sort} → Tree k → ℤ
coefficient_of v (amount n) = pos 0
coefficient_of v (variable n) = cond (eqb v (worth n)) (pos 1) (pos 0)
coefficient_of v (multiple n g t) = pos (worth n) *ℤ coefficient_of v t
coefficient_of v (negated g t) = neg_ℤ (coefficient_of v t)
coefficient_of v (bracketed g t h) = coefficient_of v t
coefficient_of v (single t) = coefficient_of v t
coefficient_of v (added s g t) = coefficient_of v s +ℤ coefficient_of v t
coefficient_of v (subtracted s g t) = coefficient_of v s -ℤ coefficient_of v t

-- ---- what is refused of them on the way, "first met from the left"

-- a refusal's number, and the offset of the byte where it is met
pub record Fault : Type 0 where
  pub number : ℕ
  pub offset : ℕ

abbrev pub fault : ℕ → ℕ → Option Fault
fault n at = some (record { number = n; offset = at })

-- the first of the two
abbrev pub else : Option Fault → Option Fault → Option Fault
else (some x) y = some x
else none y = y

-- 22 "a number .. above 1,048,576, .. or a variable number above 4,294,967,295": at the digit that passes the bound
unfoldable pub passes : ℕ → ℕ → ℕ → List ℕ → Option Fault
passes top v at [] = none
passes top v at (b ∷ w) = cond (leb (v * 10 + (b - 48)) top) (passes top (v * 10 + (b - 48)) (suc at) w) (fault 22 at)

-- 22 "a product of multipliers over a part, above 1,048,576": at the `*`
abbrev pub multiplier_fault : ℕ → ℕ → Option Fault
multiplier_fault product at = cond (leb product most) none (fault 22 at)

-- 21 "deeper than 16": at the bracket for which there is no room
abbrev pub depth_fault : ℕ → ℕ → Option Fault
depth_fault zero at = fault 21 at
depth_fault (suc room) at = none

-- behind a mark and its spaces
abbrev pub past : ℕ → Gap → ℕ
past at g = at + g.before + 1 + g.after

-- room is how many brackets may still be opened, product that of all multipliers over the tree, at the offset of its first byte
unfoldable pub fault_of : (room product at : ℕ) {k : Sort} → Tree k → Option Fault
unfolding passes
fault_of room product at (amount n) = passes most 0 at n.bytes
fault_of room product at (variable n) = passes most_name 0 (at + 1) n.bytes
fault_of room product at (multiple n g t) =
    else (passes most 0 at n.bytes)
    (else (multiplier_fault (product * worth n) (at + length n.bytes + g.before)) (fault_of room (product * worth n) (past (at + length n.bytes) g) t))
fault_of room product at (negated g t) = fault_of room product (past at g) t
fault_of room product at (bracketed g t h) = else (depth_fault room (at + g.before)) (fault_of (pred room) product (past at g) t)
fault_of room product at (single t) = fault_of room product at t
fault_of room product at (added s g t) = else (fault_of room product at s) (fault_of room product (past (at + length (bytes_of s)) g) t)
fault_of room product at (subtracted s g t) = else (fault_of room product at s) (fault_of room product (past (at + length (bytes_of s)) g) t)

-- "up to 16 levels of brackets"
unfoldable pub line_fault : Line → Option Fault
unfolding fault_of
line_fault l =
    else (fault_of 16 1 0 l.left_side)
    (fault_of 16 1 (length (bytes_of l.left_side) + l.gap.before + length (mark_of l.relation) + l.gap.after) l.right_side)
