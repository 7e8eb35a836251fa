-- The reader of the second edition: T-01's steps up to an `@`, and the steps of the ending behind it.
use Rattle.std.specs.Prelude.{ℕ, suc, ◌+◌, ◌-◌, ◌*◌, Bool, true, false, cond, List, [], ◌∷◌, leb, eqb, length}
use Rattle.std.proofs.Math.Option.{Option, none, some}
use Rattle.grammar.specs.Bytes.{is_digit, kind_of}
use Rattle.grammar.specs.Sums.{Relation, Sums, nothing, add_to, kept, judged, summed}
use Rattle.grammar.specs.Reader.{Mode, first, Around, part, sum, inside, left, right, room_of, Next, go, ends, stop, step, is_read, is_bare, flushed, finished, Outcome, read, halted, whole}
use Rattle.grammar.specs.edition.Endings.{required, Reply, astray, denied, behind}

-- ---- the ending

-- a byte of the ending
pub data Mark : Type 0 where
  digit : (d : ℕ) → Mark
  space comma other : Mark

abbrev pub mark_at : ℕ → Mark
mark_at b = cond (is_digit b) (digit (b - 48)) (cond (eqb b 32) space (cond (eqb b 44) comma other))

-- where the reader is behind the `@`; n is the strength, g the group
pub data Tail : Type 0 where
  opened : Tail  -- behind `@`, with spaces or without: a digit must follow
  strong : (n : ℕ) → Tail  -- behind digits of the strength
  rested : (n : ℕ) → Tail  -- behind the strength and spaces: a comma must follow
  parted : (n : ℕ) → Tail  -- behind the comma, with spaces or without: a digit must follow
  grouped : (n g : ℕ) → Tail  -- behind digits of the group: the line may end

abbrev pub tail_step : Tail → Mark → Option Tail
tail_step opened (digit d) = some (strong d)
tail_step opened space = some opened
tail_step opened comma = none
tail_step opened other = none
tail_step (strong n) (digit d) = some (strong (n * 10 + d))
tail_step (strong n) space = some (rested n)
tail_step (strong n) comma = some (parted n)
tail_step (strong n) other = none
tail_step (rested n) (digit d) = none
tail_step (rested n) space = some (rested n)
tail_step (rested n) comma = some (parted n)
tail_step (rested n) other = none
tail_step (parted n) (digit d) = some (grouped n d)
tail_step (parted n) space = some (parted n)
tail_step (parted n) comma = none
tail_step (parted n) other = none
tail_step (grouped n g) (digit d) = some (grouped n (g * 10 + d))
tail_step (grouped n g) space = none
tail_step (grouped n g) comma = none
tail_step (grouped n g) other = none

-- ---- one byte

-- before the `@`, or behind it with the line's relation and sums
pub data State : Type 0 where
  head : (m : Mode) (a : Around) (s : Sums) → State
  tail : (r : Relation) (s : Sums) (t : Tail) → State

-- the reader goes on, or a refusal is met at the byte
pub data Move : Type 0 where
  on : State → Move
  halt : (number : ℕ) → Move

abbrev pub stepped : Next → Move
stepped (go m a s) = on (head m a s)
stepped ends = halt 20
stepped (stop n) = halt n

-- the `@`: behind a part of the right side
abbrev pub closing : Bool → Around → Sums → Move
closing true (part n) s = halt 20
closing true (sum n f) s = halt 20
closing true (inside f a) s = halt 20
closing true left s = halt 20
closing true (right r) s = on (tail r s opened)
closing false a s = halt 20

abbrev pub tailed : Relation → Sums → Option Tail → Move
tailed r s none = halt 20
tailed r s (some t) = on (tail r s t)

abbrev pub move : State → ℕ → Move
move (head m a s) b = cond (eqb b 64) (closing (is_read m) a (flushed m s)) (stepped (step m a s (kind_of b)))
move (tail r s t) b = tailed r s (tail_step t (mark_at b))

-- ---- all bytes

-- a refusal and where it is met; a whole line, its strength and its group
pub data Found : Type 0 where
  met : (number at : ℕ) → Found
  found : (r : Relation) (s : Sums) (strength group : ℕ) → Found

-- "without it the constraint is required and in group 1"
abbrev pub unended : Outcome → Found
unended (read at t s) = met 20 at
unended (halted n at) = met n at
unended (whole r s) = found r s required 1

abbrev pub tail_end : ℕ → Relation → Sums → Tail → Found
tail_end at r s opened = met 20 at
tail_end at r s (strong n) = met 20 at
tail_end at r s (rested n) = met 20 at
tail_end at r s (parted n) = met 20 at
tail_end at r s (grouped n g) = found r s n g

abbrev pub last : ℕ → State → Found
last at (head m a s) = unended (finished at (is_read m) (is_bare m) a (flushed m s))
last at (tail r s t) = tail_end at r s t

abbrev pub onward : ℕ → Move → (State → Found) → Found
onward at (on x) k = k x
onward at (halt n) k = met n at

-- the bytes from a place on
unfoldable pub pass : List ℕ → ℕ → State → Found
pass [] at x = last at x
pass (b ∷ w) at x = onward at (move x b) (pass w (suc at))

-- ---- the answer

abbrev pub replied : Found → Reply
replied (met n at) = cond (eqb n 20) (astray at) (denied n)
replied (found r s n g) = behind (judged (summed r s)) n g

abbrev pub start : State
start = head first left nothing

unfoldable pub read_second : List ℕ → Reply
unfolding pass kind_of room_of add_to kept judged
read_second w = cond (leb (length w) 4096) (replied (pass w 0 start)) (denied 19)
