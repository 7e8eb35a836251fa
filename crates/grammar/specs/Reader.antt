-- The reader: one pass over the bytes. A part, a sum and a line are read by the same steps; they differ in what stands around them.
-- Descent.antt has the laws of a descending reader: a sum is a part and what follows it, a part in brackets is a sum and `)`.
use Rattle.std.specs.Prelude.{ℕ, zero, suc, ◌+◌, ◌*◌, pred, Bool, true, false, cond, List, [], ◌∷◌, leb, eqb, length, drop}
use Rattle.grammar.specs.Bytes.{Kind, digit, letter, space, plus, minus, star, opening, closing, less, equals, more, strange, kind_of}
use Rattle.grammar.specs.Sums.{Relation, at_most, equal, at_least, Sums, Answer, outside, refused, most, most_name, Factor, one, turned, multiplied, nothing, with_number, with_variable, add_to, kept, judged, summed}

-- where the reader is; f stands over the part at hand
pub data Mode : Type 0 where
  first : Mode  -- at the line's first byte
  spaced : Mode  -- behind spaces that begin the line: a mark must follow
  wanted : (f : Factor) → Mode  -- behind a mark, with spaces or without: a part must follow
  lettered : (f : Factor) → Mode  -- behind `v`: a digit must follow
  number : (f : Factor) (n : ℕ) → Mode  -- behind digits of a number, worth n
  numbered : (f : Factor) (n : ℕ) → Mode  -- behind a number and spaces
  named : (f : Factor) (v : ℕ) → Mode  -- behind digits of a variable
  closed : Mode  -- behind a part that may end the line: after `)`, also with spaces
  apart : Mode  -- behind a part and spaces: a mark must follow
  half : (r : Relation) → Mode  -- behind `<` or `>`

-- what stands around: a part or a sum alone, with room for so many brackets; brackets, opened under f; the line's left side, its right side
pub data Around : Type 0 where
  part : (room : ℕ) → Around
  sum : (room : ℕ) (f : Factor) → Around
  inside : (f : Factor) (a : Around) → Around
  left : Around
  right : (r : Relation) → Around

-- brackets that may still be opened
unfoldable pub room_of : Around → ℕ
room_of (part n) = n
room_of (sum n f) = n
room_of (inside f a) = pred (room_of a)
room_of left = 16
room_of (right r) = 16

-- a byte: the reader goes on, or the part or sum ended before it, or a refusal is met at it
pub data Next : Type 0 where
  go : (m : Mode) (a : Around) (s : Sums) → Next
  ends : Next
  stop : (number : ℕ) → Next

-- ---- a part must begin: d is what a digit does, l the letter, g a space

-- "21 deeper than 16", met at the bracket
abbrev pub opened : Factor → Around → Sums → ℕ → Next
opened f a s zero = stop 21
opened f a s (suc n) = go (wanted f) (inside f a) s

abbrev pub begins : (ℕ → Next) → Next → Next → Factor → Around → Sums → Kind → Next
begins n l g f a s (digit d) = n d
begins n l g f a s letter = l
begins n l g f a s space = g
begins n l g f a s plus = stop 20
begins n l g f a s minus = go (wanted (turned f)) a s
begins n l g f a s star = stop 20
begins n l g f a s opening = opened f a s (room_of a)
begins n l g f a s closing = stop 20
begins n l g f a s less = stop 20
begins n l g f a s equals = stop 20
begins n l g f a s more = stop 20
begins n l g f a s strange = stop 20

-- ---- a digit must follow, or `=`

abbrev pub digits : (ℕ → Next) → Kind → Next
digits n (digit d) = n d
digits n letter = stop 20
digits n space = stop 20
digits n plus = stop 20
digits n minus = stop 20
digits n star = stop 20
digits n opening = stop 20
digits n closing = stop 20
digits n less = stop 20
digits n equals = stop 20
digits n more = stop 20
digits n strange = stop 20

abbrev pub equalled : Next → Kind → Next
equalled x (digit d) = stop 20
equalled x letter = stop 20
equalled x space = stop 20
equalled x plus = stop 20
equalled x minus = stop 20
equalled x star = stop 20
equalled x opening = stop 20
equalled x closing = stop 20
equalled x less = stop 20
equalled x equals = x
equalled x more = stop 20
equalled x strange = stop 20

-- ---- a part has been read

-- nothing that can follow: a part or a sum alone ends, anything else is not in the grammar
abbrev pub halts : Around → Next
halts (part n) = ends
halts (sum n f) = ends
halts (inside f a) = stop 20
halts left = stop 20
halts (right r) = stop 20

-- `+` or `-`: g is what it makes of the factor that stands over the sum
abbrev pub joins : (Factor → Factor) → Around → Sums → Next
joins g (part n) s = ends
joins g (sum n f) s = go (wanted (g f)) (sum n f) s
joins g (inside f a) s = go (wanted (g f)) (inside f a) s
joins g left s = go (wanted (g one)) left s
joins g (right r) s = go (wanted (g (turned one))) (right r) s

abbrev pub closes : Around → Sums → Next
closes (part n) s = ends
closes (sum n f) s = ends
closes (inside f a) s = go closed a s
closes left s = stop 20
closes (right r) s = stop 20

-- the first byte of a relation: where it leads to from the left side
abbrev pub relates : Mode → Around → Around → Sums → Next
relates m b (part n) s = ends
relates m b (sum n f) s = ends
relates m b (inside f a) s = stop 20
relates m b left s = go m b s
relates m b (right r) s = stop 20

abbrev pub unturned : Factor → Factor
unturned f = f

-- n is what a digit does, g a space, t a `*`
abbrev pub behind : (ℕ → Next) → Next → Next → Around → Sums → Kind → Next
behind n g t a s (digit d) = n d
behind n g t a s letter = halts a
behind n g t a s space = g
behind n g t a s plus = joins unturned a s
behind n g t a s minus = joins turned a s
behind n g t a s star = t
behind n g t a s opening = halts a
behind n g t a s closing = closes a s
behind n g t a s less = relates (half at_most) left a s
behind n g t a s equals = relates (wanted (turned one)) (right equal) a s
behind n g t a s more = relates (half at_least) left a s
behind n g t a s strange = halts a

-- "22 a number .. above 1,048,576, or a variable number above 4,294,967,295", met at the digit that passes the bound
abbrev pub grows : ℕ → (ℕ → Mode) → Around → Sums → ℕ → Next
grows top m a s n = cond (leb n top) (go (m n) a s) (stop 22)

-- "22 .. a product of multipliers over a part, above 1,048,576", met at the `*`
abbrev pub multiplies : Factor → Around → Sums → Next
multiplies f a s = cond (leb f.times most) (go (wanted f) a s) (stop 22)

-- ---- one byte

abbrev pub step : Mode → Around → Sums → Kind → Next
step first a s = begins (λ d. go (number one d) a s) (go (lettered one) a s) (go spaced a s) one a s
step spaced a s = begins (λ d. stop 20) (stop 20) (go spaced a s) one a s
step (wanted f) a s = begins (λ d. go (number f d) a s) (go (lettered f) a s) (go (wanted f) a s) f a s
step (lettered f) a s = digits (λ d. go (named f d) a s)
step (number f n) a s = behind (λ d. grows most (number f) a s (n * 10 + d)) (go (numbered f n) a s) (multiplies (multiplied f n) a s) a (with_number f n s)
step (numbered f n) a s = behind (λ d. halts a) (go (numbered f n) a s) (multiplies (multiplied f n) a s) a (with_number f n s)
step (named f v) a s = behind (λ d. grows most_name (named f) a s (v * 10 + d)) (go apart a (with_variable f v s)) (halts a) a (with_variable f v s)
step closed a s = behind (λ d. halts a) (go closed a s) (halts a) a s
step apart a s = behind (λ d. halts a) (go apart a s) (halts a) a s
step (half r) a s = equalled (go (wanted (turned one)) (right r) s)

-- ---- all bytes

-- a part or a sum alone: it was read up to a place, it may end the line there (no space behind its last digit), and it makes these sums;
-- a refusal and where it is met; a whole line
pub data Outcome : Type 0 where
  read : (at : ℕ) (bare : Bool) (s : Sums) → Outcome
  halted : (number at : ℕ) → Outcome
  whole : (r : Relation) (s : Sums) → Outcome

-- the sums with the number or variable that has just been read
abbrev pub flushed : Mode → Sums → Sums
flushed first s = s
flushed spaced s = s
flushed (wanted f) s = s
flushed (lettered f) s = s
flushed (number f n) s = with_number f n s
flushed (numbered f n) s = with_number f n s
flushed (named f v) s = with_variable f v s
flushed closed s = s
flushed apart s = s
flushed (half r) s = s

-- the line may end here
abbrev pub is_bare : Mode → Bool
is_bare first = false
is_bare spaced = false
is_bare (wanted f) = false
is_bare (lettered f) = false
is_bare (number f n) = true
is_bare (numbered f n) = false
is_bare (named f v) = true
is_bare closed = true
is_bare apart = false
is_bare (half r) = false

-- a part has been read
abbrev pub is_read : Mode → Bool
is_read first = false
is_read spaced = false
is_read (wanted f) = false
is_read (lettered f) = false
is_read (number f n) = true
is_read (numbered f n) = true
is_read (named f v) = true
is_read closed = true
is_read apart = true
is_read (half r) = false

-- the line's end, at a place, behind a part or not, bare or not
abbrev pub finished : ℕ → Bool → Bool → Around → Sums → Outcome
finished at read? bare (part n) s = cond read? (read at bare s) (halted 20 at)
finished at read? bare (sum n f) s = cond read? (read at bare s) (halted 20 at)
finished at read? bare (inside f a) s = halted 20 at
finished at read? bare left s = halted 20 at
finished at read? bare (right r) s = cond bare (whole r s) (halted 20 at)

abbrev pub follow : ℕ → Mode → Sums → Next → (Mode → Around → Sums → Outcome) → Outcome
follow at m s (go m' a' s') k = k m' a' s'
follow at m s ends k = read at (is_bare m) (flushed m s)
follow at m s (stop n) k = halted n at

-- the bytes from a place on
unfoldable pub run : List ℕ → ℕ → Mode → Around → Sums → Outcome
run [] at m a s = finished at (is_read m) (is_bare m) a (flushed m s)
run (b ∷ w) at m a s = follow at m s (step m a s (kind_of b)) (run w (suc at))

-- a line's bytes from a place on
abbrev pub run_from : List ℕ → ℕ → Mode → Around → Sums → Outcome
run_from w at = run (drop at w) at

-- "a number, a variable, a number `*` a part, `-` a part, or a sum in brackets", with room for so many brackets
abbrev pub read_part : List ℕ → ℕ → ℕ → Factor → Sums → Outcome
read_part w at room f s = run_from w at (wanted f) (part room) s

-- "A sum is parts joined by `+` or `-`"
abbrev pub read_sum : List ℕ → ℕ → ℕ → Factor → Sums → Outcome
read_sum w at room f s = run_from w at (wanted f) (sum room f) s

-- ---- the answer

abbrev pub refuses : ℕ → ℕ → Answer
refuses n at = cond (eqb n 20) (outside at) (refused n)

abbrev pub answered : Outcome → Answer
answered (read at bare s) = outside at
answered (halted n at) = refuses n at
answered (whole r s) = judged (summed r s)

-- "Refusals: 19 a longer line; then, first met from the left .."
unfoldable pub read_line : List ℕ → Answer
unfolding run kind_of room_of add_to kept judged
read_line w = cond (leb (length w) 4096) (answered (run w 0 first left nothing)) (refused 19)
