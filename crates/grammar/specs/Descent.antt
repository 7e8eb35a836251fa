-- What stands around a part or a sum, and how the reader goes on behind it.
use Prim.Native.Nat.{ℕ}
use Rattle.std.specs.Prelude.{◌≡◌, Bool}
use Rattle.std.proofs.Math.Bool.{true, false}
use mathlib.Core.List.{List}
use Rattle.grammar.specs.Bytes.{Kind}
use Rattle.grammar.specs.Sums.{Sums, Factor}
use Rattle.grammar.specs.Reader.{Mode, first, spaced, wanted, lettered, number, numbered, named, closed, apart, half, Around, part, sum, inside, left, right, room_of, Next, go, ends, stop, joins, step, Outcome, read, halted, whole, flushed, is_bare, run_from}

-- ---- what stands around a part or a sum takes the place of its end

unfoldable pub over : Around → Around → Around
over (part n) b = b
over (sum n f) b = b
over (inside f a) b = inside f (over a b)
over left b = left
over (right r) b = right r

-- b has as much room, and it goes on with the sum under the same factor
abbrev pub Fits : Around → Around → Type 0
Fits (part n) b = room_of b ≡ n
Fits (sum n f) b = (room_of b ≡ n) × ((g : Factor → Factor) (s : Sums) → joins g b s ≡ go (wanted (g f)) b s)
Fits (inside f a) b = Fits a b
Fits left b = ⊥
Fits (right r) b = ⊥

-- behind a part that was read
abbrev pub rested : Bool → Mode
rested true = closed
rested false = apart

abbrev pub Inner : Mode → Type 0
Inner first = Unit {0}
Inner spaced = Unit {0}
Inner (wanted f) = Unit {0}
Inner (lettered f) = Unit {0}
Inner (number f n) = Unit {0}
Inner (numbered f n) = Unit {0}
Inner (named f v) = Unit {0}
Inner closed = Unit {0}
Inner apart = Unit {0}
Inner (half r) = ⊥

-- a step with b around, beside one without; x is where b goes on
pub data Alike (b : Around) (x : Next) : Next → Next → Type 0 where
  goes : {m : Mode} {a : Around} {s : Sums} → Inner m → Fits a b → Alike b x (go m (over a b) s) (go m a s)
  ended : Alike b x x ends
  stops : {n : ℕ} → Alike b x (stop n) (stop n)

module _ (b : Around) where
  -- where the reader goes on once a part or sum has ended
  abbrev pub behind_rest : Mode → Sums → Kind → Next
  behind_rest m s k = step (rested (is_bare m)) b (flushed m s) k

-- what b does behind a part or sum that was read
abbrev pub resumed : List ℕ → Around → Outcome → Outcome
resumed line b (read at bare s) = run_from line at (rested bare) b s
resumed line b (halted n at) = halted n at
resumed line b (whole r s) = whole r s

-- a line that may end here has a part behind it
unfoldable pub Behind : Bool → Bool → Type 0
Behind true t = Unit {0}
Behind false true = ⊥
Behind false false = Unit {0}
