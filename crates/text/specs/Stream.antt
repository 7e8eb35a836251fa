-- The program's stream cut into lines of at most 4,096 bytes, as streams cuts one: a newline ends a line, and what stands after the last
-- newline is a line too unless it is empty. A longer line is no call whatever its bytes are.
use Rattle.std.specs.Prelude.{◌≡◌, ℕ, ◌+◌, ◌<◌, ◌≤◌, List, ◌++◌, length, slice_set, Some, None, refl}
use Rattle.std.specs.Prelude as prelude
use Rattle.std.proofs.Math.Option.{Option, none}
use Rattle.std.proofs.Common.{arith, sym, ◌∙◌}
use Rattle.laws.specs.streams.Lines as streams
use Rattle.laws.proofs.streams.Lines as streams_theorems
use Rattle.laws.specs.streams.Held as held
use Rattle.laws.specs.streams.Lines.{Cut, before}

unfoldable pub grown : Option (List ℕ) → ℕ → Option (List ℕ)
grown = streams.grown 4096

unfoldable pub cut_from : Option (List ℕ) → List ℕ → Cut
cut_from = streams.cut_from 4096

-- However the bytes are cut into pieces, the lines are the same.
pub pieces : (h : Option (List ℕ)) (a b : List ℕ) → cut_from h (a ++ b) ≡ before (cut_from h a).lines (cut_from (cut_from h a).left b)
unfolding cut_from
pieces = streams_theorems.pieces 4096

-- the line that has begun, in a buffer of 4,096 bytes with the number of those in use; 4,097 once there were more
unfoldable pub held_of : List ℕ → ℕ → Option (List ℕ)
held_of = held.held_of 4096

-- the same, with no number once there were more
unfoldable pub held_in : List ℕ → prelude.Option ℕ → Option (List ℕ)
held_in line None = none
held_in line (Some n) = held_of line n

pub held_more : (line : List ℕ) (n b : ℕ) → length line ≡ 4096 → n < 4096 → held_in (slice_set line n b) (Some (n + 1)) ≡ grown (held_in line (Some n)) b
unfolding held_in held_of grown
held_more line n b q h = held.held_more 4096 line (omega arith) n b h

pub held-over : (line : List ℕ) (n b : ℕ) → length line ≡ 4096 → 4096 ≤ n → held_in line None ≡ grown (held_in line (Some n)) b
unfolding held_in held_of grown
held-over line n b q h = sym over ∙ held.held-over 4096 line (omega arith) n b h
  where
    over : held.held_of 4096 line (4096 + 1) ≡ none
    over = refl

pub held-none : (line : List ℕ) (b : ℕ) → held_in line None ≡ grown (held_in line None) b
unfolding held_in grown streams.grown
held-none line b = refl
