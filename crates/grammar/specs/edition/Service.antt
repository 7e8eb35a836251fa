-- What any bytes are answered in the second edition, in document 02's words; proofs/edition/Theorems.antt has that the reader answers so, and that there is no
-- other answer.
use Rattle.std.specs.Prelude.{ℕ, suc, ◌≤◌, ◌<◌, ◌≡◌, List, ◌++◌, length, take}
use Rattle.std.proofs.Math.Option.{none, some}
use Rattle.grammar.specs.Sums.{Reading, judged}
use Rattle.grammar.specs.Trees.{Fault, line_fault}
use Rattle.grammar.specs.Says.{NotBefore, IsReading}
use Rattle.grammar.specs.edition.Endings.{Second, second_bytes, strength_of, group_of, Reply, astray, denied, behind}

-- the first n bytes of w begin the line l
abbrev pub Starts : Second → List ℕ → ℕ → Type 0
Starts l w n = (n ≤ length w) × ((more : List ℕ) × (take n w ++ more ≡ second_bytes l))

pub data Says (w : List ℕ) : Reply → Type 0 where
  -- "19 a longer line"
  too_long : 4096 < length w → Says w (denied 19)
  -- "20 not in the grammar, with the offset", in the ending as before it
  strays : (n : ℕ) (l : Second) → length w ≤ 4096 → Starts l w n → NotBefore n (line_fault l.line) → ((other : Second) → (second_bytes other ≡ w → ⊥) × (Starts other w (suc n) → ⊥)) → Says w (astray n)
  -- 21 and 22, met before the ending
  faulty : (x : Fault) (l : Second) → length w ≤ 4096 → Starts l w (suc x.offset) → line_fault l.line ≡ some x → Says w (denied x.number)
  -- T-01's of the whole line; "after T-01's, 34 .., then 35 ..", else the constraint
  in_grammar : (r : Reading) (l : Second) → length w ≤ 4096 → second_bytes l ≡ w → line_fault l.line ≡ none → IsReading l.line r
      → Says w (behind (judged r) (strength_of l.ending) (group_of l.ending))
