-- What any bytes are answered, in document 02's words; proofs/Theorems.antt has that the reader answers so, and that there is no other answer.
use Rattle.std.specs.Prelude.{ℕ, suc, ◌≤◌, ◌<◌, ◌≡◌, cond, List, [], ◌∷◌, ◌++◌, eqb, length, take, ℤ, pos, ◌-ℤ◌}
use Rattle.std.proofs.Math.Option.{Option, none, some}
use Rattle.grammar.specs.Sums.{Term, Reading, Answer, outside, refused, judged}
use Rattle.grammar.specs.Trees.{Line, Fault, line_bytes, line_fault, constant_of, coefficient_of}

-- ---- the reading

-- the coefficient of v among terms: zero if it has none
unfoldable pub coefficient_in : ℕ → List Term → ℤ
coefficient_in v [] = pos 0
coefficient_in v (t ∷ ts) = cond (eqb v t.variable) t.coefficient (coefficient_in v ts)

-- variables above x
abbrev pub Above : ℕ → List Term → Type 0
Above x [] = Unit {0}
Above x (t ∷ ts) = (x < t.variable) × Above x ts

abbrev pub Ascending : List Term → Type 0
Ascending [] = Unit {0}
Ascending (t ∷ ts) = Above t.variable ts × Ascending ts

abbrev pub NoneZero : List Term → Type 0
NoneZero [] = Unit {0}
NoneZero (t ∷ ts) = (t.coefficient ≡ pos 0 → ⊥) × NoneZero ts

-- "The reading is the constraint of the left side minus the right, like terms summed, zero ones dropped, ascending by variable."
pub record IsReading (l : Line) (r : Reading) : Type 0 where
  pub related : r.relation ≡ l.relation
  pub constant : r.constant ≡ constant_of l.left_side -ℤ constant_of l.right_side
  pub summed : (v : ℕ) → coefficient_in v r.terms ≡ coefficient_of v l.left_side -ℤ coefficient_of v l.right_side
  pub dropped : NoneZero r.terms
  pub ascending : Ascending r.terms

-- ---- the answer

-- the first n bytes of w begin the line l of the grammar
abbrev pub Begins : Line → List ℕ → ℕ → Type 0
Begins l w n = (n ≤ length w) × ((more : List ℕ) × (take n w ++ more ≡ line_bytes l))

-- no refusal is met before the byte n
abbrev pub NotBefore : ℕ → Option Fault → Type 0
NotBefore n none = Unit {0}
NotBefore n (some x) = n ≤ x.offset

pub data Says (w : List ℕ) : Answer → Type 0 where
  -- "19 a longer line"
  too_long : 4096 < length w → Says w (refused 19)
  -- "20 not in the grammar, with the offset": the first n bytes begin a line, nothing is met in them, and no line goes on as w does:
  -- it is not w, and it has not one byte more in common with it
  astray : (n : ℕ) (l : Line) → length w ≤ 4096 → Begins l w n → NotBefore n (line_fault l) → ((other : Line) → (line_bytes other ≡ w → ⊥) × (Begins other w (suc n) → ⊥)) → Says w (outside n)
  -- "21 deeper than 16; 22 ..": met at a byte up to which a line of the grammar is as w is, and it is the first met in that line
  faulty : (x : Fault) (l : Line) → length w ≤ 4096 → Begins l w (suc x.offset) → line_fault l ≡ some x → Says w (refused x.number)
  -- "once the whole line reads, 22 .., then 23 ..", else the reading
  in_grammar : (r : Reading) (l : Line) → length w ≤ 4096 → line_bytes l ≡ w → line_fault l ≡ none → IsReading l r → Says w (judged r)
