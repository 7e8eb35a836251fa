-- T-12 of document 02. "The service laptop sends T-01's text by serial cable, cut anywhere." Since T-13 the text is of the second edition.
-- The state is the line that has begun: its bytes, or none once there were more than 200. A new reader's is empty.
use Rattle.std.specs.Prelude.{ℕ, zero, suc, cond, List, [], ◌∷◌, ◌++◌, eqb, length, drop}
use Rattle.std.proofs.Math.Option.{Option, none, some}
use Rattle.laws.specs.streams.Lines.{grown}
use Rattle.grammar.specs.edition.Endings.{Reply as Answer, denied}
use Rattle.grammar.specs.edition.Steps.{read_second}

-- "A line holds 200 bytes at most, newline apart."
abbrev pub limit : ℕ
limit = 200

abbrev pub new : Option (List ℕ)
new = some []

-- "32 line too long, at its newline, before all of T-01's"
abbrev pub answer_of : Option (List ℕ) → Answer
answer_of none = denied 32
answer_of (some w) = read_second w

-- ---- one step

-- the answer of the first line that ends in a piece, if one does; how many bytes were taken, its newline with them; the line then begun
pub record Step : Type 0 where
  pub answer : Option Answer
  pub taken : ℕ
  pub left : Option (List ℕ)

abbrev pub further : Step → Step
further s = record { answer = s.answer; taken = suc s.taken; left = s.left }

-- "Take bytes as they come, any lengths and none at all, and give each line's reading when its newline arrives."
unfoldable pub takes : Option (List ℕ) → List ℕ → Step
takes h [] = record { answer = none; taken = 0; left = h }
takes h (b ∷ s) = cond (eqb b 10) (record { answer = some (answer_of h); taken = 1; left = new }) (further (takes (grown limit h b) s))

-- "An unended line of one byte or more at close is refused."; "33 unended at close, too long or not"
abbrev pub unended : Option (List ℕ) → Option Answer
unended none = some (denied 33)
unended (some []) = none
unended (some (b ∷ w)) = some (denied 33)

abbrev pub closes : Option (List ℕ) → Step
closes h = record { answer = unended h; taken = 0; left = new }

-- ---- all steps: the caller goes on behind the bytes taken, until a step has no answer

pub record Fed : Type 0 where
  pub answers : List Answer
  pub left : Option (List ℕ)

abbrev pub answered : Option Answer → Option (List ℕ) → Fed → Fed
answered none h rest = record { answers = []; left = h }
answered (some a) h rest = record { answers = a ∷ rest.answers; left = rest.left }

-- at most so many steps
unfoldable pub steps : ℕ → Option (List ℕ) → List ℕ → Fed
steps zero h s = record { answers = []; left = h }
steps (suc n) h s = answered (takes h s).answer (takes h s).left (steps n (takes h s).left (drop (takes h s).taken s))

-- a piece: every step but the last takes a byte
abbrev pub feed : Option (List ℕ) → List ℕ → Fed
feed h s = steps (suc (length s)) h s

-- pieces, one after the other
unfoldable pub feed_all : Option (List ℕ) → List (List ℕ) → Fed
feed_all h [] = record { answers = []; left = h }
feed_all h (s ∷ ss) = record { answers = (feed h s).answers ++ (feed_all (feed h s).left ss).answers; left = (feed_all (feed h s).left ss).left }

-- the pieces in one
unfoldable pub joined : List (List ℕ) → List ℕ
joined [] = []
joined (s ∷ ss) = s ++ joined ss
