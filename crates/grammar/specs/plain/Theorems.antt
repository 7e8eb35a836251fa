-- T-13 of document 02: a constraint that can be said, what the writer wrote, and a plain line.
use Rattle.std.specs.Prelude.{ℕ, ◌≤◌, ◌≡◌, leb, length, nat_abs}
use mathlib.Core.List.{List}
use Rattle.std.proofs.Math.Dec.{T}
use Rattle.grammar.specs.Sums.{most}
use Rattle.grammar.specs.edition.Endings.{required, is_group, Constraint}
use Rattle.grammar.specs.plain.Plain.{plain_text, ascends, terms_said, sayable, wrote, room, write_line}

-- ---- what can be said

pub record Says (c : Constraint) : Type 0 where
  pub few : T (leb (length c.reading.terms) 16)
  pub rising : T (ascends c.reading.terms)
  pub terms : T (terms_said c.reading.terms)
  pub constant : T (leb (nat_abs c.reading.constant) most)
  pub strength : T (leb c.strength required)
  pub group : T (is_group c.group)

-- ---- the writer

pub record Wrote (c : Constraint) (w : List ℕ) : Type 0 where
  pub can : T (sayable c)
  pub fits : length (plain_text c) ≤ room
  pub plain : w ≡ plain_text c

-- a plain line is a line that the writer gives
abbrev pub Plain : List ℕ → Type 0
Plain w = (c : Constraint) × (write_line c ≡ wrote w)
