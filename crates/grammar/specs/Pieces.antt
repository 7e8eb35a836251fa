-- A fault that is met first; digits; the marks that follow any part alike.
use Prim.Native.Nat.{ℕ, ◌-◌}
use Rattle.std.specs.Prelude.{◌≡◌, Bool, ◌&&◌}
use Rattle.std.proofs.Math.Path.{refl}
use Rattle.std.proofs.Math.Bool.{true, false}
use Rattle.std.proofs.Math.Option.{Option, none, some}
use Rattle.std.proofs.Math.Dec.{T}
use Rattle.grammar.specs.Bytes.{Kind, digit, letter, space, plus, minus, star, opening, closing, less, equals, more, strange, is_digit, kind_of}
use Rattle.grammar.specs.Reader.{Outcome, halted}
use Rattle.grammar.specs.Trees.{Fault}

-- a refusal that is met first
abbrev pub met : Option Fault → Outcome → Outcome
met none x = x
met (some e) x = halted e.number e.offset

-- ---- digits

pub both : (p q : Bool) → T (p && q) → T p × T q
both true q h = (tt, h)
both false q h = absurd h

is_true : (t : Bool) → T t → t ≡ true
is_true true h = refl
is_true false h = absurd h

pub kind-digit : (b : ℕ) → T (is_digit b) → kind_of b ≡ digit (b - 48)
unfolding kind_of
kind-digit b h = rw (is_true (is_digit b) h)

-- ---- spaces and marks

-- the marks that follow any part alike
abbrev pub Joint : Kind → Type 0
Joint (digit d) = ⊥
Joint letter = ⊥
Joint space = ⊥
Joint plus = Unit {0}
Joint minus = Unit {0}
Joint star = ⊥
Joint opening = ⊥
Joint closing = Unit {0}
Joint less = Unit {0}
Joint equals = Unit {0}
Joint more = Unit {0}
Joint strange = ⊥
