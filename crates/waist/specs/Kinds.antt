-- The kinds of symbols, as the tables hold them: a byte each.
-- Assumes nothing.
use Rattle.std.specs.Prelude.{ℕ, ◌≤◌, ◌≡◌}
use native.Mathlib.Omega.{arith}
use Rattle.layout.specs.Layout.{kind_of}
use Rattle.waist.specs.declared.kinds.Kind.{Kind}
use Rattle.waist.specs.declared.kinds.Kind.TheVariants.{External, Slack, Error, Dummy}

abbrev pub kind_byte : Kind → ℕ
kind_byte External = 0
kind_byte Slack = 1
kind_byte Error = 2
kind_byte Dummy = 3

pub kind-few : (k : Kind) → kind_byte k ≤ 3
kind-few External = omega arith
kind-few Slack = omega arith
kind-few Error = omega arith
kind-few Dummy = omega arith

-- this byte of the tables is read as this kind
abbrev pub KindOf : ℕ → Kind → Type 0
KindOf b k = kind_of (kind_byte k) ≡ kind_of b
