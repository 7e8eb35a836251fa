-- A fault that the second edition's reader meets first.
use Rattle.std.proofs.Math.Option.{Option, none, some}
use Rattle.grammar.specs.Trees.{Fault}
use Rattle.grammar.specs.edition.Steps.{Found, met}

-- a fault that is met first
abbrev pub met-in : Option Fault → Found → Found
met-in none x = x
met-in (some e) x = met e.number e.offset
