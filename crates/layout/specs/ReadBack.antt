-- The elements that lie past a list that is read back.
use Rattle.std.specs.Prelude.{eqb}
use mathlib.Core.List.{[]}
use Rattle.std.proofs.Math.Option.{none}
use Rattle.std.specs.Float.{nan}
use Rattle.steps.specs.Symbol.{External, Symbol}
use Rattle.steps.specs.State.{exactly, Basic, Tag, Variable, Constraint, Edit}

-- the elements that lie past a list are nobody's: any symbol, row, tag stands for them
abbrev pub no_symbol : Symbol
no_symbol = record { id = 0; kind = External }

abbrev pub no_tag : Tag
no_tag = record { marker = no_symbol; other = none }

abbrev pub no_basic : Basic
no_basic = record { symbol = no_symbol; row = record { constant = nan; cells = [] } }

abbrev pub no_variable : Variable
no_variable = record { number = 0; symbol = no_symbol; old = nan; uses = 0; changed = eqb 0 1 }

abbrev pub no_constraint : Constraint
no_constraint = record { number = 0; group = 0; comparison = exactly; strength = nan; constant = nan; terms = []; tag = no_tag }

abbrev pub no_edit : Edit
no_edit = record { variable = 0; strength = nan; tag = no_tag; suggestion = nan }
