use mathlib.Core.Path.{ap, ◌∙◌}
use native.Mathlib.Omega.{arith}
use Rattle.steps.specs.Number.{zero64}
use Rattle.optimising.specs.suggestion.Shifting.{optional, given, cells-shift, own-shift}
use Rattle.optimising.proofs.suggestion.shifting.shift_of.Goals as goal

pub spot_cell-c-requires : goal.spot_cell-c-requires
spot_cell-c-requires c = record { n_le_cell_room = c.requires.n_le_cell_room; i_lt_lines_room = omega (arith, c.requires.i_lt_most_rows); ascending = c.requires.ascending; spots = c.requires.spots c.if-d-eq0.true }

pub returns-then-d-eq0 : goal.returns-then-d-eq0
unfolding zero64
returns-then-d-eq0 c = ap optional c.then_some.ensures ∙ given _ _ ∙ cells-shift _ _ _ _ _ _ c.if-d-eq0.true c.spot_cell-c.ensures

pub returns : goal.returns
returns c = ap optional c.then_some-2.ensures ∙ given _ _ ∙ own-shift _ _ _ _ _ _ c.if-d-eq0.false
