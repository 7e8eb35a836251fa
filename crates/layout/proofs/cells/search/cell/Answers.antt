use native.Mathlib.Omega.{arith}
use Rattle.steps.specs.Number.{zero64}
use Rattle.layout.specs.cells.Look.{cell-found, cell-none}
use Rattle.layout.proofs.cells.search.cell.Goals as goal

pub returns-then-keys-a : goal.returns-then-keys-a
returns-then-keys-a c = cell-found _ _ _ _ _ c.find-a.ensures.value (omega arith) c.if-keys-a.true

pub returns-else-keys-a : goal.returns-else-keys-a
unfolding zero64
returns-else-keys-a c = cell-none _ _ _ _ _ c.requires.ascending c.find-a.ensures.value (λ _. c.if-keys-a.false)

pub returns-else-a-n : goal.returns-else-a-n
unfolding zero64
returns-else-a-n c = cell-none _ _ _ _ _ c.requires.ascending c.find-a.ensures.value (λ h. absurd (omega (arith, h)))
