use native.Mathlib.Omega.{arith}
use Rattle.layout.specs.cells.Look.{slid-up, slid-down}
use Rattle.layout.proofs.cells.slide.slide.Goals as goal

pub returns-then-a-b : goal.returns-then-a-b
returns-then-a-b c = record { keys_after = slid-up _ _ _ _ (omega arith) c.slide_up.ensures.keys_after; vals_after = slid-up _ _ _ _ (omega arith) c.slide_up.ensures.vals_after }

pub returns-else-a-b : goal.returns-else-a-b
returns-else-a-b c = record { keys_after = slid-down _ _ _ _ (omega arith) c.slide_down.ensures.keys_after; vals_after = slid-down _ _ _ _ (omega arith) c.slide_down.ensures.vals_after }
