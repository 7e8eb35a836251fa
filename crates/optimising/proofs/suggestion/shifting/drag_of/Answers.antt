use Rattle.optimising.specs.suggestion.Drags.{drag-marker, drag-other, drag-cells}
use Rattle.optimising.proofs.suggestion.shifting.drag_of.Goals as goal

pub returns-then-is_basic : goal.returns-then-is_basic
returns-then-is_basic c = drag-marker _ _ _ _ _ c.is_basic.ensures c.if-is_basic.true

pub returns-then-is_basic_other : goal.returns-then-is_basic_other
returns-then-is_basic_other c = drag-other _ _ _ _ _ c.is_basic.ensures c.if-is_basic.false c.is_basic_other.ensures c.if-is_basic_other.true

pub returns : goal.returns
returns c = drag-cells _ _ _ _ _ c.is_basic.ensures c.if-is_basic.false c.is_basic_other.ensures c.if-is_basic_other.false
