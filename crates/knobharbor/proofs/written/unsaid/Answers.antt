use Rattle.knobharbor.specs.Written.{unsaid-clears, unsaid-other}
use Rattle.knobharbor.proofs.written.unsaid.Goals as goal

pub returns-then-buffer-eq-ROOM : goal.returns-then-buffer-eq-ROOM
returns-then-buffer-eq-ROOM c = unsaid-clears _ _ c.if-buffer-eq-ROOM.true c.clear.ensures

pub returns : goal.returns
returns c = unsaid-other _ c.if-buffer-eq-ROOM.false
