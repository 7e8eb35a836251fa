-- Each step takes a byte.
use Rattle.std.proofs.Common.{length}
use Rattle.text.proofs.serving.take_piece.Given as goal

abbrev pub decreases-loop-rest : goal.decreases-loop-rest
decreases-loop-rest g l = length l.rest
