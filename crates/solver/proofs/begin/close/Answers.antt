use mathlib.Core.Path.{refl}
use Rattle.solver.specs.Closing.{words-closed}
use Rattle.solver.proofs.begin.close.Goals as goal

pub returns : goal.returns
returns c = words-closed c.args.wrote c.args.words.now refl c.mark_bit.ensures
