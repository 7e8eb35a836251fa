use Rattle.std.proofs.Common.{refl}
use Rattle.entry.specs.typed.Typed.{term_read}
use Rattle.entry.proofs.typed.pack.term_of.Goals as goal

pub returns : goal.returns
unfolding term_read
returns c = rw c.whole.ensures refl
