use Rattle.std.proofs.Common.{refl}
use Rattle.steps.specs.Number.{zero64}
use Rattle.entry.specs.Entry.{zeroed}
use Rattle.entry.proofs.clear.Goals as goal

pub returns : goal.returns
unfolding zeroed zero64
returns c = rw (c.clear_all.ensures, c.clear_all-2.ensures, c.clear_all-3.ensures, c.clear_all-4.ensures, c.clear_all-5.ensures) refl
