use mathlib.Core.Path.{refl}
use Rattle.steps.specs.Number.{zero64}
use Rattle.fetches.proofs.clear_lists.Goals as goal

pub returns-clause-moved_after : goal.returns-clause-moved_after
unfolding zero64
returns-clause-moved_after c = refl
