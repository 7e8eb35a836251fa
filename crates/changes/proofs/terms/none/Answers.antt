use mathlib.Core.Path.{refl}
use Rattle.steps.specs.Number.{zero64}
use Rattle.changes.specs.terms.Terms.{no_pack}
use Rattle.changes.proofs.terms.none.Goals as goal

pub returns : goal.returns
unfolding no_pack zero64
returns c = refl
