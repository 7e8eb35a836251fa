use mathlib.Core.Path.{refl}
use Rattle.changes.specs.terms.Terms.{term_in}
use Rattle.changes.proofs.terms.packed.Goals as goal

pub returns : goal.returns
unfolding term_in
returns c = refl
