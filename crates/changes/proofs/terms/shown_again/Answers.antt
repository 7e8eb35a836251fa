use mathlib.Core.Path.{refl, ◌∙◌}
use Rattle.changes.specs.terms.Terms.{pushed}
use Rattle.changes.specs.terms.Listed.{shown-again}
use Rattle.changes.proofs.terms.shown_again.Goals as goal

pub returns : goal.returns
returns c = c.gathered.ensures pushed (λ q t r h. h.2) ∙ shown-again _ refl refl
