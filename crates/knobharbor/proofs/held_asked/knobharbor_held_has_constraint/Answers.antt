use Rattle.std.proofs.Common.{◌≡◌, true, sym, subst, ap, ◌∙◌}
use Rattle.steps.specs.Tests.{has_constraint}
use Rattle.sparse.specs.Sparse.{Sparse, read}
use Rattle.sparse_test.specs.Reads.{reads}
use Rattle.knobharbor.proofs.held_asked.knobharbor_held_has_constraint.Goals as goal

pub has_constraint_held-requires : goal.has_constraint_held-requires
has_constraint_held-requires c = subst (λ t. reads t ≡ true) (sym c.to_read.ensures) c.requires

pub returns : goal.returns
returns c = c.has_constraint_held.ensures ∙ ap (λ (t : Sparse). has_constraint c.args.number (read t)) c.to_read.ensures
