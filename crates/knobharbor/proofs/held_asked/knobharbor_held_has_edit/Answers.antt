use Rattle.std.proofs.Common.{◌≡◌, true, sym, subst, ap, ◌∙◌}
use Rattle.steps.specs.Tests.{has_edit}
use Rattle.sparse.specs.Sparse.{Sparse, read}
use Rattle.sparse_test.specs.Reads.{reads}
use Rattle.knobharbor.proofs.held_asked.knobharbor_held_has_edit.Goals as goal

pub has_edit_held-requires : goal.has_edit_held-requires
has_edit_held-requires c = subst (λ t. reads t ≡ true) (sym c.to_read.ensures) c.requires

pub returns : goal.returns
returns c = c.has_edit_held.ensures ∙ ap (λ (t : Sparse). has_edit c.args.variable (read t)) c.to_read.ensures
