use Rattle.std.proofs.Common.{◌≡◌, true, sym, subst, ap, ◌∙◌}
use Rattle.steps.specs.Changes.{value}
use Rattle.sparse.specs.Sparse.{Sparse, read}
use Rattle.sparse_test.specs.Reads.{reads}
use Rattle.knobharbor.proofs.held_asked.knobharbor_held_value.Goals as goal

pub get_value_held-requires : goal.get_value_held-requires
get_value_held-requires c = subst (λ t. reads t ≡ true) (sym c.to_read.ensures) c.requires

pub returns : goal.returns
returns c = c.get_value_held.ensures ∙ ap (λ (t : Sparse). value c.args.variable (read t)) c.to_read.ensures
