use mathlib.Core.Path.{refl}
use borrow.Author.Tests.{le-leb, lt-leb}
use Rattle.sparse_test.specs.Tested.{code_of}
use Rattle.sparse_test.proofs.owners.code_of.Goals as goal

pub returns-then-kind-le3 : goal.returns-then-kind-le3
unfolding code_of
returns-then-kind-le3 c = rw (le-leb _ _ c.if-kind-le3.true) refl

pub returns-else-kind-le3 : goal.returns-else-kind-le3
unfolding code_of
returns-else-kind-le3 c = rw (lt-leb _ _ c.if-kind-le3.false) refl
