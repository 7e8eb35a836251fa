use Rattle.std.proofs.Common.{rules}
use Rattle.sparse_test.specs.Stretch.{ascend_in, none-up, ends-up}
use Rattle.sparse_test.proofs.stretch.bytes_up.Goals as goal

pub returns-then-n-eq0 : goal.returns-then-n-eq0
returns-then-n-eq0 c = none-up _ _ _ _ _ c.if-n-eq0.true

pub returns : goal.returns
unfolding ascend_in
returns c = ends-up _ _ _ _ _ c.if-n-eq0.false (c.each.ensures _ (λ i b h k q. search rules))
