use Rattle.entry.specs.typed.Typed.{whole_below, whole_above}
use Rattle.entry.proofs.typed.pack.whole.Goals as goal

pub returns-then-x-lt-ZERO : goal.returns-then-x-lt-ZERO
returns-then-x-lt-ZERO c = whole_below _ c.if-x-lt-ZERO.true c.nearest_u64_to_f64.ensures

pub returns : goal.returns
returns c = whole_above _ c.if-x-lt-ZERO.false c.nearest_u64_to_f64-2.ensures
