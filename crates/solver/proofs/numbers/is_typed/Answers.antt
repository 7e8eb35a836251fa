use Rattle.std.proofs.Common.{arith}
use Rattle.solver.specs.Numbers.{of-u32}
use Rattle.solver.proofs.numbers.is_typed.Goals as goal

pub returns : goal.returns
returns c = of-u32 _ (omega arith)
