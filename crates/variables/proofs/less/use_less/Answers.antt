use Rattle.variables.specs.Less.{less_none, less-found, below_at}
use Rattle.std.proofs.Common.{rules}
use Rattle.variables.proofs.less.use_less.Goals as goal

pub returns-in_default : goal.returns-in_default
returns-in_default c = less_none _ _ _ _ c.find_variable-f.ensures.value c.in_default.is

pub lose_use-requires : goal.lose_use-requires
lose_use-requires c = let b = below_at c.find_variable-f.ensures.below c.in-Some.is in (search rules)

pub returns : goal.returns
returns c = less-found _ _ _ _ c.find_variable-f.ensures.value c.in-Some.is c.lose_use.ensures
