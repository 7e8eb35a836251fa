use Rattle.std.proofs.Common.{rules}
use mathlib.Core.Path.{refl}
use native.Mathlib.Omega.{arith}
use Rattle.stored.specs.Carried.{words-carried}
use Rattle.stored.proofs.carry.carry_words.Goals as goal

pub returns : goal.returns
returns c = words-carried _ _ _ _ (search rules) (omega arith) refl refl (c.split.ensures.region 0) (c.split.ensures.rest 0) (c.split-2.ensures.region 0) (c.split-2.ensures.rest 0)
