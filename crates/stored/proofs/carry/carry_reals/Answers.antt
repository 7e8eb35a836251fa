use Rattle.std.specs.Float.{nan}
use native.Mathlib.Omega.{arith}
use Rattle.stored.specs.Carried.{reals-carried}
use Rattle.stored.proofs.carry.carry_reals.Goals as goal

pub returns : goal.returns
returns c = reals-carried _ _ _ (omega arith, omega arith, omega arith) _ _ (c.split.ensures.region nan) (c.split.ensures.rest nan) (c.split-2.ensures.region nan) (c.split-2.ensures.rest nan) (c.split-3.ensures.region nan) (c.split-3.ensures.rest nan) (c.split-4.ensures.region nan) (c.split-4.ensures.rest nan) (c.split-5.ensures.region nan) (c.split-5.ensures.rest nan)
