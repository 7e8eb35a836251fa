use Rattle.std.proofs.Common.{rules}
use mathlib.Core.Path.{refl}
use native.Mathlib.Omega.{arith}
use Rattle.stored.specs.Put.{constraint-put}
use Rattle.stored.proofs.new.put_constraint.Goals as goal

pub returns : goal.returns
returns c = constraint-put _ _ _ _ _ _ _ _ _ _ _ _ _ (search rules) (search rules) (search rules) (omega arith) (omega arith) refl c.put_terms.ensures c.put_coefficients.ensures
