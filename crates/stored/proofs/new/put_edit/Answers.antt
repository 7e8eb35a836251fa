use Rattle.std.proofs.Common.{rules}
use mathlib.Core.Path.{refl}
use native.Mathlib.Omega.{arith}
use Rattle.steps.specs.Number.{zero64}
use Rattle.stored.specs.Put.{edit-put}
use Rattle.stored.proofs.new.put_edit.Goals as goal

pub returns : goal.returns
unfolding zero64
returns c = edit-put _ _ _ _ _ _ _ _ (search rules) (search rules) (omega arith) c.number_place-x.ensures refl
