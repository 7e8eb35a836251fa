use native.Mathlib.Omega.{arith}
use Rattle.stored.specs.Parts.{split-region, split_rest}
use Rattle.stored.proofs.parts.split.Goals as goal

pub returns-clause-region : goal.returns-clause-region
returns-clause-region g c = λ z. split-region z _ _ _ _ _ (c.part.ensures z) (c.part-2.ensures z)

pub returns-clause-rest : goal.returns-clause-rest
returns-clause-rest g c = λ z. split_rest z (λ x. x) _ _ _ _ _ (omega arith) (c.part.ensures z) (c.part-2.ensures z)
