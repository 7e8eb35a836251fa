use native.Mathlib.Omega.{arith}
use Rattle.waist.specs.Goals.{symbol-in-objective}
use Rattle.waist.proofs.objective.insert_in_objective.Goals as goal

pub insert_symbol-requires : goal.insert_symbol-requires
insert_symbol-requires c = omega (arith, c.requires.p_bound, c.requires.standing.sound.named.few-symbols)

pub returns : goal.returns
returns c = symbol-in-objective _ _ _ _ _ _ c.requires.standing c.requires.le_p c.requires.p_bound c.requires.free c.insert_symbol.ensures.reals_after c.insert_symbol.ensures.result_value
