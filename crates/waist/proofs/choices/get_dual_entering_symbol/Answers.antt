use native.Mathlib.Omega.{arith}
use Rattle.waist.specs.Looks.{loadable}
use Rattle.waist.specs.Choices.{dual-entering-chooses}
use Rattle.waist.proofs.choices.get_dual_entering_symbol.Goals as goal

pub load_line-requires : goal.load_line-requires
load_line-requires c = record { loadable = loadable _ _ c.requires.sound; i_le_most_rows = omega (arith, c.requires.sound.few, c.requires.i_bound) }

pub returns : goal.returns
returns c = dual-entering-chooses _ c.dual_along.ensures.within _ _ c.load_line.ensures c.dual_along.ensures.value
