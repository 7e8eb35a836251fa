use native.Mathlib.Omega.{arith}
use Rattle.waist.specs.Looks.{loadable}
use Rattle.waist.specs.Choices.{empty-is}
use Rattle.waist.proofs.Options.{none-is}
use Rattle.waist.proofs.choices.is_empty_row.Goals as goal

pub load_line-requires : goal.load_line-requires
load_line-requires c = record { loadable = loadable _ _ c.requires.sound; i_le_most_rows = omega (arith, c.requires.sound.few, c.requires.i_bound) }

pub returns : goal.returns
returns c = empty-is _ _ _ c.load_line.ensures c.first_along.ensures.value (none-is _ _ c.is_none.ensures)
