use mathlib.Core.Path.{refl}
use lib.Ieee.{of_bits}
use Rattle.steps.specs.Number.{zero64}
use Rattle.waist.specs.Kinds.{kind-few}
use Rattle.waist.specs.Growing.{grown_in, grow-grown, grow-makes}
use Rattle.waist.proofs.symbols.append_symbol.Goals as goal

pub returns : goal.returns
unfolding grown_in zero64 of_bits
returns c = rw c.byte.ensures (record { value = refl; grown = grow-grown _ _ c.requires.sound c.requires.values_bound; makes = λ a s. grow-makes _ _ c.requires.sound c.requires.values_bound a s (kind-few c.args.kind) })
