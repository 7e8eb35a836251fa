use lib.Ieee.{div, of_bits}
use Rattle.variables.specs.Stretches.{kept-words-is, kept-bytes-is, kept-reals-is}
use Rattle.variables.proofs.kept.keep_variable.Goals as goal

pub returns : goal.returns
unfolding div of_bits
returns c = record { words_after = kept-words-is _ c.args.words.now c.variable_spot-v.ensures.value c.open.ensures c.open-2.ensures; bytes_after = kept-bytes-is _ _ c.args.words.now c.args.bytes.now c.variable_spot-v.ensures.value c.open-3.ensures c.open-4.ensures; reals_after = kept-reals-is _ c.args.words.now c.args.reals.now c.variable_spot-v.ensures.value c.open-5.ensures }
