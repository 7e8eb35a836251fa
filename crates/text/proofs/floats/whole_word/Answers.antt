use Rattle.text.specs.Floats.{whole_of}
use Rattle.text.proofs.floats.whole_word.Goals as goal

pub returns : goal.returns
unfolding whole_of
returns c = c.decimal.ensures
