use mathlib.Core.Path.{refl}
use Rattle.lending.specs.Reset.{reset_words}
use Rattle.lending.proofs.reset_words.Goals as goal

pub returns : goal.returns
unfolding reset_words
returns c = refl
