use Rattle.lending.specs.Bare.{bare-words}
use Rattle.lending.proofs.entering.put_bare_words.Goals as goal

pub returns : goal.returns
returns c = rw c.put_words.ensures (bare-words _ _ _ _ _ c.requires.from_len c.requires.to_len)
