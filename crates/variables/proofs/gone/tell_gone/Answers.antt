use mathlib.Core.Path.{refl}
use Rattle.variables.specs.Told.{told_words}
use Rattle.variables.proofs.gone.tell_gone.Goals as goal

pub returns-then-unreported : goal.returns-then-unreported
unfolding told_words
returns-then-unreported c = rw c.if-unreported.true refl

pub keep_number-requires : goal.keep_number-requires
keep_number-requires c = rw c.if-unreported.false at c.requires

pub returns : goal.returns
unfolding told_words
returns c = rw c.if-unreported.false c.keep_number.ensures
