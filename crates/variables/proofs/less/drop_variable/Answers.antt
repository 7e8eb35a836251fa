use lib.Ieee.{nan}
use Rattle.variables.specs.Less.{went-words, went-bytes, went-reals}
use Rattle.variables.proofs.less.drop_variable.Goals as goal

pub returns : goal.returns
returns c = record { words_after = went-words _ _ (c.close.ensures 0) (c.close-2.ensures 0); bytes_after = went-bytes _ _ _ (c.close-3.ensures 0) (c.close-4.ensures 0); reals_after = went-reals _ _ _ (c.close-5.ensures nan) }
