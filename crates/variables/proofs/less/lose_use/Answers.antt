use mathlib.Core.Path.{refl}
use borrow.Author.Tests.{eq-eqb, ne_eqb}
use Rattle.variables.specs.Less.{less-words, lost-went, lost-less}
use Rattle.variables.proofs.less.lose_use.Goals as goal

pub returns-then-uses-eq1 : goal.returns-then-uses-eq1
returns-then-uses-eq1 c = lost-went _ _ _ _ (eq-eqb _ _ c.if-uses-eq1.true) c.drop_variable.ensures.words_after c.drop_variable.ensures.bytes_after c.drop_variable.ensures.reals_after refl refl

pub returns : goal.returns
returns c = lost-less _ _ _ _ (ne_eqb _ _ c.if-uses-eq1.false) (less-words _ _ c.saturating_sub.ensures)
