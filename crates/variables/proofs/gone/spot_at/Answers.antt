use mathlib.Core.Path.{refl}
use borrow.Author.Tests.{eq-eqb, ne_eqb}
use Rattle.variables.proofs.gone.spot_at.Goals as goal

pub returns-then-n-x : goal.returns-then-n-x
returns-then-n-x c = rw (eq-eqb _ _ c.if-n-x.true) refl

pub returns : goal.returns
returns c = rw (ne_eqb _ _ c.if-n-x.false) refl
