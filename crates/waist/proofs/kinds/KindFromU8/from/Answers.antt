use mathlib.Core.Path.{refl}
use native.Mathlib.Omega.{arith}
use borrow.Author.Tests.{ne_eqb}
use Rattle.layout.specs.Layout.{kind_of}
use Rattle.waist.proofs.kinds.KindFromU8.from.Goals as goal

pub returns-in_default : goal.returns-in_default
unfolding kind_of
returns-in_default c = rw (ne_eqb c.args.byte 2 (λ e. omega (arith, e)), ne_eqb c.args.byte 1 (λ e. omega (arith, e)), ne_eqb c.args.byte 3 (λ e. omega (arith, e))) refl
