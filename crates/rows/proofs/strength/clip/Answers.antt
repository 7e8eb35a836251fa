use Rattle.std.proofs.Common.{◌≡◌, true, refl}
use lib.Ieee.{Float, lt, le, eq, ne}
use borrow.Author.Tests.{not-true}
use Rattle.steps.specs.Number.{zero64}
use Rattle.steps.specs.Strength.{clip, required}
use Rattle.rows.specs.Nans.{is-nan}
use Rattle.rows.proofs.strength.clip.Goals as goal

-- "NaN gives 1,001,001,000"
nan-clips : (s : Float) → ne s s ≡ true → required ≡ clip s
unfolding clip zero64 required ne lt le
nan-clips s e = rw (is-nan s (not-true (eq s s) e)) refl

pub returns-then-s : goal.returns-then-s
unfolding required
returns-then-s c = nan-clips c.args.s c.if-s.true

pub returns-then-s-2 : goal.returns-then-s-2
unfolding clip zero64 required
returns-then-s-2 c = rw c.if-s-2.true

pub returns-then-s-3 : goal.returns-then-s-3
unfolding clip zero64 required
returns-then-s-3 c = rw (c.if-s-2.false, c.if-s-3.true)

pub returns-else-s-3 : goal.returns-else-s-3
unfolding clip zero64 required
returns-else-s-3 c = rw (c.if-s-2.false, c.if-s-3.false)
