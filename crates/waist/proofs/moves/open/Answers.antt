use mathlib.Core.Path.{◌≡◌, refl, ap, ◌∙◌}
use native.Mathlib.Omega.{arith}
use Rattle.laws.specs.Loops.{insert_at, down-next, put}
use Rattle.rows.specs.moves.Close.{opened}
use Rattle.waist.proofs.moves.open.Goals as goal

pub loop-j-init : goal.loop-j-init
loop-j-init g c = (refl, c.requires.i_le_e)

pub loop-j-preserved : goal.loop-j-preserved
loop-j-preserved g c = (down-next _ _ _ (omega arith) (omega arith) c.index-xs-j.is ∙ c.loop-j.invariant.0, omega arith)

pub returns : goal.returns
unfolding opened
returns g c = let q : c.loop-j.j ≡ c.args.i = omega arith in put _ _ _ (omega arith) ∙ ap (insert_at _ _) (rw q at c.loop-j.invariant.0)
