use Rattle.std.proofs.Common.{refl, arith, ◌∙◌}
use Rattle.laws.specs.Loops.{map_next, map_last, map-fill}
use Rattle.lending.proofs.room.blank.Goals as goal

pub loop-x-init : goal.loop-x-init
loop-x-init g c = refl

pub loop-x-preserved : goal.loop-x-preserved
loop-x-preserved g c = map_next (λ _. c.args.zero) _ _ _ c.args.zero (omega arith) refl c.loop-x.invariant

pub returns : goal.returns
returns g c = map_last _ _ _ _ (omega arith) c.loop-x.invariant ∙ rw c.told-room (map-fill c.args.zero g.row.N c.args.room.now c.told-room)
