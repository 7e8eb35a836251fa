use Rattle.std.proofs.Common.{rules}
use Rattle.sparse.specs.Tables.{held}
use mathlib.Core.Path.{refl, sym, ◌∙◌}
use Rattle.sparse_test.specs.Meaning.{reads-form}
use Rattle.solver.specs.Dropped.{at-start, halfway-refused, halfway-fewer, halfway-on, halfway-ended}
use Rattle.solver.proofs.drop.drop_all.Goals as goal

pub loop-room-init : goal.loop-room-init
loop-room-init c = (at-start c.args.g c.args.budget (held c.args.room.now) c.requires.values_value c.requires.values_value_2, search rules)

pub group_lives-requires : goal.group_lives-requires
group_lives-requires c = (reads-form (held c.loop-room.room) c.loop-room.invariant.0.reads).counts.constraints

pub drop_first-a-requires : goal.drop_first-a-requires
drop_first-a-requires c = record { values_value = c.loop-room.invariant.0.reads; g_value = sym c.group_lives.ensures ∙ c.loop-room-test.true; pivots_le_budget = c.loop-room.invariant.0.spent; removable = c.loop-room.invariant.0.removable }

pub returns-then-a-ne0-clause-does : goal.returns-then-a-ne0-clause-does
returns-then-a-ne0-clause-does c = halfway-refused c.args.g c.args.budget (held c.args.room.now) (held c.loop-room.room) c.loop-room.pivots c.loop-room.invariant.0 (sym c.group_lives.ensures ∙ c.loop-room-test.true) c.drop_first-a.result (held c.drop_first-a.new.room) c.drop_first-a.ensures.does c.if-a-ne0.true

pub loop-room-smaller : goal.loop-room-smaller
loop-room-smaller c = halfway-fewer c.args.g c.args.budget (held c.args.room.now) (held c.loop-room.room) c.loop-room.pivots c.loop-room.invariant.0 (sym c.group_lives.ensures ∙ c.loop-room-test.true) c.drop_first-a.result (held c.drop_first-a.new.room) c.drop_first-a.ensures.does c.if-a-ne0.false

pub loop-room-preserved : goal.loop-room-preserved
loop-room-preserved c = (halfway-on c.args.g c.args.budget (held c.args.room.now) (held c.loop-room.room) c.loop-room.pivots c.loop-room.invariant.0 (sym c.group_lives.ensures ∙ c.loop-room-test.true) c.drop_first-a.result (held c.drop_first-a.new.room) c.drop_first-a.ensures.does c.if-a-ne0.false, search rules)

pub returns-clause-does : goal.returns-clause-does
returns-clause-does c = halfway-ended c.args.g c.args.budget (held c.args.room.now) (held c.loop-room.room) c.loop-room.pivots c.loop-room.invariant.0 (sym c.group_lives.ensures ∙ c.loop-room-test.false) _ refl
