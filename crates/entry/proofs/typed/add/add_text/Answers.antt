use Rattle.sparse.specs.Tables.{held}
use Rattle.std.proofs.Common.{rules}
use mathlib.Core.Path.{ap}
use Rattle.std.proofs.Common.{refl, ◌∙◌}
use Rattle.entry.specs.typed.Adding.{mark_in, refusal-text, added-text}
use Rattle.entry.proofs.typed.add.add_text.Goals as goal

pub returns-in-Err : goal.returns-in-Err
returns-in-Err c = record { values_value = refusal-text c.args.number c.args.line.now c.args.budget (held c.args.room.now) (held c.args.tables.now) c.read_line.ensures c.in-Err.r c.in-Err.is c.number.ensures c.offset.ensures (c.mark_of-whole.ensures ∙ ap mark_in c.lend.ensures) refl; wvalues_value = c.clear_room.ensures.does; same_tables = search rules; same_room = search rules }

pub returns-in-Ok : goal.returns-in-Ok
returns-in-Ok c = record { values_value = added-text c.args.number c.args.line.now c.args.budget (held c.args.room.now) (held c.args.tables.now) c.read_line.ensures c.in-Ok.x c.in-Ok.is c.pack_of-p.result c.whole.result c.required_by.result _ c.pack_of-p.ensures c.whole.ensures c.required_by.ensures c.change-a.ensures.values_value; wvalues_value = c.change-a.ensures.wvalues_value; same_tables = search rules; same_room = search rules }
