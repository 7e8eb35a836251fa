use lib.Ieee.{nan}
use lib.ListN.{get_or}
use Rattle.waist.specs.Noting.{note-calls}
use Rattle.waist.specs.Entering.{noted-low, on-by, keep-ready, enter-calls}
use mathlib.Core.Path.{refl}
use Rattle.waist.specs.KindsRead.{external-read}
use Rattle.waist.proofs.pivoting.enter_basis.Goals as goal

pub substitute-w-requires : goal.substitute-w-requires
substitute-w-requires c = record { sound = c.requires.sound; le_at = c.requires.le_at; at_bound = c.requires.at_bound; settled_row = c.requires.settled_row }

pub keep_row-requires : goal.keep_row-requires
keep_row-requires c =
    let l = noted-low _ _ _ _ c.requires.sound c.requires.le_at c.requires.at_bound c.requires.free c.requires.row_count_at_bound c.requires.settled_row c.substitute-w.ensures.does in
    let n = note-calls _ _ _ _ c.substitute-w.ensures.does.sound l.0 l.1 _ _ c.var_changed_if.ensures in
    let k = keep-ready _ _ _ _ c.requires.sound c.requires.le_at c.requires.at_bound c.requires.free c.requires.row_count_at_bound c.requires.settled_row c.substitute-w.ensures.does n in
    record { sound = k.0; le_p = k.1; p_bound = k.2; free = k.3; row_count_at_bound = k.4; settled_row = k.5 }

pub returns-clause-does : goal.returns-clause-does
returns-clause-does c =
    let l = noted-low _ _ _ _ c.requires.sound c.requires.le_at c.requires.at_bound c.requires.free c.requires.row_count_at_bound c.requires.settled_row c.substitute-w.ensures.does in
    let n = note-calls _ _ _ _ c.substitute-w.ensures.does.sound l.0 l.1 _ _ c.var_changed_if.ensures in
    enter-calls _ _ _ _ c.requires.sound c.requires.le_at c.requires.at_bound c.requires.free c.requires.row_count_at_bound c.requires.settled_row c.substitute-w.ensures.does n c.keep_row.ensures.does
    (on-by _ _ _ _ c.requires.sound c.requires.le_at c.requires.at_bound c.requires.free c.requires.row_count_at_bound c.requires.settled_row c.substitute-w.ensures.does (get_or c.args.row.now 0 nan) refl (rw (← external-read _ _ (rw c.kind_at.ensures at c.from.ensures)) c.enters_noted-on.ensures))
