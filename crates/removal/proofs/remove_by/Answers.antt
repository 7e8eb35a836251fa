use Rattle.sparse.specs.Tables.{held}
use mathlib.Core.Path.{refl}
use mathlib.Core.Bool.{false}
use Rattle.rows.specs.Marks.{mark_of}
use Rattle.sparse.specs.Sparse.{symbol_at, symbols_of}
use Rattle.waist.specs.Working.{work_of}
use Rattle.removal.specs.Bound.{goes_given}
use Rattle.removal.specs.Steps.{refused-first, refused-second, dropped-lives, refused-third, passed-room, removed}
use Rattle.std.proofs.lemmas.Result.{err_from_is_err_and}
use Rattle.waist.specs.Ending.{ended_of, refuses}
use Rattle.std.specs.Prelude.{Ok}
use Rattle.removal.proofs.remove_by.Goals as goal

pub returns-in_err-taken-clause-does : goal.returns-in_err-taken-clause-does
returns-in_err-taken-clause-does c = let p = err_from_is_err_and c.from_residual.result c.from_residual.ensures.1 in rw (p.1, p.2) (refused-first c.args.budget c.args.marker c.args.other c.args.strength c.args.numbers.now c.args.count (work_of false (mark_of c.args.before) 0 (held c.args.room.now)) (held c.args.room.now) c.requires.tag_lives _ _ (c.in_err-taken.ensures.values_value, c.in_err-taken.ensures.goes) (refuses _))

pub returns-in_err-dropped-clause-does : goal.returns-in_err-dropped-clause-does
unfolding symbols_of symbol_at
returns-in_err-dropped-clause-does c = let p = err_from_is_err_and c.from_residual-in_err-dropped.result c.from_residual-in_err-dropped.ensures.1 in rw (p.1, p.2) (refused-second c.args.budget c.args.marker c.args.other c.args.strength c.args.numbers.now c.args.count (work_of false (mark_of c.args.before) 0 (held c.args.room.now)) (held c.args.room.now) c.requires.tag_lives (ended_of (Ok c.in_ok-taken.taken)) _ (c.in_ok-taken.ensures.values_value, c.in_ok-taken.ensures.goes) refl refl _ _ (c.in_err-dropped.ensures.values_value, c.in_err-dropped.ensures.goes) (refuses _))

pub returns-in_err-passed-clause-does : goal.returns-in_err-passed-clause-does
unfolding symbols_of symbol_at
returns-in_err-passed-clause-does c = let p = err_from_is_err_and c.from_residual-in_err-passed.result c.from_residual-in_err-passed.ensures.1 in rw (p.1, p.2) (refused-third c.args.budget c.args.marker c.args.other c.args.strength c.args.numbers.now c.args.count (work_of false (mark_of c.args.before) 0 (held c.args.room.now)) (held c.args.room.now) c.requires.tag_lives (ended_of (Ok c.in_ok-taken.taken)) _ (c.in_ok-taken.ensures.values_value, c.in_ok-taken.ensures.goes) refl refl (ended_of (Ok c.in_ok-dropped.dropped)) _ (c.in_ok-dropped.ensures.values_value, c.in_ok-dropped.ensures.goes) refl _ (c.purge_tag.ensures.does (mark_of c.in_ok-dropped.dropped.wrote) (goes_given (ended_of (Ok c.in_ok-dropped.dropped)) _ refl c.in_ok-dropped.ensures.goes)) _ _ (c.in_err-passed.ensures.values_value, c.in_err-passed.ensures.goes) (refuses _))

pub returns-clause-does : goal.returns-clause-does
unfolding symbols_of symbol_at
returns-clause-does c = removed c.args.budget c.args.marker c.args.other c.args.strength c.args.numbers.now c.args.count (work_of false (mark_of c.args.before) 0 (held c.args.room.now)) (held c.args.room.now) c.requires.tag_lives (ended_of (Ok c.in_ok-taken.taken)) _ (c.in_ok-taken.ensures.values_value, c.in_ok-taken.ensures.goes) refl refl (ended_of (Ok c.in_ok-dropped.dropped)) _ (c.in_ok-dropped.ensures.values_value, c.in_ok-dropped.ensures.goes) refl _ (c.purge_tag.ensures.does (mark_of c.in_ok-dropped.dropped.wrote) (goes_given (ended_of (Ok c.in_ok-dropped.dropped)) _ refl c.in_ok-dropped.ensures.goes)) (ended_of (Ok c.in_ok-passed.passed)) _ (c.in_ok-passed.ensures.values_value, c.in_ok-passed.ensures.goes) refl _ (c.drop_uses.ensures.does (mark_of c.in_ok-passed.passed.wrote) (goes_given (ended_of (Ok c.in_ok-passed.passed)) _ refl c.in_ok-passed.ensures.goes))

pub take_effects-requires : goal.take_effects-requires
take_effects-requires c = record { standing = c.requires.standing; tag_lives = c.requires.tag_lives }

pub drop_marker-requires : goal.drop_marker-requires
drop_marker-requires c = record { standing = goes_given (ended_of (Ok c.in_ok-taken.taken)) _ refl c.in_ok-taken.ensures.goes; le_p = c.requires.tag_lives.low; p_bound = c.requires.tag_lives.high }

pub purge_tag-requires : goal.purge_tag-requires
unfolding symbols_of symbol_at
purge_tag-requires c = record { stands = (mark_of c.in_ok-dropped.dropped.wrote, goes_given (ended_of (Ok c.in_ok-dropped.dropped)) _ refl c.in_ok-dropped.ensures.goes); tag_lives = dropped-lives c.args.budget c.args.marker c.args.other c.args.strength c.args.numbers.now c.args.count (work_of false (mark_of c.args.before) 0 (held c.args.room.now)) (held c.args.room.now) c.requires.tag_lives (ended_of (Ok c.in_ok-taken.taken)) _ (c.in_ok-taken.ensures.values_value, c.in_ok-taken.ensures.goes) refl refl (ended_of (Ok c.in_ok-dropped.dropped)) _ (c.in_ok-dropped.ensures.values_value, c.in_ok-dropped.ensures.goes) refl }

pub optimise-requires : goal.optimise-requires
optimise-requires c = (c.purge_tag.ensures.does (mark_of c.in_ok-dropped.dropped.wrote) (goes_given (ended_of (Ok c.in_ok-dropped.dropped)) _ refl c.in_ok-dropped.ensures.goes)).stands

pub drop_uses-requires : goal.drop_uses-requires
unfolding symbols_of symbol_at
drop_uses-requires c = record { stands = (mark_of c.in_ok-passed.passed.wrote, goes_given (ended_of (Ok c.in_ok-passed.passed)) _ refl c.in_ok-passed.ensures.goes); count_le_term_room = c.requires.count_le_term_room; room = passed-room c.args.budget c.args.marker c.args.other c.args.strength c.args.numbers.now c.args.count (work_of false (mark_of c.args.before) 0 (held c.args.room.now)) (held c.args.room.now) c.requires.tag_lives (ended_of (Ok c.in_ok-taken.taken)) _ (c.in_ok-taken.ensures.values_value, c.in_ok-taken.ensures.goes) refl refl (ended_of (Ok c.in_ok-dropped.dropped)) _ (c.in_ok-dropped.ensures.values_value, c.in_ok-dropped.ensures.goes) refl _ (c.purge_tag.ensures.does (mark_of c.in_ok-dropped.dropped.wrote) (goes_given (ended_of (Ok c.in_ok-dropped.dropped)) _ refl c.in_ok-dropped.ensures.goes)) (ended_of (Ok c.in_ok-passed.passed)) _ (c.in_ok-passed.ensures.values_value, c.in_ok-passed.ensures.goes) refl (mark_of c.args.before) refl c.requires.standing _ c.requires.room }
