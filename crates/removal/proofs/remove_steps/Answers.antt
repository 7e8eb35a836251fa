use Rattle.std.proofs.Common.{rules}
use Rattle.changes.specs.terms.Terms.{terms_of}
use Rattle.removal.specs.Uses.{room_of}
use Rattle.removal.specs.Steps.{pack-used, removed-pack}
use Rattle.removal.proofs.remove_steps.Goals as goal

pub returns : goal.returns
returns c = let all = removed-pack _ _ _ c.args.p _ _ _ _ c.shown-count.ensures.value c.remove_by.ensures.does in record { values_value = all.0; goes = all.1; same = search rules }

pub remove_by-requires : goal.remove_by-requires
remove_by-requires c = record { standing = c.requires.standing; tag_lives = c.requires.tag_lives; count_le_term_room = c.shown-count.ensures.upper_bound; room = room_of c.args.p.vars _ (terms_of c.args.p) _ (pack-used c.args.p _ c.shown-count.ensures.value) c.requires.room }
