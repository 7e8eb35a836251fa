use Rattle.std.proofs.Common.{rules}
use mathlib.Core.Path.{refl}
use native.Mathlib.Omega.{arith}
use Rattle.laws.specs.Loops.{run-next, run-last}
use Rattle.fetches.specs.Listing.{listing, entries, all_told}
use Rattle.fetches.proofs.listing.list_changes.Goals as goal

pub loop-i-init : goal.loop-i-init
loop-i-init c = (refl, omega arith, omega arith, (refl, refl, refl))

pub note_news-told-requires : goal.note_news-told-requires
note_news-told-requires c = record { row_count_at_bound = c.requires.row_count_at_bound; gone_count_at_bound = c.requires.gone_count_at_bound; ascends = c.requires.ascends; i_lt_most_variables = omega (arith, c.requires.variable_count_at_bound, c.loop-i-test.true); told_bound = c.loop-i.invariant.1; count_bound = c.loop-i.invariant.2 }

pub loop-i-preserved : goal.loop-i-preserved
loop-i-preserved c = (run-next _ _ _ (listing c.loop-i.reals (entries c.loop-i.out) c.loop-i.told) (omega arith) c.note_news-told.ensures.result_after c.loop-i.invariant.0, c.note_news-told.ensures.told_bound_2, c.note_news-told.ensures.count_bound_2, search rules)

pub tell_gone-requires : goal.tell_gone-requires
tell_gone-requires c = record { a_le_b = c.loop-i.invariant.1; b_le_most_gone = c.requires.gone_count_at_bound; a_bound = omega (arith, c.loop-i.invariant.1, c.loop-i.invariant.2, c.requires.variable_count_at_bound, c.requires.gone_count_at_bound) }

pub returns-clause-after : goal.returns-clause-after
returns-clause-after c = all_told _ _ _ _ _ (listing c.loop-i.reals (entries c.loop-i.out) c.loop-i.told) (run-last _ _ _ _ (omega arith) c.loop-i.invariant.0) c.tell_gone.ensures.after
