use Rattle.std.proofs.Common.{rules}
use native.Mathlib.Omega.{arith}
use Rattle.rows.specs.choose.Better.{within}
use Rattle.addition.specs.Chosen.{marker-open, chosen-open, chosen-added, unchosen-added}
use Rattle.addition.proofs.row.add_created.Goals as goal

pub add_without_subject-requires : goal.add_without_subject-requires
add_without_subject-requires c = record { fitting = c.requires.fitting; fact = marker-open _ _ c.args.row.now c.args.marker c.args.other c.requires }

pub returns-in_default : goal.returns-in_default
returns-in_default c = record { values_value = unchosen-added _ _ c.args.row.now c.args.marker c.args.other c.requires (c.choose_subject-f.ensures.by_index _ _ _ _ _) c.in_default.is _ _ _ c.add_without_subject.ensures.values_value; goes = c.add_without_subject.ensures.goes; same = search rules }

pub overflow_cast-p : goal.overflow_cast-p
overflow_cast-p c = let b = within c.choose_subject-f.ensures.within c.in-Some.is in omega (arith, b, c.requires.fitting.few-symbols)

pub add_with_subject-requires : goal.add_with_subject-requires
add_with_subject-requires c = record { fitting = c.requires.fitting; fact = chosen-open _ _ c.args.row.now c.args.marker c.args.other c.requires (c.choose_subject-f.ensures.by_index _ _ _ _ _) _ c.in-Some.is c.choose_subject-f.ensures.within }

pub returns : goal.returns
returns c = record { values_value = chosen-added _ _ c.args.row.now c.args.marker c.args.other c.requires (c.choose_subject-f.ensures.by_index _ _ _ _ _) _ c.in-Some.is _ _ _ (c.add_with_subject.ensures.by_index _ _); goes = c.add_with_subject.ensures.goes; same = search rules }
