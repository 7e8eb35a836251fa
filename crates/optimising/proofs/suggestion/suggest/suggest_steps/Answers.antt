use Rattle.std.proofs.Common.{rules}
use mathlib.Core.Path.{refl}
use Rattle.std.proofs.lemmas.Result.{err_from_is_err_and}
use Rattle.waist.specs.Ending.{refuses}
use Rattle.optimising.specs.suggestion.Suggested.{suggest-start, suggest-ends, suggest-stands, suggest-goes}
use Rattle.optimising.proofs.suggestion.suggest.suggest_steps.Goals as goal

pub shift_constants-wrote-requires : goal.shift_constants-wrote-requires
shift_constants-wrote-requires c = record { standing = suggest-start _ _ _ _ c.requires.standing c.mark_suggestion-given.ensures; le_marker = c.requires.le_marker; marker_bound = c.requires.marker_bound; other_bound = c.requires.other_bound }

pub returns-in_err-checked : goal.returns-in_err-checked
returns-in_err-checked c = let p = err_from_is_err_and c.from_residual.result c.from_residual.ensures.1 in rw (p.1, p.2) (let all = suggest-ends _ _ _ _ _ _ _ _ c.mark_suggestion-given.ensures c.shift_constants-wrote.ensures _ c.in_err-checked.ensures (refuses _) in record { values_value = all.0; goes = all.1; same = search rules })

pub dual_optimise-requires : goal.dual_optimise-requires
dual_optimise-requires c = suggest-stands _ _ _ _ _ _ _ _ c.mark_suggestion-given.ensures c.shift_constants-wrote.ensures c.args.budget c.in_ok-checked.ensures

pub returns : goal.returns
returns c = record { values_value = suggest-goes _ _ _ _ _ _ _ _ c.mark_suggestion-given.ensures c.shift_constants-wrote.ensures _ c.in_ok-checked.ensures _ _ refl c.dual_optimise.ensures.values_value; goes = c.dual_optimise.ensures.goes; same = search rules }
