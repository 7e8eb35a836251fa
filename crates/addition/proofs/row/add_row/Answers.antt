use Rattle.std.proofs.Common.{rules}
use Rattle.laws.specs.Given.{then-given}
use Rattle.addition.specs.Stepped.{row-refused, added-refused, added-passed}
use Rattle.std.proofs.lemmas.Result.{err_from_is_err_and}
use Rattle.waist.specs.Ending.{refuses}
use mathlib.Core.Path.{refl}
use Rattle.addition.proofs.row.add_row.Goals as goal

pub returns-in_err-check_finite : goal.returns-in_err-check_finite
returns-in_err-check_finite c = let p = err_from_is_err_and c.from_residual.result c.from_residual.ensures.1 in rw (p.1, p.2) (let all = row-refused _ c.args.marker c.args.other _ c.args.row.now _ c.in_err-check_finite.ensures (refuses _) in record { values_value = all.0; goes = all.1; same = search rules })

pub returns-in_err-added : goal.returns-in_err-added
returns-in_err-added c = let p = err_from_is_err_and c.from_residual-in_err-added.result c.from_residual-in_err-added.ensures.1 in rw (p.1, p.2) (let all = added-refused _ c.args.marker c.args.other _ c.args.row.now _ c.in_ok-check_finite.ensures refl _ _ c.in_err-added.ensures.values_value (refuses _) in record { values_value = all.0; goes = all.1; same = search rules })

pub optimise-requires : goal.optimise-requires
optimise-requires c = then-given _ refl c.in_ok-added.ensures.goes

pub returns : goal.returns
returns c = record { values_value = added-passed _ c.args.marker c.args.other _ c.args.row.now _ c.in_ok-check_finite.ensures refl _ _ c.in_ok-added.ensures.values_value refl _ _ c.optimise.ensures.values_value; goes = c.optimise.ensures.goes; same = search rules }
