use Rattle.std.proofs.Common.{rules}
use native.Mathlib.Omega.{arith}
use Rattle.laws.specs.Given.{then-given}
use Rattle.addition.specs.Alone.{pass-refused, pass-temporary, pass-closed}
use Rattle.std.proofs.lemmas.Result.{err_from_is_err_and}
use Rattle.waist.specs.Ending.{refuses}
use mathlib.Core.Path.{refl}
use Rattle.addition.proofs.temporary.add_with_artificial.Goals as goal

pub stand_temporary-p-requires : goal.stand_temporary-p-requires
stand_temporary-p-requires c = record { standing = c.requires.standing; values_bound = c.requires.few-symbols; values_bound_2 = c.requires.few-rows; values_bound_3 = omega (arith, c.requires.few-ids); settled_row = c.requires.settled; holds = c.requires.holds }

pub returns-in_err-passed : goal.returns-in_err-passed
returns-in_err-passed c = let p = err_from_is_err_and c.from_residual.result c.from_residual.ensures.1 in rw (p.1, p.2) (record { by_index = λ m o. (pass-refused _ _ c.args.row.now _ c.stand_temporary-p.ensures.makes _ _ _ c.in_err-passed.ensures.values_value m o (refuses _)).0; goes = (pass-refused _ _ c.args.row.now _ c.stand_temporary-p.ensures.makes _ _ _ c.in_err-passed.ensures.values_value 0 0 (refuses _)).1; same = search rules })

pub close_temporary-requires : goal.close_temporary-requires
close_temporary-requires c = record { standing = then-given _ refl c.in_ok-passed.ensures.goes; temporary = pass-temporary _ _ c.args.row.now _ c.stand_temporary-p.ensures.makes _ _ _ c.in_ok-passed.ensures.values_value refl c.stand_temporary-p.ensures.value }

pub returns : goal.returns
returns c = record { by_index = λ m o. (pass-closed _ _ c.args.row.now _ c.stand_temporary-p.ensures.makes _ _ _ c.in_ok-passed.ensures.values_value refl c.stand_temporary-p.ensures.value m o _ _ c.close_temporary.ensures.values_value c.close_temporary.ensures.goes).0; goes = c.close_temporary.ensures.goes; same = search rules }
