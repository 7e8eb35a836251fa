use Rattle.std.proofs.Common.{rules}
use mathlib.Core.Path.{refl}
use Rattle.addition.specs.Entered.{enter-ready, subject-calls}
use Rattle.addition.proofs.subject.add_with_subject.Goals as goal

pub enter_on-all-requires : goal.enter_on-all-requires
enter_on-all-requires c = let k = enter-ready _ _ _ _ c.requires.fitting c.requires.fact c.told-row _ _ _ c.from.ensures c.joined-past.ensures refl c.solve_for-u.ensures.result_value c.solve_for-u.ensures.row_after in
    record { standing = k.0; le_p = c.requires.fact.low; p_bound = c.requires.fact.high; free = c.requires.fact.free; row_count_at_bound = k.1; settled_row = k.2; fits_w = k.3 }

pub returns : goal.returns
returns c = record { by_index = λ m o. (subject-calls _ _ _ _ c.requires.fitting c.requires.fact c.told-row _ _ _ c.from.ensures c.joined-past.ensures refl c.solve_for-u.ensures.result_value c.solve_for-u.ensures.row_after _ _ _ m o c.enter_on-all.ensures.makes c.check_finite.ensures).0; goes = (subject-calls _ _ _ _ c.requires.fitting c.requires.fact c.told-row _ _ _ c.from.ensures c.joined-past.ensures refl c.solve_for-u.ensures.result_value c.solve_for-u.ensures.row_after _ _ _ 0 0 c.enter_on-all.ensures.makes c.check_finite.ensures).1; same = search rules }
