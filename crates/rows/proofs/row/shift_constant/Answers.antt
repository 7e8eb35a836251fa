use Rattle.std.proofs.Common.{refl}
use Rattle.rows.specs.Table.{shift_constant_in, shift_constant_mark}
use Rattle.steps.specs.Number.{constant_bound, zero64}
use Rattle.rows.proofs.row.shift_constant.Goals as goal

pub returns : goal.returns
unfolding shift_constant_in shift_constant_mark zero64 constant_bound
returns c = record { changed_value = refl; wrote_value = c.mark_write-w.ensures; row_after = refl }
