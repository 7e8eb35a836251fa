use mathlib.Core.Path.{refl}
use Rattle.stored.specs.Suggested.{edit_record_at}
use Rattle.stored.proofs.record.edit_record.Goals as goal

pub returns : goal.returns
unfolding edit_record_at
returns c = refl
