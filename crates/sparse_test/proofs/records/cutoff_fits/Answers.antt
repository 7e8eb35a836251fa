use mathlib.Core.Path.{refl}
use Rattle.steps.specs.Number.{zero64, greatest_cutoff, cutoff_fits}
use Rattle.sparse_test.proofs.records.cutoff_fits.Goals as goal

pub returns : goal.returns
unfolding zero64 greatest_cutoff cutoff_fits
returns c = refl
