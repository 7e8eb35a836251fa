use Rattle.rows.specs.places.Marked.{counted-fits}
use Rattle.rows.proofs.places.row_fits.Goals as goal

pub returns : goal.returns
returns c = counted-fits _ _ _ _ c.row_hits.ensures
