use Rattle.optimising.proofs.suggestion.shifting.is_basic.Goals as goal

pub returns : goal.returns
returns c = rw (← c.row_of.ensures.value) c.is_found.ensures
