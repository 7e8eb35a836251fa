use Rattle.steps.specs.Number.{objective_bound}
use Rattle.waist.specs.Goals.{symbol-by}
use Rattle.waist.proofs.objective.insert_symbol.Goals as goal

pub returns : goal.returns
unfolding objective_bound
returns c = let all = symbol-by _ _ _ _ c.insert_cell-c.ensures c.cell_value.ensures c.mark_cell.ensures in record { result_value = all.0; reals_after = all.1 }
