use Rattle.layout.specs.cells.Cells.{cells}
use Rattle.layout.specs.cells.Replace.{replaced-is, run-ordered}
use Rattle.std.proofs.Common.{rules}
use Rattle.layout.proofs.cells.row.replace_row.Goals as goal

pub slide-requires : goal.slide-requires
slide-requires c =
    let h = run-ordered _ _ _ _ _ c.find-a.ensures.value c.find-e.ensures.value in
    search (rules, h)

pub returns : goal.returns
returns c = replaced-is _ _ _ _ _ _ _ _ _ _ _ (cells _ _ _) c.find-a.ensures.value c.find-e.ensures.value c.count-m.ensures.value c.slide.ensures.keys_after c.slide.ensures.vals_after c.compress.ensures.result_after
