use Rattle.std.proofs.Common.{rules}
use Rattle.layout.specs.cells.Cells.{nearer_of}
use Rattle.layout.proofs.cells.shift.close_place.Goals as goal

pub returns : goal.returns
returns c = c.each_key.ensures (nearer_of c.args.p) (λ x y h. search (rules, h))
