use mathlib.Core.Path.{sym}
use lib.Seq.{length-take-le}
use Rattle.cable_lines.proofs.read_front.Goals as goal

pub slice_bounds-read_second-end : goal.slice_bounds-read_second-end
slice_bounds-read_second-end c = sym (length-take-le c.args.n _ c.requires)
