use Rattle.solver.specs.Backed.{bytes_back}
use Rattle.solver.proofs.back.put_bytes.Goals as goal

pub returns : goal.returns
returns c = bytes_back c.args.wbytes.now c.args.r c.args.v c.args.bytes.now (c.part.ensures 0) (c.part-2.ensures 0)
