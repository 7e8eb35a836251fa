use native.Mathlib.Omega.{arith}
use Rattle.cable_lines.specs.State.{kept-none}
use Rattle.cable_lines.proofs.state.renew.Goals as goal

pub returns : goal.returns
returns c = kept-none c.args.s.now (omega arith)
