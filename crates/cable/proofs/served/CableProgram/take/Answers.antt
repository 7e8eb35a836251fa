-- A step takes bytes of the piece alone, and one at least.
use Rattle.std.proofs.Common.{arith, ℕ, List, ◌<◌, ◌≤◌, ◌≡◌, length}
use Rattle.cable_lines.specs.State.{held_by}
use Rattle.cable_lines.specs.Cable.{takes}
use Rattle.cable_lines.specs.Given.{taken_is, taken-within, taken-byte}
use Rattle.cable.proofs.served.CableProgram.take.Goals as goal

pub returns-clause-byte : goal.returns-clause-byte
returns-clause-byte c =
    let e : c.take-t.result.taken ≡ _ = taken_is (held_by c.args.self.now.state) c.args.piece.now c.take-t.ensures in
    let b : 0 < (takes (held_by c.args.self.now.state) c.args.piece.now).taken = taken-byte (held_by c.args.self.now.state) c.args.piece.now c.requires in
    omega arith

pub returns-clause-within : goal.returns-clause-within
returns-clause-within c =
    let e : c.take-t.result.taken ≡ _ = taken_is (held_by c.args.self.now.state) c.args.piece.now c.take-t.ensures in
    let w : (takes (held_by c.args.self.now.state) c.args.piece.now).taken ≤ length c.args.piece.now = taken-within (held_by c.args.self.now.state) c.args.piece.now in
    omega arith
