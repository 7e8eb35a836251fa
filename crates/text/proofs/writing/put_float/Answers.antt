use Rattle.std.proofs.Common.{sym, ap}
use Rattle.text.specs.Answers.{wrote_as, hex_text}
use Rattle.text.proofs.writing.put_float.Goals as goal

pub returns : goal.returns
returns c = wrote_as c.args.out.now c.put_hex.new.out c.args.at c.put_hex.result (ap (hex_text 16) (sym c.bits_of_float.ensures)) c.put_hex.ensures
