use Rattle.writing.specs.Buffer.{then}
use Rattle.writing.specs.Texts.{line_text}
use Rattle.writing.proofs.texts.put_line.Goals as goal

pub returns : goal.returns
unfolding line_text
returns c = then c.put_terms-a.ensures (then c.put_constant-b.ensures (then c.put_relation-c.ensures (then c.put-d.ensures c.put_ending.ensures)))
