use Rattle.writing.specs.Buffer.{then}
use Rattle.writing.specs.Texts.{figure_text}
use Rattle.writing.proofs.texts.put_term.Goals as goal

pub returns : goal.returns
unfolding figure_text
returns c = then c.put_sign-a.ensures (then c.put_size-b.ensures (then c.put-c.ensures c.put_number.ensures))
