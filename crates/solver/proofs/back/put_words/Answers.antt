use Rattle.solver.specs.Backed.{words_back}
use Rattle.solver.proofs.back.put_words.Goals as goal

pub returns : goal.returns
returns c = words_back c.args.wrote c.args.wwords.now c.args.words.now c.mark_bit.ensures
