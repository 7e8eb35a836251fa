-- What was filled in has few enough terms, and its text is the reply.
use Rattle.sparse.specs.Tables.{lent}
use Rattle.session.specs.Shows.{few-places, shown-wrote}
use Rattle.session.proofs.answers.say_shown.Goals as goal

pub put_shown-requires-clause-words_bound : goal.put_shown-requires-clause-words_bound
put_shown-requires-clause-words_bound c = let a = c.args in few-places a.number (lent a.tables.now) c.show.ensures

pub returns : goal.returns
returns c =
    let a = c.args in
    let w = c.put_shown in
    shown-wrote a.number (lent a.tables.now) c.show.ensures a.out.now w.new.out a.at w.result w.ensures.put
