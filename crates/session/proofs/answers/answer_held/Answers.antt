-- A line asks for a constraint or names a call, and one that is too long does neither.
use Rattle.std.proofs.Common.{subst}
use Rattle.text.specs.Answers.{Wrote}
use Rattle.sparse.specs.Tables.{held}
use Rattle.session.specs.Shows.{shown_reply, none-answer, answer-as, answer-in, long-answer, other-answer, shown-spoken, as-spoken}
use Rattle.session.proofs.answers.answer_held.Goals as goal

pub returns-in_default-clause-spoken : goal.returns-in_default-clause-spoken
returns-in_default-clause-spoken c =
    let a = c.args in
    let t = held a.tables.now in
    let w = c.answer_line in
    (as-spoken a.out.now w.new.out a.at w.result (none-answer a.line.now t c.in_default.is) (w.ensures.spoken, w.ensures.upper_bound)).0

pub returns-then-read-gt4096-clause-spoken : goal.returns-then-read-gt4096-clause-spoken
returns-then-read-gt4096-clause-spoken c =
    let a = c.args in
    let t = held a.tables.now in
    let w = c.answer_line-then-read-gt4096 in
    (as-spoken a.out.now w.new.out a.at w.result (answer-as a.line.now t c.in-Some.is (long-answer a.line.now c.in-Some.read t c.if-read-gt4096.true)) (w.ensures.spoken, w.ensures.upper_bound)).0

pub returns-in_default-show_front-clause-spoken : goal.returns-in_default-show_front-clause-spoken
returns-in_default-show_front-clause-spoken c =
    let a = c.args in
    let t = held a.tables.now in
    let w = c.answer_line-in_default-show_front in
    (as-spoken a.out.now w.new.out a.at w.result (answer-as a.line.now t c.in-Some.is (other-answer a.line.now c.in-Some.read t c.if-read-gt4096.false c.show_front.ensures c.in_default-show_front.is)) (w.ensures.spoken, w.ensures.upper_bound)).0

pub returns-clause-spoken : goal.returns-clause-spoken
returns-clause-spoken c =
    let a = c.args in
    let t = held a.tables.now in
    let w = c.say_shown in
    let h = shown-spoken a.line.now c.in-Some.read t a.out.now w.new.out a.at w.result c.if-read-gt4096.false c.show_front.ensures c.in-Some-show_front.is c.requires (subst (λ u. Wrote a.out.now w.new.out a.at w.result (shown_reply c.in-Some-show_front.n u)) c.lend.ensures w.ensures) in
    (as-spoken a.out.now w.new.out a.at w.result (answer-in a.line.now t c.in-Some.is) h).0

pub returns-clause-upper_bound : goal.returns-clause-upper_bound
returns-clause-upper_bound c =
    let a = c.args in
    let t = held a.tables.now in
    let w = c.say_shown in
    let h = shown-spoken a.line.now c.in-Some.read t a.out.now w.new.out a.at w.result c.if-read-gt4096.false c.show_front.ensures c.in-Some-show_front.is c.requires (subst (λ u. Wrote a.out.now w.new.out a.at w.result (shown_reply c.in-Some-show_front.n u)) c.lend.ensures w.ensures) in
    h.1
