-- Each arm says what its call is answered.
use Rattle.std.proofs.Common.{subst}
use Rattle.text.specs.Answers.{Wrote}
use Rattle.sparse.specs.Tables.{held}
use Rattle.session.specs.Calls.{asked_text, reset-said, change-said, asked-said, fetched-said}
use Rattle.session.proofs.answers.answer.Goals as goal

pub returns-in-Reset-clause-spoken : goal.returns-in-Reset-clause-spoken
returns-in-Reset-clause-spoken c =
    let a = c.args in
    let w = c.put_answer in
    reset-said a.call a.p (held a.tables.now) a.out.now w.new.out a.at w.result c.reset-a.result c.in-Reset.is c.reset-a.ensures.does w.ensures

pub returns-in-Change-clause-spoken : goal.returns-in-Change-clause-spoken
returns-in-Change-clause-spoken c =
    let a = c.args in
    let w = c.put_answer-in-Change in
    change-said a.call a.p (held a.tables.now) a.out.now w.new.out a.at w.result c.change-a.result c.in-Change.is c.change-a.ensures.does w.ensures

pub returns-in-Ask-clause-spoken : goal.returns-in-Ask-clause-spoken
returns-in-Ask-clause-spoken c =
    let a = c.args in
    let w = c.ask in
    asked-said a.call a.p (held a.tables.now) a.out.now w.new.out a.at w.result c.in-Ask.is (subst (λ t. Wrote a.out.now w.new.out a.at w.result (asked_text c.in-Ask.q t)) c.lend.ensures w.ensures)

pub returns-in-Fetch-clause-spoken : goal.returns-in-Fetch-clause-spoken
returns-in-Fetch-clause-spoken c =
    let a = c.args in
    let w = c.say_fetch in
    fetched-said a.call a.p (held a.tables.now) a.out.now w.new.out a.at w.result c.in-Fetch.is w.ensures.spoken
