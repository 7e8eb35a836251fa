-- A line that is too long names no call, and any other the call that was read; no reply is long.
use Rattle.std.specs.Prelude.{Some, None, refl}
use Rattle.std.proofs.Common.{sym, ◌∙◌}
use Rattle.sparse.specs.Tables.{held}
use Rattle.session.specs.Calls.{reply_of, call_from, held-none, held-as, held-long, held-line, held-bad, held-said}
use Rattle.session.proofs.answers.answer_line.Goals as goal

pub returns-in_default-clause-spoken : goal.returns-in_default-clause-spoken
unfolding reply_of
returns-in_default-clause-spoken c =
    let a = c.args in
    let t = held a.tables.now in
    let w = c.put_unread in
    (held-said None t a.out.now w.new.out a.at w.result (held-none a.line.now t c.in_default.is) c.requires (w.ensures, refl)).0

pub returns-in_default-clause-upper_bound : goal.returns-in_default-clause-upper_bound
unfolding reply_of
returns-in_default-clause-upper_bound c =
    let a = c.args in
    let t = held a.tables.now in
    let w = c.put_unread in
    (held-said None t a.out.now w.new.out a.at w.result (held-none a.line.now t c.in_default.is) c.requires (w.ensures, refl)).1

pub returns-then-count-gt4096-clause-spoken : goal.returns-then-count-gt4096-clause-spoken
unfolding reply_of
returns-then-count-gt4096-clause-spoken c =
    let a = c.args in
    let t = held a.tables.now in
    let w = c.put_unread-then-count-gt4096 in
    (held-said None t a.out.now w.new.out a.at w.result (held-as a.line.now t c.in-Some.is (held-long a.line.now c.in-Some.count t c.if-count-gt4096.true)) c.requires (w.ensures, refl)).0

pub returns-then-count-gt4096-clause-upper_bound : goal.returns-then-count-gt4096-clause-upper_bound
unfolding reply_of
returns-then-count-gt4096-clause-upper_bound c =
    let a = c.args in
    let t = held a.tables.now in
    let w = c.put_unread-then-count-gt4096 in
    (held-said None t a.out.now w.new.out a.at w.result (held-as a.line.now t c.in-Some.is (held-long a.line.now c.in-Some.count t c.if-count-gt4096.true)) c.requires (w.ensures, refl)).1

pub returns-in_default-read_front-clause-spoken : goal.returns-in_default-read_front-clause-spoken
unfolding reply_of
returns-in_default-read_front-clause-spoken c =
    let a = c.args in
    let t = held a.tables.now in
    let w = c.put_unread-in_default-read_front in
    (held-said None t a.out.now w.new.out a.at w.result (held-as a.line.now t c.in-Some.is (held-bad a.line.now c.in-Some.count t c.if-count-gt4096.false (sym c.read_front.ensures ∙ c.in_default-read_front.is))) c.requires (w.ensures, refl)).0

pub returns-in_default-read_front-clause-upper_bound : goal.returns-in_default-read_front-clause-upper_bound
unfolding reply_of
returns-in_default-read_front-clause-upper_bound c =
    let a = c.args in
    let t = held a.tables.now in
    let w = c.put_unread-in_default-read_front in
    (held-said None t a.out.now w.new.out a.at w.result (held-as a.line.now t c.in-Some.is (held-bad a.line.now c.in-Some.count t c.if-count-gt4096.false (sym c.read_front.ensures ∙ c.in_default-read_front.is))) c.requires (w.ensures, refl)).1

pub returns-clause-spoken : goal.returns-clause-spoken
returns-clause-spoken c =
    let a = c.args in
    let t = held a.tables.now in
    let l = c.in-Some-read_front.l in
    let w = c.answer in
    (held-said (Some (call_from l.call l.terms)) t a.out.now w.new.out a.at w.result (held-as a.line.now t c.in-Some.is (held-line a.line.now c.in-Some.count t c.if-count-gt4096.false (sym c.in-Some-read_front.is ∙ c.read_front.ensures))) c.requires w.ensures.spoken).0

pub returns-clause-upper_bound : goal.returns-clause-upper_bound
returns-clause-upper_bound c =
    let a = c.args in
    let t = held a.tables.now in
    let l = c.in-Some-read_front.l in
    let w = c.answer in
    (held-said (Some (call_from l.call l.terms)) t a.out.now w.new.out a.at w.result (held-as a.line.now t c.in-Some.is (held-line a.line.now c.in-Some.count t c.if-count-gt4096.false (sym c.in-Some-read_front.is ∙ c.read_front.ensures))) c.requires w.ensures.spoken).1
