use Rattle.std.specs.Prelude.{Ok, refl}
use Rattle.std.proofs.lemmas.Result.{err_from_is_err_and}
use native.Mathlib.Omega.{arith}
use Rattle.reader.specs.Answers.{shown}
use Rattle.reader.specs.second.Replies.{is-group, refused-first, too-strong, no-group, all-in-range}
use Rattle.reader.proofs.second.ranged.Goals as goal

pub returns-in_err-constraint : goal.returns-in_err-constraint
returns-in_err-constraint c =
    let p = err_from_is_err_and c.from_residual.result c.from_residual.ensures.1 in
    rw (p.1, p.2, c.in_err-constraint.was) (refused-first _ c.args.x.strength c.args.x.group)

pub returns-then-x-gt-REQUIRED : goal.returns-then-x-gt-REQUIRED
returns-then-x-gt-REQUIRED c = rw c.in_ok-constraint.was (too-strong (shown (Ok c.in_ok-constraint.constraint)) c.args.x.strength c.args.x.group refl c.if-x-gt-REQUIRED.true)

pub returns-then-x : goal.returns-then-x
returns-then-x c = rw c.in_ok-constraint.was (no-group (shown (Ok c.in_ok-constraint.constraint)) c.args.x.strength c.args.x.group refl (omega arith) c.if-x.true)

pub overflow_cast-result : goal.overflow_cast-result
overflow_cast-result c = omega (arith, (is-group c.args.x.group c.if-x.false).1)

pub returns : goal.returns
returns c = rw c.in_ok-constraint.was (all-in-range (shown (Ok c.in_ok-constraint.constraint)) c.args.x.strength c.args.x.group refl (omega arith) c.if-x.false)
