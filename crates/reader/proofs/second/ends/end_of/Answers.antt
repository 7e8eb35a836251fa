use Rattle.std.proofs.lemmas.Result.{err_from_is_err_and}
use Rattle.std.proofs.Common.{◌≡◌, arith, sym, ◌∙◌, get_or}
use Rattle.std.proofs.lemmas.Bool.{false≢true}
use Rattle.reader.specs.Scan.{present}
use Rattle.reader.specs.second.Ends.{end_marked, end-astray, end_whole, end-not}
use Rattle.reader.proofs.second.ends.end_of.Goals as goal
use Rattle.reader.proofs.second.ends.end_of.Goals.{else-e-via-then-e+else-e-s, else-e-via-else-e}

pub returns-in_err-ending : goal.returns-in_err-ending
returns-in_err-ending c =
    let e : get_or c.args.s.now c.args.e.at 0 ≡ 64 = sym c.byte_at.ensures ∙ c.if-byte_at-eq64.true in
    let p = err_from_is_err_and c.from_residual.result c.from_residual.ensures.1 in rw (p.1, p.2) (end-astray c.args.s.now c.args.m c.args.e c.requires e (present c.args.s.now c.args.e.at (omega arith)) c.in_err-ending.ensures)

pub returns-then-byte_at-eq64 : goal.returns-then-byte_at-eq64
returns-then-byte_at-eq64 c =
    let e : get_or c.args.s.now c.args.e.at 0 ≡ 64 = sym c.byte_at.ensures ∙ c.if-byte_at-eq64.true in
    end_marked c.args.s.now c.args.m c.args.e c.requires e (present c.args.s.now c.args.e.at (omega arith)) c.in_ok-ending.ensures

pub returns-then-e-s : goal.returns-then-e-s
returns-then-e-s c = end_whole c.args.s.now c.args.m c.args.e c.requires c.if-e.true c.if-e-s.true

pub returns : goal.returns
returns c =
    end-not c.args.s.now c.args.m c.args.e c.requires (λ e. c.if-byte_at-eq64.false (c.byte_at.ensures ∙ e))
    (λ b a. elim c.else-e.branch [ else-e-via-then-e+else-e-s w ↦ w.if-e-s.false a | else-e-via-else-e w ↦ false≢true (sym w.if-e.false ∙ b) ])
