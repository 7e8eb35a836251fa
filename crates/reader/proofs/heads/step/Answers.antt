use Rattle.std.proofs.Common.{◌≡◌, arith, sym, ◌∙◌, get_or}
use Rattle.std.specs.Prelude.{Ok, Err}
use Rattle.std.proofs.lemmas.Result.{err_from_is_err_and}
use Rattle.reader.specs.Scan.{present}
use Rattle.reader.specs.Heads.{factor_of}
use Rattle.reader.specs.HeadLaws.{head_of, step-minus, step-open, step-letter, step-no-name, turn-skips}
use Rattle.reader.specs.declared.heads.Turn.TheVariants.{Ends, GoesOn}
use Rattle.reader.proofs.heads.step.Goals as goal

pub returns-then-b-eq45 : goal.returns-then-b-eq45
returns-then-b-eq45 c =
    let e : get_or c.args.s.now c.skip-i.result 0 ≡ 45 = sym c.byte_at-b.ensures ∙ c.if-b-eq45.true in
    turn-skips c.args.s.now c.args.at c.skip-i.result (factor_of c.args.f) (Ok (GoesOn _ _)) c.skip-i.ensures (step-minus c.args.s.now c.skip-i.result c.args.f c.requires.product_bound (present c.args.s.now c.skip-i.result (omega (arith, e))) e)

pub returns-then-b-eq40 : goal.returns-then-b-eq40
returns-then-b-eq40 c =
    let e : get_or c.args.s.now c.skip-i.result 0 ≡ 40 = sym c.byte_at-b.ensures ∙ c.if-b-eq40.true in
    turn-skips c.args.s.now c.args.at c.skip-i.result (factor_of c.args.f) (Ok (Ends _)) c.skip-i.ensures (step-open c.args.s.now c.skip-i.result c.args.f c.requires.product_bound (present c.args.s.now c.skip-i.result (omega (arith, e))) e)

pub returns-in_err-kind : goal.returns-in_err-kind
returns-in_err-kind c =
    let e : get_or c.args.s.now c.skip-i.result 0 ≡ 118 = sym c.byte_at-b.ensures ∙ c.if-b-eq118.true in
    let x = c.in_err-kind.field-0.0 in
    let p = err_from_is_err_and c.from_residual.result c.from_residual.ensures.1 in rw (p.1, p.2) (turn-skips c.args.s.now c.args.at c.skip-i.result (factor_of c.args.f) (Err x) c.skip-i.ensures (step-no-name c.args.s.now c.skip-i.result c.args.f c.requires.product_bound x (present c.args.s.now c.skip-i.result (omega (arith, e))) e c.in_err-kind.ensures))

pub returns-then-b-eq118 : goal.returns-then-b-eq118
returns-then-b-eq118 c =
    let e : get_or c.args.s.now c.skip-i.result 0 ≡ 118 = sym c.byte_at-b.ensures ∙ c.if-b-eq118.true in
    turn-skips c.args.s.now c.args.at c.skip-i.result (factor_of c.args.f) (Ok (Ends (head_of c.args.f c.in_ok-kind.kind))) c.skip-i.ensures (step-letter c.args.s.now c.skip-i.result c.args.f c.requires.product_bound (present c.args.s.now c.skip-i.result (omega (arith, e))) e c.in_ok-kind.ensures)

pub returns : goal.returns
returns c = turn-skips c.args.s.now c.args.at c.skip-i.result (factor_of c.args.f) c.number.result c.skip-i.ensures c.number.ensures
