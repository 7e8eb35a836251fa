use Rattle.std.proofs.Common.{◌+◌, ◌<◌, ◌≤◌, [], ◌∷◌, ◌++◌, length, arith}
use Rattle.text.specs.Answers.{wrote_then, number_text, flag_text, decimal-short}
use Rattle.text.proofs.writing.put_answer.Goals as goal

pub put_byte-b-requires : goal.put_byte-b-requires
put_byte-b-requires c =
    let h : c.put_number-a.result < length c.put_number-a.new.out = omega (arith, c.put_number-a.ensures.0, c.put_number-a.ensures.1, c.requires, decimal-short 20 c.args.refusal) in
    h

pub put_number-c-requires : goal.put_number-c-requires
put_number-c-requires c =
    let h : c.put_byte-b.result + 20 ≤ length c.put_byte-b.new.out = omega (arith, c.put_byte-b.ensures.0, c.put_byte-b.ensures.1, c.put_number-a.ensures.0, c.put_number-a.ensures.1, c.requires, decimal-short 20 c.args.refusal) in
    h

pub put_byte-d-requires : goal.put_byte-d-requires
put_byte-d-requires c =
    let h : c.put_number-c.result < length c.put_number-c.new.out = omega (arith, c.put_number-c.ensures.0, c.put_number-c.ensures.1, c.put_byte-b.ensures.0, c.put_byte-b.ensures.1, c.put_number-a.ensures.0, c.put_number-a.ensures.1, c.requires, decimal-short 20 c.args.refusal, decimal-short 20 c.args.pivots) in
    h

pub put_flag-requires : goal.put_flag-requires
put_flag-requires c =
    let h : c.put_byte-d.result < length c.put_byte-d.new.out = omega (arith, c.put_byte-d.ensures.0, c.put_byte-d.ensures.1, c.put_number-c.ensures.0, c.put_number-c.ensures.1, c.put_byte-b.ensures.0, c.put_byte-b.ensures.1, c.put_number-a.ensures.0, c.put_number-a.ensures.1, c.requires, decimal-short 20 c.args.refusal, decimal-short 20 c.args.pivots) in
    h

pub returns : goal.returns
returns c = (wrote_then c.args.out.now c.put_number-a.new.out c.put_flag.new.out c.args.at c.put_number-a.result c.put_flag.result (number_text c.args.refusal) ((32 ∷ []) ++ ((number_text c.args.pivots) ++ ((32 ∷ []) ++ (flag_text c.args.whole)))) c.put_number-a.ensures (wrote_then c.put_number-a.new.out c.put_byte-b.new.out c.put_flag.new.out c.put_number-a.result c.put_byte-b.result c.put_flag.result (32 ∷ []) ((number_text c.args.pivots) ++ ((32 ∷ []) ++ (flag_text c.args.whole))) c.put_byte-b.ensures (wrote_then c.put_byte-b.new.out c.put_number-c.new.out c.put_flag.new.out c.put_byte-b.result c.put_number-c.result c.put_flag.result (number_text c.args.pivots) ((32 ∷ []) ++ (flag_text c.args.whole)) c.put_number-c.ensures (wrote_then c.put_number-c.new.out c.put_byte-d.new.out c.put_flag.new.out c.put_number-c.result c.put_byte-d.result c.put_flag.result (32 ∷ []) (flag_text c.args.whole) c.put_byte-d.ensures c.put_flag.ensures))))
